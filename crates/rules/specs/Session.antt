-- A session: a line of text in, a line of text out.
use Rattle.std.specs.Prelude.{ℕ, zero, suc, ◌+◌, ◌-◌, ◌*◌, ◌/◌, ◌%◌, ◌^◌, Bool, true, false, cond, not, ◌&&◌, ◌||◌, List, [], ◌∷◌, ◌++◌, length, leb, ltb, Option, None, Some}
use Rattle.rules.specs.Numbers.{max_line, dir_mode, or_zero}
use Rattle.rules.specs.Bytes.{same, ascii}
use Rattle.rules.specs.Path.{parts_by, joined_by}
use Rattle.rules.specs.Tree.{onward}
use Rattle.rules.specs.Instance.{Instance}
use Rattle.rules.specs.Mount.{Request}
use Rattle.rules.specs.Outcome.{Answer, nothing, mounted, restored_mount, unmounted, walked, rootfs, to_tree, to_backend, entry, ids, wrote, settings, truth, Outcome, count}
use Rattle.rules.specs.Calls.{mount as mount-call, umount as umount-call, ask, path_walk, route, lookup, rule}

-- the byte between fields (R146)
abbrev pub space : ℕ
space = 32

-- ---- numbers: digits judged by value, leading zeros to any length, no sign

-- an ASCII digit (R148)
unfoldable pub is_digit : ℕ → Bool
is_digit b = leb 48 b && leb b 57

-- nothing but digits (R148)
unfoldable pub all_digits : List ℕ → Bool
all_digits [] = true
all_digits (b ∷ s) = is_digit b && all_digits s

-- the number that digits spell behind a number that was spelt before them (R148)
unfoldable pub spelt : ℕ → List ℕ → ℕ
spelt n [] = n
spelt n (b ∷ s) = spelt (n * 10 + (b - 48)) s

-- a number of so many bits, where it is one (R148, R149)
unfoldable pub number : ℕ → List ℕ → Option ℕ
number bits s = cond (not (same s []) && all_digits s && ltb (spelt 0 s) (2 ^ bits)) (Some (spelt 0 s)) None

-- the decimal digits of a number that has at most k of them, without leading zeros (R152)
unfoldable pub digits : ℕ → ℕ → List ℕ
digits zero n = []
digits (suc k) n = cond (ltb n 10) ((48 + n) ∷ []) (digits k (n / 10) ++ ((48 + n % 10) ∷ []))

-- numbers of 64 bits have at most 20 (R152)
unfoldable pub decimal : ℕ → List ℕ
decimal n = digits 20 n

-- ---- a line in

-- the fields between single spaces (R146)
abbrev pub words : List ℕ → List (List ℕ)
words s = parts_by space s

-- a field is empty: a leading, trailing or double space (R146)
unfoldable pub any_empty : List (List ℕ) → Bool
any_empty [] = false
any_empty (w ∷ ws) = same w [] || any_empty ws

-- the four forms of a line (R138 to R141)
pub data Line : Type 0 where
  mount : List ℕ → ℕ → ℕ → ℕ → Line
  umount : List ℕ → Line
  walk : List ℕ → Line
  look : ℕ → List ℕ → Line

-- a mount line, where its three numbers are numbers (R138, R149)
abbrev pub mount_line : List ℕ → Option ℕ → Option ℕ → Option ℕ → Option Line
mount_line path tag root largest =
    onward tag (λ (t : ℕ). onward root (λ (r : ℕ). onward largest (λ (m : ℕ). Some (mount path t r m))))

-- by its fields: mount PATH TAG ROOT MAX, umount PATH, walk PATH, look NODE NAME; TAG has 32 bits, the others 64 (R138 to R141, R147, R149)
unfoldable pub line_of : List (List ℕ) → Option Line
line_of [] = None
line_of (v ∷ []) = None
line_of (v ∷ p ∷ []) = cond (same v (ascii "umount")) (Some (umount p)) (cond (same v (ascii "walk")) (Some (walk p)) None)
line_of (v ∷ x ∷ p ∷ []) = cond (same v (ascii "look")) (onward (number 64 x) (λ (n : ℕ). Some (look n p))) None
line_of (v ∷ a ∷ b ∷ c ∷ []) = None
line_of (v ∷ p ∷ t ∷ r ∷ m ∷ []) = cond (same v (ascii "mount")) (mount_line p (number 32 t) (number 64 r) (number 64 m)) None
line_of (v ∷ a ∷ b ∷ c ∷ d ∷ e ∷ fs) = None

-- over 8,192 bytes, or of another form: none (R145, R150)
unfoldable pub parsed : List ℕ → Option Line
parsed s = cond (ltb max_line (length s) || any_empty (words s)) None (line_of (words s))

-- ---- a line out

-- by single spaces (R152)
unfoldable pub joined : List (List ℕ) → List ℕ
joined ws = joined_by space ws

-- each as a decimal (R152)
unfoldable pub numbers : List ℕ → List (List ℕ)
numbers [] = []
numbers (n ∷ ns) = decimal n ∷ numbers ns

-- an answer line of numbers (R152)
unfoldable pub text_of : List ℕ → List ℕ
text_of ns = joined (numbers ns)

-- the answer line, and the instance after (R137)
pub record Reply : Type 0 where
  pub text : List ℕ
  pub instance : Instance

-- what a line shows of an answer behind its number; a missing name is 0, and a refusal has none (R138 to R141)
unfoldable pub values : Answer → List ℕ
values nothing = []
values (mounted k t) = k ∷ []
values (restored_mount a b) = []
values (unmounted x p t) = x ∷ p ∷ []
values (walked x) = or_zero x ∷ []
values (rootfs r) = []
values (to_tree x) = []
values (to_backend t k x) = []
values (entry x mode uid gid size) = x ∷ []
values (ids u g) = []
values (wrote n) = []
values (settings o) = []
values (truth b) = []

-- the first k values, zeros where there are none (R144)
unfoldable pub shown : ℕ → List ℕ → List ℕ
shown zero vs = []
shown (suc k) [] = 0 ∷ shown k []
shown (suc k) (v ∷ vs) = v ∷ shown k vs

-- code, k values, and more (R144)
abbrev pub reply : ℕ → List ℕ → Outcome → Reply
reply k more o = record { text = text_of (o.code ∷ (shown k (values o.answer) ++ more)); instance = o.after }

-- ids 0 and mode 16895 (R138)
abbrev pub line_request : List ℕ → ℕ → ℕ → ℕ → Request
line_request path tag root largest = record { path = path; tag = tag; root = root; largest = largest; uid = 0; gid = 0; mode = dir_mode }

-- a look goes where the route goes: to the tree, or to a backend, which gives r, tag and number (R141, R142, R143)
unfoldable pub routed : Instance → List ℕ → Outcome → Answer → Reply
routed i p o nothing = reply 1 [] o
routed i p o (mounted k t) = reply 1 [] o
routed i p o (restored_mount a b) = reply 1 [] o
routed i p o (unmounted x q t) = reply 1 [] o
routed i p o (walked x) = reply 1 [] o
routed i p o (rootfs r) = reply 1 [] o
routed i p o (to_tree x) = reply 1 [] (rule i (ask (lookup x p)))
routed i p o (to_backend t k x) = record { text = joined (ascii "r" ∷ numbers (t ∷ x ∷ [])); instance = i }
routed i p o (entry x mode uid gid size) = reply 1 [] o
routed i p o (ids u g) = reply 1 [] o
routed i p o (wrote n) = reply 1 [] o
routed i p o (settings s) = reply 1 [] o
routed i p o (truth b) = reply 1 [] o

-- mount answers code, index, count; umount code, node, parent; walk code, node; look code, full number (R138 to R141)
unfoldable pub line_reply : Instance → Line → Reply
line_reply i (mount path tag root largest) =
    let o = rule i (mount-call (line_request path tag root largest)) in
    reply 1 (count o ∷ []) o
line_reply i (umount path) = reply 2 [] (rule i (umount-call path))
line_reply i (walk path) = reply 1 [] (rule i (ask (path_walk path)))
line_reply i (look x p) = routed i p (rule i (ask (route x))) (rule i (ask (route x))).answer

-- a line of no such form answers `?` and changes nothing (R145)
unfoldable pub answers : Instance → Option Line → Reply
answers i None = record { text = ascii "?"; instance = i }
answers i (Some l) = line_reply i l

-- one line in, one line out, and the instance after (R137)
unfoldable pub reply_to : Instance → List ℕ → Reply
reply_to i s = answers i (parsed s)
