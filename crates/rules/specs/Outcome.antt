-- What a call gives, and ordered rows of tests: the first row that applies decides.
use Rattle.std.specs.Prelude.{ℕ, Bool, cond, List, [], ◌∷◌, length, Option, None}
use Rattle.rules.specs.Instance.{Options, Instance}

-- the values of an answer
pub data Answer : Type 0 where
  -- none: what a refusal carries (R16)
  nothing : Answer
  -- the index, and the tag replaced or none (R75, R78)
  mounted : ℕ → Option ℕ → Answer
  -- the tag replaced on the node, and the tag displaced from the slot (R93)
  restored_mount : Option ℕ → Option ℕ → Answer
  -- the node, its parent, and the tag released or none (R97)
  unmounted : ℕ → ℕ → Option ℕ → Answer
  -- a node, or none (R47)
  walked : Option ℕ → Answer
  -- tag and index, or none (R103)
  rootfs : Option (ℕ × ℕ) → Answer
  -- the tree, with the node's number (R105)
  to_tree : ℕ → Answer
  -- a backend: tag, index, number (R105, R106)
  to_backend : ℕ → ℕ → ℕ → Answer
  -- full number, mode, uid, gid, block size (R13, R108, R109)
  entry : ℕ → ℕ → ℕ → ℕ → ℕ → Answer
  -- uid, gid (R118)
  ids : ℕ → ℕ → Answer
  -- how many bytes were written (R66, R125)
  wrote : ℕ → Answer
  -- the options (R27, R33)
  settings : Options → Answer
  -- whether it is initialized (R33, R134)
  truth : Bool → Answer

-- the refusal number or 0 (R15); the values; the indexes that the call's allocation visited (R82), and the one that it found, handed out also where
-- the call is then refused (R85); the bytes laid at the start of the lent output, none where it is refused (R17); the instance after
pub record Outcome : Type 0 where
  pub code : ℕ
  pub answer : Answer
  pub visits : List ℕ
  pub found : Option ℕ
  pub written : List ℕ
  pub after : Instance

-- the count of steps: the length of the visited list (R82)
abbrev pub count : Outcome → ℕ
count o = length o.visits

-- refused: every value none, nothing written, everything as it was (R15, R16, R17)
abbrev pub refused : ℕ → Instance → Outcome
refused code i = record { code = code; answer = nothing; visits = []; found = None; written = []; after = i }

-- done, with these values
abbrev pub says : Answer → Instance → Outcome
says a i = record { code = 0; answer = a; visits = []; found = None; written = []; after = i }

-- done, with bytes laid down, and their number answered (R66, R125)
abbrev pub writes : List ℕ → Instance → Outcome
writes bs i = record { code = 0; answer = wrote (length bs); visits = []; found = None; written = bs; after = i }

-- ---- rows

-- a test, and what is given where it is the first that applies (R18)
pub record Row (A : Type 0) : Type 0 where
  pub applies : Bool
  pub gives : A

infix 20 ◌⟹◌
-- a row
abbrev pub ◌⟹◌ : {A : Type 0} → Bool → A → Row A
b ⟹ o = record { applies = b; gives = o }

-- the first row that applies; the last resort where none does (R18)
unfoldable pub first_of : {A : Type 0} → List (Row A) → A → A
first_of [] o = o
first_of (r ∷ rs) o = cond r.applies r.gives (first_of rs o)
