-- The listing of a directory: records of its children, as many whole ones as there is room for.
use Rattle.std.specs.Prelude.{ℕ, ◌+◌, ◌-◌, ◌%◌, min, cond, not, List, [], ◌∷◌, ◌++◌, length, drop, replicate, eqb, leb}
use Rattle.rules.specs.Numbers.{NOENT}
use Rattle.rules.specs.Fields.{fields}
use Rattle.rules.specs.Tree.{Node, is_known, children_in}
use Rattle.rules.specs.Instance.{Instance}
use Rattle.rules.specs.Outcome.{Outcome, refused, writes, ◌⟹◌, first_of}

-- the zeros behind n bytes, up to a multiple of 8 (R64)
abbrev pub padding : ℕ → ℕ
padding n = (8 - n % 8) % 8

-- a fixed part, the name, and zeros to a multiple of 8 (R64)
unfoldable pub record_of : List ℕ → List ℕ → List ℕ
record_of front p = front ++ (p ++ replicate (padding (length front + length p)) 0)

-- node number, offset, name length, type (R64)
abbrev pub dirent_row : List ℕ
dirent_row = 8 ∷ 8 ∷ 4 ∷ 4 ∷ []

-- the directory entry of a node number, an offset and a name; its type is 0 (R64)
unfoldable pub dirent : ℕ → ℕ → List ℕ → List ℕ
dirent number offset p = record_of (fields dirent_row (number ∷ offset ∷ length p ∷ 0 ∷ [])) p

-- of the children from a place on; the offset of each is its place + 1 (R64)
unfoldable pub dirents_from : ℕ → List Node → List (List ℕ)
dirents_from place [] = []
dirents_from place (n ∷ ns) = dirent n.number (place + 1) n.name ∷ dirents_from (place + 1) ns

-- each record behind the one before it, whole ones only, stopping at the first that does not fit (R65)
unfoldable pub laid_records : ℕ → List (List ℕ) → List ℕ
laid_records room [] = []
laid_records room (r ∷ rs) = cond (leb (length r) room) (r ++ laid_records (room - length r) rs) []

-- a node number, the size asked for, the offset, and the length of the lent buffer (R60, R66)
pub record ListRequest : Type 0 where
  pub node : ℕ
  pub size : ℕ
  pub offset : ℕ
  pub buffer : ℕ

-- size 0 is done with nothing; an unknown node is NOENT; else the records from the offset on, none where it is past the children (R63 to R66)
unfoldable pub list_rule : Instance → ListRequest → Outcome
list_rule i q =
    first_of
    ((eqb q.size 0 ⟹ writes [] i)
    ∷ (not (is_known i.tree.nodes q.node) ⟹ refused NOENT i)
    ∷ [])
    (writes (laid_records (min q.size q.buffer) (dirents_from q.offset (drop q.offset (children_in i.tree.nodes q.node)))) i)
