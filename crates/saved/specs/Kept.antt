-- What is kept of the first records, and what their keys say.
use Rattle.std.specs.Prelude.{◌≡◌, ℕ, ◌+◌, ◌-◌, ◌%◌, ◌^◌, ◌<◌, Bool, ◌||◌, List, length, get_or, ◌==◌}
use Rattle.std.specs.List.{list_any}
use Rattle.rules.specs.Numbers.{root_number}
use Rattle.rules.specs.Fields.{get}
use Rattle.rules.specs.Saved.{saved_node_at, behind}
use Rattle.saved.specs.Scan.{start_of}
use Rattle.saved.specs.declared.Kept.{Kept}

-- the parent and the last eight bytes of the record at a place, added: equal for records with one parent and equal names
unfoldable pub key_at : List ℕ → ℕ → ℕ
key_at b at = ((saved_node_at b at).parent + get 8 b (behind b at - 8)) % 2 ^ 64

-- what is kept of record j
abbrev pub kept_of : List ℕ → ℕ → Kept
kept_of b j = let at = start_of b j in record { start = at; number = (saved_node_at b at).number; key = key_at b at }

-- the first n are what is kept of the records of their places
abbrev pub KeepsBelow : List ℕ → ℕ → List Kept → Type 0
KeepsBelow b n rs = (j : ℕ) → j < n → (d : Kept) → get_or rs j d ≡ kept_of b j

-- each is
abbrev pub KeepsRecords : List ℕ → List Kept → Type 0
KeepsRecords b rs = KeepsBelow b (length rs) rs

-- a number is the root's or that of one of these records (R129 i)
unfoldable pub listed : ℕ → List Kept → Bool
listed x rs = x == root_number || list_any (λ r. r.number == x) rs
