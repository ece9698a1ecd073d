-- Saved state both ways: what is claimed of writing and reading it, and of its length.
use Rattle.std.specs.Prelude.{ℕ, ◌^◌, ◌≤◌, ◌<◌, true, List, [], ◌∷◌, ◌≡◌, length}
use Rattle.rules.specs.Numbers.{max_name, max_saved}
use Rattle.rules.specs.Bytes.{Bytes}
use Rattle.rules.specs.Instance.{Options, flag_limit}
use Rattle.rules.specs.Create.{Creation, new_instance}
use Rattle.rules.specs.Saved.{SavedNode, State, nodes_bytes, encode, state_of, valid, accepted}
use Rattle.rules.specs.StateRestore.{saved_state}

-- ---- each field within its width

-- the fields of a record (R120)
pub record SavedNodeFits (n : SavedNode) : Type 0 where
  pub number : n.number < 2 ^ 64
  pub parent : n.parent < 2 ^ 64
  pub name : length n.name < 2 ^ 16

-- of every record (R120)
unfoldable pub SavedNodesFit : List SavedNode → Type 0
SavedNodesFit [] = Unit {0}
SavedNodesFit (n ∷ ns) = SavedNodeFits n × SavedNodesFit ns

-- the fields of the options; flags 6 and 7 are unset (R121, R129 f)
pub record OptionsFit (o : Options) : Type 0 where
  pub in_opts : o.in_opts < 2 ^ 64
  pub out_opts : o.out_opts < 2 ^ 64
  pub internal : o.mapping.internal < 2 ^ 32
  pub external : o.mapping.external < 2 ^ 32
  pub range : o.mapping.range < 2 ^ 32
  pub flags : o.flags < flag_limit

-- the fields of the whole (R120, R121, R123)
pub record Fits (s : State) : Type 0 where
  pub nodes : SavedNodesFit s.nodes
  pub options : OptionsFit s.options
  pub offset : length (nodes_bytes s.nodes) < 2 ^ 32
  pub count : length s.nodes < 2 ^ 32
  pub next : s.next < 2 ^ 64
  pub counter : s.counter < 256

-- ---- the claims

-- what was written is accepted, and read again (R135)
abbrev pub ThereAndBack : Type 0
ThereAndBack = (s : State) → Fits s → valid s ≡ true → (accepted (encode s) ≡ true) × (state_of (encode s) ≡ s)

-- the bytes are what is written for the state, and the state is a good one (R136)
pub record Only (b : List ℕ) (s : State) : Type 0 where
  pub bytes : b ≡ encode s
  pub fits : Fits s
  pub good : valid s ≡ true

-- no other bytes are accepted for a state (R136)
abbrev pub NoOther : Type 0
NoOther = (b : List ℕ) → Bytes b → accepted b ≡ true → Only b (state_of b)

-- a fresh state has 56 bytes (R124)
abbrev pub FreshLength : Type 0
FreshLength = (q : Creation) → length (encode (saved_state (new_instance q))) ≡ 56

-- each name has at most n bytes
unfoldable pub NamesTo : ℕ → List SavedNode → Type 0
NamesTo n [] = Unit {0}
NamesTo n (e ∷ es) = (length e.name ≤ n) × NamesTo n es

-- each name has n bytes
unfoldable pub NamesOf : ℕ → List SavedNode → Type 0
NamesOf n [] = Unit {0}
NamesOf n (e ∷ es) = (length e.name ≡ n) × NamesOf n es

-- 1,023 nodes and the root, with names of 255 bytes, are the longest (R124)
pub record Longest : Type 0 where
  pub most : (s : State) → length s.nodes ≤ 1023 → NamesTo max_name s.nodes → length (encode s) ≤ max_saved
  pub exact : (s : State) → length s.nodes ≡ 1023 → NamesOf max_name s.nodes → length (encode s) ≡ max_saved
