-- Demand 2 of save and restore on instances: what comes back and what does not, that no other bytes are accepted for it, and how long it can be.
use Rattle.std.specs.Prelude.{ℕ, ◌≤◌, true, List, ◌≡◌, length, None}
use Rattle.rules.specs.Numbers.{max_saved, BADSAVE}
use Rattle.rules.specs.Bytes.{Bytes}
use Rattle.rules.specs.Instance.{Tree, Instance, counter_of, live}
use Rattle.rules.specs.Outcome.{Outcome, refused}
use Rattle.rules.specs.Saved.{encode}
use Rattle.rules.specs.StateRestore.{saved_nodes, nodes_of_records, saved_state, fresh, restore_state_rule}
use Rattle.rules.specs.claims.Driven.{Driven, Present}

-- the tree without its mounts (R127)
abbrev pub bare_tree : Tree → Tree
bare_tree t = record { next = t.next; root = None; nodes = nodes_of_records (saved_nodes t.nodes) }

-- a restore is done, and gives back tree and next number, counter, and options (R135)
pub record GivesBack (i : Instance) (o : Outcome) : Type 0 where
  pub done : o.code ≡ 0
  pub tree : o.after.tree ≡ bare_tree i.tree
  pub counter : counter_of o.after ≡ counter_of i
  pub options : o.after.options ≡ i.options

-- into any fresh instance with room and the same mask, from any driven one whose parents are all present (R135)
abbrev pub SaveThenRestore : Type 0
SaveThenRestore = (i j : Instance) → Driven i → Present i.tree.nodes i.tree.nodes → fresh j ≡ true → j.fixed.known ≡ i.fixed.known → live i ≤ j.fixed.capacity
    → GivesBack i (restore_state_rule j (encode (saved_state i)))

-- where a parent is gone the saved bytes are BADSAVE to every fresh instance, whatever its room and its mask (R102)
abbrev pub GoneIsBadSave : Type 0
GoneIsBadSave = (i j : Instance) → Driven i → (Present i.tree.nodes i.tree.nodes → ⊥) → fresh j ≡ true → restore_state_rule j (encode (saved_state i)) ≡ refused BADSAVE j

-- what a done restore read is what a save writes at once (R136)
abbrev pub RestoreThenSave : Type 0
RestoreThenSave = (j : Instance) (b : List ℕ) → Bytes b → (restore_state_rule j b).code ≡ 0 → encode (saved_state (restore_state_rule j b).after) ≡ b

-- no state is longer (R124)
abbrev pub NoLonger : Type 0
NoLonger = (i : Instance) → Driven i → length (encode (saved_state i)) ≤ max_saved
