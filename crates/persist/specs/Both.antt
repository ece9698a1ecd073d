-- Demand 2 of save and restore on bytes, over the contracts: what comes back, that no other bytes are accepted for it, and what a refusal leaves.
use Rattle.std.specs.Prelude.{◌≡◌, true, List, ◌++◌, ℕ, ◌≤◌, length, take, drop, Result, Ok}
use Rattle.rules.specs.declared.codes.VfsError.{VfsError}
use Rattle.rules.specs.Bytes.{Bytes}
use Rattle.rules.specs.Instance.{Instance, counter_of, live}
use Rattle.rules.specs.StateRestore.{fresh}
use Rattle.rules.specs.claims.Driven.{Driven, Present}
use Rattle.rules.specs.claims.SaveThenRestore.{bare_tree}
use Rattle.tables.specs.View.{view}
use Rattle.tables.specs.Laid.{laid}
use Rattle.persist.specs.Saving.{Saves}
use Rattle.persist.specs.StateRestoring.{RestoresState}

-- the restore is done, and the storage stands for the tree without its mounts, the next number, the counter and the options
pub record StateBack (i : Instance) (r : Result (Unit {0}) VfsError) (after : List ℕ) : Type 0 where
  pub done : r ≡ Ok tt
  pub keeps : laid after ≡ true
  pub tree : (view after).tree ≡ bare_tree i.tree
  pub counter : counter_of (view after) ≡ counter_of i
  pub options : (view after).options ≡ i.options

-- what a save wrote of a driven instance with all parents present comes back in any fresh one with room and the same mask (R135)
abbrev pub ComesBack : Type 0
ComesBack = (mem d : List ℕ) (n : ℕ) (e new : List ℕ) (r : Result (Unit {0}) VfsError) (after : List ℕ) → Saves mem d (Ok n) e → Driven (view mem) → Present (view mem).tree.nodes (view mem).tree.nodes
    → laid new ≡ true → fresh (view new) ≡ true → (view new).fixed.known ≡ (view mem).fixed.known → live (view mem) ≤ (view new).fixed.capacity → RestoresState new (take n e) r after
    → StateBack (view mem) r after

-- a save at once after a done restore writes what was read, at the start of a lent output that has room for it (R136)
abbrev pub SavedAgain : Type 0
SavedAgain = (mem b after : List ℕ) → Bytes b → RestoresState mem b (Ok tt) after → (d : List ℕ) (r : Result ℕ VfsError) (e : List ℕ) → length b ≤ length d → Saves after d r e
    → (r ≡ Ok (length b)) × (e ≡ b ++ drop (length b) d)

-- a refused restore leaves every byte (R15, R128)
abbrev pub RefusedUnchanged : Type 0
RefusedUnchanged = (mem b : List ℕ) (r : Result (Unit {0}) VfsError) (after : List ℕ) → RestoresState mem b r after → (r ≡ Ok tt → ⊥) → after ≡ mem
