-- `index::take` does what the rule says of the search's answer. Assumes nothing.
use Rattle.std.proofs.Common.{◌≡◌, ℕ, ap, subst}
use Rattle.std.specs.Prelude.{Option}
use Rattle.rules.specs.Round.{allocate}
use Rattle.index.specs.Slots.{held_in_column}
use Rattle.index.specs.Search.{search_told}
use Rattle.index.specs.Take.{Taken, taken_of, take_rule, Steps}
use Rattle.index.specs.declared.FsIndexes.{FsIndexes}
use Rattle.index.specs.declared.Allocated.{Allocated}
use Rattle.index.proofs.take.Goals as goal

-- what is answered and what lies there after it, by what the search found, are what the rule says
module _ (t : FsIndexes) (tag : ℕ) (a : Allocated) (search : a ≡ search_told (allocate (held_in_column t.used) t.next_super)) where
  abbrev taken : Option ℕ → Taken
  taken o = taken_of t tag (record a { answer = o })

  stepped : (o : Option ℕ) → a.answer ≡ o → Steps t tag (taken o).answer (taken o).table
  unfolding take_rule
  stepped o e = subst (λ (o : Option ℕ). Steps t tag (taken o).answer (taken o).table) e (record { answer = ap (λ (b : Allocated). (taken_of t tag b).answer) search; table = ap (λ (b : Allocated). (taken_of t tag b).table) search })

pub returns-in-Some : goal.returns-in-Some
returns-in-Some c = stepped _ _ _ c.allocate_fs_idx-a.ensures _ c.in-Some.is

pub returns-in-None : goal.returns-in-None
returns-in-None c = rw c.code.ensures (stepped _ _ _ c.allocate_fs_idx-a.ensures _ c.in-None.is)
