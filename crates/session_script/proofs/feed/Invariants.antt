-- Up to a place, what the rest leads to is what the whole piece leads to.
use Prim.Native.Nat.{◌-◌}
use mathlib.Core.Path.{◌≡◌}
use lib.ListN.{length}
use Rattle.session_script.proofs.Going.{SoFar}
use Rattle.session_script.proofs.feed.Given as goal

abbrev pub invariant-loop-used : goal.invariant-loop-used
invariant-loop-used l = record {
  so_far : SoFar l.initial.s l.initial.line.carry.now l.initial.line.kept l.piece l.initial.text.out.now l.s l.line.carry.now l.text l.line.kept l.used;
  same_carry : l.line.carry.ghost_name ≡ l.initial.line.carry.ghost_name;
  same_out : l.text.out.ghost_name ≡ l.initial.text.out.ghost_name;
}

abbrev pub decreases-loop-used : goal.decreases-loop-used
decreases-loop-used l = length l.piece - l.used
