-- The layout rule, test by test: where one fails the rule does. And what it means for the answer of a call. Assumes nothing.
use mathlib.Core.Path.{◌≡◌, sym, ap, ◌∙◌}
use mathlib.Core.Bool.{Bool, true, false, not, ◌&&◌, and-true, and_assoc}
use mathlib.Core.List.{List}
use Prim.Native.Nat.{ℕ}
use lib.ListN.{length}
use borrow.Author.Tests.{not-true, not-false}
use lib.Dec.{eqb, leb, ltb}
use Rattle.le.specs.Mem.{get}
use Rattle.rules.specs.Numbers.{first_number, top_number}
use Rattle.rules.specs.Ids.{bad_mapping}
use Rattle.rules.specs.Create.{too_small, bad_options}
use Rattle.rules.specs.Instance.{Instance}
use Rattle.rules.specs.Outcome.{Outcome}
use Rattle.rules.specs.Tests.{every}
use Rattle.tables.specs.Table.{row}
use Rattle.tables.specs.Layout.{table_at, mark_at, known_at, mark, capacity_of, count_of, next_of, mapping_field}
use Rattle.tables.specs.View.{mapping_from, options_from, head_of, view}
use Rattle.tables.specs.Laid.{laid_by, laid, Bounds}
use Rattle.call_form.specs.Form.{Told, told_by, told_small, answered_by}
use Rattle.tables.proofs.Keeps.{laid_is}

-- ---- the tests of the rule

-- a test behind another
pub on : (u v t : Bool) → u ≡ true → v ≡ t → v ≡ (u && t)
on u v t a b = rw a b

pub off : (u v t : Bool) → u ≡ false → v ≡ u → v ≡ (u && t)
off u v t a b = b ∙ rw a

module _ (mem : List ℕ) where
  -- all but the last, in their order
  abbrev pub header_ruled : Bool
  header_ruled =
      leb table_at (length mem) && eqb (get 8 mem mark_at) mark && not (too_small (length mem) (capacity_of mem)) && ltb (count_of mem) (capacity_of mem)
      && leb first_number (next_of mem) && leb (next_of mem) top_number && not (bad_options (get 8 mem known_at) (options_from (head_of mem)))

  pub laid_tests : laid mem ≡ (header_ruled && not (bad_mapping (mapping_from mapping_field (head_of mem))))
  unfolding laid laid_by row get every
  laid_tests = simp (and_assoc, and-true)

  -- ---- the answer of a call

  pub told_small_lem : (f : Instance → Outcome) → laid mem ≡ false → answered_by mem f ≡ told_small
  unfolding answered_by
  told_small_lem f e = rw e

  pub told_by_lem : (f : Instance → Outcome) → laid mem ≡ true → answered_by mem f ≡ told_by (f (view mem))
  unfolding answered_by
  told_by_lem f e = rw e

  -- a call that only reads, which found the rule kept, tells what its own rule gives
  pub tells_by : (f : Instance → Outcome) (t : Told) (o : Outcome) → laid mem ≡ true → t ≡ told_by o → f (view mem) ≡ o → t ≡ answered_by mem f
  tells_by f t o e a b = a ∙ (ap told_by (sym b) ∙ sym (told_by_lem f e))

  -- which tested the rule, with the answer l, and tells SMALL
  pub tells_small : (l : Bool) → l ≡ laid mem → (f : Instance → Outcome) → not l ≡ true → told_small ≡ answered_by mem f
  tells_small l e f t = sym (told_small_lem f (sym e ∙ not-true l t))

-- ---- a call that tested the rule, with the answer l, and goes on

module _ (mem : List ℕ) (l : Bool) (le : l ≡ laid mem) (on : not l ≡ false) where
  pub laid_by_lem : laid mem ≡ true
  laid_by_lem = sym le ∙ not-false l on

  pub rule_by : Bounds mem
  rule_by = laid_is mem laid_by_lem
