-- The tests are those of the rule, in their order. Assumes nothing.
use mathlib.Core.Path.{◌≡◌, sym, ap, ap₂, ◌∙◌}
use mathlib.Core.Bool.{not, ◌&&◌}
use Prim.Native.Nat.{ℕ}
use lib.Dec.{eqb, leb, ltb}
use lib.ListN.{length}
use borrow.Author.Tests.{le-leb, lt-leb}
use Rattle.le.specs.Mem.{get}
use Rattle.rules.specs.Numbers.{first_number, top_number}
use Rattle.rules.specs.Ids.{bad_mapping}
use Rattle.rules.specs.Create.{too_small, bad_options}
use Rattle.tables.specs.Layout.{mark, mark_at, known_at, table_at, capacity_of, count_of, next_of}
use Rattle.tables.specs.View.{options_from, head_of}
use Rattle.storage.proofs.Laid.{on, off, header_ruled, laid_tests}
use Rattle.storage.proofs.is_laid.Goals as goal
use Rattle.storage.proofs.is_laid.Goals.{Joined-get_u64-le-NUMBERS, then-s-ge-TABLE, else-s-ge-TABLE, then-get_u64-eq-MARK, else-get_u64-eq-MARK, then-not-is_small, else-not-is_small, then-get_u64, else-get_u64, then-get_u64-ge-PSEUDOFS_NEXT_INODE, else-get_u64-ge-PSEUDOFS_NEXT_INODE, then-get_u64-le-NUMBERS, else-get_u64-le-NUMBERS}

tests : (c : Joined-get_u64-le-NUMBERS) → c.if-get_u64-le-NUMBERS.value ≡ header_ruled c.args.s.now
tests c =
    let s = c.args.s.now in
    let a : c.if-s-ge-TABLE.value ≡ (leb table_at (length s) && eqb (get 8 s mark_at) mark) =
    elim c.if-s-ge-TABLE.branch [
      | then-s-ge-TABLE w ↦ on _ _ _ (le-leb _ _ w.if-s-ge-TABLE.true) (w.value-is ∙ ap (λ (x : ℕ). eqb x mark) w.get_u64.ensures)
      | else-s-ge-TABLE w ↦ off _ _ _ (lt-leb _ _ w.if-s-ge-TABLE.false) w.value-is
    ] in
    let b : c.if-get_u64-eq-MARK.value ≡ (c.if-s-ge-TABLE.value && not (too_small (length s) (capacity_of s))) =
    elim c.if-get_u64-eq-MARK.branch [
      | then-get_u64-eq-MARK w ↦ on _ _ _ w.if-get_u64-eq-MARK.true (w.value-is ∙ ap not (w.is_small.ensures ∙ ap (too_small (length s)) w.get_u64-then-get_u64-eq-MARK.ensures))
      | else-get_u64-eq-MARK w ↦ off _ _ _ w.if-get_u64-eq-MARK.false w.value-is
    ] in
    let d : c.if-not-is_small.value ≡ (c.if-get_u64-eq-MARK.value && ltb (count_of s) (capacity_of s)) =
    elim c.if-not-is_small.branch [
      | then-not-is_small w ↦ on _ _ _ w.if-not-is_small.true (w.value-is ∙ ap₂ ltb w.get_u64-then-not-is_small.ensures w.get_u64-then-not-is_small-2.ensures)
      | else-not-is_small w ↦ off _ _ _ w.if-not-is_small.false w.value-is
    ] in
    let e : c.if-get_u64.value ≡ (c.if-not-is_small.value && leb first_number (next_of s)) =
    elim c.if-get_u64.branch [
      | then-get_u64 w ↦ on _ _ _ w.if-get_u64.true (w.value-is ∙ ap (leb first_number) w.get_u64-then-get_u64.ensures)
      | else-get_u64 w ↦ off _ _ _ w.if-get_u64.false w.value-is
    ] in
    let f : c.if-get_u64-ge-PSEUDOFS_NEXT_INODE.value ≡ (c.if-get_u64.value && leb (next_of s) top_number) =
    elim c.if-get_u64-ge-PSEUDOFS_NEXT_INODE.branch [
      | then-get_u64-ge-PSEUDOFS_NEXT_INODE w ↦ on _ _ _ w.if-get_u64-ge-PSEUDOFS_NEXT_INODE.true (w.value-is ∙ ap (λ (x : ℕ). leb x top_number) w.get_u64-then-get_u64-ge-PSEUDOFS_NEXT_INODE.ensures)
      | else-get_u64-ge-PSEUDOFS_NEXT_INODE w ↦ off _ _ _ w.if-get_u64-ge-PSEUDOFS_NEXT_INODE.false w.value-is
    ] in
    let g : c.if-get_u64-le-NUMBERS.value ≡ (c.if-get_u64-ge-PSEUDOFS_NEXT_INODE.value && not (bad_options (get 8 s known_at) (options_from (head_of s)))) =
    elim c.if-get_u64-le-NUMBERS.branch [
      | then-get_u64-le-NUMBERS w ↦ on _ _ _ w.if-get_u64-le-NUMBERS.true (w.value-is ∙ ap not (w.has_bad_options.ensures ∙ ap₂ bad_options w.get_u64-then-get_u64-le-NUMBERS.ensures w.options_in.ensures))
      | else-get_u64-le-NUMBERS w ↦ off _ _ _ w.if-get_u64-le-NUMBERS.false w.value-is
    ] in
    rw (g, f, e, d, b, a)

pub returns-then-not-has_bad_options : goal.returns-then-not-has_bad_options
returns-then-not-has_bad_options c =
    on _ _ _ (sym (tests (goal.at.returns-then-not-has_bad_options c).Joined-get_u64-le-NUMBERS) ∙ c.if-not-has_bad_options.true) (ap not (c.is_bad.ensures ∙ ap bad_mapping c.mapping.ensures))
    ∙ sym (laid_tests _)

pub returns-else-not-has_bad_options : goal.returns-else-not-has_bad_options
returns-else-not-has_bad_options c =
    let t = tests (goal.at.returns-else-not-has_bad_options c).Joined-get_u64-le-NUMBERS in
    off _ _ _ (sym t ∙ c.if-not-has_bad_options.false) t ∙ sym (laid_tests _)
