-- Each test of the code is the rule's; a plain name passes them all, and the last one is the search for the child.
use mathlib.Core.Path.{sym}
use Rattle.utf8.proofs.Plain.{plain_formed, plain_no_zero, plain_no_dot, plain_no_dots}
use Rattle.pseudo_fs.proofs.Finds.{unknown_parent, byte_zero, bad_name, itself, its_parent, by_child}
use Rattle.pseudo_fs.proofs.inner.find.Goals as goal
use Rattle.pseudo_fs.proofs.inner.find.Goals.{then-has_byte-via-then-has_byte, then-has_byte-via-else-has_byte+then-not-is_utf8}

pub returns-then-not-is_known : goal.returns-then-not-is_known
returns-then-not-is_known c = unknown_parent _ _ _ (sym c.if-not-is_known.ensures)

pub returns-then-is_plain : goal.returns-then-is_plain
returns-then-is_plain c =
    let e = sym c.if-is_plain.ensures in
    by_child _ _ _ (sym c.if-not-is_known.ensures) (plain_no_zero _ e) (plain_formed _ e) (plain_no_dot _ e) (plain_no_dots _ e) _ c.child_in.ensures

pub returns-then-has_byte : goal.returns-then-has_byte
returns-then-has_byte c =
    elim c.then-has_byte.branch [
      | then-has_byte-via-then-has_byte w ↦ byte_zero _ _ _ (sym c.if-not-is_known.ensures) (sym w.if-has_byte.ensures)
      | then-has_byte-via-else-has_byte+then-not-is_utf8 w ↦ bad_name _ _ _ (sym c.if-not-is_known.ensures) (sym w.if-has_byte.ensures) (sym w.if-not-is_utf8.ensures)
    ]

pub returns-then-is_dot : goal.returns-then-is_dot
returns-then-is_dot c = itself _ _ _ (sym c.if-not-is_known.ensures) (sym c.if-has_byte.ensures) (sym c.if-not-is_utf8.ensures) (sym c.if-is_dot.ensures)

pub returns-then-is_dots : goal.returns-then-is_dots
returns-then-is_dots c =
    its_parent _ _ _ (sym c.if-not-is_known.ensures) (sym c.if-has_byte.ensures) (sym c.if-not-is_utf8.ensures) (sym c.if-is_dot.ensures) (sym c.if-is_dots.ensures) _ c.parent_of.ensures

pub returns : goal.returns
returns c =
    by_child _ _ _ (sym c.if-not-is_known.ensures) (sym c.if-has_byte.ensures) (sym c.if-not-is_utf8.ensures) (sym c.if-is_dot.ensures) (sym c.if-is_dots.ensures) _ c.child_in-2.ensures
