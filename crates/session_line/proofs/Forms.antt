-- What the fields of a line make of it, one after another. Assumes nothing.
use Prim.Native.Nat.{ℕ, ◌≤◌, ◌<◌}
use native.Mathlib.Omega.{arith}
use mathlib.Core.Path.{◌≡◌, refl, sym, ap, ◌∙◌, subst}
use mathlib.Core.Bool.{Bool, true, false, cond, not, ◌&&◌}
use mathlib.Core.List.{List, [], ◌∷◌}
use lib.ListN.{length}
use lib.Dec.{eqb, leb, ltb}
use borrow.Author.Tests.{leb-true, lt-ltb, le-ltb}
use Rattle.std.specs.Prelude.{Option, None, Some}
use Rattle.std.specs.Str.{bytes_eq}
use Rattle.std.proofs.lemmas.Slice.Eq.{bytes_eq-Decides}
use Rattle.rules.specs.Bytes.{same, ascii}
use Rattle.rules.specs.Tree.{onward}
use Rattle.rules.proofs.Tests.{and_both}
use Rattle.rules.specs.Session.{words, all_digits, spelt, number, any_empty, Line, mount, umount, walk, look, line_of, parsed}
use Rattle.session_line.specs.declared.parsing.TheConstants.{UMOUNT, WALK, LOOK, MOUNT}
use Rattle.decimal.specs.Read.{number_to}
use Rattle.session_line.specs.Fields.{first, only, look_by, mount_by, form_by}
use Rattle.decimal.proofs.Steps.{some_by, of_width}

-- the same, whatever the test says
pub either : {A : Type 0} (t : Bool) (x : A) → cond t x x ≡ x
either true x = refl
either false x = refl

-- ---- numbers and the fields behind them

-- where no line comes of any number there is none
no_number : (x : Option ℕ) (ws : List (List ℕ)) (f : ℕ × List (List ℕ) → Option Line) → ((v : ℕ) → f (v, ws) ≡ None) → onward (onward x (λ v. Some (v, ws))) f ≡ None
no_number None ws f h = refl
no_number (Some v) ws f h = h v

-- a number, and what comes of it by the fields behind it
some_number : (x : Option ℕ) (ws : List (List ℕ)) (f : ℕ × List (List ℕ) → Option Line) (g : ℕ → Option Line) → ((v : ℕ) → f (v, ws) ≡ g v) → onward (onward x (λ v. Some (v, ws))) f ≡ onward x g
some_number None ws f g h = refl
some_number (Some v) ws f g h = h v

of_32 : (s : List ℕ) → number 32 s ≡ number_to 4294967295 s
of_32 s = sym (of_width 32 4294967295 (omega arith) s)

of_64 : (s : List ℕ) → number 64 s ≡ number_to 18446744073709551615 s
of_64 s = sym (of_width 64 18446744073709551615 (omega arith) s)

-- ---- the fields behind each verb

abbrev formed : List ℕ → List (List ℕ) → Option Line
formed v us = cond (any_empty us) None (line_of (v ∷ us))

-- two or more fields behind a verb of one
more_none : (v : List ℕ) → same v LOOK.now ≡ false → same v MOUNT.now ≡ false → (p q : List ℕ) (us : List (List ℕ)) → line_of (v ∷ p ∷ q ∷ us) ≡ None
unfolding line_of ascii
more_none v e f p q [] = rw e
more_none v e f p q (r ∷ []) = refl
more_none v e f p q (r ∷ s ∷ []) = rw f
more_none v e f p q (r ∷ s ∷ t ∷ us) = refl

umounts : (us : List (List ℕ)) → formed UMOUNT.now us ≡ onward (only us) (λ p. Some (umount p))
unfolding any_empty line_of same ascii
umounts [] = refl
umounts ([] ∷ us) = refl
umounts ((x ∷ p) ∷ []) = refl
umounts ((x ∷ p) ∷ q ∷ us) = rw (more_none UMOUNT.now refl refl (x ∷ p) q us) (either (any_empty ((x ∷ p) ∷ q ∷ us)) None)

walks : (us : List (List ℕ)) → formed WALK.now us ≡ onward (only us) (λ p. Some (walk p))
unfolding any_empty line_of same ascii
walks [] = refl
walks ([] ∷ us) = refl
walks ((x ∷ p) ∷ []) = refl
walks ((x ∷ p) ∷ q ∷ us) = rw (more_none WALK.now refl refl (x ∷ p) q us) (either (any_empty ((x ∷ p) ∷ q ∷ us)) None)

look_more : (a b c : List ℕ) (us : List (List ℕ)) → line_of (LOOK.now ∷ a ∷ b ∷ c ∷ us) ≡ None
unfolding line_of same ascii
look_more a b c [] = refl
look_more a b c (d ∷ []) = refl
look_more a b c (d ∷ e ∷ us) = refl

looks : (us : List (List ℕ)) → formed LOOK.now us ≡ look_by us
unfolding any_empty line_of same ascii
looks [] = refl
looks ([] ∷ us) = refl
looks ((y ∷ x) ∷ []) = sym (no_number (number_to 18446744073709551615 (y ∷ x)) _ _ (λ v. refl))
looks ((y ∷ x) ∷ [] ∷ us) = sym (no_number (number_to 18446744073709551615 (y ∷ x)) _ _ (λ v. refl))
looks ((y ∷ x) ∷ (z ∷ p) ∷ []) = rw (of_64 (y ∷ x)) (sym (some_number (number_to 18446744073709551615 (y ∷ x)) _ _ _ (λ v. refl)))
looks ((y ∷ x) ∷ (z ∷ p) ∷ q ∷ us) = rw (look_more (y ∷ x) (z ∷ p) q us) (either (any_empty (q ∷ us)) None) ∙ sym (no_number (number_to 18446744073709551615 (y ∷ x)) _ _ (λ v. refl))

mounts : (us : List (List ℕ)) → formed MOUNT.now us ≡ mount_by us
unfolding any_empty line_of same ascii
mounts [] = refl
mounts ([] ∷ us) = refl
mounts ((a ∷ p) ∷ []) = refl
mounts ((a ∷ p) ∷ [] ∷ us) = refl
mounts ((a ∷ p) ∷ (b ∷ t) ∷ []) = sym (no_number (number_to 4294967295 (b ∷ t)) _ _ (λ v. refl))
mounts ((a ∷ p) ∷ (b ∷ t) ∷ [] ∷ us) = sym (no_number (number_to 4294967295 (b ∷ t)) _ _ (λ v. refl))
mounts ((a ∷ p) ∷ (b ∷ t) ∷ (c ∷ r) ∷ []) = sym (no_number (number_to 4294967295 (b ∷ t)) _ _ (λ v. no_number (number_to 18446744073709551615 (c ∷ r)) _ _ (λ u. refl)))
mounts ((a ∷ p) ∷ (b ∷ t) ∷ (c ∷ r) ∷ [] ∷ us) = sym (no_number (number_to 4294967295 (b ∷ t)) _ _ (λ v. no_number (number_to 18446744073709551615 (c ∷ r)) _ _ (λ u. refl)))
mounts ((a ∷ p) ∷ (b ∷ t) ∷ (c ∷ r) ∷ (d ∷ m) ∷ []) =
    rw (of_32 (b ∷ t), of_64 (c ∷ r), of_64 (d ∷ m)) (sym (some_number (number_to 4294967295 (b ∷ t)) _ _ _ (λ v. some_number (number_to 18446744073709551615 (c ∷ r)) _ _ _ (λ u. refl))))
mounts ((a ∷ p) ∷ (b ∷ t) ∷ (c ∷ r) ∷ (d ∷ m) ∷ e ∷ us) =
    either (any_empty (e ∷ us)) None ∙ sym (no_number (number_to 4294967295 (b ∷ t)) _ _ (λ v. no_number (number_to 18446744073709551615 (c ∷ r)) _ _ (λ u. refl)))

-- another verb
module _ (v : List ℕ) (u : same v UMOUNT.now ≡ false) (w : same v WALK.now ≡ false) (l : same v LOOK.now ≡ false) (m : same v MOUNT.now ≡ false) where
  no_form : (us : List (List ℕ)) → line_of (v ∷ us) ≡ None
  unfolding line_of ascii
  no_form [] = refl
  no_form (p ∷ []) = rw (u, w)
  no_form (p ∷ q ∷ us) = more_none v l m p q us

-- ---- all of it

same_bytes : (v w : List ℕ) → bytes_eq v w ≡ same v w
unfolding same
same_bytes [] [] = refl
same_bytes [] (y ∷ w) = refl
same_bytes (x ∷ v) [] = refl
same_bytes (x ∷ v) (y ∷ w) = ap (λ (t : Bool). eqb x y && t) (same_bytes v w)

module _ (v : List ℕ) (us : List (List ℕ)) where
  is_verb : (x : List ℕ) → bytes_eq v x ≡ true → formed x us ≡ form_by x us → formed v us ≡ form_by v us
  is_verb x e f = subst (λ (y : List ℕ). formed y us ≡ form_by y us) (sym ((bytes_eq-Decides v x).0 e)) f

  by_verb : (a b c d : Bool) → bytes_eq v UMOUNT.now ≡ a → bytes_eq v WALK.now ≡ b → bytes_eq v LOOK.now ≡ c → bytes_eq v MOUNT.now ≡ d → formed v us ≡ form_by v us
  by_verb true b c d e f g h = is_verb UMOUNT.now e (umounts us)
  by_verb false true c d e f g h = is_verb WALK.now f (walks us)
  by_verb false false true d e f g h = is_verb LOOK.now g (looks us)
  by_verb false false false true e f g h = is_verb MOUNT.now h (mounts us)
  by_verb false false false false e f g h =
      rw (e, f, g, h, no_form v (sym (same_bytes v UMOUNT.now) ∙ e) (sym (same_bytes v WALK.now) ∙ f) (sym (same_bytes v LOOK.now) ∙ g) (sym (same_bytes v MOUNT.now) ∙ h) us) (either (any_empty us) None)

by_fields : (ws : List (List ℕ)) → cond (any_empty ws) None (line_of ws) ≡ onward (first ws) (λ n. form_by n.0 n.1)
unfolding any_empty line_of same
by_fields [] = refl
by_fields ([] ∷ us) = refl
by_fields ((x ∷ v) ∷ us) = by_verb (x ∷ v) us _ _ _ _ refl refl refl refl

module _ (s : List ℕ) where
  pub long_none : 8192 < length s → None ≡ parsed s
  unfolding parsed
  long_none h = rw (lt-ltb 8192 (length s) h)

  pub parsed_by : length s ≤ 8192 → (o : Option (List ℕ × List (List ℕ))) → o ≡ first (words s) → onward o (λ n. form_by n.0 n.1) ≡ parsed s
  unfolding parsed
  parsed_by h o e = rw (e, le-ltb 8192 (length s) h) (sym (by_fields (words s)))

-- a number that was read is at most the limit
pub at_most : (max v : ℕ) (s : List ℕ) → Some v ≡ number_to max s → v ≤ max
unfolding number_to
at_most max v s e =
    let found = some_by ((not (same s []) && all_digits s) && leb (spelt 0 s) max) (spelt 0 s) v (sym e) in
    omega (arith, found.1, leb-true (spelt 0 s) max (and_both (not (same s []) && all_digits s) (leb (spelt 0 s) max) found.0).1)
