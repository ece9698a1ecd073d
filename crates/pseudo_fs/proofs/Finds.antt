-- The find by its tests; the number found is a node's number; and the answer is known by its meaning. Assumes nothing.
use mathlib.Core.Path.{◌≡◌, refl, sym, ap, ◌∙◌}
use mathlib.Core.Bool.{Bool, true, false, cond}
use mathlib.Core.List.{List}
use Rattle.std.specs.Prelude.{Option, None, Some, Result, Ok, Err, ok_or}
use Prim.Native.Nat.{ℕ, ◌+◌, ◌*◌, ◌^◌, ◌<◌}
use native.Mathlib.Omega.{arith}
use lib.Dec.{eqb}
use borrow.Author.Tests.{eqb-true, not-false}
use Rattle.rules.specs.Numbers.{full}
use Rattle.rules.specs.declared.codes.VfsError.{VfsError}
use Rattle.rules.specs.declared.codes.VfsError.TheVariants.{NoEnt, Inval}
use Rattle.rules.specs.Bytes.{holds}
use Rattle.rules.specs.Utf8.{well_formed}
use Rattle.rules.specs.Path.{slash, is_dot, is_dots}
use Rattle.rules.specs.Tree.{Mount, Node, child_in, is_known, parent_in}
use Rattle.rules.specs.Instance.{Instance}
use Rattle.rules.specs.Outcome.{Outcome, first_of}
use Rattle.rules.specs.Lookup.{entry_of, entry_at, lookup_by}
use Rattle.rules.proofs.Rows.{first_of_lem}
use Rattle.tables.specs.View.{nodes_of, view}
use Rattle.tables.proofs.Numbers.{nodes_low, child_low, known_low, parent_low}
use Rattle.call_form.proofs.Apart.{one_code, refused_some}
use Rattle.pseudo_fs.specs.Finds.{outcome_of, child_finding, Finds}

module _ (nodes : List Node) (x : ℕ) (p : List ℕ) where
  pub unknown_parent : is_known nodes x ≡ false → Finds nodes x p (Err NoEnt)
  unfolding outcome_of lookup_by first_of
  unknown_parent k mounts i e = rw (e, k)

  module _ (k : is_known nodes x ≡ true) where
    pub byte_zero : holds 0 p ≡ true → Finds nodes x p (Err Inval)
    unfolding outcome_of lookup_by first_of
    byte_zero z mounts i e = rw (e, k, z)

    module _ (z : holds 0 p ≡ false) where
      pub bad_name : well_formed p ≡ false → Finds nodes x p (Err Inval)
      unfolding outcome_of lookup_by first_of
      bad_name w mounts i e = rw (e, k, z, w)

      module _ (w : well_formed p ≡ true) where
        pub itself : is_dot p ≡ true → Finds nodes x p (Ok x)
        unfolding outcome_of lookup_by first_of entry_at
        itself d mounts i e = rw (e, k, z, w, d)

        pub its_parent : is_dot p ≡ false → is_dots p ≡ true → (y : ℕ) → y ≡ parent_in nodes x → Finds nodes x p (Ok y)
        unfolding outcome_of lookup_by first_of entry_at
        its_parent d dd y q mounts i e = rw (q, e, k, z, w, d, dd)

        module _ (d : is_dot p ≡ false) (dd : is_dots p ≡ false) where
          has_slash : holds slash p ≡ true → Finds nodes x p (Err NoEnt)
          unfolding outcome_of lookup_by first_of
          has_slash s mounts i e = rw (e, k, z, w, d, dd, s)

          its_child : holds slash p ≡ false → (o : Option ℕ) → o ≡ child_in nodes x p → Finds nodes x p (ok_or o NoEnt)
          unfolding outcome_of lookup_by first_of entry_at
          its_child s None q mounts i e = rw (e, k, z, w, d, dd, s, sym q)
          its_child s (Some y) q mounts i e = rw (e, k, z, w, d, dd, s, sym q)

          pub by_child : (r : Result ℕ VfsError) → r ≡ child_finding nodes x p → Finds nodes x p r
          unfolding child_finding
          by_child r q = rw q (go (holds slash p) refl)
            where
              go : (b : Bool) → holds slash p ≡ b → Finds nodes x p (cond b (Err NoEnt) (ok_or (child_in nodes x p) NoEnt))
              go true e = has_slash e
              go false e = its_child e (child_in nodes x p) refl

-- ---- the number found

-- index 0 leaves a number as it is
full_zero : (y : ℕ) → full 0 y ≡ y
unfolding full
full_zero y = go (eqb y 0) refl
  where
    go : (b : Bool) → eqb y 0 ≡ b → cond b 0 (0 * 2 ^ 56 + y) ≡ y
    go true e = omega (arith, eqb-true y 0 e)
    go false e = omega arith

-- a pseudo entry tells its node
entry_number : (i : Instance) (y z : ℕ) → entry_of i y None ≡ entry_of i z None → y ≡ z
unfolding entry_of
entry_number i y z e =
    let f = ap (λ (o : Outcome). o.answer) e in
    let g : full 0 y ≡ full 0 z = cc in
    sym (full_zero y) ∙ (g ∙ full_zero z)

-- it is no refusal
refused_not : (i : Instance) (y : ℕ) (o : Outcome) → (o.code ≡ 0 → ⊥) → entry_of i y None ≡ o → ⊥
unfolding entry_of
refused_not i y o h e = h (sym (ap (λ (o : Outcome). o.code) e))

-- no mounts are asked
abbrev no_mounts : ℕ → Option Mount
no_mounts y = None

-- an outcome tells its find
outcome_apart : (i : Instance) (a b : Result ℕ VfsError) → outcome_of no_mounts i a ≡ outcome_of no_mounts i b → a ≡ b
unfolding outcome_of entry_of
outcome_apart i (Ok y) (Ok z) e = ap Ok (entry_number i y z e)
outcome_apart i (Ok y) (Err d) e = absurd (refused_not i y _ (refused_some d) e)
outcome_apart i (Err c) (Ok z) e = absurd (refused_not i z _ (refused_some c) (sym e))
outcome_apart i (Err c) (Err d) e = ap Err (one_code c d (ap (λ (o : Outcome). o.code) e))

module _ (mem : List ℕ) (x : ℕ) (p : List ℕ) where
  abbrev nodes : List Node
  nodes = nodes_of mem

  by_rule : (r : Result ℕ VfsError) → Finds nodes x p r → outcome_of no_mounts (view mem) r ≡ lookup_by no_mounts (view mem) x p
  unfolding view
  by_rule r f = f no_mounts (view mem) refl

  -- the theorem: it is below 2^56
  pub found_low : (y : ℕ) → Finds nodes x p (Ok y) → y < 2 ^ 56
  unfolding outcome_of lookup_by entry_at view
  found_low y f =
      first_of_lem (λ (o : Outcome). entry_of (view mem) y None ≡ o → y < 2 ^ 56) _ _ (
        λ a e. absurd (refused_not _ y _ (λ z. omega arith) e),
        λ a. (
          λ b e. absurd (refused_not _ y _ (λ z. omega arith) e),
          λ b. (
            λ c e. low (Some x) (λ z q. let g : x ≡ z = cc in omega (arith, known_low nodes (nodes_low mem) x (not-false _ a))) e,
            λ c. (
              λ d e. low (Some (parent_in nodes x)) (λ z q. let g : parent_in nodes x ≡ z = cc in omega (arith, parent_low nodes (nodes_low mem) x)) e,
              λ d. (
                λ s e. absurd (refused_not _ y _ (λ z. omega arith) e),
                λ s e.
                    low (child_in nodes x p) (λ z q. child_low nodes (nodes_low mem) x p z q) e,
              ),
            ),
          ),
        ),
      )
      (by_rule (Ok y) f)
    where
      low : (o : Option ℕ) → ((z : ℕ) → o ≡ Some z → z < 2 ^ 56) → entry_of (view mem) y None ≡ entry_at no_mounts (view mem) o → y < 2 ^ 56
      low None k e = absurd (refused_not _ y _ (λ z. omega arith) e)
      low (Some z) k e = omega (arith, k z refl, entry_number (view mem) y z e)

  -- the theorem: the rule allows one answer
  pub one_find : (a b : Result ℕ VfsError) → Finds nodes x p a → Finds nodes x p b → a ≡ b
  one_find a b f g = outcome_apart (view mem) a b (by_rule a f ∙ sym (by_rule b g))
