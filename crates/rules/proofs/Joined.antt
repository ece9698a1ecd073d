-- Parts are joined and split by one byte, whatever it is. Assumes nothing.
use Prim.Native.Nat.{ℕ}
use mathlib.Core.Path.{◌≡◌, refl, sym, ap, ◌∙◌}
use mathlib.Core.Bool.{Bool, true, false, cond, not}
use mathlib.Core.List.{List, [], ◌∷◌, ◌++◌}
use lib.Dec.{eqb}
use borrow.Author.Tests.{eq-eqb, eqb-true}
use Rattle.rules.specs.Bytes.{holds}
use Rattle.rules.specs.Path.{onto, parts_by, joined_by}
use Rattle.rules.specs.claims.Joined.{in_none, EveryJoined}
use Rattle.rules.proofs.Tests.{and_both, or_neither}

module _ (sep : ℕ) where
  -- ---- joined, then split

  last : (w : List ℕ) → holds sep w ≡ false → parts_by sep w ≡ w ∷ []
  unfolding parts_by holds
  last [] h = refl
  last (b ∷ w) h = let n = or_neither (eqb b sep) (holds sep w) h in rw (n.0, last w n.1)

  pub first : (w t : List ℕ) → holds sep w ≡ false → parts_by sep (w ++ (sep ∷ t)) ≡ w ∷ parts_by sep t
  unfolding parts_by holds
  first [] t h = rw (eq-eqb sep sep refl)
  first (b ∷ w) t h = let n = or_neither (eqb b sep) (holds sep w) h in rw (n.0, first w t n.1)

  off : (t : Bool) → not t ≡ true → t ≡ false
  off true e = sym e
  off false e = refl

  split : (p : List ℕ) (ps : List (List ℕ)) → in_none sep (p ∷ ps) ≡ true → parts_by sep (joined_by sep (p ∷ ps)) ≡ p ∷ ps
  unfolding in_none
  split p [] h = last p (off _ (and_both _ _ h).0)
  split p (q ∷ ps) h =
      let a = and_both (not (holds sep p)) (in_none sep (q ∷ ps)) h in
      first p (joined_by sep (q ∷ ps)) (off _ a.0) ∙ ap (λ (l : List (List ℕ)). p ∷ l) (split q ps a.1)

  -- ---- split

  -- there is a first part
  pub record Some (s : List ℕ) : Type 0 where
    pub head : List ℕ
    pub rest : List (List ℕ)
    pub all : parts_by sep s ≡ head ∷ rest

  some : (s : List ℕ) → Some s
  unfolding parts_by
  some [] = record { head = []; rest = []; all = refl }
  some (b ∷ s) = go (eqb b sep) refl (some s)
    where
      go : (t : Bool) → eqb b sep ≡ t → Some s → Some (b ∷ s)
      go true e v = record { head = []; rest = parts_by sep s; all = rw e }
      go false e v = record { head = b ∷ v.head; rest = v.rest; all = rw (e, v.all) }

  pub free : (s : List ℕ) → in_none sep (parts_by sep s) ≡ true
  unfolding parts_by in_none holds
  free [] = refl
  free (b ∷ s) = go (eqb b sep) refl (some s) (free s)
    where
      go : (t : Bool) → eqb b sep ≡ t → Some s → in_none sep (parts_by sep s) ≡ true → in_none sep (cond t ([] ∷ parts_by sep s) (onto b (parts_by sep s))) ≡ true
      go true e v h = h
      go false e v h = rw (v.all, e) (rw v.all at h)

  -- ---- split, then joined

  onto_joined : (b : ℕ) (p : List ℕ) (ps : List (List ℕ)) → joined_by sep ((b ∷ p) ∷ ps) ≡ b ∷ joined_by sep (p ∷ ps)
  onto_joined b p [] = refl
  onto_joined b p (q ∷ ps) = refl

  back : (s : List ℕ) → joined_by sep (parts_by sep s) ≡ s
  unfolding parts_by
  back [] = refl
  back (b ∷ s) = go (eqb b sep) refl (some s) (back s)
    where
      go : (t : Bool) → eqb b sep ≡ t → Some s → joined_by sep (parts_by sep s) ≡ s → joined_by sep (cond t ([] ∷ parts_by sep s) (onto b (parts_by sep s))) ≡ b ∷ s
      go true e v h = rw v.all (ap (λ (l : List ℕ). sep ∷ l) (rw v.all at h) ∙ ap (λ (x : ℕ). x ∷ s) (sym (eqb-true b sep e)))
      go false e v h = rw v.all (onto_joined b v.head v.rest ∙ ap (λ (l : List ℕ). b ∷ l) (rw v.all at h))

pub every_joined : EveryJoined
every_joined = record { split = split; free = free; back = back }
