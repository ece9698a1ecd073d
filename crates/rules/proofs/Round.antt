-- Laws of the search over the indexes met from a counter on. Assumes nothing.
use mathlib.Core.Path.{◌≡◌, refl, sym, subst, ap, ◌∙◌}
use mathlib.Core.Bool.{Bool, true, false, cond}
use mathlib.Core.Logic.{◌⊎◌, inl, inr, ⊎_elim}
use mathlib.Core.List.{List, [], ◌∷◌, ◌++◌}
use Rattle.std.specs.Prelude.{None, Some}
use Rattle.std.proofs.lemmas.Option.{none-some}
use Prim.Native.Nat.{ℕ, zero, suc, ◌+◌, ◌%◌, ◌<◌}
use native.Mathlib.Omega.{arith}
use lib.ListN.{length}
use Rattle.rules.specs.Round.{after, going_round, visited, first_free}
use Rattle.rules.specs.claims.Laps.{Has}
use Rattle.rules.proofs.Tests.{known}

-- two ways round, one after the other
pub round_append : (m n c : ℕ) → c < 256 → going_round m c ++ going_round n ((c + m) % 256) ≡ going_round (m + n) c
unfolding going_round
round_append zero n c h =
    let e : (c + 0) % 256 ≡ c = omega arith in
    let f : 0 + n ≡ n = omega arith in
    rw (e, f)
round_append (suc m) n c h =
    let e : (c + suc m) % 256 ≡ (after c + m) % 256 = omega arith in
    let f : suc m + n ≡ suc (m + n) = omega arith in
    rw (e, f) (ap (λ (l : List ℕ). c ∷ l) (round_append m n (after c) (omega arith)))

module _ (free : ℕ → Bool) where
  -- what is visited goes round
  pub visited_round : (n c : ℕ) → visited free (going_round n c) ≡ going_round (length (visited free (going_round n c))) c
  unfolding going_round visited
  visited_round zero c = refl
  visited_round (suc n) c =
      ⊎_elim (λ (t : free c ≡ true). rw t) (λ (f : free c ≡ false). rw f (ap (λ (l : List ℕ). c ∷ l) (visited_round n (after c)))) (known (free c))

  -- where i is found, the counter has moved to the index after it
  pub ends : (n c i : ℕ) → c < 256 → first_free free (going_round n c) ≡ Some i → (c + length (visited free (going_round n c))) % 256 ≡ after i
  unfolding going_round visited first_free
  ends zero c i h e = absurd (none-some i e)
  ends (suc n) c i h e =
      ⊎_elim (λ (t : free c ≡ true). let same : c ≡ i = cc (rw t at e) in rw t (omega arith))
      (λ (f : free c ≡ false). let rest = ends n (after c) i (omega arith) (rw f at e) in rw f (omega arith)) (known (free c))

  -- each index that is visited is one that is not free, or the one found
  pub meets : (n c d : ℕ) → c < 256 → d < length (visited free (going_round n c))
      → Has ((c + d) % 256) (visited free (going_round n c)) × ((free ((c + d) % 256) ≡ false) ⊎ (first_free free (going_round n c) ≡ Some ((c + d) % 256)))
  unfolding going_round visited first_free
  meets zero c d h l = absurd (omega arith)
  meets (suc n) c zero h l =
      let here : (c + 0) % 256 ≡ c = omega arith in
      rw here (inl refl, ⊎_elim (λ (t : free c ≡ true). inr (rw t)) (λ (f : free c ≡ false). inl f) (known (free c)))
  meets (suc n) c (suc d) h l =
      ⊎_elim (λ (t : free c ≡ true). absurd (omega (arith, rw t at l)))
      (λ (f : free c ≡ false).
      let on : (c + suc d) % 256 ≡ (after c + d) % 256 = omega arith in
      let rest = meets n (after c) d (omega arith) (omega (arith, rw f at l)) in
      let P : ℕ → Type 0 = λ x. Has x (visited free (going_round (suc n) c)) × ((free x ≡ false) ⊎ (first_free free (going_round (suc n) c) ≡ Some x)) in
      subst P (sym on) (rw f (inr rest.0, rest.1))) (known (free c))

  -- none is free: none is found
  pub finds_none : (n c : ℕ) → c < 256 → ((j : ℕ) → j < 256 → free j ≡ false) → first_free free (going_round n c) ≡ None
  unfolding going_round first_free
  finds_none zero c h all = refl
  finds_none (suc n) c h all = rw (all c h) (finds_none n (after c) (omega arith) all)

  -- none is found: all are visited
  -- what is found is free, of whatever indexes are met
  pub found_free : (is : List ℕ) (k : ℕ) → first_free free is ≡ Some k → free k ≡ true
  unfolding first_free
  found_free [] k e = absurd (none-some k e)
  found_free (i ∷ is) k e = go (free i) refl (found_free is k) e
    where
      go : (b : Bool) → free i ≡ b → (first_free free is ≡ Some k → free k ≡ true) → cond b (Some i) (first_free free is) ≡ Some k → free k ≡ true
      go true f later q = let s : i ≡ k = cc in ap free (sym s) ∙ f
      go false f later q = later q

  pub spent : (n c : ℕ) → first_free free (going_round n c) ≡ None → length (visited free (going_round n c)) ≡ n
  unfolding going_round first_free visited
  spent zero c e = refl
  spent (suc n) c e =
      ⊎_elim (λ (t : free c ≡ true). absurd (none-some c (sym (rw t at e))))
      (λ (f : free c ≡ false). rw f (ap suc (spent n (after c) (rw f at e)))) (known (free c))

  -- k is the first free one, d steps on
  pub record FoundAt (n c k d : ℕ) : Type 0 where
    pub within : d < n
    pub place : k ≡ (c + d) % 256
    pub is_free : free k ≡ true
    pub before : (e : ℕ) → e < d → free ((c + e) % 256) ≡ false
    pub counted : length (visited free (going_round n c)) ≡ d + 1

  pub found_at : (n c k : ℕ) → c < 256 → first_free free (going_round n c) ≡ Some k → (d : ℕ) × FoundAt n c k d
  unfolding going_round first_free visited
  found_at zero c k h e = absurd (none-some k e)
  found_at (suc n) c k h e =
      ⊎_elim (λ (t : free c ≡ true).
      let same : c ≡ k = cc (rw t at e) in
      (0, record { within = omega arith; place = omega arith; is_free = ap free (sym same) ∙ t; before = λ j l. absurd (omega arith); counted = rw t }))
      (λ (f : free c ≡ false). later f (found_at n (after c) k (omega arith) (rw f at e))) (known (free c))
    where
      later : free c ≡ false → (d : ℕ) × FoundAt n (after c) k d → (d : ℕ) × FoundAt (suc n) c k d
      later f (d, a) = (
        suc d,
        record {
          within = omega (arith, a.within);
          place = omega (arith, a.place);
          is_free = a.is_free;
          before = λ j l. earlier f a j l;
          counted = rw f (omega (arith, a.counted));
        },
      )
        where
          earlier : free c ≡ false → FoundAt n (after c) k d → (j : ℕ) → j < suc d → free ((c + j) % 256) ≡ false
          earlier f a zero l = let e : (c + 0) % 256 ≡ c = omega arith in rw e f
          earlier f a (suc j) l = let e : (c + suc j) % 256 ≡ (after c + j) % 256 = omega arith in rw e (a.before j (omega arith))

  -- the first free one is found
  pub at_found : (n c d : ℕ) → c < 256 → d < n → free ((c + d) % 256) ≡ true → ((e : ℕ) → e < d → free ((c + e) % 256) ≡ false)
      → first_free free (going_round n c) ≡ Some ((c + d) % 256)
  unfolding going_round first_free
  at_found zero c d h l t b = absurd (omega arith)
  at_found (suc n) c zero h l t b =
      let e : (c + 0) % 256 ≡ c = omega arith in
      rw (e, rw e at t)
  at_found (suc n) c (suc d) h l t b =
      let e : (c + suc d) % 256 ≡ (after c + d) % 256 = omega arith in
      let z : (c + 0) % 256 ≡ c = omega arith in
      let f : free c ≡ false = rw z at (b 0 (omega arith)) in
      rw (f, e)
      (at_found n (after c) d (omega arith) (omega arith) (rw e at t)
      (λ j k. let g : (c + suc j) % 256 ≡ (after c + j) % 256 = omega arith in rw g at (b (suc j) (omega arith))))
