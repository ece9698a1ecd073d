-- How many mounts a lap takes at least: each of 255 indexes was handed out on the way, or named in a restored mount, or was held at the start. Assumes nothing.
use mathlib.Core.Path.{◌≡◌, refl, sym, ap, ◌∙◌}
use mathlib.Core.Bool.{Bool, true, false, cond, not, ◌&&◌, false≢true}
use mathlib.Core.Logic.{◌⊎◌, inl, inr, ⊎_elim}
use mathlib.Core.List.{List, [], ◌∷◌, ◌++◌}
use Rattle.std.specs.Prelude.{Option, None, Some}
use Rattle.std.proofs.lemmas.Option.{none-some}
use Prim.Native.Nat.{ℕ, zero, suc, ◌+◌, ◌≤◌, ◌<◌}
use native.Mathlib.Omega.{arith}
use native.Mathlib.Decide.{ℕ_discrete}
use lib.ListN.{length, length-append}
use lib.Dec.{eqb}
use borrow.Author.Tests.{ne_eqb}
use Rattle.rules.specs.Instance.{Slot, Instance, held_in}
use Rattle.rules.specs.Calls.{Call, rule}
use Rattle.rules.specs.claims.Laps.{SearchStep, last_found, Has, Met}
use Rattle.rules.specs.claims.Trace.{steps_of}
use Rattle.rules.specs.claims.Kept.{named, named_in, indexes_handed_out, same_slot, emptied, handed_out, by_restored}
use Rattle.rules.specs.claims.Wait.{others_held, EveryWait}
use Rattle.rules.proofs.Trace.{laps}
use Rattle.rules.proofs.Slots.{every_slot}
use Rattle.rules.proofs.Kept.{has_first, has_later}

-- ---- a list that has each of many indexes is long

-- one taken out
less : (x : ℕ) (ks : List ℕ) → Has x ks → List ℕ
less x [] h = absurd h
less x (k ∷ ks) (inl e) = ks
less x (k ∷ ks) (inr h) = k ∷ less x ks h

less_length : (x : ℕ) (ks : List ℕ) (h : Has x ks) → length ks ≡ suc (length (less x ks h))
unfolding less
less_length x [] h = absurd h
less_length x (k ∷ ks) (inl e) = refl
less_length x (k ∷ ks) (inr h) = ap suc (less_length x ks h)

less_has : (x j : ℕ) (ks : List ℕ) (h : Has x ks) → (x ≡ j → ⊥) → Has j ks → Has j (less x ks h)
unfolding less
less_has x j [] h n w = absurd h
less_has x j (k ∷ ks) (inl e) n (inl w) = absurd (n (sym e ∙ w))
less_has x j (k ∷ ks) (inl e) n (inr w) = w
less_has x j (k ∷ ks) (inr h) n (inl w) = inl w
less_has x j (k ∷ ks) (inr h) n (inr w) = inr (less_has x j ks h n w)

-- each index from 1 to n stands in the list, or is held and is not k
abbrev Covers : (ℕ → Bool) → ℕ → ℕ → List ℕ → Type 0
Covers held k n ks = (j : ℕ) → 0 < j → j ≤ n → Has j ks ⊎ ((held j && not (eqb j k)) ≡ true)

covers : (held : ℕ → Bool) (k n : ℕ) (ks : List ℕ) → Covers held k n ks → n ≤ length ks + others_held held k n
unfolding others_held
covers held k zero ks c = omega arith
covers held k (suc n) ks c = go (held (suc n) && not (eqb (suc n) k)) (c (suc n) (omega arith) (omega arith)) (covers held k n)
  where
    go : (b : Bool) → Has (suc n) ks ⊎ (b ≡ true) → ((xs : List ℕ) → Covers held k n xs → n ≤ length xs + others_held held k n)
        → suc n ≤ length ks + (cond b 1 0 + others_held held k n)
    go true w on = omega (arith, on ks (λ j p q. c j p (omega arith)))
    go false (inr e) on = absurd (false≢true e)
    go false (inl h) on =
        omega (
          arith,
          less_length (suc n) ks h,
          on (less (suc n) ks h) (λ j p q. ⊎_elim (λ (w : Has j ks). inl (less_has (suc n) j ks h (λ z. omega arith) w)) (λ (w : (held j && not (eqb j k)) ≡ true). inr w) (c j p (omega arith))),
        )

-- ---- each index is accounted for

has_left : (j : ℕ) (ks ls : List ℕ) → Has j ks → Has j (ks ++ ls)
has_left j [] ls h = absurd h
has_left j (k ∷ ks) ls (inl e) = inl e
has_left j (k ∷ ks) ls (inr h) = inr (has_left j ks ls h)

has_right : (j : ℕ) (ks ls : List ℕ) → Has j ls → Has j (ks ++ ls)
has_right j [] ls h = h
has_right j (k ∷ ks) ls h = inr (has_right j ks ls h)

-- what the last step hands out is handed out
last_has : (ss : List SearchStep) (x : Option ℕ) (k : ℕ) → last_found x ss ≡ Some k → (x ≡ Some k) ⊎ Has k (indexes_handed_out ss)
unfolding last_found indexes_handed_out
last_has [] x k e = inl e
last_has (s ∷ ss) x k e = inr (⊎_elim (λ f. has_first s.found k (indexes_handed_out ss) f) (λ w. has_later s.found k (indexes_handed_out ss) w) (last_has ss s.found k e))

-- an index that was met was held at the start, or was handed out, or was named
accounted : (cs : List Call) (i : Instance) (j : ℕ) → Met j (steps_of i cs) → (held_in i j ≡ true) ⊎ (Has j (indexes_handed_out (steps_of i cs)) ⊎ Has j (named_in cs))
unfolding steps_of Met indexes_handed_out named_in
accounted [] i j m = absurd m
accounted (c ∷ cs) i j (inl (inl e)) = inr (inl (has_first (rule i c).found j _ e))
accounted (c ∷ cs) i j (inl (inr v)) = inl v.1
accounted (c ∷ cs) i j (inr m) = ⊎_elim held (λ w. inr (⊎_elim (λ a. inl (has_later (rule i c).found j _ a)) (λ a. inr (has_later (named c) j _ a)) w)) (accounted cs (rule i c).after j m)
  where
    held : held_in (rule i c).after j ≡ true → (held_in i j ≡ true) ⊎ (Has j (indexes_handed_out (steps_of i (c ∷ cs))) ⊎ Has j (named_in (c ∷ cs)))
    held h =
        elim (every_slot i c j) [
          | same_slot e ↦ inl (sym (ap (λ (s : Slot). s.held) e) ∙ h)
          | emptied z o e ↦ absurd (false≢true (sym (ap (λ (s : Slot). s.held) e) ∙ h))
          | handed_out z e ↦ inr (inl (has_first (rule i c).found j _ e))
          | by_restored z e ↦ inr (inr (has_first (named c) j _ e))
        ]

-- the theorem
pub every_wait : EveryWait
every_wait i h c k first cs u last =
    let a = (rule i c).after in
    let outs = indexes_handed_out (steps_of a cs) in
    let lap = laps i h c k first cs u last in
    let again : Has k outs = ⊎_elim (λ (e : None ≡ Some k). absurd (none-some k e)) (λ (w : Has k outs). w) (last_has (steps_of a cs) None k last) in
    let all : Covers (held_in a) k 255 (outs ++ named_in cs) =
    λ j p q.
    elim (ℕ_discrete j k) [
      | yes e ↦ inl (has_left j outs (named_in cs) (rw e again))
      | no n ↦
          ⊎_elim (λ (w : held_in a j ≡ true). inr (rw (w, ne_eqb j k n)))
          (λ w. inl (⊎_elim (λ (x : Has j outs). has_left j outs (named_in cs) x) (λ (x : Has j (named_in cs)). has_right j outs (named_in cs) x) w))
          (accounted cs a j (lap.fair j p (omega arith)))
    ] in
    omega (arith, covers (held_in a) k 255 (outs ++ named_in cs) all, length-append outs (named_in cs))
