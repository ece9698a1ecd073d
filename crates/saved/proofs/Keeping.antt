-- What is kept of the first records decides as the records do. Assumes nothing.
use Rattle.std.proofs.Common.{◌≡◌, ℕ, zero, suc, ◌+◌, ◌<◌, ◌≤◌, Bool, not, true, false, ◌&&◌, ◌||◌, ◌==◌, eqb, List, length, take, refl, set, sym, ap, ◌∙◌, ⊎_elim, add-one, arith, eq-eqb, get_or-set_other, get_or-set_same, below_more}
use Rattle.std.proofs.lemmas.List.{length-take, length-take-le, get_or-take}
use mathlib.Core.Bool.{or-false}
use Rattle.std.proofs.Math.Bool.{or_comm}
use Rattle.std.specs.List.{list_any}
use Rattle.std.proofs.lemmas.List.Folds.{list_any_more}
use Rattle.rules.specs.Bytes.{Bytes}
use Rattle.rules.specs.Saved.{SavedNode, saved_node_at, present, used}
use Rattle.rules.proofs.Tests.{known}
use Rattle.saved.specs.declared.Kept.{Kept}
use Rattle.saved.specs.Scan.{start_of, earlier, twin, well_placed}
use Rattle.saved.specs.Kept.{key_at, kept_of, KeepsBelow, KeepsRecords, listed}
use Rattle.saved.proofs.Walk.{starts_up, not_present, if_unused}
use Rattle.saved.proofs.Twins.{other_key}

or_last : (n e l : Bool) → (n || (e || l)) ≡ (e || (l || n))
or_last n true l = or_comm n true
or_last n false l = or_comm n l

-- the first records are kept
module _ (b : List ℕ) (rs : List Kept) (k : KeepsRecords b rs) where
  one_more : (p : Kept → Bool) (i : ℕ) → i < length rs → list_any p (take (suc i) rs) ≡ (list_any p (take i rs) || p (kept_of b i))
  one_more p i h = ap (λ (n : ℕ). list_any p (take n rs)) (sym (add-one i)) ∙ list_any_more p rs i (kept_of b i) h ∙ ap (λ (r : Kept). list_any p (take i rs) || p r) (k i h (kept_of b i))

  pub present_to : (x i : ℕ) → i ≤ length rs → present x (earlier b i) ≡ listed x (take i rs)
  unfolding present earlier listed
  present_to x zero h = sym (or-false (eqb x 1))
  present_to x (suc i) h =
      rw (present_to x i (omega arith), one_more (λ r. r.number == x) i h)
      (or_last (eqb (saved_node_at b (start_of b i)).number x) (eqb x 1) (list_any (λ r. r.number == x) (take i rs)))

  module _ (at : ℕ) (bytes : Bytes b) where
    abbrev n : SavedNode
    n = saved_node_at b at

    -- what `is_used` looks for
    abbrev pub test : Kept → Bool
    test r = r.key == key_at b at && twin (saved_node_at b r.start) n

    test_is : (i : ℕ) → test (kept_of b i) ≡ twin (saved_node_at b (start_of b i)) n
    test_is i =
        let p = start_of b i in
        ⊎_elim (λ w. rw w) (λ w. rw w (sym (other_key b p at bytes (λ e. let t = eq-eqb (key_at b p) (key_at b at) e in cc))))
        (known (eqb (key_at b p) (key_at b at)))

    pub used_to : (i : ℕ) → i ≤ length rs → used n.parent n.name (earlier b i) ≡ list_any test (take i rs)
    unfolding used earlier twin
    used_to zero h = refl
    used_to (suc i) h = rw (used_to i (omega arith), one_more test i h, test_is i) (or_comm (twin (saved_node_at b (start_of b i)) n) (list_any test (take i rs)))

-- a part of what is kept
pub keeps_take : (b : List ℕ) (rs : List Kept) (i : ℕ) → i ≤ length rs → KeepsRecords b rs → KeepsRecords b (take i rs)
keeps_take b rs i h k j l d =
    let g : j < i = omega (arith, length-take-le i rs h) in
    get_or-take i rs j d g ∙ k j (omega arith) d

-- one more is put down
pub keeps_more : (b : List ℕ) (rs : List Kept) (i : ℕ) (r : Kept) → i < length rs → r ≡ kept_of b i → KeepsBelow b i rs → KeepsBelow b (i + 1) (set rs i r)
keeps_more b rs i r l e k =
    below_more _ _ (λ j h d. get_or-set_other rs i j r d (λ g. omega arith) ∙ k j h d) (λ d. get_or-set_same rs i r d l ∙ e)

-- no more of them than there are records
pub part_whole : (b : List ℕ) (n count : ℕ) (rs : List Kept) → n ≤ count → start_of b count ≤ length b → start_of b (length (take n rs)) ≤ length b
part_whole b n count rs h w = omega (arith, starts_up b (length (take n rs)) count (omega (arith, length-take n rs)))

-- ---- the first i of what is kept, as they are lent, and the record that stands behind theirs

module _ (b : List ℕ) (rs : List Kept) (k : KeepsRecords b rs) (at i : ℕ) (h : i ≤ length rs) (p : ℕ) (e : p ≡ (saved_node_at b at).parent) where
  listed_is : listed p (take i rs) ≡ present (saved_node_at b at).parent (earlier b i)
  listed_is = rw e (sym (present_to b rs k (saved_node_at b at).parent i h))

  pub not_listed : listed p (take i rs) ≡ false → listed p (take i rs) ≡ well_placed (earlier b i) (saved_node_at b at)
  not_listed f = f ∙ sym (not_present (earlier b i) (saved_node_at b at) (sym listed_is ∙ f))

  pub if_listed : listed p (take i rs) ≡ true
      → not (used (saved_node_at b at).parent (saved_node_at b at).name (earlier b (length (take i rs)))) ≡ well_placed (earlier b i) (saved_node_at b at)
  if_listed f =
      let l : length (take i rs) ≡ i = length-take-le i rs h in
      rw l (if_unused (earlier b i) (saved_node_at b at) (sym listed_is ∙ f))
