-- Laws of the numbers among words: the first of them, as stores into zeros. Assumes nothing.
use Rattle.std.proofs.Common.{ℕ, zero, suc, ◌+◌, ◌<◌, ◌≡◌, refl, sym, ap, ◌∙◌, List, [], ◌∷◌, ◌++◌, length, take, set, arith, map, get_or, ◌≤◌, ◌⊎◌, Option, None, Some, MatchOption, Bor, slice_range}
use Rattle.std.specs.List.{filter_map, enumerate_from}
use Rattle.std.proofs.lemmas.List.FromFn.{length-enumerate_from, get_or-enumerate_from}
use Rattle.std.proofs.Math.ListN.{length-take}
use Rattle.rules.specs.Path.{parts_by}
use Rattle.rules.specs.Session.{space, words, shown}
use Rattle.path.specs.Steps.{part_length, part_end}
use Rattle.path.proofs.Words.{behind, first_part}
use Rattle.decimal.specs.Read.{number_to}
use Rattle.decimal.proofs.Steps.{of_width}
use Rattle.test_words.specs.Among.{words_left, numbers_of}
use Rattle.test_words.proofs.Spelling.{from, from_drop}

-- the largest number of 64 bits
abbrev pub largest : ℕ
largest = 18446744073709551615

-- a word more, up to the next space, and what is left behind that
left_behind : (b : List ℕ) (o : Option (Bor (List ℕ)))
    → MatchOption o ((length b < 1) ⊎ (length b < length b)) (λ x. (1 ≤ length b) × (length b ≤ length b) × (x.now ≡ slice_range b 1 (length b)) × (length x.now + 1 ≡ length b)) → behind space b ≡ words_left o
left_behind [] None h = refl
left_behind (a ∷ b) None h = absurd (omega arith)
left_behind [] (Some x) h = absurd (omega (arith, h.0))
left_behind (a ∷ b) (Some x) h = ap (parts_by space) (sym (h.2 ∙ from_drop 1 (a ∷ b)))

pub words_more : (s : List ℕ) (end : ℕ) (o : Option (Bor (List ℕ))) → end ≡ part_end space s 0
    → MatchOption o ((length (from end s) < 1) ⊎ (length (from end s) < length (from end s))) (λ x. (1 ≤ length (from end s)) × (length (from end s) ≤ length (from end s)) × (x.now ≡ slice_range (from end s) 1 (length (from end s))) × (length x.now + 1 ≡ length (from end s)))
    → words s ≡ take end s ∷ words_left o
unfolding part_end
words_more s end o e h =
    let k : part_length space s ≡ end = omega (arith, e) in
    first_part space s ∙ rw (k, ← from_drop end s) (ap (λ (ws : List (List ℕ)). take end s ∷ ws) (left_behind (from end s) o h))

-- their numbers as `filter_map` gives them
numbers_filtered : (ws : List (List ℕ)) → filter_map (number_to largest) ws ≡ numbers_of ws
unfolding numbers_of
numbers_filtered [] = refl
numbers_filtered (w ∷ ws) = rw (of_width 64 largest refl w, numbers_filtered ws)

pub numbers_found : (s : List ℕ) → filter_map (number_to largest) (words s) ≡ numbers_of (words s)
numbers_found s = numbers_filtered (words s)

-- ---- the first k numbers

pub shown_more : (k : ℕ) (vs : List ℕ) (v : ℕ) → length vs < k → set (shown k vs) (length vs) v ≡ shown k (vs ++ v ∷ [])
unfolding shown
shown_more zero vs v h = absurd (omega arith)
shown_more (suc k) [] v h = refl
shown_more (suc k) (w ∷ vs) v h = ap (λ (l : List ℕ). w ∷ l) (shown_more k vs v (omega arith))

pub shown_take : (k : ℕ) (vs : List ℕ) → shown k (take k vs) ≡ shown k vs
unfolding shown
shown_take zero vs = refl
shown_take (suc k) [] = refl
shown_take (suc k) (v ∷ vs) = ap (λ (l : List ℕ). v ∷ l) (shown_take k vs)

-- the numbers of a run of pairs, each with its place
abbrev pub second : List (ℕ × ℕ) → List ℕ
second ps = map (λ (p : ℕ × ℕ). p.1) ps

second_more : (ps : List (ℕ × ℕ)) (k v : ℕ) → second (ps ++ (k, v) ∷ []) ≡ second ps ++ v ∷ []
second_more [] k v = refl
second_more (p ∷ ps) k v = ap (λ (l : List ℕ). p.1 ∷ l) (second_more ps k v)

length_second : (ps : List (ℕ × ℕ)) → length (second ps) ≡ length ps
length_second [] = refl
length_second (p ∷ ps) = ap suc (length_second ps)

second_same : (ps : List (ℕ × ℕ)) → second (map (λ (p : ℕ × ℕ). (p.0, p.1)) ps) ≡ second ps
second_same [] = refl
second_same (p ∷ ps) = ap (λ (l : List ℕ). p.1 ∷ l) (second_same ps)

second_placed : (n : ℕ) (xs : List ℕ) → second (enumerate_from n xs) ≡ xs
second_placed n [] = refl
second_placed n (x ∷ xs) = ap (λ (l : List ℕ). x ∷ l) (second_placed (n + 1) xs)

-- one number more
pub turn_more : (all r : List ℕ) (ps : List (ℕ × ℕ)) (k v : ℕ) → r ≡ shown 8 (second ps)
    → (length ps < length (enumerate_from 0 (take 8 all))) × ((k, v) ≡ get_or (enumerate_from 0 (take 8 all)) (length ps) (k, v)) → set r k v ≡ shown 8 (second (ps ++ (k, v) ∷ []))
turn_more all r ps k v e t =
    let l = length-enumerate_from 0 (take 8 all) in
    let h : length ps < length (take 8 all) = omega (arith, l, t.0) in
    let g = t.1 ∙ get_or-enumerate_from 0 (take 8 all) (length ps) (k, v) h in
    let f : k ≡ length (second ps) = ap (λ (p : ℕ × ℕ). p.0) g ∙ omega (arith, length_second ps) in
    rw (e, f, second_more ps (length (second ps)) v) (shown_more 8 (second ps) v (omega (arith, length_second ps, length-take 8 all)))

-- all of them
pub turn_end : (all r : List ℕ) (ps : List (ℕ × ℕ)) → r ≡ shown 8 (second ps) → map (λ (p : ℕ × ℕ). (p.0, p.1)) ps ≡ enumerate_from 0 (take 8 all) → r ≡ shown 8 all
turn_end all r ps e f = e ∙ ap (shown 8) (sym (second_same ps) ∙ ap second f ∙ second_placed 0 (take 8 all)) ∙ shown_take 8 all
