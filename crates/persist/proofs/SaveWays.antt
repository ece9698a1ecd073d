-- The answers of a save: a law for each, that the contract allows one alone, what each leaves, and how much is written at most. Assumes nothing.
use mathlib.Core.Path.{◌≡◌, refl, sym, ap, ◌∙◌}
use mathlib.Core.Bool.{Bool, true, false}
use mathlib.Core.List.{List, ◌++◌}
use Rattle.std.specs.Prelude.{Result, Ok, Err}
use Prim.Native.Nat.{ℕ, zero, suc, ◌+◌, ◌≤◌, ◌<◌}
use native.Mathlib.Nat.{zero-add}
use native.Mathlib.Decide.{dec_le}
use native.Mathlib.Omega.{arith}
use lib.ListN.{length, drop}
use borrow.Author.Tests.{lt-ltb, le-ltb}
use Rattle.rules.specs.Numbers.{SMALL}
use Rattle.rules.specs.declared.codes.VfsError.{VfsError}
use Rattle.rules.specs.declared.codes.VfsError.TheVariants.{Small}
use Rattle.rules.specs.Tree.{Node}
use Rattle.rules.specs.Outcome.{wrote, Outcome, refused, writes, first_of}
use Rattle.rules.specs.Fields.{row_length}
use Rattle.rules.specs.Saved.{options_row, tail_length, options_bytes, trailer_bytes, encode}
use Rattle.rules.specs.StateRestore.{saved_nodes, saved_state, save_rule}
use Rattle.rules.specs.claims.RoundTrip.{NamesTo}
use Rattle.rules.proofs.Encoded.{options_length, encode_length}
use Rattle.rules.proofs.RoundTrip.{longest}
use Rattle.rules.proofs.Shape.{saved_length}
use Rattle.le.specs.Mem.{get, write}
use Rattle.le.proofs.Lens.{write_append}
use Rattle.le.proofs.Writes.{write_over}
use Rattle.tables.specs.Table.{row, tab}
use Rattle.tables.specs.Layout.{capacity_of, count_of, next_of, counter_byte}
use Rattle.tables.specs.View.{options_from, head_of, node_at, nodes_of, view}
use Rattle.tables.specs.Laid.{laid}
use Rattle.call_form.specs.Form.{told_by}
use Rattle.call_form.proofs.Apart.{told_apart}
use Rattle.tables.proofs.RowOf.{nodes_count}
use Rattle.tables.proofs.Find.{nodes_of_lem}
use Rattle.tables.proofs.Keeps.{laid_is}
use Rattle.storage.proofs.Calls.{writes_small, writes_by}
use Rattle.row_name.proofs.Names.{name_short}
use Rattle.persist.specs.Saving.{saved_told, saving, Saves, Holds, DoneHolds, SmallLeaves, NeverLonger, Enough}
use Rattle.saved_rows.proofs.SaveRecords.{records}

-- ---- the answers are known by their meaning

same_wrote : (n m : ℕ) → wrote n ≡ wrote m → n ≡ m
same_wrote n m e = cc

pub saved_told_injective : (a b : Result ℕ VfsError) → saved_told a ≡ saved_told b → a ≡ b
saved_told_injective a b = told_apart wrote same_wrote a b

-- any two answers that the contract allows are equal, and so are the bytes after
pub saves_once : (mem d : List ℕ) (r t : Result ℕ VfsError) (e f : List ℕ) → Saves mem d r e → Saves mem d t f → (r ≡ t) × (e ≡ f)
saves_once mem d r t e f a b = (saved_told_injective r t (a.answer ∙ sym b.answer), a.bytes ∙ sym b.bytes)

-- ---- each answer

module _ (mem d : List ℕ) where
  pub saves_small : laid mem ≡ false → Saves mem d (Err Small) d
  saves_small l = writes_small mem (saving d) d l

  -- by the outcome of the rule
  by_rule : laid mem ≡ true → (o : Outcome) → saving d (view mem) ≡ o → (r : Result ℕ VfsError) (e : List ℕ) → saved_told r ≡ told_by o → e ≡ write d 0 o.written → Saves mem d r e
  by_rule l o q r e a b = writes_by mem (saving d) d (saved_told r) e o l q a b

  -- what is saved: its parts, and its size
  abbrev state : List ℕ
  state = encode (saved_state (view mem))

  parts : (end : ℕ) → end ≡ length (records mem)
      → state ≡ records mem ++ (options_bytes (options_from (head_of mem)) ++ trailer_bytes end (length (saved_nodes (nodes_of mem))) (next_of mem) (counter_byte mem))
  unfolding encode saved_state view row get
  parts end e = rw e

  size : length state ≡ length (records mem) + tail_length
  unfolding saved_state view
  size = encode_length (saved_state (view mem))

  module _ (l : laid mem ≡ true) where
    saves_full : length d < length state → Saves mem d (Err Small) d
    unfolding save_rule first_of
    saves_full h = by_rule l (refused SMALL (view mem)) (rw (lt-ltb (length d) (length state) h)) (Err Small) d refl refl

    pub saves_all : length state ≤ length d → Saves mem d (Ok (length state)) (write d 0 state)
    unfolding save_rule first_of
    saves_all h = by_rule l (writes state (view mem)) (rw (le-ltb (length d) (length state) h)) (Ok (length state)) (write d 0 state) refl refl

    -- as the code finds it
    module _ (end : ℕ) (e : end ≡ length (records mem)) where
      pub saves_no_room : length d < end + tail_length → Saves mem d (Err Small) d
      saves_no_room h = saves_full (omega (arith, size))

      -- the records, the options and the trailer, one behind the other
      pub saves_whole : end + tail_length ≤ length d → (d₁ d₂ d₃ : List ℕ) (c x k : ℕ) → c ≡ count_of mem → x ≡ next_of mem → k ≡ counter_byte mem
          → d₁ ≡ write d 0 (records mem) → d₂ ≡ write d₁ end (options_bytes (options_from (head_of mem))) → d₃ ≡ write d₂ (end + row_length options_row) (trailer_bytes end c x k)
          → Saves mem d (Ok (end + tail_length)) d₃
      saves_whole h d₁ d₂ d₃ c x k f g j p q r =
          let os : List ℕ = options_bytes (options_from (head_of mem)) in
          let ts : List ℕ = trailer_bytes end (count_of mem) (next_of mem) (counter_byte mem) in
          let all : state ≡ records mem ++ (os ++ ts) = parts end e ∙ rw (saved_length (nodes_of mem), nodes_count mem) in
          let a : 0 + length (records mem) ≡ end = zero-add (length (records mem)) ∙ sym e in
          let w : write d 0 state ≡ write (write (write d 0 (records mem)) end os) (end + row_length options_row) ts =
          ap (write d 0) all ∙ write_append d 0 (records mem) (os ++ ts) ∙ write_append (write d 0 (records mem)) (0 + length (records mem)) os ts
          ∙ rw (a, options_length (options_from (head_of mem))) in
          let last : d₃ ≡ write d 0 state = r ∙ rw (f, g, j, q, p) (sym w) in
          let s : end + tail_length ≡ length state = omega (arith, size) in
          rw (last, s) (saves_all (omega (arith, size)))

-- ---- from the answer to what is left

not_small : (n : ℕ) → ◌≡◌ {A = Result ℕ VfsError} (Ok n) (Err Small) → ⊥
not_small n e = cc

same_count : (n m : ℕ) → ◌≡◌ {A = Result ℕ VfsError} (Ok n) (Ok m) → n ≡ m
same_count n m e = cc

-- the theorem: where a save is done, the whole state stands in the lent output
pub done_holds : DoneHolds
done_holds mem d n e w = by_laid (laid mem) refl
  where
    whole : laid mem ≡ true → length (state mem d) ≤ length d → Holds mem d n e
    whole l h =
        let o = saves_once mem d _ _ _ _ w (saves_all mem d l h) in
        let k : n ≡ length (state mem d) = same_count n (length (state mem d)) o.0 in
        record { rule = l; count = k; bytes = o.1 ∙ write_over d (state mem d) h ∙ ap (λ (j : ℕ). state mem d ++ drop j d) (sym k) }

    by_room : laid mem ≡ true → Dec (length (state mem d) ≤ length d) → Holds mem d n e
    by_room l (yes h) = whole l h
    by_room l (no h) = absurd (not_small n (saves_once mem d _ _ _ _ w (saves_full mem d l (omega arith))).0)

    by_laid : (b : Bool) → laid mem ≡ b → Holds mem d n e
    by_laid true l = by_room l (dec_le (length (state mem d)) (length d))
    by_laid false l = absurd (not_small n (saves_once mem d _ _ _ _ w (saves_small mem d l)).0)

-- the theorem: where it is refused, every byte is as it was
pub small_leaves : SmallLeaves
small_leaves mem d e w = by_laid (laid mem) refl
  where
    by_room : laid mem ≡ true → Dec (length (state mem d) ≤ length d) → e ≡ d
    by_room l (yes h) = absurd (not_small (length (state mem d)) (saves_once mem d (Ok (length (state mem d))) (Err Small) _ _ (saves_all mem d l h) w).0)
    by_room l (no h) = (saves_once mem d (Err Small) (Err Small) _ _ w (saves_full mem d l (omega arith))).1

    by_laid : (b : Bool) → laid mem ≡ b → e ≡ d
    by_laid true l = by_room l (dec_le (length (state mem d)) (length d))
    by_laid false l = (saves_once mem d (Err Small) (Err Small) _ _ w (saves_small mem d l)).1

-- ---- how much is written at most

-- whatever the rows are, their names are short
names_to : (f : ℕ → Node) → ((j : ℕ) → length (f j).name ≤ 255) → (i k : ℕ) → NamesTo 255 (saved_nodes (tab f i k))
unfolding NamesTo saved_nodes tab
names_to f h i zero = tt
names_to f h i (suc k) = (h i, names_to f h (i + 1) k)

at_most : (mem : List ℕ) → laid mem ≡ true → length (encode (saved_state (view mem))) ≤ 279335
unfolding saved_state view
at_most mem l =
    let r = laid_is mem l in
    let few : length (saved_nodes (nodes_of mem)) ≤ 1023 = omega (arith, saved_length (nodes_of mem), nodes_count mem, r.live, r.few_nodes) in
    let short : NamesTo 255 (saved_nodes (nodes_of mem)) =
    rw (nodes_of_lem mem) (names_to (node_at (capacity_of mem) mem) (λ j. name_short (capacity_of mem) mem j _ refl) 0 (count_of mem)) in
    longest.most (saved_state (view mem)) few short

-- the theorem: no save writes more than 279,335 bytes
pub never_longer : NeverLonger
never_longer mem d n e w = let h = done_holds mem d n e w in omega (arith, at_most mem h.rule, h.count)

-- the theorem: 279,335 bytes are enough for every state
pub enough : Enough
enough mem d r e l h w = (saves_once mem d _ _ _ _ w (saves_all mem d l (omega (arith, at_most mem l)))).0
