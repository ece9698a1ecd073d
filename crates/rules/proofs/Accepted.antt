-- Bytes that are accepted: the state that they give is written as these bytes again, fits its widths and is good. Assumes nothing.
use mathlib.Core.Path.{◌≡◌, refl, sym, ap, ap₂, ◌∙◌}
use mathlib.Core.Bool.{true}
use mathlib.Core.List.{List, [], ◌∷◌, ◌++◌}
use Prim.Native.Nat.{ℕ, zero, suc, ◌+◌, ◌-◌, ◌≤◌}
use native.Mathlib.Nat.{zero-add, add_assoc}
use native.Mathlib.Omega.{arith}
use lib.ListN.{length}
use lib.Dec.{eqb}
use borrow.Author.Tests.{leb-true, eqb-true, ltb-true}
use Rattle.rules.specs.Bytes.{Bytes}
use Rattle.rules.specs.Fields.{read, fields, row_length, field_at}
use Rattle.rules.specs.Saved.{SavedNode, node_row, record_number_field, record_parent_field, options_row, saved_flags_field, saved_zeros_field, trailer_row, trailer_offset_field, trailer_version_field, trailer_zeros_field, tail_length, saved_version, head_bytes, node_bytes, nodes_bytes, options_bytes, trailer_bytes, encode, name_length, name_start, saved_node_at, behind, saved_nodes_at, end_at, saved_options_at, options_start, trailer_start, options_field, trailer_field, saved_offset, saved_records, saved_next, saved_counter, state_of, frame, laid_out, valid, accepted}
use Rattle.rules.specs.claims.RoundTrip.{SavedNodesFit, Fits}
use Rattle.rules.proofs.Tests.{and_both, Holds, passed}
use Rattle.rules.proofs.Fields.{fields_at, length_read, read_add, read_all, get_fits, fields_back}
use Rattle.rules.proofs.Encoded.{options_start_lem, trailer_start_lem}

-- the records from a place on end there or behind it
pub ends_on : (b : List ℕ) (k at : ℕ) → at ≤ end_at b k at
unfolding end_at
ends_on b zero at = omega arith
ends_on b (suc k) at = omega (arith, ends_on b k (behind b at))

node_back : (b : List ℕ) (at : ℕ) → Bytes b → node_bytes (saved_node_at b at) ≡ read b at (row_length node_row + name_length b at)
unfolding node_bytes saved_node_at fields_at
node_back b at h =
    let n : ℕ = name_length b at in
    let l : length (read b (name_start at) n) ≡ n = length_read b (name_start at) n in
    let r : head_bytes (field_at node_row record_number_field b at) (field_at node_row record_parent_field b at) n ≡ read b at (row_length node_row) = simp add_assoc at (fields_back node_row b at h) in
    rw l (ap (λ (x : List ℕ). x ++ read b (name_start at) n) r ∙ sym (read_add b at (row_length node_row) n))

nodes_written : (b : List ℕ) (k at : ℕ) → Bytes b → nodes_bytes (saved_nodes_at b k at) ≡ read b at (end_at b k at - at)
unfolding nodes_bytes saved_nodes_at end_at read
nodes_written b zero at h =
    let z : at - at ≡ 0 = omega arith in
    rw z
nodes_written b (suc k) at h =
    let n : ℕ = row_length node_row + name_length b at in
    let a : behind b at ≡ at + n = omega arith in
    let s : end_at b k (behind b at) - at ≡ n + (end_at b k (behind b at) - behind b at) = omega (arith, ends_on b k (behind b at)) in
    rw s
    (ap₂ (λ (x y : List ℕ). x ++ y) (node_back b at h) (nodes_written b k (behind b at) h ∙ ap (λ (p : ℕ). read b p (end_at b k (behind b at) - behind b at)) a)
    ∙ sym (read_add b at n (end_at b k (behind b at) - behind b at)))

pub nodes_count : (b : List ℕ) (k at : ℕ) → length (saved_nodes_at b k at) ≡ k
unfolding saved_nodes_at
nodes_count b zero at = refl
nodes_count b (suc k) at = ap suc (nodes_count b k (behind b at))

nodes_fit : (b : List ℕ) (k at : ℕ) → Bytes b → SavedNodesFit (saved_nodes_at b k at)
unfolding SavedNodesFit saved_nodes_at saved_node_at
nodes_fit b zero at h = tt
nodes_fit b (suc k) at h = (
  record {
    number = get_fits _ b _ h;
    parent = get_fits _ b _ h;
    name = rw (length_read b (name_start at) (name_length b at)) (get_fits _ b _ h);
  },
  nodes_fit b k (behind b at) h,
)

pub clauses : (b : List ℕ) → accepted b ≡ true → (laid_out b ≡ true) × (valid (state_of b) ≡ true)
unfolding accepted
clauses b a = and_both (laid_out b) (valid (state_of b)) a

module _ (b : List ℕ) (h : Bytes b) (a : accepted b ≡ true) where
  abbrev E : ℕ
  E = options_start b

  abbrev t : ℕ
  t = trailer_start b

  laid : Holds (frame b ++ (eqb (end_at b (saved_records b) 0) E ∷ []))
  unfolding laid_out
  laid = passed _ (clauses b a).0

  long : E + tail_length ≡ length b
  long = options_start_lem b (leb-true tail_length (length b) laid.0)

  behind_options : t ≡ E + row_length options_row
  behind_options = omega (arith, long, trailer_start_lem b (omega (arith, long)))

  records_back : nodes_bytes (saved_nodes_at b (saved_records b) 0) ≡ read b 0 E
  records_back =
      let e : end_at b (saved_records b) 0 - 0 ≡ E = omega (arith, eqb-true (end_at b (saved_records b) 0) E laid.1.1.1.1.1.1.0) in
      nodes_written b (saved_records b) 0 h ∙ ap (read b 0) e

  options_back_lem : options_bytes (saved_options_at b E) ≡ read b E (row_length options_row)
  unfolding options_bytes saved_options_at fields_at
  options_back_lem =
      let z : options_field saved_zeros_field b ≡ 0 = eqb-true (options_field saved_zeros_field b) 0 laid.1.1.1.1.0 in
      let r : fields options_row (options_field 0 b ∷ options_field 1 b ∷ options_field 2 b ∷ options_field 3 b ∷ options_field 4 b ∷ options_field 5 b ∷ options_field 6 b ∷ []) ≡ read b E (row_length options_row) =
      simp add_assoc at (fields_back options_row b E h) in
      rw z at r

  offset_is : trailer_field trailer_offset_field b ≡ E
  unfolding saved_offset
  offset_is = eqb-true (trailer_field trailer_offset_field b) E laid.1.0

  trailer_back : trailer_bytes E (saved_records b) (saved_next b) (saved_counter b) ≡ read b t (row_length trailer_row)
  unfolding trailer_bytes fields_at saved_records saved_next saved_counter
  trailer_back =
      let v : trailer_field trailer_version_field b ≡ saved_version = eqb-true (trailer_field trailer_version_field b) saved_version laid.1.1.0 in
      let z : trailer_field trailer_zeros_field b ≡ 0 = eqb-true (trailer_field trailer_zeros_field b) 0 laid.1.1.1.0 in
      let r : fields trailer_row (trailer_field 0 b ∷ trailer_field 1 b ∷ trailer_field 2 b ∷ trailer_field 3 b ∷ trailer_field 4 b ∷ trailer_field 5 b ∷ []) ≡ read b t (row_length trailer_row) =
      simp add_assoc at (fields_back trailer_row b t h) in
      rw (offset_is, v, z) at r

  abbrev N : List SavedNode
  N = saved_nodes_at b (saved_records b) 0

  N-length : length (nodes_bytes N) ≡ E
  N-length = ap length records_back ∙ length_read b 0 E

  pub written : encode (state_of b) ≡ b
  unfolding encode state_of
  written =
      let p : read b E (row_length options_row) ++ read b t (row_length trailer_row) ≡ read b E tail_length =
      rw behind_options (sym (read_add b E (row_length options_row) (row_length trailer_row))) in
      let q : read b 0 E ++ read b E tail_length ≡ read b 0 (E + tail_length) = rw (read_add b 0 E tail_length, zero-add E) in
      rw (N-length, nodes_count b (saved_records b) 0, records_back, options_back_lem, trailer_back, p, q, long) (read_all b)

  pub fits : Fits (state_of b)
  unfolding state_of saved_options_at saved_records saved_next saved_counter
  fits = record {
    nodes = nodes_fit b (saved_records b) 0 h;
    options = record {
      in_opts = get_fits _ b _ h;
      out_opts = get_fits _ b _ h;
      internal = get_fits _ b _ h;
      external = get_fits _ b _ h;
      range = get_fits _ b _ h;
      flags = ltb-true (options_field saved_flags_field b) 64 laid.1.1.1.1.1.0;
    };
    offset = rw (N-length, ← offset_is) (get_fits 4 b _ h);
    count = rw (nodes_count b (saved_records b) 0) (get_fits 4 b _ h);
    next = get_fits _ b _ h;
    counter = get_fits _ b _ h;
  }
