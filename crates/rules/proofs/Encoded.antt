-- The bytes of a state: how long they are, and that the state is read back from them. Assumes nothing.
use mathlib.Core.Path.{◌≡◌, refl, sym, ap, ap₂, ◌∙◌}
use mathlib.Core.Bool.{true}
use mathlib.Core.List.{List, [], ◌∷◌, ◌++◌, append_assoc, append-nil}
use Prim.Native.Nat.{ℕ, ◌+◌, ◌≤◌, ◌<◌}
use native.Mathlib.Nat.{zero-add}
use native.Mathlib.Omega.{arith}
use lib.ListN.{length, get_or, length-append}
use lib.Dec.{lit<}
use borrow.Author.Tests.{le-leb, lt-ltb, eq-eqb}
use Rattle.rules.specs.Fields.{read, fields, row_length, field_at}
use Rattle.rules.specs.Instance.{Options, flag_limit}
use Rattle.rules.specs.Saved.{SavedNode, State, node_row, record_number_field, record_parent_field, record_name_field, options_row, saved_in_opts_field, saved_out_opts_field, saved_internal_field, saved_external_field, saved_range_field, saved_flags_field, saved_zeros_field, trailer_row, trailer_offset_field, trailer_records_field, trailer_next_field, trailer_counter_field, trailer_version_field, trailer_zeros_field, tail_length, saved_version, options_values, node_bytes, nodes_bytes, options_bytes, trailer_bytes, encode, name_length, name_start, saved_node_at, behind, saved_nodes_at, end_at, saved_options_at, options_start, trailer_start, options_field, saved_offset, saved_records, saved_next, saved_counter, state_of, laid_out, valid, accepted}
use Rattle.rules.specs.claims.RoundTrip.{SavedNodeFits, SavedNodesFit, Fits}
use Rattle.rules.proofs.Tests.{pass}
use Rattle.rules.proofs.Fields.{fields_at, read_behind, Fit, fields_length, field_at_lem, fields_read}

-- ---- one record, written and read

abbrev head_of : SavedNode → List ℕ
head_of n = n.number ∷ n.parent ∷ length n.name ∷ []

head_fit : (n : SavedNode) → SavedNodeFits n → Fit node_row (head_of n)
unfolding Fit
head_fit n f = (f.number, (f.parent, (f.name, tt)))

module _ (n : SavedNode) (pre post : List ℕ) (at : ℕ) (e : length pre ≡ at) (f : SavedNodeFits n) where
  abbrev head : List ℕ
  head = fields node_row (head_of n)

  abbrev whole : List ℕ
  whole = pre ++ (head ++ (n.name ++ post))

  row : fields_at node_row whole at ≡ head_of n
  row = fields_read node_row _ pre (n.name ++ post) at e (head_fit n f)

  -- each field is what was written
  field_is : (k : ℕ) → k < length node_row → field_at node_row k whole at ≡ get_or (head_of n) k 0
  field_is k h = field_at_lem node_row whole k at h ∙ ap (λ (vs : List ℕ). get_or vs k 0) row

  size : name_length whole at ≡ length n.name
  size = field_is record_name_field (lit< tt)

  name_read : read whole (name_start at) (name_length whole at) ≡ n.name
  name_read =
      let l : length (pre ++ head) ≡ name_start at = length-append pre head ∙ ap₂ (λ (x y : ℕ). x + y) e (fields_length node_row _ refl) in
      ap (read whole (name_start at)) size
      ∙ ap (λ (b : List ℕ). read b (name_start at) (length n.name)) (sym (append_assoc pre head (n.name ++ post)))
      ∙ read_behind (pre ++ head) n.name post (name_start at) l

  node_read : saved_node_at whole at ≡ n
  unfolding saved_node_at
  node_read = λ i. record { number = field_is record_number_field (lit< tt) i; parent = field_is record_parent_field (lit< tt) i; name = name_read i }

  node_behind : behind whole at ≡ name_start at + length n.name
  node_behind = ap (λ (k : ℕ). name_start at + k) size

pub node_length : (n : SavedNode) → length (node_bytes n) ≡ row_length node_row + length n.name
unfolding node_bytes
node_length n = length-append (fields node_row _) n.name ∙ ap (λ (k : ℕ). k + length n.name) (fields_length node_row (head_of n) refl)

-- ---- records one behind the other

regroup : (n : SavedNode) (ns : List SavedNode) (pre post : List ℕ)
    → pre ++ (nodes_bytes (n ∷ ns) ++ post) ≡ pre ++ (fields node_row (head_of n) ++ (n.name ++ (nodes_bytes ns ++ post)))
unfolding nodes_bytes node_bytes
regroup n ns pre post = simp append_assoc

rest_behind : (n : SavedNode) (ns : List SavedNode) (pre post : List ℕ) → pre ++ (nodes_bytes (n ∷ ns) ++ post) ≡ (pre ++ node_bytes n) ++ (nodes_bytes ns ++ post)
unfolding nodes_bytes
rest_behind n ns pre post = simp append_assoc

rest_length : (n : SavedNode) (pre : List ℕ) (at : ℕ) → length pre ≡ at → length (pre ++ node_bytes n) ≡ name_start at + length n.name
rest_length n pre at e = omega (arith, length-append pre (node_bytes n), node_length n)

nodes_read : (ns : List SavedNode) (pre post : List ℕ) (at : ℕ) → length pre ≡ at → SavedNodesFit ns → saved_nodes_at (pre ++ (nodes_bytes ns ++ post)) (length ns) at ≡ ns
unfolding saved_nodes_at SavedNodesFit
nodes_read [] pre post at e f = refl
nodes_read (n ∷ ns) pre post at e f =
    let b : List ℕ = pre ++ (nodes_bytes (n ∷ ns) ++ post) in
    let g = regroup n ns pre post in
    let first : saved_node_at b at ≡ n = ap (λ (l : List ℕ). saved_node_at l at) g ∙ node_read n pre (nodes_bytes ns ++ post) at e f.0 in
    let on : behind b at ≡ name_start at + length n.name = ap (λ (l : List ℕ). behind l at) g ∙ node_behind n pre (nodes_bytes ns ++ post) at e f.0 in
    let rest : saved_nodes_at b (length ns) (name_start at + length n.name) ≡ ns =
    ap (λ (l : List ℕ). saved_nodes_at l (length ns) (name_start at + length n.name)) (rest_behind n ns pre post)
    ∙ nodes_read ns (pre ++ node_bytes n) post (name_start at + length n.name) (rest_length n pre at e) f.1 in
    λ i. first i ∷ (ap (saved_nodes_at b (length ns)) on ∙ rest) i

nodes_end : (ns : List SavedNode) (pre post : List ℕ) (at : ℕ) → length pre ≡ at → SavedNodesFit ns
    → end_at (pre ++ (nodes_bytes ns ++ post)) (length ns) at ≡ at + length (nodes_bytes ns)
unfolding end_at SavedNodesFit nodes_bytes
nodes_end [] pre post at e f = omega arith
nodes_end (n ∷ ns) pre post at e f =
    let b : List ℕ = pre ++ (nodes_bytes (n ∷ ns) ++ post) in
    let on : behind b at ≡ name_start at + length n.name =
    ap (λ (l : List ℕ). behind l at) (regroup n ns pre post) ∙ node_behind n pre (nodes_bytes ns ++ post) at e f.0 in
    let rest : end_at b (length ns) (name_start at + length n.name) ≡ name_start at + length n.name + length (nodes_bytes ns) =
    ap (λ (l : List ℕ). end_at l (length ns) (name_start at + length n.name)) (rest_behind n ns pre post)
    ∙ nodes_end ns (pre ++ node_bytes n) post (name_start at + length n.name) (rest_length n pre at e) f.1 in
    ap (end_at b (length ns)) on ∙ omega (arith, rest, length-append (node_bytes n) (nodes_bytes ns), node_length n)

-- ---- the whole state, written and read

pub options_length : (o : Options) → length (options_bytes o) ≡ row_length options_row
unfolding options_bytes
options_length o = fields_length options_row (options_values o) refl

abbrev trailer_values : ℕ → ℕ → ℕ → ℕ → List ℕ
trailer_values offset count next counter = offset ∷ count ∷ next ∷ counter ∷ saved_version ∷ 0 ∷ []

trailer_length : (a b c d : ℕ) → length (trailer_bytes a b c d) ≡ row_length trailer_row
unfolding trailer_bytes
trailer_length a b c d = fields_length trailer_row (trailer_values a b c d) refl

pub encode_length : (s : State) → length (encode s) ≡ length (nodes_bytes s.nodes) + tail_length
unfolding encode
encode_length s =
    let L = length (nodes_bytes s.nodes) in
    let T = trailer_bytes L (length s.nodes) s.next s.counter in
    omega (arith, length-append (nodes_bytes s.nodes) (options_bytes s.options ++ T), length-append (options_bytes s.options) T, options_length s.options, trailer_length L (length s.nodes) s.next s.counter)

-- ---- where the options and the trailer stand: in bytes that are long enough, and in those of a state

pub options_start_lem : (b : List ℕ) → tail_length ≤ length b → options_start b + tail_length ≡ length b
unfolding options_start
options_start_lem b h = omega arith

pub trailer_start_lem : (b : List ℕ) → row_length trailer_row ≤ length b → trailer_start b + row_length trailer_row ≡ length b
unfolding trailer_start
trailer_start_lem b h = omega arith

pub options_encoded : (s : State) → options_start (encode s) ≡ length (nodes_bytes s.nodes)
options_encoded s = omega (arith, encode_length s, options_start_lem (encode s) (omega (arith, encode_length s)))

pub trailer_encoded : (s : State) → trailer_start (encode s) ≡ length (nodes_bytes s.nodes) + row_length options_row
trailer_encoded s = omega (arith, encode_length s, trailer_start_lem (encode s) (omega (arith, encode_length s)))

-- ---- a state that fits its widths is read back

module _ (s : State) (f : Fits s) where
  abbrev L : ℕ
  L = length (nodes_bytes s.nodes)

  abbrev M : ℕ
  M = L + row_length options_row

  abbrev o : Options
  o = s.options

  abbrev T : List ℕ
  T = trailer_bytes L (length s.nodes) s.next s.counter

  abbrev b : List ℕ
  b = encode s

  options_row_lem : fields_at options_row (encode s) L ≡ options_values o
  unfolding encode options_bytes Fit
  options_row_lem =
      let w = f.options in
      fields_read options_row _ (nodes_bytes s.nodes) T L refl
      (w.in_opts, (w.out_opts, (search w, (search w, (w.range, (omega (arith, w.flags), (omega arith, tt)))))))

  trailer_row_lem : fields_at trailer_row (encode s) M ≡ trailer_values L (length s.nodes) s.next s.counter
  unfolding encode trailer_bytes Fit
  trailer_row_lem =
      let l : length (nodes_bytes s.nodes ++ options_bytes o) ≡ M = omega (arith, length-append (nodes_bytes s.nodes) (options_bytes o), options_length o) in
      let g : nodes_bytes s.nodes ++ (options_bytes o ++ T) ≡ (nodes_bytes s.nodes ++ options_bytes o) ++ (T ++ []) = simp (append_assoc, append-nil) in
      ap (λ (x : List ℕ). fields_at trailer_row x (M)) g
      ∙ fields_read trailer_row _ (nodes_bytes s.nodes ++ options_bytes o) [] (M) l
      (f.offset, (f.count, (f.next, (f.counter, (omega arith, (omega arith, tt))))))

  -- each field of the two rows, where it is looked for
  options_is : (k : ℕ) → k < length options_row → field_at options_row k b (options_start b) ≡ get_or (options_values o) k 0
  options_is k h = ap (field_at options_row k b) (options_encoded s) ∙ field_at_lem options_row b k L h ∙ ap (λ (vs : List ℕ). get_or vs k 0) options_row_lem

  trailer_is : (k : ℕ) → k < length trailer_row → field_at trailer_row k b (trailer_start b) ≡ get_or (trailer_values L (length s.nodes) s.next s.counter) k 0
  trailer_is k h = ap (field_at trailer_row k b) (trailer_encoded s) ∙ field_at_lem trailer_row b k M h ∙ ap (λ (vs : List ℕ). get_or vs k 0) trailer_row_lem

  count_read : saved_records b ≡ length s.nodes
  unfolding saved_records
  count_read = trailer_is trailer_records_field (lit< tt)

  options_read_lem : saved_options_at b (options_start b) ≡ o
  unfolding saved_options_at
  options_read_lem = λ i. record {
    in_opts = options_is saved_in_opts_field (lit< tt) i;
    out_opts = options_is saved_out_opts_field (lit< tt) i;
    mapping = record {
      internal = options_is saved_internal_field (lit< tt) i;
      external = options_is saved_external_field (lit< tt) i;
      range = options_is saved_range_field (lit< tt) i;
    };
    flags = options_is saved_flags_field (lit< tt) i;
  }

  nodes_back : saved_nodes_at b (saved_records b) 0 ≡ s.nodes
  unfolding encode
  nodes_back = ap (λ (k : ℕ). saved_nodes_at (encode s) k 0) count_read ∙ nodes_read s.nodes [] (options_bytes o ++ T) 0 refl f.nodes

  ends : end_at b (saved_records b) 0 ≡ L
  unfolding encode
  ends = ap (λ (k : ℕ). end_at (encode s) k 0) count_read ∙ nodes_end s.nodes [] (options_bytes o ++ T) 0 refl f.nodes ∙ zero-add L

  pub state_read : state_of (encode s) ≡ s
  unfolding state_of saved_next saved_counter
  state_read = λ i. record {
    nodes = nodes_back i;
    options = options_read_lem i;
    next = trailer_is trailer_next_field (lit< tt) i;
    counter = trailer_is trailer_counter_field (lit< tt) i;
  }

  laid_out_lem : laid_out (encode s) ≡ true
  unfolding laid_out saved_offset
  laid_out_lem =
      let flags = options_is saved_flags_field (lit< tt) in
      pass _ (
        le-leb tail_length (length b) (omega (arith, encode_length s)),
        (
          eq-eqb _ _ (trailer_is trailer_offset_field (lit< tt) ∙ sym (options_encoded s)),
          (
            eq-eqb _ _ (trailer_is trailer_version_field (lit< tt)),
            (
              eq-eqb _ _ (trailer_is trailer_zeros_field (lit< tt)),
              (
                eq-eqb _ _ (options_is saved_zeros_field (lit< tt)),
                (lt-ltb (options_field saved_flags_field b) flag_limit (omega (arith, f.options.flags, flags)), (eq-eqb _ _ (ends ∙ sym (options_encoded s)), tt)),
              ),
            ),
          ),
        ),
      )

-- a state that fits and is valid is accepted
pub is_accepted : (s : State) → Fits s → valid s ≡ true → accepted (encode s) ≡ true
unfolding accepted
is_accepted s f v = rw (laid_out_lem s f, state_read s f) v
