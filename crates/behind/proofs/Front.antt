-- Bytes with a rest behind them: what is read and written among the first. Assumes nothing.
use mathlib.Core.Path.{◌≡◌, refl, sym, ap, ◌∙◌, subst}
use mathlib.Core.Bool.{Bool, true}
use mathlib.Core.List.{List, [], ◌∷◌, ◌++◌}
use Rattle.std.specs.Prelude.{Option}
use Prim.Native.Nat.{ℕ, ◌+◌, ◌-◌, ◌*◌, ◌≤◌, ◌<◌}
use native.Mathlib.Nat.{mul-add, mul-le-mul_left}
use native.Mathlib.Omega.{arith}
use lib.ListN.{length, take, drop, take-append-drop, length-append, get_or-append}
use lib.Seq.{length-take-le}
use Rattle.le.specs.Mem.{read, write, bytes_of, get}
use Rattle.le.proofs.Lens.{length-write, read_ext}
use Rattle.le.proofs.Writes.{write_before}
use Rattle.rules.specs.Numbers.{storage_for}
use Rattle.rules.specs.Tree.{Mount}
use Rattle.rules.proofs.Fields.{length_read, length_bytes_of}
use Rattle.tables.specs.Table.{Col, off, row, put_row, close_up}
use Rattle.tables.proofs.Table.{Beneath, Fit}
use Rattle.tables.specs.Layout.{table_at, header, slot_table, node_table, capacity_of, count_of, next_of, capacity_field, count_field, next_field}
use Rattle.tables.specs.View.{field, slot_from, node_from, instance_from, head_of, slot_at, node_at, slots_of, nodes_from, nodes_of, view}
use Rattle.tables.specs.Laid.{laid, laid_by, Bounds}
use Rattle.tables.specs.Write.{from_place, put_header, set_count, set_next, yes_byte, set_held, set_tag, set_slot, row_mount_cells, set_row_mount, node_cells, append_node, remove_row}
use Rattle.tables.proofs.Tab.{tab_same}
use Rattle.tables.proofs.Table.{cell_end, length_put_row, length_close_up, row_low}
use Rattle.tables.proofs.Spells.{cells_fit, mount_fit}
use Rattle.tables.proofs.Heads.{two_fields, one_fit, fields_fit}
use Rattle.tables.proofs.Keeps.{laid_is, is_ruled, laid_ruled}
use Rattle.behind.specs.Behind.{LeavesRest}

-- other bytes with the same header keep the layout rule, where they are enough
same_head : (mem m' : List ℕ) → laid mem ≡ true → head_of m' ≡ head_of mem → storage_for (capacity_of mem) ≤ length m' → laid m' ≡ true
unfolding laid row get
same_head mem m' e h l =
    let r = laid_ruled mem e in
    ap (λ (x : List (List ℕ)). laid_by x (length m')) h
    ∙ is_ruled (head_of mem) (length m') (record {
      size = record { long = omega arith; marked = r.size.marked; some_node = r.size.some_node; few_nodes = r.size.few_nodes; enough = l };
      live = r.live;
      low = r.low;
      top = r.top;
      bits = r.bits;
      flags = r.flags;
      maps = r.maps;
    })

module _ (rest : List ℕ) where
  -- ---- runs

  read_front : (mem : List ℕ) (p k : ℕ) → p + k ≤ length mem → read (mem ++ rest) p k ≡ read mem p k
  read_front mem p k h = read_ext (mem ++ rest) mem p p k (λ i l. get_or-append mem rest 0 (p + i) (omega arith))

  -- ---- rows

  row_front : (n : ℕ) (cs : List Col) (mem : List ℕ) (j : ℕ) → j < n → Beneath n cs (length mem) → row cs (mem ++ rest) j ≡ row cs mem j
  row_front n cs mem j l b = row_low n cs (mem ++ rest) mem j (length mem) l b (λ q w h. read_front mem q w h)

  put_front : (n : ℕ) (cs : List Col) (xs : List (List ℕ)) (mem : List ℕ) (i : ℕ) → i < n → Beneath n cs (length mem) → Fit cs xs → put_row cs xs (mem ++ rest) i ≡ put_row cs xs mem i ++ rest
  unfolding put_row
  put_front n [] xs mem i l b f = refl
  put_front n (c ∷ cs) [] mem i l b f = refl
  put_front n (c ∷ cs) (x ∷ xs) mem i l b f =
      let end = b.0 in
      let fit = f.0 in
      ap (λ (m : List ℕ). put_row cs xs m i) (write_before mem rest (off c i) x (omega (arith, cell_end c i n l)))
      ∙ put_front n cs xs (write mem (off c i) x) i l (subst (λ (e : ℕ). Beneath n cs e) (sym (length-write mem (off c i) x)) b.1) f.1

  close_front : (n k m : ℕ) → k + 1 + m ≤ n → (cs : List Col) (mem : List ℕ) → Beneath n cs (length mem) → close_up cs (mem ++ rest) k m ≡ close_up cs mem k m ++ rest
  unfolding close_up
  close_front n k m h [] mem b = refl
  close_front n k m h (c ∷ cs) mem b =
      let end = b.0 in
      let l : ℕ = c.width * m in
      let bs : List ℕ = read mem (off c (k + 1)) l in
      let wide = mul-le-mul_left c.width h in
      let sum : c.width * (k + 1 + m) ≡ c.width * k + c.width * 1 + c.width * m = mul-add c.width (k + 1) m ∙ ap (λ (x : ℕ). x + c.width * m) (mul-add c.width k 1) in
      let next = mul-add c.width k 1 in
      let size = length_read mem (off c (k + 1)) l in
      ap (λ (r : List ℕ). close_up cs (write (mem ++ rest) (off c k) r) k m) (read_front mem (off c (k + 1)) l (omega arith))
      ∙ ap (λ (x : List ℕ). close_up cs x k m) (write_before mem rest (off c k) bs (omega arith))
      ∙ close_front n k m h cs (write mem (off c k) bs) (subst (λ (e : ℕ). Beneath n cs e) (sym (length-write mem (off c k) bs)) b.1)

  -- ---- the instance

  module _ (mem : List ℕ) (long : table_at ≤ length mem) where
    pub header_front : (k : ℕ) (xs : List (List ℕ)) → Fit header (from_place k xs) → LeavesRest (put_header k xs) mem rest
    unfolding put_header
    header_front k xs f = put_front 1 header (from_place k xs) mem 0 (omega arith) (omega arith) f

    pub slot_front : (k : ℕ) (held : Bool) (tag : ℕ) → k < 256 → LeavesRest (set_slot k held tag) mem rest
    unfolding set_slot set_tag set_held put_row
    slot_front k held tag h =
        put_front 256 slot_table (bytes_of 1 (yes_byte held) ∷ bytes_of 4 tag ∷ []) mem k h (omega arith) (omega (arith, length_bytes_of 1 (yes_byte held), length_bytes_of 4 tag))

    head_front : head_of (mem ++ rest) ≡ head_of mem
    head_front = row_front 1 header mem 0 (omega arith) (omega arith)

    slots_front : slots_of (mem ++ rest) ≡ slots_of mem
    unfolding slots_of slot_at
    slots_front = tab_same _ _ 0 256 (λ j a b. ap slot_from (row_front 256 slot_table mem j b (omega arith)))

  module _ (mem : List ℕ) (d : Bounds mem) where
    abbrev n : ℕ
    n = capacity_of mem

    abbrev c : ℕ
    c = count_of mem

    long : table_at ≤ length mem
    long = omega (arith, d.long)

    beneath : Beneath n (node_table n) (length mem)
    beneath = omega (arith, d.long)

    capacity_front : capacity_of (mem ++ rest) ≡ n
    unfolding row get
    capacity_front = ap (λ (h : List (List ℕ)). field capacity_field h) (head_front mem long)

    count_front : count_of (mem ++ rest) ≡ c
    unfolding row get
    count_front = ap (λ (h : List (List ℕ)). field count_field h) (head_front mem long)

    next_front : next_of (mem ++ rest) ≡ next_of mem
    unfolding row get
    next_front = ap (λ (h : List (List ℕ)). field next_field h) (head_front mem long)

    nodes_front : nodes_from n (mem ++ rest) 0 c ≡ nodes_from n mem 0 c
    unfolding nodes_from node_at
    nodes_front = tab_same _ _ 0 c (λ j a b. ap node_from (row_front n (node_table n) mem j (omega (arith, d.live)) beneath))

    pub view_front : view (mem ++ rest) ≡ view mem
    unfolding view nodes_of row get
    view_front =
        let h = head_front mem long in
        let nodes : nodes_from (field capacity_field (head_of (mem ++ rest))) (mem ++ rest) 0 (field count_field (head_of (mem ++ rest))) ≡ nodes_from (field capacity_field (head_of mem)) mem 0 (field count_field (head_of mem)) =
        (λ t. nodes_from (field capacity_field (h t)) (mem ++ rest) 0 (field count_field (h t))) ∙ nodes_front in
        λ t. instance_from (h t) (slots_front mem long t) (nodes t)

    pub row_mount_front : (m : Option Mount) (i : ℕ) → i < c → LeavesRest (set_row_mount m i) mem rest
    unfolding set_row_mount
    row_mount_front m i h =
        ap (λ (k : ℕ). put_row (node_table k) (row_mount_cells m) (mem ++ rest) i) capacity_front
        ∙ put_front n (node_table n) (row_mount_cells m) mem i (omega (arith, d.live)) beneath (mount_fit m n)

    pub append_front : (parent : ℕ) (p : List ℕ) → length p ≤ 255 → LeavesRest (append_node parent p) mem rest
    unfolding append_node
    append_front parent p l =
        let x : ℕ = next_of mem in
        let cells = node_cells x parent p in
        let m' = put_row (node_table n) cells mem c in
        let size : length m' ≡ length mem = length_put_row (node_table n) cells mem c in
        (λ t. set_next (next_front t + 1) (set_count (count_front t + 1) (put_row (node_table (capacity_front t)) (node_cells (next_front t) parent p) (mem ++ rest) (count_front t))))
        ∙ ap (λ (m : List ℕ). set_next (x + 1) (set_count (c + 1) m)) (put_front n (node_table n) cells mem c d.live beneath (cells_fit n x parent p l))
        ∙ two_fields (c + 1) (x + 1) (m' ++ rest)
        ∙ header_front m' (omega (arith, d.long)) 2 (bytes_of 8 (c + 1) ∷ bytes_of 8 (x + 1) ∷ []) (fields_fit (c + 1) (x + 1))
        ∙ ap (λ (m : List ℕ). m ++ rest) (sym (two_fields (c + 1) (x + 1) m'))

    pub remove_front : (i : ℕ) → i < c → LeavesRest (remove_row i) mem rest
    unfolding remove_row set_count
    remove_front i h =
        let m' = close_up (node_table n) mem i (c - 1 - i) in
        let size : length m' ≡ length mem = length_close_up (node_table n) mem i (c - 1 - i) in
        (λ t. set_count (count_front t - 1) (close_up (node_table (capacity_front t)) (mem ++ rest) i (count_front t - 1 - i)))
        ∙ ap (set_count (c - 1)) (close_front n i (c - 1 - i) (omega (arith, d.live)) (node_table n) mem beneath)
        ∙ header_front m' (omega (arith, d.long)) 2 (bytes_of 8 (c - 1) ∷ []) (one_fit (c - 1))

  pub laid_front : (mem : List ℕ) → laid mem ≡ true → laid (mem ++ rest) ≡ true
  laid_front mem e =
      let d = laid_is mem e in
      same_head mem (mem ++ rest) e (head_front mem (omega (arith, d.long))) (omega (arith, d.long, length-append mem rest))

-- the bytes that an instance needs
pub first_laid : (s : List ℕ) → laid s ≡ true → laid (take (storage_for (capacity_of s)) s) ≡ true
first_laid s e =
    let d = laid_is s e in
    let n : ℕ = capacity_of s in
    let size : length (take (storage_for n) s) ≡ storage_for n = length-take-le (storage_for n) s d.long in
    same_head s (take (storage_for n) s) e
    (sym (head_front (drop (storage_for n) s) (take (storage_for n) s) (omega arith)) ∙ ap head_of (take-append-drop (storage_for n) s)) (omega arith)
