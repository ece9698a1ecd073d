-- Records that are loaded one after the other: what the bytes then stand for, and that they keep the layout rule. Assumes nothing.
use mathlib.Core.Path.{◌≡◌, refl, sym, ap, ap₂, ◌∙◌}
use mathlib.Core.Bool.{true}
use mathlib.Core.List.{List, [], ◌∷◌, ◌++◌, append_assoc, append-nil}
use Prim.Native.Nat.{ℕ, ◌+◌, ◌-◌, ◌^◌, ◌≤◌, ◌<◌}
use native.Mathlib.Omega.{arith}
use lib.ListN.{length, length-append as length_both}
use Rattle.le.specs.Mem.{read, value, bytes_of, get}
use Rattle.rules.specs.Tree.{Node, bare}
use Rattle.rules.specs.Instance.{Instance, with_tree}
use Rattle.rules.specs.Saved.{SavedNode}
use Rattle.rules.specs.StateRestore.{nodes_of_records}
use Rattle.rules.proofs.Fields.{length_bytes_of}
use Rattle.tables.specs.Table.{row}
use Rattle.tables.proofs.Table.{over, Fit}
use Rattle.tables.specs.Layout.{next_at, header, capacity_of, count_of, next_of, capacity_field, count_field, next_field}
use Rattle.tables.specs.View.{field, head_of, nodes_of, view}
use Rattle.tables.specs.Laid.{laid_by, laid, Bounds}
use Rattle.tables.specs.Write.{from_place, set_next}
use Rattle.tables.proofs.Spells.{cell_back}
use Rattle.tables.proofs.Heads.{head_put, view_header}
use Rattle.tables.proofs.Refine.{view_append}
use Rattle.tables.proofs.Keeps.{laid_ruled, is_ruled, laid_is, length_header, length_append, keeps_append}
use Rattle.tables.proofs.RowOf.{nodes_count}
use Rattle.saved_restore.specs.Parts.{Loads, load_node, load_nodes}
use Rattle.saved_restore.proofs.Records.{AllLoad}

-- ---- the next number is set

module _ (mem : List ℕ) (d : Bounds mem) (x : ℕ) (top : x ≤ 2 ^ 56) where
  abbrev xs : List (List ℕ)
  xs = bytes_of 8 x ∷ []

  abbrev H : List (List ℕ)
  H = over header (from_place next_field xs) mem 0

  abbrev after : List ℕ
  after = set_next x mem

  next_fit : Fit header (from_place next_field xs)
  next_fit = omega (arith, length_bytes_of 8 x)

  next_head : head_of after ≡ H
  unfolding set_next
  next_head = head_put next_field xs mem next_fit (omega (arith, d.long))

  next_is : value (bytes_of 8 x ++ read mem (24 + length (bytes_of 8 x)) (8 - length (bytes_of 8 x))) ≡ x
  next_is = cell_back 8 x mem next_at (omega arith)

  next_capacity : capacity_of after ≡ capacity_of mem
  unfolding over row get
  next_capacity = ap (λ (h : List (List ℕ)). field capacity_field h) next_head

  next_count : count_of after ≡ count_of mem
  unfolding over row get
  next_count = ap (λ (h : List (List ℕ)). field count_field h) next_head

  next_next : next_of after ≡ x
  unfolding over row get
  next_next = ap (λ (h : List (List ℕ)). field next_field h) next_head ∙ next_is

  next_length : length after ≡ length mem
  unfolding set_next
  next_length = length_header next_field xs mem

  next_view : view after ≡ with_tree (record { next = x; root = (view mem).tree.root; nodes = (view mem).tree.nodes }) (view mem)
  unfolding set_next view nodes_of over row
  next_view = view_header next_field xs mem next_fit (omega (arith, d.long)) ∙ rw next_is

  pub next_keeps : 2 ≤ x → laid mem ≡ true → laid after ≡ true
  unfolding laid over row
  next_keeps low e =
      let r = laid_ruled mem e in
      ap₂ laid_by next_head next_length
      ∙ is_ruled H (length mem) (record {
        size = r.size;
        live = r.live;
        low = rw next_is low;
        top = rw next_is top;
        bits = r.bits;
        flags = r.flags;
        maps = r.maps;
      })

-- ---- one record more

abbrev pub noded : SavedNode → Node
noded e = bare e.number e.parent e.name

pub record Loaded (e : SavedNode) (mem : List ℕ) : Type 0 where
  pub long : length (load_node e mem) ≡ length mem
  pub keeps : laid (load_node e mem) ≡ true
  pub stands : view (load_node e mem) ≡ with_tree (record { next = e.number + 1; root = (view mem).tree.root; nodes = (view mem).tree.nodes ++ (noded e ∷ []) }) (view mem)

-- its number is set, and the row may be appended
pub record Ready (m' : List ℕ) : Type 0 where
  pub keeps : laid m' ≡ true
  pub room : count_of m' + 1 < capacity_of m'
  pub under : next_of m' < 2 ^ 56

pub ready : (e : SavedNode) (mem : List ℕ) → laid mem ≡ true → Loads e → count_of mem + 1 < capacity_of mem → Ready (set_next e.number mem)
ready e mem k f room =
    let d = laid_is mem k in
    let top : e.number ≤ 2 ^ 56 = omega (arith, f.top) in
    record {
      keeps = next_keeps mem d e.number top f.low k;
      room = omega (arith, next_count mem d e.number top, next_capacity mem d e.number top);
      under = omega (arith, next_next mem d e.number top, f.top);
    }

pub loads : (e : SavedNode) (mem : List ℕ) → laid mem ≡ true → Loads e → count_of mem + 1 < capacity_of mem → Loaded e mem
unfolding load_node
loads e mem k f room =
    let d = laid_is mem k in
    let top : e.number ≤ 2 ^ 56 = omega (arith, f.top) in
    let m' = set_next e.number mem in
    let r : Ready m' = ready e mem k f room in
    let x : next_of m' ≡ e.number = next_next mem d e.number top in
    let v = next_view mem d e.number top in
    record {
      long = length_append e.parent e.name m' ∙ next_length mem d e.number top;
      keeps = keeps_append m' r.keeps e.parent e.name r.room r.under;
      stands =
          view_append m' (laid_is m' r.keeps) e.parent e.name r.room r.under f.parent f.short
          ∙ (λ t. with_tree (record { next = (v t).tree.next + 1; root = (v t).tree.root; nodes = (v t).tree.nodes ++ (bare (x t) e.parent e.name ∷ []) }) (v t));
    }

-- the header's numbers then
module _ (e : SavedNode) (mem : List ℕ) (l : Loaded e mem) where
  pub loaded_capacity : capacity_of (load_node e mem) ≡ capacity_of mem
  unfolding view row get
  loaded_capacity = ap (λ (i : Instance). i.fixed.capacity) l.stands

  pub loaded_count : count_of (load_node e mem) ≡ count_of mem + 1
  unfolding view
  loaded_count =
      let n : length (nodes_of (load_node e mem)) ≡ length (nodes_of mem ++ (noded e ∷ [])) = ap (λ (i : Instance). length i.tree.nodes) l.stands in
      omega (arith, nodes_count mem, nodes_count (load_node e mem), length_both (nodes_of mem) (noded e ∷ []))

-- ---- all of them; the next number is left open

abbrev pub with_next : ℕ → Instance → Instance
with_next x i = with_tree (record { next = x; root = i.tree.root; nodes = i.tree.nodes }) i

pub record AllLoaded (es : List SavedNode) (mem : List ℕ) : Type 0 where
  pub long : length (load_nodes es mem) ≡ length mem
  pub keeps : laid (load_nodes es mem) ≡ true
  pub stands : (x : ℕ) → with_next x (view (load_nodes es mem)) ≡ with_tree (record { next = x; root = (view mem).tree.root; nodes = (view mem).tree.nodes ++ nodes_of_records es }) (view mem)

pub loads_all : (es : List SavedNode) (mem : List ℕ) → laid mem ≡ true → AllLoad es → count_of mem + length es < capacity_of mem → AllLoaded es mem
unfolding load_nodes AllLoad nodes_of_records
loads_all [] mem k f room = record {
  long = refl;
  keeps = k;
  stands = λ x t. with_tree (record { next = x; root = (view mem).tree.root; nodes = sym (append-nil (view mem).tree.nodes) t }) (view mem);
}
loads_all (e ∷ es) mem k f room =
    let one = loads e mem k f.0 (omega arith) in
    let more = loads_all es (load_node e mem) one.keeps f.1 (omega (arith, loaded_capacity e mem one, loaded_count e mem one)) in
    let v = one.stands in
    record {
      long = more.long ∙ one.long;
      keeps = more.keeps;
      stands = λ x.
          more.stands x
          ∙ (λ t. with_tree (record { next = x; root = (v t).tree.root; nodes = (v t).tree.nodes ++ nodes_of_records es }) (v t))
          ∙ (λ t. with_tree (record { next = x; root = (view mem).tree.root; nodes = append_assoc (view mem).tree.nodes (noded e ∷ []) (nodes_of_records es) t }) (view mem));
    }
