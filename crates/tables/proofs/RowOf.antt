-- The place of a node's row: what is found, mounted and removed there is what the rules find, mount and remove by its number. Assumes nothing.
use mathlib.Core.Path.{◌≡◌, refl, sym, ap, ◌∙◌, subst}
use mathlib.Core.Bool.{Bool, true, false, cond}
use mathlib.Core.List.{List, [], ◌∷◌}
use Rattle.std.specs.Prelude.{Option, None, Some}
use Rattle.std.proofs.lemmas.Option.{none-some}
use Prim.Native.Nat.{ℕ, suc, ◌<◌}
use native.Mathlib.Nat.{zero-add}
use native.Mathlib.Omega.{arith}
use lib.ListN.{length, get_or, set}
use lib.Dec.{eqb}
use Rattle.rules.specs.Numbers.{root_number}
use Rattle.rules.specs.Tree.{Mount, Node, node_in, nodes_with_mount, without, with_mount, bare}
use Rattle.rules.specs.Instance.{set_mount, with_tree, cut}
use Rattle.tables.specs.Layout.{capacity_of, count_of}
use Rattle.tables.specs.View.{node_at, nodes_of, view}
use Rattle.tables.specs.Laid.{Bounds}
use Rattle.tables.specs.Write.{MayFit, set_root_mount, set_row_mount, remove_row}
use Rattle.tables.specs.Answer.{later, place_in, at_place, node_mount_mem, remove_mem}
use Rattle.tables.proofs.Tab.{remove_at, length_tab, tab_at}
use Rattle.tables.proofs.Find.{nodes_of_lem}
use Rattle.tables.proofs.Refine.{view_remove, view_row_mount, view_root_mount}

-- a node for where there is none
abbrev pub nobody : Node
nobody = bare 0 0 []

-- row i is the first of that number
pub record First (ns : List Node) (x i : ℕ) : Type 0 where
  pub within : i < length ns
  pub node : node_in ns x ≡ Some (get_or ns i nobody)
  pub mounted : (m : Option Mount) → nodes_with_mount m ns x ≡ set ns i (with_mount m (get_or ns i nobody))
  pub gone : without ns x ≡ remove_at i ns

place_first : (ns : List Node) (x i : ℕ) → place_in ns x ≡ Some i → First ns x i
unfolding place_in node_in nodes_with_mount without remove_at
place_first [] x i e = absurd (none-some _ e)
place_first (n ∷ ns) x i e = go (eqb n.number x) refl (place_in ns x) refl e (place_first ns x)
  where
    go : (b : Bool) → eqb n.number x ≡ b → (o : Option ℕ) → place_in ns x ≡ o → cond b (Some 0) (later o) ≡ Some i
        → ((j : ℕ) → place_in ns x ≡ Some j → First ns x j) → First (n ∷ ns) x i
    go true t o p q k =
        let z : 0 ≡ i = cc in
        subst (λ (j : ℕ). First (n ∷ ns) x j) z (record { within = omega arith; node = rw t; mounted = λ m. rw t; gone = rw t })
    go false t None p q k = absurd (none-some _ q)
    go false t (Some j) p q k =
        let z : suc j ≡ i = cc in
        let f = k j p in
        subst (λ (l : ℕ). First (n ∷ ns) x l) z (record {
          within = omega (arith, f.within);
          node = rw t f.node;
          mounted = λ m. rw t (ap (λ (l : List Node). n ∷ l) (f.mounted m));
          gone = rw t (ap (λ (l : List Node). n ∷ l) f.gone);
        })

-- no row is of that number
pub record Nowhere (ns : List Node) (x : ℕ) : Type 0 where
  pub node : node_in ns x ≡ None
  pub mounted : (m : Option Mount) → nodes_with_mount m ns x ≡ ns
  pub gone : without ns x ≡ ns

pub place_nowhere : (ns : List Node) (x : ℕ) → place_in ns x ≡ None → Nowhere ns x
unfolding place_in node_in nodes_with_mount without
place_nowhere [] x e = record { node = refl; mounted = λ m. refl; gone = refl }
place_nowhere (n ∷ ns) x e = go (eqb n.number x) refl (place_in ns x) refl e (place_nowhere ns x)
  where
    go : (b : Bool) → eqb n.number x ≡ b → (o : Option ℕ) → place_in ns x ≡ o → cond b (Some 0) (later o) ≡ None → (place_in ns x ≡ None → Nowhere ns x) → Nowhere (n ∷ ns) x
    go true t o p q k = absurd (none-some _ (sym q))
    go false t (Some j) p q k = absurd (none-some _ (sym q))
    go false t None p q k =
        let f = k p in
        record { node = rw t f.node; mounted = λ m. rw t (ap (λ (l : List Node). n ∷ l) (f.mounted m)); gone = rw t (ap (λ (l : List Node). n ∷ l) f.gone) }

-- ---- of the memory

module _ (mem : List ℕ) where
  pub view_nodes : (view mem).tree.nodes ≡ nodes_of mem
  unfolding view
  view_nodes = refl

  pub nodes_count : length (nodes_of mem) ≡ count_of mem
  nodes_count = ap length (nodes_of_lem mem) ∙ length_tab (node_at (capacity_of mem) mem) 0 (count_of mem)

  pub nodes_at : (i : ℕ) → i < count_of mem → get_or (nodes_of mem) i nobody ≡ node_at (capacity_of mem) mem i
  nodes_at i h =
      ap (λ (l : List Node). get_or l i nobody) (nodes_of_lem mem)
      ∙ (tab_at (node_at (capacity_of mem) mem) 0 (count_of mem) i nobody h ∙ ap (node_at (capacity_of mem) mem) (zero-add i))

  pub row_below : (x i : ℕ) → place_in (nodes_of mem) x ≡ Some i → i < count_of mem
  row_below x i e = omega (arith, (place_first (nodes_of mem) x i e).within, nodes_count)

  -- the node of that number is that row's
  pub node_found : (x i : ℕ) → place_in (nodes_of mem) x ≡ Some i → node_in (nodes_of mem) x ≡ Some (node_at (capacity_of mem) mem i)
  node_found x i e = (place_first (nodes_of mem) x i e).node ∙ ap Some (nodes_at i (row_below x i e))

module _ (mem : List ℕ) (d : Bounds mem) (x : ℕ) where
  row_nowhere : (m : Option Mount) → place_in (nodes_of mem) x ≡ None
      → view mem ≡ with_tree (record { next = (view mem).tree.next; root = (view mem).tree.root; nodes = nodes_with_mount m (view mem).tree.nodes x }) (view mem)
  unfolding view
  row_nowhere m e = λ j. with_tree (record { next = (view mem).tree.next; root = (view mem).tree.root; nodes = sym ((place_nowhere (nodes_of mem) x e).mounted m) j }) (view mem)

  row_somewhere : (m : Option Mount) → MayFit m → (i : ℕ) → place_in (nodes_of mem) x ≡ Some i
      → view (set_row_mount m i mem) ≡ with_tree (record { next = (view mem).tree.next; root = (view mem).tree.root; nodes = nodes_with_mount m (view mem).tree.nodes x }) (view mem)
  unfolding view
  row_somewhere m f i e =
      let h = row_below mem x i e in
      let p : set (nodes_of mem) i (with_mount m (node_at (capacity_of mem) mem i)) ≡ nodes_with_mount m (nodes_of mem) x =
      ap (λ (n : Node). set (nodes_of mem) i (with_mount m n)) (sym (nodes_at mem i h)) ∙ sym ((place_first (nodes_of mem) x i e).mounted m) in
      view_row_mount mem d m i f h ∙ (λ j. with_tree (record { next = (view mem).tree.next; root = (view mem).tree.root; nodes = p j }) (view mem))

  gone_nowhere : place_in (nodes_of mem) x ≡ None → view mem ≡ with_tree (cut x (view mem).tree) (view mem)
  unfolding view
  gone_nowhere e = λ j. with_tree (record { next = (view mem).tree.next; root = (view mem).tree.root; nodes = sym (place_nowhere (nodes_of mem) x e).gone j }) (view mem)

  gone_somewhere : (i : ℕ) → place_in (nodes_of mem) x ≡ Some i → view (remove_row i mem) ≡ with_tree (cut x (view mem).tree) (view mem)
  unfolding view
  gone_somewhere i e =
      view_remove mem d i (row_below mem x i e)
      ∙ (λ j. with_tree (record { next = (view mem).tree.next; root = (view mem).tree.root; nodes = sym (place_first (nodes_of mem) x i e).gone j }) (view mem))

  -- a mount is set or taken off
  pub view_mount : (m : Option Mount) → MayFit m → view (node_mount_mem (nodes_of mem) m x mem) ≡ with_tree (set_mount (view mem).tree x m) (view mem)
  unfolding node_mount_mem set_mount
  view_mount m f = go (eqb x root_number) (place_in (nodes_of mem) x) refl
    where
      go : (b : Bool) (o : Option ℕ) → place_in (nodes_of mem) x ≡ o
          → view (cond b (set_root_mount m mem) (at_place o (λ (i : ℕ). set_row_mount m i mem) mem))
          ≡ with_tree (cond b (record { next = (view mem).tree.next; root = m; nodes = (view mem).tree.nodes }) (record { next = (view mem).tree.next; root = (view mem).tree.root; nodes = nodes_with_mount m (view mem).tree.nodes x })) (view mem)
      go true o e = view_root_mount mem d m f
      go false None e = row_nowhere m e
      go false (Some i) e = row_somewhere m f i e

  -- a node is taken out
  pub view_gone : view (remove_mem (nodes_of mem) x mem) ≡ with_tree (cut x (view mem).tree) (view mem)
  unfolding remove_mem
  view_gone = go (place_in (nodes_of mem) x) refl
    where
      go : (o : Option ℕ) → place_in (nodes_of mem) x ≡ o → view (at_place o (λ (i : ℕ). remove_row i mem) mem) ≡ with_tree (cut x (view mem).tree) (view mem)
      go None e = gone_nowhere e
      go (Some i) e = gone_somewhere i e
