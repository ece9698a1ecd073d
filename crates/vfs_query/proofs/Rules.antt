-- The rules of the queries by the code's tests. Assumes nothing.
use mathlib.Core.Path.{◌≡◌, refl, sym, ap, ◌∙◌}
use mathlib.Core.Bool.{Bool, true, false, cond, not}
use mathlib.Core.List.{List}
use Rattle.std.specs.Prelude.{Option, None, Some}
use Prim.Native.Nat.{ℕ, ◌^◌, ◌<◌}
use lib.Dec.{eqb}
use borrow.Author.Tests.{eq-eqb, ne_eqb, not-true, not-false}
use Rattle.rules.specs.Numbers.{root_number, index_of, number_of, INVAL}
use Rattle.rules.specs.Ids.{Mapping, bad_mapping, wrapped, unwrapped, mapped, unmapped}
use Rattle.rules.specs.Tree.{Mount}
use Rattle.rules.specs.Instance.{Instance, tag_of, mount_of_node}
use Rattle.rules.specs.Outcome.{to_tree, rootfs, refused, says, first_of}
use Rattle.rules.specs.Lookup.{route_tag, route_tree, route_rule, remapped}
use Rattle.rules.specs.Reached.{bad_path, reached, reached_mount}
use Rattle.rules.specs.Rootfs.{root_held, root_at, root_rule}
use Rattle.rules.proofs.Ids.{wrapped_is_whole}
use Rattle.tables.specs.Layout.{mapping_field}
use Rattle.tables.specs.View.{mapping_from, head_of, view}
use Rattle.tables.specs.Laid.{laid}
use Rattle.pseudo_fs.proofs.Calls.{good_mapping}

-- ---- routing: n is the number of the full number, t whether it belongs to the tree

module _ (i : Instance) (x n : ℕ) (t : Bool) (q : n ≡ number_of x) (p : t ≡ eqb (index_of x) 0) where
  pub by_index : not t ≡ true → (k : ℕ) → k ≡ index_of x → route_rule i x ≡ route_tag i k n (tag_of i k)
  unfolding route_rule
  by_index h k e = rw (sym p, sym q, sym e, not-true t h)

  in_tree : not t ≡ false → route_rule i x ≡ route_tree i n i.tree.root
  unfolding route_rule
  in_tree h = rw (sym p, sym q, not-false t h)

  other_number : (m : Option Mount) → (n ≡ root_number → ⊥) → route_tree i n m ≡ says (to_tree n) i
  unfolding route_tree
  other_number None h = refl
  other_number (Some m) h = rw (ne_eqb n 1 h)

  pub by_number : not t ≡ false → (n ≡ root_number → ⊥) → route_rule i x ≡ says (to_tree n) i
  by_number h g = in_tree h ∙ other_number i.tree.root g

  pub by_root : not t ≡ false → n ≡ root_number → (m : Mount) → Some m ≡ i.tree.root → route_rule i x ≡ route_tag i m.index m.root (tag_of i m.index)
  unfolding route_tree
  by_root h g m e = in_tree h ∙ rw (sym e, eq-eqb n 1 g)

  pub by_no_root : not t ≡ false → None ≡ i.tree.root → route_rule i x ≡ says (to_tree n) i
  unfolding route_tree
  by_no_root h e = in_tree h ∙ rw (sym e)

-- ---- the root query

module _ (i : Instance) (p : List ℕ) where
  pub root_bad : bad_path p ≡ true → root_rule i p ≡ refused INVAL i
  unfolding root_rule first_of
  root_bad b = rw b

  module _ (g : bad_path p ≡ false) where
    root_reached : (o : Option ℕ) → reached i p ≡ o → root_rule i p ≡ root_at i (reached_mount i o)
    unfolding root_rule first_of
    root_reached o e = rw (g, e)

    pub root_nowhere : reached i p ≡ None → root_rule i p ≡ says (rootfs None) i
    unfolding root_at
    root_nowhere e = root_reached None e

    pub root_bare : (x : ℕ) → reached i p ≡ Some x → None ≡ mount_of_node i.tree x → root_rule i p ≡ says (rootfs None) i
    unfolding root_at
    root_bare x e m = root_reached (Some x) e ∙ rw (sym m)

    pub root_mounted : (x : ℕ) → reached i p ≡ Some x → (m : Mount) → Some m ≡ mount_of_node i.tree x
        → root_rule i p ≡ root_held i m.index (tag_of i m.index)
    unfolding root_at
    root_mounted x e m f = root_reached (Some x) e ∙ rw (sym f)

-- ---- ids: the mapping in force, m, passes its test, so what wraps is the formula in whole numbers

module _ (mem : List ℕ) (e : laid mem ≡ true) (id : ℕ) (low : id < 2 ^ 32) (m : Mapping) (r : ℕ) (f : m ≡ mapping_from mapping_field (head_of mem)) where
  whole : (wrapped m id ≡ mapped m id) × (unwrapped m id ≡ unmapped m id)
  whole = wrapped_is_whole m id (ap bad_mapping f ∙ good_mapping mem e) low

  pub goes : (out : Bool) → r ≡ cond out (wrapped m id) (unwrapped m id) → r ≡ remapped out (view mem) id
  unfolding view
  goes true a = rw (sym f) (a ∙ whole.0)
  goes false a = rw (sym f) (a ∙ whole.1)
