-- Nodes that are written one after the other: what the bytes then stand for, that they keep the layout rule, and the turns of the loop. Assumes nothing.
use mathlib.Core.Path.{◌≡◌, refl, sym, ap, ◌∙◌}
use mathlib.Core.Bool.{true}
use mathlib.Core.List.{List, [], ◌∷◌, append_assoc, append-nil}
use Prim.Native.Nat.{ℕ, ◌+◌, ◌-◌, ◌^◌, ◌≤◌, ◌<◌}
use native.Mathlib.Nat.{add-zero, sub-zero}
use native.Mathlib.Omega.{arith}
use lib.ListN.{length}
use Rattle.rules.specs.Tree.{Node}
use Rattle.rules.specs.Instance.{Instance, with_tree, grown}
use Rattle.path.specs.Steps.{part}
use Rattle.le.specs.Mem.{get}
use Rattle.tables.specs.Table.{row}
use Rattle.tables.proofs.Table.{over}
use Rattle.tables.specs.Layout.{count_at, next_at, capacity_of, count_of, next_of, capacity_field, count_field, next_field}
use Rattle.tables.specs.View.{field, view}
use Rattle.tables.specs.Laid.{Bounds, laid}
use Rattle.tables.specs.Write.{append_node}
use Rattle.tables.proofs.Tab.{tab_next, tab_done}
use Rattle.tables.proofs.Spells.{cell_back}
use Rattle.tables.proofs.Refine.{head_append, view_append}
use Rattle.tables.proofs.Keeps.{laid_is, length_append, keeps_append}
use Rattle.plan.specs.declared.PlannedNode.{PlannedNode}
use Rattle.plan.specs.Plan.{planned_parent, planned_start, note_at, planned_at, planned_from}
use Rattle.plan.specs.Apply.{append_all}
use Rattle.plan.proofs.Fresh.{Fresh}

-- ---- one node more: the header's numbers, and the rule that places of rows need

module _ (mem : List ℕ) (d : Bounds mem) (parent : ℕ) (p : List ℕ) where
  abbrev after : List ℕ
  after = append_node parent p mem

  pub append_capacity : capacity_of after ≡ capacity_of mem
  unfolding over row get
  append_capacity = ap (λ (h : List (List ℕ)). field capacity_field h) (head_append mem d parent p)

  pub append_count : count_of after ≡ count_of mem + 1
  unfolding over row get
  append_count = ap (λ (h : List (List ℕ)). field count_field h) (head_append mem d parent p) ∙ cell_back 8 (count_of mem + 1) mem count_at (omega (arith, d.live, d.few_nodes))

  pub append_next : next_of after ≡ next_of mem + 1
  unfolding over row get
  append_next = ap (λ (h : List (List ℕ)). field next_field h) (head_append mem d parent p) ∙ cell_back 8 (next_of mem + 1) mem next_at (omega (arith, d.top))

  append_laid : count_of mem + 1 < capacity_of mem → next_of mem < 2 ^ 56 → Bounds after
  append_laid room top = record {
    few_nodes = omega (arith, append_capacity, d.few_nodes);
    long = omega (arith, append_capacity, length_append parent p mem, d.long);
    live = omega (arith, append_capacity, append_count);
    top = omega (arith, append_next);
  }

-- ---- what the bytes stand for

pub record Grown (ns : List Node) (mem : List ℕ) : Type 0 where
  pub stands : view (append_all ns mem) ≡ with_tree (grown ns (view mem).tree) (view mem)
  pub keeps : laid (append_all ns mem) ≡ true

pub grows : (ns : List Node) (mem : List ℕ) → laid mem ≡ true → Fresh (next_of mem) ns → count_of mem + length ns < capacity_of mem → next_of mem + length ns ≤ 2 ^ 56 → Grown ns mem
unfolding append_all Fresh
grows [] mem l f c x = record { stands = λ i. with_tree (record { next = sym (add-zero (view mem).tree.next) i; root = (view mem).tree.root; nodes = sym (append-nil (view mem).tree.nodes) i }) (view mem); keeps = l }
grows (n ∷ ns) mem l f c x =
    let v : view (append_node n.parent n.name mem) ≡ with_tree (grown (n ∷ []) (view mem).tree) (view mem) =
    view_append mem (laid_is mem l) n.parent n.name (omega arith) (omega arith) f.1 f.2 ∙ ap (λ (m : Node). with_tree (grown (m ∷ []) (view mem).tree) (view mem)) (sym f.0) in
    let a = append_next mem (laid_is mem l) n.parent n.name in
    let b = append_count mem (laid_is mem l) n.parent n.name in
    let d = append_capacity mem (laid_is mem l) n.parent n.name in
    let more : Grown ns (append_node n.parent n.name mem) = grows ns (append_node n.parent n.name mem) (keeps_append mem l n.parent n.name (omega arith) (omega arith)) (rw a f.3) (omega arith) (omega arith) in
    let next : (view mem).tree.next + 1 + length ns ≡ (view mem).tree.next + length (n ∷ ns) = omega arith in
    record {
      stands =
          more.stands ∙ ap (λ (i : Instance). with_tree (grown ns i.tree) i) v
          ∙ (λ i. with_tree (record { next = next i; root = (view mem).tree.root; nodes = append_assoc (view mem).tree.nodes (n ∷ []) ns i }) (view mem));
      keeps = more.keeps;
    }

-- ---- the loop: writing the rest here gives what writing all gives

pub record Writing (s₀ path : List ℕ) (t : List PlannedNode) (count : ℕ) (s : List ℕ) (j : ℕ) : Type 0 where
  pub so_far : j ≤ count
  pub long : length s ≡ length s₀
  pub laid : Bounds s
  pub capacity : capacity_of s ≡ capacity_of s₀
  pub live : count_of s ≡ count_of s₀ + j
  pub numbers : next_of s ≡ next_of s₀ + j
  pub rest : append_all (planned_from path (next_of s₀) t j (count - j)) s ≡ append_all (planned_from path (next_of s₀) t 0 count) s₀

module _ (s₀ path : List ℕ) (t : List PlannedNode) (count : ℕ) where
  pub starts : Bounds s₀ → Writing s₀ path t count s₀ 0
  starts l = record { so_far = omega arith; long = refl; laid = l; capacity = refl; live = omega arith; numbers = omega arith; rest = simp sub-zero }

  module _ (s : List ℕ) (j : ℕ) (w : Writing s₀ path t count s j) where
    pub done : count ≤ j → s ≡ append_all (planned_from path (next_of s₀) t 0 count) s₀
    unfolding append_all planned_from
    done h = rw (tab_done (planned_at path (next_of s₀) t) j count h) at w.rest

    pub goes_on : (r : List ℕ) → j < count → count_of s₀ + count < capacity_of s₀ → next_of s₀ + count ≤ 2 ^ 56
        → r ≡ append_node (planned_parent (note_at t j)) (part path (planned_start (note_at t j)) (note_at t j).len) s → Writing s₀ path t count r (j + 1)
    unfolding append_all planned_from planned_at
    goes_on r h c x e =
        let a = planned_parent (note_at t j) in
        let p = part path (planned_start (note_at t j)) (note_at t j).len in
        rw e
        (record {
          so_far = omega arith;
          long = length_append a p s ∙ w.long;
          laid = append_laid s w.laid a p (omega (arith, w.live, w.capacity)) (omega (arith, w.numbers));
          capacity = append_capacity s w.laid a p ∙ w.capacity;
          live = omega (arith, append_count s w.laid a p, w.live);
          numbers = omega (arith, append_next s w.laid a p, w.numbers);
          rest = rw (tab_next (planned_at path (next_of s₀) t) j count h) at w.rest;
        })
