-- The children that are left to list: what each way round the loop over the rows makes of them. Assumes nothing.
use mathlib.Core.Path.{◌≡◌, refl, ap, ◌∙◌}
use mathlib.Core.List.{List, [], ◌∷◌}
use Prim.Native.Nat.{ℕ, zero, suc, ◌+◌, ◌-◌, ◌≤◌, ◌<◌}
use native.Mathlib.Nat.{zero-add, add-zero, sub-zero}
use native.Mathlib.Omega.{arith}
use lib.ListN.{length, drop}
use Rattle.rules.specs.Tree.{Node, children_in}
use Rattle.rules.specs.Listing.{dirent, dirents_from}
use Rattle.tables.specs.Layout.{capacity_of, count_of}
use Rattle.tables.specs.View.{node_at, nodes_of}
use Rattle.tables.proofs.Children.{children_left, children_all, children_next, children_not, children_end}
use Rattle.dirent.specs.Lays.{Lays}
use Rattle.dirent.proofs.Records.{entry_some}
use Rattle.dirent.proofs.Fills.{back, Wrote, Going, going_start, going_done, went, stopped}

-- ---- the records that are due of the children behind the first `place`: those from the offset on

unfoldable pub due : ℕ → ℕ → List Node → List (List ℕ)
due offset place cs = dirents_from (place + (offset - place)) (drop (offset - place) cs)

due_start : (offset : ℕ) (cs : List Node) → due offset 0 cs ≡ dirents_from offset (drop offset cs)
unfolding due
due_start offset cs = rw (sub-zero, zero-add)

module _ (offset place : ℕ) where
  due_none : due offset place [] ≡ []
  unfolding due dirents_from
  due_none = go (offset - place)
    where
      go : (k : ℕ) → dirents_from (place + (offset - place)) (drop k []) ≡ []
      go zero = refl
      go (suc k) = refl

  -- the first of them is before the offset
  due_skip : (n : Node) (cs : List Node) → place + 1 ≤ offset → due offset place (n ∷ cs) ≡ due offset (place + 1) cs
  unfolding due
  due_skip n cs h =
      let a : place + (offset - place) ≡ place + 1 + (offset - (place + 1)) = omega arith in
      let b : offset - place ≡ suc (offset - (place + 1)) = omega arith in
      rw (a, b)

  -- or not
  due_next : (n : Node) (cs : List Node) → offset < place + 1 → due offset place (n ∷ cs) ≡ dirent n.number (place + 1) n.name ∷ due offset (place + 1) cs
  unfolding due dirents_from
  due_next n cs h =
      let a : offset - place ≡ 0 = omega arith in
      let b : offset - (place + 1) ≡ 0 = omega arith in
      rw (a, b, add-zero place, add-zero (place + 1))

-- ---- the loop: i of c rows were looked at, `place` of them were children, and `at` bytes of d are written

-- all that is to be listed
abbrev pub all_of : List ℕ → ℕ → ℕ → List (List ℕ)
all_of mem x offset = dirents_from offset (drop offset (children_in (nodes_of mem) x))

pub record Listing (mem : List ℕ) (x offset end c : ℕ) (d₀ d : List ℕ) (at place i : ℕ) : Type 0 where
  pub rows : i ≤ c
  pub few : place ≤ i
  pub going : Going d₀ end (all_of mem x offset) d at (due offset place (children_left mem x c i))

pub listing_start : (mem : List ℕ) (x offset end c : ℕ) (d : List ℕ) → c ≡ count_of mem → end ≤ length d → Listing mem x offset end c d d 0 0 0
listing_start mem x offset end c d e h =
    let all : due offset 0 (children_left mem x c 0) ≡ all_of mem x offset = ap (due offset 0) (children_all mem x c e) ∙ due_start offset (children_in (nodes_of mem) x) in
    record { rows = omega arith; few = omega arith; going = rw all (going_start d end (all_of mem x offset) h) }

module _ (mem : List ℕ) (x offset end c : ℕ) (d₀ d : List ℕ) (at place i : ℕ) (l : Listing mem x offset end c d₀ d at place i) where
  -- under other names
  pub listing_as : (e : List ℕ) (at' place' : ℕ) → e ≡ d → place' ≡ place → at' ≡ at → Listing mem x offset end c d₀ e at' place' i
  listing_as e at' place' q r s = rw (q, r, s) l

  -- no row is left
  pub listing_done : c ≤ i → Lays d₀ end (all_of mem x offset) at d
  listing_done h =
      let none : due offset place (children_left mem x c i) ≡ [] = ap (due offset place) (children_end mem x c i h) ∙ due_none offset place in
      going_done d₀ end (all_of mem x offset) d at (rw none at l.going)

  module _ (h : i < c) where
    -- the row is no child
    pub listing_not : ((node_at (capacity_of mem) mem i).parent ≡ x → ⊥) → Listing mem x offset end c d₀ d at place (i + 1)
    listing_not e = record { rows = omega arith; few = omega (arith, l.few); going = rw (children_not mem x c i h e) at l.going }

    -- it is a child before the offset
    pub listing_skip : (node_at (capacity_of mem) mem i).parent ≡ x → place + 1 ≤ offset → Listing mem x offset end c d₀ d at (place + 1) (i + 1)
    listing_skip e s =
        let less : due offset place (children_left mem x c i) ≡ due offset (place + 1) (children_left mem x c (i + 1)) =
        ap (due offset place) (children_next mem x c i h e) ∙ due_skip offset place (node_at (capacity_of mem) mem i) (children_left mem x c (i + 1)) s in
        record { rows = omega arith; few = omega (arith, l.few); going = rw less at l.going }

    -- it is a child from the offset on, and its record is the next
    module _ (e : (node_at (capacity_of mem) mem i).parent ≡ x) (s : offset < place + 1) (n : ℕ) (ys : List ℕ)
        (w : Wrote d at end (dirent (node_at (capacity_of mem) mem i).number (place + 1) (node_at (capacity_of mem) mem i).name) n ys) where
      abbrev this : List ℕ
      this = dirent (node_at (capacity_of mem) mem i).number (place + 1) (node_at (capacity_of mem) mem i).name

      abbrev others : List (List ℕ)
      others = due offset (place + 1) (children_left mem x c (i + 1))

      goes : Going d₀ end (all_of mem x offset) d at (this ∷ others)
      goes =
          let next : due offset place (children_left mem x c i) ≡ this ∷ others =
          ap (due offset place) (children_next mem x c i h e) ∙ due_next offset place (node_at (capacity_of mem) mem i) (children_left mem x c (i + 1)) s in
          rw next at l.going

      -- it was laid
      pub listing_laid : (n ≡ 0 → ⊥) → Listing mem x offset end c d₀ (back d at end ys) (at + n) (place + 1) (i + 1)
      listing_laid z = record { rows = omega arith; few = omega (arith, l.few); going = went d₀ end (all_of mem x offset) d at this others n ys goes w z }

      -- it does not fit
      pub listing_full : n ≡ 0 → Lays d₀ end (all_of mem x offset) at (back d at end ys)
      listing_full z =
          stopped d₀ end (all_of mem x offset) d at this others n ys goes w
          (entry_some (node_at (capacity_of mem) mem i).number (place + 1) (node_at (capacity_of mem) mem i).name) z
