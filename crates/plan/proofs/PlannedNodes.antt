-- The planned nodes: searched, asked for a parent, a part of them, and one more. Assumes nothing.
use mathlib.Core.Path.{◌≡◌, refl, sym, ap, ◌∙◌}
use mathlib.Core.Bool.{Bool, true, false, cond, and-false}
use mathlib.Core.List.{List, [], ◌∷◌, ◌++◌}
use Rattle.std.specs.Prelude.{None, Some}
use Prim.Native.Nat.{ℕ, zero, suc, ◌+◌, ◌-◌, ◌≤◌, ◌<◌}
use native.Mathlib.Nat.{add-zero, sub-zero, min-eq_left}
use native.Mathlib.Omega.{arith}
use native.Mathlib.Decide.{ℕ_discrete}
use lib.ListN.{length, get_or, set, take, drop, length-take, length-drop}
use lib.Seq.{get_or-set_same, get_or-set_other, get_or-take, get_or-drop, drop-drop, take-length}
use lib.Dec.{eqb}
use borrow.Author.Tests.{eq-eqb, ne_eqb}
use Rattle.le.specs.Mem.{read}
use Rattle.rules.specs.Bytes.{same}
use Rattle.rules.specs.Numbers.{root_number}
use Rattle.rules.specs.Tree.{Node, bare, is_child, child_in, node_in, parent_of, parent_in}
use Rattle.rules.proofs.Same.{same_length}
use Rattle.rules.proofs.Fields.{read_slice, read_all}
use Rattle.rules.proofs.Walk.{node_append, node_second}
use Rattle.path.specs.Steps.{part}
use Rattle.path.proofs.Places.{part_length}
use Rattle.tables.specs.Table.{tab}
use Rattle.tables.specs.Layout.{capacity_of, next_of}
use Rattle.tables.specs.View.{node_at, nodes_of}
use Rattle.tables.specs.Answer.{place_in}
use Rattle.tables.proofs.Tab.{length_tab, tab_next, tab_done, tab_same, tab_append}
use Rattle.tables.proofs.RowOf.{place_nowhere, node_found}
use Rattle.plan.specs.declared.PlannedNode.{PlannedNode}
use Rattle.plan.specs.Plan.{planned_parent, planned_start, no_node, note_at, planned_at, planned_from, Within}

-- ---- whether a planned node is the child of a name

-- a planned node, whatever its number is
abbrev pub node : List ℕ → PlannedNode → Node
node path n = bare 0 (planned_parent n) (part path (planned_start n) n.len)

module _ (path : List ℕ) (n : PlannedNode) (here : ℕ) (p : List ℕ) where
  pub is_else : (planned_parent n ≡ here → ⊥) → false ≡ is_child here p (node path n)
  unfolding is_child
  is_else h = rw (ne_eqb (planned_parent n) here h)

  module _ (h : planned_start n + n.len ≤ length path) where
    pub is_longer : (n.len ≡ length p → ⊥) → false ≡ is_child here p (node path n)
    unfolding is_child
    is_longer d =
        let k = part_length path (planned_start n) n.len h in
        let q : same (part path (planned_start n) n.len) p ≡ false = same_length (part path (planned_start n) n.len) p (λ f. d (sym k ∙ f)) in
        rw (q, and-false)

    pub is_named : planned_parent n ≡ here → n.len ≡ length p → {r : Bool} → r ≡ same (read path (planned_start n) n.len) (read p 0 n.len) → r ≡ is_child here p (node path n)
    unfolding is_child
    is_named m k q =
        let all : read p 0 n.len ≡ p = rw k (read_all p) in
        q ∙ rw (all, read_slice path (planned_start n) n.len h, eq-eqb (planned_parent n) here m)

-- ---- the search: what is left to find is what was to find

abbrev pub Seeks : List ℕ → ℕ → List PlannedNode → ℕ → ℕ → List ℕ → ℕ → Type 0
Seeks path next t count here p j =
    (j ≤ count) × (child_in (planned_from path next t 0 count) here p ≡ child_in (planned_from path next t j (count - j)) here p)

module _ (path : List ℕ) (next : ℕ) (t : List PlannedNode) (count here : ℕ) (p : List ℕ) where
  pub seek_begins : Seeks path next t count here p 0
  seek_begins = (omega arith, rw sub-zero)

  module _ (j : ℕ) (s : Seeks path next t count here p j) where
    -- a child's number is not asked
    pub seek_here : j < count → true ≡ is_child here p (node path (note_at t j)) → child_in (planned_from path next t 0 count) here p ≡ Some (next + j)
    unfolding child_in is_child planned_at planned_from
    seek_here h e = s.1 ∙ rw (tab_next (planned_at path next t) j count h, ← e)

    pub seek_on : j < count → false ≡ is_child here p (node path (note_at t j)) → Seeks path next t count here p (j + 1)
    unfolding child_in is_child planned_at planned_from
    seek_on h e = (omega arith, s.1 ∙ rw (tab_next (planned_at path next t) j count h, ← e))

    pub seek_none : count ≤ j → child_in (planned_from path next t 0 count) here p ≡ None
    unfolding child_in planned_from
    seek_none h = s.1 ∙ rw (tab_done (planned_at path next t) j count h)

-- ---- the search by what is left: the end of the planned nodes, which decides

pub record Left (path : List ℕ) (next : ℕ) (t : List PlannedNode) (here : ℕ) (p : List ℕ) (rest : List PlannedNode) : Type 0 where
  pub few : length rest ≤ length t
  pub end : rest ≡ drop (length t - length rest) t
  pub seeks : Seeks path next t (length t) here p (length t - length rest)

module _ (path : List ℕ) (next : ℕ) (t : List PlannedNode) (here : ℕ) (p : List ℕ) where
  pub left_all : Left path next t here p t
  left_all =
      let n : length t - length t ≡ 0 = omega arith in
      record { few = omega arith; end = rw n; seeks = rw n (seek_begins path next t (length t) here p) }

  module _ (rest : List PlannedNode) (s : Left path next t here p rest) where
    pub left_none : length rest < 1 → None ≡ child_in (planned_from path next t 0 (length t)) here p
    left_none h = sym (seek_none path next t (length t) here p (length t - length rest) s.seeks (omega arith))

    module _ (h : 1 ≤ length rest) where
      first : get_or rest 0 no_node ≡ note_at t (length t - length rest)
      first = ap (λ (l : List PlannedNode). get_or l 0 no_node) s.end ∙ get_or-drop (length t - length rest) t 0 no_node ∙ ap (note_at t) (add-zero (length t - length rest))

      before : length t - length rest < length t
      before = omega (arith, s.few)

      pub left_within : Within path t (length t) → planned_start (get_or rest 0 no_node) + (get_or rest 0 no_node).len ≤ length path
      left_within w = rw first (w (length t - length rest) before)

      pub left_here : true ≡ is_child here p (node path (get_or rest 0 no_node)) → Some (next + (length t - length rest)) ≡ child_in (planned_from path next t 0 (length t)) here p
      left_here e = sym (seek_here path next t (length t) here p (length t - length rest) s.seeks before (rw first at e))

      -- the one behind it
      pub left_next : (others : List PlannedNode) → others ≡ take (length rest - 1) (drop 1 rest) → false ≡ is_child here p (node path (get_or rest 0 no_node)) → Left path next t here p others
      left_next others o e =
          let a : others ≡ drop 1 rest = o ∙ ap (λ (k : ℕ). take k (drop 1 rest)) (sym (length-drop 1 rest)) ∙ take-length (drop 1 rest) in
          let n : length others ≡ length rest - 1 = ap length a ∙ length-drop 1 rest in
          let j : length t - length others ≡ length t - length rest + 1 = omega (arith, n, h, s.few) in
          record {
            few = omega (arith, n, s.few);
            end = a ∙ ap (drop 1) s.end ∙ drop-drop 1 (length t - length rest) t ∙ ap (λ (k : ℕ). drop k t) (sym j);
            seeks = rw j (seek_on path next t (length t) here p (length t - length rest) s.seeks before (rw first at e));
          }

-- ---- the planned node of a number

module _ (path : List ℕ) (next : ℕ) (t : List PlannedNode) (x : ℕ) where
  at_before : (j k : ℕ) → x < next + j → node_in (tab (planned_at path next t) j k) x ≡ None
  unfolding node_in tab planned_at
  at_before j zero h = refl
  at_before j (suc k) h = rw (ne_eqb (next + j) x (λ e. omega arith)) (at_before (j + 1) k (omega arith))

  at_behind : (j k : ℕ) → next + (j + k) ≤ x → node_in (tab (planned_at path next t) j k) x ≡ None
  unfolding node_in tab planned_at
  at_behind j zero h = refl
  at_behind j (suc k) h = rw (ne_eqb (next + j) x (λ e. omega arith)) (at_behind (j + 1) k (omega arith))

  at_planned : (j k : ℕ) → next + j ≤ x → x < next + (j + k) → node_in (tab (planned_at path next t) j k) x ≡ Some (planned_at path next t (x - next))
  unfolding node_in tab planned_at
  at_planned j zero h l = absurd (omega arith)
  at_planned j (suc k) h l = go (ℕ_discrete (next + j) x) (λ (m : next + (j + 1) ≤ x). at_planned (j + 1) k m (omega arith))
    where
      go : Dec (next + j ≡ x) → (next + (j + 1) ≤ x → node_in (tab (planned_at path next t) (j + 1) k) x ≡ Some (planned_at path next t (x - next)))
          → cond (eqb (next + j) x) (Some (planned_at path next t j)) (node_in (tab (planned_at path next t) (j + 1) k) x) ≡ Some (planned_at path next t (x - next))
      go (yes e) ih = let f : x - next ≡ j = omega arith in rw (eq-eqb (next + j) x e, f)
      go (no d) ih = rw (ne_eqb (next + j) x d) (ih (omega arith))

-- ---- the parent of a node, live or planned

module _ (mem path : List ℕ) (t : List PlannedNode) (count x : ℕ) (d : x ≡ root_number → ⊥) where
  abbrev all : List Node
  all = nodes_of mem ++ planned_from path (next_of mem) t 0 count

  pub up_live : (i : ℕ) → place_in (nodes_of mem) x ≡ Some i → (node_at (capacity_of mem) mem i).parent ≡ parent_in all x
  unfolding parent_in
  up_live i e =
      rw (ne_eqb x 1 d, node_append (nodes_of mem) (planned_from path (next_of mem) t 0 count) x (node_at (capacity_of mem) mem i) (node_found mem x i e))

  module _ (e : place_in (nodes_of mem) x ≡ None) where
    -- among the planned nodes alone
    up_second : parent_in all x ≡ parent_of (node_in (planned_from path (next_of mem) t 0 count) x)
    unfolding parent_in
    up_second = rw (ne_eqb x 1 d, node_second (nodes_of mem) (planned_from path (next_of mem) t 0 count) x (place_nowhere (nodes_of mem) x e).node)

    pub up_before : x < next_of mem → root_number ≡ parent_in all x
    unfolding planned_from
    up_before h = sym (up_second ∙ ap parent_of (at_before path (next_of mem) t x 0 count (omega arith)))

    pub up_planned : (y : ℕ) → y ≡ next_of mem → y ≤ x → x - y < count → planned_parent (note_at t (x - y)) ≡ parent_in all x
    unfolding planned_from planned_at
    up_planned y q h l = rw q (sym (up_second ∙ ap parent_of (at_planned path (next_of mem) t x 0 count (omega arith) (omega arith))))

    pub up_behind : next_of mem ≤ x → count ≤ x - next_of mem → root_number ≡ parent_in all x
    unfolding planned_from
    up_behind h l = sym (up_second ∙ ap parent_of (at_behind path (next_of mem) t x 0 count (omega arith)))

-- ---- one node more

pub planned_length : (path : List ℕ) (next : ℕ) (t : List PlannedNode) (count : ℕ) → length (planned_from path next t 0 count) ≡ count
unfolding planned_from
planned_length path next t count = length_tab (planned_at path next t) 0 count

module _ (path : List ℕ) (next : ℕ) (t : List PlannedNode) (c : ℕ) (n : PlannedNode) where
  stored_below : (j : ℕ) → j < c → planned_at path next (set t c n) j ≡ planned_at path next t j
  unfolding planned_at
  stored_below j h =
      let d : j ≡ c → ⊥ = λ e. omega arith in
      rw (get_or-set_other t c j n no_node d)

  pub planned_stored : c < length t → planned_from path next (set t c n) 0 (c + 1) ≡ planned_from path next t 0 c ++ (bare (next + c) (planned_parent n) (part path (planned_start n) n.len) ∷ [])
  unfolding planned_from planned_at
  planned_stored h =
      tab_append (planned_at path next t) (planned_at path next (set t c n)) c (λ j q. stored_below j q)
      ∙ rw (get_or-set_same t c n no_node h)

-- ---- the first of them, as a slice

module _ (path : List ℕ) (next : ℕ) (t : List PlannedNode) (c : ℕ) (h : c ≤ length t) where
  taken_length : length (take c t) ≡ c
  taken_length = length-take c t ∙ min-eq_left h

  pub planned_taken : planned_from path next (take c t) 0 (length (take c t)) ≡ planned_from path next t 0 c
  unfolding planned_from planned_at
  planned_taken = rw taken_length (tab_same (planned_at path next t) (planned_at path next (take c t)) 0 c (λ j a b. let l : j < c = omega arith in rw (get_or-take c t j no_node l)))

  pub within_taken : Within path t c → Within path (take c t) (length (take c t))
  within_taken w = rw taken_length (λ j l. rw (get_or-take c t j no_node l) (w j l))
