-- The plan's walk: what holds at each component, and each of its steps. Assumes nothing.
use mathlib.Core.Path.{◌≡◌, sym, ap, ◌∙◌}
use mathlib.Core.Bool.{false}
use mathlib.Core.List.{List, [], ◌∷◌, ◌++◌}
use Rattle.std.specs.Prelude.{None, Some, Ok, Err}
use Rattle.rules.specs.declared.codes.VfsError.TheVariants.{NoRoom}
use Prim.Native.Nat.{ℕ, ◌+◌, ◌-◌, ◌≤◌, ◌<◌}
use native.Mathlib.Omega.{arith}
use native.Mathlib.Decide.{ℕ_discrete}
use lib.ListN.{length, set, take, drop, length-set, length-take, length-append}
use lib.Seq.{get_or-set_same, get_or-set_other}
use Rattle.rules.specs.Path.{Part, Normal, ParentDir, components, too_long}
use Rattle.rules.specs.Tree.{Made, bare, child_in, parent_in, mount_step, makes}
use Rattle.rules.specs.Mount.{planned, needed}
use Rattle.rules.specs.claims.Names.{EachName}
use Rattle.rules.proofs.Parts.{Short, first_name, rest_names, names_short}
use Rattle.path.specs.Steps.{part, StepsOver}
use Rattle.path.proofs.Places.{part_length}
use Rattle.tables.specs.Table.{tab}
use Rattle.tables.specs.Layout.{next_of}
use Rattle.tables.specs.View.{nodes_of, view}
use Rattle.tables.specs.Laid.{Bounds}
use Rattle.plan.specs.declared.PlannedNode.{PlannedNode}
use Rattle.plan.specs.Plan.{planned_parent, planned_start, no_node, note_at, planned_from, Within, room_of, plan_told, Plans}
use Rattle.plan.proofs.Nodes.{makes_grows}
use Rattle.plan.proofs.Spare.{planned_is, fits, lacks}
use Rattle.plan.proofs.PlannedNodes.{planned_length, planned_stored, planned_taken, within_taken}

-- ---- the walk

-- the nodes planned so far, and where the walk stands
abbrev pub so_far : List ℕ → List ℕ → List PlannedNode → ℕ → ℕ → Made
so_far mem path t count node = record { nodes = planned_from path (next_of mem) t 0 count; here = node }

-- where the walk has come to a place of the path: what is planned, and the walk from here on, make what the whole walk makes
pub record Going (mem path : List ℕ) (t : List PlannedNode) (count node at : ℕ) : Type 0 where
  pub few : count ≤ room_of mem
  pub sized : length t ≡ 1024
  pub named : Within path t count
  pub short : EachName Short (components at (drop at path))
  pub rest : makes (nodes_of mem) (next_of mem) (so_far mem path t count node) (components at (drop at path)) ≡ planned (view mem).tree path

module _ (mem path : List ℕ) where
  pub begins : (t : List PlannedNode) → length t ≡ 1024 → too_long path ≡ false → Going mem path t 0 1 0
  unfolding planned_from tab
  begins t z l = record {
    few = omega arith;
    sized = z;
    named = λ k h. absurd (omega arith);
    short = names_short path l;
    rest = sym (planned_is mem path);
  }

  module _ (t : List PlannedNode) (count node at : ℕ) (g : Going mem path t count node at) where
    -- the nodes planned so far, as the slice that is searched
    module _ (d : Bounds mem) where
      planned_within : count ≤ length t
      planned_within = omega (arith, g.few, g.sized, d.few_nodes)

      pub sliced : planned_from path (next_of mem) (take count t) 0 (length (take count t)) ≡ planned_from path (next_of mem) t 0 count
      sliced = planned_taken path (next_of mem) t count planned_within

      pub slice_named : Within path (take count t) (length (take count t))
      slice_named = within_taken path (next_of mem) t count planned_within g.named

      pub slice_few : length (take count t) ≤ 1024
      slice_few = omega (arith, length-take count t, g.few, d.few_nodes)

    -- the same plan, at another node and place
    moves : (x on start n : ℕ) (p : Part) → StepsOver path at p start n on → mount_step (nodes_of mem) (next_of mem) (so_far mem path t count node) p ≡ so_far mem path t count x → Going mem path t count x on
    unfolding makes
    moves x on start n p s e = record {
      few = g.few;
      sized = g.sized;
      named = g.named;
      short = rest_names Short p (components on (drop on path)) (rw s.parts at g.short);
      rest = sym (ap (λ (m : Made). makes (nodes_of mem) (next_of mem) m (components on (drop on path))) e) ∙ (rw s.parts at g.rest);
    }

    pub goes_up : (x on start : ℕ) → StepsOver path at (ParentDir start) start 2 on → x ≡ parent_in (nodes_of mem ++ planned_from path (next_of mem) t 0 count) node → Going mem path t count x on
    unfolding mount_step
    goes_up x on start s e = moves x on start 2 (ParentDir start) s (rw e)

    -- the end
    pub ends : Bounds mem → components at (drop at path) ≡ [] → Plans mem path t (Ok (record { node = node; count = count }))
    unfolding plan_told makes needed
    ends d e =
        let same : so_far mem path t count node ≡ planned (view mem).tree path = rw e at g.rest in
        let long : length (planned (view mem).tree path).nodes ≤ room_of mem = rw (← same, planned_length path (next_of mem) t count) g.few in
        record { answer = ap Ok same ∙ fits mem path d long; named = g.named; few = g.few; sized = g.sized }

    module _ (start len on : ℕ) (s : StepsOver path at (Normal start (part path start len)) start len on) where
      -- the name as a part of the path from its start to its end
      abbrev name : List ℕ
      name = part path start (on - start)

      is_named : name ≡ part path start len
      is_named = let e : on - start ≡ len = omega (arith, s.end) in rw e

      pub goes_to : (x : ℕ) → Some x ≡ child_in (nodes_of mem ++ planned_from path (next_of mem) t 0 count) node name → Going mem path t count x on
      unfolding mount_step
      goes_to x e = moves x on start len (Normal start (part path start len)) s (rw (← rw is_named at e))

      pub name_short : length path ≤ 4096 → (start < 65536) × (len < 256)
      name_short l =
          let k = first_name Short start (part path start len) (components on (drop on path)) (rw s.parts at g.short) in
          (omega (arith, s.end, s.within), omega (arith, part_length path start len (omega (arith, s.end, s.within))))

      module _ (e : None ≡ child_in (nodes_of mem ++ planned_from path (next_of mem) t 0 count) node name) where
        -- a name that is nowhere is made
        makes_it : mount_step (nodes_of mem) (next_of mem) (so_far mem path t count node) (Normal start (part path start len))
            ≡ record { nodes = planned_from path (next_of mem) t 0 count ++ (bare (next_of mem + count) node (part path start len) ∷ []); here = next_of mem + count }
        unfolding mount_step
        makes_it = rw (← rw is_named at e, planned_length path (next_of mem) t count)

        after : makes (nodes_of mem) (next_of mem) (mount_step (nodes_of mem) (next_of mem) (so_far mem path t count node) (Normal start (part path start len))) (components on (drop on path)) ≡ planned (view mem).tree path
        unfolding makes
        after = rw s.parts at g.rest

        pub stops : Bounds mem → count ≡ room_of mem → Plans mem path t (Err NoRoom)
        unfolding plan_told needed
        stops d full =
            let more = makes_grows (nodes_of mem) (next_of mem) (mount_step (nodes_of mem) (next_of mem) (so_far mem path t count node) (Normal start (part path start len))) (components on (drop on path)) in
            let one : length (mount_step (nodes_of mem) (next_of mem) (so_far mem path t count node) (Normal start (part path start len))).nodes ≡ count + 1 =
            ap (λ (q : Made). length q.nodes) makes_it ∙ simp (length-append, planned_length) (omega arith) in
            record { answer = lacks mem path d (omega (arith, ap (λ (q : Made). length q.nodes) after)); named = λ k h. absurd (omega arith); few = omega arith; sized = g.sized }

  -- one node more
  module _ (t : List PlannedNode) (count node at : ℕ) (g : Going mem path t count node at) (start len on : ℕ) (s : StepsOver path at (Normal start (part path start len)) start len on)
      (n : PlannedNode) (under : planned_parent n ≡ node) (begun : planned_start n ≡ start) (long : n.len ≡ len) where
    abbrev more : List PlannedNode
    more = set t count n

    pub goes_new : None ≡ child_in (nodes_of mem ++ planned_from path (next_of mem) t 0 count) node (part path start (on - start))
        → count < room_of mem → room_of mem ≤ 1024 → (x : ℕ) → x ≡ next_of mem + count → Going mem path more (count + 1) x on
    unfolding makes
    goes_new e l r x q =
        record {
          few = omega arith;
          sized = length-set t count n ∙ g.sized;
          named = λ k h. names k (ℕ_discrete k count) h;
          short = rest_names Short (Normal start (part path start len)) (components on (drop on path)) (rw s.parts at g.short);
          rest =
              rw (q, planned_stored path (next_of mem) t count n (omega (arith, g.sized)), under, begun, long)
              (sym (ap (λ (m : Made). makes (nodes_of mem) (next_of mem) m (components on (drop on path))) (makes_it t count node at g start len on s e)) ∙ after t count node at g start len on s e);
        }
      where
        names : (k : ℕ) → Dec (k ≡ count) → k < count + 1 → planned_start (note_at more k) + (note_at more k).len ≤ length path
        names k (yes f) h = rw (f, get_or-set_same t count n no_node (omega (arith, g.sized)), begun, long) (omega (arith, s.end, s.within))
        names k (no d) h = rw (get_or-set_other t count k n no_node d) (g.named k (omega arith))
