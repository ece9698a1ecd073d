-- What is mounted at a path is found there by walk, root query and route, of mounts and restored mounts alike. Assumes nothing.
use mathlib.Core.Path.{◌≡◌, refl, sym, ap, ◌∙◌}
use mathlib.Core.Bool.{Bool, true, false, cond}
use mathlib.Core.Logic.{◌⊎◌, inl, inr}
use mathlib.Core.List.{List, [], ◌∷◌}
use Rattle.std.specs.Prelude.{Option, None, Some}
use Rattle.std.proofs.lemmas.Option.{same_Some, none-some}
use Prim.Native.Nat.{ℕ, ◌<◌}
use native.Mathlib.Omega.{arith}
use lib.ListN.{length}
use lib.Dec.{eqb}
use borrow.Author.Tests.{eqb-false, not-false}
use Rattle.rules.specs.Numbers.{root_number, index_of, number_of}
use Rattle.rules.specs.Utf8.{well_formed}
use Rattle.rules.specs.Path.{components, rooted, too_long}
use Rattle.rules.specs.Tree.{Mount, Node, Made, node_in, with_mount, nodes_with_mount}
use Rattle.rules.specs.Instance.{Tree, Instance, with_counter, counter_of, tag_of, mount_of_node, set_mount}
use Rattle.rules.specs.Outcome.{walked, rootfs, Outcome, first_of, says}
use Rattle.rules.specs.Mount.{Request, requested_mount, placed, allocation, walked_to, ended, mount_by_index, mount_rule, restore_mount_by_index, restore_mount_rule}
use Rattle.rules.specs.Reached.{bad_path, reached, walk_rule}
use Rattle.rules.specs.Rootfs.{root_held, root_at, root_rule}
use Rattle.rules.specs.Lookup.{route_tag, route_tree, route_rule}
use Rattle.rules.specs.StateRestore.{saved_nodes}
use Rattle.rules.specs.Calls.{mount, restore_mount, ask, path_walk, get_rootfs, rule}
use Rattle.rules.specs.claims.Driven.{Shape, Rooted}
use Rattle.rules.specs.claims.Found.{Found, EveryLead, EveryFound, EveryNewRestoredMount, EveryDiverted}
use Rattle.rules.proofs.Rows.{first_of_lem, either}
use Rattle.rules.proofs.Shape.{saved_mount}
use Rattle.rules.proofs.Walk.{reached_live, planned_walking}
use Rattle.rules.proofs.Turn.{placed_tag}
use Rattle.rules.proofs.Allocation.{found_bounds}
use Rattle.rules.proofs.Driven.{facts}
use Rattle.rules.proofs.Kept.{leads_on}
use Rattle.rules.proofs.Leads.{path_leads, leads_path, leads_saved, planned_leads}
use Rattle.rules.proofs.Planned.{planned_none}

-- ---- a done mount, seen from its path

-- the instance that is left: the walk has made its nodes, and the request is placed at k; the counter is c
abbrev pub put_at : Instance → Request → ℕ → ℕ → Instance
put_at i r k c = placed k r (ended i r.path) (walked_to r.path (with_counter c i))

pub record Put (i : Instance) (r : Request) (k : ℕ) (j : Instance) : Type 0 where
  pub short : too_long r.path ≡ false
  pub utf8 : well_formed r.path ≡ true
  pub slash : rooted r.path ≡ true
  pub counter : ℕ
  pub after : j ≡ put_at i r k counter

module _ (i : Instance) (r : Request) (k : ℕ) where
  -- the outcome is not done, or leaves that, at the index that the search found
  abbrev Puts : Outcome → Type 0
  Puts o = o.code ≡ 0 → o.found ≡ Some k → ((allocation i).found ≡ Some k) × Put i r k o.after

  mount_as : too_long r.path ≡ false → well_formed r.path ≡ true → (f : Option ℕ) → (allocation i).found ≡ f → Puts (mount_by_index i r f)
  unfolding mount_by_index
  mount_as s u None q = λ z e. absurd (omega arith)
  mount_as s u (Some j) q =
      first_of_lem Puts _ _ (
        λ a z. absurd (omega arith),
        λ a. (
          λ b z. absurd (omega arith),
          λ b z e.
              let same : j ≡ k = same_Some j k (sym q ∙ e) in
              (e, record { short = s; utf8 = u; slash = not-false _ a; counter = (allocation i).counter; after = ap (λ (y : ℕ). put_at i r y (allocation i).counter) same }),
        ),
      )

  mount_put : (rule i (mount r)).code ≡ 0 → (rule i (mount r)).found ≡ Some k → ((allocation i).found ≡ Some k) × Put i r k (rule i (mount r)).after
  unfolding rule mount_rule
  mount_put =
      first_of_lem Puts _ _ (
        λ a z. absurd (omega arith),
        λ a. (λ b z. absurd (omega arith), λ b. (λ d z. absurd (omega arith), λ d. (λ n z. absurd (omega arith), λ n. mount_as a (not-false _ b) (allocation i).found refl))),
      )

  -- the same of a restored mount, and its index is from 1 on
  abbrev PutsBack : Outcome → Type 0
  PutsBack o = o.code ≡ 0 → (0 < k) × Put i r k o.after

  restored_as : too_long r.path ≡ false → well_formed r.path ≡ true → rooted r.path ≡ true → 0 < k → PutsBack (restore_mount_by_index i k r)
  unfolding restore_mount_by_index
  restored_as s u on p =
      first_of_lem PutsBack _ _ (λ b z. absurd (omega arith), λ b z. (p, record { short = s; utf8 = u; slash = on; counter = counter_of i; after = refl }))

  pub restored_put : (rule i (restore_mount k r)).code ≡ 0 → (0 < k) × Put i r k (rule i (restore_mount k r)).after
  unfolding rule restore_mount_rule
  restored_put =
      first_of_lem PutsBack _ _ (
        λ a z. absurd (omega arith),
        λ a. (
          λ b z. absurd (omega arith),
          λ b. (
            λ c z. absurd (omega arith),
            λ c. (
              λ d z. absurd (omega arith),
              λ d. (λ n z. absurd (omega arith), λ n. (λ s z. absurd (omega arith), λ s. restored_as a (not-false _ b) (not-false _ s) (let e = eqb-false k 0 c in omega arith))),
            ),
          ),
        ),
      )

-- ---- a mount set on a node

pub set_saved : (t : Tree) (x : ℕ) (m : Option Mount) → saved_nodes (set_mount t x m).nodes ≡ saved_nodes t.nodes
unfolding set_mount
set_saved t x m = either (λ (u : Tree). saved_nodes u.nodes ≡ saved_nodes t.nodes) (eqb x root_number) (λ e. refl) (λ e. saved_mount m t.nodes x)

pub node_set : (m : Option Mount) (ns : List Node) (x : ℕ) (n : Node) → node_in ns x ≡ Some n → node_in (nodes_with_mount m ns x) x ≡ Some (with_mount m n)
unfolding node_in nodes_with_mount
node_set m [] x n e = absurd (none-some n e)
node_set m (o ∷ ns) x n e = go (eqb o.number x) refl e (node_set m ns x n)
  where
    go : (b : Bool) → eqb o.number x ≡ b → cond b (Some o) (node_in ns x) ≡ Some n → (node_in ns x ≡ Some n → node_in (nodes_with_mount m ns x) x ≡ Some (with_mount m n))
        → node_in (cond b (with_mount m o ∷ ns) (o ∷ nodes_with_mount m ns x)) x ≡ Some (with_mount m n)
    go true q f k = rw q (ap {B = Option Node} (λ (y : Node). Some (with_mount m y)) (same_Some o n f))
    go false q f k = rw q (k f)

-- it is there, on the root or on a live node
pub set_there : (t : Tree) (x : ℕ) (m : Option Mount) → Rooted t.nodes x → mount_of_node (set_mount t x m) x ≡ m
unfolding mount_of_node set_mount
set_there t x m r = go (eqb x root_number) refl (reached_live t.nodes x r)
  where
    go : (b : Bool) → eqb x root_number ≡ b → (x ≡ root_number) ⊎ ((n : Node) × (node_in t.nodes x ≡ Some n))
        → mount_of_node (cond b (record { next = t.next; root = m; nodes = t.nodes }) (record { next = t.next; root = t.root; nodes = nodes_with_mount m t.nodes x })) x ≡ m
    go true q w = rw q
    go false q (inl w) = absurd (eqb-false x root_number q w)
    go false q (inr (n, e)) = rw (q, node_set m t.nodes x n e)

-- ---- the theorems

pub every_lead : EveryLead
every_lead i d path x =
    let f = (facts i d).tree.shape in
    (path_leads i i.tree.next f.rises path x, leads_path i i.tree.next f path x)

pub every_diverted : EveryDiverted
unfolding rule route_rule route_tree route_tag index_of number_of
every_diverted i m e = record { held = λ t h. rw (e, h); empty = λ h. rw (e, h) }

pub every_new_restored : EveryNewRestoredMount
every_new_restored i k r low done x e =
    let w = restored_put i r k done in
    let j = (rule i (restore_mount k r)).after in
    let tag : tag_of j k ≡ Some r.tag = rw w.1.after (placed_tag k r (ended i r.path) (walked_to r.path (with_counter w.1.counter i)) low) in
    leads_on j x r.tag (omega (arith, w.0)) (ap (tag_of j) e ∙ tag)

-- what is found, of a request that was placed at an index from 1 on of a slot
module _ (i : Instance) (r : Request) (k : ℕ) (j : Instance) (s : Shape (saved_nodes i.tree.nodes) i.tree.next) (low : k < length i.indexes.slots) (least : 0 < k)
    (p : Put i r k j) where
  abbrev x : ℕ
  x = ended i r.path

  abbrev walked_on : Instance
  walked_on = walked_to r.path (with_counter p.counter i)

  put_tree : j.tree ≡ set_mount walked_on.tree x (Some (requested_mount k r))
  unfolding placed
  put_tree = ap (λ (a : Instance). a.tree) p.after

  put_saved : saved_nodes j.tree.nodes ≡ saved_nodes walked_on.tree.nodes
  put_saved = ap (λ (t : Tree). saved_nodes t.nodes) put_tree ∙ set_saved walked_on.tree x (Some (requested_mount k r))

  put_reached : reached j r.path ≡ Some x
  put_reached =
      let w = planned_walking i.tree r.path s p.short p.utf8 in
      let t = planned_leads i.tree r.path s p.short p.utf8 in
      leads_path j walked_on.tree.next (rw put_saved w.shape) r.path x
      (leads_saved walked_on.tree.nodes j.tree.nodes (sym put_saved) root_number x (components 0 r.path) t)

  put_mount : mount_of_node j.tree x ≡ Some (requested_mount k r)
  put_mount =
      ap (λ (t : Tree). mount_of_node t x) put_tree ∙ set_there walked_on.tree x (Some (requested_mount k r)) (planned_walking i.tree r.path s p.short p.utf8).reached

  put_tag : tag_of j k ≡ Some r.tag
  put_tag = rw p.after (placed_tag k r x walked_on low)

  put_walk : rule j (ask (path_walk r.path)) ≡ says (walked (Some x)) j
  unfolding rule walk_rule bad_path first_of
  put_walk = rw (p.utf8, p.slash, put_reached)

  put_query : rule j (ask (get_rootfs r.path)) ≡ says (rootfs (Some (r.tag, k))) j
  unfolding rule root_rule root_at root_held bad_path first_of
  put_query = rw (p.utf8, p.slash, put_reached, put_mount, put_tag)

  put_root : x ≡ root_number → j.tree.root ≡ Some (requested_mount k r)
  unfolding mount_of_node
  put_root e = ap (mount_of_node j.tree) (sym e) ∙ put_mount

  found : Found i j r k
  found = record {
    node = put_walk;
    there = λ y e. ap (λ (m : Made). m.here) (planned_none i r.path y e);
    mount = put_mount;
    query = put_query;
    routed = λ y e. rw (← e) (leads_on j y r.tag (omega arith) (ap (tag_of j) e ∙ put_tag));
    diverted = λ e. (every_diverted j (requested_mount k r) (put_root e)).held r.tag put_tag;
  }

pub every_found : EveryFound
every_found i d r k =
    let f = facts i d in (
      λ z e.
          let w = mount_put i r k z e in
          let b = found_bounds i f.mounts.counter k w.0 in
          found i r k _ f.tree.shape (omega (arith, f.mounts.slots, b.1)) b.0 w.1,
      λ l z.
          let w = restored_put i r k z in
          found i r k _ f.tree.shape (omega (arith, f.mounts.slots)) w.0 w.1,
    )
