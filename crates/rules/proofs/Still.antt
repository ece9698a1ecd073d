-- Calls that change nothing, the queries first of all. Assumes nothing.
use mathlib.Core.Path.{◌≡◌, refl}
use mathlib.Core.Bool.{Bool}
use mathlib.Core.Logic.{◌⊎◌, inl, inr}
use mathlib.Core.List.{List, []}
use Rattle.std.specs.Prelude.{Option, None, Some}
use Prim.Native.Nat.{ℕ}
use native.Mathlib.Omega.{arith}
use lib.Dec.{eqb}
use Rattle.rules.specs.Numbers.{root_number, index_of, number_of, NOENT, INVAL, FULL, NOTFOUND, SMALL}
use Rattle.rules.specs.Tree.{Mount, parent_in, child_in}
use Rattle.rules.specs.Instance.{Instance, mount_of_node, tag_of}
use Rattle.rules.specs.Outcome.{Answer, nothing, Outcome, refused, says, writes}
use Rattle.rules.specs.Reached.{reached, reached_mount, walk_rule}
use Rattle.rules.specs.Rootfs.{root_held, root_at, root_rule}
use Rattle.rules.specs.Lookup.{route_tag, route_tree, route_rule, entry_of, entry_at, lookup_by, lookup_rule, remap_rule}
use Rattle.rules.specs.Listing.{ListRequest, list_rule}
use Rattle.rules.specs.StateRestore.{save_rule}
use Rattle.rules.specs.Calls.{Query, path_walk, get_rootfs, route, lookup, readdir, remap_attr_id, options, initialized, save_to_bytes, asked}
use Rattle.rules.specs.claims.Stays.{EveryAsked}
use Rattle.rules.proofs.Rows.{each_of, either}

-- nothing is visited, and the instance stays; a refusal has no values
pub record Still (i : Instance) (o : Outcome) : Type 0 where
  pub visits : o.visits ≡ []
  pub found : o.found ≡ None
  pub after : o.after ≡ i
  pub not_full : o.code ≡ FULL → ⊥
  pub bare : (o.code ≡ 0) ⊎ ((o.answer ≡ nothing) × (o.written ≡ []))

module _ (i : Instance) where
  pub still_refused : (code : ℕ) → (code ≡ FULL → ⊥) → Still i (refused code i)
  still_refused code h = record { visits = refl; found = refl; after = refl; not_full = h; bare = inr (refl, refl) }

  pub still_says : (a : Answer) → Still i (says a i)
  still_says a = record { visits = refl; found = refl; after = refl; not_full = λ e. omega arith; bare = inl refl }

  still_writes : (bs : List ℕ) → Still i (writes bs i)
  still_writes bs = record { visits = refl; found = refl; after = refl; not_full = λ e. omega arith; bare = inl refl }

  inval_still : Still i (refused INVAL i)
  inval_still = still_refused INVAL (λ e. omega arith)

  noent_still : Still i (refused NOENT i)
  noent_still = still_refused NOENT (λ e. omega arith)

  notfound_still : Still i (refused NOTFOUND i)
  notfound_still = still_refused NOTFOUND (λ e. omega arith)

  pub walk_still : (path : List ℕ) → Still i (walk_rule i path)
  unfolding walk_rule
  walk_still path = each_of (Still i) _ _ (inval_still, still_says _)

  root_held_lem : (k : ℕ) (t : Option ℕ) → Still i (root_held i k t)
  unfolding root_held
  root_held_lem k None = notfound_still
  root_held_lem k (Some t) = still_says _

  root_at_lem : (m : Option Mount) → Still i (root_at i m)
  unfolding root_at
  root_at_lem None = still_says _
  root_at_lem (Some m) = root_held_lem m.index (tag_of i m.index)

  pub root_still : (path : List ℕ) → Still i (root_rule i path)
  unfolding root_rule
  root_still path = each_of (Still i) _ _ (inval_still, root_at_lem (reached_mount i (reached i path)))

  route_tag_lem : (k x : ℕ) (t : Option ℕ) → Still i (route_tag i k x t)
  unfolding route_tag
  route_tag_lem k x None = noent_still
  route_tag_lem k x (Some t) = still_says _

  route_tree_lem : (x : ℕ) (m : Option Mount) → Still i (route_tree i x m)
  unfolding route_tree
  route_tree_lem x None = still_says _
  route_tree_lem x (Some m) = either (Still i) (eqb x root_number) (λ e. route_tag_lem m.index m.root (tag_of i m.index)) (λ e. still_says _)

  pub route_still : (x : ℕ) → Still i (route_rule i x)
  unfolding route_rule
  route_still x =
      either (Still i) (eqb (index_of x) 0) (λ e. route_tree_lem (number_of x) i.tree.root) (λ e. route_tag_lem (index_of x) (number_of x) (tag_of i (index_of x)))

  entry_of_lem : (x : ℕ) (m : Option Mount) → Still i (entry_of i x m)
  unfolding entry_of
  entry_of_lem x None = still_says _
  entry_of_lem x (Some m) = still_says _

  entry_at_lem : (mounts : ℕ → Option Mount) (x : Option ℕ) → Still i (entry_at mounts i x)
  unfolding entry_at
  entry_at_lem mounts None = noent_still
  entry_at_lem mounts (Some x) = entry_of_lem x (mounts x)

  lookup_by_still : (mounts : ℕ → Option Mount) (x : ℕ) (p : List ℕ) → Still i (lookup_by mounts i x p)
  unfolding lookup_by
  lookup_by_still mounts x p =
      each_of (Still i) _ _
      (noent_still, (inval_still, (entry_at_lem mounts (Some x), (entry_at_lem mounts (Some (parent_in i.tree.nodes x)), (noent_still, entry_at_lem mounts (child_in i.tree.nodes x p))))))

  pub lookup_still : (x : ℕ) (p : List ℕ) → Still i (lookup_rule i x p)
  unfolding lookup_rule
  lookup_still x p = lookup_by_still (mount_of_node i.tree) x p

  pub list_still : (q : ListRequest) → Still i (list_rule i q)
  unfolding list_rule
  list_still q = each_of (Still i) _ _ (search (still_writes, noent_still))

  pub save_still : (n : ℕ) → Still i (save_rule i n)
  unfolding save_rule
  save_still n = each_of (Still i) _ _ (still_refused SMALL (λ e. omega arith), still_writes _)

  remap_still : (out : Bool) (uid gid : ℕ) → Still i (remap_rule i out uid gid)
  unfolding remap_rule
  remap_still out uid gid = still_says _

  pub asked_still : (q : Query) → Still i (asked i q)
  asked_still (path_walk path) = walk_still path
  asked_still (get_rootfs path) = root_still path
  asked_still (route x) = route_still x
  asked_still (lookup x p) = lookup_still x p
  asked_still (readdir q) = list_still q
  asked_still (remap_attr_id out uid gid) = remap_still out uid gid
  asked_still options = still_says _
  asked_still initialized = still_says _
  asked_still (save_to_bytes n) = save_still n

-- the theorem: a query leaves the instance, and makes no allocation
pub asked_stays : EveryAsked
asked_stays i q =
    let s = asked_still i q in
    record { after = s.after; visits = s.visits; found = s.found }
