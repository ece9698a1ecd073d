-- Each call answers a number exactly if a test with that number holds and none before it does. Assumes nothing.
use mathlib.Core.Path.{◌≡◌, refl, sym, ap, ◌∙◌}
use mathlib.Core.Bool.{Bool, true, false, cond, not, ◌&&◌, ◌||◌, and-false}
use mathlib.Core.List.{List, [], ◌∷◌}
use Rattle.std.specs.Prelude.{Option, None, Some}
use Prim.Native.Nat.{ℕ, zero, suc, ◌+◌, ◌≤◌, ◌<◌}
use native.Mathlib.Omega.{arith}
use native.Mathlib.Decide.{ℕ_discrete}
use lib.Dec.{eqb, ltb}
use Rattle.rules.specs.Numbers.{root_number, max_ino, max_nodes, storage_for, index_of, number_of, NOENT, INVAL, INODE, FULL, NOTFOUND, SMALL, BADOPT, BADMAP}
use Rattle.rules.specs.Bytes.{holds}
use Rattle.rules.specs.Utf8.{well_formed}
use Rattle.rules.specs.Path.{slash, rooted, is_dot, is_dots}
use Rattle.rules.specs.Ids.{bad_mapping}
use Rattle.rules.specs.Tree.{Mount, is_none, parent_in, child_in}
use Rattle.rules.specs.Instance.{Instance, held_in, tag_of, mount_of_node, counter_of}
use Rattle.rules.specs.Round.{allocate}
use Rattle.rules.specs.Outcome.{Outcome, ◌⟹◌, first_of, refused}
use Rattle.rules.specs.Create.{Creation, outside, unknown, bad_options, too_small, create_rule}
use Rattle.rules.specs.Mount.{Request, no_room, allocation, mount_by_index, mount_rule, restore_mount_by_index, restore_mount_rule}
use Rattle.rules.specs.Reached.{bad_path, reached, reached_mount, walk_rule}
use Rattle.rules.specs.Unmount.{unmounts, unmount_at, unmount_rule}
use Rattle.rules.specs.Rootfs.{root_held, root_at, root_rule}
use Rattle.rules.specs.Lookup.{route_tag, route_tree, route_rule, entry_of, entry_at, lookup_by, lookup_rule, remap_rule}
use Rattle.rules.specs.Listing.{ListRequest, list_rule}
use Rattle.rules.specs.StateRestore.{save_rule, restore_state_rule}
use Rattle.rules.specs.Calls.{Query, path_walk, get_rootfs, route, lookup, readdir, remap_attr_id, options, initialized, save_to_bytes, asked, Call, mount, restore_mount, umount, set_remove_pseudo_root, restore_from_bytes, ask, rule}
use Rattle.rules.specs.claims.Exactly.{Test, ◌⟼◌, held_to, slot_empty, mount_tests, restore_mount_tests, path_tests, query_tests, tests, create_tests, Exactly}
use Rattle.rules.proofs.Allocation.{exact}
use Rattle.rules.proofs.Rows.{Settles, decides, settled, passes, stops, settle, settle_last, settle_or}

abbrev code_of : Outcome → ℕ
code_of o = o.code

-- the rows and the tests end together
end : (o : Outcome) → o.code ≡ 0 → Settles (code_of (first_of [] o)) []
end o e = settle_last code_of o [] (settled o.code e)

-- ---- the search finds none exactly if the slots 1 to 255 are held

all_to : (i : Instance) (n k : ℕ) → k ≤ n → ((j : ℕ) → 1 ≤ j → j ≤ n → held_in i j ≡ true) → held_to k i ≡ true
unfolding held_to
all_to i n zero l h = refl
all_to i n (suc k) l h = rw (h (suc k) (omega arith) l, all_to i n k (omega arith) h)

not_all : (i : Instance) (k j : ℕ) → 1 ≤ j → j ≤ k → held_in i j ≡ false → held_to k i ≡ false
unfolding held_to
not_all i zero j a b e = absurd (omega arith)
not_all i (suc k) j a b e =
    elim (ℕ_discrete j (suc k)) [
      | yes q ↦ rw (ap (held_in i) (sym q) ∙ e)
      | no q ↦ rw (not_all i k j a (omega arith) e, and-false)
    ]

found_or_held : (i : Instance) → counter_of i < 256 → is_none (allocation i).found ≡ held_to 255 i
unfolding allocation
found_or_held i h = go (allocate (held_in i) (counter_of i)).found refl
  where
    go : (o : Option ℕ) → (allocate (held_in i) (counter_of i)).found ≡ o → is_none o ≡ held_to 255 i
    go None e = sym (all_to i 255 255 (omega arith) ((exact (held_in i) (counter_of i) h).refused.0 e))
    go (Some k) e =
        let f = (((exact (held_in i) (counter_of i) h).handed_out k).0 e).1 in
        sym (not_all i 255 k f.least f.most f.empty)

-- ---- mounts

mount_as : (i : Instance) (r : Request) (k : Option ℕ)
    → Settles (mount_by_index i r k).code ((is_none k ⟼ FULL) ∷ (not (rooted r.path) ⟼ INVAL) ∷ (ltb max_ino r.root ⟼ INODE) ∷ [])
unfolding mount_by_index
mount_as i r None = stops _ _ _ refl
mount_as i r (Some k) = passes _ _ _ (settle code_of _ _ _ _ _ _ refl (settle code_of _ _ _ _ _ _ refl (end _ refl)))

mount_settles : (i : Instance) (r : Request) → counter_of i < 256 → Settles (mount_rule i r).code (mount_tests i r)
unfolding mount_rule no_room
mount_settles i r h =
    settle code_of _ _ _ _ _ _ refl (settle code_of _ _ _ _ _ _ refl (settle code_of _ _ _ _ _ _ refl (settle code_of _ _ _ _ _ _ refl (settle_last code_of _ _ (rw (← found_or_held i h) (mount_as i r (allocation i).found))))))

restored_settles : (i : Instance) (k : ℕ) (r : Request) → Settles (restore_mount_rule i k r).code (restore_mount_tests i k r)
unfolding restore_mount_rule restore_mount_by_index no_room
restored_settles i k r =
    settle code_of _ _ _ _ _ _ refl (settle code_of _ _ _ _ _ _ refl (settle code_of _ _ _ _ _ _ refl (settle code_of _ _ _ _ _ _ refl (settle code_of _ _ _ _ _ _ refl
    (settle code_of _ _ _ _ _ _ refl (settle_last code_of _ _ (settle code_of _ _ _ _ _ _ refl (end _ refl))))))))

-- ---- calls that take a path

on_path : (i : Instance) (path : List ℕ) (o : Outcome) (ts : List Test) → Settles o.code ts
    → Settles (first_of ((bad_path path ⟹ refused INVAL i) ∷ []) o).code (path_tests path ts)
unfolding bad_path
on_path i path o ts s =
    settle_or _ (not (well_formed path)) (not (rooted path)) INVAL ts (settle code_of (not (well_formed path) || not (rooted path)) _ [] o _ _ refl (settle_last code_of o ts s))

unmount_at_lem : (i : Instance) (x : Option ℕ) (m : Option Mount)
    → Settles (unmount_at i x m).code ((is_none x ⟼ NOTFOUND) ∷ (is_none m ⟼ NOTFOUND) ∷ [])
unfolding unmount_at unmounts
unmount_at_lem i None m = stops _ _ _ refl
unmount_at_lem i (Some x) None = passes _ _ _ (stops _ _ _ refl)
unmount_at_lem i (Some x) (Some m) = passes _ _ _ (passes _ _ _ (settled _ refl))

root_held_lem : (i : Instance) (k : ℕ) (t : Option ℕ) → Settles (root_held i k t).code ((is_none t ⟼ NOTFOUND) ∷ [])
unfolding root_held
root_held_lem i k None = stops _ _ _ refl
root_held_lem i k (Some t) = passes _ _ _ (settled _ refl)

root_at_lem : (i : Instance) (m : Option Mount) → Settles (root_at i m).code ((slot_empty i m ⟼ NOTFOUND) ∷ [])
unfolding root_at
root_at_lem i None = passes _ _ _ (settled _ refl)
root_at_lem i (Some m) = root_held_lem i m.index (tag_of i m.index)

-- ---- routing and lookup

route_tag_lem : (i : Instance) (k x : ℕ) (t : Option ℕ) → Settles (route_tag i k x t).code ((is_none t ⟼ NOENT) ∷ [])
unfolding route_tag
route_tag_lem i k x None = stops _ _ _ refl
route_tag_lem i k x (Some t) = passes _ _ _ (settled _ refl)

route_tree_lem : (i : Instance) (x : ℕ) (m : Option Mount)
    → Settles (route_tree i x m).code ((eqb x root_number && not (is_none m) && slot_empty i m ⟼ NOENT) ∷ (false ⟼ NOENT) ∷ [])
unfolding route_tree route_tag
route_tree_lem i x None = go (eqb x root_number)
  where
    go : (b : Bool) → Settles 0 ((b && false && false ⟼ NOENT) ∷ (false ⟼ NOENT) ∷ [])
    go true = passes _ _ _ (passes _ _ _ (settled _ refl))
    go false = passes _ _ _ (passes _ _ _ (settled _ refl))
route_tree_lem i x (Some m) = go (eqb x root_number) (tag_of i m.index)
  where
    go : (b : Bool) (t : Option ℕ) → Settles (cond b (route_tag i m.index m.root t) (route_tree i x None)).code ((b && true && is_none t ⟼ NOENT) ∷ (false ⟼ NOENT) ∷ [])
    go true None = stops _ _ _ refl
    go true (Some t) = passes _ _ _ (passes _ _ _ (settled _ refl))
    go false t = passes _ _ _ (passes _ _ _ (settled _ refl))

route_settles : (i : Instance) (x : ℕ) → Settles (route_rule i x).code (query_tests i (route x))
unfolding route_rule
route_settles i x = go (eqb (index_of x) 0)
  where
    go : (b : Bool)
        → Settles (cond b (route_tree i (number_of x) i.tree.root) (route_tag i (index_of x) (number_of x) (tag_of i (index_of x)))).code
        ((b && (eqb (number_of x) root_number && not (is_none i.tree.root)) && slot_empty i i.tree.root ⟼ NOENT) ∷ (not b && is_none (tag_of i (index_of x)) ⟼ NOENT) ∷ [])
    go true = route_tree_lem i (number_of x) i.tree.root
    go false = passes _ _ _ (route_tag_lem i (index_of x) (number_of x) (tag_of i (index_of x)))

entry_code : (i : Instance) (x : ℕ) (m : Option Mount) → (entry_of i x m).code ≡ 0
unfolding entry_of
entry_code i x None = refl
entry_code i x (Some m) = refl

module _ (mounts : ℕ → Option Mount) (i : Instance) where
  entry_some : (x : ℕ) → (entry_at mounts i (Some x)).code ≡ 0
  unfolding entry_at
  entry_some x = entry_code i x (mounts x)

  entry_at_lem : (x : Option ℕ) → Settles (entry_at mounts i x).code ((is_none x ⟼ NOENT) ∷ [])
  unfolding entry_at
  entry_at_lem None = stops _ _ _ refl
  entry_at_lem (Some x) = passes _ _ _ (settled _ (entry_code i x (mounts x)))

  found_by : (x y : ℕ) (z : Option ℕ) (b d s : Bool)
      → Settles (first_of ((b ⟹ entry_at mounts i (Some x)) ∷ (d ⟹ entry_at mounts i (Some y)) ∷ (s ⟹ refused NOENT i) ∷ []) (entry_at mounts i z)).code ((not b && not d && (s || is_none z) ⟼ NOENT) ∷ [])
  unfolding first_of
  found_by x y z true d s = passes _ _ _ (settled _ (entry_some x))
  found_by x y z false true s = passes _ _ _ (settled _ (entry_some y))
  found_by x y z false false true = stops _ _ _ refl
  found_by x y z false false false = entry_at_lem z

lookup_settles : (i : Instance) (x : ℕ) (p : List ℕ) → Settles (lookup_rule i x p).code (query_tests i (lookup x p))
unfolding lookup_rule lookup_by
lookup_settles i x p =
    let nodes = i.tree.nodes in
    settle code_of _ _ _ _ _ _ refl
    (settle_or _ (holds 0 p) (not (well_formed p)) INVAL _
    (settle code_of (holds 0 p || not (well_formed p)) _ _ _ _ _ refl (found_by (mount_of_node i.tree) i x (parent_in nodes x) (child_in nodes x p) (is_dot p) (is_dots p) (holds slash p))))

-- ---- listing, save, restore

list_settles : (i : Instance) (q : ListRequest) → Settles (list_rule i q).code (query_tests i (readdir q))
unfolding list_rule
list_settles i q = settle code_of _ _ _ _ _ _ refl (settle code_of _ _ _ _ _ _ refl (end _ refl))

save_settles : (i : Instance) (n : ℕ) → Settles (save_rule i n).code (query_tests i (save_to_bytes n))
unfolding save_rule
save_settles i n = settle code_of _ _ _ _ _ _ refl (end _ refl)

restore_settles : (i : Instance) (b : List ℕ) → Settles (restore_state_rule i b).code (tests i (restore_from_bytes b))
unfolding restore_state_rule unknown
restore_settles i b =
    settle code_of _ _ _ _ _ _ refl (settle code_of _ _ _ _ _ _ refl (settle code_of _ _ _ _ _ _ refl (settle code_of _ _ _ _ _ _ refl (end _ refl))))

query_settles : (i : Instance) (q : Query) → Settles (asked i q).code (query_tests i q)
unfolding walk_rule root_rule remap_rule
query_settles i (path_walk path) = on_path i path _ _ (settled _ refl)
query_settles i (get_rootfs path) = on_path i path _ _ (root_at_lem i (reached_mount i (reached i path)))
query_settles i (route x) = route_settles i x
query_settles i (lookup x p) = lookup_settles i x p
query_settles i (readdir q) = list_settles i q
query_settles i (remap_attr_id out uid gid) = settled _ refl
query_settles i options = settled _ refl
query_settles i initialized = settled _ refl
query_settles i (save_to_bytes n) = save_settles i n

settles : (i : Instance) → counter_of i < 256 → (c : Call) → Settles (rule i c).code (tests i c)
unfolding rule unmount_rule
settles i h (mount r) = mount_settles i r h
settles i h (restore_mount k r) = restored_settles i k r
settles i h (umount path) = on_path i path _ _ (unmount_at_lem i (reached i path) (reached_mount i (reached i path)))
settles i h set_remove_pseudo_root = settled _ refl
settles i h (restore_from_bytes b) = restore_settles i b
settles i h (ask q) = query_settles i q

-- ---- creation

three : (code : ℕ) (a b c : Bool) (k : ℕ) (ts : List Test) → Settles code ((a || b || c ⟼ k) ∷ ts) → Settles code ((a ⟼ k) ∷ (b ⟼ k) ∷ (c ⟼ k) ∷ ts)
three code a b c k ts s = settle_or code a b k ((c ⟼ k) ∷ ts) (settle_or code (a || b) c k ts s)

module _ (bytes : ℕ) (q : Creation) where
  abbrev n : ℕ
  n = q.capacity

  create_settles : Settles (create_rule bytes q) (create_tests bytes q)
  unfolding create_rule too_small bad_options unknown bad_mapping
  create_settles =
      three _ (ltb n 1) (ltb max_nodes n) (ltb bytes (storage_for n)) SMALL _
      (settle (λ k. k) (ltb n 1 || ltb max_nodes n || ltb bytes (storage_for n)) _ _ _ _ _ refl
      (three _ (outside q.known q.options.in_opts) (outside q.known q.options.out_opts) (ltb 63 q.options.flags) BADOPT _
      (settle (λ k. k) (outside q.known q.options.in_opts || outside q.known q.options.out_opts || ltb 63 q.options.flags) _ _ _ _ _ refl
      (settle_or _ (ltb 4294967295 (q.options.mapping.internal + q.options.mapping.range)) (ltb 4294967295 (q.options.mapping.external + q.options.mapping.range)) BADMAP _
      (settle (λ k. k) _ _ _ _ _ _ refl (settle_last (λ k. k) _ [] (settled _ refl)))))))

-- the theorem
pub exactly : Exactly
exactly = (λ i h c. decides (tests i c) (rule i c).code (settles i h c), λ bytes q. decides (create_tests bytes q) (create_rule bytes q) (create_settles bytes q))
