-- What a host reads in the numbers of an answer is what the call tells. Assumes nothing.
use mathlib.Core.Path.{◌≡◌, refl}
use mathlib.Core.Bool.{Bool, true, false, cond}
use mathlib.Core.List.{List}
use Rattle.std.specs.Prelude.{Option, None, Some}
use Prim.Native.Nat.{ℕ}
use lib.Dec.{eqb}
use Rattle.rules.specs.Numbers.{root_number, DONE, index_of}
use Rattle.rules.specs.Tree.{Mount, parent_in}
use Rattle.rules.specs.Instance.{Instance, mount_of_node}
use Rattle.rules.specs.Outcome.{mounted, restored_mount, unmounted, walked, truth, Outcome}
use Rattle.rules.specs.Mount.{Request, mount_by_index, mount_rule, restore_mount_by_index, restore_mount_rule}
use Rattle.rules.specs.Reached.{walk_rule}
use Rattle.rules.specs.Unmount.{unmounts, unmount_at, unmount_rule}
use Rattle.rules.specs.Rootfs.{root_held, root_at, root_rule}
use Rattle.rules.specs.Lookup.{route_tag, route_tree, route_rule, entry_of, entry_at, lookup_by, lookup_rule, remap_rule}
use Rattle.rules.specs.Listing.{ListRequest, list_rule}
use Rattle.rules.specs.StateRestore.{save_rule, restore_state_rule}
use Rattle.rules.specs.Calls.{Call, mount, restore_mount, umount, set_remove_pseudo_root, ask, path_walk, get_rootfs, route, lookup, readdir, remap_attr_id, options, initialized, save_to_bytes, restore_from_bytes, rule}
use Rattle.rules.proofs.Rows.{each_of, either}
use Rattle.tables.specs.View.{view}
use Rattle.tables.specs.Laid.{laid}
use Rattle.call_form.specs.Form.{Told, told_by, tells, told_small, answered_by}
use Rattle.flat.specs.Flat.{code_numbers, initialized_numbers, options_numbers, mount_numbers, restore_mount_numbers, umount_numbers, rootfs_numbers, walk_numbers, route_numbers, lookup_numbers, wrote_numbers, ids_numbers}
use Rattle.contracts.specs.Reads.{code_read, initialized_read, options_read, mount_read, restore_mount_read, umount_read, rootfs_read, walk_read, route_read, lookup_read, wrote_read, ids_read}

-- the numbers of an answer, and what is read in them
pub record Plain : Type 1 where
  pub Answer : Type 0
  pub numbers : Told → Answer
  pub reads : Answer → Told

abbrev pub plain : {A : Type 0} → (Told → A) → (A → Told) → Plain
plain {A} numbers reads = record { Answer = A; numbers = numbers; reads = reads }

-- what is told is read again
abbrev Back : Plain → Told → Type 0
Back p t = p.reads (p.numbers t) ≡ t

abbrev BackBy : Plain → Outcome → Type 0
BackBy p o = Back p (told_by o)

-- so is every answer of a call, SMALL included
pub record Reads (p : Plain) (c : Call) : Type 0 where
  pub small : Back p told_small
  pub all : (i : Instance) → BackBy p (rule i c)

pub told_back : (p : Plain) (c : Call) → Reads p c → (mem : List ℕ) → Back p (answered_by mem (λ (i : Instance). rule i c))
unfolding answered_by
told_back p c h mem = go (laid mem)
  where
    go : (b : Bool) → Back p (cond b (told_by (rule (view mem) c)) told_small)
    go true = h.all (view mem)
    go false = h.small

-- ---- the answers

-- what is told needs no reading
abbrev pub bare : Plain
bare = plain (λ (t : Told). t) (λ (t : Told). t)

abbrev pub code_answers : Plain
code_answers = plain code_numbers code_read

abbrev pub initialized_answers : Plain
initialized_answers = plain initialized_numbers initialized_read

abbrev pub options_answers : Plain
options_answers = plain options_numbers options_read

abbrev pub mount_answers : Plain
mount_answers = plain mount_numbers mount_read

abbrev pub restore_mount_answers : Plain
restore_mount_answers = plain restore_mount_numbers restore_mount_read

abbrev pub umount_answers : Plain
umount_answers = plain umount_numbers umount_read

abbrev pub rootfs_answers : Plain
rootfs_answers = plain rootfs_numbers rootfs_read

abbrev pub walk_answers : Plain
walk_answers = plain walk_numbers walk_read

abbrev pub route_answers : Plain
route_answers = plain route_numbers route_read

abbrev pub lookup_answers : Plain
lookup_answers = plain lookup_numbers lookup_read

abbrev pub wrote_answers : Plain
wrote_answers = plain wrote_numbers wrote_read

abbrev pub ids_answers : Plain
ids_answers = plain ids_numbers ids_read

-- ---- values that are there or not

mounted_back_lem : (k : ℕ) (t : Option ℕ) (n : ℕ) → Back mount_answers (record { code = DONE; answer = mounted k t; count = n })
mounted_back_lem k None n = refl
mounted_back_lem k (Some t) n = refl

mount_as : (i : Instance) (r : Request) (o : Option ℕ) → BackBy mount_answers (mount_by_index i r o)
unfolding mount_by_index
mount_as i r None = refl
mount_as i r (Some k) = each_of (BackBy mount_answers) _ _ (refl, (refl, mounted_back_lem k _ _))

restored_back_lem : (a d : Option ℕ) → Back restore_mount_answers (tells (restored_mount a d))
restored_back_lem None None = refl
restored_back_lem None (Some d) = refl
restored_back_lem (Some a) None = refl
restored_back_lem (Some a) (Some d) = refl

unmounted_back_lem : (x p : ℕ) (t : Option ℕ) → Back umount_answers (tells (unmounted x p t))
unmounted_back_lem x p None = refl
unmounted_back_lem x p (Some t) = refl

unmount_at_lem : (i : Instance) (o : Option ℕ) (m : Option Mount) → BackBy umount_answers (unmount_at i o m)
unfolding unmount_at unmounts
unmount_at_lem i None m = refl
unmount_at_lem i (Some x) None = refl
unmount_at_lem i (Some x) (Some m) = unmounted_back_lem x _ _

walked_back_lem : (o : Option ℕ) → Back walk_answers (tells (walked o))
walked_back_lem None = refl
walked_back_lem (Some x) = refl

root_held_lem : (i : Instance) (k : ℕ) (t : Option ℕ) → BackBy rootfs_answers (root_held i k t)
unfolding root_held
root_held_lem i k None = refl
root_held_lem i k (Some t) = refl

root_at_lem : (i : Instance) (m : Option Mount) → BackBy rootfs_answers (root_at i m)
unfolding root_at
root_at_lem i None = refl
root_at_lem i (Some m) = root_held_lem i m.index _

route_tag_lem : (i : Instance) (k n : ℕ) (t : Option ℕ) → BackBy route_answers (route_tag i k n t)
unfolding route_tag
route_tag_lem i k n None = refl
route_tag_lem i k n (Some t) = refl

route_tree_lem : (i : Instance) (n : ℕ) (m : Option Mount) → BackBy route_answers (route_tree i n m)
unfolding route_tree
route_tree_lem i n None = refl
route_tree_lem i n (Some m) = either (BackBy route_answers) (eqb n root_number) (λ e. route_tag_lem i _ _ _) (λ e. refl)

entry_of_lem : (i : Instance) (x : ℕ) (m : Option Mount) → BackBy lookup_answers (entry_of i x m)
unfolding entry_of
entry_of_lem i x None = refl
entry_of_lem i x (Some m) = refl

entry_at_lem : (i : Instance) (o : Option ℕ) → BackBy lookup_answers (entry_at (mount_of_node i.tree) i o)
unfolding entry_at
entry_at_lem i None = refl
entry_at_lem i (Some x) = entry_of_lem i x _

truth_back : (b : Bool) → Back initialized_answers (tells (truth b))
truth_back true = refl
truth_back false = refl

-- ---- the calls

pub bare_reads : (c : Call) → Reads bare c
bare_reads c = record { small = refl; all = λ i. refl }

pub remove_reads : Reads code_answers set_remove_pseudo_root
unfolding rule
remove_reads = record { small = refl; all = λ i. refl }

pub mount_reads : (r : Request) → Reads mount_answers (mount r)
unfolding rule mount_rule
mount_reads r = record { small = refl; all = λ i. each_of (BackBy mount_answers) _ _ (refl, (refl, (refl, (refl, mount_as i r _)))) }

pub restore_mount_reads : (k : ℕ) (r : Request) → Reads restore_mount_answers (restore_mount k r)
unfolding rule restore_mount_rule restore_mount_by_index
restore_mount_reads k r = record {
  small = refl;
  all = λ i. each_of (BackBy restore_mount_answers) _ _ (refl, (refl, (refl, (refl, (refl, (refl, each_of (BackBy restore_mount_answers) _ _ (refl, restored_back_lem _ _)))))));
}

pub umount_reads : (path : List ℕ) → Reads umount_answers (umount path)
unfolding rule unmount_rule
umount_reads path = record { small = refl; all = λ i. each_of (BackBy umount_answers) _ _ (refl, unmount_at_lem i _ _) }

pub restore_reads : (b : List ℕ) → Reads code_answers (restore_from_bytes b)
unfolding rule restore_state_rule
restore_reads b = record { small = refl; all = λ i. each_of (BackBy code_answers) _ _ (refl, (refl, (refl, (refl, refl)))) }

pub walk_reads : (path : List ℕ) → Reads walk_answers (ask (path_walk path))
unfolding rule walk_rule
walk_reads path = record { small = refl; all = λ i. each_of (BackBy walk_answers) _ _ (refl, walked_back_lem _) }

pub rootfs_reads : (path : List ℕ) → Reads rootfs_answers (ask (get_rootfs path))
unfolding rule root_rule
rootfs_reads path = record { small = refl; all = λ i. each_of (BackBy rootfs_answers) _ _ (refl, root_at_lem i _) }

pub route_reads : (x : ℕ) → Reads route_answers (ask (route x))
unfolding rule route_rule
route_reads x = record { small = refl; all = λ i. either (BackBy route_answers) (eqb (index_of x) 0) (λ e. route_tree_lem i _ _) (λ e. route_tag_lem i _ _ _) }

pub lookup_reads : (x : ℕ) (name : List ℕ) → Reads lookup_answers (ask (lookup x name))
unfolding rule lookup_rule lookup_by
lookup_reads x name = record {
  small = refl;
  all = λ i. each_of (BackBy lookup_answers) _ _ (refl, (refl, (entry_at_lem i (Some x), (entry_at_lem i (Some (parent_in i.tree.nodes x)), (refl, entry_at_lem i _)))));
}

pub remap_reads : (out : Bool) (uid gid : ℕ) → Reads ids_answers (ask (remap_attr_id out uid gid))
unfolding rule remap_rule
remap_reads out uid gid = record { small = refl; all = λ i. refl }

pub options_reads : Reads options_answers (ask options)
unfolding rule
options_reads = record { small = refl; all = λ i. refl }

pub initialized_reads : Reads initialized_answers (ask initialized)
unfolding rule
initialized_reads = record { small = refl; all = λ i. truth_back i.initialized }

pub readdir_reads : (q : ListRequest) → Reads wrote_answers (ask (readdir q))
unfolding rule list_rule
readdir_reads q = record { small = refl; all = λ i. each_of (BackBy wrote_answers) _ _ (refl, (refl, refl)) }

pub save_reads : (n : ℕ) → Reads wrote_answers (ask (save_to_bytes n))
unfolding rule save_rule
save_reads n = record { small = refl; all = λ i. each_of (BackBy wrote_answers) _ _ (refl, refl) }
