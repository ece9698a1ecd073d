-- Every step that a contract allows is one of which the theorems on bytes speak. Assumes nothing.
use mathlib.Core.Path.{◌≡◌, sym, ap, ◌∙◌, subst}
use mathlib.Core.Bool.{true, not}
use mathlib.Core.List.{List, [], ◌∷◌}
use mathlib.Core.Logic.{⊎_elim}
use Prim.Native.Nat.{ℕ, ◌^◌, ◌<◌}
use lib.Dec.{eqb}
use lib.ListN.{length}
use Rattle.rules.specs.Numbers.{DONE}
use Rattle.rules.specs.Instance.{Instance}
use Rattle.rules.specs.Create.{Creation}
use Rattle.rules.specs.claims.Driven.{Driven}
use Rattle.rules.specs.Calls.{Query, path_walk, get_rootfs, route, lookup, readdir, remap_attr_id, options, initialized, save_to_bytes, Call, mount, restore_mount, umount, set_remove_pseudo_root, restore_from_bytes, ask, rule}
use Rattle.rules.proofs.Still.{asked_stays}
use Rattle.tables.specs.View.{view}
use Rattle.tables.specs.Laid.{laid}
use Rattle.call_form.specs.Form.{answered_by, DoesBy}
use Rattle.storage.specs.Creation.{creation_of, Creates}
use Rattle.storage.proofs.Creation.{creates_driven}
use Rattle.mount_parts.specs.Mounting.{request_of}
use Rattle.vfs.specs.Runs.{Allowed, Run, last_of}
use Rattle.vfs.proofs.Runs.{stays_driven, read_allowed}
use Rattle.gateway.specs.Calls.{creation_by, request_by}
use Rattle.contracts.specs.Made.{step_by, by_remove, by_mount, by_restore_mount, by_umount, by_restore, by_walk, by_rootfs, by_route, by_lookup, by_remap, by_options, by_initialized, by_readdir, by_save, EveryContract, EveryExport, RunBy, EveryRunBy, by_create, by_export, EveryCreated, TypedIn, EveryRunDriven}
use Rattle.contracts.proofs.Back.{Plain, Reads, told_back, bare, bare_reads, remove_reads, mount_reads, restore_mount_reads, umount_reads, restore_reads, walk_reads, rootfs_reads, route_reads, lookup_reads, remap_reads, options_reads, initialized_reads, readdir_reads, save_reads}

-- ---- the two kinds of contract, however the answer is told

module _ (p : Plain) (c : Call) (h : Reads p c) (mem : List ℕ) (r : p.Answer) where
  pub told_by_rule : r ≡ p.numbers (answered_by mem (λ (i : Instance). rule i c)) → p.reads r ≡ answered_by mem (λ (i : Instance). rule i c)
  told_by_rule e = ap p.reads e ∙ told_back p c h mem

  -- a call that changes the instance
  changes : (after exact : List ℕ) → DoesBy p.numbers mem (λ (i : Instance). rule i c) r after exact → Allowed (step_by mem c (p.reads r) after)
  changes after exact d = record { answer = told_by_rule d.answer; stands = d.stands; keeps = d.keeps }

-- a query, which leaves it
looks : (p : Plain) (q : Query) → Reads p (ask q) → (mem : List ℕ) (r : p.Answer) → r ≡ p.numbers (answered_by mem (λ (i : Instance). rule i (ask q)))
    → Allowed (step_by mem (ask q) (p.reads r) mem)
unfolding rule
looks p q h mem r e = read_allowed mem (p.reads r) (ask q) (λ i. (asked_stays i q).after) (told_by_rule p (ask q) h mem r e)

-- ---- the theorems

pub every_contract : EveryContract
unfolding rule
every_contract _ (by_remove κs s r x d) = changes bare set_remove_pseudo_root (bare_reads _) s.now _ _ _ d
every_contract _ (by_mount κs s path b r x d) = changes bare (mount (request_of path.now b)) (bare_reads _) s.now _ _ _ d
every_contract _ (by_restore_mount κs s k path b r x d) = changes bare (restore_mount k (request_of path.now b)) (bare_reads _) s.now _ _ _ d
every_contract _ (by_umount κs s path r x d) = changes bare (umount path.now) (bare_reads _) s.now _ _ _ d
every_contract _ (by_restore κs s b r x d) = changes bare (restore_from_bytes b.now) (bare_reads _) s.now _ _ _ d
every_contract _ (by_walk κs s path r x e) = looks bare (path_walk path.now) (bare_reads _) s.now _ e
every_contract _ (by_rootfs κs s path r x e) = looks bare (get_rootfs path.now) (bare_reads _) s.now _ e
every_contract _ (by_route κs s n r x e) = looks bare (route n.0) (bare_reads _) s.now _ e
every_contract _ (by_lookup κs s n name r x e) = looks bare (lookup n.0 name.now) (bare_reads _) s.now _ e
every_contract _ (by_remap κs s uid gid out r x e) = looks bare (remap_attr_id out uid gid) (bare_reads _) s.now _ e
every_contract _ (by_options κs s r x e) = looks bare options (bare_reads _) s.now _ e
every_contract _ (by_initialized κs s r x e) = looks bare initialized (bare_reads _) s.now _ e
every_contract _ (by_readdir κs s n size offset out r x w) = looks bare (readdir _) (bare_reads _) s.now _ w.answer
every_contract _ (by_save κs s out r x w) = looks bare (save_to_bytes (length out.now)) (bare_reads _) s.now _ w.answer

pub every_export : EveryExport
unfolding rule
every_export _ (by_remove κs s r x d) = changes _ _ remove_reads s.now r _ _ d
every_export _ (by_mount κs s path tag root largest uid gid mode r x d) = changes _ _ (mount_reads (request_by path.now tag root largest uid gid mode)) s.now r _ _ d
every_export _ (by_restore_mount κs s k path tag root largest uid gid mode r x d) =
    changes _ _ (restore_mount_reads k (request_by path.now tag root largest uid gid mode)) s.now r _ _ d
every_export _ (by_umount κs s path r x d) = changes _ _ (umount_reads path.now) s.now r _ _ d
every_export _ (by_restore κs s b r x d) = changes _ _ (restore_reads b.now) s.now r _ _ d
every_export _ (by_walk κs s path r x e) = looks _ _ (walk_reads path.now) s.now r e
every_export _ (by_rootfs κs s path r x e) = looks _ _ (rootfs_reads path.now) s.now r e
every_export _ (by_route κs s n r x e) = looks _ _ (route_reads n) s.now r e
every_export _ (by_lookup κs s n name r x e) = looks _ _ (lookup_reads n name.now) s.now r e
every_export _ (by_remap κs s uid gid out r x e) = looks _ _ (remap_reads (not (eqb out 0)) uid gid) s.now r e
every_export _ (by_options κs s r x e) = looks _ _ options_reads s.now r e
every_export _ (by_initialized κs s r x e) = looks _ _ initialized_reads s.now r e
every_export _ (by_readdir κs s n size offset out r x w) = looks _ _ (readdir_reads _) s.now r w.answer
every_export _ (by_save κs s out r x w) = looks _ _ (save_reads (length out.now)) s.now r w.answer

pub every_run_by : EveryRunBy
unfolding RunBy Run
every_run_by mem [] r = tt
every_run_by mem (s ∷ ss) (e, (m, r)) = (e, (⊎_elim (every_contract s) (every_export s) m, every_run_by s.after ss r))

-- a done creation, by its contract
done_created : (mem : List ℕ) (q : Creation) (code : ℕ) (after : List ℕ) → q.known < 2 ^ 64 → Creates mem q code after → code ≡ DONE → (laid after ≡ true) × Driven (view after)
done_created mem q code after h d e = (d.keeps e, creates_driven mem q after h (subst (λ (n : ℕ). Creates mem q n after) e d))

pub every_created : EveryCreated
every_created _ (by_create κs s n known o r x d h e) = done_created s.now (creation_of n known o) _ _ h d e
every_created _ (by_export κs s n known ins outs flags internal external range r x d h e) = done_created s.now (creation_by n known ins outs flags internal external range) _ _ h d e

pub every_run_driven : EveryRunDriven
unfolding Run TypedIn last_of
every_run_driven mem l d [] r t = (l, d)
every_run_driven mem l d (s ∷ ss) (b, (a, r)) (t, ts) =
    let on : laid s.before ≡ true = ap laid b ∙ l in
    every_run_driven s.after (a.keeps on) (stays_driven s a t on (subst (λ (m : List ℕ). Driven (view m)) (sym b) d)) ss r ts
