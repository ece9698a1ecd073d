-- What each return of the lookup tells, by the find and the mount on what was found. Assumes nothing.
use mathlib.Core.Path.{◌≡◌, refl, sym, ap, ◌∙◌}
use mathlib.Core.Bool.{true}
use mathlib.Core.List.{List}
use Rattle.std.specs.Prelude.{None, Some, Result, Ok, Err}
use Prim.Native.Nat.{ℕ, ◌^◌, ◌<◌}
use native.Mathlib.Omega.{arith}
use borrow.Author.Tests.{le-ltb}
use Rattle.rules.specs.Numbers.{max_ino, or_zero, convert}
use Rattle.rules.specs.declared.codes.VfsError.{VfsError}
use Rattle.rules.specs.Tree.{Mount}
use Rattle.rules.specs.Instance.{Instance, mount_of_node}
use Rattle.rules.specs.Outcome.{Answer, Outcome, says}
use Rattle.rules.specs.Lookup.{entry_of, lookup_rule, outward}
use Rattle.tables.specs.View.{nodes_of, view}
use Rattle.tables.specs.Laid.{laid}
use Rattle.call_form.specs.Form.{told_by, tells, answered_by}
use Rattle.tables.specs.Answer.{mount_of_point}
use Rattle.tables.specs.declared.mounts.MountPoint.{MountPoint}
use Rattle.inode.specs.declared.VfsInode.{VfsInode}
use Rattle.storage.proofs.Laid.{told_by_lem}
use Rattle.pseudo_fs.specs.declared.Entry.{Entry}
use Rattle.pseudo_fs.specs.Finds.{outcome_of, Finds}
use Rattle.pseudo_fs.specs.Told.{entry_answer, pseudo_answer}
use Rattle.pseudo_fs.proofs.Finds.{found_low}
use Rattle.pseudo_fs.proofs.Calls.{pseudo_is}
use Rattle.vfs_query.specs.Told.{looked_told, root_answer}
use Rattle.vfs_query.proofs.Mounted.{mount_low}

-- ---- the root entry

-- as the code makes it
pub root_made : (i : Instance) (m : MountPoint) (v : VfsInode) (u₁ g₁ u₂ g₂ : ℕ) → v.0 ≡ or_zero (convert m.fs_idx m.root)
    → u₁ ≡ outward i m.uid → g₁ ≡ outward i m.gid → u₂ ≡ outward i u₁ → g₂ ≡ outward i g₁
    → entry_answer (record { inode = v; mode = m.mode; uid = u₂; gid = g₂; blksize = 0 }) ≡ root_answer i (mount_of_point m)
unfolding entry_answer root_answer
root_made i m v u₁ g₁ u₂ g₂ n a b c d = rw (n, c, d, a, b)

-- of a mount in the bytes it is the rules' entry
root_is : (i : Instance) (y : ℕ) (m : Mount) → m.root < 2 ^ 56 → says (root_answer i m) i ≡ entry_of i y (Some m)
unfolding root_answer convert entry_of
root_is i y m h = rw (le-ltb max_ino m.root (omega arith))

-- ---- the lookup

module _ (mem : List ℕ) (x : ℕ) (p : List ℕ) (e : laid mem ≡ true) (r : Result ℕ VfsError) (f : Finds (nodes_of mem) x p r) where
  abbrev crossing : Instance → Outcome
  crossing i = lookup_rule i x p

  by_find : answered_by mem crossing ≡ told_by (outcome_of (mount_of_node (view mem).tree) (view mem) r)
  unfolding lookup_rule view
  by_find = told_by_lem mem crossing e ∙ ap (λ (o : Outcome). told_by o) (sym (f (mount_of_node (view mem).tree) (view mem) refl))

  pub cross_refused : (d : VfsError) → r ≡ Err d → looked_told (Err d) ≡ answered_by mem crossing
  unfolding outcome_of
  cross_refused d q = sym (by_find ∙ rw q)

  module _ (y : ℕ) (q : r ≡ Ok y) (n : Entry) where
    pub cross_mounted : (m : Mount) → Some m ≡ mount_of_node (view mem).tree y → entry_answer n ≡ root_answer (view mem) m → looked_told (Ok n) ≡ answered_by mem crossing
    unfolding outcome_of
    cross_mounted m g a =
        ap (λ (v : Answer). tells v) a ∙ (ap (λ (o : Outcome). told_by o) (root_is (view mem) y m (mount_low mem y m g)) ∙ sym (by_find ∙ rw (q, sym g)))

    pub cross_bare : None ≡ mount_of_node (view mem).tree y → entry_answer n ≡ pseudo_answer (view mem) y → looked_told (Ok n) ≡ answered_by mem crossing
    unfolding outcome_of
    cross_bare g a =
        let h : y < 2 ^ 56 = found_low mem x p y (rw q at f) in
        ap (λ (v : Answer). tells v) a ∙ (ap (λ (o : Outcome). told_by o) (pseudo_is mem e y h) ∙ sym (by_find ∙ rw (q, sym g)))
