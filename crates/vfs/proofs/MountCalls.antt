-- The mount as a call: what each of its tests gives, in their order. Assumes nothing.
use mathlib.Core.Path.{◌≡◌, refl, sym, ◌∙◌}
use mathlib.Core.Bool.{true, false}
use mathlib.Core.List.{List}
use Rattle.std.specs.Prelude.{Option, None, Some, Result, Err}
use Prim.Native.Nat.{ℕ, ◌≤◌, ◌<◌}
use lib.Dec.{ltb}
use borrow.Author.Tests.{lt-ltb, le-ltb}
use Rattle.rules.specs.Numbers.{max_ino, INODE}
use Rattle.rules.specs.declared.codes.VfsError.TheVariants.{Inode}
use Rattle.rules.specs.Path.{rooted}
use Rattle.rules.specs.Instance.{Instance}
use Rattle.rules.specs.Outcome.{Outcome, nothing, refused, first_of}
use Rattle.rules.specs.Mount.{Request, allocation, stepped, allocated, mount_by_index, mount_rule}
use Rattle.tables.specs.View.{view}
use Rattle.call_form.specs.Form.{Does}
use Rattle.mount_parts.specs.Follows.{Follows}
use Rattle.mount_parts.specs.Mounting.{request_of, mounted_told, alloc_mem, rooted_mem, unrooted_rule, rooted_rule, early, mount_mem, by_found}
use Rattle.mount_parts.specs.declared.backend.Backend.{Backend}
use Rattle.mount_parts.specs.declared.mounting.Mounted.{Mounted}
use Rattle.mount_parts.specs.declared.mounting.MountRefused.{MountRefused}
use Rattle.storage.proofs.Calls.{does_nothing, does}
use Rattle.vfs.proofs.FirstRows.{Begins, Passed}

module _ (mem path : List ℕ) (b : Backend) where
  abbrev R : Request
  R = request_of path b

  abbrev F : Instance → Outcome
  F = λ (i : Instance). mount_rule i R

  abbrev Gives : Result Mounted MountRefused → List ℕ → Type 0
  Gives r after = Does mem F (mounted_told r) after (mount_mem R mem)

  pub mount_begins : Begins mem path F (mount_mem R mem)
  unfolding mount_mem early mount_rule
  mount_begins = record { rest = _; last = _; stop = early R; other = _; rule = refl; bytes = refl; stops_long = λ z. rw z; stops_bad = λ y z. rw (y, z) }

  module _ (p : Passed mem path) where
    -- row 3, as any refusal where nothing was visited
    abbrev Large : Result Mounted MountRefused
    Large = Err (record { why = Inode; count = 0 })

    pub large : max_ino < b.largest → Gives Large mem
    unfolding mount_rule mount_mem first_of early
    large h =
        let z : ltb max_ino b.largest ≡ true = lt-ltb max_ino b.largest h in
        does_nothing mem F (mounted_told Large) (mount_mem R mem) (refused INODE (view mem)) p.laid (rw (p.fits, p.formed, z)) refl refl (rw (p.laid, p.fits, p.formed, z))

    module _ (low : b.largest ≤ max_ino) where
      top : ltb max_ino b.largest ≡ false
      top = le-ltb max_ino b.largest low

      not_early : early R ≡ false
      unfolding early
      not_early = rw (p.fits, p.formed, top)

      pub no_slash_ends : rooted path ≡ false → (v : Result Mounted MountRefused) (after : List ℕ) → Follows (unrooted_rule (view mem)) (alloc_mem mem) (mounted_told v) after → Gives v after
      unfolding mount_rule mount_mem first_of mount_by_index
      no_slash_ends off v after w =
          does mem F (mounted_told v) after (mount_mem R mem) (unrooted_rule (view mem)) p.laid (rw (p.fits, p.formed, top, off) (rows (allocation (view mem)).found)) w.told
          (w.bytes ∙ sym (rw (p.laid, not_early, off))) w.stands w.keeps
        where
          rows : (f : Option ℕ) → mount_by_index (view mem) R f ≡ allocated (view mem) (by_found f) nothing (stepped (view mem))
          rows None = refl
          rows (Some k) = rw off

      pub slash_ends : rooted path ≡ true → (v : Result Mounted MountRefused) (after : List ℕ) → Follows (rooted_rule (view mem) R) (rooted_mem R mem) (mounted_told v) after → Gives v after
      unfolding mount_rule mount_mem first_of
      slash_ends at v after w =
          does mem F (mounted_told v) after (mount_mem R mem) (rooted_rule (view mem) R) p.laid (rw (p.fits, p.formed, top, at)) w.told (w.bytes ∙ sym (rw (p.laid, not_early, at))) w.stands w.keeps
