-- The restored mount as a call: what each of its tests gives, in their order. Assumes nothing.
use mathlib.Core.Path.{◌≡◌, refl, sym, ◌∙◌}
use mathlib.Core.Bool.{true, false}
use mathlib.Core.List.{List}
use Prim.Native.Nat.{ℕ, ◌≤◌, ◌<◌}
use Rattle.std.specs.Prelude.{Result, Err}
use native.Mathlib.Omega.{arith}
use lib.Dec.{eqb, ltb}
use borrow.Author.Tests.{lt-ltb, le-ltb, eq-eqb, ne_eqb}
use Rattle.rules.specs.Numbers.{max_ino}
use Rattle.rules.specs.Codes.{code_of}
use Rattle.rules.specs.declared.codes.VfsError.{VfsError}
use Rattle.rules.specs.declared.codes.VfsError.TheVariants.{Inval, BadIndex, Inode}
use Rattle.rules.specs.Path.{rooted}
use Rattle.rules.specs.Instance.{Instance}
use Rattle.rules.specs.Outcome.{Outcome, refused, first_of}
use Rattle.rules.specs.Mount.{Request, restore_mount_rule}
use Rattle.tables.specs.View.{view}
use Rattle.call_form.specs.Form.{Does}
use Rattle.mount_parts.specs.Follows.{Follows}
use Rattle.mount_parts.specs.Mounting.{request_of}
use Rattle.mount_parts.specs.RestoredMounting.{restored_mount_told, restore_mount_rest, restore_mount_rest_mem, restore_mount_stopped, restore_mount_mem}
use Rattle.mount_parts.specs.declared.backend.Backend.{Backend}
use Rattle.mount_parts.specs.declared.restored_mounting.RestoredMount.{RestoredMount}
use Rattle.storage.proofs.Calls.{does_nothing, does}
use Rattle.vfs.proofs.FirstRows.{Begins, Passed}

pub index_by : (k : ℕ) → (k ≡ 0 → ⊥) → 1 ≤ k
index_by k h = omega arith

module _ (mem path : List ℕ) (k : ℕ) (b : Backend) where
  abbrev Q : Request
  Q = request_of path b

  abbrev F : Instance → Outcome
  F = λ (i : Instance). restore_mount_rule i k Q

  abbrev Gives : Result RestoredMount VfsError → List ℕ → Type 0
  Gives r after = Does mem F (restored_mount_told r) after (restore_mount_mem k Q mem)

  pub restore_begins : Begins mem path F (restore_mount_mem k Q mem)
  unfolding restore_mount_mem restore_mount_stopped restore_mount_rule
  restore_begins = record { rest = _; last = _; stop = restore_mount_stopped k Q; other = _; rule = refl; bytes = refl; stops_long = λ z. rw z; stops_bad = λ y z. rw (y, z) }

  module _ (p : Passed mem path) where
    refusal : (e : VfsError) → F (view mem) ≡ refused (code_of e) (view mem) → restore_mount_stopped k Q ≡ true → Gives (Err e) mem
    unfolding restore_mount_mem
    refusal e f x = does_nothing mem F (restored_mount_told (Err e)) (restore_mount_mem k Q mem) (refused (code_of e) (view mem)) p.laid f refl refl (rw (p.laid, x))

    pub bad_index : k ≡ 0 → Gives (Err BadIndex) mem
    unfolding restore_mount_rule first_of restore_mount_stopped
    bad_index e = let z : eqb k 0 ≡ true = eq-eqb k 0 e in refusal BadIndex (rw (p.fits, p.formed, z)) (rw (p.fits, p.formed, z))

    module _ (index : k ≡ 0 → ⊥) where
      held : eqb k 0 ≡ false
      held = ne_eqb k 0 index

      pub large_back : max_ino < b.largest → Gives (Err Inode) mem
      unfolding restore_mount_rule first_of restore_mount_stopped
      large_back h = let z : ltb max_ino b.largest ≡ true = lt-ltb max_ino b.largest h in refusal Inode (rw (p.fits, p.formed, held, z)) (rw (p.fits, p.formed, held, z))

      module _ (low : b.largest ≤ max_ino) where
        top : ltb max_ino b.largest ≡ false
        top = le-ltb max_ino b.largest low

        pub no_slash_back : rooted path ≡ false → Gives (Err Inval) mem
        unfolding restore_mount_rule first_of restore_mount_stopped
        no_slash_back z = refusal Inval (rw (p.fits, p.formed, held, top, z)) (rw (p.fits, p.formed, held, top, z))

        pub slash_back : rooted path ≡ true → (v : Result RestoredMount VfsError) (after : List ℕ) → Follows (restore_mount_rest (view mem) k Q) (restore_mount_rest_mem k Q mem) (restored_mount_told v) after → Gives v after
        unfolding restore_mount_rule restore_mount_mem first_of restore_mount_stopped
        slash_back at v after w =
            does mem F (restored_mount_told v) after (restore_mount_mem k Q mem) (restore_mount_rest (view mem) k Q) p.laid (rw (p.fits, p.formed, held, top, at)) w.told (w.bytes ∙ sym (rw (p.laid, p.fits, p.formed, held, top, at))) w.stands w.keeps
