-- The answers of the calls on the header tell what their rules say. Assumes nothing.
use mathlib.Core.Path.{◌≡◌, refl, sym, ap, ◌∙◌}
use mathlib.Core.Bool.{true, false, not, cond}
use mathlib.Core.List.{List}
use Rattle.std.specs.Prelude.{Ok, Err}
use Prim.Native.Nat.{ℕ}
use native.Mathlib.Omega.{arith}
use lib.Dec.{eqb}
use Rattle.le.specs.Mem.{get}
use Rattle.id_map.specs.Mapping.{mapping_of}
use Rattle.rules.specs.Ids.{mapping_at}
use Rattle.rules.specs.Outcome.{settings}
use Rattle.rules.specs.Calls.{rule}
use Rattle.rules.specs.declared.codes.VfsError.TheVariants.{Small}
use Rattle.tables.specs.Layout.{initialized_at, in_opts_at, out_opts_at, own_internal_at, flags_at}
use Rattle.tables.specs.Table.{row}
use Rattle.tables.specs.View.{options_from, head_of, view}
use Rattle.tables.specs.Laid.{laid}
use Rattle.tables.specs.Write.{set_removal}
use Rattle.call_form.specs.Form.{tells, answered_by, Does}
use Rattle.tables.proofs.Refine.{view_removal}
use Rattle.tables.proofs.Keeps.{laid_long, keeps_removal}
use Rattle.storage.specs.Answers.{removal_told, remove_call, initialized_told, initialized_call, options_told, options_call}
use Rattle.vfs_options.specs.declared.VfsOptions.{VfsOptions}
use Rattle.vfs_options.specs.Given.{options_in}
use Rattle.storage.proofs.Laid.{told_small_lem, told_by_lem}
use Rattle.storage.proofs.Calls.{does_small, does}

module _ (mem : List ℕ) where
  pub initialized_small : laid mem ≡ false → initialized_told (Err Small) ≡ answered_by mem initialized_call
  initialized_small e = sym (told_small_lem mem initialized_call e)

  pub initialized_is : laid mem ≡ true → (x : ℕ) → x ≡ get 1 mem initialized_at → initialized_told (Ok (not (eqb x 0))) ≡ answered_by mem initialized_call
  unfolding rule view row get
  initialized_is e x p = ap (λ (y : ℕ). initialized_told (Ok (not (eqb y 0)))) p ∙ sym (told_by_lem mem initialized_call e)

  pub options_small : laid mem ≡ false → options_told (Err Small) ≡ answered_by mem options_call
  options_small e = sym (told_small_lem mem options_call e)

  pub options_by : (o : VfsOptions) → o.in_opts ≡ get 8 mem in_opts_at → o.out_opts ≡ get 8 mem out_opts_at → mapping_of o.id_mapping ≡ mapping_at mem own_internal_at
      → o.flags ≡ get 1 mem flags_at → options_in o ≡ options_from (head_of mem)
  unfolding row get
  options_by o a b m g = λ t. record { in_opts = a t; out_opts = b t; mapping = m t; flags = g t }

  pub options_are : laid mem ≡ true → (o : VfsOptions) → options_in o ≡ options_from (head_of mem) → options_told (Ok o) ≡ answered_by mem options_call
  unfolding rule view
  options_are e o same = (λ t. tells (settings (same t))) ∙ sym (told_by_lem mem options_call e)

  pub removal_small : laid mem ≡ false → Does mem remove_call (removal_told (Err Small)) mem (cond (laid mem) (set_removal mem) mem)
  removal_small e = does_small mem remove_call (removal_told (Err Small)) _ e refl (rw e)

  pub removal_done : (after : List ℕ) → laid mem ≡ true → after ≡ set_removal mem → Does mem remove_call (removal_told (Ok tt)) after (cond (laid mem) (set_removal mem) mem)
  unfolding rule
  removal_done after e p =
      does mem remove_call (removal_told (Ok tt)) after _ (remove_call (view mem)) e refl refl (p ∙ rw e) (ap view p ∙ view_removal mem (omega (arith, laid_long mem e))) (ap laid p ∙ keeps_removal mem e)
