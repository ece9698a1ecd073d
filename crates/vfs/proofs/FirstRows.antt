-- The tests that mount and restored mount make first: the layout rule, the limits of a path, UTF-8. Assumes nothing.
use mathlib.Core.Path.{◌≡◌, refl, sym, ◌∙◌}
use mathlib.Core.Bool.{Bool, true, false, cond, not}
use mathlib.Core.List.{List, [], ◌∷◌}
use Prim.Native.Nat.{ℕ}
use Rattle.std.specs.Prelude.{Result, Ok, Err}
use Rattle.rules.specs.Numbers.{TOOLONG, INVAL}
use Rattle.rules.specs.Codes.{code_of}
use Rattle.rules.specs.declared.codes.VfsError.{VfsError}
use Rattle.rules.specs.declared.codes.VfsError.TheVariants.{TooLong, Inval, Small}
use Rattle.rules.specs.Utf8.{well_formed}
use Rattle.rules.specs.Path.{too_long}
use Rattle.rules.specs.Instance.{Instance}
use Rattle.rules.specs.Outcome.{Outcome, Row, refused, first_of, ◌⟹◌}
use Rattle.tables.specs.View.{view}
use Rattle.tables.specs.Laid.{laid as laid_in_mem}
use Rattle.call_form.specs.Form.{refuses, Does}
use Rattle.storage.proofs.Calls.{does_small, does_nothing}
use Rattle.vfs.specs.FirstRows.{first_check}

-- a call with these rows first, which leaves every byte where one of them applies
pub record Begins (mem path : List ℕ) (f : Instance → Outcome) (exact : List ℕ) : Type 0 where
  pub rest : List (Row Outcome)
  pub last : Outcome
  pub stop : Bool
  pub other : List ℕ
  pub rule : f (view mem) ≡ first_of ((too_long path ⟹ refused TOOLONG (view mem)) ∷ (not (well_formed path) ⟹ refused INVAL (view mem)) ∷ rest) last
  pub bytes : exact ≡ cond (laid_in_mem mem) (cond stop mem other) mem
  pub stops_long : too_long path ≡ true → stop ≡ true
  pub stops_bad : too_long path ≡ false → well_formed path ≡ false → stop ≡ true

-- none of them applies
pub record Passed (mem path : List ℕ) : Type 0 where
  pub laid : laid_in_mem mem ≡ true
  pub fits : too_long path ≡ false
  pub formed : well_formed path ≡ true

-- what the tests answer
abbrev checked : Bool → Bool → Bool → Result (Unit {0}) VfsError
checked l w u = first_of ((not l ⟹ Err Small) ∷ (w ⟹ Err TooLong) ∷ (not u ⟹ Err Inval) ∷ []) (Ok tt)

module _ (mem path : List ℕ) where
  pub passes : (v : Unit {0}) → Ok v ≡ first_check mem path → Passed mem path
  unfolding first_check first_of
  passes v q = go (laid_in_mem mem) refl (too_long path) refl (well_formed path) refl q
    where
      go : (l : Bool) → laid_in_mem mem ≡ l → (w : Bool) → too_long path ≡ w → (u : Bool) → well_formed path ≡ u → Ok v ≡ checked l w u → Passed mem path
      go false a w b u c e = cc
      go true a true b u c e = cc
      go true a false b false c e = cc
      go true a false b true c e = record { laid = a; fits = b; formed = c }

  pub stopped : (f : Instance → Outcome) (exact : List ℕ) → Begins mem path f exact → (d : VfsError) → Err d ≡ first_check mem path → Does mem f (refuses (code_of d)) mem exact
  unfolding first_check first_of
  stopped f exact g d q = go (laid_in_mem mem) refl (too_long path) refl (well_formed path) refl q
    where
      go : (l : Bool) → laid_in_mem mem ≡ l → (w : Bool) → too_long path ≡ w → (u : Bool) → well_formed path ≡ u → Err d ≡ checked l w u → Does mem f (refuses (code_of d)) mem exact
      go false a w b u c e = let s : d ≡ Small = cc in rw s (does_small mem f _ exact a refl (sym (g.bytes ∙ rw a)))
      go true a true b u c e =
          let s : d ≡ TooLong = cc in
          rw s (does_nothing mem f _ exact (refused TOOLONG (view mem)) a (g.rule ∙ rw b) refl refl (sym (g.bytes ∙ rw (a, g.stops_long b))))
      go true a false b false c e =
          let s : d ≡ Inval = cc in
          rw s (does_nothing mem f _ exact (refused INVAL (view mem)) a (g.rule ∙ rw (b, c)) refl refl (sym (g.bytes ∙ rw (a, g.stops_bad b c))))
      go true a false b true c e = cc
