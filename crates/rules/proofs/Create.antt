-- What the tests of creation say of N, the bytes and the options. Assumes nothing.
use mathlib.Core.Path.{◌≡◌}
use mathlib.Core.Bool.{false, ◌||◌}
use Prim.Native.Nat.{ℕ, ◌≤◌, ◌<◌}
use native.Mathlib.Omega.{arith}
use lib.Dec.{ltb}
use borrow.Author.Tests.{le-ltb, ltb-false}
use Rattle.rules.specs.Numbers.{max_nodes, storage_for}
use Rattle.rules.specs.Instance.{Options}
use Rattle.rules.specs.Create.{too_small, unknown, bad_options}
use Rattle.rules.proofs.Tests.{or_neither}

module _ (bytes n : ℕ) where
  pub large_enough : too_small bytes n ≡ false → (1 ≤ n) × (n ≤ max_nodes) × (storage_for n ≤ bytes)
  unfolding too_small
  large_enough e =
      let a = or_neither (ltb n 1 || ltb max_nodes n) (ltb bytes (storage_for n)) e in
      let b = or_neither (ltb n 1) (ltb max_nodes n) a.0 in
      (ltb-false n 1 b.0, ltb-false max_nodes n b.1, ltb-false bytes (storage_for n) a.1)

  pub is_large_enough : 1 ≤ n → n ≤ max_nodes → storage_for n ≤ bytes → too_small bytes n ≡ false
  unfolding too_small
  is_large_enough a b c = rw (le-ltb n 1 a, le-ltb max_nodes n b, le-ltb bytes (storage_for n) c)

module _ (known : ℕ) (o : Options) where
  pub options_known : bad_options known o ≡ false → (unknown known o ≡ false) × (o.flags < 64)
  unfolding bad_options
  options_known e =
      let a = or_neither (unknown known o) (ltb 63 o.flags) e in
      (a.0, omega (arith, ltb-false 63 o.flags a.1))

  pub known_options : unknown known o ≡ false → o.flags < 64 → bad_options known o ≡ false
  unfolding bad_options
  known_options e h = rw (e, le-ltb 63 o.flags (omega arith))
