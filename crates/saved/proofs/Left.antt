-- The records that are left, where some are passed and sound. Assumes nothing.
use Rattle.std.proofs.Common.{◌≡◌, ℕ, suc, ◌+◌, ◌-◌, ◌<◌, ◌≤◌, true, false, eqb, List, arith, ne_eqb}
use mathlib.Core.Bool.{and-true}
use Rattle.rules.specs.Saved.{saved_node_at, behind, saved_nodes_at, end_at}
use Rattle.rules.specs.Tests.{every}
use Rattle.rules.proofs.Tests.{fails}
use Rattle.rules.proofs.Accepted.{ends_on}
use Rattle.saved.specs.Scan.{sound, all_sound, sound_to}

-- i of `count` are passed, and the others begin at a place

module _ (b : List ℕ) (next to count at i last : ℕ) where
  pub rest_short : i < count → to < behind b at → sound_to b next to (count - i) at last ≡ false
  unfolding sound_to end_at
  rest_short h s =
      let left : count - i ≡ suc (count - (i + 1)) = omega arith in
      rw left (fails 0 _ (ne_eqb (end_at b (count - (i + 1)) (behind b at)) to (λ e. omega (arith, ends_on b (count - (i + 1)) (behind b at)))))

  pub rest_bad : i < count → sound next last (saved_node_at b at) ≡ false → sound_to b next to (count - i) at last ≡ false
  unfolding sound_to all_sound saved_nodes_at
  rest_bad h g =
      let left : count - i ≡ suc (count - (i + 1)) = omega arith in
      rw left (fails 1 _ (rw g))

  pub rest_on : i < count → sound next last (saved_node_at b at) ≡ true → (end number : ℕ) → end ≡ behind b at → number ≡ (saved_node_at b at).number
      → sound_to b next to (count - i) at last ≡ sound_to b next to (count - (i + 1)) end number
  unfolding sound_to all_sound saved_nodes_at end_at
  rest_on h g end number e f =
      let left : count - i ≡ suc (count - (i + 1)) = omega arith in
      rw (left, g, e, f)

  pub rest_done : count ≤ i → sound_to b next to (count - i) at last ≡ eqb at to
  unfolding sound_to all_sound saved_nodes_at end_at every
  rest_done h =
      let z : count - i ≡ 0 = omega arith in
      rw (z, and-true)
