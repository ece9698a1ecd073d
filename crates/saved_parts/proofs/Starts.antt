-- The places of records: of none, and of one and the others. Assumes nothing.
use Rattle.std.proofs.Common.{◌≡◌, ℕ, ◌+◌, ◌≤◌, List, [], ◌∷◌, length, add-one, arith}
use Rattle.rules.specs.Saved.{behind, end_at}
use Rattle.rules.proofs.Accepted.{ends_on}
use Rattle.saved_parts.specs.Starts.{places_at}

module _ (b : List ℕ) (left at : ℕ) where
  pub no_place : left ≡ 0 → places_at b left at ≡ []
  unfolding places_at
  no_place e = rw e

  module _ (m : ℕ) (e : left ≡ m + 1) where
    pub one_place : (end : ℕ) → end ≡ behind b at → places_at b left at ≡ at ∷ places_at b m end
    unfolding places_at
    one_place end f = rw (e, add-one, f)

    end_one : end_at b left at ≡ end_at b m (behind b at)
    unfolding end_at
    end_one = rw (e, add-one)

    pub one_whole : end_at b left at ≤ length b → behind b at ≤ length b
    one_whole h = omega (arith, end_one, ends_on b m (behind b at))

    pub others_whole : end_at b left at ≤ length b → (end : ℕ) → end ≡ behind b at → end_at b m end ≤ length b
    others_whole h end f = rw f (omega (arith, end_one))
