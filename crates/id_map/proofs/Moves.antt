-- The rule of one id by cases, with the difference as the code has it.
-- Assumes nothing.
use Rattle.std.proofs.Common.{◌≡◌, ℕ, ◌+◌, ◌-◌, ◌%◌, ◌^◌, ◌<◌, ◌≤◌, arith, le-ltb, lt-ltb, le-leb}
use borrow.Author.Tests.{lt-leb}
use Rattle.rules.specs.Ids.{Mapping, wrapped}

module _ (m : Mapping) (id : ℕ) where
  -- an id in the range moves by the difference of the starts
  pub moves : m.internal ≤ id → id - m.internal < m.range → id < 2 ^ 32 → (id + (m.external + (2 ^ 32 - m.internal)) % 2 ^ 32) % 2 ^ 32 ≡ wrapped m id
  unfolding wrapped
  moves above within small =
      let same : m.external + (2 ^ 32 - m.internal) ≡ m.external + 2 ^ 32 - m.internal = omega arith in
      rw (le-leb m.internal id above, lt-ltb (id - m.internal) m.range within, same)

  pub stays_below : id < m.internal → id ≡ wrapped m id
  unfolding wrapped
  stays_below h = rw (lt-leb m.internal id h)

  pub stays_beyond : m.internal ≤ id → m.range ≤ id - m.internal → id ≡ wrapped m id
  unfolding wrapped
  stays_beyond above h = rw (le-leb m.internal id above, le-ltb (id - m.internal) m.range h)
