-- Ids out and back: what is claimed of mappings.
use Rattle.std.specs.Prelude.{ℕ, ◌^◌, ◌<◌, true, false, ◌⊎◌, ◌≡◌}
use Rattle.rules.specs.Ids.{Mapping, turned, bad_mapping, inside, mapped, unmapped, wrapped, unwrapped}

-- of a mapping that passes its test, what wraps is the formula in whole numbers (R115)
abbrev pub WrappedIsWhole : Type 0
WrappedIsWhole = (m : Mapping) (id : ℕ) → bad_mapping m ≡ false → id < 2 ^ 32 → (wrapped m id ≡ mapped m id) × (unwrapped m id ≡ unmapped m id)

-- mapped out and then back, an id of the internal range, or of neither range, is what it was (R116)
abbrev pub OutAndBack : Type 0
OutAndBack = (m : Mapping) (id : ℕ) → (inside m id ≡ true) ⊎ ((inside m id ≡ false) × (inside (turned m) id ≡ false)) → unmapped m (mapped m id) ≡ id

-- the same of what wraps, of a mapping that passes its test (R116)
abbrev pub WrappedBack : Type 0
WrappedBack = (m : Mapping) (id : ℕ) → bad_mapping m ≡ false → id < 2 ^ 32 → (inside m id ≡ true) ⊎ ((inside m id ≡ false) × (inside (turned m) id ≡ false)) → unwrapped m (wrapped m id) ≡ id
