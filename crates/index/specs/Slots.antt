-- The slots of the allocator: which are held, and what a new instance has.
use Rattle.std.specs.Prelude.{◌≡◌, ℕ, ◌<◌, Bool, not, List, replicate, ◌==◌, slice_index, slice_index_or}
use Rattle.index.specs.declared.FsIndexes.{FsIndexes}

-- the occupancy byte is not 0; past the end it counts as 0 (R56)
unfoldable pub held_in_column : List ℕ → ℕ → Bool
held_in_column used i = not (slice_index used i == 0)

-- each of the 256 slots is there, empty and without a tag (past the end 1 would be read), and the counter is 1; and that is all (R31, R176)
pub record New (t : FsIndexes) : Type 0 where
  pub empty : (k : ℕ) → k < 256 → (slice_index_or t.used k 1 ≡ 0) × (slice_index_or t.tags k 1 ≡ 0)
  pub counter : t.next_super ≡ 1
  pub whole : t ≡ record { used = replicate 256 0; tags = replicate 256 0; next_super = 1 }
