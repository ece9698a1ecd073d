-- What a reader of accepted bytes may rely on: options and trailer are there, and the records end where the options begin. Assumes nothing.
use Rattle.std.proofs.Common.{◌≡◌, ℕ, ◌<◌, ◌≤◌, true, ◌&&◌, List, [], length, sym, ◌∙◌, arith, leb-true}
use Rattle.rules.specs.Saved.{tail_length, saved_nodes_at, end_at, behind, options_start, saved_records, saved_next, accepted}
use Rattle.rules.proofs.Tests.{passed, and_both}
use Rattle.rules.proofs.Encoded.{options_start_lem}
use Rattle.saved.specs.Scan.{start_of, framed, sound_to, all_placed}
use Rattle.saved.proofs.Split.{accepted_split}
use Rattle.saved.proofs.Walk.{within, first_whole, sound_ends}

pub frame_long : (b : List ℕ) → framed b ≡ true → tail_length ≤ length b
unfolding framed
frame_long b h = leb-true tail_length (length b) (passed _ h).0

module _ (b : List ℕ) (a : accepted b ≡ true) where
  groups : (framed b ≡ true) × ((sound_to b (saved_next b) (options_start b) (saved_records b) 0 1 && all_placed [] (saved_nodes_at b (saved_records b) 0)) ≡ true)
  groups = and_both (framed b) _ (sym (accepted_split b) ∙ a)

  pub accepted_long : tail_length ≤ length b
  accepted_long = frame_long b groups.0

  pub accepted_ends : start_of b (saved_records b) ≡ options_start b
  accepted_ends = sound_ends b (saved_next b) (options_start b) (saved_records b) 1 (and_both (sound_to b (saved_next b) (options_start b) (saved_records b) 0 1) _ groups.1).0

  -- record i is whole
  pub accepted_within : (i at : ℕ) → at ≡ start_of b i → i < saved_records b → behind b at ≤ length b
  accepted_within i at e h = omega (arith, within b (saved_records b) i at e h, accepted_ends, options_start_lem b accepted_long)

  -- and so are all of them
  pub accepted_whole : end_at b (saved_records b) 0 ≤ length b
  accepted_whole = first_whole b (saved_records b) (omega (arith, accepted_ends, options_start_lem b accepted_long))
