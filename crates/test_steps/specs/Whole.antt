-- A number that is put as a whole or not at all.
use Rattle.std.specs.Prelude.{ℕ, ◌+◌, cond, List, leb, length}
use Rattle.le.specs.Mem.{put}

-- the memory with a number in k bytes at a place where k are there
unfoldable pub put_whole : ℕ → List ℕ → ℕ → ℕ → List ℕ
put_whole k mem at v = cond (leb (at + k) (length mem)) (put k mem at v) mem
