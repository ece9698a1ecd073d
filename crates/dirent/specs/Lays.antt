-- What is answered and left where records are laid into lent bytes.
use Rattle.std.specs.Prelude.{ℕ, ◌+◌, ◌*◌, ◌/◌, ◌%◌, ◌≤◌, ◌≡◌, List, ◌++◌, length, drop, replicate}
use Rattle.rules.specs.Listing.{padding, record_of, dirent, laid_records}
use Rattle.le.specs.Mem.{write}

-- records laid into the first `room` of the lent bytes d (R65, R66): n is the number of bytes written, and e holds
-- them at the start and behind them what d held
pub record Lays (d : List ℕ) (room : ℕ) (records : List (List ℕ)) (n : ℕ) (e : List ℕ) : Type 0 where
  pub count : n ≡ length (laid_records room records)
  pub bytes : e ≡ write d 0 (laid_records room records)

-- a name and its zeros to a multiple of 8, behind a fixed part whose length is one (R64)
unfoldable pub name_field : List ℕ → List ℕ
name_field p = p ++ replicate (padding (length p)) 0

-- how long a record is, by the lengths of its fixed part, a multiple of 8, and of its name (R64)
abbrev pub whole_length : ℕ → ℕ → ℕ
whole_length front len = front + (len + 7) / 8 * 8

-- ---- what is claimed

-- so long it is (R64)
abbrev pub EveryWhole : Type 0
EveryWhole = (front p : List ℕ) → length front % 8 ≡ 0 → length (record_of front p) ≡ whole_length (length front) (length p)

-- the length of every record is a multiple of 8 (R64)
abbrev pub EveryEights : Type 0
EveryEights = (ino off : ℕ) (name : List ℕ) → length (dirent ino off name) % 8 ≡ 0

-- the bytes after are the records, and then what stood behind them (R65)
abbrev pub LaysOver : Type 0
LaysOver = (d : List ℕ) (room : ℕ) (rs : List (List ℕ)) (n : ℕ) (e : List ℕ) → room ≤ length d → Lays d room rs n e → e ≡ laid_records room rs ++ drop n d
