-- The full number that a conversion answers, and that index and number come back from it.
use Rattle.std.specs.Prelude.{ℕ, ◌≤◌, ◌≡◌, cond, ltb, Option, None, Some, Result, Ok, Err}
use Rattle.rules.specs.Numbers.{max_ino, convert, index_of, number_of, DONE, INODE}
use Rattle.rules.specs.Codes.{result_code}
use Rattle.rules.specs.declared.codes.VfsError.{VfsError}
use Rattle.inode.specs.declared.VfsInode.{VfsInode}

-- the full number, or none (R7)
unfoldable pub full_of : Result VfsInode VfsError → Option ℕ
full_of (Ok x) = Some x.0
full_of (Err e) = None

-- by the rule: INODE exactly if the number is above 2^56 − 1 (R7)
abbrev pub convert_code : ℕ → ℕ
convert_code number = cond (ltb max_ino number) INODE DONE

-- the answer to an index and a number: the full number, or INODE (R7)
pub record Converts (index number : ℕ) (r : Result VfsInode VfsError) : Type 0 where
  pub full : full_of r ≡ convert index number
  pub code : result_code r ≡ convert_code number

-- ---- what is claimed of conversion

-- what went in comes back: index and number of a full number (R6, R7)
pub record ConvertedBack (index number x : ℕ) : Type 0 where
  pub index_back : index_of x ≡ index
  pub number_back : number_of x ≡ number

-- of every number from 1 to 2^56 − 1
abbrev pub EveryConvertedBack : Type 0
EveryConvertedBack = (i n x : ℕ) → 1 ≤ n → n ≤ max_ino → convert i n ≡ Some x → ConvertedBack i n x

-- so no two pairs of index and number, the number from 1 on, have one full number (R6, R7)
abbrev pub ConvertInjective : Type 0
ConvertInjective = (i n j m : ℕ) → 1 ≤ n → n ≤ max_ino → 1 ≤ m → m ≤ max_ino → convert i n ≡ convert j m → (i ≡ j) × (n ≡ m)
