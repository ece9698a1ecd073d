-- The number of each refusal of the code.
use Rattle.std.specs.Prelude.{ℕ, Result, Ok, Err}
use Rattle.rules.specs.Numbers.{DONE, NOENT, INVAL, TOOLONG, INODE, FULL, NOROOM, NOTFOUND, BADINDEX, BADMAP, BADSAVE, NOTFRESH, SMALL, BADOPT}
use Rattle.rules.specs.declared.codes.VfsError.{VfsError}
use Rattle.rules.specs.declared.codes.VfsError.TheVariants.{NoEnt, Inval, TooLong, Inode, Full, NoRoom, NotFound, BadIndex, BadMap, BadSave, NotFresh, Small, BadOpt}

-- the number of a refusal (R15)
abbrev pub code_of : VfsError → ℕ
code_of NoEnt = NOENT
code_of Inval = INVAL
code_of TooLong = TOOLONG
code_of Inode = INODE
code_of Full = FULL
code_of NoRoom = NOROOM
code_of NotFound = NOTFOUND
code_of BadIndex = BADINDEX
code_of BadMap = BADMAP
code_of BadSave = BADSAVE
code_of NotFresh = NOTFRESH
code_of Small = SMALL
code_of BadOpt = BADOPT

-- the number of an answer that may be refused (R15)
abbrev pub result_code : {T : Type 0} → Result T VfsError → ℕ
result_code (Ok x) = DONE
result_code (Err e) = code_of e
