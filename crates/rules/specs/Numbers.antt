-- The numbers of the trade, inode numbers, and the numbers of the refusals.
use Rattle.std.specs.Prelude.{ℕ, ◌+◌, ◌*◌, ◌-◌, ◌/◌, ◌%◌, ◌^◌, cond, List, ◌∷◌, eqb, ltb, Option, None, Some}

-- VFS_MAX_INO: the largest node number and the largest backend number (R5)
abbrev pub max_ino : ℕ
max_ino = 2 ^ 56 - 1

-- ROOT_ID: the root's number (R12)
abbrev pub root_number : ℕ
root_number = 1

-- the number of the first node that a new instance makes (R12)
abbrev pub first_number : ℕ
first_number = 2

-- the largest that the next number may become (R67, R129 h)
abbrev pub top_number : ℕ
top_number = 2 ^ 56

-- the largest N (R9)
abbrev pub max_nodes : ℕ
max_nodes = 1024

-- the bytes of the longest name (R10)
abbrev pub max_name : ℕ
max_name = 255

-- the bytes of the longest mount path (R10)
abbrev pub max_path : ℕ
max_path = 4096

-- the bytes of the longest line of a session (R150)
abbrev pub max_line : ℕ
max_line = 8192

-- the bytes of the longest saved state (R124)
abbrev pub max_saved : ℕ
max_saved = 279335

-- the number of index slots (R31)
abbrev pub slot_count : ℕ
slot_count = 256

-- the mode of a pseudo entry (R13)
abbrev pub dir_mode : ℕ
dir_mode = 16895

-- the block size of a pseudo entry (R13)
abbrev pub block_size : ℕ
block_size = 4096

-- the bytes that N nodes need (R20)
abbrev pub storage_for : ℕ → ℕ
storage_for n = 512 * n + 8192

-- a number, or 0 where there is none (R16, R47)
abbrev pub or_zero : Option ℕ → ℕ
or_zero None = 0
or_zero (Some x) = x

-- a number before others, if there is one
abbrev pub before : Option ℕ → List ℕ → List ℕ
before None ks = ks
before (Some k) ks = k ∷ ks

-- ---- full inode numbers

-- index × 2^56 + number (R6); number 0 gives 0 for every index (R7, R14)
unfoldable pub full : ℕ → ℕ → ℕ
full index number = cond (eqb number 0) 0 (index * 2 ^ 56 + number)

-- the conversion; none, which is answered INODE, where the number is above 2^56 − 1; it takes no instance (R7, R24)
unfoldable pub convert : ℕ → ℕ → Option ℕ
convert index number = cond (ltb max_ino number) None (Some (full index number))

-- the index of a full number: its top 8 bits (R6)
unfoldable pub index_of : ℕ → ℕ
index_of x = x / 2 ^ 56

-- the number in a full number: its low 56 bits (R6)
unfoldable pub number_of : ℕ → ℕ
number_of x = x % 2 ^ 56

-- ---- refusals

-- the call did its work (R15)
abbrev pub DONE : ℕ
DONE = 0

-- a node or a name is unknown, or routing meets an empty slot (R15)
abbrev pub NOENT : ℕ
NOENT = 1

-- a path is not UTF-8 or has no leading slash, or a name is bad (R15)
abbrev pub INVAL : ℕ
INVAL = 2

-- a mount path, or a part of it, is over its limit (R15, R40)
abbrev pub TOOLONG : ℕ
TOOLONG = 3

-- the largest number, the root number, or the number of a conversion is too big (R7, R15)
abbrev pub INODE : ℕ
INODE = 4

-- slots 1 to 255 are all held (R15, R84)
abbrev pub FULL : ℕ
FULL = 5

-- no room for the nodes or for their numbers (R15, R67, R131)
abbrev pub NOROOM : ℕ
NOROOM = 6

-- unmount of an unknown path or of no mount, or root query of a mount whose slot is empty (R15)
abbrev pub NOTFOUND : ℕ
NOTFOUND = 7

-- a restored mount at index 0 (R15, R91)
abbrev pub BADINDEX : ℕ
BADINDEX = 8

-- a mapping that goes above 2^32 − 1 (R15, R30)
abbrev pub BADMAP : ℕ
BADMAP = 9

-- saved bytes break the layout (R15, R129)
abbrev pub BADSAVE : ℕ
BADSAVE = 10

-- a restore where a node stands besides the root, or anything is mounted (R15, R132)
abbrev pub NOTFRESH : ℕ
NOTFRESH = 11

-- N outside its limits, storage too short or against the layout rule, too few bytes for a save, or too few lent to a session (R15, R20, R21, R125)
abbrev pub SMALL : ℕ
SMALL = 12

-- option bits outside the mask, or at creation a flag above bit 5 (R15, R28, R29, R130)
abbrev pub BADOPT : ℕ
BADOPT = 13
