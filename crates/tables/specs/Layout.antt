-- The layout of an instance's bytes: the header, the 256 index slots, and the node table of N rows (docs/LAYOUT.md).
use Rattle.std.specs.Prelude.{ℕ, ◌+◌, ◌*◌, List, [], ◌∷◌}
use Rattle.le.specs.Mem.{get}
use Rattle.tables.specs.Table.{Col, col}

-- the bytes `GALDOVAR`
abbrev pub mark : ℕ
mark = 5927113483044536647

-- where the node table begins
abbrev pub table_at : ℕ
table_at = 8192

-- ---- the header: the place of each field, and its number among them

-- the mark
abbrev pub mark_at : ℕ
mark_at = 0

abbrev pub mark_field : ℕ
mark_field = 0

-- N (R9)
abbrev pub capacity_at : ℕ
capacity_at = 8

abbrev pub capacity_field : ℕ
capacity_field = 1

-- the nodes besides the root (R51)
abbrev pub count_at : ℕ
count_at = 16

abbrev pub count_field : ℕ
count_field = 2

-- the next number (R49)
abbrev pub next_at : ℕ
next_at = 24

abbrev pub next_field : ℕ
next_field = 3

-- the known option bits (R26)
abbrev pub known_at : ℕ
known_at = 32

abbrev pub known_field : ℕ
known_field = 4

-- in_opts
abbrev pub in_opts_at : ℕ
in_opts_at = 40

abbrev pub in_opts_field : ℕ
in_opts_field = 5

-- out_opts
abbrev pub out_opts_at : ℕ
out_opts_at = 48

abbrev pub out_opts_field : ℕ
out_opts_field = 6

-- the mapping in force: internal, and behind it external and range (R34)
abbrev pub internal_at : ℕ
internal_at = 56

abbrev pub mapping_field : ℕ
mapping_field = 7

abbrev pub external_at : ℕ
external_at = 60

abbrev pub external_field : ℕ
external_field = 8

abbrev pub range_at : ℕ
range_at = 64

abbrev pub range_field : ℕ
range_field = 9

-- the options' own mapping: internal, and behind it external and range (R34)
abbrev pub own_internal_at : ℕ
own_internal_at = 68

abbrev pub own_mapping_field : ℕ
own_mapping_field = 10

abbrev pub own_external_at : ℕ
own_external_at = 72

abbrev pub own_external_field : ℕ
own_external_field = 11

abbrev pub own_range_at : ℕ
own_range_at = 76

abbrev pub own_range_field : ℕ
own_range_field = 12

-- the flags
abbrev pub flags_at : ℕ
flags_at = 80

abbrev pub flags_field : ℕ
flags_field = 13

-- the counter (R80)
abbrev pub counter_at : ℕ
counter_at = 81

abbrev pub counter_field : ℕ
counter_field = 14

-- the remove flag (R32)
abbrev pub removal_at : ℕ
removal_at = 82

abbrev pub removal_field : ℕ
removal_field = 15

-- initialized
abbrev pub initialized_at : ℕ
initialized_at = 83

abbrev pub initialized_field : ℕ
initialized_field = 16

-- the root's mount: its cell, and behind it uid, gid and mode (R5)
abbrev pub root_cell_at : ℕ
root_cell_at = 88

abbrev pub root_cell_field : ℕ
root_cell_field = 17

abbrev pub root_uid_at : ℕ
root_uid_at = 96

abbrev pub root_uid_field : ℕ
root_uid_field = 18

abbrev pub root_gid_at : ℕ
root_gid_at = 100

abbrev pub root_gid_field : ℕ
root_gid_field = 19

abbrev pub root_mode_at : ℕ
root_mode_at = 104

abbrev pub root_mode_field : ℕ
root_mode_field = 20

-- all of them, each a column of one cell
abbrev pub header : List Col
header =
    col mark_at 8
    ∷ col capacity_at 8
    ∷ col count_at 8
    ∷ col next_at 8
    ∷ col known_at 8
    ∷ col in_opts_at 8
    ∷ col out_opts_at 8
    ∷ col internal_at 4
    ∷ col external_at 4
    ∷ col range_at 4
    ∷ col own_internal_at 4
    ∷ col own_external_at 4
    ∷ col own_range_at 4
    ∷ col flags_at 1
    ∷ col counter_at 1
    ∷ col removal_at 1
    ∷ col initialized_at 1
    ∷ col root_cell_at 8
    ∷ col root_uid_at 4
    ∷ col root_gid_at 4
    ∷ col root_mode_at 4
    ∷ []

-- ---- the slots: occupancy and tag (R56)

abbrev pub occupancy_at : ℕ
occupancy_at = 256

abbrev pub held_column : ℕ
held_column = 0

abbrev pub tags_at : ℕ
tags_at = 512

abbrev pub tag_column : ℕ
tag_column = 1

abbrev pub slot_table : List Col
slot_table = col occupancy_at 1 ∷ col tags_at 4 ∷ []

-- ---- the nodes, in a table of n rows: where each column begins, and its number among them

-- the number
abbrev pub numbers_at : ℕ → ℕ
numbers_at n = table_at

abbrev pub number_column : ℕ
number_column = 0

-- the parent
abbrev pub parents_at : ℕ → ℕ
parents_at n = table_at + 8 * n

abbrev pub parent_column : ℕ
parent_column = 1

-- the mount's cell
abbrev pub mounts_at : ℕ → ℕ
mounts_at n = table_at + 16 * n

abbrev pub mount_column : ℕ
mount_column = 2

-- the name's length and last bytes (R10)
abbrev pub lasts_at : ℕ → ℕ
lasts_at n = table_at + 24 * n

abbrev pub last_column : ℕ
last_column = 3

-- uid, gid and mode of the mount
abbrev pub uids_at : ℕ → ℕ
uids_at n = table_at + 32 * n

abbrev pub uid_column : ℕ
uid_column = 4

abbrev pub gids_at : ℕ → ℕ
gids_at n = table_at + 36 * n

abbrev pub gid_column : ℕ
gid_column = 5

abbrev pub modes_at : ℕ → ℕ
modes_at n = table_at + 40 * n

abbrev pub mode_column : ℕ
mode_column = 6

-- the name's first bytes (R10)
abbrev pub firsts_at : ℕ → ℕ
firsts_at n = table_at + 44 * n

abbrev pub first_column : ℕ
first_column = 7

abbrev pub node_table : ℕ → List Col
node_table n =
    col (numbers_at n) 8
    ∷ col (parents_at n) 8
    ∷ col (mounts_at n) 8
    ∷ col (lasts_at n) 8
    ∷ col (uids_at n) 4
    ∷ col (gids_at n) 4
    ∷ col (modes_at n) 4
    ∷ col (firsts_at n) 248
    ∷ []

-- ---- the header's numbers

-- N (R9)
abbrev pub capacity_of : List ℕ → ℕ
capacity_of mem = get 8 mem capacity_at

-- the nodes besides the root (R51)
abbrev pub count_of : List ℕ → ℕ
count_of mem = get 8 mem count_at

-- the next number (R49)
abbrev pub next_of : List ℕ → ℕ
next_of mem = get 8 mem next_at

-- the counter (R80)
abbrev pub counter_byte : List ℕ → ℕ
counter_byte mem = get 1 mem counter_at

-- ---- where the cells of row i stand, in a table of n rows

-- the number
abbrev pub number_at : ℕ → ℕ → ℕ
number_at n i = numbers_at n + 8 * i

-- the parent
abbrev pub parent_at : ℕ → ℕ → ℕ
parent_at n i = parents_at n + 8 * i

-- the mount's cell
abbrev pub mount_cell_at : ℕ → ℕ → ℕ
mount_cell_at n i = mounts_at n + 8 * i

-- the name's length and last bytes
abbrev pub last_at : ℕ → ℕ → ℕ
last_at n i = lasts_at n + 8 * i

-- uid, gid and mode of the mount
abbrev pub uid_at : ℕ → ℕ → ℕ
uid_at n i = uids_at n + 4 * i

abbrev pub gid_at : ℕ → ℕ → ℕ
gid_at n i = gids_at n + 4 * i

abbrev pub mode_at : ℕ → ℕ → ℕ
mode_at n i = modes_at n + 4 * i

-- the name's first bytes
abbrev pub first_at : ℕ → ℕ → ℕ
first_at n i = firsts_at n + 248 * i
