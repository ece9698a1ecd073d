-- What saves and restores answer, write and leave, as tables under one statement: the bytes of a state, the same bytes in other instances, and damaged ones.
use Rattle.std.specs.Prelude.{ℕ, ◌+◌, ◌*◌, ◌^◌, true, false, List, [], ◌∷◌, ◌++◌, ◌≡◌, set, take, None, Some}
use Rattle.rules.specs.Numbers.{DONE, NOROOM, BADSAVE, NOTFRESH, SMALL, BADOPT}
use Rattle.rules.specs.Bytes.{ascii}
use Rattle.rules.specs.Instance.{Options, Instance}
use Rattle.rules.specs.Outcome.{nothing, mounted, unmounted, walked, rootfs, entry, wrote, settings, truth}
use Rattle.rules.specs.Create.{new_instance}
use Rattle.rules.specs.Calls.{Call, mount, umount, set_remove_pseudo_root, ask, path_walk, get_rootfs, lookup, options, initialized, save_to_bytes, restore_from_bytes}
use Rattle.rules.specs.claims.Shown.{Shown, done, run, padded, asking}

-- a call that is refused with this number, without values, and writes nothing
abbrev pub refusing : Call → ℕ → Shown
refusing c k = record { call = c; code = k; answer = nothing; written = [] }

-- in_opts 513, out_opts 2, ids 0 to 9 that go out 5 higher, flags 9
abbrev pub stored_options : Options
stored_options = record { in_opts = 513; out_opts = 2; mapping = record { internal = 0; external = 5; range = 10 }; flags = 9 }

-- no option bits, no mapping, no flags
abbrev pub none_set : Options
none_set = record { in_opts = 0; out_opts = 0; mapping = record { internal = 0; external = 0; range = 0 }; flags = 0 }

-- n nodes, option bits 0, 1 and 9 known
abbrev pub knowing : ℕ → Options → Instance
knowing n o = new_instance (record { capacity = n; known = 515; options = o })

-- ---- the bytes: node 2, called `a`, under the root, and node 4, called `c`, under node 2; the options `stored_options`; next number 5, counter 3

-- number, parent, length of the name, name (R120)
abbrev pub records : List ℕ
records = padded 7 2 ++ (padded 7 1 ++ (padded 1 1 ++ (ascii "a" ++ (padded 7 4 ++ (padded 7 2 ++ (padded 1 1 ++ ascii "c"))))))

-- in_opts, out_opts, the mapping, flags, three zeros (R121)
abbrev pub settled : List ℕ
settled = (1 ∷ padded 6 2) ++ (padded 7 2 ++ (padded 3 0 ++ (padded 3 5 ++ (padded 3 10 ++ padded 3 9))))

-- the options stand at 38; two records; next number, counter, version 1, six zeros (R123)
abbrev pub ending : List ℕ
ending = padded 3 38 ++ (padded 3 2 ++ (padded 7 5 ++ (3 ∷ padded 6 1)))

-- 94 bytes (R119)
abbrev pub bytes : List ℕ
bytes = records ++ (settled ++ ending)

-- ---- the tables

-- two mounts are made, one is taken off with its node, and the state is saved: the mount that is left is not in it; who has nodes is not fresh (R125 to R128)
abbrev pub saved_calls : List Shown
saved_calls =
    done (mount (asking "/a/b" 7)) (mounted 1 None)
    ∷ done (mount (asking "/a/c" 8)) (mounted 2 None)
    ∷ done set_remove_pseudo_root nothing
    ∷ done (umount (ascii "/a/b")) (unmounted 3 2 (Some 7))
    ∷ refusing (ask (save_to_bytes 93)) SMALL
    ∷ record { call = ask (save_to_bytes 94); code = DONE; answer = wrote 94; written = bytes }
    ∷ refusing (restore_from_bytes bytes) NOTFRESH
    ∷ done (ask (get_rootfs (ascii "/a/c"))) (rootfs (Some (8, 2)))
    ∷ []

-- restored: tree, next number, counter and options are the state's, `initialized` is true; mapping in force and removal are the instance's own (R34, R134)
abbrev pub restored_calls : List Shown
restored_calls =
    done (ask initialized) (truth false)
    ∷ done (restore_from_bytes bytes) nothing
    ∷ done (ask initialized) (truth true)
    ∷ done (ask options) (settings stored_options)
    ∷ done (ask (path_walk (ascii "/a/c"))) (walked (Some 4))
    ∷ done (ask (path_walk (ascii "/a/b"))) (walked None)
    ∷ done (ask (get_rootfs (ascii "/a/c"))) (rootfs None)
    ∷ done (ask (lookup 1 (ascii "a"))) (entry 2 16895 0 0 4096)
    ∷ refusing (restore_from_bytes bytes) NOTFRESH
    ∷ refusing (restore_from_bytes []) NOTFRESH
    ∷ done (mount (asking "/a/c" 5)) (mounted 3 None)
    ∷ done (umount (ascii "/a/c")) (unmounted 4 2 (Some 5))
    ∷ done (ask (path_walk (ascii "/a/c"))) (walked (Some 4))
    ∷ record { call = ask (save_to_bytes 94); code = DONE; answer = wrote 94; written = set bytes 86 4 }
    ∷ done (mount (asking "/d" 6)) (mounted 4 None)
    ∷ done (ask (path_walk (ascii "/d"))) (walked (Some 5))
    ∷ []

-- damaged bytes: each is BADSAVE, also where its options are not known or it has too many nodes; then BADOPT, then NOROOM; all is left as it was (R128 to R131)
abbrev pub damaged : List Shown
damaged =
    -- none, one too few, one too many
    refusing (restore_from_bytes []) BADSAVE
    ∷ refusing (restore_from_bytes (take 93 bytes)) BADSAVE
    ∷ refusing (restore_from_bytes (bytes ++ (0 ∷ []))) BADSAVE
    -- the offset, the number of records, the version, a zero byte, a flag
    ∷ refusing (restore_from_bytes (set bytes 70 37)) BADSAVE
    ∷ refusing (restore_from_bytes (set bytes 74 1)) BADSAVE
    ∷ refusing (restore_from_bytes (set bytes 87 2)) BADSAVE
    ∷ refusing (restore_from_bytes (set bytes 93 1)) BADSAVE
    ∷ refusing (restore_from_bytes (set bytes 69 1)) BADSAVE
    ∷ refusing (restore_from_bytes (set bytes 66 64)) BADSAVE
    -- numbers that do not rise, or reach the next one; a later parent; the names `/`, `.` and one that is not UTF-8; two of one name
    ∷ refusing (restore_from_bytes (set bytes 19 2)) BADSAVE
    ∷ refusing (restore_from_bytes (set bytes 78 4)) BADSAVE
    ∷ refusing (restore_from_bytes (set bytes 8 4)) BADSAVE
    ∷ refusing (restore_from_bytes (set bytes 37 47)) BADSAVE
    ∷ refusing (restore_from_bytes (set bytes 37 46)) BADSAVE
    ∷ refusing (restore_from_bytes (set bytes 37 128)) BADSAVE
    ∷ refusing (restore_from_bytes (set (set bytes 27 1) 37 97)) BADSAVE
    -- an unknown bit of in_opts, with the version and without; one of out_opts; too many nodes
    ∷ refusing (restore_from_bytes (set (set bytes 38 4) 87 2)) BADSAVE
    ∷ refusing (restore_from_bytes (set bytes 38 4)) BADOPT
    ∷ refusing (restore_from_bytes (set bytes 46 4)) BADOPT
    ∷ refusing (restore_from_bytes bytes) NOROOM
    -- as it was
    ∷ done (ask initialized) (truth false)
    ∷ done (ask options) (settings none_set)
    ∷ done (ask (path_walk (ascii "/a"))) (walked None)
    ∷ done (mount (asking "/" 6)) (mounted 1 None)
    ∷ refusing (restore_from_bytes bytes) NOTFRESH
    ∷ done (mount (asking "/z" 7)) (mounted 2 None)
    ∷ done (ask (path_walk (ascii "/z"))) (walked (Some 2))
    ∷ []

-- a mapping that goes above 2^32 − 1 is taken, and with in_opts 0 the instance is not initialized (R133, R134)
abbrev pub unset : List Shown
unset =
    done (restore_from_bytes (set (set (set (set bytes 38 0) 39 0) 61 255) 65 255)) nothing
    ∷ done (ask initialized) (truth false)
    ∷ done (ask options) (settings (record { in_opts = 0; out_opts = 2; mapping = record { internal = 0; external = 255 * 2 ^ 24 + 5; range = 255 * 2 ^ 24 + 10 }; flags = 9 }))
    ∷ []

-- each call says what its table says (R119 to R134)
pub record EveryStored : Type 0 where
  pub saved_as : run (knowing 16 stored_options) saved_calls ≡ saved_calls
  pub restored_as : run (knowing 4 none_set) restored_calls ≡ restored_calls
  pub damaged_as : run (knowing 2 none_set) damaged ≡ damaged
  pub unset_as : run (knowing 3 none_set) unset ≡ unset
