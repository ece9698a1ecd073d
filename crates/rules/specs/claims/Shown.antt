-- What calls answer and write, one after another on one instance, as one table under one statement.
use Rattle.std.specs.Prelude.{ℕ, ◌+◌, ◌^◌, true, false, List, [], ◌∷◌, ◌++◌, replicate, ◌≡◌, None, Some}
use Prim.Native.String.{String}
use Rattle.rules.specs.Numbers.{DONE}
use Rattle.rules.specs.Bytes.{ascii}
use Rattle.rules.specs.Instance.{Options, Instance}
use Rattle.rules.specs.Outcome.{Answer, nothing, mounted, restored_mount, unmounted, walked, rootfs, to_backend, entry, ids, wrote, settings, truth}
use Rattle.rules.specs.Create.{new_instance}
use Rattle.rules.specs.Mount.{Request}
use Rattle.rules.specs.Calls.{Call, mount, restore_mount, umount, set_remove_pseudo_root, ask, path_walk, get_rootfs, route, lookup, readdir, remap_attr_id, options, initialized, rule}

-- a call, and what it says: the number, the values, the bytes that it writes
pub record Shown : Type 0 where
  pub call : Call
  pub code : ℕ
  pub answer : Answer
  pub written : List ℕ

-- a call that is done with these values, and writes nothing
abbrev pub done : Call → Answer → Shown
done c a = record { call = c; code = DONE; answer = a; written = [] }

-- by the rules, each call on what the one before left
unfoldable pub run : Instance → List Shown → List Shown
run i [] = []
run i (s ∷ ss) =
    let o = rule i s.call in
    record { call = s.call; code = o.code; answer = o.answer; written = o.written } ∷ run o.after ss

-- ---- the table

-- a byte with k zeros behind it: a small number in k + 1 bytes (R167)
abbrev pub padded : ℕ → ℕ → List ℕ
padded k b = b ∷ replicate k 0

-- in_opts with bit 0, out_opts with bit 1, ids 0 to 9 that go out 5 higher, flags 9
abbrev pub five_higher : Options
five_higher = record { in_opts = 1; out_opts = 2; mapping = record { internal = 0; external = 5; range = 10 }; flags = 9 }

-- 16 nodes, option bits 0 and 1 known
abbrev pub sixteen : Instance
sixteen = new_instance (record { capacity = 16; known = 3; options = five_higher })

-- a request with root number 3, uid 1, gid 2 and mode 6
abbrev pub asking : String → ℕ → Request
asking path tag = record { path = ascii path; tag = tag; root = 3; largest = 1000; uid = 1; gid = 2; mode = 6 }

-- 21 calls of every kind but save and restore (R13, R38, R64, R75, R77, R78, R93, R97, R100, R103, R105, R106, R108, R118)
abbrev pub shown_calls : List Shown
shown_calls =
    done (mount (asking "/a/b/c" 7)) (mounted 1 None)
    ∷ done (ask (path_walk (ascii "/a/b/c/.."))) (walked (Some 3))
    ∷ done (mount (asking "/a/b/../d" 8)) (mounted 2 None)
    ∷ done (ask (get_rootfs (ascii "/a/d"))) (rootfs (Some (8, 2)))
    ∷ done (ask (lookup 3 (ascii "c"))) (entry (2 ^ 56 + 3) 6 11 12 0)
    ∷ done (ask (lookup 3 (ascii ".."))) (entry 2 16895 5 5 4096)
    ∷ record {
      call = ask (readdir (record { node = 2; size = 100; offset = 1; buffer = 200 }));
      code = DONE;
      answer = wrote 32;
      written = padded 7 5 ++ (padded 7 2 ++ (padded 3 1 ++ (padded 3 0 ++ (ascii "d" ++ replicate 7 0))));
    }
    ∷ done (mount (asking "/a/d" 9)) (mounted 3 (Some 8))
    ∷ done (restore_mount 1 (asking "/e" 4)) (restored_mount None (Some 7))
    ∷ done (ask (route (2 ^ 56 + 30))) (to_backend 4 1 30)
    ∷ done (ask initialized) (truth false)
    ∷ done (ask options) (settings five_higher)
    ∷ done (ask (remap_attr_id true 1 20)) (ids 6 20)
    ∷ done (ask (remap_attr_id false 6 4)) (ids 1 4)
    ∷ done (umount (ascii "/a/d")) (unmounted 5 2 (Some 9))
    ∷ done (ask (path_walk (ascii "/a/d"))) (walked (Some 5))
    ∷ done (mount (asking "/" 6)) (mounted 4 None)
    ∷ done (ask (route 1)) (to_backend 6 4 3)
    ∷ done set_remove_pseudo_root nothing
    ∷ done (umount (ascii "/e")) (unmounted 6 1 (Some 4))
    ∷ done (ask (path_walk (ascii "/e"))) (walked None)
    ∷ []

-- each call says what the table says
abbrev pub EveryShown : Type 0
EveryShown = run sixteen shown_calls ≡ shown_calls
