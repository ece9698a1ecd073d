-- Mount: what its answer tells, and the bytes that it leaves; and what restored mount shares with it.
use Rattle.std.specs.Prelude.{ℕ, ◌≤◌, Bool, true, cond, not, ◌||◌, List, [], ◌≡◌, ltb, Option, None, Some, Result, Ok, Err}
use Rattle.rules.specs.Numbers.{max_ino, DONE, INVAL, INODE, FULL, NOROOM}
use Rattle.rules.specs.Codes.{code_of}
use Rattle.rules.specs.declared.codes.VfsError.{VfsError}
use Rattle.rules.specs.declared.codes.VfsError.TheVariants.{Inode}
use Rattle.rules.specs.Utf8.{well_formed}
use Rattle.rules.specs.Path.{rooted, too_long}
use Rattle.rules.specs.Instance.{Instance, mount_of_node, tag_of}
use Rattle.rules.specs.Outcome.{Answer, nothing, mounted, Outcome, refused}
use Rattle.rules.specs.Mount.{Request, planned, no_room, ended, freed, requested_mount, tag_at, placed, allocation, stepped, allocated, mount_by_index}
use Rattle.index.specs.Search.{search_told}
use Rattle.index.specs.declared.Allocated.{Allocated}
use Rattle.tables.specs.View.{view}
use Rattle.tables.specs.Laid.{laid}
use Rattle.tables.specs.Write.{set_counter}
use Rattle.call_form.specs.Form.{Told, counted}
use Rattle.placing.specs.Place.{place_mem}
use Rattle.placing.specs.declared.Tags.{Tags}
use Rattle.plan.specs.Apply.{append_all}
use Rattle.mount_parts.specs.declared.backend.Backend.{Backend}
use Rattle.mount_parts.specs.declared.mounting.Mounted.{Mounted}
use Rattle.mount_parts.specs.declared.mounting.MountRefused.{MountRefused}

-- the request of a path and a backend (R3)
abbrev pub request_of : List ℕ → Backend → Request
request_of path b = record { path = path; tag = b.tag; root = b.root.0; largest = b.largest; uid = b.uid; gid = b.gid; mode = b.mode }

-- the number and the values of each answer, with the count (R75, R79)
abbrev pub mounted_told : Result Mounted MountRefused → Told
mounted_told (Ok m) = record { code = DONE; answer = mounted m.fs_idx m.replaced; count = m.count }
mounted_told (Err r) = counted (code_of r.why) r.count

-- ---- bytes

-- the counter has moved (R83)
unfoldable pub alloc_mem : List ℕ → List ℕ
alloc_mem mem = set_counter (allocation (view mem)).counter mem

-- rows 7 and 8 on the node x (R74, R76)
unfoldable pub end_mem : ℕ → Request → ℕ → List ℕ → List ℕ
end_mem k r x mem = cond (ltb max_ino r.root) mem (place_mem (requested_mount k r) r.tag x mem)

-- the nodes of the mount walk are made (R48)
unfoldable pub walk_mem : List ℕ → List ℕ → List ℕ
walk_mem path mem = append_all (planned (view mem).tree path).nodes mem

-- the walk, then rows 7 and 8 where it ends
unfoldable pub planned_mem : ℕ → Request → List ℕ → List ℕ
planned_mem k r mem = end_mem k r (ended (view mem) r.path) (walk_mem r.path mem)

-- rows 5, 7 and 8, by what the allocation finds
unfoldable pub found_mem : Option ℕ → Request → List ℕ → List ℕ
found_mem None r mem = alloc_mem mem
found_mem (Some k) r mem = planned_mem k r (alloc_mem mem)

-- from row 4 on, of a path with leading slash
unfoldable pub rooted_mem : Request → List ℕ → List ℕ
rooted_mem r mem = cond (no_room (view mem) r.path) mem (found_mem (allocation (view mem)).found r mem)

-- rows 1 to 3
unfoldable pub early : Request → Bool
early r = too_long r.path || not (well_formed r.path) || ltb max_ino r.largest

-- the bytes after a mount: rows 1 to 4 leave every one
unfoldable pub mount_mem : Request → List ℕ → List ℕ
mount_mem r mem = cond (laid mem) (cond (early r) mem (cond (rooted r.path) (rooted_mem r mem) (alloc_mem mem))) mem

-- ---- what is told on the way

-- the tags that a mount on the node x replaces and displaces (R78, R93)
abbrev pub tags_placed : List ℕ → ℕ → ℕ → Tags
tags_placed mem k x = record {
  replaced = tag_at (mount_of_node (view mem).tree x) (view mem);
  displaced = tag_of (freed (mount_of_node (view mem).tree x) (view mem)) k;
}

-- rows 7 and 8 on the node x: the root number is too large, or the tags replaced and displaced; and the bytes (R74, R76, R78, R93)
pub record Inserts (mem : List ℕ) (k x : ℕ) (b : Backend) (r : Result Tags VfsError) (after : List ℕ) : Type 0 where
  pub answer : r ≡ cond (ltb max_ino b.root.0) (Err Inode) (Ok (tags_placed mem k x))
  pub bytes : after ≡ end_mem k (request_of [] b) x mem
  pub stands : view after ≡ cond (ltb max_ino b.root.0) (view mem) (placed k (request_of [] b) x (view mem))
  pub keeps : laid after ≡ true

-- rows 7 and 8 on the node x, as they are told: the root number is too large, or the values given; with a count (R74, R75)
pub record EndsAt (mem : List ℕ) (k x : ℕ) (b : Backend) (values : Answer) (n : ℕ) (t : Told) (after : List ℕ) : Type 0 where
  pub told : t ≡ cond (ltb max_ino b.root.0) (counted INODE n) (record { code = DONE; answer = values; count = n })
  pub bytes : after ≡ end_mem k (request_of [] b) x mem
  pub stands : view after ≡ cond (ltb max_ino b.root.0) (view mem) (placed k (request_of [] b) x (view mem))
  pub keeps : laid after ≡ true

-- of a mount: the index and the tag replaced
abbrev pub MountsAt : List ℕ → ℕ → ℕ → ℕ → Backend → Result Mounted MountRefused → List ℕ → Type 0
MountsAt mem k n x b r after = EndsAt mem k x b (mounted k (tags_placed mem k x).replaced) n (mounted_told r) after

-- the search and the counter moved by it (R80 to R84)
pub record Allocates (mem : List ℕ) (a : Allocated) (after : List ℕ) : Type 0 where
  pub answer : a ≡ search_told (allocation (view mem))
  pub least : (k : ℕ) → a.answer ≡ Some k → 1 ≤ k
  pub bytes : after ≡ alloc_mem mem
  pub stands : view after ≡ stepped (view mem)
  pub keeps : laid after ≡ true

-- FULL where the allocation finds none, else INVAL (R72, R73)
abbrev pub by_found : Option ℕ → ℕ
by_found None = FULL
by_found (Some k) = INVAL

-- rows 5 and 6, of a path without leading slash: the counter has moved (R72, R73)
abbrev pub unrooted_rule : Instance → Outcome
unrooted_rule i = allocated i (by_found (allocation i).found) nothing (stepped i)

-- from row 4 on, of a path with leading slash (R71 to R79)
abbrev pub rooted_rule : Instance → Request → Outcome
rooted_rule i r = cond (no_room i r.path) (refused NOROOM i) (mount_by_index i r (allocation i).found)
