-- Every call on an instance, and the rule of each.
use Rattle.std.specs.Prelude.{ℕ, Bool, List}
use Rattle.rules.specs.Instance.{Instance, removing}
use Rattle.rules.specs.Outcome.{nothing, settings, truth, Outcome, says}
use Rattle.rules.specs.Mount.{Request, mount_rule, restore_mount_rule}
use Rattle.rules.specs.Reached.{walk_rule}
use Rattle.rules.specs.Unmount.{unmount_rule}
use Rattle.rules.specs.Rootfs.{root_rule}
use Rattle.rules.specs.Lookup.{route_rule, lookup_rule, remap_rule}
use Rattle.rules.specs.Listing.{ListRequest, list_rule}
use Rattle.rules.specs.StateRestore.{save_rule, restore_state_rule}

-- the calls that read: each answers, and leaves the instance as it is (R1)
pub data Query : Type 0 where
  path_walk : List ℕ → Query
  get_rootfs : List ℕ → Query
  route : ℕ → Query
  lookup : ℕ → List ℕ → Query
  readdir : ListRequest → Query
  remap_attr_id : Bool → ℕ → ℕ → Query
  options : Query
  initialized : Query
  save_to_bytes : ℕ → Query

-- the rule of each query; options and `initialized` are answered as they stand (R33)
abbrev pub asked : Instance → Query → Outcome
asked i (path_walk path) = walk_rule i path
asked i (get_rootfs path) = root_rule i path
asked i (route x) = route_rule i x
asked i (lookup x p) = lookup_rule i x p
asked i (readdir q) = list_rule i q
asked i (remap_attr_id out uid gid) = remap_rule i out uid gid
asked i options = says (settings i.options) i
asked i initialized = says (truth i.initialized) i
asked i (save_to_bytes buffer) = save_rule i buffer

-- the calls on an instance: those that can change it, and the queries (R1); creation stands apart
pub data Call : Type 0 where
  mount : Request → Call
  restore_mount : ℕ → Request → Call
  umount : List ℕ → Call
  set_remove_pseudo_root : Call
  restore_from_bytes : List ℕ → Call
  ask : Query → Call

-- the rule of each call: every request has an outcome (R4); the remove call sets its flag at any time (R32)
unfoldable pub rule : Instance → Call → Outcome
rule i (mount r) = mount_rule i r
rule i (restore_mount k r) = restore_mount_rule i k r
rule i (umount path) = unmount_rule i path
rule i set_remove_pseudo_root = says nothing (removing i)
rule i (restore_from_bytes b) = restore_state_rule i b
rule i (ask q) = asked i q
