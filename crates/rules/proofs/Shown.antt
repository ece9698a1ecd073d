-- The table of calls, by computation. Assumes nothing.
use mathlib.Core.Path.{refl}
use Rattle.rules.specs.Bytes.{same, holds, ascii}
use Rattle.rules.specs.Utf8.{table, fits, first_row, sequence, end_from, valid_to, well_formed}
use Rattle.rules.specs.Path.{parts_by, sorted, kept_parts, components, rooted, any_longer, too_long}
use Rattle.rules.specs.Numbers.{full, index_of, number_of}
use Rattle.rules.specs.Fields.{bytes_of, fields}
use Rattle.rules.specs.Ids.{inside, mapped, unmapped}
use Rattle.rules.specs.Round.{going_round, until_twice, visited, first_free, allocate}
use Rattle.rules.specs.Tree.{is_child, child_in, node_in, is_known, parent_in, children_in, walk, mount_step, makes, nodes_with_mount, without}
use Rattle.rules.specs.Instance.{mount_of_node, set_mount}
use Rattle.rules.specs.Outcome.{first_of}
use Rattle.rules.specs.Create.{new_instance}
use Rattle.rules.specs.Mount.{planned, needed, no_room, freed_slots, tag_at, placed, allocation, mount_by_index, mount_rule, restore_mount_by_index, restore_mount_rule}
use Rattle.rules.specs.Reached.{bad_path, reached, walk_rule}
use Rattle.rules.specs.Unmount.{taken, unmounts, unmount_at, unmount_rule}
use Rattle.rules.specs.Rootfs.{root_held, root_at, root_rule}
use Rattle.rules.specs.Lookup.{route_tag, route_tree, route_rule, entry_of, entry_at, lookup_by, lookup_rule, remap_rule}
use Rattle.rules.specs.Listing.{record_of, dirent, dirents_from, laid_records, list_rule}
use Rattle.rules.specs.Calls.{rule}
use Rattle.rules.specs.claims.Shown.{run, EveryShown}

-- the theorem
pub every_shown : EveryShown
unfolding same holds ascii table fits first_row sequence end_from valid_to well_formed parts_by sorted kept_parts components rooted any_longer too_long full index_of number_of bytes_of fields inside mapped unmapped going_round until_twice visited first_free allocate is_child child_in node_in is_known parent_in children_in walk mount_step makes nodes_with_mount without mount_of_node set_mount first_of new_instance planned needed no_room freed_slots tag_at placed allocation mount_by_index mount_rule restore_mount_by_index restore_mount_rule bad_path reached walk_rule taken unmounts unmount_at unmount_rule root_held root_at root_rule route_tag route_tree route_rule entry_of entry_at lookup_by lookup_rule remap_rule record_of dirent dirents_from laid_records list_rule rule run
every_shown = refl
