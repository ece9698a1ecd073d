-- The tables of saves and restores, by computation. Assumes nothing.
use mathlib.Core.Path.{refl}
use Rattle.rules.specs.Bytes.{same, holds, ascii}
use Rattle.rules.specs.Utf8.{table, fits, first_row, sequence, end_from, valid_to, well_formed}
use Rattle.rules.specs.Path.{parts_by, sorted, kept_parts, components, rooted, any_longer, too_long}
use Rattle.rules.specs.Numbers.{full}
use Rattle.rules.specs.Fields.{read, value, bytes_of, get, fields}
use Rattle.rules.specs.Ids.{inside, mapped}
use Rattle.rules.specs.Round.{going_round, until_twice, visited, first_free, allocate}
use Rattle.rules.specs.Tree.{is_child, child_in, node_in, is_known, parent_in, walk, mount_step, makes, nodes_with_mount, without}
use Rattle.rules.specs.Instance.{mount_of_node, set_mount}
use Rattle.rules.specs.Outcome.{first_of}
use Rattle.rules.specs.Create.{outside, unknown, new_instance}
use Rattle.rules.specs.Mount.{planned, needed, no_room, freed_slots, tag_at, placed, allocation, mount_by_index, mount_rule}
use Rattle.rules.specs.Reached.{bad_path, reached, walk_rule}
use Rattle.rules.specs.Unmount.{taken, unmounts, unmount_at, unmount_rule}
use Rattle.rules.specs.Rootfs.{root_held, root_at, root_rule}
use Rattle.rules.specs.Lookup.{entry_of, entry_at, lookup_by, lookup_rule}
use Rattle.rules.specs.Saved.{node_bytes, nodes_bytes, options_bytes, trailer_bytes, encode, saved_node_at, saved_nodes_at, end_at, saved_options_at, options_start, trailer_start, saved_offset, saved_records, saved_next, saved_counter, state_of, laid_out, last_number, present, used, good_name, good_node, good_nodes, valid, accepted}
use Rattle.rules.specs.Tests.{every}
use Rattle.rules.specs.StateRestore.{saved_nodes, nodes_of_records, saved_state, save_rule, no_nodes, fresh, state_restored_to, restore_state_rule}
use Rattle.rules.specs.Calls.{rule}
use Rattle.rules.specs.claims.Shown.{run}
use Rattle.rules.specs.claims.Stored.{EveryStored}

-- the theorem
pub every_stored : EveryStored
unfolding same holds ascii table fits first_row sequence end_from valid_to well_formed parts_by sorted kept_parts components rooted any_longer too_long full read value bytes_of get fields inside mapped going_round until_twice visited first_free allocate is_child child_in node_in is_known parent_in walk mount_step makes nodes_with_mount without mount_of_node set_mount first_of outside unknown new_instance planned needed no_room freed_slots tag_at placed allocation mount_by_index mount_rule bad_path reached walk_rule taken unmounts unmount_at unmount_rule root_held root_at root_rule entry_of entry_at lookup_by lookup_rule node_bytes nodes_bytes options_bytes trailer_bytes encode saved_node_at saved_nodes_at end_at saved_options_at options_start trailer_start saved_offset saved_records saved_next saved_counter state_of every laid_out last_number present used good_name good_node good_nodes valid accepted saved_nodes nodes_of_records saved_state save_rule no_nodes fresh state_restored_to restore_state_rule rule run
every_stored = record { saved_as = refl; restored_as = refl; damaged_as = refl; unset_as = refl }
