-- The worked lines and edges, by computation. Assumes nothing.
use mathlib.Core.Path.{refl}
use Rattle.rules.specs.Bytes.{same, holds, ascii}
use Rattle.rules.specs.Utf8.{table, fits, first_row, sequence, end_from, valid_to, well_formed}
use Rattle.rules.specs.Path.{parts_by, sorted, kept_parts, components, rooted, any_longer, too_long}
use Rattle.rules.specs.Numbers.{full, index_of, number_of}
use Rattle.rules.specs.Ids.{inside, mapped}
use Rattle.rules.specs.Round.{going_round, until_twice, visited, first_free, allocate}
use Rattle.rules.specs.Tree.{is_child, child_in, node_in, is_known, parent_in, walk, mount_step, makes, nodes_with_mount, without}
use Rattle.rules.specs.Instance.{mount_of_node, set_mount}
use Rattle.rules.specs.Outcome.{first_of}
use Rattle.rules.specs.Create.{new_instance}
use Rattle.rules.specs.Mount.{planned, needed, no_room, freed_slots, tag_at, placed, allocation, mount_by_index, mount_rule}
use Rattle.rules.specs.Reached.{bad_path, reached, walk_rule}
use Rattle.rules.specs.Unmount.{taken, unmounts, unmount_at, unmount_rule}
use Rattle.rules.specs.Lookup.{route_tag, route_tree, route_rule, entry_of, entry_at, lookup_by, lookup_rule}
use Rattle.rules.specs.Calls.{rule}
use Rattle.rules.specs.Session.{is_digit, all_digits, spelt, number, digits, decimal, any_empty, line_of, parsed, joined, numbers, text_of, values, shown, routed, line_reply, answers, reply_to}
use Rattle.rules.specs.Whole.{lines_of, replies, session}
use Rattle.rules.specs.claims.Worked.{Worked, input, output, results, expected}

pub worked : Worked
unfolding same holds ascii table fits first_row sequence end_from valid_to well_formed parts_by sorted kept_parts components rooted any_longer too_long full index_of number_of inside mapped going_round until_twice visited first_free allocate is_child child_in node_in is_known parent_in walk mount_step makes nodes_with_mount without mount_of_node set_mount first_of new_instance planned needed no_room freed_slots tag_at placed allocation mount_by_index mount_rule bad_path reached walk_rule taken unmounts unmount_at unmount_rule route_tag route_tree route_rule entry_of entry_at lookup_by lookup_rule rule is_digit all_digits spelt number digits decimal any_empty line_of parsed joined numbers text_of values shown routed line_reply answers reply_to lines_of replies session input output results expected
worked = refl
