-- Unmount.
use Rattle.std.specs.Prelude.{ℕ, cond, not, ◌&&◌, List, [], ◌∷◌, eqb, Option, None, Some}
use Rattle.rules.specs.Numbers.{root_number, INVAL, NOTFOUND}
use Rattle.rules.specs.Tree.{Mount, parent_in}
use Rattle.rules.specs.Instance.{Tree, Instance, with_tree, with_slot, empty_slot, tag_of, set_mount, cut}
use Rattle.rules.specs.Outcome.{unmounted, Outcome, refused, says, ◌⟹◌, first_of}
use Rattle.rules.specs.Reached.{bad_path, reached, reached_mount}

-- the mount is off the node; with removal set, the node is taken out unless it is the root; its descendants stay (R98, R100, R101)
unfoldable pub taken : Instance → ℕ → Tree
taken i x =
    let t = set_mount i.tree x None in
    cond (i.removal && not (eqb x root_number)) (cut x t) t

-- done: node, parent, and the tag released; the slot is emptied (R97, R98, R99)
unfoldable pub unmounts : Instance → ℕ → Mount → Outcome
unmounts i x m =
    says (unmounted x (parent_in i.tree.nodes x) (tag_of i m.index)) (with_slot m.index empty_slot (with_tree (taken i x) i))

-- by the node and the mount on it (R96)
unfoldable pub unmount_at : Instance → Option ℕ → Option Mount → Outcome
unmount_at i None m = refused NOTFOUND i
unmount_at i (Some x) None = refused NOTFOUND i
unmount_at i (Some x) (Some m) = unmounts i x m

-- a bad path is INVAL; where no node or no mount stands it is NOTFOUND; else done (R96)
unfoldable pub unmount_rule : Instance → List ℕ → Outcome
unmount_rule i path =
    first_of ((bad_path path ⟹ refused INVAL i) ∷ []) (unmount_at i (reached i path) (reached_mount i (reached i path)))
