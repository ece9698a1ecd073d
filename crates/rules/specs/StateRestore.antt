-- Save and state restore.
use Rattle.std.specs.Prelude.{ℕ, ◌+◌, Bool, true, false, not, ◌&&◌, List, [], ◌∷◌, length, eqb, ltb, None}
use Rattle.rules.specs.Numbers.{BADSAVE, BADOPT, NOROOM, NOTFRESH, SMALL}
use Rattle.rules.specs.Tree.{Node, bare, is_none}
use Rattle.rules.specs.Instance.{Instance}
use Rattle.rules.specs.Create.{unknown}
use Rattle.rules.specs.Saved.{SavedNode, State, encode, accepted, state_of}
use Rattle.rules.specs.Outcome.{nothing, Outcome, refused, says, writes, ◌⟹◌, first_of}

-- a node as it is saved, its mount left out (R127)
abbrev pub saved_node : Node → SavedNode
saved_node n = record { number = n.number; parent = n.parent; name = n.name }

-- in table order (R126)
unfoldable pub saved_nodes : List Node → List SavedNode
saved_nodes [] = []
saved_nodes (n ∷ ns) = saved_node n ∷ saved_nodes ns

-- the nodes of the records, without mounts (R127, R134)
unfoldable pub nodes_of_records : List SavedNode → List Node
nodes_of_records [] = []
nodes_of_records (e ∷ es) = bare e.number e.parent e.name ∷ nodes_of_records es

-- what an instance saves: tree, options, next number, counter (R119, R127)
unfoldable pub saved_state : Instance → State
saved_state i = record { nodes = saved_nodes i.tree.nodes; options = i.options; next = i.tree.next; counter = i.indexes.counter }

-- into a lent buffer of that length: SMALL, or the bytes; the instance stays (R125)
unfoldable pub save_rule : Instance → ℕ → Outcome
save_rule i buffer = first_of ((ltb buffer (length (encode (saved_state i))) ⟹ refused SMALL i) ∷ []) (writes (encode (saved_state i)) i)

-- there is no node besides the root
unfoldable pub no_nodes : List Node → Bool
no_nodes [] = true
no_nodes (n ∷ ns) = false

-- no node besides the root, and no mount; nothing else is asked (R132)
unfoldable pub fresh : Instance → Bool
fresh i = no_nodes i.tree.nodes && is_none i.tree.root

-- tree, next number, counter and options are the state's; `initialized` says whether in_opts has a bit; the rest stays (R134)
unfoldable pub state_restored_to : State → Instance → Instance
state_restored_to s i = record {
  fixed = i.fixed;
  removal = i.removal;
  initialized = not (eqb s.options.in_opts 0);
  options = s.options;
  indexes = record { slots = i.indexes.slots; counter = s.counter };
  tree = record { next = s.next; root = None; nodes = nodes_of_records s.nodes };
}

-- NOTFRESH, BADSAVE, BADOPT, NOROOM, or done; BADMAP is not tested (R128, R130, R131, R133)
unfoldable pub restore_state_rule : Instance → List ℕ → Outcome
restore_state_rule i b =
    first_of
    ((not (fresh i) ⟹ refused NOTFRESH i)
    ∷ (not (accepted b) ⟹ refused BADSAVE i)
    ∷ (unknown i.fixed.known (state_of b).options ⟹ refused BADOPT i)
    ∷ (ltb i.fixed.capacity (1 + length (state_of b).nodes) ⟹ refused NOROOM i)
    ∷ [])
    (says nothing (state_restored_to (state_of b) i))
