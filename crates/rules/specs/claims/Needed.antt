-- What a mount walk makes on a new tree, as a table of paths under one statement (R38, R50).
use Prim.Native.String.{String}
use Rattle.std.specs.Prelude.{◌≡◌, List, [], ◌∷◌}
use Rattle.rules.specs.Bytes.{ascii}
use Rattle.rules.specs.Tree.{Made, bare}
use Rattle.rules.specs.Instance.{new_tree}
use Rattle.rules.specs.Mount.{planned}

-- a path, the nodes that it needs, and the node where it ends
pub record Need : Type 0 where
  pub path : String
  pub made : Made

-- `/` needs none; a name that `..` follows is made, and found again by the same path (R38, R50)
abbrev pub needs : List Need
needs =
    record { path = "/"; made = record { nodes = []; here = 1 } }
    ∷ record { path = "/x/.."; made = record { nodes = bare 2 1 (ascii "x") ∷ []; here = 1 } }
    ∷ record { path = "/x/../x/y"; made = record { nodes = bare 2 1 (ascii "x") ∷ bare 3 2 (ascii "y") ∷ []; here = 3 } }
    ∷ record { path = "/c/../a"; made = record { nodes = bare 2 1 (ascii "c") ∷ bare 3 1 (ascii "a") ∷ []; here = 3 } }
    ∷ record { path = "/.././/x/"; made = record { nodes = bare 2 1 (ascii "x") ∷ []; here = 2 } }
    ∷ []

-- what the rules make of each path
unfoldable pub walks : List Need → List Made
walks [] = []
walks (n ∷ ns) = planned new_tree (ascii n.path) ∷ walks ns

-- what the table says
unfoldable pub wanted : List Need → List Made
wanted [] = []
wanted (n ∷ ns) = n.made ∷ wanted ns

-- each path needs just these nodes, and ends there (R50)
abbrev pub Needed : Type 0
Needed = walks needs ≡ wanted needs
