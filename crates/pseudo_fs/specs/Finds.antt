-- What a find of the code answers: the outcome of the rules' lookup, whatever mounts are asked.
use Rattle.std.specs.Prelude.{ℕ, ◌≡◌, cond, List, Option, Result, Ok, Err, ok_or}
use Rattle.rules.specs.Bytes.{holds}
use Rattle.rules.specs.Codes.{code_of}
use Rattle.rules.specs.declared.codes.VfsError.{VfsError}
use Rattle.rules.specs.declared.codes.VfsError.TheVariants.{NoEnt}
use Rattle.rules.specs.Path.{slash}
use Rattle.rules.specs.Tree.{Mount, Node, child_in}
use Rattle.rules.specs.Instance.{Instance}
use Rattle.rules.specs.Outcome.{Outcome, refused}
use Rattle.rules.specs.Lookup.{entry_of, lookup_by}

-- the outcome of a lookup that found so: the entry of the node, by the mount on it, or the refusal
unfoldable pub outcome_of : (ℕ → Option Mount) → Instance → Result ℕ VfsError → Outcome
outcome_of mounts i (Ok y) = entry_of i y (mounts y)
outcome_of mounts i (Err e) = refused (code_of e) i

-- the child of that name; a name with a slash is NOENT (R45, R59)
unfoldable pub child_finding : List Node → ℕ → List ℕ → Result ℕ VfsError
child_finding nodes x p = cond (holds slash p) (Err NoEnt) (ok_or (child_in nodes x p) NoEnt)

-- found in the directory x by the name p: what the rules' lookup gives, of every instance with these nodes and for any mounts (R57, R58, R59)
abbrev pub Finds : List Node → ℕ → List ℕ → Result ℕ VfsError → Type 0
Finds nodes x p r = (mounts : ℕ → Option Mount) (i : Instance) → i.tree.nodes ≡ nodes → outcome_of mounts i r ≡ lookup_by mounts i x p
