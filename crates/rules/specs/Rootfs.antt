-- Root query: what is mounted where a path leads.
use Rattle.std.specs.Prelude.{ℕ, List, [], ◌∷◌, Option, None, Some}
use Rattle.rules.specs.Numbers.{INVAL, NOTFOUND}
use Rattle.rules.specs.Tree.{Mount}
use Rattle.rules.specs.Instance.{Instance, tag_of}
use Rattle.rules.specs.Outcome.{rootfs, Outcome, refused, says, ◌⟹◌, first_of}
use Rattle.rules.specs.Reached.{bad_path, reached, reached_mount}

-- a mount whose slot is empty is not found; else tag and index (R103)
unfoldable pub root_held : Instance → ℕ → Option ℕ → Outcome
root_held i k None = refused NOTFOUND i
root_held i k (Some t) = says (rootfs (Some (t, k))) i

-- no path or no mount is none (R103, R104)
unfoldable pub root_at : Instance → Option Mount → Outcome
root_at i None = says (rootfs None) i
root_at i (Some m) = root_held i m.index (tag_of i m.index)

-- INVAL, none, NOTFOUND, or tag and index (R103)
unfoldable pub root_rule : Instance → List ℕ → Outcome
root_rule i path = first_of ((bad_path path ⟹ refused INVAL i) ∷ []) (root_at i (reached_mount i (reached i path)))
