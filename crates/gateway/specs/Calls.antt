-- What the numbers of an export ask for.
use Rattle.std.specs.Prelude.{ℕ, List}
use Rattle.rules.specs.Ids.{mapping_by}
use Rattle.rules.specs.Create.{Creation}
use Rattle.rules.specs.Mount.{Request}

-- a creation (R26, R27)
abbrev pub creation_by : ℕ → ℕ → ℕ → ℕ → ℕ → ℕ → ℕ → ℕ → Creation
creation_by n known ins outs flags internal external range =
    record { capacity = n; known = known; options = record { in_opts = ins; out_opts = outs; mapping = mapping_by internal external range; flags = flags } }

-- a mount (R3)
abbrev pub request_by : List ℕ → ℕ → ℕ → ℕ → ℕ → ℕ → ℕ → Request
request_by path tag root largest uid gid mode =
    record { path = path; tag = tag; root = root; largest = largest; uid = uid; gid = gid; mode = mode }
