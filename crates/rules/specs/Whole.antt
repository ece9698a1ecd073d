-- A whole session: all bytes in, all bytes out.
use Rattle.std.specs.Prelude.{ℕ, cond, List, [], ◌∷◌, ◌++◌, eqb}
use Rattle.rules.specs.Path.{onto}
use Rattle.rules.specs.Instance.{Instance}
use Rattle.rules.specs.Create.{new_instance}
use Rattle.rules.specs.Session.{Reply, reply_to}

-- an instance of n nodes: no option bits, no mapping, nodes kept (R137)
abbrev pub plain : ℕ → Instance
plain n = new_instance (record {
  capacity = n;
  known = 0;
  options = record { in_opts = 0; out_opts = 0; mapping = record { internal = 0; external = 0; range = 0 }; flags = 0 };
})

-- the byte that ends a line (R151)
abbrev pub line_end : ℕ
line_end = 10

-- the lines of an input, without their ends: bytes behind the last end are one more line, no bytes there are none (R151)
unfoldable pub lines_of : List ℕ → List (List ℕ)
lines_of [] = []
lines_of (b ∷ s) = cond (eqb b line_end) ([] ∷ lines_of s) (onto b (lines_of s))

-- each line answered on what the one before it left, each answer with a line end behind it (R137)
unfoldable pub replies : Instance → List (List ℕ) → Reply
replies i [] = record { text = []; instance = i }
replies i (l ∷ ls) =
    let r = reply_to i l in
    let rest = replies r.instance ls in
    record { text = r.text ++ (line_end ∷ rest.text); instance = rest.instance }

-- what a session writes for an input, and the instance after it (R137, R151)
unfoldable pub session : Instance → List ℕ → Reply
session i input = replies i (lines_of input)
