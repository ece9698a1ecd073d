-- A line read by its fields, one after another.
use Rattle.std.specs.Prelude.{ℕ, cond, List, [], ◌∷◌, Option, None, Some}
use Rattle.std.specs.Borrow.{Bor}
use Rattle.std.specs.Str.{bytes_eq}
use Rattle.rules.specs.Tree.{onward}
use Rattle.rules.specs.Session.{words, Line, mount, umount, walk, look}
use Rattle.decimal.specs.Read.{number_to}
use Rattle.session_line.specs.declared.parsing.TheConstants.{UMOUNT, WALK, LOOK, MOUNT}
use Rattle.session_line.specs.declared.parsing.Fields.{Fields}
use Rattle.session_line.specs.declared.parsing.Line.{Line as Read}
use Rattle.session_line.specs.declared.parsing.Line.TheVariants.{Mount, Umount, Walk, Look}

-- the fields that are left (R146)
abbrev pub left_of : Option (Bor (List ℕ)) → List (List ℕ)
left_of None = []
left_of (Some s) = words s.now

abbrev pub left : Fields → List (List ℕ)
left f = left_of f.rest

-- the first of some fields, where it is not empty, and those behind it (R145)
abbrev pub first : List (List ℕ) → Option (List ℕ × List (List ℕ))
first [] = None
first ([] ∷ ws) = None
first ((b ∷ w) ∷ ws) = Some (b ∷ w, ws)

-- the first as a number (R148, R149)
abbrev pub number_first : ℕ → List (List ℕ) → Option (ℕ × List (List ℕ))
number_first max ws = onward (first ws) (λ n. onward (number_to max n.0) (λ x. Some (x, n.1)))

-- one that has none behind it
abbrev pub alone : List ℕ → List (List ℕ) → Option (List ℕ)
alone w [] = Some w
alone w (v ∷ ws) = None

-- the only one, where it is not empty (R145)
abbrev pub only : List (List ℕ) → Option (List ℕ)
only ws = onward (first ws) (λ n. alone n.0 n.1)

-- what was read: a field, and with it the fields behind it
abbrev pub field_in : Option (Bor (List ℕ)) → Option (List ℕ)
field_in None = None
field_in (Some w) = Some w.now

abbrev pub next_in : Option (Bor (List ℕ) × Fields) → Option (List ℕ × List (List ℕ))
next_in None = None
next_in (Some n) = Some (n.0.now, left n.1)

abbrev pub number_next : Option (ℕ × Fields) → Option (ℕ × List (List ℕ))
number_next None = None
number_next (Some n) = Some (n.0, left n.1)

-- the line that was read (R138 to R141)
abbrev pub form_of : Read → Line
form_of (Mount path tag root largest) = mount path.now tag root largest
form_of (Umount path) = umount path.now
form_of (Walk path) = walk path.now
form_of (Look node name) = look node name.now

abbrev pub line_in : Option Read → Option Line
line_in None = None
line_in (Some l) = Some (form_of l)

-- the fields behind `look` (R141, R149)
abbrev pub look_by : List (List ℕ) → Option Line
look_by ws = onward (number_first 18446744073709551615 ws) (λ x. onward (only x.1) (λ p. Some (look x.0 p)))

-- the fields behind `mount` (R138, R149)
abbrev pub mount_by : List (List ℕ) → Option Line
mount_by ws =
    onward (first ws) (λ p.
    onward (number_first 4294967295 p.1) (λ t.
    onward (number_first 18446744073709551615 t.1) (λ r.
    onward (only r.1) (λ w. onward (number_to 18446744073709551615 w) (λ m. Some (mount p.0 t.0 r.0 m))))))

-- by the verb, and the fields behind it (R138 to R141, R147)
abbrev pub form_by : List ℕ → List (List ℕ) → Option Line
form_by verb ws =
    cond (bytes_eq verb UMOUNT.now) (onward (only ws) (λ p. Some (umount p)))
    (cond (bytes_eq verb WALK.now) (onward (only ws) (λ p. Some (walk p)))
    (cond (bytes_eq verb LOOK.now) (look_by ws)
    (cond (bytes_eq verb MOUNT.now) (mount_by ws) None)))
