-- The open loops of a script: how many they are, at most four, and of each the place of its first line, its variable and the turns that are left.
use Rattle.std.specs.Prelude.{ℕ, ◌+◌, ◌-◌, Bool, cond, ◌&&◌, leb, ltb, get_or, set, Option, Some, None}
use Rattle.test_steps.specs.declared.loops.Loop.{Loop}
use Rattle.test_steps.specs.declared.loops.Loops.{Loops}
use Rattle.test_steps.specs.declared.loops.Turn.{Turn}

-- one more: the place of its first line, its variable, its turns
unfoldable pub opened : Loops → ℕ → ℕ → ℕ → Loops
opened s p v t =
    cond (ltb s.depth 4) (record { nested = set s.nested s.depth (record { place = p; variable = v; turns = t }); depth = s.depth + 1 }) s

-- whether there is an innermost one
abbrev pub any_open : Loops → Bool
any_open s = leb 1 s.depth && leb s.depth 4

-- the innermost one
abbrev pub innermost : Loops → Loop
innermost s = get_or s.nested (s.depth - 1) (record { place = 0; variable = 0; turns = 0 })

-- with one turn less
abbrev pub a_turn_less : Loop → Loop
a_turn_less l = record { place = l.place; variable = l.variable; turns = l.turns - 1 }

-- at its end: one turn less, or one loop less
unfoldable pub turned_loop : Loops → Loops
turned_loop s =
    cond (any_open s)
    (cond (leb (innermost s).turns 1) (record { nested = s.nested; depth = s.depth - 1 }) (record { nested = set s.nested (s.depth - 1) (a_turn_less (innermost s)); depth = s.depth }))
    s

-- and the answer: its next turn, or none
unfoldable pub turn_of : Loops → Option Turn
turn_of s =
    cond (any_open s) (cond (leb (innermost s).turns 1) None (Some (record { place = (innermost s).place; variable = (innermost s).variable }))) None
