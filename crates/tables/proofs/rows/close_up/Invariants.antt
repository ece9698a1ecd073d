-- To close up the columns that are left gives what closing up all gives.
use Rattle.tables.specs.declared.places.TheConstants.{COLUMNS}
use Rattle.tables.proofs.Writes.{Closing}
use Rattle.tables.proofs.rows.close_up.Given as goal

abbrev pub invariant-loop-c : goal.invariant-loop-c
invariant-loop-c l = Closing l.n l.k l.m COLUMNS l.initial.s l.s l.c-index
