-- The number is set, then the row is appended. Assumes nothing.
use borrow.Author.Rules.{rules}
use Rattle.tables.proofs.Keeps.{laid_long, laid_is}
use Rattle.saved_restore.proofs.StateTests.{set_ready, record_put}
use Rattle.saved_restore.proofs.load_record.Goals as goal

pub put_u64-requires : goal.put_u64-requires
put_u64-requires c = let l = laid_long _ c.requires.s_value in search rules

pub append-requires : goal.append-requires
append-requires c =
    let r = set_ready _ _ _ _ _ c.number_at.ensures c.put_u64.ensures c.requires.s_value c.requires.s_bound c.requires.loads in
    record { bounds = laid_is _ r.keeps; s_bound = r.room; s_bound_2 = r.under; name_len_bound = rw c.name_at.ensures c.requires.loads.short }

pub returns : goal.returns
returns c = record_put _ _ _ _ _ c.number_at.ensures c.put_u64.ensures _ _ _ c.parent_at.ensures c.name_at.ensures c.append.ensures
