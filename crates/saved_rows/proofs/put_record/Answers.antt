-- The fields of the record, and the name behind them. Assumes nothing.
use Rattle.row_name.proofs.Names.{name_short}
use Rattle.saved_rows.proofs.SaveRecords.{record_puts}
use borrow.Author.Rules.{rules}
use Rattle.saved_rows.proofs.put_record.Goals as goal

pub overflow_cast-name_len : goal.overflow_cast-name_len
overflow_cast-name_len c = let h = name_short _ _ _ _ c.name_len.ensures in search rules

pub returns : goal.returns
returns c =
    record_puts _ _ _ _ _ _ _ _ c.number-number.ensures c.parent-parent.ensures c.name_len.ensures c.put_head.ensures c.copy_name.ensures
