-- `saved_parts::options::put_options` meets its contract. Assumes nothing.
use native.Mathlib.Omega.{arith}
use Rattle.vfs_options.specs.Given.{options_in}
use Rattle.saved_parts.proofs.Puts.{options_puts}
use Rattle.saved_parts.proofs.options.put_options.Goals as goal

pub returns : goal.returns
returns c =
    let a = c.args in
    options_puts _ _ (options_in a.o) _ _ _ _ _ _ (omega arith) c.put_u64.ensures c.put_u64-2.ensures c.put_u32.ensures
    c.put_u32-2.ensures c.put_u32-3.ensures c.put_u32-4.ensures
