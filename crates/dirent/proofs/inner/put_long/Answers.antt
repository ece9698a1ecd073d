-- Zeros, whole words, and the last eight bytes.
use native.Mathlib.Omega.{arith}
use Rattle.dirent.proofs.Long.{long_words}
use Rattle.dirent.proofs.inner.put_long.Goals as goal

pub returns : goal.returns
returns c =
    let p = c.requires in
    long_words _ _ _ _ _ _ (λ i. (c.type_inv.src i).fits) (omega (arith, p)) (omega (arith, p)) _ _ _ _ (omega (arith, p)) c.put_u64.ensures c.copy_words.ensures
    c.get_u8-byte.ensures c.put_u64-2.ensures
