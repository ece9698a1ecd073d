-- A conversion's full number, or 0.
use Rattle.std.proofs.Common.{◌≡◌, ap, refl, ◌∙◌}
use Rattle.std.specs.Prelude.{Result, Ok, Err}
use Rattle.std.specs.Result.{result_unwrap_or}
use Rattle.rules.specs.Numbers.{or_zero}
use Rattle.rules.specs.declared.codes.VfsError.{VfsError}
use Rattle.inode.specs.Converted.{full_of}
use Rattle.inode.specs.declared.VfsInode.{VfsInode}
use Rattle.inode.proofs.or_zero.Goals as goal

by_cases : (c : Result VfsInode VfsError) → (result_unwrap_or c (record { 0 = 0 })).0 ≡ or_zero (full_of c)
unfolding full_of
by_cases (Ok x) = refl
by_cases (Err e) = refl

pub returns : goal.returns
returns c = ap (λ (x : VfsInode). x.0) c.unwrap_or.ensures ∙ by_cases c.args.c
