-- Demand 1, what a refusal leaves: the column "leaves" of the refusal table, once over all calls, by the number.
use Rattle.std.specs.Prelude.{ℕ, ◌+◌, ◌%◌, ◌≤◌, ◌<◌, true, false, ◌⊎◌, [], ◌≡◌}
use Rattle.rules.specs.Numbers.{max_ino, INVAL, INODE, FULL}
use Rattle.rules.specs.Utf8.{well_formed}
use Rattle.rules.specs.Path.{rooted}
use Rattle.rules.specs.Instance.{Instance, with_counter, counter_of}
use Rattle.rules.specs.Outcome.{nothing, Outcome, count}
use Rattle.rules.specs.Mount.{Request, walked_to}
use Rattle.rules.specs.Calls.{Call, mount, restore_mount, rule}

-- the counter moved by the call's count (R83)
abbrev pub moved : Instance → Outcome → Instance
moved i o = with_counter ((counter_of i + count o) % 256) i

-- a mount refused for its missing slash, which row 2 let pass: the counter alone (R69, R73)
pub record Row6 (i : Instance) (c : Call) (o : Outcome) (r : Request) : Type 0 where
  pub call : c ≡ mount r
  pub utf8 : well_formed r.path ≡ true
  pub slash : rooted r.path ≡ false
  pub leaves : o.after ≡ moved i o

-- a mount refused for its root number, which row 3 let pass: the counter, the next number, and the nodes made behind the others (R70, R74)
pub record Row7 (i : Instance) (c : Call) (o : Outcome) (r : Request) : Type 0 where
  pub call : c ≡ mount r
  pub largest : r.largest ≤ max_ino
  pub root : max_ino < r.root
  pub leaves : o.after ≡ walked_to r.path (moved i o)

-- the same of a restored mount, without the counter (R92)
pub record RestoredMountRow7 (i : Instance) (c : Call) (o : Outcome) (k : ℕ) (r : Request) : Type 0 where
  pub call : c ≡ restore_mount k r
  pub largest : r.largest ≤ max_ino
  pub root : max_ino < r.root
  pub leaves : o.after ≡ walked_to r.path i

-- nothing was visited, and the instance is as it was
abbrev pub Unchanged : Instance → Outcome → Type 0
Unchanged i o = (o.visits ≡ []) × (o.after ≡ i)

-- if the call is a mount, its path is not UTF-8: it was refused by row 2 and not by row 6 (R69, R73)
abbrev pub ByRow2 : Call → Type 0
ByRow2 c = (r : Request) → c ≡ mount r → well_formed r.path ≡ false

-- if the call is a mount or a restored mount, its largest number is too big: it was refused by row 3 and not by row 7 (R70, R74, R92)
abbrev pub ByRow3 : Call → Type 0
ByRow3 c = (r : Request) → (c ≡ mount r) ⊎ ((k : ℕ) × (c ≡ restore_mount k r)) → max_ino < r.largest

-- what the outcome o of the call c on the instance i leaves, by its number (R15), with every value none and nothing written (R16, R17)
pub record Leaves (i : Instance) (c : Call) (o : Outcome) : Type 0 where
  pub full : o.code ≡ FULL → o.after ≡ with_counter ((counter_of i + 1) % 256) i
  pub inval : o.code ≡ INVAL → (Unchanged i o × ByRow2 c) ⊎ ((r : Request) × Row6 i c o r)
  pub inode : o.code ≡ INODE → (Unchanged i o × ByRow3 c) ⊎ (((r : Request) × Row7 i c o r) ⊎ ((k : ℕ) × (r : Request) × RestoredMountRow7 i c o k r))
  pub others : (o.code ≡ 0 → ⊥) → (o.code ≡ FULL → ⊥) → (o.code ≡ INVAL → ⊥) → (o.code ≡ INODE → ⊥) → Unchanged i o
  pub values : (o.code ≡ 0 → ⊥) → (o.answer ≡ nothing) × (o.written ≡ [])

-- of every call on every instance (R15, R16, R17)
abbrev pub EveryRefusal : Type 0
EveryRefusal = (i : Instance) (c : Call) → Leaves i c (rule i c)
