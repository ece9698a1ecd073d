-- Steps that contracts allow, as calls on the instance that their bytes stand for. Assumes nothing.
use mathlib.Core.Path.{◌≡◌, refl, sym, ap, ◌∙◌}
use mathlib.Core.Bool.{Bool, true, false, cond}
use mathlib.Core.List.{List, [], ◌∷◌, ◌++◌}
use mathlib.Core.Logic.{inl, inr, ⊎_elim}
use Rattle.std.specs.Prelude.{Option, Some}
use Rattle.std.proofs.lemmas.Option.{none-some}
use Prim.Native.Nat.{ℕ, ◌+◌}
use native.Mathlib.Omega.{arith}
use lib.ListN.{length}
use Rattle.rules.specs.Numbers.{DONE}
use Rattle.rules.specs.Instance.{Instance}
use Rattle.rules.specs.Mount.{Request}
use Rattle.rules.specs.Calls.{mount, rule}
use Rattle.rules.specs.claims.Laps.{SearchStep, total, last_found}
use Rattle.rules.specs.claims.Trace.{WithoutStateRestore, after_all, steps_of}
use Rattle.rules.specs.claims.Kept.{Ungiven}
use Rattle.rules.proofs.Turn.{mounts_allocate, only_mounts, found_no_restore}
use Rattle.tables.specs.View.{view}
use Rattle.tables.specs.Laid.{laid}
use Rattle.call_form.specs.Form.{Told, told_by, told_small, answered_by}
use Rattle.storage.proofs.Laid.{told_by_lem}
use Rattle.vfs.specs.Runs.{Step, Allowed, Run, calls_of, counts, last_of}
use Rattle.contracts.specs.Answers.{TellsIndex, LastTells, NoStateRestores, NoneGives}

-- ---- bytes

-- the bytes keep the layout rule, and stand for the instance
pub record Stands (mem : List ℕ) (i : Instance) : Type 0 where
  pub keeps : laid mem ≡ true
  pub is : view mem ≡ i

-- a done answer shows that they keep it
pub done_laid : (s : Step) → Allowed s → s.told.code ≡ DONE → laid s.before ≡ true
unfolding answered_by
done_laid s a e = go (laid s.before) refl
  where
    go : (b : Bool) → laid s.before ≡ b → laid s.before ≡ true
    go true l = l
    go false l = absurd (omega (arith, sym e ∙ ap (λ (t : Told). t.code) (a.answer ∙ ap (λ (b : Bool). cond b (told_by (rule (view s.before) s.call)) told_small) l)))

-- what a step tells and leaves, by the rule
pub record ByRule (i : Instance) (s : Step) : Type 0 where
  pub told : s.told ≡ told_by (rule i s.call)
  pub leaves : Stands s.after (rule i s.call).after

pub by_rule : (s : Step) → Allowed s → (mem : List ℕ) → s.before ≡ mem → (i : Instance) → Stands mem i → ByRule i s
by_rule s a mem b i h =
    let on : laid s.before ≡ true = ap laid b ∙ h.keeps in
    let is : view s.before ≡ i = ap view b ∙ h.is in
    record {
      told = a.answer ∙ (told_by_lem s.before (λ (j : Instance). rule j s.call) on ∙ ap (λ (j : Instance). told_by (rule j s.call)) is);
      leaves = record { keeps = a.keeps on; is = a.stands on ∙ ap (λ (j : Instance). (rule j s.call).after) is };
    }

-- each step tells what the rule gives on what the last one left
unfoldable pub Stood : Instance → List Step → Type 0
Stood i [] = Unit {0}
Stood i (s ∷ ss) = (s.told ≡ told_by (rule i s.call)) × Stood (rule i s.call).after ss

pub run_stood : (ss : List Step) (mem : List ℕ) (i : Instance) → Stands mem i → Run mem ss → Stood i ss × Stands (last_of mem ss) (after_all i (calls_of ss))
unfolding Stood Run last_of calls_of after_all
run_stood [] mem i h r = (tt, h)
run_stood (s ∷ ss) mem i h (b, (a, r)) =
    let q = by_rule s a mem b i h in
    let w = run_stood ss s.after (rule i s.call).after q.leaves r in
    ((q.told, w.0), w.1)

-- ---- what the answers tell is so

module _ (i : Instance) (s : Step) (t : s.told ≡ told_by (rule i s.call)) where
  pub found_told : (k : ℕ) → TellsIndex k s → (rule i s.call).found ≡ Some k
  unfolding rule
  found_told k h =
      let o : rule i s.call ≡ rule i (mount h.request) = ap (rule i) h.call in
      let m = (mounts_allocate i h.request).answers (sym (λ j. (o j).code) ∙ (sym (λ j. (t j).code) ∙ h.done)) in
      let same : m.0 ≡ k = let q = sym m.1.told.1 ∙ (sym (λ j. (o j).answer) ∙ (sym (λ j. (t j).answer) ∙ h.answer)) in cc in
      (λ j. (o j).found) ∙ (m.1.found ∙ ap {B = Option ℕ} Some same)

  tells_found : (k : ℕ) → (rule i s.call).code ≡ 0 → (rule i s.call).found ≡ Some k → TellsIndex k s
  unfolding rule
  tells_found k done e = ⊎_elim (λ q. absurd (none-some k (sym q.found ∙ e))) (λ q. go q.0 q.1.call) (only_mounts i s.call (found_no_restore i s.call k e))
    where
      go : (r : Request) → s.call ≡ mount r → TellsIndex k s
      go r c =
          let o : rule i s.call ≡ rule i (mount r) = ap (rule i) c in
          let m = (mounts_allocate i r).answers (sym (λ j. (o j).code) ∙ done) in
          let same : m.0 ≡ k = let q = sym m.1.found ∙ (sym (λ j. (o j).found) ∙ e) in cc in
          record {
            request = r;
            call = c;
            done = (λ j. (t j).code) ∙ done;
            replaced = m.1.told.0;
            answer = (λ j. (t j).answer) ∙ ((λ j. (o j).answer) ∙ (m.1.told.1 ∙ rw same refl));
          }

pub unrestored : (ss : List Step) (i : Instance) → Stood i ss → NoStateRestores ss → WithoutStateRestore i (calls_of ss)
unfolding Stood NoStateRestores WithoutStateRestore calls_of
unrestored [] i h n = tt
unrestored (s ∷ ss) i (t, h) (n, ns) = (λ b c e. n b c ((λ j. (t j).code) ∙ e), unrestored ss (rule i s.call).after h ns)

pub ungiven : (k : ℕ) (ss : List Step) (i : Instance) → Stood i ss → NoneGives k ss → Ungiven k i (calls_of ss)
unfolding Stood NoneGives Ungiven calls_of
ungiven k [] i h n = tt
ungiven k (s ∷ ss) i (t, h) (n, ns) =
    (λ g. n (⊎_elim (λ e. inl (tells_found i s t k g.0 e)) (λ e. inr ((λ j. (t j).code) ∙ g.0, e)) g.1), ungiven k ss (rule i s.call).after h ns)

-- ---- steps beside those of the allocator

-- the count is told, and an index that is told was found
pub record Follow (s : Step) (r : SearchStep) : Type 0 where
  pub count : s.told.count ≡ length r.visits
  pub found : (k : ℕ) → TellsIndex k s → r.found ≡ Some k

abbrev pub Follows : List Step → List SearchStep → Type 0
Follows [] [] = Unit {0}
Follows [] (r ∷ rs) = ⊥
Follows (s ∷ ss) [] = ⊥
Follows (s ∷ ss) (r ∷ rs) = Follow s r × Follows ss rs

pub stood_follows : (ss : List Step) (i : Instance) → Stood i ss → Follows ss (steps_of i (calls_of ss))
unfolding Stood steps_of calls_of
stood_follows [] i h = tt
stood_follows (s ∷ ss) i (t, h) = (record { count = λ j. (t j).count; found = found_told i s t }, stood_follows ss (rule i s.call).after h)

pub follows_append : (ss : List Step) (rs : List SearchStep) (ss' : List Step) (rs' : List SearchStep) → Follows ss rs → Follows ss' rs' → Follows (ss ++ ss') (rs ++ rs')
follows_append [] [] ss' rs' f g = g
follows_append [] (r ∷ rs) ss' rs' f g = absurd f
follows_append (s ∷ ss) [] ss' rs' f g = absurd f
follows_append (s ∷ ss) (r ∷ rs) ss' rs' (f, fs) g = (f, follows_append ss rs ss' rs' fs g)

pub same_sum : (ss : List Step) (rs : List SearchStep) → Follows ss rs → counts ss ≡ total rs
unfolding counts total
same_sum [] [] f = refl
same_sum [] (r ∷ rs) f = absurd f
same_sum (s ∷ ss) [] f = absurd f
same_sum (s ∷ ss) (r ∷ rs) (f, fs) = λ j. f.count j + same_sum ss rs fs j

pub same_last : (k : ℕ) (ss : List Step) (rs : List SearchStep) → Follows ss rs → LastTells k ss → (x : Option ℕ) → last_found x rs ≡ Some k
unfolding LastTells last_found
same_last k [] rs f l x = absurd l
same_last k (s ∷ ss) [] f l x = absurd f
same_last k (s ∷ []) (r ∷ []) f l x = f.0.found k l
same_last k (s ∷ []) (r ∷ r' ∷ rs) f l x = absurd f.1
same_last k (s ∷ s' ∷ ss) (r ∷ []) f l x = absurd f.1
same_last k (s ∷ s' ∷ ss) (r ∷ r' ∷ rs) f l x = same_last k (s' ∷ ss) (r' ∷ rs) f.1 l r.found
