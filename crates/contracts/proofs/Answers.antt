-- What follows from the answers alone. Assumes nothing.
use mathlib.Core.Path.{◌≡◌, refl, sym, ap, ◌∙◌, subst}
use Rattle.std.specs.Prelude.{Some}
use Prim.Native.Nat.{ℕ}
use lib.ListN.{length}
use Rattle.rules.specs.Instance.{Instance, held_in, counter_of}
use Rattle.rules.specs.Mount.{allocation}
use Rattle.rules.specs.Tree.{node_in}
use Rattle.rules.specs.Outcome.{to_backend}
use Rattle.rules.specs.Numbers.{index_of, number_of}
use Rattle.rules.specs.Calls.{Call, ask, route, rule}
use Rattle.rules.specs.claims.Exactly.{Decides, tests}
use Rattle.rules.specs.claims.Trace.{after_all}
use Rattle.rules.proofs.Still.{route_still}
use Rattle.rules.proofs.Allocation.{exact}
use Rattle.rules.proofs.Exactly.{exactly}
use Rattle.rules.proofs.Trace.{searches}
use Rattle.rules.proofs.Kept.{judged}
use Rattle.rules.proofs.Again.{never_again}
use Rattle.tables.specs.View.{view}
use Rattle.call_form.specs.Form.{told_by, tells}
use Rattle.vfs.specs.Runs.{calls_of, last_of}
use Rattle.mount_parts.proofs.MountWays.{counter_in}
use Rattle.vfs.proofs.Runs.{kept_of_bytes}
use Rattle.contracts.specs.Answers.{EveryNumberOfBytes, EveryFirstOfBytes, EveryKeptOfAnswers, EveryJudgedOfBytes, NeverAgainOfBytes}
use Rattle.contracts.proofs.Stood.{done_laid, by_rule, run_stood, found_told, unrestored, ungiven}

pub number_of_bytes : EveryNumberOfBytes
number_of_bytes s a l bytes =
    let i = view s.before in
    let told = (by_rule s a s.before refl i (record { keeps = l; is = refl })).told in
    subst (λ (n : ℕ). Decides n (tests i s.call)) (sym (λ m. (told m).code)) (exactly.0 i (counter_in s.before bytes) s.call)

pub first_of_bytes : EveryFirstOfBytes
unfolding allocation
first_of_bytes s a bytes k m =
    let i = view s.before in
    let told = (by_rule s a s.before refl i (record { keeps = done_laid s a m.done; is = refl })).told in
    let found : (rule i s.call).found ≡ Some k = found_told i s told k m in
    let moves = (searches i s.call k found).0 in
    let f = ((exact (held_in i) (counter_of i) (counter_in s.before bytes)).handed_out k).0 (sym moves.1 ∙ found) in
    (f.0, f.1, (λ j. (told j).count) ∙ (ap length moves.0 ∙ f.1.counted))

-- a number that is routed is routed on the same instance
route_leaves : (i : Instance) (c : Call) (x : ℕ) → c ≡ ask (route x) → (rule i c).after ≡ i
unfolding rule
route_leaves i c x e = ap (λ (d : Call). (rule i d).after) e ∙ (route_still i x).after

-- a done route that answers a tells a
tells_route : (j : Instance) (x t k n : ℕ) → (rule j (ask (route x))).code ≡ 0 → (rule j (ask (route x))).answer ≡ to_backend t k n → told_by (rule j (ask (route x))) ≡ tells (to_backend t k n)
unfolding rule
tells_route j x t k n e f = λ m. record { code = e m; answer = f m; count = length ((route_still j x).visits m) }

pub judged_of_bytes : EveryJudgedOfBytes
judged_of_bytes p a x t low c led ss run given q b at d done =
    let i = view p.before in
    let l = done_laid p a (λ m. (led m).code) in
    let h = by_rule p a p.before refl i (record { keeps = l; is = refl }) in
    let w = run_stood ss p.after i (record { keeps = h.leaves.keeps; is = h.leaves.is ∙ route_leaves i p.call x c }) run in
    let j = after_all i (calls_of ss) in
    let told : q.told ≡ told_by (rule j (ask (route x))) = (by_rule q b (last_of p.after ss) at j w.1).told ∙ ap (λ (y : Call). told_by (rule j y)) d in
    let first : (rule i (ask (route x))).answer ≡ to_backend t (index_of x) (number_of x) = sym (λ m. (rule i (c m)).answer) ∙ (sym (λ m. (h.told m).answer) ∙ (λ m. (led m).answer)) in
    let ok : (rule j (ask (route x))).code ≡ 0 = sym (λ m. (told m).code) ∙ done in
    told ∙ (tells_route j x t (index_of x) (number_of x) ok (judged i x t low first (calls_of ss) (ungiven (index_of x) ss i w.0 given) ok) ∙ sym led)

pub kept_of_answers : EveryKeptOfAnswers
kept_of_answers s a bytes k m ss run n names =
    let l = done_laid s a m.done in
    let w = run_stood ss s.after (view s.after) (record { keeps = a.keeps l; is = refl }) run in
    kept_of_bytes s a l bytes m.request m.call m.done k m.replaced m.answer ss run (unrestored ss (view s.after) w.0 n) names

pub never_again_of_bytes : NeverAgainOfBytes
never_again_of_bytes mem l x low gone ss run n =
    let i = view mem in
    let w = run_stood ss mem i (record { keeps = l; is = refl }) run in
    ap (λ (j : Instance). node_in j.tree.nodes x) w.1.is ∙ never_again i x low gone (calls_of ss) (unrestored ss i w.0 n)
