-- Demand 3 over restarts, of bytes; and from the answers alone. Assumes nothing.
use mathlib.Core.Path.{◌≡◌, refl, sym, ap, ◌∙◌, subst}
use mathlib.Core.Bool.{true}
use mathlib.Core.List.{List, [], ◌∷◌, append-nil}
use Rattle.std.specs.Prelude.{None}
use Prim.Native.Nat.{ℕ}
use lib.ListN.{length, take, drop}
use lib.Seq.{take-append_seam}
use Rattle.rules.specs.Instance.{Instance, counter_of}
use Rattle.rules.specs.Saved.{State, encode}
use Rattle.rules.specs.StateRestore.{saved_state, state_restored_to}
use Rattle.rules.specs.Outcome.{wrote}
use Rattle.rules.specs.Calls.{ask, save_to_bytes, restore_from_bytes, rule}
use Rattle.rules.specs.claims.Laps.{LapsBy}
use Rattle.rules.specs.claims.Trace.{steps_of}
use Rattle.rules.specs.claims.Restart.{Carried, Restarted, steps_in as rules_steps}
use Rattle.rules.proofs.Encoded.{state_read}
use Rattle.rules.proofs.Driven.{facts}
use Rattle.rules.proofs.SaveThenRestore.{saved_fits, restore_done}
use Rattle.rules.proofs.Restart.{laps_over}
use Rattle.tables.specs.View.{view}
use Rattle.tables.specs.Laid.{laid}
use Rattle.call_form.specs.Form.{tells, Writes}
use Rattle.vfs.specs.Runs.{Step, Allowed, Run, calls_of, counts, last_of}
use Rattle.mount_parts.proofs.MountWays.{counter_in}
use Rattle.persist.specs.Saving.{saving}
use Rattle.persist.proofs.SaveWays.{done_holds}
use Rattle.contracts.specs.Answers.{LastTells, NoStateRestores, WholeLaps, EveryLapOfAnswers}
use Rattle.contracts.specs.Reads.{read_as}
use Rattle.contracts.specs.Lives.{LifeOfBytes, bytes_left_by, steps_of_lives, lives_of, Lives, Carries, SavedOf, by_call, by_export, RestartedOfBytes, EveryRestartOfBytes, EverySavedRestartOfBytes, EveryRestartOfAnswers}
use Rattle.contracts.proofs.Back.{wrote_answers, save_reads}
use Rattle.contracts.proofs.Made.{told_by_rule}
use Rattle.contracts.proofs.Stood.{Stands, done_laid, by_rule, run_stood, unrestored, Follows, stood_follows, follows_append, same_sum, same_last, found_told}

-- ---- lives, one after another

-- what begins in one way begins in another
lives_by : (P Q : List ℕ → List ℕ → Type 0) → ((mem start : List ℕ) → P mem start → Q mem start) → (ls : List LifeOfBytes) (mem : List ℕ) → Lives P mem ls → Lives Q mem ls
unfolding Lives
lives_by P Q f [] mem h = tt
lives_by P Q f (l ∷ ls) mem (p, (r, (n, h))) = (f mem l.start p, (r, (n, lives_by P Q f ls (bytes_left_by l) h)))

module _ (l : LifeOfBytes) (mem : List ℕ) (c : Carries mem l.start) where
  abbrev begun : Stands l.start (view l.start)
  begun = record { keeps = c.keeps; is = refl }

-- they carry the counter of the instances they stand for
carried : (ls : List LifeOfBytes) (mem : List ℕ) (i : Instance) → counter_of (view mem) ≡ counter_of i → Lives Carries mem ls → Carried i (lives_of ls)
unfolding Lives lives_of Carried
carried [] mem i e h = tt
carried (l ∷ ls) mem i e (c, (r, (n, h))) =
    let w = run_stood l.steps l.start (view l.start) (begun l mem c) r in
    (c.counter ∙ e, (unrestored l.steps (view l.start) w.0 n, carried ls (bytes_left_by l) _ (ap counter_of w.1.is) h))

lives_follow : (ls : List LifeOfBytes) (mem : List ℕ) → Lives Carries mem ls → Follows (steps_of_lives ls) (rules_steps (lives_of ls))
unfolding Lives lives_of steps_of_lives rules_steps
lives_follow [] mem h = tt
lives_follow (l ∷ ls) mem (c, (r, (n, h))) =
    follows_append l.steps (steps_of (view l.start) (calls_of l.steps)) (steps_of_lives ls) (rules_steps (lives_of ls))
    (stood_follows l.steps (view l.start) (run_stood l.steps l.start (view l.start) (begun l mem c) r).0) (lives_follow ls (bytes_left_by l) h)

-- the theorem: the counter carried over
pub restart_of_bytes : EveryRestartOfBytes
restart_of_bytes s a l bytes k f ls h last =
    let i = view s.before in
    let u = by_rule s a s.before refl i (record { keeps = l; is = refl }) in
    let z = laps_over i (counter_in s.before bytes) s.call k f (lives_of ls) (carried ls s.after (rule i s.call).after (ap counter_of u.leaves.is) h) last in
    subst (λ (n : ℕ). LapsBy n (rules_steps (lives_of ls))) (sym (same_sum (steps_of_lives ls) (rules_steps (lives_of ls)) (lives_follow ls s.after h))) z

-- ---- a save and a restore

-- a done save found the layout rule kept, and wrote the state
wrote_state : (mem d : List ℕ) (n : ℕ) (e : List ℕ) → Writes mem (saving d) d (tells (wrote n)) e → (laid mem ≡ true) × (take n e ≡ encode (saved_state (view mem)))
wrote_state mem d n e w =
    let h = done_holds mem d n e w in
    (h.rule, (λ m. take (h.count m) (h.bytes m)) ∙ take-append_seam (encode (saved_state (view mem))) (drop n d))

pub saved_state_lem : (mem b : List ℕ) → SavedOf mem b → (laid mem ≡ true) × (b ≡ encode (saved_state (view mem)))
unfolding rule
saved_state_lem _ _ (by_call κs s out n x w) = wrote_state s.now out.now n x.1.0.now w
saved_state_lem _ _ (by_export κs s out r x w e) =
    let told = told_by_rule wrote_answers (ask (save_to_bytes (length out.now))) (save_reads (length out.now)) s.now r w.answer in
    wrote_state s.now out.now r.written x.1.0.now (record { answer = sym (λ m. read_as (e m) (wrote r.written) 0) ∙ told; bytes = w.bytes })

-- a done restore of it, as the rules have it
pub restarts : (mem start : List ℕ) → (r : RestartedOfBytes mem start) → (laid start ≡ true) × Restarted (view mem) (view r.step.before) (view start)
unfolding rule
restarts mem start r =
    let i = view mem in
    let f = view r.step.before in
    let u = by_rule r.step r.allowed r.step.before refl f (record { keeps = done_laid r.step r.allowed r.done; is = refl }) in
    let o : rule f r.step.call ≡ rule f (restore_from_bytes (encode (saved_state i))) = ap (rule f) (r.call ∙ ap restore_from_bytes (saved_state_lem mem r.bytes r.saved).1) in (
      ap laid (sym r.leaves) ∙ u.leaves.keeps,
      record { done = sym (λ m. (o m).code) ∙ (sym (λ m. (u.told m).code) ∙ r.done); gives = sym (λ m. (o m).after) ∙ (sym u.leaves.is ∙ ap view r.leaves) },
    )

-- it sets the counter
restarted_carries : (mem start : List ℕ) → RestartedOfBytes mem start → Carries mem start
unfolding saved_state state_restored_to
restarted_carries mem start r =
    let i = view mem in
    let w = restarts mem start r in
    let set = (restore_done (view r.step.before) (encode (saved_state i)) w.1.done).1 in
    let state = state_read (saved_state i) (saved_fits i (facts i r.driven)) in
    record { keeps = w.0; counter = ap counter_of (sym w.1.gives ∙ set) ∙ ap (λ (x : State). x.counter) state }

-- the lives after a step: its own first, then those after restarts
after_step : (s : Step) → Allowed s → laid s.before ≡ true → (ss : List Step) → Run s.after ss → NoStateRestores ss → (ls : List LifeOfBytes) → Lives RestartedOfBytes (last_of s.after ss) ls
    → Lives Carries s.after (record { start = s.after; steps = ss } ∷ ls)
unfolding Lives
after_step s a l ss r n ls h =
    (record { keeps = a.keeps l; counter = refl }, (r, (n, lives_by RestartedOfBytes Carries restarted_carries ls (last_of s.after ss) h)))

-- the theorem: over saves and restores
pub saved_restart_of_bytes : EverySavedRestartOfBytes
unfolding steps_of_lives lives_of rules_steps
saved_restart_of_bytes s a l bytes k f ss r n ls h last = restart_of_bytes s a l bytes k f (record { start = s.after; steps = ss } ∷ ls) (after_step s a l ss r n ls h) last

-- ---- from the answers

-- the theorem: over saves and restores
pub restart_of_answers : EveryRestartOfAnswers
unfolding steps_of_lives lives_of rules_steps
restart_of_answers s a bytes k t ss r n ls h last =
    let l = done_laid s a t.done in
    let i = view s.before in
    let u = by_rule s a s.before refl i (record { keeps = l; is = refl }) in
    let all : List LifeOfBytes = record { start = s.after; steps = ss } ∷ ls in
    let f = lives_follow all s.after (after_step s a l ss r n ls h) in
    let z = saved_restart_of_bytes s a l bytes k (found_told i s u.told k t) ss r n ls h (same_last k (steps_of_lives all) (rules_steps (lives_of all)) f last None) in
    (z.positive, z.whole)

-- the theorem: over one run
pub laps_of_answers : EveryLapOfAnswers
unfolding steps_of_lives Lives
laps_of_answers s a bytes k t ss r n last =
    subst (λ (x : List Step). WholeLaps (counts x)) (append-nil ss) (restart_of_answers s a bytes k t ss r n [] tt (subst (LastTells k) (sym (append-nil ss)) last))
