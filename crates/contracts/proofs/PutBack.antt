-- A kept number over a restart, of bytes. Assumes nothing.
use mathlib.Core.Path.{◌≡◌, refl, sym, ap, ◌∙◌, subst}
use mathlib.Core.Bool.{true}
use mathlib.Core.List.{List, [], ◌∷◌}
use mathlib.Core.Logic.{◌⊎◌, inl, inr, ⊎_elim}
use Rattle.std.specs.Prelude.{Option, None, Some}
use Prim.Native.Nat.{ℕ, ◌<◌}
use native.Mathlib.Decide.{ℕ_discrete}
use lib.ListN.{length}
use Rattle.rules.specs.Numbers.{index_of, NOENT, INVAL}
use Rattle.rules.specs.Tree.{Mount}
use Rattle.rules.specs.Instance.{Instance, tag_of, mount_of_node}
use Rattle.rules.specs.Outcome.{rootfs, Outcome, refused}
use Rattle.rules.specs.Reached.{reached, reached_mount}
use Rattle.rules.specs.Rootfs.{root_held, root_at, root_rule}
use Rattle.rules.specs.Calls.{Call, set_remove_pseudo_root, ask, get_rootfs, route, rule}
use Rattle.rules.specs.claims.Driven.{IsAt}
use Rattle.rules.specs.claims.Laps.{Has}
use Rattle.rules.specs.claims.Trace.{after_all}
use Rattle.rules.specs.claims.PutBack.{Aside, Putting as RulesPutting, none_left as rules-none, one_back as rules-back, one_aside as rules-aside, Back as RulesBack, AnswersAs}
use Rattle.rules.proofs.Rows.{each_of}
use Rattle.rules.proofs.Still.{route_still}
use Rattle.rules.proofs.Kept.{leads_on, leads_off}
use Rattle.rules.proofs.PutBack.{every_back, every_left_out}
use Rattle.rules.proofs.Room.{every_put_back}
use Rattle.tables.specs.View.{view}
use Rattle.tables.specs.Laid.{laid}
use Rattle.call_form.specs.Form.{told_by}
use Rattle.vfs.specs.Runs.{Step, Allowed, Run, calls_of, last_of}
use Rattle.contracts.specs.Answers.{NoneGives}
use Rattle.contracts.specs.PutBack.{Queried, AsideOfBytes, PuttingOfBytes, none_left, one_back, one_aside, BackOfBytes, EveryQueried, EveryBackOfAnswers, EveryLeftOutOfAnswers, EveryPutBackOfAnswers}
use Rattle.contracts.proofs.Stood.{Stands, done_laid, ByRule, by_rule, run_stood, ungiven}
use Rattle.contracts.proofs.Lives.{saved_state_lem, restarts}

-- ---- what a root query told

-- the path leads to a node on which a mount of that index stands, and its slot holds that tag
record There (i : Instance) (path : List ℕ) (t k : ℕ) : Type 0 where
  node : ℕ
  leads : reached i path ≡ Some node
  stood : IsAt k (mount_of_node i.tree node)
  tag : tag_of i k ≡ Some t

module _ (i : Instance) (t k : ℕ) where
  abbrev Answers : Outcome → Type 0
  Answers o = o.answer ≡ rootfs (Some (t, k))

  held_there : (n : ℕ) (o : Option ℕ) → tag_of i n ≡ o → Answers (root_held i n o) → (n ≡ k) × (tag_of i k ≡ Some t)
  unfolding root_held
  held_there n None e q = cc
  held_there n (Some u) e q =
      let same : ◌≡◌ {A = ℕ × ℕ} (u, n) (t, k) = cc in
      let tags : u ≡ t = λ m. (same m).0 in
      let indexes : n ≡ k = λ m. (same m).1 in
      (indexes, cc)

  mount_there : (path : List ℕ) (x : ℕ) → reached i path ≡ Some x → (m : Option Mount) → mount_of_node i.tree x ≡ m → Answers (root_at i m) → There i path t k
  unfolding root_at
  mount_there path x e None s q = cc
  mount_there path x e (Some m) s q =
      let h = held_there m.index (tag_of i m.index) refl q in
      record { node = x; leads = e; stood = subst (IsAt k) (sym s) h.0; tag = h.1 }

  node_there : (path : List ℕ) (o : Option ℕ) → reached i path ≡ o → Answers (root_at i (reached_mount i o)) → There i path t k
  unfolding root_at
  node_there path None e q = cc
  node_there path (Some x) e q = mount_there path x e (mount_of_node i.tree x) refl q

  refused_not : (code : ℕ) (path : List ℕ) → Answers (refused code i) → There i path t k
  refused_not code path q = cc

  root_there : (path : List ℕ) → Answers (rule i (ask (get_rootfs path))) → There i path t k
  unfolding rule root_rule
  root_there path = each_of (λ (o : Outcome). Answers o → There i path t k) _ _ (refused_not INVAL path, node_there path (reached i path) refl)

queried_there : (mem path : List ℕ) (t k : ℕ) → laid mem ≡ true → Queried mem path t k → There (view mem) path t k
queried_there mem path t k l h =
    let i = view mem in
    let told = (by_rule h.step h.allowed mem h.on i (record { keeps = l; is = refl })).told in
    root_there i t k path (sym (λ m. (rule i (h.call m)).answer) ∙ (sym (λ m. (told m).answer) ∙ (λ m. (h.told m).answer)))

-- ---- the steps, as calls on the instance

sets_aside : (j : Instance) (c : Call) → c ≡ set_remove_pseudo_root → Aside j c
unfolding rule
sets_aside j c e = subst (Aside j) (sym e) (record { tree = refl; slots = refl })

still_aside : (j : Instance) (c : Call) → (rule j c).after ≡ j → Aside j c
still_aside j c e = record { tree = ap (λ (a : Instance). a.tree) e; slots = ap (λ (a : Instance). a.indexes.slots) e }

aside : (s : Step) (j : Instance) → view s.before ≡ j → ByRule j s → AsideOfBytes s → Aside j s.call
aside s j e h = ⊎_elim (λ same. still_aside j s.call (sym h.leaves.is ∙ (ap view same ∙ e))) (sets_aside j s.call)

putting : (mem : List ℕ) → laid mem ≡ true → (ss : List Step) (ks : List ℕ) → PuttingOfBytes mem ss ks → (now : List ℕ) (j : Instance) → Stands now j → Run now ss
    → RulesPutting (view mem) j (calls_of ss) ks
unfolding Run calls_of
putting mem l _ _ none_left now j h r = rules-none j
putting mem l _ _ (one_back s ss k ks b p) now j h (e, (a, r)) =
    let u = by_rule s a now e j h in
    let w = queried_there mem b.request.path b.request.tag k l b.stood in
    rules-back j s.call (calls_of ss) k ks
    (record { request = b.request; call = b.call; done = sym (λ m. (u.told m).code) ∙ b.done; node = w.node; leads = w.leads; stood = w.stood; tag = w.tag })
    (putting mem l ss ks p s.after (rule j s.call).after u.leaves r)
putting mem l _ _ (one_aside s ss ks b p) now j h (e, (a, r)) =
    let u = by_rule s a now e j h in
    rules-aside j s.call (calls_of ss) ks (aside s j (ap view e ∙ h.is) u b) (putting mem l ss ks p s.after (rule j s.call).after u.leaves r)

-- ---- where a number leads

-- what a step of a call tells
told_as : (s : Step) → Allowed s → (mem : List ℕ) → s.before ≡ mem → (i : Instance) → Stands mem i → (c : Call) → s.call ≡ c → s.told ≡ told_by (rule i c)
told_as s a mem on i h c e = (by_rule s a mem on i h).told ∙ ap (λ (d : Call). told_by (rule i d)) e

same_told : (i j : Instance) (x : ℕ) → AnswersAs (rule j (ask (route x))) (rule i (ask (route x))) → told_by (rule j (ask (route x))) ≡ told_by (rule i (ask (route x)))
unfolding rule
same_told i j x e = λ m. record { code = e.0 m; answer = e.1 m; count = length (((route_still j x).visits ∙ sym (route_still i x).visits) m) }

-- a route that is not done is refused
not_done : (i : Instance) (x : ℕ) → 0 < index_of x → ((rule i (ask (route x))).code ≡ 0 → ⊥) → rule i (ask (route x)) ≡ refused NOENT i
not_done i x p n = go (tag_of i (index_of x)) refl
  where
    go : (o : Option ℕ) → tag_of i (index_of x) ≡ o → rule i (ask (route x)) ≡ refused NOENT i
    go None e = leads_off i x p e
    go (Some t) e = absurd (n (λ m. (leads_on i x t p e m).code))

has_or_not : (k : ℕ) (ks : List ℕ) → Has k ks ⊎ (Has k ks → ⊥)
has_or_not k [] = inr (λ w. w)
has_or_not k (q ∷ ks) =
    elim (ℕ_discrete q k) [
      | yes e ↦ inl (inl e)
      | no n ↦ ⊎_elim (λ h. inl (inr h)) (λ h. inr (⊎_elim n h)) (has_or_not k ks)
    ]

-- the theorem: what a root query told is where a route leads
pub every_queried : EveryQueried
every_queried mem path t x low h p a on c =
    let l = ap laid (sym h.on) ∙ done_laid h.step h.allowed (λ m. (h.told m).code) in
    told_as p a mem on (view mem) (record { keeps = l; is = refl }) (ask (route x)) c ∙ ap told_by (leads_on (view mem) x t low (queried_there mem path t (index_of x) l h).tag)

-- ---- from the save on

module _ (mem start : List ℕ) (ss : List Step) (ks : List ℕ) (b : BackOfBytes mem start ss ks) where
  keeps : laid mem ≡ true
  keeps = (saved_state_lem mem b.restarted.bytes b.restarted.saved).0

  begun : Stands start (view start)
  begun = record { keeps = (restarts mem start b.restarted).0; is = refl }

  back : RulesBack (view mem) (view b.restarted.step.before) (view start) (calls_of ss) ks
  back = record {
    before = b.restarted.driven;
    fresh = b.fresh;
    restored = (restarts mem start b.restarted).1;
    put = putting mem keeps ss ks b.put start (view start) begun b.run;
  }

  ended : Stands (last_of start ss) (after_all (view start) (calls_of ss))
  ended = (run_stood ss start (view start) begun b.run).1

-- the theorem: what was left out
pub left_out_of_answers : EveryLeftOutOfAnswers
left_out_of_answers mem start ss ks b x low n rs run given q a at c =
    let j = after_all (view start) (calls_of ss) in
    let w = run_stood rs (last_of start ss) j (ended mem start ss ks b) run in
    told_as q a (last_of (last_of start ss) rs) at (after_all j (calls_of rs)) w.1 (ask (route x)) c
    ∙ ap told_by (every_left_out (view mem) _ (view start) (calls_of ss) ks (back mem start ss ks b) x low n (calls_of rs) (ungiven (index_of x) rs j w.0 given))

-- the theorem: what was put back, and what led nowhere
pub back_of_answers : EveryBackOfAnswers
unfolding Run last_of NoneGives
back_of_answers mem start ss ks b x low p a on c led q d at e =
    let i = view mem in
    let before = told_as p a mem on i (record { keeps = keeps mem start ss ks b; is = refl }) (ask (route x)) c in
    let after = told_as q d (last_of start ss) at (after_all (view start) (calls_of ss)) (ended mem start ss ks b) (ask (route x)) e in
    ⊎_elim
    (λ h. after ∙ (same_told i (after_all (view start) (calls_of ss)) x (every_back i _ (view start) (calls_of ss) ks (back mem start ss ks b) x low h) ∙ sym before))
    (λ n. left_out_of_answers mem start ss ks b x low n [] tt tt q d at e ∙ sym (before ∙ ap told_by (not_done i x low (λ z. n (led ((λ m. (before m).code) ∙ z))))))
    (has_or_not (index_of x) ks)

-- the theorem: what can be put back
pub put_back_of_answers : EveryPutBackOfAnswers
put_back_of_answers mem start ss ks b r sound t n w k low q a at c =
    let h = queried_there mem r.path t n (keeps mem start ss ks b) w in
    (λ m. (told_as q a (last_of start ss) at (after_all (view start) (calls_of ss)) (ended mem start ss ks b) _ c m).code)
    ∙ every_put_back (view mem) _ (view start) (calls_of ss) ks (back mem start ss ks b) r sound h.node h.leads k low
