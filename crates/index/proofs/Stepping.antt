-- A step of a lent allocator meets its contract: a walk of its MIR, by hand. The borrow is opened, the table's three fields are lent to `take` for a lifetime
-- that is made for the call (`Lent`), and the borrow is closed at what they hold after it. All that the proof knows of `take` is that it meets its contract.
-- The walk is over the code of `allocate_in`, with any operand for the tag that is passed on. Any function with such code and the same contract is proved by it,
-- where the step for that tag is the step for the caller's.
-- Assumes `Logic`.
use Rattle.std.proofs.Common.{ℕ, ◌+◌, ◌^◌, ◌<◌, List, [], ◌∷◌, refl, w8, w32, MutBor}
use seplogic.Ra.Ura.{Ura}
use base.Fraction.{full_share}
use mir.Syntax.{Fn, Opd as Operand, named, erased, mut, ty_int, ty_array, ty_ref, place, deref, field, copy, addr_of, local, value_local, assign, call, seq, return}
use mir.Val.{Val, vint, vptr}
use base.Logic.{SProp, ent, sep, emp, via, fst∗, id⊢}
use base.Fml.{GName, Lft, Share, ftrue, fsep, flft, fobs, fbor}
use prog.Memory.{Memory}
use prog.Routine.{Routine}
use prog.Wp.{Env, Spot, Calls, Loops, WpFn, Tables}
use types.Logic.{Logic, sem}
use contract.Monad.{Fun, fact}
use types.Kit.{Item, ‵, raw, some, later, ◌⊛◌, ◌$◌, ◌∵◌, !, qed, by, move, keep, use1, use2, use3, split, join, pick, drop, fsplit, fsplit3, fjoin, fjoin3, feq_i, suffices, frame, await, done}
use types.Run.{Finds, Reads, Opd, look, init, forget, stop, hop, fld, from, load, addr, and_then, no_more, assigns, land, returns, enter, alloc1, alloc0, params1, pass1, pass0, free1, free0}
use types.Tokens.{lft_new, lft_end}
use types.Mut.{open_ref, close_ref}
use types.SemTy.{Body}
use sound.WpLaws.{FmC, fm_of, WpFn-mono}
use denote.RattleType.{owns}
use denote.Laws.{Is, shows}
use denote.Memory.{mem, pointee}
use denote.Plain.{uint_vals, uint_Tells, uint_Makes}
use denote.Builtin.{u32}
use denote.Ref.{MutRef, mut_vals, mut_Tells}
use denote.Signature.{plain}
use denote.Steps.{owned, peeks, heard, nothing}
use denote.Struct.Laws as LL
use denote.Triple.Statement.{Contract, Triple}
use denote.Triple.Call.{calls_at}
use denote.Triple.Entry.{on_entry}
use denote.Triple.Spec.{Meets, triple_of}
use denote.Triple.Walked.{says, Stays, stay_ref, stay_none, walk_of, AllGo, Goes-none, Goes-ref, Walks, ends_at, walked, walk_Meets}
use denote.Triple.Clauses.{ensured, lasts}
use denote.Exit.{yes}
use Rattle.index.specs.Take.{table_of, Steps}
use Rattle.index.specs.declared.FsIndexes.{FsIndexes}
use Rattle.index.specs.declared.AllocateAnswer.{AllocateAnswer}
use Rattle.index.specs.contracts.FsIndexes as T
use Rattle.index.proofs.FsIndexes.TheLaws as T'
use Rattle.index.specs.contracts.AllocateAnswer as R
use Rattle.index.proofs.AllocateAnswer.TheLaws as R'
use Rattle.index.specs.contracts.take as take
use Rattle.index.proofs.take.Symbol.{name as #index·take}
use Rattle.index.proofs.Lent.{Names, ref_at, Lent, Kept, Said, lends, comes_back}
use Rattle.index.specs.contracts.allocate_in as allocate-in

-- the code: `take(&mut t.used, &mut t.tags, &mut t.next_super, tag)`, with an operand for the tag
abbrev pub function : Operand → Fn
function tag = record {
  lifetimes = 1;
  outlives = [];
  ty_params = [];
  givens = 0;
  params = 2;
  locals = local R'.mir value_local ∷ local (ty_ref (named 0) mut (pointee (T.the_row).written)) value_local ∷ local (ty_int w32) value_local
      ∷ local (ty_ref erased mut (ty_array (ty_int w8) 256)) value_local ∷ local (ty_ref erased mut (ty_array (ty_int w32) 256)) value_local ∷ local (ty_ref erased mut (ty_int w8)) value_local ∷ [];
  body =
      seq (assign (place 3 []) (addr_of (place 1 (deref T'.mir ∷ field 0 ∷ []))))
      (seq (assign (place 4 []) (addr_of (place 1 (deref T'.mir ∷ field 1 ∷ []))))
      (seq (assign (place 5 []) (addr_of (place 1 (deref T'.mir ∷ field 2 ∷ []))))
      (seq (call #index·take (copy (place 3 []) ∷ copy (place 4 []) ∷ copy (place 5 []) ∷ tag ∷ []) (place 0 [])) return)));
}

abbrev Arg : Type 0
Arg = MutBor FsIndexes × (ℕ × Unit {0})

abbrev stayed : Stays (allocate-in.ended).signature.params (allocate-in.ended).kept
stayed = (stay_ref (0 ∷ []) tt (plain (λ _. T.the_row)), (stay_none (λ _. u32) yes, tt))

-- the operand has the number `sent n` where the caller's tag, the second parameter, is n
abbrev pub Sends : {M : Type 1} {𝓤 : Ura M} (𝓛 : Logic 𝓤) → Operand → (ℕ → ℕ) → Type 2
Sends {𝓤 = 𝓤} 𝓛 tag sent = (K : Type 0) (Γ : List (Item 𝓤)) (E : Env 𝓤 𝓛.H) (at : Spot 𝓤 𝓛.H) (n : ℕ) → K → Finds K 𝓛 Γ E (place 2 []) at → Reads K 𝓛 Γ at.0 at.1 at.2 (vint w32 n) → Opd K 𝓛 Γ E tag (vint w32 (sent n))

-- the step for the tag that is sent is the step for the caller's
abbrev pub Same : (ℕ → ℕ) → Type 0
Same sent = (h : FsIndexes) (n : ℕ) (r : AllocateAnswer) (h' : FsIndexes) → Steps h (sent n) r h' → Steps h n r h'

-- the contract that the proof cites
abbrev pub Take : {M : Type 1} {𝓤 : Ura M} (𝓛 : Logic 𝓤) (at_mem : Memory → SProp 𝓤) (run : Routine → Fun 𝓤) → Contract 𝓤
Take 𝓛 at_mem run = triple_of 𝓛 take.signature (take.spec 𝓛 at_mem run)

module _ {M : Type 1} {𝓤 : Ura M} (𝓛 : Logic 𝓤) (at_mem : Memory → SProp 𝓤) (run : Routine → Fun 𝓤) (κ : Lft) (q : Share) (b o : ℕ) (γ : GName) (h : FsIndexes) (n : ℕ) where
  open 𝓛 use {H}

  abbrev x : Arg
  x = (record { ref_ptr = (b, o); ghost_name = γ; now = h }, (n, tt))

  abbrev at : List Val × (List Val × Unit {0})
  at = (vptr b o ∷ [], (vint w32 n ∷ [], tt))

  abbrev Post : Val → SProp 𝓤
  Post = (walk_of 𝓛 allocate-in.ended stayed (allocate-in.clauses 𝓛 at_mem run)).post (((κ, tt), (q, tt), tt, x, at), tt)

  exits : (r : AllocateAnswer) (v : Val) (h' : FsIndexes) → Steps h n r h' → n < 2 ^ 32
      → ent 𝓤 (sep 𝓤 (𝓛.A.obs γ ((T.the_row).coded.code h')) (sep 𝓤 (𝓛.A.bor κ (Body (mem T.the_row) b o γ)) (sep 𝓤 (𝓛.A.lft κ q) (sem 𝓛 ((R.the_row).own_val r (v ∷ [])))))) (Post v)
  exits r v h' e fits =
      qed 𝓛 (‵ (fobs γ ((T.the_row).coded.code h')) ∷ ‵ (fbor κ (Body (mem T.the_row) b o γ)) ∷ ‵ (flft κ q) ∷ ‵ ((R.the_row).own_val r (v ∷ [])) ∷ []) ∵
      suffices ! _ (ends_at 𝓛 allocate-in.ended stayed (allocate-in.clauses 𝓛 at_mem run) (((κ, tt), (q, tt), tt, x, at), tt) v r (h', (tt, tt)) (tt, (tt, tt))) $
      says ! e $ nothing ! $ move ! (3 ∷ 0 ∷ []) $ join ! $ frame ! $ feq_i ! (List Val) (vptr b o ∷ []) (vptr b o ∷ []) refl $ fjoin3 ! $ nothing ! $ owned ! u32 (Is u32) (uint_Makes 𝓛 w32) n _ (refl, fits) $ fjoin ! $ move ! (1 ∷ 0 ∷ []) $ fjoin ! $ done !

  -- what `take`'s triple binds outside, at the tag m and the fields lent for ν under the names g, and what it asks
  abbrev to_take : ℕ → ℕ → Names → (Take 𝓛 at_mem run).Ghost
  to_take m ν g = (
    (
      (ν ∷ [], tt),
      (full_share, tt),
      tt,
      (ref_at b o 0 g.0 h.used, (ref_at b o 256 g.1.0 h.tags, (ref_at b o 1280 g.1.1 h.next_super, (m, tt)))),
      (vptr b (o + 0) ∷ [], (vptr b (o + 256) ∷ [], (vptr b (o + 1280) ∷ [], (vint w32 m ∷ [], tt)))),
    ),
    tt,
  )

  goes_take : (m : ℕ) → m < 2 ^ 32 → (ν : ℕ) (g : Names) → ent 𝓤 (sep 𝓤 (𝓛.A.lft (ν ∷ []) full_share) (sem 𝓛 (Lent b o (ν ∷ []) g h))) ((Take 𝓛 at_mem run).pre (to_take m ν g))
  goes_take m fits ν g =
      qed 𝓛 (‵ (flft (ν ∷ []) full_share) ∷ ‵ (Lent b o (ν ∷ []) g h) ∷ []) ∵ nothing ! $ move ! (1 ∷ 0 ∷ []) $ join ! $ nothing ! $ owned ! u32 (Is u32) (uint_Makes 𝓛 w32) m _ (refl, fits) $ fjoin ! $
      move ! (2 ∷ []) $ fsplit3 ! $
      -- [used; tags; the counter; what tag owns; the token]
      move ! (2 ∷ 3 ∷ []) $ fjoin ! $ move ! (2 ∷ 0 ∷ []) $ fjoin ! $ move ! (1 ∷ 0 ∷ []) $ fjoin ! $ move ! (1 ∷ 0 ∷ []) $ join ! $ frame ! $ done !

  -- the last values of what was lent, and the table that they make
  abbrev Last : Type 0
  Last = List ℕ × (List ℕ × (ℕ × (Unit {0} × Unit {0})))

  abbrev after : Last → FsIndexes
  after zs = table_of zs.0 zs.1.0 zs.1.1.0

  -- `take` leaves, of each reference, what is said of its name and the borrow. The borrow is let go
  lets_go : (m ν : ℕ) (g : Names) (zs : Last) → ent 𝓤 (sem 𝓛 (lasts take.ended (ν ∷ [], tt) (to_take m ν g).0.3 zs)) (sem 𝓛 (Said g (after zs) (fsep ftrue ftrue)))
  lets_go m ν g zs =
      qed 𝓛 (‵ (lasts take.ended (ν ∷ [], tt) (to_take m ν g).0.3 zs) ∷ []) ∵ fsplit ! $ fsplit ! $ move ! (1 ∷ []) $ drop ! $ move ! (1 ∷ []) $ fsplit ! $ fsplit ! $ move ! (1 ∷ []) $ drop ! $
      move ! (1 ∷ []) $ fsplit ! $ fsplit ! $ move ! (1 ∷ []) $ drop ! $
      -- [said of the counter; true; said of tags; said of used]
      fjoin ! $ move ! (1 ∷ []) $ fjoin ! $ move ! (1 ∷ []) $ fjoin ! $ done !

  module _ (tag : Operand) (sent : ℕ → ℕ) (sends : Sends 𝓛 tag sent) (fits : (n : ℕ) → n < 2 ^ 32 → sent n < 2 ^ 32) (same : Same sent)
      (C : Calls 𝓤 H) (Λ : Loops 𝓤 H) (fm : FmC 𝓤 H 𝓛.laws C) (known : Triple 𝓤 (C #index·take) (Take 𝓛 at_mem run)) where
    abbrev told : ℕ → Names → (Take 𝓛 at_mem run).Ghost
    told = to_take (sent n)

    walk : ent 𝓤 (on_entry 𝓛 allocate-in.signature (κ, tt) (q, tt) x at) (WpFn 𝓤 H C Λ (function tag) (vptr b o ∷ vint w32 n ∷ []) Post)
    walk =
        qed 𝓛 ((‵ (flft κ q) ⊛ ‵ ftrue) ∷ ‵ (owns (MutRef (named 0) κ T.the_row ∷ u32 ∷ []) x at) ∷ []) ∵ split ! $ move ! (2 ∷ []) $ fsplit ! $ move ! (1 ∷ []) $ fsplit ! $
        peeks ! u32 (Is u32) (shows 𝓛 u32) n (vint w32 n ∷ []) (λ gn. move ! (2 ∷ []) $ fsplit3 ! $ drop ! $ move ! (0 ∷ 1 ∷ 4 ∷ []) $
        -- [obs; the borrow; the token; what tag owns; true; true]
        enter ! C Λ (function tag) (vptr b o ∷ vint w32 n ∷ []) _ $
        alloc1 ! (λ l₀. alloc1 ! (λ l₁. alloc1 ! (λ l₂. alloc1 ! (λ l₃. alloc1 ! (λ l₄. alloc1 ! (λ l₅. alloc0 ! $ params1 ! $ pass1 ! (init ! 8 refl (tt, tt)) $ pass1 ! (init ! 6 refl (tt, record { fits = gn.1 })) $ pass0 ! $
        move ! (12 ∷ 13 ∷ 14 ∷ []) $
        -- [obs; the borrow; the token; room for _5; …; room for _4; …; room for _3; …; _2; …; _1; …; room for _0; …]
        assigns ! (addr ! (from ! (hop ! (look ! 11 refl) (fld ! refl (stop !))))) (from ! (stop !)) (init ! 7 refl (tt, tt)) $
        assigns ! (addr ! (from ! (hop ! (look ! 11 refl) (fld ! refl (stop !))))) (from ! (stop !)) (init ! 5 refl (tt, tt)) $
        assigns ! (addr ! (from ! (hop ! (look ! 11 refl) (fld ! refl (stop !))))) (from ! (stop !)) (init ! 3 refl (tt, tt)) $
        open_ref ! tt (mem T.the_row) {x = h} {b = b} {o = o} $ lft_new ! tt (λ ν. move ! (1 ∷ []) $
        use1 𝓛 (later (some (λ (g : Names). ‵ (Lent b o (ν ∷ []) g h) ⊛ raw (Kept 𝓛 b o (ν ∷ []) g)))) (lends 𝓛 b o (ν ∷ []) h) $ await ! tt $ pick ! (λ g. split ! $
        move ! (2 ∷ 0 ∷ []) $ use2 𝓛 (raw ((Take 𝓛 at_mem run).pre (told ν g))) (goes_take (sent n) (fits n gn.1) ν g) $
        -- [what `take` asks; what the lender keeps; the open borrow; obs; auth; _5; …; _4; …; _3; …; _2; …; _1; …; room for _0; …]
        calls_at ! fm (Take 𝓛 at_mem run) known (told ν g)
        (and_then ! (load ! (from ! (stop !)) (look ! 9 refl)) (and_then ! (load ! (from ! (stop !)) (look ! 7 refl)) (and_then ! (load ! (from ! (stop !)) (look ! 5 refl)) (and_then ! (sends _ _ _ _ n ! (from ! (stop !)) (look ! 11 refl)) (no_more !))))) (λ v.
        use1 𝓛 (later (some (λ (r : AllocateAnswer). ((‵ (flft (ν ∷ []) full_share) ⊛ ‵ ftrue) ⊛ ‵ ((R.the_row).own_val r (v ∷ []))) ⊛ raw (ensured 𝓛 take.ended (take.clauses 𝓛 at_mem run) (ν ∷ [], tt) (told ν g).0.3 tt r)))) (id⊢ 𝓤 _) $ await ! tt $ pick ! (λ r.
        split ! $ move ! (1 ∷ []) $ use1 𝓛 (some (λ (zs : Last). ‵ (lasts take.ended (ν ∷ [], tt) (told ν g).0.3 zs) ⊛ raw (fact 𝓤 (Steps h (sent n) r (after zs))))) (id⊢ 𝓤 _) $ pick ! (λ zs.
        split ! $ move ! (1 ∷ []) $ heard ! (Steps h (sent n) r (after zs)) (λ e. move ! (1 ∷ []) $ split ! $ move ! (1 ∷ []) $ peeks ! R.the_row (Is R.the_row) (shows 𝓛 R.the_row) r (v ∷ []) (λ isv.
        -- [what the answer owns; the call's token; the last values; what the lender keeps; the open borrow; obs; auth; _5; …; _4; …; _3; …; _2; …; _1; …; room for _0; …]
        land ! (from ! (stop !)) (init ! 17 refl ((LL.lawful R.the_type R'.the_laws 𝓛).typed r _ isv).0) $
        move ! (1 ∷ []) $ split ! $ lft_end ! tt $ move ! (3 ∷ []) $ use1 𝓛 (‵ (Said g (after zs) (fsep ftrue ftrue))) (lets_go (sent n) ν g zs) $ move ! (1 ∷ 4 ∷ 0 ∷ []) $
        use3 𝓛 (later (‵ ((mem T.the_row).own_at (after zs) b o))) (comes_back 𝓛 b o (ν ∷ []) g (after zs) (fsep ftrue ftrue)) $ await ! tt $
        move ! (0 ∷ 3 ∷ 4 ∷ 5 ∷ []) $ close_ref ! tt (mem T.the_row) (after zs) {b = b} {o = o} $
        -- [obs; the borrow; the token; true; what the answer owns; _5; …; _4; …; _3; …; _2; …; _1; …; _0; …]
        returns ! (look ! 15 refl) $ forget ! 5 refl $ forget ! 7 refl $ forget ! 9 refl $ forget ! 11 refl $ forget ! 13 refl $ forget ! 15 refl $
        move ! (15 ∷ 16 ∷ []) $ free1 ! $ move ! (13 ∷ 14 ∷ []) $ free1 ! $ move ! (11 ∷ 12 ∷ []) $ free1 ! $ move ! (9 ∷ 10 ∷ []) $ free1 ! $ move ! (7 ∷ 8 ∷ []) $ free1 ! $ move ! (5 ∷ 6 ∷ []) $ free1 ! $ free0 ! $
        keep ! (0 ∷ 1 ∷ 2 ∷ 4 ∷ []) $ by ! (exits r v (after zs) (same h n r (after zs) e) gn.1)))))))))))))))

module _ {M : Type 1} {𝓤 : Ura M} (𝓛 : Logic 𝓤) (at_mem : Memory → SProp 𝓤) (run : Routine → Fun 𝓤)
    (tag : Operand) (sent : ℕ → ℕ) (sends : Sends 𝓛 tag sent) (fits : (n : ℕ) → n < 2 ^ 32 → sent n < 2 ^ 32) (same : Same sent) where
  open 𝓛 use {H}

  allocate_in_walks : (C : Calls 𝓤 H) (Λ : Loops 𝓤 H) → FmC 𝓤 H 𝓛.laws C → Triple 𝓤 (C #index·take) (Take 𝓛 at_mem run) → Walks 𝓛 allocate-in.ended stayed (WpFn 𝓤 H C Λ (function tag)) (allocate-in.clauses 𝓛 at_mem run)
  allocate_in_walks C Λ fm known = walked 𝓛 allocate-in.ended stayed (allocate-in.clauses 𝓛 at_mem run) (WpFn 𝓤 H C Λ (function tag)) (λ κs. (mut_vals, (uint_vals w32, tt))) (λ κs. (mut_Tells (named 0) κs.0 T.the_row, (uint_Tells w32, tt)))
      (λ κs qs bounds a _ _. via 𝓤 _ (fst∗ 𝓤 _ (emp 𝓤)) (walk 𝓛 at_mem run κs.0 qs.0 a.0.ref_ptr.0 a.0.ref_ptr.1 a.0.ghost_name a.0.now a.1.0 tag sent sends fits same C Λ fm known))

  goes : AllGo 𝓛 1 (allocate-in.signature).params (allocate-in.ended).kept stayed
  goes = (Goes-ref 𝓛 1 0 tt (plain (λ _. T.the_row)), (Goes-none 𝓛 1 (λ _. u32) yes (λ κs x f. refl), tt))

  pub allocate_in_meets : (𝓣 : Tables 𝓤 H) → Triple 𝓤 (𝓣.C #index·take) (Take 𝓛 at_mem run)
      → Meets 𝓛 allocate-in.signature (WpFn 𝓤 H 𝓣.C 𝓣.Λ (function tag)) (allocate-in.spec 𝓛 at_mem run)
  allocate_in_meets 𝓣 known =
      walk_Meets 𝓛 allocate-in.ended stayed goes (allocate-in.clauses 𝓛 at_mem run) (WpFn 𝓤 H 𝓣.C 𝓣.Λ (function tag)) (WpFn-mono 𝓤 H 𝓛.laws 𝓣 (function tag))
      (allocate_in_walks 𝓣.C 𝓣.Λ (fm_of 𝓤 H 𝓛.laws 𝓣) known)
