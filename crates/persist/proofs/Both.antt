-- Save and restore on bytes: the theorems of the rules, by the contracts. Assumes nothing.
use mathlib.Core.Path.{◌≡◌, refl, sym, ap, ◌∙◌, subst}
use mathlib.Core.Bool.{Bool, true, false, cond}
use mathlib.Core.List.{List, ◌++◌}
use Rattle.std.specs.Prelude.{Result, Ok, Err}
use Prim.Native.Nat.{ℕ, ◌≤◌}
use lib.ListN.{length, take, drop}
use lib.Seq.{take-append_seam}
use native.Mathlib.Omega.{arith}
use lib.Dec.{eqb}
use borrow.Author.Tests.{eqb-true}
use Rattle.rules.specs.Numbers.{DONE, SMALL}
use Rattle.rules.specs.declared.codes.VfsError.{VfsError}
use Rattle.rules.specs.Bytes.{Bytes}
use Rattle.rules.specs.Instance.{Instance}
use Rattle.rules.specs.Saved.{state_of, encode}
use Rattle.rules.specs.StateRestore.{saved_state, restore_state_rule}
use Rattle.rules.proofs.SaveThenRestore.{save_then_restore, restore_then_save}
use Rattle.tables.specs.View.{view}
use Rattle.tables.specs.Laid.{laid}
use Rattle.call_form.specs.Form.{Told}
use Rattle.call_form.proofs.Apart.{refused_some}
use Rattle.storage.proofs.Laid.{told_small_lem, told_by_lem}
use Rattle.saved_restore.specs.Parts.{state_mem}
use Rattle.persist.specs.StateRestoring.{state_restored_told, restore_state_mem, restoring_state, RestoresState}
use Rattle.persist.specs.Saving.{Saves}
use Rattle.persist.specs.Both.{ComesBack, SavedAgain, RefusedUnchanged}
use Rattle.persist.proofs.SaveWays.{saves_once, saves_all, done_holds}

-- ---- the number tells which answer is done

code_done : (r : Result (Unit {0}) VfsError) → (state_restored_told r).code ≡ DONE → r ≡ Ok tt
code_done (Ok u) e = refl
code_done (Err x) e = absurd (refused_some x e)

module _ (mem b : List ℕ) (r : Result (Unit {0}) VfsError) (after : List ℕ) (w : RestoresState mem b r after) where
  code_by : laid mem ≡ true → (state_restored_told r).code ≡ (restore_state_rule (view mem) b).code
  code_by l = ap (λ (t : Told). t.code) (w.answer ∙ told_by_lem mem (restoring_state b) l)

  -- bytes against the layout rule are never done
  done_laid : r ≡ Ok tt → laid mem ≡ true
  done_laid e = go (laid mem) refl
    where
      go : (l : Bool) → laid mem ≡ l → laid mem ≡ true
      go true p = p
      go false p =
          let z : (state_restored_told (Ok tt)).code ≡ SMALL = ap (λ (x : Result (Unit {0}) VfsError). (state_restored_told x).code) (sym e) ∙ ap (λ (t : Told). t.code) (w.answer ∙ told_small_lem mem (restoring_state b) p) in
          absurd (omega arith)

  kept : (r ≡ Ok tt → ⊥) → after ≡ mem
  unfolding restore_state_mem
  kept h = w.bytes ∙ go (laid mem) refl (eqb (restore_state_rule (view mem) b).code DONE) refl
    where
      go : (l : Bool) → laid mem ≡ l → (c : Bool) → eqb (restore_state_rule (view mem) b).code DONE ≡ c → cond l (cond c (state_mem (state_of b) mem) mem) mem ≡ mem
      go true p true q = absurd (h (code_done r (code_by p ∙ eqb-true (restore_state_rule (view mem) b).code DONE q)))
      go true p false q = refl
      go false p true q = refl
      go false p false q = refl

-- ---- what a save wrote

written : (mem d : List ℕ) (n : ℕ) (e : List ℕ) → Saves mem d (Ok n) e → take n e ≡ encode (saved_state (view mem))
written mem d n e w =
    let h = done_holds mem d n e w in
    (λ i. take (h.count i) (h.bytes i)) ∙ take-append_seam (encode (saved_state (view mem))) (drop n d)

-- the theorem: what was saved comes back
pub comes_back : ComesBack
comes_back mem d n e new r after s dr p l fr mask room w =
    let g = save_then_restore (view mem) (view new) dr p fr mask room in
    let v : RestoresState new (encode (saved_state (view mem))) r after = subst (λ (b : List ℕ). RestoresState new b r after) (written mem d n e s) w in
    let a = v.stands l in
    record {
      done = code_done r (code_by new (encode (saved_state (view mem))) r after v l ∙ g.done);
      keeps = v.keeps l;
      tree = ap (λ (i : Instance). i.tree) a ∙ g.tree;
      counter = ap (λ (i : Instance). i.indexes.counter) a ∙ g.counter;
      options = ap (λ (i : Instance). i.options) a ∙ g.options;
    }

again : (mem b after : List ℕ) → Bytes b → RestoresState mem b (Ok tt) after → encode (saved_state (view after)) ≡ b
again mem b after h w =
    let l = done_laid mem b (Ok tt) after w refl in
    ap (λ (i : Instance). encode (saved_state i)) (w.stands l) ∙ restore_then_save (view mem) b h (sym (code_by mem b (Ok tt) after w l))

-- the theorem: no other bytes are accepted for it
pub saved_again : SavedAgain
saved_again mem b after h w d r e room s =
    let q = again mem b after h w in
    let l : laid after ≡ true = w.keeps (done_laid mem b (Ok tt) after w refl) in
    let fit : length (encode (saved_state (view after))) ≤ length d = omega (arith, ap length q) in
    let o = saves_once after d _ _ _ _ s (saves_all after d l fit) in
    let k : r ≡ Ok (length b) = o.0 ∙ ap (λ (x : List ℕ). Ok (length x)) q in
    let z = done_holds after d (length b) e (subst (λ (x : Result ℕ VfsError). Saves after d x e) k s) in
    (k, z.bytes ∙ ap (λ (x : List ℕ). x ++ drop (length b) d) q)

-- the theorem: a refusal leaves every byte
pub unchanged : RefusedUnchanged
unchanged mem b r after w h = kept mem b r after w h
