-- A line that is answered, by the form that was read of it. Assumes nothing.
use Prim.Native.Nat.{ℕ}
use mathlib.Core.Path.{◌≡◌, refl, sym, subst, ap, ◌∙◌}
use mathlib.Core.Bool.{Bool, true, false, cond}
use mathlib.Core.List.{List}
use Rattle.std.specs.Prelude.{Option, None, Some}
use lib.Dec.{lit≤}
use Rattle.rules.specs.Bytes.{ascii}
use Rattle.rules.specs.Instance.{Instance}
use Rattle.rules.specs.Outcome.{Answer, nothing, mounted, restored_mount, unmounted, walked, rootfs, to_tree, to_backend, entry, ids, wrote, settings, truth, Outcome}
use Rattle.rules.specs.Lookup.{route_rule}
use Rattle.rules.specs.Calls.{rule}
use Rattle.rules.specs.Session.{Line, walk, look, routed, line_reply, answers}
use Rattle.rules.proofs.Still.{walk_still, route_still, lookup_still}
use Rattle.tables.specs.View.{view}
use Rattle.tables.specs.Laid.{laid}
use Rattle.decimal.specs.declared.inner.Text.{Text}
use Rattle.decimal.specs.Text.{Appended}
use Rattle.decimal.proofs.Texts.{appended_as}
use Rattle.session_line.proofs.Forms.{either}
use Rattle.session_calls.specs.Answered.{small_text, line_text, line_mem, Answered}

-- ---- lines that change nothing

pub question_text : (mem : List ℕ) → line_text mem None ≡ ascii "?"
unfolding line_text answers small_text
question_text mem = either (laid mem) (ascii "?")

walk_instance : (i : Instance) (p : List ℕ) → (answers i (Some (walk p))).instance ≡ i
unfolding answers line_reply rule
walk_instance i p = (walk_still i p).after

routed_instance : (i : Instance) (p : List ℕ) (o : Outcome) → o.after ≡ i → (a : Answer) → (routed i p o a).instance ≡ i
unfolding routed rule
routed_instance i p o e nothing = e
routed_instance i p o e (mounted k t) = e
routed_instance i p o e (restored_mount a b) = e
routed_instance i p o e (unmounted x q t) = e
routed_instance i p o e (walked x) = e
routed_instance i p o e (rootfs r) = e
routed_instance i p o e (to_tree x) = (lookup_still i x p).after
routed_instance i p o e (to_backend t k x) = refl
routed_instance i p o e (entry x mode uid gid size) = e
routed_instance i p o e (ids u g) = e
routed_instance i p o e (wrote n) = e
routed_instance i p o e (settings s) = e
routed_instance i p o e (truth b) = e

look_instance : (i : Instance) (x : ℕ) (p : List ℕ) → (answers i (Some (look x p))).instance ≡ i
unfolding answers line_reply rule
look_instance i x p = routed_instance i p (route_rule i x) (route_still i x).after (route_rule i x).answer

-- ---- the answers by the form

-- the same line by another name
pub by_line : {mem after : List ℕ} {was now : Text} {k l : Option Line} → k ≡ l → Answered mem k was now after → Answered mem l was now after
by_line {mem} {after} {was} {now} e a = subst (λ (x : Option Line). Answered mem x was now after) e a

module _ (mem : List ℕ) (was now : Text) where
  -- a line that leaves the bytes and the instance
  still : (l : Option Line) → line_mem l mem ≡ mem → (answers (view mem) l).instance ≡ view mem → Appended was 45 (line_text mem l) now → Answered mem l was now mem
  still l b e w = record { text = w; bytes = sym b; stands = λ (h : laid mem ≡ true). sym e; keeps = λ (h : laid mem ≡ true). h }

  pub walks : (p : List ℕ) → Appended was 45 (line_text mem (Some (walk p))) now → Answered mem (Some (walk p)) was now mem
  unfolding line_mem
  walks p w = still (Some (walk p)) refl (walk_instance (view mem) p) w

  pub looks : (x : ℕ) (p : List ℕ) → Appended was 45 (line_text mem (Some (look x p))) now → Answered mem (Some (look x p)) was now mem
  unfolding line_mem
  looks x p w = still (Some (look x p)) refl (look_instance (view mem) x p) w

  pub no_form : Appended was 1 (ascii "?") now → Answered mem None was now mem
  unfolding line_mem answers
  no_form w = still None refl refl (appended_as (lit≤ tt) (sym (question_text mem)) w)
