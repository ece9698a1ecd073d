-- What each form of a line answers and leaves, by the call's contract. Assumes nothing.
use Prim.Native.Nat.{ℕ}
use native.Mathlib.Omega.{arith}
use mathlib.Core.Path.{◌≡◌, refl, sym, ap, ◌∙◌}
use mathlib.Core.Bool.{Bool, true, false, cond}
use mathlib.Core.List.{List, [], ◌∷◌}
use Rattle.std.specs.Prelude.{Option, Some, Result, Ok, Err}
use lib.Dec.{lit≤}
use Rattle.rules.specs.Numbers.{SMALL}
use Rattle.rules.specs.Codes.{code_of}
use Rattle.rules.specs.declared.codes.VfsError.{VfsError}
use Rattle.rules.specs.Instance.{Instance}
use Rattle.rules.specs.Outcome.{Answer, to_tree, to_backend, Outcome}
use Rattle.rules.specs.Mount.{mount_rule}
use Rattle.rules.specs.Reached.{walk_rule}
use Rattle.rules.specs.Unmount.{unmount_rule}
use Rattle.rules.specs.Lookup.{route_rule, lookup_rule}
use Rattle.rules.specs.Calls.{rule}
use Rattle.rules.specs.Session.{mount, umount, walk, look, text_of, values, shown, line_request, routed, line_reply, answers}
use Rattle.tables.specs.View.{view}
use Rattle.tables.specs.Laid.{laid}
use Rattle.call_form.specs.Form.{Told, tells, refuses, answered_by, Does}
use Rattle.storage.proofs.Laid.{told_small_lem, told_by_lem}
use Rattle.pseudo_fs.specs.Told.{path_walk_told}
use Rattle.inode.specs.declared.NodeNumber.{NodeNumber}
use Rattle.inode.specs.declared.BackendNumber.{BackendNumber}
use Rattle.mount_parts.specs.Mounting.{mount_mem, mounted_told}
use Rattle.vfs.specs.Unmounting.{unmount_mem, unmounted_told}
use Rattle.mount_parts.specs.declared.mounting.Mounted.{Mounted}
use Rattle.mount_parts.specs.declared.mounting.MountRefused.{MountRefused}
use Rattle.vfs.specs.declared.unmounting.Unmounted.{Unmounted}
use Rattle.vfs_query.specs.Told.{routed_told, looked_told}
use Rattle.pseudo_fs.specs.declared.Entry.{Entry}
use Rattle.vfs_query.specs.declared.Routed.{Routed}
use Rattle.vfs_query.specs.declared.Routed.TheVariants.{Tree, Backend as RoutedBackend}
use Rattle.decimal.specs.declared.inner.Text.{Text}
use Rattle.decimal.specs.Text.{Appended}
use Rattle.decimal.proofs.Texts.{appended_as}
use Rattle.session_calls.specs.Answered.{small_text, line_text, line_mem, Answered}
use Rattle.session_text.specs.Texts.{values_text, count_text, backend_text}

-- a text of what is told, by whether the layout rule is kept
by_laid : (f : Told → List ℕ) (t : Bool) (a b : Told) (x y : List ℕ) → f a ≡ x → f b ≡ y → f (cond t a b) ≡ cond t x y
by_laid f true a b x y p q = p
by_laid f false a b x y p q = q

module _ (mem path : List ℕ) where
  mount_text : (tag root largest : ℕ) → count_text (answered_by mem (λ (i : Instance). mount_rule i (line_request path tag root largest))) ≡ line_text mem (Some (mount path tag root largest))
  unfolding count_text values shown answered_by line_text answers line_reply rule small_text
  mount_text tag root largest = by_laid count_text (laid mem) _ _ _ _ refl refl

  umount_text : values_text 2 (answered_by mem (λ (i : Instance). unmount_rule i path)) ≡ line_text mem (Some (umount path))
  unfolding values_text values shown answered_by line_text answers line_reply rule small_text
  umount_text = by_laid (values_text 2) (laid mem) _ _ _ _ refl refl

  walk_text : values_text 1 (answered_by mem (λ (i : Instance). walk_rule i path)) ≡ line_text mem (Some (walk path))
  unfolding values_text values shown answered_by line_text answers line_reply rule small_text
  walk_text = by_laid (values_text 1) (laid mem) _ _ _ _ refl refl

-- ---- mount, umount, walk

module _ (mem path after : List ℕ) (was now : Text) where
  pub mount_answered : (tag root largest : ℕ) (a : Result Mounted MountRefused)
      → Does mem (λ (i : Instance). mount_rule i (line_request path tag root largest)) (mounted_told a) after (mount_mem (line_request path tag root largest) mem)
      → Appended was 45 (count_text (mounted_told a)) now → Answered mem (Some (mount path tag root largest)) was now after
  unfolding line_mem answers line_reply rule
  mount_answered tag root largest a d w = record {
    text = appended_as (omega arith) (ap count_text d.answer ∙ mount_text mem path tag root largest) w;
    bytes = d.bytes;
    stands = d.stands;
    keeps = d.keeps;
  }

  pub umount_answered : (a : Result Unmounted VfsError) → Does mem (λ (i : Instance). unmount_rule i path) (unmounted_told a) after (unmount_mem path mem)
      → Appended was 45 (values_text 2 (unmounted_told a)) now → Answered mem (Some (umount path)) was now after
  unfolding line_mem answers line_reply rule
  umount_answered a d w = record {
    text = appended_as (omega arith) (ap (values_text 2) d.answer ∙ umount_text mem path) w;
    bytes = d.bytes;
    stands = d.stands;
    keeps = d.keeps;
  }

pub walk_wrote : (mem path : List ℕ) (was now : Text) (a : Result (Option NodeNumber) VfsError) → path_walk_told a ≡ answered_by mem (λ (i : Instance). walk_rule i path)
    → Appended was 24 (values_text 1 (path_walk_told a)) now → Appended was 45 (line_text mem (Some (walk path))) now
walk_wrote mem path was now a e w = appended_as (lit≤ tt) (ap (values_text 1) e ∙ walk_text mem path) w

-- ---- look

module _ (mem : List ℕ) (x : ℕ) (p : List ℕ) where
  abbrev routing : Instance → Outcome
  routing i = route_rule i x

  abbrev route_told : Told
  route_told = answered_by mem routing

  abbrev goes : Answer → Outcome → List ℕ
  goes a o = (routed (view mem) p o a).text

  laid_text : laid mem ≡ true → line_text mem (Some (look x p)) ≡ goes (route_rule (view mem) x).answer (route_rule (view mem) x)
  unfolding line_text answers line_reply rule
  laid_text h = rw h

  unlaid_text : laid mem ≡ false → line_text mem (Some (look x p)) ≡ text_of (SMALL ∷ 0 ∷ [])
  unfolding line_text small_text
  unlaid_text h = rw h

  tree_text : (y : ℕ) (t : Bool) → laid mem ≡ t → tells (to_tree y) ≡ route_told → values_text 1 (answered_by mem (λ (i : Instance). lookup_rule i y p)) ≡ line_text mem (Some (look x p))
  unfolding values_text answered_by routed rule
  tree_text y true h e = sym (laid_text h ∙ ap (λ (a : Answer). goes a (route_rule (view mem) x)) (sym (ap (λ (u : Told). u.answer) (e ∙ told_by_lem mem routing h))) ∙ rw h)
  tree_text y false h e = absurd (let z : 0 ≡ 12 = ap (λ (u : Told). u.code) (e ∙ told_small_lem mem routing h) in let b : ⊥ = omega arith in b)

  backend_text_lem : (tag k y : ℕ) (t : Bool) → laid mem ≡ t → tells (to_backend tag k y) ≡ route_told → backend_text tag y ≡ line_text mem (Some (look x p))
  unfolding backend_text routed
  backend_text_lem tag k y true h e = sym (laid_text h ∙ ap (λ (a : Answer). goes a (route_rule (view mem) x)) (sym (ap (λ (u : Told). u.answer) (e ∙ told_by_lem mem routing h))))
  backend_text_lem tag k y false h e = absurd (let z : 0 ≡ 12 = ap (λ (u : Told). u.code) (e ∙ told_small_lem mem routing h) in let b : ⊥ = omega arith in b)

  refused_text : (code : ℕ) (t : Bool) → laid mem ≡ t → refuses code ≡ route_told → text_of (code ∷ 0 ∷ []) ≡ line_text mem (Some (look x p))
  unfolding values_text values shown routed
  refused_text code true h e =
      let f = e ∙ told_by_lem mem routing h in
      ap (values_text 1) f ∙ sym (laid_text h ∙ ap (λ (a : Answer). goes a (route_rule (view mem) x)) (sym (ap (λ (u : Told). u.answer) f)))
  refused_text code false h e =
      let f : code ≡ 12 = ap (λ (u : Told). u.code) (e ∙ told_small_lem mem routing h) in
      ap (λ (k : ℕ). text_of (k ∷ 0 ∷ [])) f ∙ sym (unlaid_text h)

  module _ (was now : Text) (q : Result Routed VfsError) (e : routed_told q ≡ route_told) where
    pub look_tree : (y : NodeNumber) (a : Result Entry VfsError) → q ≡ Ok (Tree y) → looked_told a ≡ answered_by mem (λ (i : Instance). lookup_rule i y.0 p)
        → Appended was 24 (values_text 1 (looked_told a)) now → Appended was 45 (line_text mem (Some (look x p))) now
    look_tree y a f l w = appended_as (lit≤ tt) (ap (values_text 1) l ∙ tree_text y.0 _ refl (sym (ap routed_told f) ∙ e)) w

    pub look_backend : (tag k : ℕ) (y : BackendNumber) → q ≡ Ok (RoutedBackend tag k y) → Appended was 43 (backend_text tag y.0) now → Appended was 45 (line_text mem (Some (look x p))) now
    look_backend tag k y f w = appended_as (lit≤ tt) (backend_text_lem tag k y.0 _ refl (sym (ap routed_told f) ∙ e)) w

    pub look_refused : (r : VfsError) → q ≡ Err r → Appended was 24 (text_of (code_of r ∷ 0 ∷ [])) now → Appended was 45 (line_text mem (Some (look x p))) now
    look_refused r f w = appended_as (lit≤ tt) (refused_text (code_of r) _ refl (sym (ap routed_told f) ∙ e)) w
