-- The first fault of a path, what a walk answers and says, and the pseudo entry, which is the rules'. Assumes nothing.
use mathlib.Core.Path.{◌≡◌, refl, sym, ap, ◌∙◌, subst}
use mathlib.Core.Bool.{Bool, true, false, cond, not, ◌||◌}
use mathlib.Core.List.{List}
use mathlib.Core.Logic.{inl, inr, ◌⊎◌}
use Rattle.std.specs.Prelude.{Option, None, Some, is_some, option_map, Result, Ok, Err}
use Prim.Native.Nat.{ℕ, ◌^◌, ◌<◌}
use native.Mathlib.Omega.{arith}
use borrow.Author.Tests.{le-ltb}
use Rattle.rules.specs.Numbers.{max_ino, or_zero, convert, dir_mode, block_size, INVAL}
use Rattle.rules.specs.Codes.{code_of}
use Rattle.rules.specs.declared.codes.VfsError.{VfsError}
use Rattle.rules.specs.declared.codes.VfsError.TheVariants.{Inval, Small}
use Rattle.rules.specs.Utf8.{well_formed}
use Rattle.rules.specs.Path.{rooted}
use Rattle.rules.specs.Ids.{Mapping, bad_mapping, wrapped}
use Rattle.rules.specs.Instance.{Instance}
use Rattle.rules.specs.Outcome.{Outcome, walked, refused, says, first_of}
use Rattle.rules.specs.Reached.{bad_path, reached, walk_rule}
use Rattle.rules.specs.Lookup.{entry_of}
use Rattle.rules.proofs.Ids.{wrapped_is_whole}
use Rattle.tables.specs.Layout.{mapping_field}
use Rattle.tables.specs.View.{mapping_from, head_of, view}
use Rattle.tables.specs.Laid.{laid}
use Rattle.call_form.specs.Form.{told_by, refuses, told_small, answered_by}
use Rattle.call_form.proofs.Apart.{told_apart}
use Rattle.tables.proofs.Keeps.{laid_ruled}
use Rattle.storage.proofs.Laid.{told_by_lem, told_small_lem}
use Rattle.inode.specs.declared.NodeNumber.{NodeNumber}
use Rattle.inode.specs.declared.VfsInode.{VfsInode}
use Rattle.pseudo_fs.specs.declared.PathFault.TheVariants.{Utf8, Slash}
use Rattle.pseudo_fs.specs.Told.{fault_of, path_walk_told, entry_answer, pseudo_answer}

-- ---- the first fault of a path

-- a path is bad exactly where it has a fault
pub fault_bad : (path : List ℕ) → is_some (fault_of path) ≡ bad_path path
unfolding bad_path fault_of first_of
fault_bad path = go (well_formed path) (rooted path)
  where
    go : (w r : Bool) → is_some (cond (not w) (Some Utf8) (cond (not r) (Some Slash) None)) ≡ (not w || not r)
    go true true = refl
    go true false = refl
    go false r = refl

-- ---- the walk by the bytes and the path

-- a node by its number
abbrev pub node_of : ℕ → NodeNumber
node_of x = record { 0 = x }

-- the number of a node
abbrev pub number_in : NodeNumber → ℕ
number_in n = n.0

-- what it answers
abbrev pub walk_of : List ℕ → List ℕ → Result (Option NodeNumber) VfsError
walk_of mem path = cond (laid mem) (cond (bad_path path) (Err Inval) (Ok (option_map node_of (reached (view mem) path)))) (Err Small)

-- the bytes keep the layout rule, and the path is sound and leads there
abbrev pub PathLeads : List ℕ → List ℕ → Option ℕ → Type 0
PathLeads mem path o = (laid mem ≡ true) × (bad_path path ≡ false) × (reached (view mem) path ≡ o)

-- what each answer says of the bytes and the path
abbrev pub Walked : List ℕ → List ℕ → Result (Option NodeNumber) VfsError → Type 0
Walked mem path (Ok x) = PathLeads mem path (option_map number_in x)
Walked mem path (Err e) = ((laid mem ≡ false) × (e ≡ Small)) ⊎ ((laid mem ≡ true) × (bad_path path ≡ true) × (e ≡ Inval))

module _ (mem path : List ℕ) where
  abbrev Walk : Instance → Outcome
  Walk i = walk_rule i path

  -- it tells what the rule answers
  pub walk_tells : path_walk_told (walk_of mem path) ≡ answered_by mem Walk
  unfolding answered_by walk_rule first_of
  walk_tells = go (laid mem) (bad_path path) (reached (view mem) path)
    where
      go : (l b : Bool) (o : Option ℕ)
          → path_walk_told (cond l (cond b (Err Inval) (Ok (option_map node_of o))) (Err Small)) ≡ cond l (told_by (cond b (refused INVAL (view mem)) (says (walked o) (view mem)))) told_small
      go true true o = refl
      go true false None = refl
      go true false (Some x) = refl
      go false b o = refl

  same_nodes : (x y : Option NodeNumber) → walked (option_map number_in x) ≡ walked (option_map number_in y) → x ≡ y
  same_nodes None None e = refl
  same_nodes None (Some y) e = cc
  same_nodes (Some x) None e = cc
  same_nodes (Some x) (Some y) e = let q : x.0 ≡ y.0 = cc in λ i. Some (node_of (q i))

  -- and nothing else does
  pub walk_is : (r : Result (Option NodeNumber) VfsError) → path_walk_told r ≡ answered_by mem Walk → r ≡ walk_of mem path
  walk_is r e = told_apart (λ (x : Option NodeNumber). walked (option_map number_in x)) same_nodes r (walk_of mem path) (e ∙ sym walk_tells)

  pub walk_says : (r q : Result (Option NodeNumber) VfsError) → path_walk_told r ≡ answered_by mem Walk → r ≡ q → Walked mem path q
  walk_says r q e f = subst (Walked mem path) (sym (walk_is r e) ∙ f) (go (laid mem) (bad_path path) refl refl (reached (view mem) path) refl)
    where
      go : (l b : Bool) → laid mem ≡ l → bad_path path ≡ b → (o : Option ℕ) → reached (view mem) path ≡ o
          → Walked mem path (cond l (cond b (Err Inval) (Ok (option_map node_of o))) (Err Small))
      go true true l b o w = inr (l, b, refl)
      go true false l b None w = (l, b, w)
      go true false l b (Some x) w = (l, b, w)
      go false b l c o w = inl (l, refl)

  -- a walk that is refused: what every call that walks along the path first tells then
  pub walk_refused : (r : Result (Option NodeNumber) VfsError) (d : VfsError) → path_walk_told r ≡ answered_by mem Walk → r ≡ Err d
      → (f : Instance → Outcome) → (bad_path path ≡ true → f (view mem) ≡ refused INVAL (view mem)) → refuses (code_of d) ≡ answered_by mem f
  walk_refused r d e q f g = go (walk_says r (Err d) e q)
    where
      go : Walked mem path (Err d) → refuses (code_of d) ≡ answered_by mem f
      go (inl s) = rw s.1 (sym (told_small_lem mem f s.0))
      go (inr b) = rw b.2 (sym (told_by_lem mem f b.0 ∙ ap told_by (g b.1)))

-- ---- the pseudo entry

-- as the code makes it
pub pseudo_made : (mem : List ℕ) (m : Mapping) (x id : ℕ) (v : VfsInode) → v.0 ≡ or_zero (convert 0 x) → m ≡ mapping_from mapping_field (head_of mem) → id ≡ wrapped m 0
    → entry_answer (record { inode = v; mode = dir_mode; uid = id; gid = id; blksize = block_size }) ≡ pseudo_answer (view mem) x
unfolding entry_answer pseudo_answer view
pseudo_made mem m x id v a b c = rw (c, b, a)

module _ (mem : List ℕ) (e : laid mem ≡ true) where
  -- the mapping in force passes its test
  pub good_mapping : bad_mapping (mapping_from mapping_field (head_of mem)) ≡ false
  good_mapping = (laid_ruled mem e).maps

  -- the theorem: of a node's number it is the rules' entry
  pub pseudo_is : (y : ℕ) → y < 2 ^ 56 → says (pseudo_answer (view mem) y) (view mem) ≡ entry_of (view mem) y None
  unfolding pseudo_answer convert entry_of view
  pseudo_is y h = rw (le-ltb max_ino y (omega arith), (wrapped_is_whole (mapping_from mapping_field (head_of mem)) 0 good_mapping (omega arith)).0)
