-- A walk ends where the components of its path lead; so does a mount walk, over the nodes that it found and those that it made. Assumes nothing.
use mathlib.Core.Path.{◌≡◌, refl, ap, ◌∙◌, subst}
use mathlib.Core.Bool.{Bool, true, false, cond, ◌&&◌}
use mathlib.Core.List.{List, [], ◌∷◌, ◌++◌, append_assoc, append-nil}
use Rattle.std.specs.Prelude.{Option, None, Some}
use Rattle.std.proofs.lemmas.Option.{same_Some, none-some}
use Prim.Native.Nat.{ℕ, zero, suc, ◌+◌, ◌≤◌}
use native.Mathlib.Nat.{add-zero}
use native.Mathlib.Omega.{arith}
use lib.ListN.{length}
use lib.Dec.{eqb}
use borrow.Author.Tests.{eqb-true, eq-eqb, ne_eqb}
use Rattle.rules.specs.Numbers.{root_number}
use Rattle.rules.specs.Bytes.{same}
use Rattle.rules.specs.Path.{Part, Normal, ParentDir, components, too_long}
use Rattle.rules.specs.Utf8.{well_formed}
use Rattle.rules.specs.Tree.{Node, Made, bare, is_child, child_in, node_in, parent_of, parent_in, onward, walk, or_make, mount_step, makes, at_root}
use Rattle.rules.specs.Instance.{Tree, Instance}
use Rattle.rules.specs.Saved.{SavedNode, used}
use Rattle.rules.specs.StateRestore.{saved_node, saved_nodes}
use Rattle.rules.specs.Mount.{planned}
use Rattle.rules.specs.Reached.{reached}
use Rattle.rules.specs.claims.Driven.{Rises, Unique, Shape, Rooted, top, under}
use Rattle.rules.specs.claims.Proper.{At}
use Rattle.rules.specs.claims.Found.{Goes, at_root_lem, up, down, Leads, end, on}
use Rattle.rules.specs.claims.Names.{EachName, GoodName}
use Rattle.rules.specs.claims.Walk.{Walking}
use Rattle.rules.proofs.Tests.{or_neither, and_both}
use Rattle.rules.proofs.Same.{same_refl, same_eq}
use Rattle.rules.proofs.Parts.{rest_names}
use Rattle.rules.proofs.Names.{components_good}
use Rattle.rules.proofs.Shape.{beside, beside_sym}
use Rattle.rules.proofs.Walk.{rooted_up, rooted_down, makes_all, step_walking}

-- ---- a step of the walk goes

goes_later : (m : Node) (ns : List Node) (x y : ℕ) (p : Part) → Goes ns x p y → Goes (m ∷ ns) x p y
unfolding At
goes_later m ns x y p (at_root_lem a) = at_root_lem a
goes_later m ns x y p (up a k n s) = up a (suc k) n s
goes_later m ns x y p (down a k n s) = down a (suc k) n s

node_goes : (ns : List Node) (at x : ℕ) (n : Node) → node_in ns x ≡ Some n → Goes ns x (ParentDir at) n.parent
unfolding node_in At
node_goes [] at x n e = absurd (none-some n e)
node_goes (m ∷ ns) at x n e = go (eqb m.number x) refl e (node_goes ns at x n)
  where
    go : (b : Bool) → eqb m.number x ≡ b → cond b (Some m) (node_in ns x) ≡ Some n → (node_in ns x ≡ Some n → Goes ns x (ParentDir at) n.parent) → Goes (m ∷ ns) x (ParentDir at) n.parent
    go true q f k = rw (← eqb-true m.number x q, ← same_Some m n f) (up at 0 m refl)
    go false q f k = goes_later m ns x n.parent (ParentDir at) (k f)

child_goes : (ns : List Node) (here at : ℕ) (p : List ℕ) (x : ℕ) → child_in ns here p ≡ Some x → Goes ns here (Normal at p) x
unfolding child_in is_child At
child_goes [] here at p x e = absurd (none-some x e)
child_goes (m ∷ ns) here at p x e = go (eqb m.parent here && same m.name p) refl e (child_goes ns here at p x)
  where
    go : (b : Bool) → (eqb m.parent here && same m.name p) ≡ b → cond b (Some m.number) (child_in ns here p) ≡ Some x
        → (child_in ns here p ≡ Some x → Goes ns here (Normal at p) x) → Goes (m ∷ ns) here (Normal at p) x
    go true q f k =
        let t = and_both (eqb m.parent here) (same m.name p) q in
        rw (← eqb-true m.parent here t.0, ← same_eq m.name p t.1, ← same_Some m.number x f) (down at 0 m refl)
    go false q f k = goes_later m ns here x (Normal at p) (k f)

parent_goes : (ns : List Node) (at x : ℕ) → Rooted ns x → Goes ns x (ParentDir at) (parent_in ns x)
unfolding parent_in
parent_goes ns at x top = at_root_lem at
parent_goes ns at x (under y n e h) = go (eqb x root_number) refl
  where
    go : (b : Bool) → eqb x root_number ≡ b → Goes ns x (ParentDir at) (cond b root_number (parent_of (node_in ns x)))
    go true q = rw (eqb-true x root_number q) (at_root_lem at)
    go false q = rw e (node_goes ns at x n e)

-- the walk leads, and from a rooted number to a rooted one
walk_leads : (ns : List Node) (high : ℕ) → Rises 2 (saved_nodes ns) high → (ps : List Part) (here x : ℕ) → Rooted ns here → walk ns here ps ≡ Some x → Leads ns here ps x × Rooted ns x
unfolding walk
walk_leads ns high r [] here x h e =
    let same = same_Some here x e in
    (subst (Leads ns here []) same (end here), subst (Rooted ns) same h)
walk_leads ns high r (ParentDir at ∷ ps) here x h e =
    let w = walk_leads ns high r ps (parent_in ns here) x (rooted_up ns here h) e in
    (on here (parent_in ns here) x (ParentDir at) ps (parent_goes ns at here h) w.0, w.1)
walk_leads ns high r (Normal at p ∷ ps) here x h e = go (child_in ns here p) refl e (λ y. walk_leads ns high r ps y x)
  where
    go : (o : Option ℕ) → child_in ns here p ≡ o → onward o (λ (y : ℕ). walk ns y ps) ≡ Some x → ((y : ℕ) → Rooted ns y → walk ns y ps ≡ Some x → Leads ns y ps x × Rooted ns x)
        → Leads ns here (Normal at p ∷ ps) x × Rooted ns x
    go None q f k = absurd (none-some x f)
    go (Some y) q f k =
        let w = k y (rooted_down ns high here p y r q h) f in
        (on here y x (Normal at p) ps (child_goes ns here at p y q) w.0, w.1)

module _ (i : Instance) (high : ℕ) (r : Rises 2 (saved_nodes i.tree.nodes) high) (path : List ℕ) (x : ℕ) (e : reached i path ≡ Some x) where
  path_both : Leads i.tree.nodes root_number (components 0 path) x × Rooted i.tree.nodes x
  unfolding reached
  path_both = walk_leads i.tree.nodes high r (components 0 path) root_number x top e

  pub path_leads : Leads i.tree.nodes root_number (components 0 path) x
  path_leads = path_both.0

  pub path_rooted : Rooted i.tree.nodes x
  path_rooted = path_both.1

-- ---- and where it goes is a step of the walk

at_node : (ns : List Node) (low high k : ℕ) (n : Node) → Rises low (saved_nodes ns) high → At ns k n → (low ≤ n.number) × (node_in ns n.number ≡ Some n)
unfolding saved_nodes Rises node_in At
at_node [] low high k n r a = absurd a
at_node (m ∷ ns) low high zero n r a = rw (← a) (r.0, rw (eq-eqb m.number m.number refl))
at_node (m ∷ ns) low high (suc k) n r a =
    let t = at_node ns (m.number + 1) high k n r.1 a in
    (omega (arith, r.0, t.0), rw (ne_eqb m.number n.number (λ q. omega (arith, t.0))) t.1)

-- a name that is not used is no node's
at_unused : (ns : List Node) (d : SavedNode) (k : ℕ) (n : Node) → used d.parent d.name (saved_nodes ns) ≡ false → At ns k n → beside (saved_node n) d ≡ false
unfolding saved_nodes used At
at_unused [] d k n u a = absurd a
at_unused (m ∷ ns) d zero n u a = rw (← a) (or_neither (beside (saved_node m) d) (used d.parent d.name (saved_nodes ns)) u).0
at_unused (m ∷ ns) d (suc k) n u a = at_unused ns d k n (or_neither (beside (saved_node m) d) (used d.parent d.name (saved_nodes ns)) u).1 a

at_child : (ns : List Node) (k : ℕ) (n : Node) → Unique (saved_nodes ns) → At ns k n → child_in ns n.parent n.name ≡ Some n.number
unfolding saved_nodes Unique child_in is_child At
at_child [] k n u a = absurd a
at_child (m ∷ ns) zero n u a = rw (← a) (rw (eq-eqb m.parent m.parent refl, same_refl m.name))
at_child (m ∷ ns) (suc k) n u a = rw (beside_sym (saved_node m) (saved_node n) ∙ at_unused ns (saved_node m) k n u.0 a) (at_child ns k n u.1 a)

module _ (ns : List Node) (high : ℕ) (s : Shape (saved_nodes ns) high) where
  goes_walk : (x y : ℕ) (p : Part) (ps : List Part) → Goes ns x p y → walk ns x (p ∷ ps) ≡ walk ns y ps
  unfolding walk parent_in
  goes_walk x y p ps (at_root_lem a) = refl
  goes_walk x y p ps (up a k n t) =
      let f = at_node ns 2 high k n s.rises t in
      rw (ne_eqb n.number root_number (λ q. omega (arith, f.0)), f.1)
  goes_walk x y p ps (down a k n t) = rw (at_child ns k n s.unique t)

  leads_walk : (x z : ℕ) (ps : List Part) → Leads ns x ps z → walk ns x ps ≡ Some z
  unfolding walk
  leads_walk x z ps (end y) = refl
  leads_walk x z ps (on w y v p qs g l) = goes_walk x y p qs g ∙ leads_walk y z qs l

pub leads_path : (i : Instance) (high : ℕ) → Shape (saved_nodes i.tree.nodes) high → (path : List ℕ) (x : ℕ) → Leads i.tree.nodes root_number (components 0 path) x → reached i path ≡ Some x
unfolding reached
leads_path i high s path x = leads_walk i.tree.nodes high s root_number x (components 0 path)

-- ---- other lists of nodes

-- one more
at_append : (ns ms : List Node) (k : ℕ) (n : Node) → At ns k n → At (ns ++ ms) k n
unfolding At
at_append [] ms k n a = absurd a
at_append (m ∷ ns) ms zero n a = a
at_append (m ∷ ns) ms (suc k) n a = at_append ns ms k n a

at_last : (ns : List Node) (n : Node) → At (ns ++ (n ∷ [])) (length ns) n
unfolding At
at_last [] n = refl
at_last (m ∷ ns) n = at_last ns n

goes_append : (ns ms : List Node) (x y : ℕ) (p : Part) → Goes ns x p y → Goes (ns ++ ms) x p y
goes_append ns ms x y p (at_root_lem a) = at_root_lem a
goes_append ns ms x y p (up a k n s) = up a k n (at_append ns ms k n s)
goes_append ns ms x y p (down a k n s) = down a k n (at_append ns ms k n s)

-- the same with other mounts
at_saved : (ns : List Node) (k : ℕ) (n : Node) → At ns k n → At (saved_nodes ns) k (saved_node n)
unfolding saved_nodes At
at_saved [] k n a = a
at_saved (m ∷ ns) zero n a = ap saved_node a
at_saved (m ∷ ns) (suc k) n a = at_saved ns k n a

saved_at : (ns : List Node) (k : ℕ) (e : SavedNode) → At (saved_nodes ns) k e → (n : Node) × At ns k n × (saved_node n ≡ e)
unfolding saved_nodes At
saved_at [] k e a = absurd a
saved_at (m ∷ ns) zero e a = (m, refl, a)
saved_at (m ∷ ns) (suc k) e a = saved_at ns k e a

module _ (ns ms : List Node) (same-saved : saved_nodes ns ≡ saved_nodes ms) where
  at_other : (k : ℕ) (n : Node) → At ns k n → (m : Node) × At ms k m × (saved_node m ≡ saved_node n)
  at_other k n a = saved_at ms k (saved_node n) (subst (λ (es : List SavedNode). At es k (saved_node n)) same-saved (at_saved ns k n a))

  goes_saved : (x y : ℕ) (p : Part) → Goes ns x p y → Goes ms x p y
  goes_saved x y p (at_root_lem a) = at_root_lem a
  goes_saved x y p (up a k n s) =
      let w = at_other k n s in
      subst (λ (e : SavedNode). Goes ms e.number (ParentDir a) e.parent) w.2 (up a k w.0 w.1)
  goes_saved x y p (down a k n s) =
      let w = at_other k n s in
      subst (λ (e : SavedNode). Goes ms e.parent (Normal a e.name) e.number) w.2 (down a k w.0 w.1)

  pub leads_saved : (x z : ℕ) (ps : List Part) → Leads ns x ps z → Leads ms x ps z
  leads_saved x z ps (end y) = end y
  leads_saved x z ps (on w y v p qs g l) = on x y z p qs (goes_saved x y p g) (leads_saved y z qs l)

-- ---- the mount walk

module _ (t : Tree) where
  -- one step, over the nodes that it leaves
  step_goes : (m : Made) (p : Part) → Walking t.nodes t.next m → Goes (t.nodes ++ (mount_step t.nodes t.next m p).nodes) m.here p (mount_step t.nodes t.next m p).here
  unfolding mount_step
  step_goes m (ParentDir at) w = parent_goes (t.nodes ++ m.nodes) at m.here w.reached
  step_goes m (Normal at p) w = go (child_in (t.nodes ++ m.nodes) m.here p) refl
    where
      go : (o : Option ℕ) → child_in (t.nodes ++ m.nodes) m.here p ≡ o → Goes (t.nodes ++ (or_make t.next m p o).nodes) m.here (Normal at p) (or_make t.next m p o).here
      go (Some x) e = child_goes (t.nodes ++ m.nodes) m.here at p x e
      go None e =
          let n = bare (t.next + length m.nodes) m.here p in
          rw (← append_assoc t.nodes m.nodes (n ∷ [])) (down at (length (t.nodes ++ m.nodes)) n (at_last (t.nodes ++ m.nodes) n))

  makes_leads : (ps : List Part) (m : Made) → EachName GoodName ps → Walking t.nodes t.next m
      → Leads (t.nodes ++ (makes t.nodes t.next m ps).nodes) m.here ps (makes t.nodes t.next m ps).here
  unfolding makes
  makes_leads [] m g w = end m.here
  makes_leads (p ∷ ps) m g w =
      let n = mount_step t.nodes t.next m p in
      on m.here n.here _ p ps (makes_all (λ (ns : List Node). Goes ns m.here p n.here) t (λ ns o l e. goes_append ns (o ∷ []) m.here n.here p) ps n (step_goes m p w))
      (makes_leads ps n (rest_names GoodName p ps g) (step_walking t.nodes t.next m p ps g w))

  -- of a path that rows 1 and 2 of a mount let pass
  pub planned_leads : (path : List ℕ) → Shape (saved_nodes t.nodes) t.next → too_long path ≡ false → well_formed path ≡ true
      → Leads (t.nodes ++ (planned t path).nodes) root_number (components 0 path) (planned t path).here
  unfolding planned
  planned_leads path s l u =
      makes_leads (components 0 path) at_root (components_good path l u) (record { shape = rw (append-nil t.nodes, add-zero t.next) s; reached = top })
