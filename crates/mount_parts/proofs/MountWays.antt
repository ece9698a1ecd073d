-- What the parts of a mount give: rows 7 and 8, the search, and rows 5 and 6. Assumes nothing.
use mathlib.Core.Path.{◌≡◌, refl, sym, ap, ◌∙◌}
use mathlib.Core.Bool.{Bool, true, false, cond}
use mathlib.Core.List.{List, []}
use Rattle.std.specs.Prelude.{Option, Result, Ok, Err}
use Prim.Native.Nat.{ℕ, ◌^◌, ◌≤◌, ◌<◌}
use native.Mathlib.Nat.{mod-lt}
use native.Mathlib.Omega.{arith}
use lib.ListN.{length}
use lib.Dec.{ltb, lit<}
use borrow.Author.Tests.{lt-ltb, le-ltb}
use Rattle.rules.specs.Numbers.{max_ino, DONE, INODE}
use Rattle.rules.specs.Codes.{code_of}
use Rattle.rules.specs.declared.codes.VfsError.{VfsError}
use Rattle.rules.specs.declared.codes.VfsError.TheVariants.{Inode}
use Rattle.rules.specs.Bytes.{Bytes}
use Rattle.rules.specs.Round.{allocate}
use Rattle.rules.specs.Tree.{Mount}
use Rattle.rules.specs.Instance.{mount_of_node, tag_of, held_in, counter_of}
use Rattle.rules.specs.Outcome.{Answer}
use Rattle.rules.specs.Mount.{Request, freed, requested_mount, allocation, stepped}
use Rattle.le.specs.Mem.{get}
use Rattle.rules.proofs.Fields.{get_fits}
use Rattle.rules.proofs.Allocation.{found_bounds}
use Rattle.index.specs.Search.{search_told}
use Rattle.index.specs.declared.Allocated.{Allocated}
use Rattle.tables.specs.Layout.{counter_at, counter_byte}
use Rattle.tables.specs.Table.{row}
use Rattle.tables.specs.View.{view}
use Rattle.tables.specs.Laid.{laid}
use Rattle.tables.specs.Write.{set_counter, MountFits}
use Rattle.tables.specs.Answer.{is_held, mount_of_point}
use Rattle.call_form.specs.Form.{Told, counted}
use Rattle.tables.proofs.Indexes.{allocate_same, slot_of_lem}
use Rattle.tables.proofs.Refine.{view_counter}
use Rattle.tables.proofs.Keeps.{laid_long, keeps_counter}
use Rattle.placing.specs.Place.{place_mem, Places}
use Rattle.placing.specs.declared.Tags.{Tags}
use Rattle.placing.proofs.Stands.{view_placed, keeps_placed}
use Rattle.tables.specs.declared.mounts.MountPoint.{MountPoint}
use Rattle.mount_parts.specs.Follows.{Follows}
use Rattle.mount_parts.specs.Mounting.{request_of, mounted_told, alloc_mem, end_mem, tags_placed, Inserts, EndsAt, Allocates, by_found, unrooted_rule}
use Rattle.mount_parts.specs.declared.backend.Backend.{Backend}

-- ---- rows 7 and 8

-- what is told of them
abbrev ends_told : (Option ℕ → Option ℕ → Answer) → ℕ → Result Tags VfsError → Told
ends_told values n (Ok t) = record { code = DONE; answer = values t.replaced t.displaced; count = n }
ends_told values n (Err e) = counted (code_of e) n

module _ (mem : List ℕ) (k x : ℕ) (b : Backend) where
  -- row 7
  pub too_large : laid mem ≡ true → max_ino < b.root.0 → Inserts mem k x b (Err Inode) mem
  unfolding end_mem
  too_large l h =
      let e : ltb max_ino b.root.0 ≡ true = lt-ltb max_ino b.root.0 h in
      record { answer = rw e; bytes = rw e; stands = rw e; keeps = l }

  -- row 8, by the placing
  pub places_it : laid mem ≡ true → (b.root.0 ≤ max_ino) → 1 ≤ k → k < 256 → b.tag < 2 ^ 32 → b.uid < 2 ^ 32 → b.gid < 2 ^ 32 → b.mode < 2 ^ 32 → (m : MountPoint) → mount_of_point m ≡ requested_mount k (request_of [] b)
      → (t : Tags) (after : List ℕ) → Places mem (mount_of_point m) b.tag x t after → Inserts mem k x b (Ok t) after
  unfolding end_mem
  places_it l h a c g u v w m q t after p =
      let r : Request = request_of [] b in
      let e : ltb max_ino b.root.0 ≡ false = le-ltb max_ino b.root.0 h in
      let f : MountFits (requested_mount k r) = record { index = a; few = omega arith; root = omega arith; uid = u; gid = v; mode = w } in
      let z : after ≡ place_mem (requested_mount k r) r.tag x mem = p.bytes ∙ ap (λ (y : Mount). place_mem y b.tag x mem) q in
      let d : t.displaced ≡ (tags_placed mem k x).displaced = p.displaced ∙ ap (λ (y : Mount). tag_of (freed (mount_of_node (view mem).tree x) (view mem)) y.index) q in
      record {
        answer = rw e (λ i. Ok (record { replaced = p.replaced i; displaced = d i }));
        bytes = rw e z;
        stands = rw e (ap view z ∙ view_placed mem l k r x f g p.within);
        keeps = ap laid z ∙ keeps_placed mem l k r x f g p.within;
      }

  -- as they are told
  pub ends : (r : Result Tags VfsError) (after : List ℕ) → Inserts mem k x b r after → (values : Option ℕ → Option ℕ → Answer) (n : ℕ)
      → EndsAt mem k x b (values (tags_placed mem k x).replaced (tags_placed mem k x).displaced) n (ends_told values n r) after
  ends r after f values n = record { told = ap (ends_told values n) f.answer ∙ go (ltb max_ino b.root.0); bytes = f.bytes; stands = f.stands; keeps = f.keeps }
    where
      go : (c : Bool) → ends_told values n (cond c (Err Inode) (Ok (tags_placed mem k x)))
          ≡ cond c (counted INODE n) (record { code = DONE; answer = values (tags_placed mem k x).replaced (tags_placed mem k x).displaced; count = n })
      go true = refl
      go false = refl

-- ---- the counter of the view

pub counter_in : (mem : List ℕ) → Bytes mem → counter_of (view mem) < 256
unfolding view row get
counter_in mem bytes = get_fits 1 mem counter_at bytes

-- ---- the counter moved

module _ (mem : List ℕ) (l : laid mem ≡ true) where
  pub alloc_view : view (alloc_mem mem) ≡ stepped (view mem)
  unfolding alloc_mem allocation allocate
  alloc_view = view_counter (allocation (view mem)).counter mem (mod-lt _ (lit< tt)) (omega (arith, laid_long mem l))

  pub alloc_keeps : laid (alloc_mem mem) ≡ true
  unfolding alloc_mem
  alloc_keeps = keeps_counter mem l (allocation (view mem)).counter

-- ---- the search over the bytes is the allocation of the view

module _ (mem : List ℕ) (l : laid mem ≡ true) (bytes : Bytes mem) where
  counter_is : counter_of (view mem) ≡ counter_byte mem
  unfolding view row get
  counter_is = refl

  allocation_is : allocation (view mem) ≡ allocate (is_held mem) (counter_byte mem)
  unfolding allocation
  allocation_is =
      ap (allocate (held_in (view mem))) counter_is
      ∙ allocate_same (held_in (view mem)) (is_held mem) (λ k h. ap (λ s. s.held) (slot_of_lem mem k h)) (counter_byte mem) (get_fits 1 mem counter_at bytes)

  pub allocates : (a : Allocated) → a ≡ search_told (allocate (is_held mem) (counter_byte mem)) → (after : List ℕ) → after ≡ set_counter a.next_super mem → Allocates mem a after
  unfolding search_told alloc_mem
  allocates a h after w =
      let as-told : a ≡ search_told (allocation (view mem)) = h ∙ ap search_told (sym allocation_is) in
      let exactly : after ≡ alloc_mem mem = w ∙ ap (λ t. set_counter t.next_super mem) as-told in
      record {
        answer = as-told;
        least = λ k e. (found_bounds (view mem) (counter_in mem bytes) k (sym (ap (λ t. t.answer) as-told) ∙ e)).0;
        bytes = exactly;
        stands = ap view exactly ∙ alloc_view mem l;
        keeps = ap laid exactly ∙ alloc_keeps mem l;
      }

-- ---- rows 5 and 6 of a path without leading slash

module _ (mem : List ℕ) (a : Allocated) (after : List ℕ) (g : Allocates mem a after) where
  pub found_is : a.answer ≡ (allocation (view mem)).found
  unfolding search_told
  found_is = ap (λ t. t.answer) g.answer

  pub visited_is : a.count ≡ length (allocation (view mem)).visits
  unfolding search_told
  visited_is = ap (λ t. t.count) g.answer

  pub unrooted_ends : (why : VfsError) → code_of why ≡ by_found a.answer → Follows (unrooted_rule (view mem)) (alloc_mem mem) (mounted_told (Err (record { why = why; count = a.count }))) after
  unrooted_ends why w = record { told = λ i. counted ((w ∙ ap by_found found_is) i) (visited_is i); bytes = g.bytes; stands = g.stands; keeps = g.keeps }
