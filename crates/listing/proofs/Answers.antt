-- The answers of a listing: a law for each. Assumes nothing.
use mathlib.Core.Path.{◌≡◌, refl, ap}
use mathlib.Core.Bool.{true, false}
use mathlib.Core.List.{List, []}
use Prim.Native.Nat.{ℕ, min}
use lib.ListN.{length, drop}
use borrow.Author.Tests.{eq-eqb, ne_eqb}
use Rattle.std.specs.Prelude.{Result, Ok, Err}
use Rattle.rules.specs.Numbers.{NOENT}
use Rattle.rules.specs.declared.codes.VfsError.{VfsError}
use Rattle.rules.specs.declared.codes.VfsError.TheVariants.{NoEnt, Small}
use Rattle.rules.specs.Tree.{is_known, children_in}
use Rattle.rules.specs.Outcome.{Outcome, refused, writes, first_of}
use Rattle.rules.specs.Listing.{dirents_from, laid_records, list_rule}
use Rattle.le.specs.Mem.{write}
use Rattle.tables.specs.View.{nodes_of, view}
use Rattle.tables.specs.Laid.{laid}
use Rattle.call_form.specs.Form.{told_by}
use Rattle.dirent.specs.Lays.{Lays}
use Rattle.storage.proofs.Calls.{writes_small, writes_by}
use Rattle.listing.specs.Listed.{listed_told, listing, Lists}

module _ (mem : List ℕ) (node size offset : ℕ) (d : List ℕ) where
  pub lists_small : laid mem ≡ false → Lists mem node size offset d (Err Small) d
  lists_small l = writes_small mem (listing node size offset d) d l

  -- by the outcome of the rule
  by_rule : laid mem ≡ true → (o : Outcome) → listing node size offset d (view mem) ≡ o → (r : Result ℕ VfsError) (e : List ℕ) → listed_told r ≡ told_by o → e ≡ write d 0 o.written → Lists mem node size offset d r e
  by_rule l o q r e a b = writes_by mem (listing node size offset d) d (listed_told r) e o l q a b

  pub lists_nothing : laid mem ≡ true → size ≡ 0 → Lists mem node size offset d (Ok 0) d
  unfolding list_rule first_of
  lists_nothing l z = by_rule l (writes [] (view mem)) (rw (eq-eqb size 0 z)) (Ok 0) d refl refl

  pub lists_unknown : laid mem ≡ true → (size ≡ 0 → ⊥) → is_known (nodes_of mem) node ≡ false → Lists mem node size offset d (Err NoEnt) d
  unfolding list_rule first_of view
  lists_unknown l z k = by_rule l (refused NOENT (view mem)) (rw (ne_eqb size 0 z, k)) (Err NoEnt) d refl refl

  pub lists_laid : laid mem ≡ true → (size ≡ 0 → ⊥) → is_known (nodes_of mem) node ≡ true → (end n : ℕ) (e : List ℕ) → end ≡ min size (length d)
      → Lays d end (dirents_from offset (drop offset (children_in (nodes_of mem) node))) n e → Lists mem node size offset d (Ok n) e
  unfolding list_rule first_of view
  lists_laid l z k end n e h w =
      let bs : List ℕ = laid_records (min size (length d)) (dirents_from offset (drop offset (children_in (nodes_of mem) node))) in
      let v = rw h at w in
      by_rule l (writes bs (view mem)) (rw (ne_eqb size 0 z, k)) (Ok n) e (ap (λ (m : ℕ). listed_told (Ok m)) v.count) v.bytes
