-- What any call on bytes does, by the outcome of its rule: refused by the layout rule, laying bytes into lent output, leaving all as it was, or leaving other bytes.
-- Assumes nothing.
use mathlib.Core.Path.{◌≡◌, sym, ap, ◌∙◌}
use mathlib.Core.Bool.{true, false, true≢false}
use mathlib.Core.List.{List}
use Prim.Native.Nat.{ℕ}
use Rattle.le.specs.Mem.{write}
use Rattle.rules.specs.Instance.{Instance}
use Rattle.rules.specs.Outcome.{Outcome}
use Rattle.tables.specs.View.{view}
use Rattle.tables.specs.Laid.{laid}
use Rattle.call_form.specs.Form.{Told, told_by, told_small, written_by, Writes, Does}
use Rattle.storage.proofs.Laid.{told_small_lem, told_by_lem}

module _ (mem : List ℕ) (f : Instance → Outcome) where
  -- ---- of a call that lays bytes into the lent output

  pub writes_small : (d : List ℕ) → laid mem ≡ false → Writes mem f d told_small d
  unfolding written_by
  writes_small d l = record { answer = sym (told_small_lem mem f l); bytes = rw l }

  pub writes_by : (d : List ℕ) (told : Told) (e : List ℕ) (o : Outcome) → laid mem ≡ true → f (view mem) ≡ o → told ≡ told_by o → e ≡ write d 0 o.written → Writes mem f d told e
  unfolding written_by
  writes_by d told e o l q t b = record { answer = t ∙ sym (told_by_lem mem f l ∙ ap told_by q); bytes = b ∙ sym (rw (l, q)) }

  -- ---- of a call that changes the instance

  -- bytes against the layout rule
  pub does_small : (told : Told) (exact : List ℕ) → laid mem ≡ false → told ≡ told_small → mem ≡ exact → Does mem f told mem exact
  does_small told exact e t b = record {
    answer = t ∙ sym (told_small_lem mem f e);
    bytes = b;
    stands = λ l. absurd (true≢false (sym l ∙ e));
    keeps = λ l. l;
  }

  -- a refusal that leaves the instance as it was
  pub does_nothing : (told : Told) (exact : List ℕ) (o : Outcome) → laid mem ≡ true → f (view mem) ≡ o → o.after ≡ view mem → told ≡ told_by o → mem ≡ exact → Does mem f told mem exact
  does_nothing told exact o e r a t b = record {
    answer = t ∙ sym (told_by_lem mem f e ∙ (λ i. told_by (r i)));
    bytes = b;
    stands = λ l. sym ((λ i. (r i).after) ∙ a);
    keeps = λ l. l;
  }

  -- a call that leaves other bytes
  pub does : (told : Told) (after exact : List ℕ) (o : Outcome) → laid mem ≡ true → f (view mem) ≡ o → told ≡ told_by o → after ≡ exact → view after ≡ o.after → laid after ≡ true
      → Does mem f told after exact
  does told after exact o e r t b v k = record {
    answer = t ∙ sym (told_by_lem mem f e ∙ (λ i. told_by (r i)));
    bytes = b;
    stands = λ l. v ∙ sym (λ i. (r i).after);
    keeps = λ l. k;
  }
