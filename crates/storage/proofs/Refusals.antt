-- The tests of creation, and the number of its answer by them. Assumes nothing.
use mathlib.Core.Path.{◌≡◌}
use mathlib.Core.Bool.{true, false, not}
use Prim.Native.Nat.{ℕ, ◌≤◌, ◌<◌}
use lib.Bits.{bit_and}
use lib.Dec.{eqb, leb, ltb}
use borrow.Author.Tests.{eq-eqb, ne_eqb, lt-ltb, le-ltb}
use Rattle.rules.specs.Numbers.{max_nodes, storage_for, DONE, SMALL, BADOPT, BADMAP}
use Rattle.rules.specs.Ids.{bad_mapping}
use Rattle.rules.specs.Instance.{Options}
use Rattle.rules.specs.Outcome.{first_of}
use Rattle.rules.specs.Create.{Creation, too_small, outside, unknown, bad_options, create_rule}

-- ---- the tests

module _ (bytes n : ℕ) where
  pub none_asked : n < 1 → too_small bytes n ≡ true
  unfolding too_small
  none_asked h = rw (lt-ltb n 1 h)

  pub too_many : 1 ≤ n → max_nodes < n → too_small bytes n ≡ true
  unfolding too_small
  too_many h g = rw (le-ltb n 1 h, lt-ltb max_nodes n g)

  pub by_bytes : 1 ≤ n → n ≤ max_nodes → ltb bytes (storage_for n) ≡ too_small bytes n
  unfolding too_small
  by_bytes h g = rw (le-ltb n 1 h, le-ltb max_nodes n g)

module _ (known : ℕ) (o : Options) where
  pub in_unknown : (bit_and o.in_opts known ≡ o.in_opts → ⊥) → unknown known o ≡ true
  unfolding unknown outside
  in_unknown h = rw (ne_eqb (bit_and o.in_opts known) o.in_opts h)

  pub by_out : bit_and o.in_opts known ≡ o.in_opts → not (eqb (bit_and o.out_opts known) o.out_opts) ≡ unknown known o
  unfolding unknown outside
  by_out h = rw (eq-eqb (bit_and o.in_opts known) o.in_opts h)

  pub bad_bits : unknown known o ≡ true → bad_options known o ≡ true
  unfolding bad_options
  bad_bits e = rw e

  pub by_flags : unknown known o ≡ false → leb 64 o.flags ≡ bad_options known o
  unfolding bad_options
  by_flags e = rw e

module _ (bytes : ℕ) (q : Creation) where
  pub code_small : too_small bytes q.capacity ≡ true → create_rule bytes q ≡ SMALL
  unfolding create_rule first_of
  code_small e = rw e

  pub code_options : too_small bytes q.capacity ≡ false → bad_options q.known q.options ≡ true → create_rule bytes q ≡ BADOPT
  unfolding create_rule first_of
  code_options e f = rw (e, f)

  module _ (e : too_small bytes q.capacity ≡ false) (f : bad_options q.known q.options ≡ false) where
    pub code_map : bad_mapping q.options.mapping ≡ true → create_rule bytes q ≡ BADMAP
    unfolding create_rule first_of
    code_map h = rw (e, f, h)

    pub code_done : bad_mapping q.options.mapping ≡ false → create_rule bytes q ≡ DONE
    unfolding create_rule first_of
    code_done h = rw (e, f, h)
