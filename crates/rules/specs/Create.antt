-- Creation.
use Rattle.std.specs.Prelude.{ℕ, Bool, false, not, ◌||◌, [], ◌∷◌, eqb, leb, ltb}
use Rattle.std.specs.Int.Bits.{bit_and}
use Rattle.rules.specs.Numbers.{max_nodes, storage_for, DONE, SMALL, BADOPT, BADMAP}
use Rattle.rules.specs.Ids.{bad_mapping}
use Rattle.rules.specs.Instance.{Options, flag_limit, Instance, new_indexes, new_tree}
use Rattle.rules.specs.Outcome.{◌⟹◌, first_of}

-- what creation takes: N, the mask of known option bits, the options (R26, R27)
pub record Creation : Type 0 where
  pub capacity : ℕ
  pub known : ℕ
  pub options : Options

-- N outside its limits, or too few bytes for it (R9, R20)
unfoldable pub too_small : ℕ → ℕ → Bool
too_small bytes n = ltb n 1 || ltb max_nodes n || ltb bytes (storage_for n)

-- a bit outside the mask (R28)
unfoldable pub outside : ℕ → ℕ → Bool
outside known bits = not (eqb (bit_and bits known) bits)

-- an option bit of either word outside the mask of known bits (R28, R130)
unfoldable pub unknown : ℕ → Options → Bool
unknown known o = outside known o.in_opts || outside known o.out_opts

-- at creation also a flag above bit 5 (R28, R29)
unfoldable pub bad_options : ℕ → Options → Bool
bad_options known o = unknown known o || leb flag_limit o.flags

-- the root alone, no mount, the given options; removal unset, `initialized` false; the mapping given is the one in force (R31 to R34)
unfoldable pub new_instance : Creation → Instance
new_instance q = record {
  fixed = record { capacity = q.capacity; known = q.known; mapping = q.options.mapping };
  removal = false;
  initialized = false;
  options = q.options;
  indexes = new_indexes;
  tree = new_tree;
}

-- the number of a creation with so many bytes of storage: SMALL first, then BADOPT, BADMAP; DONE makes the new instance, a refusal makes nothing (R19, R26)
unfoldable pub create_rule : ℕ → Creation → ℕ
create_rule bytes q =
    first_of
    ((too_small bytes q.capacity ⟹ SMALL)
    ∷ (bad_options q.known q.options ⟹ BADOPT)
    ∷ (bad_mapping q.options.mapping ⟹ BADMAP)
    ∷ [])
    DONE
