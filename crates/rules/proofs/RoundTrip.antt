-- Saved bytes give back the state, and no other bytes are accepted for it. Assumes nothing.
use mathlib.Core.Path.{◌≡◌, refl, sym}
use mathlib.Core.List.{List, [], ◌∷◌}
use Prim.Native.Nat.{◌*◌, ◌≤◌}
use native.Mathlib.Omega.{arith}
use lib.ListN.{length, length-append}
use Rattle.rules.specs.Create.{new_instance}
use Rattle.rules.specs.Saved.{SavedNode, node_bytes, nodes_bytes}
use Rattle.rules.specs.StateRestore.{saved_state, saved_nodes}
use Rattle.rules.specs.claims.RoundTrip.{ThereAndBack, NoOther, FreshLength, NamesTo, NamesOf, Longest}
use Rattle.rules.proofs.Encoded.{node_length, encode_length, state_read, is_accepted}
use Rattle.rules.proofs.Accepted.{clauses, written, fits}

-- the theorem: saved bytes give back the state
pub there_and_back : ThereAndBack
there_and_back s f v = (is_accepted s f v, state_read s f)

-- the theorem: no other bytes are accepted for a state
pub no_other : NoOther
no_other b h a = record { bytes = sym (written b h a); fits = fits b h a; good = (clauses b a).1 }

-- ---- lengths

-- the theorem: a fresh state has 56 bytes
pub fresh_length : FreshLength
unfolding saved_state new_instance saved_nodes nodes_bytes
fresh_length q = encode_length (saved_state (new_instance q))

pub most_bytes : (ns : List SavedNode) → NamesTo 255 ns → length (nodes_bytes ns) ≤ 273 * length ns
unfolding NamesTo nodes_bytes
most_bytes [] h = omega arith
most_bytes (n ∷ ns) h = omega (arith, h.0, most_bytes ns h.1, length-append (node_bytes n) (nodes_bytes ns), node_length n)

exact_bytes : (ns : List SavedNode) → NamesOf 255 ns → length (nodes_bytes ns) ≡ 273 * length ns
unfolding NamesOf nodes_bytes
exact_bytes [] h = refl
exact_bytes (n ∷ ns) h = omega (arith, h.0, exact_bytes ns h.1, length-append (node_bytes n) (nodes_bytes ns), node_length n)

-- the theorem: the longest has 279,335
pub longest : Longest
longest = record {
  most = λ s l h. omega (arith, encode_length s, most_bytes s.nodes h);
  exact = λ s l h. omega (arith, encode_length s, exact_bytes s.nodes h);
}
