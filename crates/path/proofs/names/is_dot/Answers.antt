-- The two texts are compared byte for byte.
use Rattle.std.proofs.Common.{◌≡◌, eqb, ap, ◌∙◌}
use lib.Pointwise.{pointwise}
use Rattle.rules.specs.Bytes.{same}
use Rattle.rules.proofs.Same.{same_eq_of_slices}
use Rattle.path.proofs.names.is_dot.Goals as goal

pub returns : goal.returns
returns c =
    let e : c.eq.result ≡ pointwise eqb c.args.name.now c.as_slice.result.now = c.eq.ensures in
    e ∙ same_eq_of_slices c.args.name.now c.as_slice.result.now ∙ ap (same c.args.name.now) c.as_slice.ensures
