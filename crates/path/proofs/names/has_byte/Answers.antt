-- The byte is one of the name's.
use Rattle.std.proofs.Common.{◌≡◌, ◌∙◌, eqb}
use Rattle.std.specs.List.{list_any}
use Rattle.path.proofs.Naming.{any_holds}
use Rattle.path.proofs.names.has_byte.Goals as goal

pub returns : goal.returns
returns c =
    let e : c.contains.result ≡ list_any (λ y. eqb y c.args.b) c.args.name.now = c.contains.ensures.value in
    e ∙ any_holds _ _
