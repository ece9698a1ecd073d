-- `id_map::map_back` meets its contract: it is `map_out` of the mapping turned round. Assumes nothing.
use Rattle.rules.specs.Ids.{unwrapped}
use Rattle.id_map.proofs.map_back.Goals as goal

pub returns : goal.returns
unfolding unwrapped
returns c = c.map_out.ensures
