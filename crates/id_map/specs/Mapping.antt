-- The mapping of the rules that the code's struct stands for.
use Rattle.rules.specs.Ids.{Mapping}
use Rattle.id_map.specs.declared.IdMapping.{IdMapping}

-- its three numbers (R27)
abbrev pub mapping_of : IdMapping → Mapping
mapping_of m = record { internal = m.internal; external = m.external; range = m.range }
