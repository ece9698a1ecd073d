-- The options of the rules that the code's struct stands for.
use Rattle.id_map.specs.Mapping.{mapping_of}
use Rattle.rules.specs.Instance.{Options}
use Rattle.vfs_options.specs.declared.VfsOptions.{VfsOptions}

-- their words, their own mapping and their flags (R27)
abbrev pub options_in : VfsOptions → Options
options_in o = record { in_opts = o.in_opts; out_opts = o.out_opts; mapping = mapping_of o.id_mapping; flags = o.flags }
