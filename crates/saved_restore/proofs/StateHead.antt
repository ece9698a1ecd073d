-- The header of a restored state: what its writes come to, what the bytes then stand for, and that they keep the layout rule. Assumes nothing.
use mathlib.Core.Path.{◌≡◌, refl, ap, ap₂, ◌∙◌}
use mathlib.Core.Bool.{true, false, not}
use mathlib.Core.List.{List, [], ◌∷◌, ◌++◌}
use Prim.Native.Nat.{ℕ, ◌^◌, ◌≤◌, ◌<◌}
use native.Mathlib.Omega.{arith}
use lib.ListN.{length}
use lib.Dec.{eqb}
use Rattle.le.specs.Mem.{bytes_of, put}
use Rattle.rules.specs.Instance.{Options, Instance}
use Rattle.rules.specs.Create.{unknown}
use Rattle.rules.specs.claims.RoundTrip.{OptionsFit}
use Rattle.rules.proofs.Fields.{length_bytes_of}
use Rattle.tables.specs.Table.{row, put_row}
use Rattle.tables.specs.Layout.{next_at, in_opts_at, out_opts_at, own_internal_at, own_external_at, own_range_at, flags_at, counter_at, initialized_at, occupancy_at, header, counter_field, flags_field, in_opts_field, initialized_field, known_field, next_field, out_opts_field, own_external_field, own_mapping_field, own_range_field}
use Rattle.tables.specs.View.{field, head_of, nodes_of, view}
use Rattle.tables.specs.Laid.{laid_by, laid}
use Rattle.tables.specs.Write.{from_place, put_header, set_next, yes_byte}
use Rattle.tables.proofs.Table.{over, Fit}
use Rattle.tables.proofs.Spells.{cell_back, yes_back, yes_fits}
use Rattle.tables.proofs.Heads.{head_put, view_header}
use Rattle.tables.proofs.Keeps.{laid_ruled, is_ruled, length_header}
use Rattle.saved_restore.specs.Parts.{has_bits, option_cells, set_options, set_state}

-- ---- what the writes come to

pub options_put : (mem : List ℕ) (o : Options)
    → put 1 (put 4 (put 4 (put 4 (put 8 (put 8 mem in_opts_at o.in_opts) out_opts_at o.out_opts) own_internal_at o.mapping.internal) own_external_at o.mapping.external) own_range_at o.mapping.range) flags_at o.flags ≡ set_options o mem
unfolding put put_header put_row set_options
options_put mem o = refl

pub state_put : (mem : List ℕ) (next counter : ℕ) (o : Options) → put 1 (put 1 (set_options o (put 8 mem next_at next)) counter_at counter) initialized_at (yes_byte (has_bits o.in_opts)) ≡ set_state next counter o mem
unfolding put put_header put_row set_next set_state
state_put mem next counter o = refl

-- ---- what the bytes then stand for

-- next number, counter and options are the state's
abbrev pub become : ℕ → ℕ → Options → Instance → Instance
become next counter o i = record {
  fixed = i.fixed;
  removal = i.removal;
  initialized = has_bits o.in_opts;
  options = o;
  indexes = record { slots = i.indexes.slots; counter = counter };
  tree = record { next = next; root = i.tree.root; nodes = i.tree.nodes };
}

module _ (next counter : ℕ) (o : Options) (mem : List ℕ) where
  abbrev init : ℕ
  init = yes_byte (has_bits o.in_opts)

  abbrev cells : List (List ℕ)
  cells = bytes_of 8 next ∷ [] ∷ (option_cells o ++ (bytes_of 1 counter ∷ [] ∷ bytes_of 1 init ∷ []))

  abbrev H : List (List ℕ)
  H = over header (from_place next_field cells) mem 0

  one_row : set_state next counter o mem ≡ put_header next_field cells mem
  unfolding set_state set_options set_next put_header put_row
  one_row = refl

  cells_fit : Fit header (from_place next_field cells)
  cells_fit =
      omega (arith, length_bytes_of 8 next, length_bytes_of 8 o.in_opts, length_bytes_of 8 o.out_opts, length_bytes_of 4 o.mapping.internal, length_bytes_of 4 o.mapping.external, length_bytes_of 4 o.mapping.range, length_bytes_of 1 o.flags, length_bytes_of 1 counter, length_bytes_of 1 init)

  module _ (f : OptionsFit o) (top : next ≤ 2 ^ 56) (byte : counter < 256) where
    next_is : field next_field H ≡ next
    unfolding over row
    next_is = cell_back 8 next mem next_at (omega arith)

    in_is : field in_opts_field H ≡ o.in_opts
    unfolding over row
    in_is = cell_back 8 o.in_opts mem in_opts_at f.in_opts

    out_is : field out_opts_field H ≡ o.out_opts
    unfolding over row
    out_is = cell_back 8 o.out_opts mem out_opts_at f.out_opts

    internal_is : field own_mapping_field H ≡ o.mapping.internal
    unfolding over row
    internal_is = cell_back 4 o.mapping.internal mem own_internal_at f.internal

    external_is : field own_external_field H ≡ o.mapping.external
    unfolding over row
    external_is = cell_back 4 o.mapping.external mem own_external_at f.external

    range_is : field own_range_field H ≡ o.mapping.range
    unfolding over row
    range_is = cell_back 4 o.mapping.range mem own_range_at f.range

    flags_is : field flags_field H ≡ o.flags
    unfolding over row
    flags_is = cell_back 1 o.flags mem flags_at (let h = f.flags in omega arith)

    counter_is : field counter_field H ≡ counter
    unfolding over row
    counter_is = cell_back 1 counter mem counter_at byte

    init_is : not (eqb (field initialized_field H) 0) ≡ has_bits o.in_opts
    unfolding over row
    init_is = ap (λ (v : ℕ). not (eqb v 0)) (cell_back 1 init mem initialized_at (yes_fits (has_bits o.in_opts))) ∙ yes_back (has_bits o.in_opts)

    pub view_state : occupancy_at ≤ length mem → view (set_state next counter o mem) ≡ become next counter o (view mem)
    unfolding view nodes_of over row
    view_state l =
        ap view one_row
        ∙ view_header next_field cells mem cells_fit l
        ∙ (λ t. record {
          fixed = (view mem).fixed;
          removal = (view mem).removal;
          initialized = init_is t;
          options = record {
            in_opts = in_is t;
            out_opts = out_is t;
            mapping = record { internal = internal_is t; external = external_is t; range = range_is t };
            flags = flags_is t;
          };
          indexes = record { slots = (view mem).indexes.slots; counter = counter_is t };
          tree = record { next = next_is t; root = (view mem).tree.root; nodes = (view mem).tree.nodes };
        })

    -- ---- the layout rule

    state_length : length (set_state next counter o mem) ≡ length mem
    state_length = ap length one_row ∙ length_header next_field cells mem

    pub state_keeps : laid mem ≡ true → 2 ≤ next → unknown (view mem).fixed.known o ≡ false → laid (set_state next counter o mem) ≡ true
    unfolding laid over row view
    state_keeps e low u =
        let r = laid_ruled mem e in
        ap₂ laid_by (ap head_of one_row ∙ head_put next_field cells mem cells_fit (let l = r.size.long in omega arith)) state_length
        ∙ is_ruled H (length mem) (record {
          size = r.size;
          live = r.live;
          low = omega (arith, next_is);
          top = omega (arith, next_is);
          bits =
              (λ t. unknown (field known_field (head_of mem)) (record {
                in_opts = in_is t;
                out_opts = out_is t;
                mapping = record { internal = internal_is t; external = external_is t; range = range_is t };
                flags = flags_is t;
              }))
              ∙ u;
          flags = omega (arith, flags_is, f.flags);
          maps = r.maps;
        })
