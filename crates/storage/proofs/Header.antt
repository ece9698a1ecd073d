-- A header that is written for an instance: what the bytes then stand for, and that they keep the layout rule. Assumes nothing.
use mathlib.Core.Path.{◌≡◌, ap, ap₂, ◌∙◌}
use mathlib.Core.Bool.{true, not}
use mathlib.Core.List.{List, [], ◌∷◌}
use Rattle.std.specs.Prelude.{None}
use Prim.Native.Nat.{ℕ, zero, suc, ◌^◌, ◌≤◌, ◌<◌}
use native.Mathlib.Omega.{arith}
use lib.ListN.{length, get_or}
use lib.Dec.{eqb}
use Rattle.rules.specs.Numbers.{storage_for}
use Rattle.rules.specs.Ids.{bad_mapping}
use Rattle.rules.specs.Instance.{Instance}
use Rattle.rules.specs.Create.{unknown}
use Rattle.rules.proofs.Ids.{within}
use Rattle.rules.proofs.Fields.{length_bytes_of}
use Rattle.tables.specs.Table.{Col}
use Rattle.tables.specs.Layout.{external_field, range_field, occupancy_at, mapping_field, own_mapping_field, own_external_field, own_range_field, known_field, in_opts_field, out_opts_field, counter_field, removal_field, initialized_field, root_cell_field, header, capacity_field, count_field, flags_field, mark_field, next_field, root_gid_field, root_mode_field, root_uid_field}
use Rattle.tables.specs.View.{field, mount_from_cells, slots_of, nodes_from, view}
use Rattle.tables.specs.Laid.{laid_by, laid}
use Rattle.tables.specs.Write.{put_header}
use Rattle.tables.proofs.Table.{over, Fit}
use Rattle.tables.proofs.Spells.{cell_back, yes_back, yes_fits}
use Rattle.tables.proofs.Heads.{head_put, view_header}
use Rattle.tables.proofs.Keeps.{is_ruled, length_header}
use Rattle.storage.specs.Header.{spell, header_of}
use Rattle.storage.specs.Limits.{Limits}

-- ---- numbers as cells

pub spell_fits : (cs : List Col) (vs : List ℕ) → Fit cs (spell cs vs)
unfolding spell
spell_fits [] vs = omega arith
spell_fits (c ∷ cs) [] = omega arith
spell_fits (c ∷ cs) (v ∷ vs) = (omega (arith, length_bytes_of c.width v), spell_fits cs vs)

-- numbers within the widths of the columns
abbrev Widths : List Col → List ℕ → Type 0
Widths [] vs = 0 ≤ 0
Widths (c ∷ cs) [] = 0 ≤ 0
Widths (c ∷ cs) (v ∷ vs) = (v < 256 ^ c.width) × Widths cs vs

-- number k is read again
spelt : (cs : List Col) (vs : List ℕ) (mem : List ℕ) (i k : ℕ) → Widths cs vs → k < length vs → k < length cs → field k (over cs (spell cs vs) mem i) ≡ get_or vs k 0
unfolding spell over
spelt [] vs mem i k w h g = absurd (omega arith)
spelt (c ∷ cs) [] mem i k w h g = absurd (omega arith)
spelt (c ∷ cs) (v ∷ vs) mem i zero w h g = cell_back c.width v mem _ w.0
spelt (c ∷ cs) (v ∷ vs) mem i (suc k) w h g = spelt cs vs mem i k w.1 (omega arith) (omega arith)

-- ---- the header of an instance

module _ (i : Instance) (mem : List ℕ) (l : Limits i) (b : occupancy_at ≤ length mem) where
  abbrev vs : List ℕ
  vs = header_of i

  abbrev H : List (List ℕ)
  H = over header (spell header vs) mem 0

  abbrev after : List ℕ
  after = put_header mark_field (spell header vs) mem

  widths : Widths header vs
  unfolding header_of
  widths = let d = l in let e = yes_fits i.removal in let f = yes_fits i.initialized in let m = within i.fixed.mapping l.mapping in let o = l.options in omega arith

  reads : (k : ℕ) → k < 18 → field k H ≡ get_or vs k 0
  unfolding header_of
  reads k h = spelt header vs mem 0 k widths (omega arith) (omega arith)

  -- the instance but for its slots, its nodes and the root's mount, which are what the other bytes say
  pub view_headed : view after ≡ record {
    fixed = i.fixed;
    removal = i.removal;
    initialized = i.initialized;
    options = i.options;
    indexes = record { slots = slots_of mem; counter = i.indexes.counter };
    tree = record { next = i.tree.next; root = None; nodes = nodes_from i.fixed.capacity mem 0 (length i.tree.nodes) };
  }
  unfolding header_of mount_from_cells
  view_headed =
      let f : (k : ℕ) → k < 18 → field k H ≡ get_or vs k 0 = reads in
      view_header mark_field (spell header vs) mem (spell_fits header vs) b
      ∙ (λ t. record {
        fixed = record {
          capacity = f capacity_field (omega arith) t;
          known = f known_field (omega arith) t;
          mapping = record { internal = f mapping_field (omega arith) t; external = f external_field (omega arith) t; range = f range_field (omega arith) t };
        };
        removal = (ap (λ (x : ℕ). not (eqb x 0)) (f removal_field (omega arith)) ∙ yes_back i.removal) t;
        initialized = (ap (λ (x : ℕ). not (eqb x 0)) (f initialized_field (omega arith)) ∙ yes_back i.initialized) t;
        options = record {
          in_opts = f in_opts_field (omega arith) t;
          out_opts = f out_opts_field (omega arith) t;
          mapping = record { internal = f own_mapping_field (omega arith) t; external = f own_external_field (omega arith) t; range = f own_range_field (omega arith) t };
          flags = f flags_field (omega arith) t;
        };
        indexes = record { slots = slots_of mem; counter = f counter_field (omega arith) t };
        tree = record {
          next = f next_field (omega arith) t;
          root = mount_from_cells (f root_cell_field (omega arith) t) (field root_uid_field H) (field root_gid_field H) (field root_mode_field H);
          nodes = nodes_from (f capacity_field (omega arith) t) mem 0 (f count_field (omega arith) t);
        };
      })

  pub laid_headed : storage_for i.fixed.capacity ≤ length mem → laid after ≡ true
  unfolding laid header_of
  laid_headed long =
      let f : (k : ℕ) → k < 18 → field k H ≡ get_or vs k 0 = reads in
      let n : field capacity_field H ≡ i.fixed.capacity = f capacity_field (omega arith) in
      let c : field count_field H ≡ length i.tree.nodes = f count_field (omega arith) in
      let x : field next_field H ≡ i.tree.next = f next_field (omega arith) in
      let g : field flags_field H ≡ i.options.flags = f flags_field (omega arith) in
      let size : length after ≡ length mem = length_header mark_field (spell header vs) mem in
      ap₂ laid_by (head_put mark_field (spell header vs) mem (spell_fits header vs) b) size
      ∙ is_ruled H (length mem) (record {
        size = record {
          long = omega arith;
          marked = f mark_field (omega arith);
          some_node = omega (arith, l.some_node);
          few_nodes = omega (arith, l.few_nodes);
          enough = omega arith;
        };
        live = omega (arith, l.live);
        low = omega (arith, l.low);
        top = omega (arith, l.top);
        bits =
            (λ t. unknown (f known_field (omega arith) t) (record {
              in_opts = f in_opts_field (omega arith) t;
              out_opts = f out_opts_field (omega arith) t;
              mapping = record { internal = f own_mapping_field (omega arith) t; external = f own_external_field (omega arith) t; range = f own_range_field (omega arith) t };
              flags = f flags_field (omega arith) t;
            }))
            ∙ l.within;
        flags = omega (arith, l.options.flags);
        maps = (λ t. bad_mapping (record { internal = f mapping_field (omega arith) t; external = f external_field (omega arith) t; range = f range_field (omega arith) t })) ∙ l.mapping;
      })
