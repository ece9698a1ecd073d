-- Creation: what its writes come to, and what the bytes then stand for. Assumes nothing.
use mathlib.Core.Path.{◌≡◌, refl, sym, ap, ◌∙◌, subst}
use mathlib.Core.Bool.{true, false}
use mathlib.Core.List.{List, [], ◌∷◌}
use Prim.Native.Nat.{ℕ, zero, suc, ◌^◌, ◌≤◌, ◌<◌}
use native.Mathlib.Omega.{arith}
use lib.ListN.{length, get_or, replicate, length-replicate, get_or-replicate}
use borrow.Author.Tests.{ne_eqb}
use Rattle.le.specs.Mem.{bytes_of, put}
use Rattle.rules.specs.Numbers.{DONE, storage_for}
use Rattle.rules.specs.Ids.{bad_mapping}
use Rattle.rules.specs.Instance.{Instance, empty_slot, held_by}
use Rattle.rules.specs.Create.{Creation, too_small, bad_options, new_instance, create_rule}
use Rattle.rules.specs.claims.Driven.{Driven, creation}
use Rattle.rules.proofs.Ids.{within}
use Rattle.tables.specs.Table.{put_row, tab}
use Rattle.tables.specs.Layout.{flags_at, counter_at, removal_at, initialized_at, root_cell_at, mark, flags_field, mark_field}
use Rattle.tables.specs.View.{nodes_from, view}
use Rattle.tables.specs.Laid.{laid}
use Rattle.tables.specs.Write.{put_header}
use Rattle.vfs_options.specs.declared.VfsOptions.{VfsOptions}
use Rattle.storage.specs.Header.{spell, header_of}
use Rattle.storage.specs.Limits.{SlotsFit, Limits}
use Rattle.storage.specs.Creation.{creation_of, empty_slots, create_mem, Creates, CreatesDriven}
use Rattle.storage.proofs.Header.{view_headed, laid_headed}
use Rattle.rules.proofs.Create.{large_enough, options_known}
use Rattle.storage.proofs.Slots.{length_slots, slots_empty}

-- ---- what the writes come to

pub words_put : (mem : List ℕ) (n known ins outs : ℕ) →
    put 8 (put 8 (put 8 (put 8 (put 8 (put 8 (put 8 mem 0 mark) 8 n) 16 0) 24 2) 32 known) 40 ins) 48 outs
    ≡ put_header mark_field (bytes_of 8 mark ∷ bytes_of 8 n ∷ bytes_of 8 0 ∷ bytes_of 8 2 ∷ bytes_of 8 known ∷ bytes_of 8 ins ∷ bytes_of 8 outs ∷ []) mem
unfolding put put_header put_row
words_put mem n known ins outs = refl

pub bytes_put : (mem : List ℕ) (flags : ℕ) → put 8 (put 1 (put 1 (put 1 (put 1 mem flags_at flags) counter_at 1) removal_at 0) initialized_at 0) root_cell_at 0
    ≡ put_header flags_field (bytes_of 1 flags ∷ bytes_of 1 1 ∷ bytes_of 1 0 ∷ bytes_of 1 0 ∷ bytes_of 8 0 ∷ []) mem
unfolding put put_header put_row
bytes_put mem flags = refl

pub all_put : (mem : List ℕ) (n known : ℕ) (o : VfsOptions) →
    put_header flags_field (bytes_of 1 o.flags ∷ bytes_of 1 1 ∷ bytes_of 1 0 ∷ bytes_of 1 0 ∷ bytes_of 8 0 ∷ [])
    (put 4 (put 4 (put 4 (put 4 (put 4 (put 4
    (put_header mark_field (bytes_of 8 mark ∷ bytes_of 8 n ∷ bytes_of 8 0 ∷ bytes_of 8 2 ∷ bytes_of 8 known ∷ bytes_of 8 o.in_opts ∷ bytes_of 8 o.out_opts ∷ []) (empty_slots mem))
    56 o.id_mapping.internal) 60 o.id_mapping.external) 64 o.id_mapping.range) 68 o.id_mapping.internal) 72 o.id_mapping.external) 76 o.id_mapping.range)
    ≡ create_mem (creation_of n known o) mem
unfolding put put_header put_row create_mem spell header_of new_instance
all_put mem n known o = refl

-- ---- what the bytes then stand for

empty_fit : (n : ℕ) → SlotsFit (replicate n empty_slot)
empty_fit zero = tt
empty_fit (suc n) = (omega arith, empty_fit n)

module _ (q : Creation) (mem : List ℕ) where
  pub new_limits : too_small (length mem) q.capacity ≡ false → bad_options q.known q.options ≡ false → bad_mapping q.options.mapping ≡ false → q.known < 2 ^ 64 → q.options.in_opts < 2 ^ 64 → q.options.out_opts < 2 ^ 64 → Limits (new_instance q)
  unfolding new_instance
  new_limits e f h k a b =
      let m = within q.options.mapping h in
      let s = large_enough (length mem) q.capacity e in
      let o = options_known q.known q.options f in
      record {
        some_node = s.0;
        few_nodes = s.1;
        live = s.0;
        low = omega arith;
        top = omega arith;
        within = o.0;
        mapping = h;
        mask = k;
        options = record { in_opts = a; out_opts = b; internal = omega arith; external = omega arith; range = omega arith; flags = o.1 };
        counter = omega arith;
        slots = length-replicate 256 empty_slot;
        tags = empty_fit 256;
        root = omega arith;
        nodes = tt;
      }

  module _ (l : Limits (new_instance q)) (b : storage_for q.capacity ≤ length mem) where
    view_created : view (create_mem q mem) ≡ new_instance q
    unfolding create_mem new_instance nodes_from tab
    view_created =
        let size : length (empty_slots mem) ≡ length mem = length_slots mem in
        view_headed (new_instance q) (empty_slots mem) l (omega arith)
        ∙ (λ t. record {
          fixed = (new_instance q).fixed;
          removal = false;
          initialized = false;
          options = q.options;
          indexes = record { slots = slots_empty mem (omega arith) t; counter = 1 };
          tree = (new_instance q).tree;
        })

    laid_created : laid (create_mem q mem) ≡ true
    unfolding create_mem new_instance
    laid_created =
        let size : length (empty_slots mem) ≡ length mem = length_slots mem in
        laid_headed (new_instance q) (empty_slots mem) l (omega arith) (omega arith)

  -- ---- the contract

  pub refused : (code n : ℕ) → code ≡ suc n → create_rule (length mem) q ≡ suc n → Creates mem q code mem
  refused code n a e = record {
    answer = a ∙ sym e;
    bytes = rw (e, ne_eqb (suc n) DONE (λ z. omega arith));
    keeps = λ z. absurd (omega arith);
    stands = λ z. absurd (omega arith);
    slots = λ z. absurd (omega arith);
    counter = λ z. absurd (omega arith);
  }

  pub done : (after : List ℕ) → create_rule (length mem) q ≡ DONE → after ≡ create_mem q mem → Limits (new_instance q) → storage_for q.capacity ≤ length mem → Creates mem q DONE after
  unfolding new_instance
  done after e p l b =
      let v : view after ≡ new_instance q = ap view p ∙ view_created l b in
      record {
        answer = sym e;
        bytes = p ∙ rw e;
        keeps = λ z. ap laid p ∙ laid_created l b;
        stands = λ z. v;
        slots = λ z k h. ap (λ (i : Instance). get_or i.indexes.slots k (held_by 0)) v ∙ get_or-replicate 256 k empty_slot (held_by 0) h;
        counter = λ z. ap (λ (i : Instance). i.indexes.counter) v;
      }

-- the theorem: the bytes after are driven
pub creates_driven : CreatesDriven
creates_driven mem q after k c = subst Driven (sym (c.stands refl)) (creation (length mem) q k (sym c.answer))
