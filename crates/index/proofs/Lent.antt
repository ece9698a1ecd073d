-- The three fields of a table that lies in memory, lent together for one lifetime, and the table again once it is over, at what the fields held last.
-- The occupancy bytes begin where the table does, the tags 256 bytes on, the counter 1280 bytes on.
-- Assumes `Logic`.
use Rattle.std.proofs.Common.{◌≡◌, ℕ, ◌+◌, List, [], ◌∷◌, sym, subst, w8, w32, MutBor}
use seplogic.Ra.Ura.{Ura}
use base.Fraction.{full_share}
use mir.Syntax.{named, ty_int, ty_array}
use mir.Val.{vptr}
use base.Logic.{SProp, ent, sep, wand, all, ex, via, mono_r, all_i, all_e, apply∗}
use base.Fml.{GName, Lft, Fml, fsep, fres, fdead, flent}
use types.Logic.{Logic, sem}
use types.Kit.{Item, ‵, raw, some, later, ◌⊛◌, ◌$◌, ◌∵◌, !, qed, move, keep, use1, use2, use3, split, pick, fsplit, fjoin, fjoin3, await, updating, now as at_once, show, done}
use types.SemTy.{Body}
use denote.RattleType.{RattleType, Denots}
use denote.Laws.{Lawfuls}
use denote.Memory.{part_at, mem}
use denote.Plain.{uint_Lawful}
use denote.Builtin.{u8, u32}
use denote.Array.{Array, Array-Lawful}
use denote.Ref.{MutRef}
use denote.Lend.{lends_ref, ref_back}
use denote.Steps.{nothing}
use denote.Struct.Struct.{Struct}
use denote.Struct.Recorded.{Recorded-part}
use denote.Struct.Members.{Member, rows_of, parts_at}
use denote.Struct.Parts.{shape_of, PartsBack, Struct-parts}
use Rattle.index.specs.declared.FsIndexes.{FsIndexes}
use Rattle.index.specs.contracts.FsIndexes as T

-- ---- the fields as they lie there
abbrev Used : RattleType
Used = Array u8 256

abbrev Tags : RattleType
Tags = Array u32 256

abbrev members : List Member
members = record { row = Used; ty = ty_array (ty_int w8) 256 } ∷ record { row = Tags; ty = ty_array (ty_int w32) 256 } ∷ record { row = u8; ty = ty_int w8 } ∷ []

-- the tuple of the fields, as a type
abbrev Tuple : RattleType
Tuple = Struct (shape_of (T.struct).name members)

abbrev fields_of : FsIndexes → Denots (rows_of members)
fields_of h = (h.used, (h.tags, (h.next_super, tt)))

-- ---- lent
-- the names under which the three are lent
abbrev pub Names : Type 0
Names = GName × (GName × GName)

-- what is said of each name at the end, beside P
abbrev said : (R : RattleType) → GName → R.Denot → Fml
said R γ x = fres γ (R.coded.code x)

abbrev pub Said : Names → FsIndexes → Fml → Fml
Said g h P = fsep (said Used g.0 h.used) (fsep (said Tags g.1.0 h.tags) (fsep (said u8 g.1.1 h.next_super) P))

-- of a table at (b, o): the field d bytes on, lent for κ, and what its lender keeps
module _ (b o : ℕ) where
  abbrev pub ref_at : {X : Type 0} → ℕ → GName → X → MutBor X
  ref_at d γ x = record { ref_ptr = (b, o + d); ghost_name = γ; now = x }

  abbrev lent_at : (R : RattleType) → ℕ → Lft → GName → R.Denot → Fml
  lent_at R d κ γ x = (MutRef (named 0) κ R).own_val (ref_at d γ x) (vptr b (o + d) ∷ [])

  abbrev pub Lent : Lft → Names → FsIndexes → Fml
  Lent κ g h = fsep (lent_at Used 0 κ g.0 h.used) (fsep (lent_at Tags 256 κ g.1.0 h.tags) (lent_at u8 1280 κ g.1.1 h.next_super))

  abbrev kept_at : RattleType → ℕ → Lft → GName → Fml
  kept_at R d κ γ = flent κ (Body (mem R) b (o + d) γ)

module _ {M : Type 1} {𝓤 : Ura M} (𝓛 : Logic 𝓤) (b o : ℕ) where
  open 𝓛 use {H}

  abbrev ⟦◌⟧ : Fml → SProp 𝓤
  ⟦ P ⟧ = sem 𝓛 P

  abbrev ◌∗◌ : SProp 𝓤 → SProp 𝓤 → SProp 𝓤
  P ∗ Q = sep 𝓤 P Q

  infixr 35 ◌∗◌
  -- the fields of h side by side, and the way back from the fields of any table
  abbrev apart_at : FsIndexes → Fml
  apart_at h = parts_at full_share members 0 (fields_of h) b o

  abbrev Way : FsIndexes → SProp 𝓤
  Way h = wand 𝓤 ⟦ apart_at h ⟧ ⟦ (mem T.the_row).own_at h b o ⟧

  abbrev lawful : Lawfuls 𝓛 (rows_of members)
  lawful = (Array-Lawful 𝓛 u8 (uint_Lawful 𝓛 w8) 256, (Array-Lawful 𝓛 u32 (uint_Lawful 𝓛 w32) 256, (uint_Lawful 𝓛 w8, tt)))

  -- a table in memory is the tuple of its fields there
  same : (h : FsIndexes) → part_at T.the_row full_share h b o ≡ part_at Tuple full_share (fields_of h) b o
  same h = Recorded-part Tuple FsIndexes (T.the_type).to (T.the_type).to_one full_share h b o

  apart : (h : FsIndexes) → ent 𝓤 ⟦ (mem T.the_row).own_at h b o ⟧ (⟦ apart_at h ⟧ ∗ all 𝓤 Way)
  apart h =
      subst (λ (F : Fml). ent 𝓤 ⟦ F ⟧ (⟦ apart_at h ⟧ ∗ all 𝓤 Way)) (sym (same h))
      (via 𝓤 (⟦ apart_at h ⟧ ∗ PartsBack 𝓛 full_share (T.struct).name members b o) (Struct-parts 𝓛 full_share (T.struct).name members lawful (fields_of h) b o)
      (mono_r 𝓤 ⟦ apart_at h ⟧ (all_i 𝓤 Way (λ d.
      subst (λ (F : Fml). ent 𝓤 (PartsBack 𝓛 full_share (T.struct).name members b o) (wand 𝓤 ⟦ apart_at d ⟧ ⟦ F ⟧)) (sym (same d))
      (all_e 𝓤 (λ (a : Denots (rows_of members)). wand 𝓤 ⟦ parts_at full_share members 0 a b o ⟧ ⟦ part_at Tuple full_share a b o ⟧) (fields_of d))))))

  -- what the lender of all three keeps
  abbrev pub Kept : Lft → Names → SProp 𝓤
  Kept κ g = ⟦ kept_at b o Used 0 κ g.0 ⟧ ∗ ⟦ kept_at b o Tags 256 κ g.1.0 ⟧ ∗ ⟦ kept_at b o u8 1280 κ g.1.1 ⟧ ∗ all 𝓤 Way

  -- one field, lent by `lends_ref`
  abbrev one : (R : RattleType) → ℕ → Lft → R.Denot → Item 𝓤
  one R d κ x = later (some (λ (γ : GName). ‵ (lent_at b o R d κ γ x) ⊛ ‵ (kept_at b o R d κ γ)))

  pub lends : (κ : Lft) (h : FsIndexes) → ent 𝓤 ⟦ (mem T.the_row).own_at h b o ⟧ (H.⇛ (ex 𝓤 (λ (g : Names). ⟦ Lent b o κ g h ⟧ ∗ Kept κ g)))
  lends κ h =
      qed 𝓛 (‵ ((mem T.the_row).own_at h b o) ∷ []) ∵ updating ! $ use1 𝓛 (‵ (apart_at h) ⊛ raw (all 𝓤 Way)) (apart h) $ split ! $ fsplit ! $
      use1 𝓛 (one Used 0 κ h.used) (lends_ref 𝓛 Used (named 0) κ h.used b (o + 0)) $ await ! tt $ pick ! (λ γ₀. move ! (1 ∷ []) $ fsplit ! $
      use1 𝓛 (one Tags 256 κ h.tags) (lends_ref 𝓛 Tags (named 0) κ h.tags b (o + 256)) $ await ! tt $ pick ! (λ γ₁. move ! (1 ∷ []) $ fsplit ! $
      use1 𝓛 (one u8 1280 κ h.next_super) (lends_ref 𝓛 u8 (named 0) κ h.next_super b (o + 1280)) $ await ! tt $ pick ! (λ γ₂.
      split ! $ move ! (3 ∷ []) $ split ! $ move ! (5 ∷ []) $ split ! $
      -- [used; used's kept; tags; tags' kept; the counter; its kept; true; the way back]
      at_once ! $ show ! (λ (g : Names). ⟦ Lent b o κ g h ⟧ ∗ Kept κ g) (γ₀, (γ₁, γ₂)) $ keep ! (0 ∷ 2 ∷ 4 ∷ 1 ∷ 3 ∷ 5 ∷ 7 ∷ []) $ fjoin3 ! $ done !)))

  -- ---- and back, at what is said of each name at the end
  pub comes_back : (κ : Lft) (g : Names) (h : FsIndexes) (P : Fml)
      → ent 𝓤 (𝓛.A.dead κ ∗ Kept κ g ∗ ⟦ Said g h P ⟧) (H.⇛ ⟦ (mem T.the_row).own_at h b o ⟧)
  comes_back κ g h P =
      qed 𝓛 (‵ (fdead κ) ∷ (‵ (kept_at b o Used 0 κ g.0) ⊛ ‵ (kept_at b o Tags 256 κ g.1.0) ⊛ ‵ (kept_at b o u8 1280 κ g.1.1) ⊛ raw (all 𝓤 Way))
      ∷ ‵ (Said g h P) ∷ []) ∵ updating ! $
      move ! (2 ∷ []) $ fsplit ! $ move ! (1 ∷ []) $ fsplit ! $ move ! (1 ∷ []) $ fsplit ! $ move ! (5 ∷ []) $ split ! $ move ! (1 ∷ []) $ split ! $ move ! (1 ∷ []) $ split ! $
      move ! (8 ∷ []) $ use1 𝓛 (‵ (fdead κ) ⊛ ‵ (fdead κ)) (𝓛.lfts.dead_dup κ) $ split ! $ use1 𝓛 (‵ (fdead κ) ⊛ ‵ (fdead κ)) (𝓛.lfts.dead_dup κ) $ split ! $
      -- [κ is over, three times; the counter's kept; the way back; tags' kept; used's kept; what is said of the counter; P; of tags; of used]
      move ! (0 ∷ 3 ∷ 7 ∷ []) $ use3 𝓛 (later (‵ (part_at u8 full_share h.next_super b (o + 1280)))) (ref_back 𝓛 u8 κ g.1.1 h.next_super b (o + 1280)) $ await ! tt $
      move ! (1 ∷ 4 ∷ 7 ∷ []) $ use3 𝓛 (later (‵ (part_at Tags full_share h.tags b (o + 256)))) (ref_back 𝓛 Tags κ g.1.0 h.tags b (o + 256)) $ await ! tt $
      move ! (2 ∷ 4 ∷ 6 ∷ []) $ use3 𝓛 (later (‵ (part_at Used full_share h.used b (o + 0)))) (ref_back 𝓛 Used κ g.0 h.used b (o + 0)) $ await ! tt $
      -- [used; tags; the counter; the way back; P]
      at_once ! $ nothing ! $ move ! (3 ∷ 0 ∷ []) $ fjoin ! $ move ! (2 ∷ 0 ∷ []) $ fjoin ! $ move ! (1 ∷ 0 ∷ []) $ fjoin ! $
      keep ! (1 ∷ 0 ∷ []) $ use1 𝓛 (raw (Way h)) (all_e 𝓤 Way h) $ move ! (1 ∷ 0 ∷ []) $ use2 𝓛 (‵ ((mem T.the_row).own_at h b o)) (apply∗ 𝓤 ⟦ apart_at h ⟧ ⟦ (mem T.the_row).own_at h b o ⟧) $ done !
