-- The answers of the inner functions are known by their meaning. Assumes nothing.
use mathlib.Core.Path.{◌≡◌, refl, sym, ap, ◌∙◌}
use Rattle.std.specs.Prelude.{ℕ, Option, None, Some}
use Rattle.rules.specs.Tree.{Mount}
use Rattle.tables.specs.Answer.{mount_of_point, mount_in}
use Rattle.tables.specs.declared.mounts.MountPoint.{MountPoint}

-- a node, a row, a tag: two answers of which the same is said are equal
pub found_in_injective : (x a b : Option ℕ) → a ≡ x → b ≡ x → a ≡ b
found_in_injective x a b p q = p ∙ sym q

pub row_in_injective : (x a b : Option ℕ) → a ≡ x → b ≡ x → a ≡ b
row_in_injective = found_in_injective

pub tag_in_injective : (x a b : Option ℕ) → a ≡ x → b ≡ x → a ≡ b
tag_in_injective = found_in_injective

-- a mount
point_injective : (m k : MountPoint) → mount_of_point m ≡ mount_of_point k → m ≡ k
point_injective m k e =
    same (ap (λ (x : Mount). x.index) e) (ap (λ (x : Mount). x.root) e) (ap (λ (x : Mount). x.uid) e) (ap (λ (x : Mount). x.gid) e) (ap (λ (x : Mount). x.mode) e)
  where
    same : m.fs_idx ≡ k.fs_idx → m.root ≡ k.root → m.uid ≡ k.uid → m.gid ≡ k.gid → m.mode ≡ k.mode → m ≡ k
    same a b c d f = rw (a, b, c, d, f)

pub mount_in_injective : (a b : Option MountPoint) → mount_in a ≡ mount_in b → a ≡ b
mount_in_injective (Some m) (Some k) e = let h : mount_of_point m ≡ mount_of_point k = cc in ap Some (point_injective m k h)
mount_in_injective (Some m) None e = cc
mount_in_injective None (Some k) e = cc
mount_in_injective None None e = refl
