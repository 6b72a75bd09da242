-- What is seen of a segment through its first column.
use Rattle.std.proofs.Common.{◌≡◌, ◌≢◌, ◌⊎◌, inl, inr, ℕ, ◌<◌, ap, ◌∙◌, arith}
use Rattle.std.specs.Prelude.{is_some}
use Rattle.std.proofs.lemmas.Bool.{cases_eq}
use Rattle.cod_seg.specs.Seg.{Col, col_at, Seg, with_col}
use Rattle.cod_seg.specs.Sound.{Sound}
use Rattle.cod_seg.proofs.Keeping.{col_here, col_there}
use Rattle.cod_segment.specs.Views.{pools_by, told_by}

-- there is one
pub some_column : (s : Seg) → Sound s → 0 < s.site.shape.n
some_column s sound = let a = sound.shape.some_data in let b = sound.shape.data_among_columns in omega (arith, a, b)

pub told_is : (s : Seg) → Sound s → told_by s.cols ≡ s.site.told
told_is s sound = (sound.columns.each 0 (some_column s sound)).tells

pub pools_is : (s : Seg) → Sound s → pools_by s.cols ≡ s.pools
pools_is s sound = (sound.columns.each 0 (some_column s sound)).owned

-- with another column in a place
pub told_with : (s : Seg) (i : ℕ) (c : Col) → Sound s → is_some c.state.device.content ≡ s.site.told → told_by (with_col s.cols i c) ≡ s.site.told
told_with s i c sound tells = by (cases_eq 0 i) where
  by : (0 ≡ i) ⊎ (0 ≢ i) → told_by (with_col s.cols i c) ≡ s.site.told
  by (inl here) =
      let size = sound.columns.size in
      let some = some_column s sound in
      ap (λ (x : Col). is_some x.state.device.content) (ap (col_at (with_col s.cols i c)) here ∙ col_here s.cols i c (omega (arith, here, size, some))) ∙ tells
  by (inr there) = ap (λ (x : Col). is_some x.state.device.content) (col_there s.cols i 0 c there) ∙ told_is s sound

pub pools_with : (s : Seg) (i : ℕ) (c : Col) → Sound s → c.room.of ≡ s.pools → pools_by (with_col s.cols i c) ≡ s.pools
pools_with s i c sound owned = by (cases_eq 0 i) where
  by : (0 ≡ i) ⊎ (0 ≢ i) → pools_by (with_col s.cols i c) ≡ s.pools
  by (inl here) =
      let size = sound.columns.size in
      let some = some_column s sound in
      ap (λ (x : Col). x.room.of) (ap (col_at (with_col s.cols i c)) here ∙ col_here s.cols i c (omega (arith, here, size, some))) ∙ owned
  by (inr there) = ap (λ (x : Col). x.room.of) (col_there s.cols i 0 c there) ∙ pools_is s sound
