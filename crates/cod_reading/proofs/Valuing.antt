-- What columns of a sound segment hold, and the bytes that are brought from them.
use Rattle.std.proofs.Common.{◌≡◌, ℕ, ◌+◌, ◌<◌, ◌≤◌, List, length, get_or, drop, true, false, Option, sym, ap, ◌∙◌, subst, arith, inl, inr}
use Rattle.std.proofs.lemmas.Bool.{both_ways, cases_lt}
use Rattle.std.proofs.lemmas.List.{ext_get_or, length-drop, length-take}
use Rattle.cod_types.specs.Limits.{floor, Shape}
use Rattle.cod_types.specs.Plain.{bytes_at}
use Rattle.cod_code.specs.Segments.{column, column_byte}
use Rattle.cod_code.proofs.Segments.{column_at, column_length}
use Rattle.cod_chronicle.specs.Said.{bytes_of, is_over}
use Rattle.cod_claims.specs.declared.claim.Claim.{Claim}
use Rattle.cod_parity.specs.State.{State}
use Rattle.cod_parity.proofs.Rooms.{floor_least}
use Rattle.cod_seg.specs.Seg.{Col, col_at, Seg}
use Rattle.cod_seg.specs.Sound.{Sound}
use Rattle.cod_seg.proofs.Living.{have_values}
use Rattle.cod_seg.proofs.Rooms.{columns_are_blocks}
use Rattle.cod_seg.proofs.Updates.{range_at}
use Rattle.cod_repair.specs.Columns.{AreMadeFor, HasValue, IsMadeFor}
use Rattle.cod_repair.specs.Pieces.{AreOf, kept_byte}
use Rattle.cod_repair.proofs.Choosing.{past_up, source_up}
use Rattle.cod_reading.specs.Reads.{Brings, HaveValues}

-- a data column has no reserve, and a parity column has one
bare : (s : Seg) (i : ℕ) → Sound s → i < s.site.shape.n → i < s.site.shape.k → (col_at s.cols i).state.size ≡ 0
bare s i sound below low = ap (λ (q : State). q.size) ((sound.columns.each i below).plain low)

reserved : (s : Seg) (i : ℕ) → Sound s → i < s.site.shape.n → s.site.shape.k ≤ i → 0 < (col_at s.cols i).state.size
reserved s i sound below high =
    let c = sound.columns.each i below in
    let g = s.site.shape in
    let least = subst (λ (x : Shape). floor x ≤ (col_at s.cols i).state.size) c.shape (c.reserve high).least in
    let some = floor_least g sound.shape in
    let update = sound.shape.some_update in
    omega (arith, least, some, update)

pub made_for : (s : Seg) (i : ℕ) → Sound s → i < s.site.shape.n → IsMadeFor s.site.shape i (col_at s.cols i)
made_for s i sound below = record {
  shape = (sound.columns.each i below).shape;
  bare = λ low. bare s i sound below low;
  block = λ low. (sound.columns.each i below).block low;
  parity = λ high. reserved s i sound below high;
}

pub all_made_for : (s : Seg) → Sound s → AreMadeFor s.site.shape s.cols
all_made_for s sound i below up = made_for s i sound below

-- each column that is up has its value
pub value_of : (s : Seg) (i : ℕ) → Sound s → s.site.told ≡ true → is_over s.site s.log ≡ false → i < s.site.shape.n → (col_at s.cols i).is_up ≡ true
    → HasValue (col_at s.cols i) s.cuts (kept_byte s.claims i) (column_byte s.site.shape.k s.site.shape.block i (bytes_of s.site s.log))
value_of s i sound told few below up = record {
  block = λ none. elim (cases_lt i s.site.shape.k) [
    | inl low ↦ (have_values s i sound told few).0 low up
    | inr high ↦ absurd (let r = reserved s i sound below high in omega (arith, none, r))
  ];
  parity = λ some. elim (cases_lt i s.site.shape.k) [
    | inl low ↦ absurd (let r = bare s i sound below low in omega (arith, some, r))
    | inr high ↦ (have_values s i sound told few).1 high below up
  ];
}

pub values_of : (s : Seg) → Sound s → s.site.told ≡ true → is_over s.site s.log ≡ false → HaveValues s.site.shape (bytes_of s.site s.log) s.claims s.cuts s.cols
values_of s sound told few i below up = value_of s i sound told few below up

-- the sources among those that are up have theirs
pub sources_of : (g : Shape) (b cuts : List ℕ) (claims : List (Option Claim)) (cols : List Col) → length cols ≡ g.n → HaveValues g b claims cuts cols → AreOf g.k g.block b claims cuts cols
sources_of g b cuts claims cols size all i is =
    let up = source_up g.k cols i is in
    elim (cases_lt i g.n) [
      | inl below ↦ all i below up
      | inr past ↦ absurd (both_ways (col_at cols i).is_up (past_up cols i (omega (arith, size, past))) up)
    ]

-- a range of as many bytes
pub range_long : (b : List ℕ) (off len : ℕ) → off + len ≤ length b → length (bytes_at b off len) ≡ len
range_long b off len inside = (let t = length-take len (drop off b) in let d = length-drop off b in omega (arith, t, d, inside))

-- bytes that are those of a column, one by one
pub column_bytes : (g : Shape) (j off len : ℕ) (b bytes : List ℕ) → length bytes ≡ len → off + len ≤ g.block
    → ((x : ℕ) → x < len → get_or bytes x 0 ≡ column_byte g.k g.block j b (off + x)) → bytes ≡ bytes_at (column g.k g.block j b) off len
column_bytes g j off len b bytes long inside each =
    let all = column g.k g.block j b in
    let whole = column_length g.k g.block j b in
    let size : length (bytes_at all off len) ≡ len = range_long all off len (omega (arith, whole, inside)) in
    ext_get_or 0 bytes (bytes_at all off len) (long ∙ sym size)
    (λ x lt. each x (omega (arith, long, lt)) ∙ sym (column_at g.k g.block j b (off + x) (omega (arith, inside, long, lt))) ∙ sym (range_at all off len x (omega (arith, long, lt))))

pub piece_brings : (s : Seg) (j off : ℕ) (bytes : List ℕ) → Sound s → j < s.site.shape.k
    → (s.site.told ≡ true → bytes ≡ bytes_at (column s.site.shape.k s.site.shape.block j (bytes_of s.site s.log)) off (length bytes)) → Brings s j off bytes
piece_brings s j off bytes sound low is told = is told ∙ ap (λ (l : List ℕ). bytes_at l off (length bytes)) (columns_are_blocks s j sound low)
