-- What reads of columns make of a segment.
use Rattle.std.specs.Prelude.{◌≡◌, ℕ, ◌+◌, ◌^◌, ◌<◌, ◌≤◌, ◌==◌, if◌then◌else◌, Bool, true, false, List, [], ◌∷◌, length, Option, All}
use Rattle.cod_types.specs.Limits.{Shape}
use Rattle.cod_types.specs.Plain.{bytes_at}
use Rattle.cod_code.specs.Segments.{column_byte}
use Rattle.cod_claims.specs.declared.claim.Claim.{Claim}
use Rattle.cod_repair.specs.Columns.{HasValue}
use Rattle.cod_repair.specs.Pieces.{kept_byte}
use Rattle.cod_layout.specs.Blocks.{block_of, blocks_of, read_parts}
use Rattle.cod_layout.specs.Parts.{IsInside}
use Rattle.cod_layout.specs.declared.parts.Part.{Part}
use Rattle.cod_chronicle.specs.Event.{Request, Setting}
use Rattle.cod_chronicle.specs.Said.{bytes_of, is_over, numbers_by}
use Rattle.cod_seg.specs.Calls.{block_reads, costs, is_source}
use Rattle.cod_seg.specs.Laws.{up_below}
use Rattle.cod_seg.specs.Seg.{Col, col_at, Seg}
use Rattle.cod_seg.specs.Sound.{Sound}
use Rattle.cod_segment.specs.Events.{Counts, IsSettingOf, Makes, NoneFails}

-- whether column i is read for bytes of block j: its own column is, where that is up, and else each source
abbrev pub is_read_for : (k : ℕ) → List Col → (j i : ℕ) → Bool
is_read_for k cols j i = if (col_at cols j).is_up then j == i else is_source k cols i

-- the reads of column i for the bytes of these parts
abbrev pub part_reads : (k : ℕ) → List Col → List Part → (i : ℕ) → ℕ
part_reads k cols [] i = 0
part_reads k cols (part ∷ parts) i = block_reads k cols part.block i + part_reads k cols parts i

-- how many bytes these parts have
abbrev pub part_bytes : List Part → ℕ
part_bytes [] = 0
part_bytes (part ∷ parts) = part.len + part_bytes parts

-- Columns were read, and those that failed went down; nothing else has changed. Where none failed, column i was read `count i` times.
pub record Reads (count : ℕ → ℕ) (t after : ℕ) (s u : Seg) : Type 0 where
  pub makes : (w : Setting) (r : Request) → IsSettingOf w s → Makes w r t after false s u
  pub sound : Sound u
  pub becomes : u ≡ record s { cols = u.cols; log = u.log }
  pub rooms : (i : ℕ) → (col_at u.cols i).room ≡ (col_at s.cols i).room
  pub falls : (i : ℕ) → (col_at u.cols i).is_up ≡ true → (col_at s.cols i).is_up ≡ true
  pub long : length u.log + up_below s.site.shape.n u.cols ≤ length s.log + up_below s.site.shape.n s.cols
  pub numbers : (who : ℕ) → numbers_by who u.log ≡ numbers_by who s.log
  pub bytes : bytes_of s.site u.log ≡ bytes_of s.site s.log
  pub counts : NoneFails s u → (i : ℕ) → i < s.site.shape.n
      → Counts (costs (count i) 0) (col_at s.cols i).state.device (col_at u.cols i).state.device

-- each column that is up has at the cut the value of that column of these bytes
abbrev pub HaveValues : Shape → (b : List ℕ) → List (Option Claim) → (cuts : List ℕ) → List Col → Type 0
HaveValues g b claims cuts cols = (i : ℕ) → i < g.n → (col_at cols i).is_up ≡ true → HasValue (col_at cols i) cuts (kept_byte claims i) (column_byte g.k g.block i b)

-- Bytes of data block j may be read: n of them, from this place on. There is room for a mark of each column that is up.
pub record MayRead (s : Seg) (j off n : ℕ) : Type 0 where
  pub sound : Sound s
  pub few : is_over s.site s.log ≡ false
  pub room : length s.log + up_below s.site.shape.n s.cols < 2 ^ 63
  pub among : j < s.site.shape.k
  pub inside : off + n ≤ s.site.shape.block

-- These are the bytes of block j from this place on, where regions tell what they hold.
abbrev pub Brings : (s : Seg) (j off : ℕ) → (bytes : List ℕ) → Type 0
Brings s j off bytes = s.site.told ≡ true → bytes ≡ bytes_at (block_of s.site.shape.block j (bytes_of s.site s.log)) off (length bytes)

-- The parts of a range may be read: each lies in a block. There is room for a mark of each column that is up.
pub record MayReadAll (s : Seg) (parts : List Part) (n : ℕ) : Type 0 where
  pub sound : Sound s
  pub few : is_over s.site s.log ≡ false
  pub room : length s.log + up_below s.site.shape.n s.cols < 2 ^ 63
  pub inside : All (IsInside s.site.shape.k s.site.shape.block) parts
  pub fits : part_bytes parts ≡ n

-- These are the bytes of the parts, one behind the other, where regions tell what they hold.
abbrev pub BringsAll : (s : Seg) → List Part → (bytes : List ℕ) → Type 0
BringsAll s parts bytes = s.site.told ≡ true → bytes ≡ read_parts (blocks_of s.site.shape.k s.site.shape.block (bytes_of s.site s.log)) parts
