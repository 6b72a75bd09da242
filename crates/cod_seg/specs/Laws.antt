-- What the steps keep.
use Rattle.std.specs.Prelude.{◌≡◌, ℕ, ◌+◌, ◌<◌, ◌≤◌, List, length, true, false, Some, zero, suc, if◌then◌else◌}
use Rattle.std.specs.List.{filter, flat_map}
use Rattle.cod_types.specs.Limits.{floor}
use Rattle.cod_types.specs.Overwritten.{byte_of}
use Rattle.cod_code.specs.Segments.{column, column_byte}
use Rattle.cod_layout.specs.Blocks.{block_of}
use Rattle.cod_chronicle.specs.Said.{bytes_of, is_over}
use Rattle.cod_claims.specs.declared.claim.Claim.{Claim}
use Rattle.cod_claims.specs.Claimed.{claim_at, is_noted, kept_of}
use Rattle.cod_parity.specs.Log.{is_past, Logged, text}
use Rattle.cod_parity.specs.State.{Means}
use Rattle.cod_parity.specs.Held.{HasValue}
use Rattle.cod_data.specs.Values.{HasValue as BlockHas}
use Rattle.cod_seg.specs.Seg.{Col, col_at, Seg}
use Rattle.cod_seg.specs.Sound.{Sound}
use Rattle.cod_seg.specs.Start.{IsNew}
use Rattle.cod_seg.specs.Steps.{added_to, Aims, Answers, Applies, Begins, Commits, Fills, Goes, Grows, length_for, Loses, Marks, Moves, Notes, own_byte, Puts}
use Rattle.cod_seg.specs.Steps.{Rises, Spoils, Works}

abbrev pub CommitKeeps : Type 0
CommitKeeps = (s t : Seg) → Sound s → Commits s t → Sound t

abbrev pub BeginKeeps : Type 0
BeginKeeps = (s t : Seg) → Sound s → Begins s t → Sound t

abbrev pub ApplyKeeps : Type 0
ApplyKeeps = (s t : Seg) (j : ℕ) → Sound s → Applies j s t → Sound t

abbrev pub NoteKeeps : Type 0
NoteKeeps = (s t : Seg) (j i : ℕ) → s.site.shape.k ≤ i → i < s.site.shape.n → Sound s → Notes j i s t → Sound t

abbrev pub PutKeeps : Type 0
PutKeeps = (s t : Seg) → Sound s → Puts s t → Sound t

abbrev pub SpoilKeeps : Type 0
SpoilKeeps = (s t : Seg) → Sound s → Spoils s t → Sound t

abbrev pub AnswerKeeps : Type 0
AnswerKeeps = (s t : Seg) → Sound s → Answers s t → Sound t

abbrev pub LossKeeps : Type 0
LossKeeps = (s t : Seg) → Sound s → Loses s t → Sound t

abbrev pub MarkKeeps : Type 0
MarkKeeps = (s t : Seg) (i : ℕ) → i < s.site.shape.n → Sound s → Marks i s t → Sound t

abbrev pub WorkKeeps : Type 0
WorkKeeps = (s t : Seg) (i : ℕ) → i < s.site.shape.n → Sound s → Works i s t → Sound t

abbrev pub AimKeeps : Type 0
AimKeeps = (s t : Seg) → Sound s → Aims s t → Sound t

abbrev pub FillKeeps : Type 0
FillKeeps = (s t : Seg) → Sound s → Fills s t → Sound t

abbrev pub RiseKeeps : Type 0
RiseKeeps = (s t : Seg) → Sound s → Rises s t → Sound t

abbrev pub MoveKeeps : Type 0
MoveKeeps = (s t : Seg) (i : ℕ) → i < s.site.shape.n → Sound s → Moves i s t → Sound t

abbrev pub GoingKeeps : Type 0
GoingKeeps = (s t : Seg) → Sound s → Goes s t → Sound t

-- the records past the cut of a parity column that is up have no more bytes than the floor, so a tick keeps them
abbrev pub FloorHasRoom : Type 0
FloorHasRoom = (s : Seg) (i : ℕ) → Sound s → is_over s.site s.log ≡ false → s.site.shape.k ≤ i → i < s.site.shape.n → (col_at s.cols i).is_up ≡ true
    → (base : List ℕ) (records : List Logged) → Means (col_at s.cols i).state base records
    → length (flat_map text (filter (is_past s.cuts) records)) ≤ floor s.site.shape

-- and beside them there is room for the record of a claim that the column hasn't noted
abbrev pub NoteHasRoom : Type 0
NoteHasRoom = (s : Seg) (j i : ℕ) (c : Claim) → Sound s → is_over s.site s.log ≡ false → claim_at s.claims j ≡ Some c
    → s.site.shape.k ≤ i → i < s.site.shape.n → (col_at s.cols i).is_up ≡ true → is_noted i (Some c) ≡ false
    → (base : List ℕ) (records : List Logged) → Means (col_at s.cols i).state base records
    → length (flat_map text (filter (is_past s.cuts) records)) + length_for s.site.shape.k s.version s.cuts j i c ≤ floor s.site.shape

-- what a caller's claims add to a data column is what its claim of that block adds
abbrev pub AddsToData : Type 0
AddsToData = (s : Seg) (i caller x : ℕ) → Sound s → s.site.told ≡ true → i < s.site.shape.k
    → added_to s.site.shape.k s.site.shape.k i caller s.claims x ≡ own_byte caller s.claims x i

abbrev pub NewIsSound : Type 0
NewIsSound = (s : Seg) → IsNew s → Sound s

abbrev pub GoingGrows : Type 0
GoingGrows = (s t : Seg) → Goes s t → Grows s t

-- a data column is its block of the bytes that the chronicle leaves
abbrev pub ColumnsAreBlocks : Type 0
ColumnsAreBlocks = (s : Seg) (j : ℕ) → Sound s → j < s.site.shape.k
    → column s.site.shape.k s.site.shape.block j (bytes_of s.site s.log) ≡ block_of s.site.shape.block j (bytes_of s.site s.log)

-- how many of the first n columns are up
abbrev pub up_below : ℕ → List Col → ℕ
up_below zero cols = 0
up_below (suc n) cols = up_below n cols + (if (col_at cols n).is_up then 1 else 0)

-- where not too many columns are down, at least k are up, from which any column can be had
abbrev pub EnoughAreUp : Type 0
EnoughAreUp = (s : Seg) → Sound s → is_over s.site s.log ≡ false → s.site.shape.k ≤ up_below s.site.shape.n s.cols

-- and each that is up has at the cut the value that the code gives it
abbrev pub HaveValues : Type 0
HaveValues = (s : Seg) (i : ℕ) → Sound s → s.site.told ≡ true → is_over s.site s.log ≡ false
    → (i < s.site.shape.k → (col_at s.cols i).is_up ≡ true
    → BlockHas (col_at s.cols i).state.device (byte_of (kept_of (claim_at s.claims i)))
    (column_byte s.site.shape.k s.site.shape.block i (bytes_of s.site s.log)))
    × (s.site.shape.k ≤ i → i < s.site.shape.n → (col_at s.cols i).is_up ≡ true
    → HasValue (col_at s.cols i).state s.cuts (column_byte s.site.shape.k s.site.shape.block i (bytes_of s.site s.log)))
