-- Room for the records of claims, and what claims add to a data column.
use Rattle.std.proofs.Common.{◌≡◌, ℕ, ◌+◌, ◌-◌, ◌*◌, ◌<◌, ◌≤◌, max, min, List, length, get_or, map, take, drop, Bool, true, false, cond, refl, sym, ap, ◌∙◌, inl, inr, bit_xor, arith, Some, None}
use Rattle.std.proofs.Common.{Option}
use Rattle.std.specs.Prelude.{is_some}
use Rattle.std.specs.Option.{option_map}
use Rattle.std.specs.List.{filter, flat_map, range_with_len}
use Rattle.std.proofs.lemmas.Nat.{xor_lt}
use Rattle.std.proofs.lemmas.Bool.{cases_lt}
use Rattle.std.proofs.lemmas.List.{get_or_past, length-take}
use Rattle.std.proofs.lemmas.List.FromFn.{length-map-range_with_len, get_or-map-range_with_len}
use Rattle.cod_types.specs.Limits.{Shape, segment_length}
use Rattle.cod_types.specs.Overwritten.{byte_at, byte_of}
use Rattle.cod_types.specs.Plain.{bytes_at}
use Rattle.cod_types.proofs.Replaced.{byte_in, byte_before, byte_after}
use Rattle.cod_layout.specs.declared.parts.Part.{Part}
use Rattle.cod_layout.specs.Parts.{place_of}
use Rattle.cod_code.specs.Codewords.{AreBytes}
use Rattle.cod_code.specs.Columns.{gamma}
use Rattle.cod_code.specs.Segments.{column_byte}
use Rattle.cod_code.proofs.Encoding.{coded_is_codeword}
use Rattle.cod_code.proofs.Sums.{coded_by_sum}
use Rattle.cod_chronicle.specs.declared.entry.Entry.{Entry}
use Rattle.cod_chronicle.specs.Said.{Site, bytes_of}
use Rattle.cod_claims.specs.declared.claim.Claim.{Claim}
use Rattle.cod_claims.specs.Changes.{new_bytes, new_in}
use Rattle.cod_claims.specs.Claimed.{claim_at, delta_of, is_of, noted_length}
use Rattle.cod_parity.specs.Held.{Holds, Piece, pieces_length}
use Rattle.cod_parity.specs.Laws.{AreShort}
use Rattle.cod_parity.specs.Log.{is_past, Logged, scaled, text}
use Rattle.cod_parity.specs.State.{Means, State}
use Rattle.cod_parity.proofs.Pieces.{held_length, piece_most, pieces_fit, record_fits}
use Rattle.cod_parity.proofs.Rooms.{length-scaled}
use Rattle.cod_seg.specs.Seg.{col_at, Seg}
use Rattle.cod_seg.specs.Sound.{begin_of, IsClaim, noted_piece, pending_on, piece_on, Sound}
use Rattle.cod_seg.specs.Steps.{head_for, own_byte}
use Rattle.cod_seg.specs.Laws.{AddsToData, ColumnsAreBlocks, FloorHasRoom, NoteHasRoom}
use Rattle.cod_code.proofs.Segments.{data_column_is_block}
use Rattle.cod_chronicle.proofs.Bytes_kept.{keeps_length}
use Rattle.cod_seg.proofs.Sums.{added_sum}
use Rattle.cod_seg.proofs.Updates.{accepted, range_at}
use Rattle.cod_seg.proofs.Marking.{is_none_of}

delta_short : (site : Site) (log : List Entry) (claims : List (Option Claim)) (j : ℕ) (c : Claim) → IsClaim site log claims j c → length c.delta.bytes ≤ site.shape.update
delta_short site log claims j c is =
    let len : c.delta.part.len ≡ min (begin_of c.delta.call + length (new_bytes c.delta.call)) (j * site.shape.block + site.shape.block) - max (begin_of c.delta.call) (j * site.shape.block) =
    ap (λ (p : Part). p.len) is.part in
    let most = (accepted site.shape c.delta.call is.update is.free).short in
    let size = is.size in
    omega (arith, len, most, size)

piece_short : (g : Shape) (k i j : ℕ) (o : Option Claim) (piece : Piece) → ((c : Claim) → o ≡ Some c → length c.delta.bytes ≤ g.update) → noted_piece k i j o ≡ Some piece
    → length piece.bytes ≤ g.update
piece_short g k i j None piece short e = cc
piece_short g k i j (Some c) piece short e = by (noted_length i (Some c)) e where
  by : (l : Option ℕ) → option_map (λ len. piece_on k i j len c) l ≡ Some piece → length piece.bytes ≤ g.update
  by None e = cc
  by (Some len) e =
      let same : piece_on k i j len c ≡ piece = cc in
      let long : length piece.bytes ≡ length c.delta.bytes = ap (λ (q : Piece). length q.bytes) (sym same) ∙ length-scaled (gamma k i j) c.delta.bytes in
      let s = short c refl in
      omega (arith, long, s)

-- what a column has in flight are short pieces
pub pieces_short : (s : Seg) (i : ℕ) → Sound s → (col_at s.cols i).state.shape ≡ s.site.shape
    → Holds (col_at s.cols i).state s.cuts (column_byte s.site.shape.k s.site.shape.block i (bytes_of s.site s.log)) (pending_on s.site.shape.k s.claims i)
    → AreShort s.site.shape (pending_on s.site.shape.k s.claims i)
pieces_short s i sound shape held j piece e =
    let c = col_at s.cols i in
    let most = piece_most c.state s.cuts (column_byte s.site.shape.k s.site.shape.block i (bytes_of s.site s.log)) (pending_on s.site.shape.k s.claims i) j piece held e in (
      piece_short s.site.shape s.site.shape.k i j (claim_at s.claims j) piece (λ d here. delta_short s.site s.log s.claims j d (sound.claimed.each j d here)) e,
      rw shape at most,
    )

-- a column that means something tells
told_means : (s : State) (base : List ℕ) (records : List Logged) (told : Bool) → is_some s.device.content ≡ told → Means s base records → told ≡ true
told_means s base records told e m = sym e ∙ ap is_some m.content

pub floor_has_room : FloorHasRoom
floor_has_room s i sound few high below live base records means =
    let g = s.site.shape in
    let column = sound.columns.each i below in
    let told = told_means (col_at s.cols i).state base records s.site.told column.tells means in
    let held = (sound.holds told few).parities i high below live in
    let p = pending_on g.k s.claims i in
    let long = held_length (col_at s.cols i).state s.cuts (column_byte g.k g.block i (bytes_of s.site s.log)) p held base records means in
    let long' : length (flat_map text (filter (is_past s.cuts) records)) ≡ pieces_length p g.k = rw column.shape at long in
    let most = pieces_fit g p (pieces_short s i sound column.shape held) in
    omega (arith, long', most)

pub note_has_room : NoteHasRoom
note_has_room s j i c sound few here high below live fresh base records means =
    let g = s.site.shape in
    let column = sound.columns.each i below in
    let is = sound.claimed.each j c here in
    let told = told_means (col_at s.cols i).state base records s.site.told column.tells means in
    let held = (sound.holds told few).parities i high below live in
    let p = pending_on g.k s.claims i in
    let long = held_length (col_at s.cols i).state s.cuts (column_byte g.k g.block i (bytes_of s.site s.log)) p held base records means in
    let long' : length (flat_map text (filter (is_past s.cuts) records)) ≡ pieces_length p g.k = rw column.shape at long in
    let none : p j ≡ None = ap (noted_piece g.k i j) here ∙ ap (option_map (λ len. piece_on g.k i j len c)) (is_none_of (noted_length i (Some c)) fresh) in
    let size = length-scaled (gamma g.k i j) c.delta.bytes in
    let small = delta_short s.site s.log s.claims j c is in
    let most = record_fits g p s.version (head_for s.cuts j c) (scaled (gamma g.k i j) c.delta.bytes) (pieces_short s i sound column.shape held) none is.among
    (omega (arith, size, small)) sound.dated.second in
    omega (arith, long', most)

-- a range of bytes has bytes
at_bytes : (b : List ℕ) (off len : ℕ) → AreBytes b → AreBytes (bytes_at b off len)
at_bytes b off len h i = elim (cases_lt i len) [
  | inl inside ↦ rw (range_at b off len i inside) (h (off + i))
  | inr past ↦ rw (get_or_past (bytes_at b off len) i 0 (let l = length-take len (drop off b) in omega (arith, l, past))) (omega arith)
]

delta_byte : (site : Site) (log : List Entry) (claims : List (Option Claim)) (j x : ℕ) (c : Claim) → AreBytes (bytes_of site log) → site.told ≡ true → IsClaim site log claims j c
    → byte_at x 0 c.delta.part.off c.delta.bytes < 256
delta_byte site log claims j x c plain told is =
    let off = c.delta.part.off in
    elim (cases_lt x off) [
      | inl before ↦ rw (byte_before x 0 off c.delta.bytes before) (omega arith)
      | inr from ↦ elim (cases_lt x (off + length c.delta.bytes)) [
        | inl within ↦
            let d = is.delta told in
            let e : byte_at x 0 off c.delta.bytes ≡ bit_xor (get_or (bytes_at (bytes_of site log) (place_of site.shape.block c.delta.part) c.delta.part.len) (x - off) 0)
            (get_or (new_in c.delta) (x - off) 0) =
            byte_in x 0 off c.delta.bytes from within ∙ d.places (x - off) in
            rw e (xor_lt 8 (get_or (bytes_at (bytes_of site log) (place_of site.shape.block c.delta.part) c.delta.part.len) (x - off) 0) (get_or (new_in c.delta) (x - off) 0)
            (at_bytes (bytes_of site log) (place_of site.shape.block c.delta.part) c.delta.part.len plain (x - off))
            (at_bytes (new_bytes c.delta.call) c.delta.at c.delta.part.len is.bytes (x - off)))
        | inr after ↦ rw (byte_after x 0 off c.delta.bytes after) (omega arith)
      ]
    ]

own_small : (s : Seg) (caller x j : ℕ) → Sound s → s.site.told ≡ true → own_byte caller s.claims x j < 256
own_small s caller x j sound told = go (is_of caller (claim_at s.claims j)) (claim_at s.claims j) refl where
  go : (t : Bool) (o : Option Claim) → claim_at s.claims j ≡ o → cond t (byte_of (delta_of (claim_at s.claims j)) x) 0 < 256
  go false o e = omega arith
  go true None e = rw e (omega arith)
  go true (Some c) e = rw e (delta_byte s.site s.log s.claims j x c sound.history.plain told (sound.claimed.each j c e))

pub adds_to_data : AddsToData
adds_to_data s i caller x sound told low =
    let k = s.site.shape.k in
    let bytes = map (own_byte caller s.claims x) (range_with_len 0 k) in
    let size : length bytes ≡ k = length-map-range_with_len (own_byte caller s.claims x) 0 k in
    let few : k ≤ 256 = let n = sound.shape.most_columns in let m = sound.shape.data_among_columns in omega (arith, n, m) in
    let are : AreBytes bytes = λ j. elim (cases_lt j k) [
      | inl below ↦ rw (get_or-map-range_with_len (own_byte caller s.claims x) 0 k j j 0 below (omega arith)) (own_small s caller x j sound told)
      | inr past ↦ rw (get_or_past bytes j 0 (omega (arith, size, past))) (omega arith)
    ] in
    added_sum k k i caller s.claims x ∙ sym (coded_by_sum k i (own_byte caller s.claims x))
    ∙ (coded_is_codeword k k bytes (omega arith) few size are).1 i low
    ∙ get_or-map-range_with_len (own_byte caller s.claims x) 0 k i i 0 low (omega arith)

-- the columns of the data are the blocks
pub columns_are_blocks : ColumnsAreBlocks
columns_are_blocks s j sound low =
    let g = s.site.shape in
    let b = bytes_of s.site s.log in
    let size : length b ≡ segment_length g = keeps_length s.site s.log sound.history.legal in
    let few : g.k ≤ 256 = let n = sound.shape.most_columns in let m = sound.shape.data_among_columns in omega (arith, n, m) in
    let n : j * g.block + g.block - j * g.block ≡ g.block = omega arith in
    data_column_is_block g.k g.block j b few size sound.history.plain low ∙ ap (λ (m : ℕ). take m (drop (j * g.block) b)) n
