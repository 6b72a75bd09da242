-- Records of the second version, read range by range.
use Rattle.std.proofs.Common.{◌≡◌, ℕ, suc, ◌+◌, ◌-◌, ◌<◌, ◌≤◌, ◌^◌, List, [], ◌∷◌, ◌++◌, length, take, drop, get_or, refl, sym, ap, ◌∙◌, arith, inr, subst, length-append, length-drop, Result, Ok, Err}
use Rattle.std.proofs.Common.{IfOk, OnErr}
use Rattle.std.proofs.Math.Seq.{take-add}
use Rattle.std.proofs.lemmas.List.{append_assoc, take_at, drop_at, drop-drop, take-append-drop, length-take, length-take-le}
use Rattle.byteorder.specs.Endian.{big_bytes, big_number}
use Rattle.byteorder.specs.Numbers.{big_number-reads_back, length-bytes_high_first}
use Rattle.cod_record.specs.Record.{Range, range, Record, end_of, range_text, ranges_text, count_text, record_text, AreSparse, IsSparseRange, IsRecord}
use Rattle.cod_record.specs.Sparse.{ranges_length, ranges_of}
use Rattle.cod_record.specs.Reading.{BeginsRange, IsFound, found_of}
use Rattle.cod_record.specs.declared.parts.Found.{Found}
use Rattle.cod_record.specs.declared.parts.NotARecord.{NotARecord}
use Rattle.cod_record.proofs.Bytes.{IsBytes, bytes_drop, read_back}
use Rattle.cod_record.proofs.Lengths.{length-ranges_text}
use Rattle.cod_record.proofs.Ranges.{same_ranges}
use Rattle.cod_record.proofs.Splitting.{ranges_of-bytes, ranges_of-sparse}
use Rattle.cod_record.proofs.Texts.{length-range_text, same_record}

-- bytes that are one range have it as their ranges
pub whole_range : (off : ℕ) (bytes : List ℕ) → IsSparseRange (range off bytes) → ranges_of off bytes ≡ range off bytes ∷ []
whole_range off bytes is =
    same_ranges (ranges_of off bytes) (range off bytes ∷ []) off off (ranges_of-sparse off bytes is.fits) (omega arith, is, tt) (ranges_of-bytes off bytes is.fits)

first_bytes : List Range → List ℕ
first_bytes [] = []
first_bytes (g ∷ gs) = g.bytes

-- a range that begins bytes is all of them, where they are one
pub same_end : (off e : ℕ) (bytes : List ℕ) (gs : List Range) → e ≤ length bytes → IsSparseRange (range off bytes) → ranges_of off bytes ≡ range off (take e bytes) ∷ gs → e ≡ length bytes
unfolding first_bytes
same_end off e bytes gs high is first =
    let same : take e bytes ≡ bytes = ap first_bytes (sym first ∙ whole_range off bytes is) in
    sym (length-take-le e bytes high) ∙ ap length same

-- and is one where it is all
pub is_one : (off : ℕ) (bytes : List ℕ) (gs : List Range) → off + length bytes < 2 ^ 32 → ranges_of off bytes ≡ range off bytes ∷ gs → IsSparseRange (range off bytes)
is_one off bytes gs fits first =
    let P : List Range → Type 0 = λ hs. AreSparse off hs in
    (subst P first (ranges_of-sparse off bytes fits)).1

-- the first range of bytes, at their front
pub at_front : (off e : ℕ) (bytes : List ℕ) (gs : List Range) → ranges_of (off + 0) (drop 0 bytes) ≡ range (off + 0) (take (e - 0) (drop 0 bytes)) ∷ gs
    → ranges_of off bytes ≡ range off (take e bytes) ∷ gs
at_front off e bytes gs first =
    let same_off : off ≡ off + 0 = omega arith in
    let same_end : e - 0 ≡ e = omega arith in
    ap (λ n. ranges_of n bytes) same_off ∙ first ∙ ap (λ n. range n (take (e - 0) bytes) ∷ gs) (sym same_off) ∙ ap (λ n. range off (take n bytes) ∷ gs) same_end

-- a prefix, and what is behind it
pub front_of : (n : ℕ) (text front : List ℕ) → take n text ≡ front → text ≡ front ++ drop n text
front_of n text front is = sym (take-append-drop n text) ∙ ap (λ (l : List ℕ). l ++ drop n text) is

-- what stands at the front of a text that a range begins
pub record Heads (text : List ℕ) (g : Range) : Type 0 where
  pub off : big_number 4 text ≡ g.off
  pub len : big_number 4 (drop 4 text) ≡ length g.bytes
  pub bytes : take (length g.bytes) (drop 8 text) ≡ g.bytes
  pub room : 8 + length g.bytes ≤ length text

pub heads : (text : List ℕ) (from : ℕ) (g : Range) → BeginsRange text from g → Heads text g
unfolding range_text
heads text from g is =
    let rest : List ℕ = drop (8 + length g.bytes) text in
    let b1 : List ℕ = big_bytes 4 g.off in
    let b2 : List ℕ = big_bytes 4 (length g.bytes) in
    let whole : text ≡ b1 ++ (b2 ++ (g.bytes ++ rest)) = front_of (8 + length g.bytes) text (range_text g) is.text_is ∙ append_assoc b1 (b2 ++ g.bytes) rest
    ∙ ap (λ (l : List ℕ). b1 ++ l) (append_assoc b2 g.bytes rest) in
    let four : drop 4 text ≡ b2 ++ (g.bytes ++ rest) = ap (drop 4) whole ∙ drop_at b1 (b2 ++ (g.bytes ++ rest)) 4 (length-bytes_high_first 4 g.off) in
    let eight : drop 8 text ≡ g.bytes ++ rest = sym (drop-drop 4 4 text) ∙ ap (drop 4) four ∙ drop_at b2 (g.bytes ++ rest) 4 (length-bytes_high_first 4 (length g.bytes)) in
    record {
      off = ap (big_number 4) whole ∙ big_number-reads_back 4 g.off (b2 ++ (g.bytes ++ rest)) (omega (arith, is.is.fits));
      len = ap (big_number 4) four ∙ big_number-reads_back 4 (length g.bytes) (g.bytes ++ rest) (omega (arith, is.is.fits));
      bytes = ap (take (length g.bytes)) eight ∙ take_at g.bytes rest (length g.bytes) refl;
      room = omega (arith, ap length eight, length-append g.bytes rest, length-drop 8 text, is.is.some);
    }

-- one range begins a text
pub one_range : (text : List ℕ) (from from2 : ℕ) (g h : Range) → BeginsRange text from g → BeginsRange text from2 h → g ≡ h
one_range text from from2 g h isg ish =
    let hg = heads text from g isg in
    let hh = heads text from2 h ish in
    let len : length g.bytes ≡ length h.bytes = sym hg.len ∙ hh.len in
    let bytes : g.bytes ≡ h.bytes = sym hg.bytes ∙ ap (λ n. take n (drop 8 text)) len ∙ hh.bytes in
    let off : g.off ≡ h.off = sym hg.off ∙ hh.off in
    (λ i. range (off i) (bytes i))

-- the numbers that were read, and the bytes behind them, are a range's text
pub range_read : (text : List ℕ) (off len from : ℕ) → IsBytes text → off ≡ big_number 4 text → len ≡ big_number 4 (drop 4 text) → 8 + len ≤ length text → from ≤ off
    → IsSparseRange (range off (take len (drop 8 text))) → BeginsRange text from (range off (take len (drop 8 text)))
unfolding range_text
range_read text off len from small off_is len_is room low is =
    let bytes : List ℕ = take len (drop 8 text) in
    let n : length bytes ≡ len = length-take-le len (drop 8 text) (omega (arith, length-drop 8 text)) in
    let b1 : take 4 text ≡ big_bytes 4 off = sym (ap (big_bytes 4) off_is ∙ read_back 4 text (omega arith) small) in
    let b2 : take 4 (drop 4 text) ≡ big_bytes 4 (length bytes) =
    sym (ap (big_bytes 4) (n ∙ len_is) ∙ read_back 4 (drop 4 text) (omega (arith, length-drop 4 text)) (bytes_drop 4 text small)) in
    let split : take (8 + len) text ≡ (take 4 text ++ take 4 (drop 4 text)) ++ bytes = take-add 8 len text ∙ ap (λ (l : List ℕ). l ++ bytes) (take-add 4 4 text) in
    record {
      low = low;
      is = is;
      text_is = ap (λ k. take (8 + k) text) n ∙ split ∙ append_assoc (take 4 text) (take 4 (drop 4 text)) bytes
          ∙ ap (λ (l : List ℕ). l ++ (take 4 (drop 4 text) ++ bytes)) b1 ∙ ap (λ (l : List ℕ). big_bytes 4 off ++ (l ++ bytes)) b2;
    }

-- so many ranges begin a text
pub record Begins (text : List ℕ) (from n : ℕ) (gs : List Range) : Type 0 where
  pub count : length gs ≡ n
  pub are : AreSparse from gs
  pub text_is : take (ranges_length gs) text ≡ ranges_text gs

pub nothing : (text : List ℕ) (from : ℕ) → Begins text from 0 []
nothing text from = record { count = refl; are = tt; text_is = refl }

pub begins_more : (text : List ℕ) (from k : ℕ) (g : Range) (gs : List Range) → BeginsRange text from g → Begins (drop (8 + length g.bytes) text) (end_of g + 8) k gs → Begins text from (suc k) (g ∷ gs)
begins_more text from k g gs first rest = record {
  count = omega (arith, rest.count);
  are = (first.low, first.is, rest.are);
  text_is = take-add (8 + length g.bytes) (ranges_length gs) text ∙ ap (λ (l : List ℕ). l ++ take (ranges_length gs) (drop (8 + length g.bytes) text)) first.text_is
      ∙ ap (λ (l : List ℕ). range_text g ++ l) rest.text_is;
}

pub record Split (text : List ℕ) (from k : ℕ) (gs : List Range) : Type 0 where
  pub first : Range
  pub others : List Range
  pub is : gs ≡ first ∷ others
  pub begins : BeginsRange text from first
  pub rest : Begins (drop (8 + length first.bytes) text) (end_of first + 8) k others

pub split : (text : List ℕ) (from k : ℕ) (gs : List Range) → Begins text from (suc k) gs → Split text from k gs
split text from k [] is = absurd (omega (arith, is.count))
split text from k (g ∷ gs) is =
    let n = 8 + length g.bytes in
    let both : take n text ++ take (ranges_length gs) (drop n text) ≡ range_text g ++ ranges_text gs = sym (take-add n (ranges_length gs) text) ∙ is.text_is in
    let room : n ≤ length text = omega (
      arith,
      ap length is.text_is,
      length-take (ranges_length (g ∷ gs)) text,
      length-append (range_text g) (ranges_text gs),
      length-range_text g,
      length-ranges_text gs,
    ) in
    let len : length (take n text) ≡ length (range_text g) = length-take-le n text room ∙ sym (length-range_text g) in
    let front : take n text ≡ range_text g =
    sym (take_at (take n text) (take (ranges_length gs) (drop n text)) (length (take n text)) refl) ∙ ap (take (length (take n text))) both
    ∙ take_at (range_text g) (ranges_text gs) (length (take n text)) (sym len) in
    let behind : take (ranges_length gs) (drop n text) ≡ ranges_text gs =
    sym (drop_at (take n text) (take (ranges_length gs) (drop n text)) (length (take n text)) refl) ∙ ap (drop (length (take n text))) both
    ∙ drop_at (range_text g) (ranges_text gs) (length (take n text)) (sym len) in
    record {
      first = g;
      others = gs;
      is = refl;
      begins = record { low = is.are.0; is = is.are.1; text_is = front };
      rest = record { count = omega (arith, is.count); are = is.are.2; text_is = behind };
    }

-- the ranges of a whole record, of which those from a place on are these
pub record Whole (text : List ℕ) (count at : ℕ) (gs : List Range) : Type 0 where
  pub all : List Range
  pub is : Begins (drop 13 text) 0 count all
  pub size : 13 + ranges_length all ≡ at + ranges_length gs

-- the ranges from a place on, where all are those
pub record Part (text : List ℕ) (at from left : ℕ) (all : List Range) : Type 0 where
  pub gs : List Range
  pub is : Begins (drop at text) from left gs
  pub size : 13 + ranges_length all ≡ at + ranges_length gs

-- whatever ranges are read from a place on, they and those before are the whole
abbrev pub GoesOn : (text : List ℕ) (count at from left : ℕ) → Type 0
GoesOn text count at from left = (gs : List Range) → Begins (drop at text) from left gs → Whole text count at gs

abbrev pub IsPart : (text : List ℕ) (count at from left : ℕ) → Type 0
IsPart text count at from left = (all : List Range) → Begins (drop 13 text) 0 count all → Part text at from left all

pub goes_on : (text : List ℕ) (count at from k : ℕ) (g : Range) → GoesOn text count at from (suc k) → BeginsRange (drop at text) from g → GoesOn text count (at + (8 + length g.bytes)) (end_of g + 8) k
goes_on text count at from k g before first gs is =
    let P : List ℕ → Type 0 = λ l. Begins l (end_of g + 8) k gs in
    let whole = before (g ∷ gs) (begins_more (drop at text) from k g gs first (subst P (sym (drop-drop (8 + length g.bytes) at text)) is)) in
    let sum : ranges_length (g ∷ gs) ≡ (8 + length g.bytes) + ranges_length gs = refl in
    record { all = whole.all; is = whole.is; size = omega (arith, whole.size, sum) }

pub is_part : (text : List ℕ) (count at from k : ℕ) (g : Range) → IsPart text count at from (suc k) → BeginsRange (drop at text) from g → IsPart text count (at + (8 + length g.bytes)) (end_of g + 8) k
is_part text count at from k g before first all is =
    let part = before all is in
    let cut = split (drop at text) from k part.gs part.is in
    let same : cut.first ≡ g = one_range (drop at text) from from cut.first g cut.begins first in
    let P : Range → Type 0 = λ h. Begins (drop (8 + length h.bytes) (drop at text)) (end_of h + 8) k cut.others in
    let Q : List ℕ → Type 0 = λ l. Begins l (end_of g + 8) k cut.others in
    let sum : ranges_length part.gs ≡ (8 + length g.bytes) + ranges_length cut.others = ap ranges_length cut.is ∙ ap (λ (h : Range). ranges_length (h ∷ cut.others)) same in
    record { gs = cut.others; is = subst Q (drop-drop (8 + length g.bytes) at text) (subst P same cut.rest); size = omega (arith, part.size, sum) }

-- the version stands first
pub version_first : (version n : ℕ) (r : Record) (text : List ℕ) → IsRecord version r (take n text) → get_or text 0 0 ≡ version
unfolding record_text
version_first version n r text is = ap (λ (l : List ℕ). get_or l 0 0) (front_of n text (record_text version r) is.text_is)

pub none_long : (gs : List Range) → length gs ≡ 0 → ranges_length gs ≡ 0
none_long [] is = refl
none_long (g ∷ gs) is = absurd (omega arith)

-- what stands at the front of a text that a record of the second version begins
pub record Numbers (text : List ℕ) (r : Record) : Type 0 where
  pub count : big_number 2 (drop 11 text) ≡ length r.ranges
  pub begins : Begins (drop 13 text) 0 (length r.ranges) r.ranges
  pub room : 13 + ranges_length r.ranges ≤ length text
  pub size : 13 + ranges_length r.ranges < 2 ^ 32

pub numbers : (text : List ℕ) (r : Record) (n : ℕ) → IsRecord 2 r (take n text) → Numbers text r
unfolding record_text count_text
numbers text r n is =
    let gs = r.ranges in
    let rest : List ℕ = drop n text in
    let all : List ℕ = ranges_text gs in
    let front : List ℕ = 2 ∷ (big_bytes 2 r.block ++ big_bytes 8 r.number) in
    let counted : List ℕ = big_bytes 2 (length gs) in
    let grouped : (big_bytes 2 r.block ++ (big_bytes 8 r.number ++ (counted ++ all))) ++ rest ≡ (big_bytes 2 r.block ++ big_bytes 8 r.number) ++ (counted ++ (all ++ rest)) = simp append_assoc in
    let whole : text ≡ front ++ (counted ++ (all ++ rest)) = front_of n text (record_text 2 r) is.text_is ∙ ap (λ (l : List ℕ). 2 ∷ l) grouped in
    let eleven : drop 11 text ≡ counted ++ (all ++ rest) = ap (drop 11) whole ∙ drop_at front (counted ++ (all ++ rest)) 11 refl in
    let thirteen : drop 13 text ≡ all ++ rest = sym (drop-drop 2 11 text) ∙ ap (drop 2) eleven ∙ drop_at counted (all ++ rest) 2 refl in
    let text_len : length (take n text) ≡ 13 + length all = ap length is.text_is ∙ (let len : length (record_text 2 r) ≡ 13 + length all = omega arith in len) in
    record {
      count = ap (big_number 2) eleven ∙ big_number-reads_back 2 (length gs) (all ++ rest) is.count;
      begins = record {
        count = refl;
        are = is.second_version refl;
        text_is = ap (take (ranges_length gs)) thirteen ∙ take_at all rest (ranges_length gs) (length-ranges_text gs);
      };
      room = omega (arith, text_len, length-ranges_text gs, length-take n text);
      size = omega (arith, text_len, length-ranges_text gs, is.size);
    }

-- the numbers that stand at the front
front_text : (text : List ℕ) → IsBytes text → 13 ≤ length text → get_or text 0 0 ≡ 2
    → take 13 text ≡ 2 ∷ (big_bytes 2 (big_number 2 (drop 1 text)) ++ (big_bytes 8 (big_number 8 (drop 3 text)) ++ big_bytes 2 (big_number 2 (drop 11 text))))
front_text [] small long kind = absurd (omega arith)
front_text (x ∷ xs) small long kind =
    let s : List ℕ = x ∷ xs in
    let one : take 12 xs ≡ take 2 xs ++ take 10 (drop 2 xs) = take-add 2 10 xs in
    let two : take 10 (drop 2 xs) ≡ take 8 (drop 2 xs) ++ take 2 (drop 8 (drop 2 xs)) = take-add 8 2 (drop 2 xs) in
    let deep : drop 8 (drop 2 xs) ≡ drop 10 xs = drop-drop 8 2 xs in
    let block : take 2 xs ≡ big_bytes 2 (big_number 2 (drop 1 s)) = sym (read_back 2 (drop 1 s) (omega (arith, length-drop 1 s)) (bytes_drop 1 s small)) in
    let number : take 8 (drop 2 xs) ≡ big_bytes 8 (big_number 8 (drop 3 s)) = sym (read_back 8 (drop 3 s) (omega (arith, length-drop 3 s)) (bytes_drop 3 s small)) in
    let count : take 2 (drop 8 (drop 2 xs)) ≡ big_bytes 2 (big_number 2 (drop 11 s)) = ap (take 2) deep ∙ sym (read_back 2 (drop 11 s) (omega (arith, length-drop 11 s)) (bytes_drop 11 s small)) in
    ap (λ (b : ℕ). b ∷ take 12 xs) kind
    ∙ ap (λ (l : List ℕ). 2 ∷ l) (one ∙ ap (λ (l : List ℕ). take 2 xs ++ l) two ∙ (λ i. block i ++ (number i ++ count i)))

-- ranges behind the numbers are a record
pub record_read : (text : List ℕ) (block number count at : ℕ) (all : List Range) → IsBytes text → 13 ≤ length text → get_or text 0 0 ≡ 2
    → block ≡ big_number 2 (drop 1 text) → number ≡ big_number 8 (drop 3 text) → count ≡ big_number 2 (drop 11 text) → block < 2 ^ 16 → number < 2 ^ 64 → count < 2 ^ 16
    → Begins (drop 13 text) 0 count all → 13 + ranges_length all ≡ at → at ≤ length text → at < 2 ^ 32
    → IsRecord 2 (record { block = block; number = number; ranges = all }) (take at text)
unfolding record_text count_text
record_read text block number count at all small long kind block_is number_is count_is block_fits number_fits count_fits begins size room fits =
    let counted : big_number 2 (drop 11 text) ≡ length all = sym count_is ∙ sym begins.count in
    let front : take 13 text ≡ 2 ∷ (big_bytes 2 block ++ (big_bytes 8 number ++ big_bytes 2 (length all))) =
    front_text text small long kind ∙ (λ i. 2 ∷ (big_bytes 2 (sym block_is i) ++ (big_bytes 8 (sym number_is i) ++ big_bytes 2 (counted i)))) in
    let regroup : (big_bytes 2 block ++ (big_bytes 8 number ++ big_bytes 2 (length all))) ++ ranges_text all
    ≡ big_bytes 2 block ++ (big_bytes 8 number ++ (big_bytes 2 (length all) ++ ranges_text all)) = simp append_assoc in
    record {
      known = inr refl;
      block = block_fits;
      number = number_fits;
      first_version = λ one. absurd (omega arith);
      second_version = λ _. begins.are;
      count = omega (arith, begins.count, count_fits);
      size = omega (arith, length-take-le at text room, fits);
      text_is = ap (λ n. take n text) (sym size) ∙ take-add 13 (ranges_length all) text
          ∙ ap (λ (l : List ℕ). l ++ take (ranges_length all) (drop 13 text)) front
          ∙ ap (λ (l : List ℕ). 2 ∷ ((big_bytes 2 block ++ (big_bytes 8 number ++ big_bytes 2 (length all))) ++ l)) begins.text_is
          ∙ ap (λ (l : List ℕ). 2 ∷ l) regroup;
    }

-- the record that begins a text is the one that is found
pub found_only : (f : Found) (size : ℕ) (text : List ℕ) → IsFound f size text → (version : ℕ) (r : Record) (n : ℕ) → IsRecord version r (take n text)
    → (f ≡ found_of version r) × (size ≡ length (record_text version r))
found_only f size text found version r n is =
    let both : take size text ++ drop size text ≡ take n text ++ drop n text = take-append-drop size text ∙ sym (take-append-drop n text) in
    let same = same_record found.version version found.whole r (take size text) (take n text) (drop size text) (drop n text) found.is is both in (
      found.told ∙ (λ i. found_of (same.0 i) (same.1 i)),
      sym (length-take-le size text found.within) ∙ ap length found.is.text_is ∙ (λ i. length (record_text (same.0 i) (same.1 i))),
    )

-- so it is the answer, where an answer without one says that there is none
pub only_from : (text : List ℕ) (answer : Result (Found × ℕ) NotARecord) → IfOk answer (λ found. IsFound found.0 found.1 text)
    → OnErr answer ((version : ℕ) (r : Record) (n : ℕ) → IsRecord version r (take n text) → ⊥)
    → (version : ℕ) (r : Record) (n : ℕ) → IsRecord version r (take n text) → answer ≡ Ok (found_of version r, length (record_text version r))
only_from text (Ok found) is none version r n begins = let same = found_only found.0 found.1 text is version r n begins in (λ i. Ok (same.0 i, same.1 i))
only_from text (Err e) is none version r n begins = absurd (none version r n begins)
