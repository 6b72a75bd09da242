-- The ranges of a record as they are read from its text.
use Rattle.std.proofs.Common.{◌≡◌, ℕ, ◌+◌, ◌<◌, ◌≤◌, ◌^◌, List, [], ◌∷◌, ◌++◌, length, take, drop, get_or, refl, sym, ap, ◌∙◌, arith, inl, inr, subst, length-append, length-drop}
use Rattle.std.proofs.lemmas.List.{append_assoc, take_at, drop_at, drop-drop}
use Rattle.byteorder.specs.Endian.{big_bytes, big_number}
use Rattle.byteorder.specs.Numbers.{big_number-reads_back, length-bytes_high_first}
use Rattle.cod_record.specs.Record.{Range, Record, range_text, ranges_text, count_text, record_text, IsRecord}
use Rattle.cod_record.specs.Sparse.{ranges_length}
use Rattle.cod_record.specs.Spans.{AreInside, HaveBytes, span, spans_from, spans_of, spans_read}
use Rattle.cod_record.specs.declared.parts.Span.{Span}
use Rattle.cod_record.proofs.Lengths.{length-ranges_text}
use Rattle.cod_record.proofs.Reading_back.{front_of, numbers, version_first}
use Rattle.cod_record.proofs.Texts.{AreSmall, IsSmall, length-range_text, small}

-- what stands at the front of a range's text
record Front (text : List ℕ) (g : Range) (rest : List ℕ) : Type 0 where
  pub off : big_number 4 text ≡ g.off
  pub len : big_number 4 (drop 4 text) ≡ length g.bytes
  pub bytes : take (length g.bytes) (drop 8 text) ≡ g.bytes
  pub behind : drop (8 + length g.bytes) text ≡ rest
  pub room : 8 + length g.bytes ≤ length text

front : (text : List ℕ) (g : Range) (rest : List ℕ) → IsSmall g → text ≡ range_text g ++ rest → Front text g rest
unfolding range_text
front text g rest fits is =
    let b1 : List ℕ = big_bytes 4 g.off in
    let b2 : List ℕ = big_bytes 4 (length g.bytes) in
    let whole : text ≡ b1 ++ (b2 ++ (g.bytes ++ rest)) = is ∙ append_assoc b1 (b2 ++ g.bytes) rest ∙ ap (λ (l : List ℕ). b1 ++ l) (append_assoc b2 g.bytes rest) in
    let four : drop 4 text ≡ b2 ++ (g.bytes ++ rest) = ap (drop 4) whole ∙ drop_at b1 (b2 ++ (g.bytes ++ rest)) 4 (length-bytes_high_first 4 g.off) in
    let eight : drop 8 text ≡ g.bytes ++ rest = sym (drop-drop 4 4 text) ∙ ap (drop 4) four ∙ drop_at b2 (g.bytes ++ rest) 4 (length-bytes_high_first 4 (length g.bytes)) in
    record {
      off = ap (big_number 4) whole ∙ big_number-reads_back 4 g.off (b2 ++ (g.bytes ++ rest)) fits.0;
      len = ap (big_number 4) four ∙ big_number-reads_back 4 (length g.bytes) (g.bytes ++ rest) fits.1;
      bytes = ap (take (length g.bytes)) eight ∙ take_at g.bytes rest (length g.bytes) refl;
      behind = ap (drop (8 + length g.bytes)) is ∙ drop_at (range_text g) rest (8 + length g.bytes) (length-range_text g);
      room = omega (arith, ap length is, length-append (range_text g) rest, length-range_text g);
    }

-- what is read of ranges from a place on
record Spanned (text : List ℕ) (at : ℕ) (gs : List Range) : Type 0 where
  pub spans : spans_read (length gs) at text ≡ spans_from at gs
  pub are : AreInside (length gs) at text
  pub bytes : HaveBytes text (spans_from at gs) gs

spanned : (text : List ℕ) (at : ℕ) (gs : List Range) (rest : List ℕ) → AreSmall gs → drop at text ≡ ranges_text gs ++ rest → at + ranges_length gs < 2 ^ 32 → at ≤ length text → Spanned text at gs
spanned text at [] rest are is fits low = record { spans = refl; are = tt; bytes = tt }
spanned text at (g ∷ gs) rest are is fits low =
    let f = front (drop at text) g (ranges_text gs ++ rest) are.0 (is ∙ append_assoc (range_text g) (ranges_text gs) rest) in
    let n = length g.bytes in
    let sum : ranges_length (g ∷ gs) ≡ (8 + n) + ranges_length gs = refl in
    let len : big_number 4 (drop (at + 4) text) ≡ n = sym (ap (big_number 4) (drop-drop 4 at text)) ∙ f.len in
    let next : at + (8 + n) ≡ (at + 8) + n = omega arith in
    let behind : drop ((at + 8) + n) text ≡ ranges_text gs ++ rest = ap (λ k. drop k text) (sym next) ∙ sym (drop-drop (8 + n) at text) ∙ f.behind in
    let room : (at + 8) + n ≤ length text = omega (arith, f.room, length-drop at text) in
    let others = spanned text ((at + 8) + n) gs rest are.1 behind (omega (arith, fits, sum)) room in
    let high : (at + 8) + n < 2 ^ 32 = omega (arith, fits, sum) in
    let here : take n (drop (at + 8) text) ≡ g.bytes = sym (ap (take n) (drop-drop 8 at text)) ∙ f.bytes in
    let I : ℕ → Type 0 = λ m. ((at + 8) + m ≤ length text) × ((at + 8) + m < 2 ^ 32) × AreInside (length gs) ((at + 8) + m) text in
    record {
      spans = (λ i. span (f.off i) (len i) (at + 8) ∷ spans_read (length gs) ((at + 8) + len i) text)
          ∙ ap (λ (l : List Span). span g.off n (at + 8) ∷ l) others.spans;
      are = subst I (sym len) (room, high, others.are);
      bytes = (room, here, others.bytes);
    }

-- the ranges' texts stand behind the numbers
ranges_first : (r : Record) (text : List ℕ) (n : ℕ) → IsRecord 1 r (take n text)
    → (drop 11 text ≡ ranges_text r.ranges ++ drop n text) × (11 + ranges_length r.ranges < 2 ^ 32) × (11 ≤ length text)
unfolding record_text count_text
ranges_first r text n is =
    let rest : List ℕ = drop n text in
    let all : List ℕ = ranges_text r.ranges in
    let told : List ℕ = 1 ∷ (big_bytes 2 r.block ++ big_bytes 8 r.number) in
    let grouped : (big_bytes 2 r.block ++ (big_bytes 8 r.number ++ ([] ++ all))) ++ rest ≡ (big_bytes 2 r.block ++ big_bytes 8 r.number) ++ (all ++ rest) = simp append_assoc in
    let whole : text ≡ told ++ (all ++ rest) = front_of n text (record_text 1 r) is.text_is ∙ ap (λ (l : List ℕ). 1 ∷ l) grouped in
    let len : length (record_text 1 r) ≡ 11 + length all = omega arith in
    (ap (drop 11) whole ∙ drop_at told (all ++ rest) 11 refl, omega (arith, len, ap length is.text_is, length-ranges_text r.ranges, is.size), omega (arith, ap length whole))

ranges_second : (r : Record) (text : List ℕ) (n : ℕ) → IsRecord 2 r (take n text)
    → (drop 13 text ≡ ranges_text r.ranges ++ drop n text) × (13 + ranges_length r.ranges < 2 ^ 32) × (13 ≤ length text)
unfolding record_text count_text
ranges_second r text n is =
    let rest : List ℕ = drop n text in
    let all : List ℕ = ranges_text r.ranges in
    let count : List ℕ = big_bytes 2 (length r.ranges) in
    let told : List ℕ = 2 ∷ ((big_bytes 2 r.block ++ big_bytes 8 r.number) ++ count) in
    let grouped : (big_bytes 2 r.block ++ (big_bytes 8 r.number ++ (count ++ all))) ++ rest ≡ ((big_bytes 2 r.block ++ big_bytes 8 r.number) ++ count) ++ (all ++ rest) = simp append_assoc in
    let whole : text ≡ told ++ (all ++ rest) = front_of n text (record_text 2 r) is.text_is ∙ ap (λ (l : List ℕ). 2 ∷ l) grouped in
    let len : length (record_text 2 r) ≡ 13 + length all = omega arith in
    (ap (drop 13) whole ∙ drop_at told (all ++ rest) 13 refl, omega (arith, len, ap length is.text_is, length-ranges_text r.ranges, is.size), omega (arith, ap length whole))

-- a record that begins a text, as its ranges are read
pub record OneSpanned (text : List ℕ) (r : Record) : Type 0 where
  pub spans : spans_read 1 11 text ≡ spans_of 1 r
  pub are : AreInside 1 11 text
  pub bytes : HaveBytes text (spans_of 1 r) r.ranges

pub one_spanned : (r : Record) (text : List ℕ) (n : ℕ) → IsRecord 1 r (take n text) → OneSpanned text r
one_spanned r text n is =
    let stands = ranges_first r text n is in
    let one : length r.ranges ≡ 1 = ap length (is.first_version refl).is in
    let all = spanned text 11 r.ranges (drop n text) (small 1 r (take n text) is) stands.0 stands.1 stands.2 in
    let I : ℕ → Type 0 = λ k. AreInside k 11 text in
    record { spans = ap (λ k. spans_read k 11 text) (sym one) ∙ all.spans; are = subst I one all.are; bytes = all.bytes }

pub record ManySpanned (text : List ℕ) (r : Record) : Type 0 where
  pub count : big_number 2 (drop 11 text) ≡ length r.ranges
  pub long : 13 ≤ length text
  pub spans : spans_read (length r.ranges) 13 text ≡ spans_of 2 r
  pub are : AreInside (length r.ranges) 13 text
  pub bytes : HaveBytes text (spans_of 2 r) r.ranges

pub many_spanned : (r : Record) (text : List ℕ) (n : ℕ) → IsRecord 2 r (take n text) → ManySpanned text r
many_spanned r text n is =
    let stands = ranges_second r text n is in
    let all = spanned text 13 r.ranges (drop n text) (small 2 r (take n text) is) stands.0 stands.1 stands.2 in
    record { count = (numbers text r n is).count; long = stands.2; spans = all.spans; are = all.are; bytes = all.bytes }

-- which version a record is that begins a text
pub is_second : (version n : ℕ) (r : Record) (text : List ℕ) → IsRecord version r (take n text) → get_or text 0 0 ≡ 2 → version ≡ 2
is_second version n r text is two = sym (version_first version n r text is) ∙ two

pub is_first : (version n : ℕ) (r : Record) (text : List ℕ) → IsRecord version r (take n text) → (get_or text 0 0 ≡ 2 → ⊥) → version ≡ 1
is_first version n r text is other = elim is.known [
  | inl one ↦ one
  | inr two ↦ absurd (other (version_first version n r text is ∙ two))
]

pub long : (version n : ℕ) (r : Record) (text : List ℕ) → IsRecord version r (take n text) → 11 ≤ length text
long version n r text is =
    let P : ℕ → Type 0 = λ v. IsRecord v r (take n text) in
    elim is.known [
      | inl one ↦ (ranges_first r text n (subst P one is)).2
      | inr two ↦ omega (arith, (ranges_second r text n (subst P two is)).2)
    ]
