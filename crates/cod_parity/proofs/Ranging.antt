-- The ranges of a record, which are added to a window one after another.
use Rattle.std.proofs.Common.{◌≡◌, ℕ, ◌+◌, ◌<◌, ◌≤◌, List, [], ◌∷◌, length, take, drop, get_or, refl, sym, ap, ap₂, ◌∙◌, arith, inl, inr, bit_xor}
use Rattle.std.specs.Bool.{⊤}
use Rattle.std.proofs.lemmas.Bool.{cases_lt}
use Rattle.std.specs.Int.Bits.{xor_assoc, xor_zero_l, xor_zero_r}
use Rattle.cod_types.specs.Overwritten.{byte_at}
use Rattle.cod_types.proofs.Replaced.{byte_after}
use Rattle.cod_record.specs.declared.parts.Span.{Span}
use Rattle.cod_record.specs.Record.{AreSparse, end_of, IsRecord, Range, range_byte, Record}
use Rattle.cod_record.specs.Reading.{BeginsRecord}
use Rattle.cod_record.specs.Spans.{first_place, HaveBytes, spans_from, spans_of}
use Rattle.cod_record.proofs.Places.{range_byte-below}

-- the sum of the ranges' bytes at a place
abbrev pub sum_at : List Range → ℕ → ℕ
sum_at [] x = 0
sum_at (g ∷ gs) x = bit_xor (byte_at x 0 g.off g.bytes) (sum_at gs x)

-- ranges that lie apart have at a place the byte of one of them
sum_sparse : (gs : List Range) (from x : ℕ) → AreSparse from gs → sum_at gs x ≡ range_byte gs x
sum_sparse [] from x are = refl
sum_sparse (g ∷ gs) from x are =
    let rest : sum_at gs x ≡ range_byte gs x = sum_sparse gs (end_of g + 8) x are.2 in
    elim (cases_lt x (end_of g)) [
      | inl low ↦
          let none : range_byte gs x ≡ 0 = range_byte-below gs (end_of g + 8) x are.2 (omega arith) in
          ap (bit_xor (byte_at x 0 g.off g.bytes)) (rest ∙ none) ∙ xor_zero_r (byte_at x 0 g.off g.bytes) ∙ ap (λ (y : ℕ). byte_at x y g.off g.bytes) (sym none)
      | inr high ↦
          ap₂ bit_xor (byte_after x 0 g.off g.bytes high) rest ∙ xor_zero_l (range_byte gs x) ∙ sym (byte_after x (range_byte gs x) g.off g.bytes high)
    ]

sum_one : (gs : List Range) (g : Range) (x : ℕ) → gs ≡ g ∷ [] → sum_at gs x ≡ range_byte gs x
sum_one gs g x is = rw is (xor_zero_r (byte_at x 0 g.off g.bytes))

pub sum_record : (version : ℕ) (r : Record) (text : List ℕ) (x : ℕ) → IsRecord version r text → sum_at r.ranges x ≡ range_byte r.ranges x
sum_record version r text x is = elim is.known [
  | inl first ↦ let one = is.first_version first in sum_one r.ranges one.one x one.is
  | inr second ↦ sum_sparse r.ranges 0 x (is.second_version second)
]

-- the places lie inside the text
abbrev pub AreWithin : (text : List ℕ) → List Span → Type 0
AreWithin text [] = ⊤
AreWithin text (s ∷ ss) = (s.at + s.len ≤ length text) × AreWithin text ss

have_within : (text : List ℕ) (ss : List Span) (gs : List Range) → HaveBytes text ss gs → AreWithin text ss
have_within text [] [] have = tt
have_within text (s ∷ ss) (g ∷ gs) have = (have.0, have_within text ss gs have.2)
have_within text (s ∷ ss) [] have = absurd have
have_within text [] (g ∷ gs) have = absurd have

pub begins_within : (text : List ℕ) (ss : List Span) → BeginsRecord text
    → ((version : ℕ) (r : Record) (n : ℕ) → IsRecord version r (take n text) → HaveBytes text ss r.ranges) → AreWithin text ss
begins_within text ss begins have = have_within text ss begins.whole.ranges (have begins.version begins.whole begins.size begins.is)

pub within_first : (text : List ℕ) (left rest : List Span) (s : Span) → left ≡ s ∷ rest → AreWithin text left → (s.at + s.len ≤ length text) × AreWithin text rest
within_first text left rest s is are = rw is at are

-- what is left of the ranges, and what it adds, completes the window
pub record Spanned (text : List ℕ) (spans : List Span) (off : ℕ) (ranges : List Range) (was window : List ℕ) : Type 0 where
  pub place : ℕ
  pub left : List Range
  pub spans_are : spans ≡ spans_from place left
  pub have : HaveBytes text spans left
  pub sum : (x : ℕ) → x < length was → bit_xor (get_or window x 0) (sum_at left (off + x)) ≡ bit_xor (get_or was x 0) (sum_at ranges (off + x))

pub spanned_start : (text : List ℕ) (spans : List Span) (off version : ℕ) (r : Record) (was : List ℕ) → spans ≡ spans_of version r → HaveBytes text spans r.ranges
    → Spanned text spans off r.ranges was was
spanned_start text spans off version r was is have = record { place = first_place version; left = r.ranges; spans_are = is; have = have; sum = λ x small. refl }

next : (text : List ℕ) (left rest : List Span) (s : Span) (off : ℕ) (ranges : List Range) (was window window2 : List ℕ) (place : ℕ) (gs : List Range)
    → left ≡ s ∷ rest → length window ≡ length was
    → ((x : ℕ) → x < length window → get_or window2 x 0 ≡ bit_xor (get_or window x 0) (byte_at (off + x) 0 s.off (take s.len (drop s.at text))))
    → left ≡ spans_from place gs → HaveBytes text left gs
    → ((x : ℕ) → x < length was → bit_xor (get_or window x 0) (sum_at gs (off + x)) ≡ bit_xor (get_or was x 0) (sum_at ranges (off + x)))
    → Spanned text rest off ranges was window2
next text left rest s off ranges was window window2 place [] is long added are have sum = let wrong : ⊥ = cc in absurd wrong
next text left rest s off ranges was window window2 place (g ∷ gs) is long added are have sum =
    let both : HaveBytes text (s ∷ rest) (g ∷ gs) = rw is at have in
    let one : s ∷ rest ≡ spans_from place (g ∷ gs) = sym is ∙ are in
    let off_is : s.off ≡ g.off = cc in
    let rest_is : rest ≡ spans_from ((place + 8) + length g.bytes) gs = cc in
    record {
      place = (place + 8) + length g.bytes;
      left = gs;
      spans_are = rest_is;
      have = both.2;
      sum = λ x small.
          ap (λ (y : ℕ). bit_xor y (sum_at gs (off + x))) (added x (omega arith) ∙ ap₂ (λ (o : ℕ) (bs : List ℕ). bit_xor (get_or window x 0) (byte_at (off + x) 0 o bs)) off_is both.1)
          ∙ xor_assoc (get_or window x 0) (byte_at (off + x) 0 g.off g.bytes) (sum_at gs (off + x)) ∙ sum x small;
    }

pub spanned_next : (text : List ℕ) (left rest : List Span) (s : Span) (off : ℕ) (ranges : List Range) (was window window2 : List ℕ)
    → left ≡ s ∷ rest → length window ≡ length was
    → ((x : ℕ) → x < length window → get_or window2 x 0 ≡ bit_xor (get_or window x 0) (byte_at (off + x) 0 s.off (take s.len (drop s.at text))))
    → Spanned text left off ranges was window → Spanned text rest off ranges was window2
spanned_next text left rest s off ranges was window window2 is long added was_spanned =
    next text left rest s off ranges was window window2 was_spanned.place was_spanned.left is long added was_spanned.spans_are was_spanned.have was_spanned.sum

finish : (text : List ℕ) (spans : List Span) (off place : ℕ) (ranges gs : List Range) (was window : List ℕ) → spans ≡ [] → HaveBytes text spans gs
    → ((x : ℕ) → x < length was → bit_xor (get_or window x 0) (sum_at gs (off + x)) ≡ bit_xor (get_or was x 0) (sum_at ranges (off + x)))
    → (x : ℕ) → x < length was → get_or window x 0 ≡ bit_xor (get_or was x 0) (sum_at ranges (off + x))
finish text spans off place ranges [] was window none have sum x small = sym (xor_zero_r (get_or window x 0)) ∙ sum x small
finish text spans off place ranges (g ∷ gs) was window none have sum x small = absurd (rw none at have)

pub spanned_done : (text : List ℕ) (spans : List Span) (off version : ℕ) (r : Record) (n : ℕ) (was window : List ℕ) → IsRecord version r (take n text) → spans ≡ []
    → Spanned text spans off r.ranges was window
    → (x : ℕ) → x < length was → get_or window x 0 ≡ bit_xor (get_or was x 0) (range_byte r.ranges (off + x))
spanned_done text spans off version r n was window is none s x small =
    finish text spans off s.place r.ranges s.left was window none s.have s.sum x small
    ∙ ap (bit_xor (get_or was x 0)) (sum_record version r (take n text) (off + x) is)
