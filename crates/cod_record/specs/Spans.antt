-- Where the bytes of a record's ranges stand in its text.
use Rattle.std.specs.Prelude.{◌≡◌, ℕ, zero, suc, ◌+◌, ◌<◌, ◌≤◌, ◌^◌, ◌==◌, if◌then◌else◌, List, [], ◌∷◌, length, take, drop, ⊤}
use Rattle.byteorder.specs.Endian.{big_number}
use Rattle.cod_record.specs.Record.{Range, Record}
use Rattle.cod_record.specs.declared.parts.Span.{Span}

abbrev pub span : (off len at : ℕ) → Span
span off len at = record { off = off; len = len; at = at }

-- ranges whose texts stand from a place on
abbrev pub spans_from : (at : ℕ) → List Range → List Span
spans_from at [] = []
spans_from at (g ∷ gs) = span g.off (length g.bytes) (at + 8) ∷ spans_from ((at + 8) + length g.bytes) gs

-- the place behind the numbers of a record
abbrev pub first_place : (version : ℕ) → ℕ
first_place version = if version == 2 then 13 else 11

-- the ranges of a record, in order
abbrev pub spans_of : (version : ℕ) → Record → List Span
spans_of version r = spans_from (first_place version) r.ranges

-- the bytes that stand at the places are the ranges'
abbrev pub HaveBytes : (text : List ℕ) → List Span → List Range → Type 0
HaveBytes text [] [] = ⊤
HaveBytes text (s ∷ ss) (g ∷ gs) = (s.at + s.len ≤ length text) × (take s.len (drop s.at text) ≡ g.bytes) × HaveBytes text ss gs
HaveBytes text (s ∷ ss) [] = ⊥
HaveBytes text [] (g ∷ gs) = ⊥

-- so many spans as they are read from a place on
abbrev pub spans_read : (left at : ℕ) (text : List ℕ) → List Span
spans_read zero at text = []
spans_read (suc left) at text =
    span (big_number 4 (drop at text)) (big_number 4 (drop (at + 4) text)) (at + 8) ∷ spans_read left ((at + 8) + big_number 4 (drop (at + 4) text)) text

-- they lie inside the text, and their places fit 32 bits
abbrev pub AreInside : (left at : ℕ) (text : List ℕ) → Type 0
AreInside zero at text = ⊤
AreInside (suc left) at text =
    ((at + 8) + big_number 4 (drop (at + 4) text) ≤ length text) × ((at + 8) + big_number 4 (drop (at + 4) text) < 2 ^ 32)
    × AreInside left ((at + 8) + big_number 4 (drop (at + 4) text)) text
