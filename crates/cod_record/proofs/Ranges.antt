-- One list of bytes at one place has one list of ranges.
use Rattle.std.proofs.Common.{◌≡◌, ℕ, ◌+◌, ◌-◌, ◌<◌, ◌≤◌, List, [], ◌∷◌, length, slice_index, refl, sym, ap, ◌∙◌, arith, inl, inr}
use Rattle.std.proofs.lemmas.Bool.{cases_lt}
use Rattle.std.proofs.lemmas.List.{ext_get_or}
use Rattle.cod_record.specs.Record.{Range, range, end_of, range_byte, AreSparse, IsSparseRange}
use Rattle.cod_record.proofs.Places.{inside, before, behind, range_byte-below, range_byte-first}

abbrev Same : List Range → List Range → Type 0
Same gs hs = (x : ℕ) → range_byte gs x ≡ range_byte hs x

-- a range doesn't begin before the other
not_before : (g h : Range) (gs hs : List Range) → IsSparseRange g → AreSparse (end_of h + 8) hs → Same (g ∷ gs) (h ∷ hs) → g.off < h.off → ⊥
not_before g h gs hs is are same low =
    range_byte-first g gs is
    (same g.off ∙ before g.off (range_byte hs g.off) h.off h.bytes low ∙ range_byte-below hs (end_of h + 8) g.off are (omega arith))

-- the byte at a place behind a range, and before the next
gap : (g : Range) (gs : List Range) → AreSparse (end_of g + 8) gs → (x : ℕ) → end_of g ≤ x → x < end_of g + 8 → range_byte (g ∷ gs) x ≡ 0
gap g gs are x low high = behind x (range_byte gs x) g.off g.bytes low ∙ range_byte-below gs (end_of g + 8) x are high

-- a range doesn't end before the other that begins where it does
not_shorter : (g h : Range) (gs hs : List Range) → AreSparse (end_of g + 8) gs → IsSparseRange h → Same (g ∷ gs) (h ∷ hs) → g.off ≡ h.off
    → length g.bytes < length h.bytes → ⊥
not_shorter g h gs hs are is same off short =
    let zeros : (j : ℕ) → length g.bytes ≤ j → j < length g.bytes + 8 → j < length h.bytes → slice_index h.bytes j ≡ 0 = λ j low high within.
    let place : (h.off + j) - h.off ≡ j = omega arith in
    ap (slice_index h.bytes) (sym place)
    ∙ sym (inside (h.off + j) (range_byte hs (h.off + j)) h.off h.bytes (omega arith) (omega arith))
    ∙ sym (same (h.off + j)) ∙ gap g gs are (h.off + j) (omega arith) (omega arith) in
    elim (cases_lt (length h.bytes) (length g.bytes + 8)) [
      | inl near ↦ is.last (zeros (length h.bytes - 1) (omega arith) (omega arith) (omega arith))
      | inr far ↦ is.no_run (length g.bytes) far (λ j low high. zeros j low high (omega arith))
    ]

same_off : (g h : Range) (gs hs : List Range) → IsSparseRange g → IsSparseRange h → AreSparse (end_of g + 8) gs → AreSparse (end_of h + 8) hs → Same (g ∷ gs) (h ∷ hs) → g.off ≡ h.off
same_off g h gs hs isg ish areg areh same =
    elim (cases_lt g.off h.off) [
      | inl low ↦ absurd (not_before g h gs hs isg areh same low)
      | inr high ↦ elim (cases_lt h.off g.off) [
        | inl low ↦ absurd (not_before h g hs gs ish areg (λ x. sym (same x)) low)
        | inr high2 ↦ omega arith
      ]
    ]

same_length : (g h : Range) (gs hs : List Range) → IsSparseRange g → IsSparseRange h → AreSparse (end_of g + 8) gs → AreSparse (end_of h + 8) hs → Same (g ∷ gs) (h ∷ hs) → g.off ≡ h.off
    → length g.bytes ≡ length h.bytes
same_length g h gs hs isg ish areg areh same off =
    elim (cases_lt (length g.bytes) (length h.bytes)) [
      | inl low ↦ absurd (not_shorter g h gs hs areg ish same off low)
      | inr high ↦ elim (cases_lt (length h.bytes) (length g.bytes)) [
        | inl low ↦ absurd (not_shorter h g hs gs areh isg (λ x. sym (same x)) (sym off) low)
        | inr high2 ↦ omega arith
      ]
    ]

same_bytes : (g h : Range) (gs hs : List Range) → Same (g ∷ gs) (h ∷ hs) → g.off ≡ h.off → length g.bytes ≡ length h.bytes → g.bytes ≡ h.bytes
same_bytes g h gs hs same off len = ext_get_or 0 g.bytes h.bytes len (λ i within.
    let left : (g.off + i) - g.off ≡ i = omega arith in
    let right : (g.off + i) - h.off ≡ i = omega arith in
    ap (slice_index g.bytes) (sym left)
    ∙ sym (inside (g.off + i) (range_byte gs (g.off + i)) g.off g.bytes (omega arith) (omega arith))
    ∙ same (g.off + i)
    ∙ inside (g.off + i) (range_byte hs (g.off + i)) h.off h.bytes (omega arith) (omega arith)
    ∙ ap (slice_index h.bytes) right)

same_rest : (g h : Range) (gs hs : List Range) → AreSparse (end_of g + 8) gs → AreSparse (end_of h + 8) hs → Same (g ∷ gs) (h ∷ hs) → end_of g ≡ end_of h → Same gs hs
same_rest g h gs hs areg areh same ends x =
    elim (cases_lt x (end_of g)) [
      | inl low ↦ range_byte-below gs (end_of g + 8) x areg (omega arith) ∙ sym (range_byte-below hs (end_of h + 8) x areh (omega arith))
      | inr high ↦ sym (behind x (range_byte gs x) g.off g.bytes high) ∙ same x ∙ behind x (range_byte hs x) h.off h.bytes (omega arith)
    ]

-- ranges that are the same bytes are the same
pub same_ranges : (gs hs : List Range) (a b : ℕ) → AreSparse a gs → AreSparse b hs → ((x : ℕ) → range_byte gs x ≡ range_byte hs x) → gs ≡ hs
same_ranges [] [] a b areg areh same = refl
same_ranges [] (h ∷ hs) a b areg areh same = absurd (range_byte-first h hs areh.1 (sym (same h.off)))
same_ranges (g ∷ gs) [] a b areg areh same = absurd (range_byte-first g gs areg.1 (same g.off))
same_ranges (g ∷ gs) (h ∷ hs) a b areg areh same =
    let off : g.off ≡ h.off = same_off g h gs hs areg.1 areh.1 areg.2 areh.2 same in
    let len : length g.bytes ≡ length h.bytes = same_length g h gs hs areg.1 areh.1 areg.2 areh.2 same off in
    let bytes : g.bytes ≡ h.bytes = same_bytes g h gs hs same off len in
    let here : g ≡ h = (λ i. range (off i) (bytes i)) in
    let rest : gs ≡ hs = same_ranges gs hs (end_of g + 8) (end_of h + 8) areg.2 areh.2 (same_rest g h gs hs areg.2 areh.2 same (omega arith)) in
    (λ i. here i ∷ rest i)
