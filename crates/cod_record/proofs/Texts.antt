-- A text that begins with a record's says which record it is.
use Rattle.std.proofs.Common.{◌≡◌, ℕ, ◌+◌, ◌^◌, ◌<◌, ◌≤◌, List, [], ◌∷◌, ◌++◌, length, take, drop, get_or, refl, sym, ap, ◌∙◌, arith, inl, inr, subst}
use Rattle.std.specs.Bool.{⊤}
use Rattle.std.proofs.lemmas.List.{append_assoc, append-nil, take_at, drop_at}
use Rattle.byteorder.specs.Endian.{big_bytes}
use Rattle.cod_record.specs.Record.{Range, range, Record, end_of, range_text, ranges_text, count_text, record_text, AreSparse, IsRecord}
use Rattle.cod_record.proofs.Bytes.{same_bytes}

-- the numbers of a range fit four bytes each
abbrev pub IsSmall : Range → Type 0
IsSmall g = (g.off < 2 ^ 32) × (length g.bytes < 2 ^ 32)

abbrev pub AreSmall : List Range → Type 0
AreSmall [] = ⊤
AreSmall (g ∷ gs) = IsSmall g × AreSmall gs

pub sparse_small : (gs : List Range) (from : ℕ) → AreSparse from gs → AreSmall gs
sparse_small [] from are = tt
sparse_small (g ∷ gs) from are = ((omega (arith, are.1.fits), omega (arith, are.1.fits)), sparse_small gs (end_of g + 8) are.2)

regroup : (a b c p : List ℕ) → (a ++ (b ++ c)) ++ p ≡ a ++ (b ++ (c ++ p))
regroup a b c p = simp append_assoc

-- lists of one length, whatever follows
same_front : (xs ys p q : List ℕ) → length xs ≡ length ys → xs ++ p ≡ ys ++ q → (xs ≡ ys) × (p ≡ q)
same_front xs ys p q len e = (
  sym (take_at xs p (length xs) refl) ∙ ap (λ (l : List ℕ). take (length xs) l) e ∙ take_at ys q (length xs) (sym len),
  sym (drop_at xs p (length xs) refl) ∙ ap (λ (l : List ℕ). drop (length xs) l) e ∙ drop_at ys q (length xs) (sym len),
)

pub same_range : (g h : Range) (p q : List ℕ) → IsSmall g → IsSmall h → range_text g ++ p ≡ range_text h ++ q → (g ≡ h) × (p ≡ q)
unfolding range_text
same_range g h p q sg sh e =
    let e1 = sym (regroup (big_bytes 4 g.off) (big_bytes 4 (length g.bytes)) g.bytes p) ∙ e ∙ regroup (big_bytes 4 h.off) (big_bytes 4 (length h.bytes)) h.bytes q in
    let s1 = same_bytes 4 g.off h.off _ _ sg.0 sh.0 e1 in
    let s2 = same_bytes 4 (length g.bytes) (length h.bytes) _ _ sg.1 sh.1 s1.1 in
    let s3 = same_front g.bytes h.bytes p q s2.0 s2.1 in
    ((λ i. range (s1.0 i) (s3.0 i)), s3.1)

pub same_texts : (gs hs : List Range) (p q : List ℕ) → AreSmall gs → AreSmall hs → length gs ≡ length hs → ranges_text gs ++ p ≡ ranges_text hs ++ q → (gs ≡ hs) × (p ≡ q)
same_texts [] [] p q sg sh len e = (refl, e)
same_texts [] (h ∷ hs) p q sg sh len e = absurd (omega arith)
same_texts (g ∷ gs) [] p q sg sh len e = absurd (omega arith)
same_texts (g ∷ gs) (h ∷ hs) p q sg sh len e =
    let one = same_range g h (ranges_text gs ++ p) (ranges_text hs ++ q) sg.0 sh.0
    (sym (append_assoc (range_text g) (ranges_text gs) p) ∙ e ∙ append_assoc (range_text h) (ranges_text hs) q) in
    let rest = same_texts gs hs p q sg.1 sh.1 (omega arith) one.1 in
    ((λ i. one.0 i ∷ rest.0 i), rest.1)

-- what stands behind the version
abbrev pub behind_version : (version : ℕ) → Record → List ℕ
behind_version version r = big_bytes 2 r.block ++ (big_bytes 8 r.number ++ (count_text version r.ranges ++ ranges_text r.ranges))

pub text_is : (version : ℕ) (r : Record) → record_text version r ≡ version ∷ behind_version version r
unfolding record_text
text_is version r = refl

regroup_all : (a b c d p : List ℕ) → (a ++ (b ++ (c ++ d))) ++ p ≡ a ++ (b ++ (c ++ (d ++ p)))
regroup_all a b c d p = simp append_assoc

-- the block, the number, and what stands behind them
same_numbers : (v w : ℕ) (r s : Record) (t u p q : List ℕ) → IsRecord v r t → IsRecord w s u → t ++ p ≡ u ++ q
    → (v ≡ w) × (r.block ≡ s.block) × (r.number ≡ s.number) × (count_text v r.ranges ++ (ranges_text r.ranges ++ p) ≡ count_text w s.ranges ++ (ranges_text s.ranges ++ q))
same_numbers v w r s t u p q ir is e =
    let whole : (v ∷ behind_version v r) ++ p ≡ (w ∷ behind_version w s) ++ q =
    ap (λ (l : List ℕ). l ++ p) (sym (ir.text_is ∙ text_is v r)) ∙ e ∙ ap (λ (l : List ℕ). l ++ q) (is.text_is ∙ text_is w s) in
    let version : v ≡ w = ap (λ (l : List ℕ). get_or l 0 0) whole in
    let rest : behind_version v r ++ p ≡ behind_version w s ++ q = ap (λ (l : List ℕ). drop 1 l) whole in
    let e1 = sym (regroup_all (big_bytes 2 r.block) (big_bytes 8 r.number) (count_text v r.ranges) (ranges_text r.ranges) p) ∙ rest
    ∙ regroup_all (big_bytes 2 s.block) (big_bytes 8 s.number) (count_text w s.ranges) (ranges_text s.ranges) q in
    let s1 = same_bytes 2 r.block s.block _ _ ir.block is.block e1 in
    let s2 = same_bytes 8 r.number s.number _ _ ir.number is.number s1.1 in
    (version, s1.0, s2.0, s2.1)

-- a text has at least its range's bytes
pub length-range_text : (g : Range) → length (range_text g) ≡ 8 + length g.bytes
unfolding range_text
length-range_text g = omega arith

-- a record of the first version has one range, whose numbers are small
one_small : (r : Record) (text : List ℕ) → IsRecord 1 r text → AreSmall r.ranges × (length r.ranges ≡ 1)
unfolding record_text count_text
one_small r text is =
    let it = is.first_version refl in
    let g = it.one in
    let ranges : ranges_text r.ranges ≡ range_text g ++ [] = ap ranges_text it.is in
    let long : length text ≡ length (record_text 1 r) = ap length is.text_is in
    let rest : length (ranges_text r.ranges) ≡ length (range_text g) = ap length (ranges ∙ append-nil (range_text g)) in
    let size : length (ranges_text r.ranges) ≤ length text = omega (arith, long) in
    (rw it.is ((it.fits, omega (arith, length-range_text g, is.size)), tt), ap length it.is)

pub small : (version : ℕ) (r : Record) (text : List ℕ) → IsRecord version r text → AreSmall r.ranges
small version r text is = elim is.known [
  | inl first ↦ (one_small r text (let P : ℕ → Type 0 = λ v. IsRecord v r text in subst P first is)).0
  | inr second ↦ sparse_small r.ranges 0 (is.second_version second)
]

-- the ranges of two records whose counts and ranges begin the same text
same_counted : (v : ℕ) (r s : Record) (t u p q : List ℕ) → IsRecord v r t → IsRecord v s u
    → count_text v r.ranges ++ (ranges_text r.ranges ++ p) ≡ count_text v s.ranges ++ (ranges_text s.ranges ++ q) → (r.ranges ≡ s.ranges) × (p ≡ q)
unfolding count_text
same_counted v r s t u p q ir is e = elim ir.known [
  | inl first ↦
      let P : ℕ → Type 0 = λ w. IsRecord w r t in
      let Q : ℕ → Type 0 = λ w. IsRecord w s u in
      let one = one_small r t (subst P first ir) in
      let other = one_small s u (subst Q first is) in
      let E : ℕ → Type 0 = λ w. count_text w r.ranges ++ (ranges_text r.ranges ++ p) ≡ count_text w s.ranges ++ (ranges_text s.ranges ++ q) in
      same_texts r.ranges s.ranges p q one.0 other.0 (one.1 ∙ sym other.1) (subst E first e)
  | inr second ↦
      let E : ℕ → Type 0 = λ w. count_text w r.ranges ++ (ranges_text r.ranges ++ p) ≡ count_text w s.ranges ++ (ranges_text s.ranges ++ q) in
      let counted = same_bytes 2 (length r.ranges) (length s.ranges) (ranges_text r.ranges ++ p) (ranges_text s.ranges ++ q) ir.count is.count (subst E second e) in
      same_texts r.ranges s.ranges p q (small v r t ir) (small v s u is) counted.0 counted.1
]

pub same_record : (v w : ℕ) (r s : Record) (t u p q : List ℕ) → IsRecord v r t → IsRecord w s u → t ++ p ≡ u ++ q → (v ≡ w) × (r ≡ s) × (p ≡ q)
same_record v w r s t u p q ir is e =
    let numbers = same_numbers v w r s t u p q ir is e in
    let Q : ℕ → Type 0 = λ x. IsRecord x s u in
    let E : ℕ → Type 0 = λ x. count_text v r.ranges ++ (ranges_text r.ranges ++ p) ≡ count_text x s.ranges ++ (ranges_text s.ranges ++ q) in
    let ranges = same_counted v r s t u p q ir (subst Q (sym numbers.0) is) (subst E (sym numbers.0) numbers.3) in
    (numbers.0, (λ i. record { block = numbers.1 i; number = numbers.2 i; ranges = ranges.0 i }), ranges.1)
