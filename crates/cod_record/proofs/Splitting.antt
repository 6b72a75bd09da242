-- The ranges of given bytes are the second version's, and have those bytes.
use Rattle.std.proofs.Common.{◌≡◌, ◌≢◌, ℕ, zero, suc, ◌+◌, ◌-◌, ◌<◌, ◌≤◌, ◌^◌, ◌==◌, true, false, nat_lt, List, [], ◌∷◌, ◌++◌, length, slice_index, replicate, sym, ap, ◌∙◌, arith, inl, inr}
use Rattle.std.proofs.Common.{length-append}
use Rattle.std.proofs.lemmas.Bool.{cases_lt}
use Rattle.std.proofs.lemmas.Bool.Decides.{nat_tests}
use Rattle.std.proofs.lemmas.List.{get_or-append-add, get_or_append_left, get_or-replicate, length-replicate}
use Rattle.cod_types.specs.Overwritten.{byte_at}
use Rattle.cod_record.specs.Record.{Range, range, end_of, range_byte, AreSparse, IsSparseRange, EightZeros}
use Rattle.cod_record.specs.Sparse.{joined, ranges_of}
use Rattle.cod_record.proofs.Places.{inside, before, behind, range_byte-below, less}

-- a byte, zeros, and the bytes of a range
abbrev grown : (b k : ℕ) (bs : List ℕ) → List ℕ
grown b k bs = b ∷ (replicate k 0 ++ bs)

length-grown : (b k : ℕ) (bs : List ℕ) → length (grown b k bs) ≡ suc k + length bs
length-grown b k bs = omega (arith, length-append (replicate k 0) bs, length-replicate {A = ℕ} k 0)

grown-behind : (b k j : ℕ) (bs : List ℕ) → slice_index (grown b k bs) (suc k + j) ≡ slice_index bs j
grown-behind b k j bs =
    let len : length (b ∷ replicate k 0) ≡ suc k = omega (arith, length-replicate {A = ℕ} k 0) in
    ap (λ n. slice_index (grown b k bs) (n + j)) (sym len) ∙ get_or-append-add (b ∷ replicate k 0) bs j 0

grown-between : (b k j : ℕ) (bs : List ℕ) → j < k → slice_index (grown b k bs) (suc j) ≡ 0
grown-between b k j bs low =
    get_or_append_left (replicate k 0) bs 0 j (omega (arith, length-replicate {A = ℕ} k 0)) ∙ get_or-replicate k j 0 0 low

single : (off b : ℕ) → b ≢ 0 → off + 1 < 2 ^ 32 → IsSparseRange (range off (b ∷ []))
single off b some fits = record { some = omega arith; fits = fits; first = some; last = some; no_run = λ i long. absurd (omega arith) }

grown-no_run : (b k : ℕ) (g : Range) → b ≢ 0 → IsSparseRange g → k < 8 → (i : ℕ) → i + 8 ≤ length (grown b k g.bytes) → EightZeros (grown b k g.bytes) i → ⊥
grown-no_run b k g some is short zero long zeros = some (zeros 0 (omega arith) (omega arith))
grown-no_run b k g some is short (suc i) long zeros =
    elim (cases_lt i (suc k)) [
      | inl low ↦ is.first (sym (grown-behind b k 0 g.bytes) ∙ zeros (suc k + 0) (omega arith) (omega arith))
      | inr high ↦ is.no_run (i - k) (omega (arith, length-grown b k g.bytes)) (λ j from to. sym (grown-behind b k j g.bytes) ∙ zeros (suc k + j) (omega arith) (omega arith))
    ]

grown-sparse : (off b k : ℕ) (g : Range) → b ≢ 0 → IsSparseRange g → g.off ≡ (off + 1) + k → k < 8 → IsSparseRange (range off (grown b k g.bytes))
grown-sparse off b k g some is at short = record {
  some = omega (arith, length-grown b k g.bytes);
  fits = omega (arith, length-grown b k g.bytes, is.fits);
  first = some;
  last = λ none.
      let here : length (grown b k g.bytes) - 1 ≡ suc k + (length g.bytes - 1) = omega (arith, length-grown b k g.bytes, is.some) in
      is.last (sym (grown-behind b k (length g.bytes - 1) g.bytes) ∙ ap (slice_index (grown b k g.bytes)) (sym here) ∙ none);
  no_run = grown-no_run b k g some is short;
}

pub joined-sparse : (off b : ℕ) (gs : List Range) → b ≢ 0 → off + 1 < 2 ^ 32 → AreSparse (off + 1) gs → AreSparse off (joined off b gs)
unfolding joined
joined-sparse off b [] some fits are = (omega arith, single off b some fits, tt)
joined-sparse off b (g ∷ gs) some fits are =
    elim (cases_lt (g.off - (off + 1)) 8) [
      | inl near ↦
          let test : nat_lt (g.off - (off + 1)) 8 ≡ true = grind (arith, nat_tests) in
          let k = g.off - (off + 1) in
          let ends : end_of g + 8 ≡ end_of (range off (grown b k g.bytes)) + 8 = omega (arith, length-grown b k g.bytes, are.0) in
          rw test (omega arith, grown-sparse off b k g some are.1 (omega (arith, are.0)) near, less gs (end_of g + 8) (end_of (range off (grown b k g.bytes)) + 8) (omega arith) are.2)
      | inr far ↦
          let test : nat_lt (g.off - (off + 1)) 8 ≡ false = grind (arith, nat_tests) in
          rw test (omega arith, single off b some fits, (omega (arith, are.0), are.1, are.2))
    ]

pub ranges_of-sparse : (off : ℕ) (bytes : List ℕ) → off + length bytes < 2 ^ 32 → AreSparse off (ranges_of off bytes)
unfolding ranges_of
ranges_of-sparse off [] fits = tt
ranges_of-sparse off (b ∷ bs) fits =
    let rest = ranges_of-sparse (off + 1) bs (omega arith) in
    elim (cases_lt b 1) [
      | inl none ↦
          let test : (b == 0) ≡ true = grind (arith, nat_tests) in
          rw test (less (ranges_of (off + 1) bs) (off + 1) off (omega arith) rest)
      | inr some ↦
          let test : (b == 0) ≡ false = grind (arith, nat_tests) in
          rw test (joined-sparse off b (ranges_of (off + 1) bs) (λ none. omega arith) (omega arith) rest)
    ]

-- the first place of a joined range
joined-here : (off b : ℕ) (gs : List Range) → range_byte (joined off b gs) off ≡ b
unfolding joined
joined-here off b [] = grind (arith, nat_tests)
joined-here off b (g ∷ gs) =
    let zero_place : off - off ≡ 0 = omega arith in
    elim (cases_lt (g.off - (off + 1)) 8) [
      | inl near ↦
          let test : nat_lt (g.off - (off + 1)) 8 ≡ true = grind (arith, nat_tests) in
          let k = g.off - (off + 1) in
          rw test (inside off (range_byte gs off) off (grown b k g.bytes) (omega arith) (omega (arith, length-grown b k g.bytes)) ∙ ap (slice_index (grown b k g.bytes)) zero_place)
      | inr far ↦
          let test : nat_lt (g.off - (off + 1)) 8 ≡ false = grind (arith, nat_tests) in
          rw test (inside off (range_byte (g ∷ gs) off) off (b ∷ []) (omega arith) (omega arith) ∙ ap (slice_index (b ∷ [])) zero_place)
    ]

-- the places of a grown range
grown-byte : (off b k x : ℕ) (g : Range) (gs : List Range) → g.off ≡ (off + 1) + k → AreSparse (end_of g + 8) gs → off < x
    → byte_at x (range_byte gs x) off (grown b k g.bytes) ≡ range_byte (g ∷ gs) x
grown-byte off b k x g gs at are low =
    elim (cases_lt x g.off) [
      | inl zeros ↦
          let place : x - off ≡ suc (x - (off + 1)) = omega arith in
          inside x (range_byte gs x) off (grown b k g.bytes) (omega arith) (omega (arith, length-grown b k g.bytes))
          ∙ ap (slice_index (grown b k g.bytes)) place ∙ grown-between b k (x - (off + 1)) g.bytes (omega arith)
          ∙ sym (before x (range_byte gs x) g.off g.bytes zeros ∙ range_byte-below gs (end_of g + 8) x are (omega arith))
      | inr from ↦ elim (cases_lt x (end_of g)) [
        | inl to ↦
            let place : x - off ≡ suc k + (x - g.off) = omega arith in
            inside x (range_byte gs x) off (grown b k g.bytes) (omega arith) (omega (arith, length-grown b k g.bytes))
            ∙ ap (slice_index (grown b k g.bytes)) place ∙ grown-behind b k (x - g.off) g.bytes
            ∙ sym (inside x (range_byte gs x) g.off g.bytes from to)
        | inr past ↦
            behind x (range_byte gs x) off (grown b k g.bytes) (omega (arith, length-grown b k g.bytes))
            ∙ sym (behind x (range_byte gs x) g.off g.bytes past)
      ]
    ]

-- and the places behind it
joined-behind : (off b x : ℕ) (gs : List Range) → AreSparse (off + 1) gs → off < x → range_byte (joined off b gs) x ≡ range_byte gs x
unfolding joined
joined-behind off b x [] are low = behind x 0 off (b ∷ []) (omega arith)
joined-behind off b x (g ∷ gs) are low =
    elim (cases_lt (g.off - (off + 1)) 8) [
      | inl near ↦
          let test : nat_lt (g.off - (off + 1)) 8 ≡ true = grind (arith, nat_tests) in
          rw test (grown-byte off b (g.off - (off + 1)) x g gs (omega (arith, are.0)) are.2 low)
      | inr far ↦
          let test : nat_lt (g.off - (off + 1)) 8 ≡ false = grind (arith, nat_tests) in
          rw test (behind x (range_byte (g ∷ gs) x) off (b ∷ []) (omega arith))
    ]

tail_byte : (x off b : ℕ) (bs : List ℕ) → off < x → byte_at x 0 off (b ∷ bs) ≡ byte_at x 0 (off + 1) bs
tail_byte x off b bs low =
    elim (cases_lt x ((off + 1) + length bs)) [
      | inl within ↦
          let place : x - off ≡ suc (x - (off + 1)) = omega arith in
          inside x 0 off (b ∷ bs) (omega arith) (omega arith) ∙ ap (slice_index (b ∷ bs)) place ∙ sym (inside x 0 (off + 1) bs (omega arith) within)
      | inr past ↦ behind x 0 off (b ∷ bs) (omega arith) ∙ sym (behind x 0 (off + 1) bs past)
    ]

head_byte : (off b : ℕ) (bs : List ℕ) → byte_at off 0 off (b ∷ bs) ≡ b
head_byte off b bs = let place : off - off ≡ 0 = omega arith in inside off 0 off (b ∷ bs) (omega arith) (omega arith) ∙ ap (slice_index (b ∷ bs)) place

pub ranges_of-bytes : (off : ℕ) (bytes : List ℕ) → off + length bytes < 2 ^ 32 → (x : ℕ) → range_byte (ranges_of off bytes) x ≡ byte_at x 0 off bytes
unfolding ranges_of
ranges_of-bytes off [] fits x = grind (arith, nat_tests)
ranges_of-bytes off (b ∷ bs) fits x =
    let are = ranges_of-sparse off (b ∷ bs) fits in
    let rest = ranges_of-sparse (off + 1) bs (omega arith) in
    elim (cases_lt x off) [
      | inl low ↦ range_byte-below (ranges_of off (b ∷ bs)) off x are low ∙ sym (before x 0 off (b ∷ bs) low)
      | inr high ↦ elim (cases_lt b 1) [
        | inl none ↦
            let test : (b == 0) ≡ true = grind (arith, nat_tests) in
            rw test (elim (cases_lt off x) [
              | inl past ↦ ranges_of-bytes (off + 1) bs (omega arith) x ∙ sym (tail_byte x off b bs past)
              | inr here ↦
                  let same : x ≡ off = omega arith in
                  range_byte-below (ranges_of (off + 1) bs) (off + 1) x rest (omega arith)
                  ∙ (let zero_byte : 0 ≡ b = omega arith in zero_byte) ∙ sym (head_byte off b bs) ∙ ap (λ y. byte_at y 0 off (b ∷ bs)) (sym same)
            ])
        | inr some ↦
            let test : (b == 0) ≡ false = grind (arith, nat_tests) in
            rw test (elim (cases_lt off x) [
              | inl past ↦ joined-behind off b x (ranges_of (off + 1) bs) rest past ∙ ranges_of-bytes (off + 1) bs (omega arith) x ∙ sym (tail_byte x off b bs past)
              | inr here ↦
                  let same : x ≡ off = omega arith in
                  ap (range_byte (joined off b (ranges_of (off + 1) bs))) same ∙ joined-here off b (ranges_of (off + 1) bs) ∙ sym (head_byte off b bs) ∙ ap (λ y. byte_at y 0 off (b ∷ bs)) (sym same)
            ])
      ]
    ]
