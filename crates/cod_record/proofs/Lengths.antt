-- How many bytes the texts of ranges have.
use Rattle.std.proofs.Common.{◌≡◌, ◌≢◌, ℕ, ◌+◌, ◌-◌, ◌*◌, ◌<◌, ◌≤◌, ◌==◌, true, false, nat_lt, List, [], ◌∷◌, ◌++◌, length, take, drop, slice_index, replicate, refl, sym, ap, ◌∙◌, arith, inl, inr}
use Rattle.std.proofs.Common.{length-append, length-drop}
use Rattle.std.specs.Bool.{⊤}
use Rattle.std.proofs.lemmas.Bool.{cases_lt}
use Rattle.std.proofs.lemmas.Bool.Decides.{nat_tests}
use Rattle.std.proofs.lemmas.List.{length-replicate, length-take-le, drop_all}
use Rattle.cod_record.specs.Record.{Range, range, range_text, end_of, ranges_text, AreSparse}
use Rattle.cod_record.specs.Sparse.{joined, ranges_length, ranges_of}
use Rattle.cod_record.proofs.Texts.{length-range_text}
use Rattle.cod_record.proofs.Zeros.{skip, ranges_of-nil}

-- ranges of n bytes from a place on have at most eight bytes more
abbrev pub AreShort : (off n : ℕ) → List Range → Type 0
AreShort off n [] = ⊤
AreShort off n (g ∷ gs) = (off ≤ g.off) × (ranges_length (g ∷ gs) + (g.off - off) ≤ 8 + n)

joined-short : (off b n : ℕ) (gs : List Range) → AreShort (off + 1) n gs → AreShort off (n + 1) (joined off b gs)
unfolding joined
joined-short off b n [] are = (omega arith, omega arith)
joined-short off b n (g ∷ gs) are = elim (cases_lt (g.off - (off + 1)) 8) [
  | inl near ↦
      let test : nat_lt (g.off - (off + 1)) 8 ≡ true = grind (arith, nat_tests) in
      let k = g.off - (off + 1) in
      let grown : ranges_length (range off (b ∷ (replicate k 0 ++ g.bytes)) ∷ gs) ≡ (9 + (k + length g.bytes)) + ranges_length gs =
      omega (arith, length-append (replicate k 0) g.bytes, length-replicate {A = ℕ} k 0) in
      let old : ranges_length (g ∷ gs) ≡ (8 + length g.bytes) + ranges_length gs = refl in
      rw test (omega arith, omega (arith, are.0, are.1, grown, old))
  | inr far ↦
      let test : nat_lt (g.off - (off + 1)) 8 ≡ false = grind (arith, nat_tests) in
      let more : ranges_length (range off (b ∷ []) ∷ (g ∷ gs)) ≡ 9 + ranges_length (g ∷ gs) = refl in
      rw test (omega arith, omega (arith, are.0, are.1, more))
]

later_short : (off n : ℕ) (gs : List Range) → AreShort (off + 1) n gs → AreShort off (n + 1) gs
later_short off n [] are = tt
later_short off n (g ∷ gs) are = (omega (arith, are.0), omega (arith, are.0, are.1))

ranges_of-short : (off : ℕ) (bytes : List ℕ) → AreShort off (length bytes) (ranges_of off bytes)
unfolding ranges_of
ranges_of-short off [] = tt
ranges_of-short off (b ∷ bs) =
    let rest = ranges_of-short (off + 1) bs in
    let len : length bs + 1 ≡ length (b ∷ bs) = omega arith in
    elim (cases_lt b 1) [
      | inl none ↦
          let test : (b == 0) ≡ true = grind (arith, nat_tests) in
          rw test (rw (← len) (later_short off (length bs) (ranges_of (off + 1) bs) rest))
      | inr some ↦
          let test : (b == 0) ≡ false = grind (arith, nat_tests) in
          rw test (rw (← len) (joined-short off b (length bs) (ranges_of (off + 1) bs) rest))
    ]

short_length : (off n : ℕ) (gs : List Range) → AreShort off n gs → ranges_length gs ≤ 8 + n
short_length off n [] are = omega arith
short_length off n (g ∷ gs) are = omega (arith, are.1)

-- the texts have at most eight bytes more than the bytes
pub most : (off : ℕ) (bytes : List ℕ) → ranges_length (ranges_of off bytes) ≤ 8 + length bytes
most off bytes = short_length off (length bytes) (ranges_of off bytes) (ranges_of-short off bytes)

-- each range has at least one byte
pub counted : (gs : List Range) (from : ℕ) → AreSparse from gs → 9 * length gs ≤ ranges_length gs
counted [] from are = omega arith
counted (g ∷ gs) from are =
    let sum : ranges_length (g ∷ gs) ≡ (8 + length g.bytes) + ranges_length gs = refl in
    omega (arith, sum, counted gs (end_of g + 8) are.2, are.1.some)

pub length-ranges_text : (gs : List Range) → length (ranges_text gs) ≡ ranges_length gs
length-ranges_text [] = refl
length-ranges_text (g ∷ gs) =
    let sum : ranges_length (g ∷ gs) ≡ (8 + length g.bytes) + ranges_length gs = refl in
    let text : ranges_text (g ∷ gs) ≡ range_text g ++ ranges_text gs = refl in
    omega (arith, sum, ap length text, length-append (range_text g) (ranges_text gs), length-range_text g, length-ranges_text gs)

-- zeros are passed over
pub skipped : (bytes : List ℕ) (off at next : ℕ) → at ≤ next → drop at bytes ≡ replicate (next - at) 0 ++ drop next bytes
    → ranges_of (off + at) (drop at bytes) ≡ ranges_of (off + next) (drop next bytes)
skipped bytes off at next low zeros =
    let place : (off + at) + (next - at) ≡ off + next = omega arith in
    ap (ranges_of (off + at)) zeros ∙ skip (off + at) (next - at) (drop next bytes) ∙ ap (λ n. ranges_of n (drop next bytes)) place

-- the ranges from a place on are left, and those before it have so many bytes
pub record IsLeft (off at len : ℕ) (bytes : List ℕ) : Type 0 where
  pub within : at ≤ length bytes
  pub some : at < length bytes → slice_index bytes at ≢ 0
  pub sum : len + ranges_length (ranges_of (off + at) (drop at bytes)) ≡ ranges_length (ranges_of off bytes)

-- the ranges of all bytes, behind the zeros before them
pub first_left : (bytes : List ℕ) (off at : ℕ) → drop 0 bytes ≡ replicate (at - 0) 0 ++ drop at bytes → ranges_of (off + at) (drop at bytes) ≡ ranges_of off bytes
first_left bytes off at zeros =
    sym (skipped bytes off 0 at (omega arith) zeros) ∙ ap (λ n. ranges_of n bytes) (let same : off + 0 ≡ off = omega arith in same)

pub start_left : (bytes : List ℕ) (off at : ℕ) → at ≤ length bytes → (at < length bytes → slice_index bytes at ≢ 0) → drop 0 bytes ≡ replicate (at - 0) 0 ++ drop at bytes → IsLeft off at 0 bytes
start_left bytes off at within some zeros = record { within = within; some = some; sum = omega (arith, ap ranges_length (first_left bytes off at zeros)) }

-- the range that is left first, and those behind it
pub next_left : (bytes : List ℕ) (off at end next : ℕ) → end ≤ next
    → ranges_of (off + at) (drop at bytes) ≡ range (off + at) (take (end - at) (drop at bytes)) ∷ ranges_of (off + end) (drop end bytes)
    → drop end bytes ≡ replicate (next - end) 0 ++ drop next bytes
    → ranges_of (off + at) (drop at bytes) ≡ range (off + at) (take (end - at) (drop at bytes)) ∷ ranges_of (off + next) (drop next bytes)
next_left bytes off at end next low first zeros =
    first ∙ ap (λ (l : List Range). range (off + at) (take (end - at) (drop at bytes)) ∷ l) (skipped bytes off end next low zeros)

pub length-range : (bytes : List ℕ) (at end : ℕ) → at ≤ end → end ≤ length bytes → length (take (end - at) (drop at bytes)) ≡ end - at
length-range bytes at end low high = length-take-le (end - at) (drop at bytes) (omega (arith, length-drop at bytes))

pub more_left : (bytes : List ℕ) (off at len end next : ℕ) → IsLeft off at len bytes → at < end → end ≤ length bytes → end ≤ next → next ≤ length bytes
    → (next < length bytes → slice_index bytes next ≢ 0)
    → ranges_of (off + at) (drop at bytes) ≡ range (off + at) (take (end - at) (drop at bytes)) ∷ ranges_of (off + end) (drop end bytes)
    → drop end bytes ≡ replicate (next - end) 0 ++ drop next bytes
    → IsLeft off next (len + (8 + (end - at))) bytes
more_left bytes off at len end next left low high low2 high2 some first zeros =
    let whole = next_left bytes off at end next low2 first zeros in
    let gs = ranges_of (off + next) (drop next bytes) in
    let bs = take (end - at) (drop at bytes) in
    let more : ranges_length (range (off + at) bs ∷ gs) ≡ (8 + length bs) + ranges_length gs = refl in
    record { within = high2; some = some; sum = omega (arith, left.sum, ap ranges_length whole, more, length-range bytes at end (omega arith) high) }

-- nothing is left at the end
pub none_left : (bytes : List ℕ) (off at : ℕ) → length bytes ≤ at → ranges_of (off + at) (drop at bytes) ≡ []
none_left bytes off at past = ap (ranges_of (off + at)) (drop_all at bytes past) ∙ ranges_of-nil (off + at)

-- there is room for the range that is left first
pub room_left : (bytes : List ℕ) (off at len end : ℕ) → IsLeft off at len bytes → at < end → end ≤ length bytes
    → ranges_of (off + at) (drop at bytes) ≡ range (off + at) (take (end - at) (drop at bytes)) ∷ ranges_of (off + end) (drop end bytes)
    → len + (8 + (end - at)) ≤ 8 + length bytes
room_left bytes off at len end left low high first =
    let gs = ranges_of (off + end) (drop end bytes) in
    let bs = take (end - at) (drop at bytes) in
    let more : ranges_length (range (off + at) bs ∷ gs) ≡ (8 + length bs) + ranges_length gs = refl in
    omega (arith, left.sum, ap ranges_length first, more, length-range bytes at end (omega arith) high, most off bytes)

-- so many bytes are before the ranges that are left
pub len_left : (bytes : List ℕ) (off at len : ℕ) → IsLeft off at len bytes → len ≤ 8 + length bytes
len_left bytes off at len left = omega (arith, left.sum, most off bytes)

-- at the end the sum is that of all ranges
pub all_left : (bytes : List ℕ) (off at len : ℕ) → IsLeft off at len bytes → length bytes ≤ at → len ≡ ranges_length (ranges_of off bytes)
all_left bytes off at len left past =
    let none : ranges_length (ranges_of (off + at) (drop at bytes)) ≡ 0 = ap ranges_length (none_left bytes off at past) in
    omega (arith, left.sum, none)
