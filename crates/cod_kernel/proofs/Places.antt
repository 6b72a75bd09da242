-- Blocks that are added, or set, from the first place on.
use Rattle.std.proofs.Common.{◌≡◌, ℕ, ◌+◌, ◌-◌, ◌<◌, ◌≤◌, bit_xor, refl, sym, ap, ap₂, ◌∙◌, arith, List, length, get_or, ⊎_elim, subst}
use Rattle.std.specs.Simd.Lanes.{zip2, chunk, put_chunk}
use Rattle.std.proofs.lemmas.List.{ext_get_or}
use Rattle.std.proofs.lemmas.Bool.{cases_lt}
use Rattle.std.proofs.lemmas.Simd.{get_or-zip2, length-zip2, length-chunk, get_or-chunk, get_or-put_chunk_at, get_or-put_chunk_below, get_or-put_chunk_above}
use Rattle.cod_kernel.specs.Sums.{added}
use Rattle.cod_kernel.proofs.SumLaws.{length-added, added_at}

-- bs is added to each place of start below upto
pub record IsAdded (start now bs : List ℕ) (upto : ℕ) : Type 0 where
  pub below : (m : ℕ) → m < upto → get_or now m 0 ≡ bit_xor (get_or start m 0) (get_or bs m 0)
  pub above : (m : ℕ) → upto ≤ m → get_or now m 0 ≡ get_or start m 0

-- each place below upto is that of bs
pub record IsSet (now bs : List ℕ) (upto : ℕ) : Type 0 where
  pub below : (m : ℕ) → m < upto → get_or now m 0 ≡ get_or bs m 0

pub added_none : (start bs : List ℕ) → IsAdded start start bs 0
added_none start bs = record { below = λ m h. absurd (omega arith); above = λ m h. refl }

pub added_upto : (start now bs : List ℕ) (a b : ℕ) → a ≡ b → IsAdded start now bs a → IsAdded start now bs b
added_upto start now bs a b e h = subst (λ n. IsAdded start now bs n) e h

pub set_upto : (now bs : List ℕ) (a b : ℕ) → a ≡ b → IsSet now bs a → IsSet now bs b
set_upto now bs a b e h = subst (λ n. IsSet now bs n) e h

pub set_less : (now bs : List ℕ) (a b : ℕ) → a ≤ b → IsSet now bs b → IsSet now bs a
set_less now bs a b e h = record { below = λ m lt. let further : m < b = omega arith in h.below m further }

-- ---- a vector is put in the places from `at` on

put_within : (at n : ℕ) (xs lanes : List ℕ) (m : ℕ) → at ≤ m → m < at + n → length lanes ≡ n → at + n ≤ length xs
    → get_or (put_chunk at xs lanes) m 0 ≡ get_or lanes (m - at) 0
put_within at n xs lanes m h g long room =
    let is : m ≡ at + (m - at) = omega arith in
    let inside : m - at < length lanes = omega arith in
    ap (λ p. get_or (put_chunk at xs lanes) p 0) is ∙ get_or-put_chunk_at at xs lanes (m - at) 0 inside (omega arith)

chunk_at : (at n : ℕ) (xs : List ℕ) (m : ℕ) → at ≤ m → m < at + n → get_or (chunk at n xs) (m - at) 0 ≡ get_or xs m 0
chunk_at at n xs m h g =
    let is : at + (m - at) ≡ m = omega arith in
    let lt : m - at < n = omega arith in
    get_or-chunk at n xs (m - at) 0 lt ∙ ap (λ p. get_or xs p 0) is

pub set_step : (at n : ℕ) (now new bs lanes : List ℕ) → new ≡ put_chunk at now lanes → lanes ≡ chunk at n bs
    → at + n ≤ length now → at + n ≤ length bs → IsSet now bs at → IsSet new bs (at + n)
set_step at n now new bs lanes is are room inside so_far =
    let long : length lanes ≡ n = ap length are ∙ length-chunk at n bs inside in
    record {
      below = λ m lt. ap (λ xs. get_or xs m 0) is ∙ ⊎_elim
          (λ (l : m < at). get_or-put_chunk_below at now lanes m 0 l ∙ so_far.below m l)
          (λ (g : at ≤ m). put_within at n now lanes m g lt long room ∙ ap (λ xs. get_or xs (m - at) 0) are ∙ chunk_at at n bs m g lt)
          (cases_lt m at);
    }

-- ---- a vector is added to the places from `at` on

sum_within : (at n : ℕ) (xs lanes : List ℕ) (m : ℕ) → at ≤ m → m < at + n → length lanes ≡ n → at + n ≤ length xs
    → get_or (put_chunk at xs (zip2 bit_xor (chunk at n xs) lanes)) m 0 ≡ bit_xor (get_or xs m 0) (get_or lanes (m - at) 0)
sum_within at n xs lanes m h g long room =
    let front : length (chunk at n xs) ≡ n = length-chunk at n xs room in
    let sum : length (zip2 bit_xor (chunk at n xs) lanes) ≡ n = length-zip2 bit_xor (chunk at n xs) lanes (front ∙ sym long) ∙ front in
    let left : m - at < length (chunk at n xs) = omega arith in
    let right : m - at < length lanes = omega arith in
    put_within at n xs (zip2 bit_xor (chunk at n xs) lanes) m h g sum room
    ∙ get_or-zip2 bit_xor (chunk at n xs) lanes (m - at) 0 0 0 left right
    ∙ ap (λ x. bit_xor x (get_or lanes (m - at) 0)) (chunk_at at n xs m h g)

sum_above : (at n : ℕ) (xs lanes : List ℕ) (m : ℕ) → at + n ≤ m → length lanes ≡ n → at + n ≤ length xs
    → get_or (put_chunk at xs (zip2 bit_xor (chunk at n xs) lanes)) m 0 ≡ get_or xs m 0
sum_above at n xs lanes m h long room =
    let front : length (chunk at n xs) ≡ n = length-chunk at n xs room in
    let sum : length (zip2 bit_xor (chunk at n xs) lanes) ≡ n = length-zip2 bit_xor (chunk at n xs) lanes (front ∙ sym long) ∙ front in
    get_or-put_chunk_above at xs (zip2 bit_xor (chunk at n xs) lanes) m 0 (omega arith)

pub added_step : (at n : ℕ) (start now new bs lanes : List ℕ) → new ≡ put_chunk at now (zip2 bit_xor (chunk at n now) lanes)
    → lanes ≡ chunk at n bs → at + n ≤ length now → at + n ≤ length bs → IsAdded start now bs at → IsAdded start new bs (at + n)
added_step at n start now new bs lanes is are room inside so_far =
    let long : length lanes ≡ n = ap length are ∙ length-chunk at n bs inside in
    record {
      below = λ m lt. ap (λ xs. get_or xs m 0) is ∙ ⊎_elim
          (λ (l : m < at). get_or-put_chunk_below at now (zip2 bit_xor (chunk at n now) lanes) m 0 l ∙ so_far.below m l)
          (λ (g : at ≤ m). sum_within at n now lanes m g lt long room
          ∙ ap₂ bit_xor (so_far.above m g) (ap (λ xs. get_or xs (m - at) 0) are ∙ chunk_at at n bs m g lt))
          (cases_lt m at);
      above = λ m past. ap (λ xs. get_or xs m 0) is ∙ sum_above at n now lanes m past long room ∙ so_far.above m (omega arith);
    }

-- ---- the last places are what stood there before and what is added to them

pub added_last : (at upto : ℕ) (start now new bs before part : List ℕ) → new ≡ put_chunk at now (zip2 bit_xor before part)
    → before ≡ chunk at 16 start → part ≡ chunk at 16 bs → at + 16 ≡ length now → length start ≡ length now → length bs ≡ length now
    → at ≤ upto → IsAdded start now bs upto → (m : ℕ) → m < at + 16 → get_or new m 0 ≡ bit_xor (get_or start m 0) (get_or bs m 0)
added_last at upto start now new bs before part is was are room same same' le so_far m lt =
    let lb : length before ≡ 16 = ap length was ∙ length-chunk at 16 start (omega arith) in
    let lp : length part ≡ 16 = ap length are ∙ length-chunk at 16 bs (omega arith) in
    let long : length (zip2 bit_xor before part) ≡ 16 = length-zip2 bit_xor before part (lb ∙ sym lp) ∙ lb in
    ap (λ xs. get_or xs m 0) is ∙ ⊎_elim
    (λ (l : m < at). get_or-put_chunk_below at now (zip2 bit_xor before part) m 0 l ∙ so_far.below m (omega arith))
    (λ (g : at ≤ m).
    let left : m - at < length before = omega arith in
    let right : m - at < length part = omega arith in
    put_within at 16 now (zip2 bit_xor before part) m g lt long (omega arith)
    ∙ get_or-zip2 bit_xor before part (m - at) 0 0 0 left right
    ∙ ap₂ bit_xor (ap (λ xs. get_or xs (m - at) 0) was ∙ chunk_at at 16 start m g lt) (ap (λ xs. get_or xs (m - at) 0) are ∙ chunk_at at 16 bs m g lt))
    (cases_lt m at)

-- ---- the whole

pub sum_whole : (start now bs : List ℕ) → length bs ≡ length start → length now ≡ length start
    → ((m : ℕ) → m < length start → get_or now m 0 ≡ bit_xor (get_or start m 0) (get_or bs m 0)) → now ≡ added start bs
sum_whole start now bs same kept each =
    let long : length (added start bs) ≡ length start = length-added start bs (sym same) in
    ext_get_or 0 now (added start bs) (kept ∙ sym long) (λ m lt. each m (omega arith) ∙ sym (added_at start bs m (sym same)))

pub added_whole : (start now bs : List ℕ) (upto : ℕ) → length bs ≡ length start → length now ≡ length start → length start ≤ upto
    → IsAdded start now bs upto → now ≡ added start bs
added_whole start now bs upto same kept all so_far =
    sum_whole start now bs same kept (λ m lt. so_far.below m (omega arith))

pub set_whole : (now bs : List ℕ) (upto : ℕ) → length now ≡ length bs → length bs ≤ upto → IsSet now bs upto → now ≡ bs
set_whole now bs upto same all so_far = ext_get_or 0 now bs same (λ m lt. so_far.below m (omega arith))
