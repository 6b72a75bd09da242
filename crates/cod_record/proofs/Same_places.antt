-- Bytes that are 0 at the same places have ranges of the same lengths.
use Rattle.std.proofs.Common.{◌≡◌, ℕ, suc, ◌+◌, ◌-◌, ◌<◌, ◌==◌, true, false, nat_lt, List, [], ◌∷◌, ◌++◌, length, get_or, replicate, refl, arith, inl, inr, map, length-append}
use Rattle.std.specs.Bool.{⊤}
use Rattle.std.proofs.lemmas.Bool.{cases_lt}
use Rattle.std.proofs.lemmas.Bool.Decides.{nat_tests}
use Rattle.std.proofs.lemmas.List.{length-replicate}
use Rattle.cod_record.specs.Record.{Range}
use Rattle.cod_record.specs.Sparse.{joined, ranges_length, ranges_of}

-- the ranges have the same places and lengths
abbrev AreAlike : (gs hs : List Range) → Type 0
AreAlike [] [] = ⊤
AreAlike (g ∷ gs) (h ∷ hs) = (g.off ≡ h.off) × (length g.bytes ≡ length h.bytes) × AreAlike gs hs
AreAlike [] (h ∷ hs) = ⊥
AreAlike (g ∷ gs) [] = ⊥

joined_alike : (off b c : ℕ) (gs hs : List Range) → AreAlike gs hs → AreAlike (joined off b gs) (joined off c hs)
unfolding joined
joined_alike off b c [] [] are = (refl, refl, tt)
joined_alike off b c [] (h ∷ hs) are = absurd are
joined_alike off b c (g ∷ gs) [] are = absurd are
joined_alike off b c (g ∷ gs) (h ∷ hs) are =
    let off_is : g.off ≡ h.off = are.0 in
    let len : length g.bytes ≡ length h.bytes = are.1 in
    elim (cases_lt (g.off - (off + 1)) 8) [
      | inl near ↦
          let test : nat_lt (g.off - (off + 1)) 8 ≡ true = grind (arith, nat_tests) in
          let other : nat_lt (h.off - (off + 1)) 8 ≡ true = grind (arith, nat_tests) in
          let long : length (b ∷ (replicate (g.off - (off + 1)) 0 ++ g.bytes)) ≡ length (c ∷ (replicate (h.off - (off + 1)) 0 ++ h.bytes)) =
          omega (
            arith,
            off_is,
            len,
            length-append (replicate (g.off - (off + 1)) 0) g.bytes,
            length-append (replicate (h.off - (off + 1)) 0) h.bytes,
            length-replicate {A = ℕ} (g.off - (off + 1)) 0,
            length-replicate {A = ℕ} (h.off - (off + 1)) 0,
          ) in
          rw (test, other) (refl, long, are.2)
      | inr far ↦
          let test : nat_lt (g.off - (off + 1)) 8 ≡ false = grind (arith, nat_tests) in
          let other : nat_lt (h.off - (off + 1)) 8 ≡ false = grind (arith, nat_tests) in
          rw (test, other) (refl, refl, are)
    ]

-- a function that is 0 at the same bytes
abbrev pub KeepsZeros : (f : ℕ → ℕ) (bytes : List ℕ) → Type 0
KeepsZeros f bytes = (i : ℕ) → i < length bytes → (f (get_or bytes i 0) == 0) ≡ (get_or bytes i 0 == 0)

mapped_alike : (f : ℕ → ℕ) (off : ℕ) (bytes : List ℕ) → KeepsZeros f bytes → AreAlike (ranges_of off (map f bytes)) (ranges_of off bytes)
unfolding ranges_of
mapped_alike f off [] keeps = tt
mapped_alike f off (b ∷ bs) keeps =
    let rest = mapped_alike f (off + 1) bs (λ i within. keeps (suc i) (omega arith)) in
    let same : (f b == 0) ≡ (b == 0) = keeps 0 (omega arith) in
    elim (cases_lt b 1) [
      | inl none ↦
          let test : (b == 0) ≡ true = grind (arith, nat_tests) in
          rw (same, test) rest
      | inr some ↦
          let test : (b == 0) ≡ false = grind (arith, nat_tests) in
          rw (same, test) (joined_alike off (f b) b (ranges_of (off + 1) (map f bs)) (ranges_of (off + 1) bs) rest)
    ]

alike_length : (gs hs : List Range) → AreAlike gs hs → ranges_length gs ≡ ranges_length hs
alike_length [] [] are = refl
alike_length [] (h ∷ hs) are = absurd are
alike_length (g ∷ gs) [] are = absurd are
alike_length (g ∷ gs) (h ∷ hs) are = let rest = alike_length gs hs are.2 in omega (arith, are.1, rest)

-- the texts of such bytes' ranges are as long
pub mapped_length : (f : ℕ → ℕ) (off : ℕ) (bytes : List ℕ) → KeepsZeros f bytes → ranges_length (ranges_of off (map f bytes)) ≡ ranges_length (ranges_of off bytes)
mapped_length f off bytes keeps = alike_length (ranges_of off (map f bytes)) (ranges_of off bytes) (mapped_alike f off bytes keeps)

-- zeros have no range
pub zeros_none : (f : ℕ → ℕ) (off : ℕ) (bytes : List ℕ) → ((b : ℕ) → f b ≡ 0) → ranges_of off (map f bytes) ≡ []
unfolding ranges_of
zeros_none f off [] zeros = refl
zeros_none f off (b ∷ bs) zeros = let e = zeros b in rw e (zeros_none f (off + 1) bs zeros)
