-- Where the ranges of given bytes end, and what they have behind.
use Rattle.std.proofs.Common.{◌≡◌, ℕ, ◌+◌, ◌-◌, ◌≤◌, ◌==◌, true, false, nat_lt, List, [], ◌∷◌, ◌++◌, length, replicate, refl, ◌∙◌, arith, inl, inr, length-append}
use Rattle.std.specs.Bool.{⊤}
use Rattle.std.proofs.lemmas.Bool.{cases_lt}
use Rattle.std.proofs.lemmas.Bool.Decides.{nat_tests}
use Rattle.std.proofs.lemmas.List.{length-replicate}
use Rattle.cod_types.proofs.Replaced.{byte_after}
use Rattle.cod_record.specs.Record.{AreInside, Range, range_byte}
use Rattle.cod_record.specs.Sparse.{joined, ranges_of}

-- nothing stands behind the end
pub range_byte-behind : (gs : List Range) (end x : ℕ) → AreInside end gs → end ≤ x → range_byte gs x ≡ 0
range_byte-behind [] end x are behind = refl
range_byte-behind (g ∷ gs) end x are behind = byte_after x (range_byte gs x) g.off g.bytes (omega (arith, are.0)) ∙ range_byte-behind gs end x are.1 behind

-- the first range begins at a place or behind it
abbrev Begins : (from : ℕ) → List Range → Type 0
Begins from [] = ⊤
Begins from (g ∷ gs) = from ≤ g.off

joined_inside : (off b end : ℕ) (gs : List Range) → off + 1 ≤ end → Begins (off + 1) gs → AreInside end gs → Begins off (joined off b gs) × AreInside end (joined off b gs)
unfolding joined
joined_inside off b end [] room begins are = (omega arith, (omega arith, tt))
joined_inside off b end (g ∷ gs) room begins are = elim (cases_lt (g.off - (off + 1)) 8) [
  | inl near ↦
      let test : nat_lt (g.off - (off + 1)) 8 ≡ true = grind (arith, nat_tests) in
      let k = g.off - (off + 1) in
      let long : length (b ∷ (replicate k 0 ++ g.bytes)) ≡ 1 + (k + length g.bytes) = omega (arith, length-append (replicate k 0) g.bytes, length-replicate {A = ℕ} k 0) in
      rw test (omega arith, (omega (arith, long, begins, are.0), are.1))
  | inr far ↦
      let test : nat_lt (g.off - (off + 1)) 8 ≡ false = grind (arith, nat_tests) in
      rw test (omega arith, (omega arith, are))
]

begins_before : (off : ℕ) (gs : List Range) → Begins (off + 1) gs → Begins off gs
begins_before off [] begins = tt
begins_before off (g ∷ gs) begins = omega arith

both : (off : ℕ) (bytes : List ℕ) → Begins off (ranges_of off bytes) × AreInside (off + length bytes) (ranges_of off bytes)
unfolding ranges_of
both off [] = (tt, tt)
both off (b ∷ bs) =
    let rest = both (off + 1) bs in
    let len : (off + 1) + length bs ≡ off + length (b ∷ bs) = omega arith in
    elim (cases_lt b 1) [
      | inl none ↦
          let test : (b == 0) ≡ true = grind (arith, nat_tests) in
          rw (test, ← len) (begins_before off (ranges_of (off + 1) bs) rest.0, rest.1)
      | inr some ↦
          let test : (b == 0) ≡ false = grind (arith, nat_tests) in
          rw (test, ← len) (joined_inside off b ((off + 1) + length bs) (ranges_of (off + 1) bs) (omega arith) rest.0 rest.1)
    ]

-- the ranges of bytes end where the bytes do, or before
pub ranges_of-inside : (off : ℕ) (bytes : List ℕ) → AreInside (off + length bytes) (ranges_of off bytes)
ranges_of-inside off bytes = (both off bytes).1
