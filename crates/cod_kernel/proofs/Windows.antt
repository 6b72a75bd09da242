-- What falls into a window.
use Rattle.std.proofs.Common.{◌≡◌, ℕ, ◌+◌, ◌-◌, ◌<◌, max, min, List, length, take, drop, get_or, sym, ap, ap₂, ◌∙◌, arith, inl, inr, bit_xor}
use Rattle.std.proofs.lemmas.Bool.{cases_lt}
use Rattle.std.proofs.lemmas.List.{get_or-drop, get_or-take, places}
use Rattle.std.proofs.lemmas.Grind.{common_steps}
use Rattle.std.specs.Int.Bits.{xor_zero_r}
use borrow.Rule.Slice.PartMut.{put_mid}
use Rattle.cod_kernel.specs.Sums.{added}
use Rattle.cod_kernel.proofs.SumLaws.{added_at, length-added}
use Rattle.cod_types.specs.Overwritten.{byte_at}
use Rattle.cod_types.proofs.Replaced.{byte_in, byte_before, byte_after}

-- what falls into a window of bytes at a place is added to it
pub added_window : (w part bytes : List ℕ) (off place from to a n b m : ℕ) → from ≡ max off place → to ≡ min (off + length w) (place + length bytes) → from < to
    → a ≡ from - off → n ≡ to - off - a → b ≡ from - place → m ≡ to - place - b
    → part ≡ added (take n (drop a w)) (take m (drop b bytes))
    → (x : ℕ) → x < length w → get_or (put_mid a n w part) x 0 ≡ bit_xor (get_or w x 0) (byte_at (off + x) 0 place bytes)
added_window w part bytes off place from to a n b m from_is to_is some a_is n_is b_is m_is is x within =
    let wide : length (take n (drop a w)) ≡ n = grind (arith, common_steps) in
    let long : length (take m (drop b bytes)) ≡ m = grind (arith, common_steps) in
    let same : n ≡ m = omega arith in
    let size : length part ≡ n = ap length is ∙ length-added (take n (drop a w)) (take m (drop b bytes)) (wide ∙ same ∙ sym long) ∙ wide in
    elim (cases_lt x a) [
      | inl low ↦
          let none : byte_at (off + x) 0 place bytes ≡ 0 = byte_before (off + x) 0 place bytes (omega arith) in
          rw (none, xor_zero_r (get_or w x 0)) (grind (arith, places))
      | inr from_a ↦ elim (cases_lt x (a + n)) [
        | inl high ↦
            let byte : byte_at (off + x) 0 place bytes ≡ get_or bytes (off + x - place) 0 = byte_in (off + x) 0 place bytes (omega arith) (omega arith) in
            let at : get_or (put_mid a n w part) x 0 ≡ get_or part (x - a) 0 = grind (arith, places) in
            let sum = added_at (take n (drop a w)) (take m (drop b bytes)) (x - a) (wide ∙ same ∙ sym long) in
            let e : a + (x - a) ≡ x = omega arith in
            let f : b + (x - a) ≡ off + x - place = omega arith in
            let left : get_or (take n (drop a w)) (x - a) 0 ≡ get_or w x 0 = get_or-take n (drop a w) (x - a) 0 (omega arith)
            ∙ get_or-drop a w (x - a) 0 ∙ ap (λ (k : ℕ). get_or w k 0) e in
            let right : get_or (take m (drop b bytes)) (x - a) 0 ≡ get_or bytes (off + x - place) 0 = get_or-take m (drop b bytes) (x - a) 0 (omega arith)
            ∙ get_or-drop b bytes (x - a) 0 ∙ ap (λ (k : ℕ). get_or bytes k 0) f in
            at ∙ ap (λ (l : List ℕ). get_or l (x - a) 0) is ∙ sum ∙ ap₂ bit_xor left (right ∙ sym byte)
        | inr past ↦
            let none : byte_at (off + x) 0 place bytes ≡ 0 = byte_after (off + x) 0 place bytes (omega arith) in
            rw (none, xor_zero_r (get_or w x 0)) (grind (arith, places))
      ]
    ]
