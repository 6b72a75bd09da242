-- Bytes replaced, as a whole list and part by part.
use Rattle.std.proofs.Common.{◌≡◌, ℕ, suc, zero, ◌+◌, ◌-◌, ◌<◌, ◌≤◌, max, min, length, take, drop, get_or, List, [], ◌∷◌, ◌++◌, refl, sym, ap, ◌∙◌, arith, inl, inr, add-zero}
use Rattle.std.proofs.lemmas.List.{ext_get_or, get_or_append_left, get_or-append_right, get_or-take, get_or-drop}
use Rattle.std.proofs.Common.{length-append}
use Rattle.std.proofs.lemmas.Grind.{common_steps}
use Rattle.std.proofs.lemmas.Bool.{cases_lt}
use Rattle.std.proofs.lemmas.Bool.Decides.{nat_tests}
use Rattle.std.proofs.lemmas.List.{take_all}
use Rattle.std.proofs.lemmas.Slice.{put_mid-paste}
use borrow.Rule.Slice.PartMut.{put_mid}
use Rattle.cod_types.specs.Overwritten.{overwritten, replaced, byte_at}

pub length-replaced : (p : ℕ) (bs : List ℕ) (off : ℕ) (d : List ℕ) → length (replaced p bs off d) ≡ length bs
unfolding replaced
length-replaced p [] off d = refl
length-replaced p (b ∷ bs) off d = ap suc (length-replaced (p + 1) bs off d)

-- two parts
pub replaced-append : (p : ℕ) (cs bs : List ℕ) (off : ℕ) (d : List ℕ) → replaced p (cs ++ bs) off d ≡ replaced p cs off d ++ replaced (p + length cs) bs off d
unfolding replaced
replaced-append p [] bs off d = ap (λ (n : ℕ). replaced n bs off d) (sym (add-zero p))
replaced-append p (a ∷ cs) bs off d =
    let e : p + 1 + length cs ≡ p + suc (length cs) = omega arith in
    ap (λ (l : List ℕ). byte_at p a off d ∷ l) (rw e at (replaced-append (p + 1) cs bs off d))

pub get_or-replaced : (p : ℕ) (bs : List ℕ) (off : ℕ) (d : List ℕ) (i : ℕ) → i < length bs → get_or (replaced p bs off d) i 0 ≡ byte_at (p + i) (get_or bs i 0) off d
unfolding replaced
get_or-replaced p [] off d i lt = absurd (omega arith)
get_or-replaced p (b ∷ bs) off d zero lt = ap (λ (n : ℕ). byte_at n b off d) (sym (add-zero p))
get_or-replaced p (b ∷ bs) off d (suc i) lt =
    let e : p + 1 + i ≡ p + suc i = omega arith in rw e at (get_or-replaced (p + 1) bs off d i (omega arith))

pub length-overwritten : (off : ℕ) (d b : List ℕ) → off + length d ≤ length b → length (overwritten off d b) ≡ length b
length-overwritten off d b fits = grind (arith, common_steps)

pub byte_in : (p b off : ℕ) (d : List ℕ) → off ≤ p → p < off + length d → byte_at p b off d ≡ get_or d (p - off) 0
byte_in p b off d low high = grind (arith, nat_tests)

pub byte_before : (p b off : ℕ) (d : List ℕ) → p < off → byte_at p b off d ≡ b
byte_before p b off d h = grind (arith, nat_tests)

pub byte_after : (p b off : ℕ) (d : List ℕ) → off + length d ≤ p → byte_at p b off d ≡ b
byte_after p b off d h = grind (arith, nat_tests)

pub get_or-overwritten : (off : ℕ) (d b : List ℕ) (i : ℕ) → off + length d ≤ length b → get_or (overwritten off d b) i 0 ≡ byte_at i (get_or b i 0) off d
get_or-overwritten off d b i fits =
    let front : length (take off b) ≡ off = grind (arith, common_steps) in
    let both : length (take off b ++ d) ≡ off + length d = grind (arith, common_steps) in
    elim (cases_lt i off) [
      | inl before ↦ rw byte_before (get_or_append_left (take off b ++ d) (drop (off + length d) b) 0 i (omega arith) ∙
          get_or_append_left (take off b) d 0 i (omega arith) ∙ get_or-take off b i 0 before)
      | inr from ↦ elim (cases_lt i (off + length d)) [
        | inl within ↦ rw byte_in (get_or_append_left (take off b ++ d) (drop (off + length d) b) 0 i (omega arith) ∙ get_or-append_right (take off b) d off i 0 front from)
        | inr after ↦
            let e : off + length d + (i - (off + length d)) ≡ i = omega arith in
            rw byte_after (get_or-append_right (take off b ++ d) (drop (off + length d) b) (off + length d) i 0 both after ∙
            get_or-drop (off + length d) b (i - (off + length d)) 0 ∙ ap (λ (n : ℕ). get_or b n 0) e)
      ]
    ]

-- the whole segment
pub replaced_is_overwritten : (off : ℕ) (d b : List ℕ) → off + length d ≤ length b → replaced 0 b off d ≡ overwritten off d b
replaced_is_overwritten off d b fits =
    ext_get_or 0 (replaced 0 b off d) (overwritten off d b) (length-replaced 0 b off d ∙ sym (length-overwritten off d b fits))
    (λ i lt. let z : 0 + i ≡ i = omega arith in rw z at (get_or-replaced 0 b off d i (omega (arith, length-replaced 0 b off d))) ∙ sym (get_or-overwritten off d b i fits))

-- a block outside the range
pub replaced_outside : (p : ℕ) (b : List ℕ) (off : ℕ) (d : List ℕ) → min (off + length d) (p + length b) ≤ max off p → replaced p b off d ≡ b
replaced_outside p b off d out =
    ext_get_or 0 (replaced p b off d) b (length-replaced p b off d)
    (λ i lt. let l = length-replaced p b off d in get_or-replaced p b off d i (omega arith) ∙ elim (cases_lt (p + i) off) [
      | inl before ↦ byte_before (p + i) (get_or b i 0) off d before
      | inr from ↦ byte_after (p + i) (get_or b i 0) off d (omega arith)
    ])

-- a block that the range meets
pub replaced_inside : (p : ℕ) (b : List ℕ) (off : ℕ) (d : List ℕ) (from to : ℕ) → from ≡ max off p → to ≡ min (off + length d) (p + length b) → from < to
    → replaced p b off d ≡ overwritten (from - p) (take (to - from) (drop (from - off) d)) b
replaced_inside p b off d from to f t lt =
    let piece = take (to - from) (drop (from - off) d) in
    let n : length piece ≡ to - from = grind (arith, common_steps) in
    let fits : (from - p) + length piece ≤ length b = omega arith in
    ext_get_or 0 (replaced p b off d) (overwritten (from - p) piece b) (length-replaced p b off d ∙ sym (length-overwritten (from - p) piece b fits))
    (λ i lt. let l = length-replaced p b off d in get_or-replaced p b off d i (omega arith) ∙ elim (cases_lt i (from - p)) [
      | inl before ↦ byte_before (p + i) (get_or b i 0) off d (omega arith) ∙ sym (get_or-overwritten (from - p) piece b i fits ∙ byte_before i (get_or b i 0) (from - p) piece before)
      | inr low ↦ elim (cases_lt i (from - p + length piece)) [
        | inl high ↦
            let e : from - off + (i - (from - p)) ≡ p + i - off = omega arith in
            byte_in (p + i) (get_or b i 0) off d (omega arith) (omega arith)
            ∙ sym (get_or-overwritten (from - p) piece b i fits ∙ byte_in i (get_or b i 0) (from - p) piece low high
            ∙ get_or-take (to - from) (drop (from - off) d) (i - (from - p)) 0 (omega arith) ∙ get_or-drop (from - off) d (i - (from - p)) 0 ∙ ap (λ (n : ℕ). get_or d n 0) e)
        | inr after ↦ byte_after (p + i) (get_or b i 0) off d (omega arith) ∙ sym (get_or-overwritten (from - p) piece b i fits ∙ byte_after i (get_or b i 0) (from - p) piece after)
      ]
    ])

pub byte_twice : (p b off : ℕ) (d e : List ℕ) → byte_at p (byte_at p b off d) (off + length d) e ≡ byte_at p b off (d ++ e)
byte_twice p b off d e =
    let n = length-append d e in
    elim (cases_lt p off) [
      | inl before ↦ byte_before p (byte_at p b off d) (off + length d) e (omega arith) ∙ byte_before p b off d before ∙ sym (byte_before p b off (d ++ e) before)
      | inr from ↦ elim (cases_lt p (off + length d)) [
        | inl first ↦ byte_before p (byte_at p b off d) (off + length d) e first ∙ byte_in p b off d from first
            ∙ sym (byte_in p b off (d ++ e) from (omega arith) ∙ get_or_append_left d e 0 (p - off) (omega arith))
        | inr past ↦ elim (cases_lt p (off + length d + length e)) [
          | inl second ↦
              let k : p - off - length d ≡ p - (off + length d) = omega arith in
              byte_in p (byte_at p b off d) (off + length d) e past second
              ∙ sym (byte_in p b off (d ++ e) from (omega arith) ∙ get_or-append_right d e (length d) (p - off) 0 refl (omega arith) ∙ ap (λ (m : ℕ). get_or e m 0) k)
          | inr after ↦ byte_after p (byte_at p b off d) (off + length d) e after ∙ byte_after p b off d past ∙ sym (byte_after p b off (d ++ e) (omega arith))
        ]
      ]
    ]

-- bytes behind those that were replaced are replaced too
pub replaced_twice : (p : ℕ) (bs : List ℕ) (off : ℕ) (d e : List ℕ) → replaced p (replaced p bs off d) (off + length d) e ≡ replaced p bs off (d ++ e)
unfolding replaced
replaced_twice p [] off d e = refl
replaced_twice p (b ∷ bs) off d e = cc (replaced_twice (p + 1) bs off d e, byte_twice p b off d e)

-- a range of the whole segment
pub replaced_is_range : (into : List ℕ) (off : ℕ) (b : List ℕ) → off + length into ≤ length b → replaced off into 0 b ≡ take (length into) (drop off b)
replaced_is_range into off b fits =
    let n : length (take (length into) (drop off b)) ≡ length into = grind (arith, common_steps) in
    ext_get_or 0 (replaced off into 0 b) (take (length into) (drop off b)) (length-replaced off into 0 b ∙ sym n)
    (λ i lt. let l = length-replaced off into 0 b in get_or-replaced off into 0 b i (omega arith) ∙
    byte_in (off + i) (get_or into i 0) 0 b (omega arith) (omega arith) ∙ (let z : off + i - 0 ≡ off + i = omega arith in ap (λ (n : ℕ). get_or b n 0) z)
    ∙ sym (get_or-take (length into) (drop off b) i 0 (omega arith) ∙ get_or-drop off b i 0))

-- nothing replaced
pub replaced-nil : (p : ℕ) (bs : List ℕ) (off : ℕ) → replaced p bs off [] ≡ bs
replaced-nil p bs off = ext_get_or 0 (replaced p bs off []) bs (length-replaced p bs off [])
    (λ i lt. let l = length-replaced p bs off [] in get_or-replaced p bs off [] i (omega arith) ∙ elim (cases_lt (p + i) off) [
      | inl before ↦ byte_before (p + i) (get_or bs i 0) off [] before
      | inr from ↦ byte_after (p + i) (get_or bs i 0) off [] (let z = add-zero off in omega arith)
    ])

-- what a write to a part of a slice leaves
pub put_mid_is : (a k : ℕ) (xs ys : List ℕ) → length ys ≡ k → put_mid a k xs ys ≡ overwritten a ys xs
put_mid_is a k xs ys e =
    put_mid-paste a k xs ys ys (length ys) refl e refl ∙ ap (λ (l : List ℕ). take a xs ++ l ++ drop (a + length ys) xs) (take_all (length ys) ys (omega arith))
