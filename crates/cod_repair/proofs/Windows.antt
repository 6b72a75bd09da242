-- Windows that are held, and the sum of them.
use Rattle.std.proofs.Common.{◌≡◌, ◌≢◌, ℕ, zero, suc, ◌+◌, ◌*◌, ◌<◌, ◌≤◌, List, [], ◌∷◌, ◌++◌, length, take, get_or, set, map, replicate, bit_xor, Bool, true, false, cond, refl, sym, ap, ap₂, subst, ◌∙◌, arith, add-one}
use Rattle.std.specs.List.{range_with_len}
use Rattle.std.specs.Int.Bits.{xor_assoc, xor_zero_l, xor_zero_r}
use Rattle.std.proofs.lemmas.List.{get_or-set_same, get_or-set_other, get_or-replicate, length-replicate, length-take, take_more, places}
use Rattle.std.proofs.lemmas.List.FromFn.{length-map-range_with_len, map-range_with_len_more}
use Rattle.std.proofs.Math.Nat.{mul-le-mul_right, suc-mul}
use borrow.Rule.Slice.PartMut.{put_mid}
use Rattle.cod_field.specs.Field.{product}
use Rattle.cod_kernel.specs.Sums.{added_all_scaled, sum_at}
use Rattle.cod_kernel.proofs.SumLaws.{added_all_scaled_at}
use Rattle.cod_repair.specs.Pieces.{sum_of, with_windows}
use Rattle.cod_repair.proofs.Encoding.{part, part_at, parts_long}
use Rattle.cod_repair.proofs.Summing.{sum_of_more}

-- ---- a sum of windows at a place

pub sum_at_more : (scalars : List ℕ) (sources : List (List ℕ)) (c : ℕ) (ys : List ℕ) (x : ℕ) → length scalars ≡ length sources
    → sum_at (scalars ++ c ∷ []) (sources ++ ys ∷ []) x ≡ bit_xor (sum_at scalars sources x) (product c (get_or ys x 0))
unfolding sum_at
sum_at_more [] [] c ys x size = xor_zero_r (product c (get_or ys x 0)) ∙ sym (xor_zero_l (product c (get_or ys x 0)))
sum_at_more [] (b ∷ sources) c ys x size = absurd (omega arith)
sum_at_more (a ∷ scalars) [] c ys x size = absurd (omega arith)
sum_at_more (a ∷ scalars) (b ∷ sources) c ys x size =
    let p = product a (get_or b x 0) in
    ap (bit_xor p) (sum_at_more scalars sources c ys x (omega arith))
    ∙ sym (xor_assoc p (sum_at scalars sources x) (product c (get_or ys x 0)))

-- the sum of the first windows at a place is that of their bytes there
windows_at : (coefs windows : List ℕ) (len m x : ℕ) → m ≤ length coefs → x < len
    → sum_at (take m coefs) (map (part len windows) (range_with_len 0 m)) x ≡ sum_of coefs (λ j. get_or windows (j * len + x) 0) m
unfolding sum_at
windows_at coefs windows len zero x few lt = refl
windows_at coefs windows len (suc m) x few lt =
    let within : m < length coefs = omega arith in
    let byte = λ (j : ℕ). get_or windows (j * len + x) 0 in
    let size : length (take m coefs) ≡ length (map (part len windows) (range_with_len 0 m)) =
    (let a = length-take {A = ℕ} m coefs in let b = length-map-range_with_len (part len windows) 0 m in omega (arith, a, b)) in
    let front : 0 + m ≡ m = omega arith in
    subst (λ (n : ℕ). sum_at (take n coefs) (map (part len windows) (range_with_len 0 n)) x ≡ sum_of coefs byte n) (add-one m)
    (ap₂ (λ (s : List ℕ) (l : List (List ℕ)). sum_at s l x) (take_more coefs m 0 within) (map-range_with_len_more (part len windows) 0 m m front)
    ∙ sum_at_more (take m coefs) (map (part len windows) (range_with_len 0 m)) (get_or coefs m 0) (part len windows m) x size
    ∙ ap₂ (λ (s b : ℕ). bit_xor s (product (get_or coefs m 0) b)) (windows_at coefs windows len m x (omega arith) lt) (part_at windows (m * len) len x lt)
    ∙ sym (sum_of_more coefs byte m))

-- ---- the windows that are held are added

pub added_windows : (coefs windows : List ℕ) (xs into : List ℕ) (sources : List (List ℕ)) (len held : ℕ) → held ≤ length coefs → held * len ≤ length windows → length xs ≡ len
    → sources ≡ map (part len windows) (range_with_len 0 held) → into ≡ added_all_scaled xs (take held coefs) sources
    → (x : ℕ) → x < len → get_or into x 0 ≡ bit_xor (get_or xs x 0) (sum_of coefs (λ j. get_or windows (j * len + x) 0) held)
added_windows coefs windows xs into sources len held few enough size are is x lt =
    ap (λ (l : List ℕ). get_or l x 0) is
    ∙ added_all_scaled_at xs (take held coefs) sources x (rw (size, are) (parts_long windows held len enough 0 held (omega arith)))
    ∙ ap (bit_xor (get_or xs x 0)) (ap (λ (s : List (List ℕ)). sum_at (take held coefs) s x) are ∙ windows_at coefs windows len held x few lt)

-- fresh bytes are set
pub set_windows : (coefs windows : List ℕ) (old into : List ℕ) (sources : List (List ℕ)) (len held : ℕ) → held ≤ length coefs → held * len ≤ length windows
    → sources ≡ map (part len windows) (range_with_len 0 held) → into ≡ added_all_scaled (replicate len 0) (take held coefs) sources
    → (x : ℕ) → x < len → get_or into x 0 ≡ with_windows true old coefs windows len held x
set_windows coefs windows old into sources len held few enough are is x lt =
    added_windows coefs windows (replicate len 0) into sources len held few enough (length-replicate {A = ℕ} len 0) are is x lt
    ∙ ap (λ (z : ℕ). bit_xor z (sum_of coefs (λ j. get_or windows (j * len + x) 0) held)) (get_or-replicate len x 0 0 lt)

-- nothing is held after that
pub none_held : (into coefs windows : List ℕ) (len x : ℕ) → with_windows false into coefs windows len 0 x ≡ get_or into x 0
none_held into coefs windows len x = xor_zero_r (get_or into x 0)

-- ---- one window more

pub sum_of_same : (r s : List ℕ) (f g : ℕ → ℕ) (m : ℕ) → ((j : ℕ) → j < m → get_or r j 0 ≡ get_or s j 0) → ((j : ℕ) → j < m → f j ≡ g j) → sum_of r f m ≡ sum_of s g m
sum_of_same r s f g zero rows bytes = refl
sum_of_same r s f g (suc m) rows bytes =
    rw (sum_of_same r s f g m (λ j lt. rows j (omega arith)) (λ j lt. bytes j (omega arith)), rows m (omega arith), bytes m (omega arith)) refl

in_window : (j held len x : ℕ) → j < held → x < len → j * len + x < held * len
in_window j held len x low lt =
    let fits : suc j * len ≤ held * len = mul-le-mul_right len low in
    omega (arith, suc-mul j len)

pub window_more : (fresh : Bool) (into coefs old new : List ℕ) (len held x c b : ℕ) → held < length coefs → x < len
    → ((y : ℕ) → y < held * len → get_or new y 0 ≡ get_or old y 0) → get_or new (held * len + x) 0 ≡ b
    → with_windows fresh into (set coefs held c) new len (held + 1) x ≡ bit_xor (with_windows fresh into coefs old len held x) (product c b)
window_more fresh into coefs old new len held x c b few lt before here =
    let base = cond fresh 0 (get_or into x 0) in
    let byte = λ (j : ℕ). get_or new (j * len + x) 0 in
    let was = λ (j : ℕ). get_or old (j * len + x) 0 in
    let row : (j : ℕ) → j < held → get_or (set coefs held c) j 0 ≡ get_or coefs j 0 = λ j low. get_or-set_other coefs held j c 0 (below j held low) in
    ap (bit_xor base)
    (sum_of_more (set coefs held c) byte held
    ∙ ap₂ (λ (s p : ℕ). bit_xor s p) (sum_of_same (set coefs held c) coefs byte was held row (λ j low. before (j * len + x) (in_window j held len x low lt)))
    (ap₂ product (get_or-set_same coefs held c 0 few) here))
    ∙ sym (xor_assoc base (sum_of coefs was held) (product c b))
  where
    below : (j held : ℕ) → j < held → j ≢ held
    below j held low = omega arith

-- one source more
pub source_more : (fresh : Bool) (into coefs old new row : List ℕ) (len held x i : ℕ) (byte : ℕ → ℕ) → held < length coefs → x < len
    → ((y : ℕ) → y < held * len → get_or new y 0 ≡ get_or old y 0) → get_or new (held * len + x) 0 ≡ byte i
    → with_windows fresh into coefs old len held x ≡ sum_of row byte i
    → with_windows fresh into (set coefs held (get_or row i 0)) new len (held + 1) x ≡ sum_of row byte (i + 1)
source_more fresh into coefs old new row len held x i byte few lt before here now =
    window_more fresh into coefs old new len held x (get_or row i 0) (byte i) few lt before here
    ∙ ap (λ (s : ℕ). bit_xor s (product (get_or row i 0) (byte i))) now
    ∙ sym (sum_of_more row byte i)

-- ---- a window is read

pub window_read : (windows part : List ℕ) (at len : ℕ) → at + len ≤ length windows → length part ≡ len → (x : ℕ) → x < len
    → get_or (put_mid at len windows part) (at + x) 0 ≡ get_or part x 0
window_read windows part at len fits size x lt = grind (arith, places)

pub window_before : (windows part : List ℕ) (at len : ℕ) → at + len ≤ length windows → length part ≡ len → (y : ℕ) → y < at
    → get_or (put_mid at len windows part) y 0 ≡ get_or windows y 0
window_before windows part at len fits size y lt = grind (arith, places)

-- one window more fits
pub fits_more : (held len room : ℕ) → held * len + len ≤ room → (held + 1) * len ≤ room
fits_more held len room fits = let e = suc-mul held len in rw (add-one held) (omega (arith, e))
