-- Texts one behind another.
use Rattle.std.proofs.Common.{◌≡◌, ℕ, zero, suc, ◌+◌, ◌-◌, ◌<◌, ◌≤◌, List, [], ◌∷◌, ◌++◌, length, take, get_or, sym, ap, ◌∙◌, arith}
use Rattle.std.specs.List.{flat_map, range_with_len}
use Rattle.std.proofs.lemmas.List.{append-nil, take_more}
use Rattle.std.proofs.lemmas.List.Concat.{flat_map-append}
use Rattle.cod_print.proofs.Fronts.{text_more}

pub range_split : (a i m : ℕ) → range_with_len a (i + m) ≡ range_with_len a i ++ range_with_len (a + i) m
range_split a zero m =
    let z : zero + m ≡ m = omega arith in
    let y : a ≡ a + zero = omega arith in
    ap (range_with_len a) z ∙ ap (λ (k : ℕ). range_with_len k m) y
range_split a (suc i) m =
    let z : suc i + m ≡ suc (i + m) = omega arith in
    let y : a + 1 + i ≡ a + suc i = omega arith in
    ap (range_with_len a) z ∙ ap (λ (l : List ℕ). a ∷ l) (range_split (a + 1) i m ∙ ap (λ (k : ℕ). range_with_len (a + 1) i ++ range_with_len k m) y)

-- the texts of the numbers below n, split at i
pub texts_split : (f : ℕ → List ℕ) (n i : ℕ) → i < n → flat_map f (range_with_len 0 n) ≡ flat_map f (range_with_len 0 i) ++ (f i ++ flat_map f (range_with_len (i + 1) (n - (i + 1))))
texts_split f n i lt =
    let e : n ≡ i + suc (n - (i + 1)) = omega arith in
    let z : 0 + i ≡ i = omega arith in
    ap (λ (k : ℕ). flat_map f (range_with_len 0 k)) e ∙ ap (flat_map f) (range_split 0 i (suc (n - (i + 1))) ∙ ap (λ (k : ℕ). range_with_len 0 i ++ range_with_len k (suc (n - (i + 1)))) z)
    ∙ flat_map-append f (range_with_len 0 i) (i ∷ range_with_len (i + 1) (n - (i + 1)))

-- one text more
pub texts_more : (f : ℕ → List ℕ) (i : ℕ) → flat_map f (range_with_len 0 (i + 1)) ≡ flat_map f (range_with_len 0 i) ++ f i
texts_more f i =
    let z : 0 + i ≡ i = omega arith in
    ap (flat_map f) (range_split 0 i 1 ∙ ap (λ (k : ℕ). range_with_len 0 i ++ k ∷ []) z) ∙ flat_map-append f (range_with_len 0 i) (i ∷ [])
    ∙ ap (λ (l : List ℕ). flat_map f (range_with_len 0 i) ++ l) (append-nil (f i))

-- the texts of the numbers from a on, below n, split at i
pub texts_split_from : (f : ℕ → List ℕ) (a n i : ℕ) → a ≤ i → i < n → flat_map f (range_with_len a (n - a)) ≡ flat_map f (range_with_len a (i - a))
    ++ (f i ++ flat_map f (range_with_len (i + 1) (n - (i + 1))))
texts_split_from f a n i from lt =
    let e : n - a ≡ (i - a) + suc (n - (i + 1)) = omega arith in
    let z : a + (i - a) ≡ i = omega arith in
    ap (λ (k : ℕ). flat_map f (range_with_len a k)) e
    ∙ ap (flat_map f) (range_split a (i - a) (suc (n - (i + 1))) ∙ ap (λ (k : ℕ). range_with_len a (i - a) ++ range_with_len k (suc (n - (i + 1)))) z)
    ∙ flat_map-append f (range_with_len a (i - a)) (i ∷ range_with_len (i + 1) (n - (i + 1)))

-- one text more
pub texts_more_from : (f : ℕ → List ℕ) (a i : ℕ) → a ≤ i → flat_map f (range_with_len a (i + 1 - a)) ≡ flat_map f (range_with_len a (i - a)) ++ f i
texts_more_from f a i from =
    let e : i + 1 - a ≡ (i - a) + 1 = omega arith in
    let z : a + (i - a) ≡ i = omega arith in
    ap (λ (k : ℕ). flat_map f (range_with_len a k)) e
    ∙ ap (flat_map f) (range_split a (i - a) 1 ∙ ap (λ (k : ℕ). range_with_len a (i - a) ++ k ∷ []) z)
    ∙ flat_map-append f (range_with_len a (i - a)) (i ∷ []) ∙ ap (λ (l : List ℕ). flat_map f (range_with_len a (i - a)) ++ l) (append-nil (f i))

-- the texts of the first values, and one value more
pub slices_more : {X : Type 0} (f : X → List ℕ) (xs : List X) (i : ℕ) (x : X) → i < length xs → x ≡ get_or xs i x
    → flat_map f (take (i + 1) xs) ≡ flat_map f (take i xs) ++ f x
slices_more f xs i x lt is = ap (flat_map f) (take_more xs i x lt) ∙ text_more f (take i xs) (get_or xs i x) ∙ ap (λ (y : _). flat_map f (take i xs) ++ f y) (sym is)
