-- Texts cut into lines and words in one way.
use Rattle.std.proofs.Common.{◌≡◌, ◌≢◌, ℕ, zero, suc, ◌+◌, ◌/◌, ◌%◌, ◌<◌, ◌≤◌, ◌^◌, true, leb, List, [], ◌∷◌, ◌++◌, length, map, get_or, refl, sym, ap, ◌∙◌, arith}
use Rattle.std.specs.Prelude.{decimal}
use Rattle.std.specs.List.{flat_map, join_with_byte, AllByRecursion, list_all}
use Rattle.std.proofs.lemmas.Bool.{leb-true, and_parts}
use Rattle.std.proofs.lemmas.List.{append_assoc}
use Rattle.std.proofs.lemmas.Fmt.{decimal_by_steps}
use Rattle.hex.specs.Hex.{encode_lower, encode_with, lower_digits, IsBytes}
use Rattle.cod_chronicle.proofs.Orders.{Each-append, Each-weaker}
use Rattle.cod_print.specs.Pieces.{hex_word}
use Rattle.cod_text.specs.Printed.{line_of}
use Rattle.cod_text.specs.Unique.{IsWord}

abbrev pub Without : ℕ → List ℕ → Type 0
Without c w = AllByRecursion (λ x. x ≢ c) w

pub split_same : (c : ℕ) (a b xs ys : List ℕ) → Without c a → Without c b → a ++ c ∷ xs ≡ b ++ c ∷ ys → (a ≡ b) × (xs ≡ ys)
split_same c [] [] xs ys na nb e = (refl, cc)
split_same c [] (y ∷ b) xs ys na nb e = (let h : y ≡ c = cc in absurd (nb.0 h))
split_same c (x ∷ a) [] xs ys na nb e = (let h : x ≡ c = cc in absurd (na.0 h))
split_same c (x ∷ a) (y ∷ b) xs ys na nb e =
    let h : x ≡ y = cc in
    let t : a ++ c ∷ xs ≡ b ++ c ∷ ys = cc in
    let r = split_same c a b xs ys na.1 nb.1 t in
    (let s = r.0 in cc, r.1)

none_inside : (c : ℕ) (a b ys : List ℕ) → Without c a → a ≡ b ++ c ∷ ys → ⊥
none_inside c [] [] ys na e = cc
none_inside c [] (y ∷ b) ys na e = cc
none_inside c (x ∷ a) [] ys na e = (let h : x ≡ c = cc in na.0 h)
none_inside c (x ∷ a) (y ∷ b) ys na e = (let t : a ≡ b ++ c ∷ ys = cc in none_inside c a b ys na.1 t)

pub without : (c : ℕ) (w : List ℕ) → c < 33 → IsWord w → Without c w
without c w l h = Each-weaker (λ x. 33 ≤ x) (λ x. x ≢ c) (λ x g e. absurd (omega arith)) w h

-- words with spaces between them are cut in one way
pub join_same : (w v : List ℕ) (ws vs : List (List ℕ)) → AllByRecursion IsWord (w ∷ ws) → AllByRecursion IsWord (v ∷ vs)
    → join_with_byte 32 (w ∷ ws) ≡ join_with_byte 32 (v ∷ vs) → w ∷ ws ≡ v ∷ vs
join_same w v [] [] a b e = ap (λ (u : List ℕ). u ∷ []) e
join_same w v [] (v' ∷ vs) a b e = absurd (none_inside 32 w v (join_with_byte 32 (v' ∷ vs)) (without 32 w (omega arith) a.0) e)
join_same w v (w' ∷ ws) [] a b e = absurd (none_inside 32 v w (join_with_byte 32 (w' ∷ ws)) (without 32 v (omega arith) b.0) (sym e))
join_same w v (w' ∷ ws) (v' ∷ vs) a b e =
    let s = split_same 32 w v (join_with_byte 32 (w' ∷ ws)) (join_with_byte 32 (v' ∷ vs)) (without 32 w (omega arith) a.0) (without 32 v (omega arith) b.0) e in
    let h = s.0 in
    let t = join_same w' v' ws vs a.1 b.1 s.1 in
    cc

join_without : (ws : List (List ℕ)) → AllByRecursion IsWord ws → Without 10 (join_with_byte 32 ws)
join_without [] a = tt
join_without (w ∷ []) a = without 10 w (omega arith) a.0
join_without (w ∷ v ∷ ws) a =
    Each-append (λ x. x ≢ 10) w (32 ∷ join_with_byte 32 (v ∷ ws)) (without 10 w (omega arith) a.0) (λ e. absurd (omega arith), join_without (v ∷ ws) a.1)

-- lines of words are cut in one way
pub lines_same : {X : Type 0} (head : X → List ℕ) (tail : X → List (List ℕ)) (xs ys : List X)
    → AllByRecursion (λ x. AllByRecursion IsWord (head x ∷ tail x)) xs → AllByRecursion (λ x. AllByRecursion IsWord (head x ∷ tail x)) ys
    → flat_map (λ x. line_of (head x ∷ tail x)) xs ≡ flat_map (λ x. line_of (head x ∷ tail x)) ys
    → map (λ x. head x ∷ tail x) xs ≡ map (λ x. head x ∷ tail x) ys
lines_same head tail [] [] a b e = refl
lines_same head tail [] (y ∷ ys) a b e =
    absurd (none_inside 10 [] (join_with_byte 32 (head y ∷ tail y)) (flat_map (λ x. line_of (head x ∷ tail x)) ys) tt (e ∙ append_assoc (join_with_byte 32 (head y ∷ tail y)) (10 ∷ []) (flat_map
    (λ x. line_of (head x ∷ tail x)) ys)))
lines_same head tail (x ∷ xs) [] a b e =
    absurd (none_inside 10 [] (join_with_byte 32 (head x ∷ tail x)) (flat_map (λ x. line_of (head x ∷ tail x)) xs) tt (sym e ∙ append_assoc (join_with_byte 32 (head x ∷ tail x)) (10 ∷ []) (flat_map
    (λ x. line_of (head x ∷ tail x)) xs)))
lines_same head tail (x ∷ xs) (y ∷ ys) a b e =
    let f = flat_map (λ x. line_of (head x ∷ tail x)) xs in
    let g = flat_map (λ x. line_of (head x ∷ tail x)) ys in
    let j = join_with_byte 32 (head x ∷ tail x) in
    let k = join_with_byte 32 (head y ∷ tail y) in
    let s = split_same 10 j k f g (join_without (head x ∷ tail x) a.0) (join_without (head y ∷ tail y) b.0) (sym (append_assoc j (10 ∷ []) f) ∙ e ∙ append_assoc k (10 ∷ []) g) in
    let h = join_same (head x) (head y) (tail x) (tail y) a.0 b.0 s.0 in
    let t = lines_same head tail xs ys a.1 b.1 s.1 in
    ap (λ (w : List (List ℕ)). w ∷ map (λ x. head x ∷ tail x) xs) h ∙ ap (λ (l : List (List (List ℕ))). (head y ∷ tail y) ∷ l) t

-- the texts of numbers and bytes are words
pub IsWord-decimal : (n : ℕ) → n < 2 ^ 64 → IsWord (decimal n)
IsWord-decimal n h = decimal_by_steps (λ n ds. IsWord ds) (λ n l. (omega arith, tt)) (λ n ds l w. Each-append (λ c. 33 ≤ c) ds ((48 + n % 10) ∷ []) w (omega arith, tt)) n h

pub word_from : (w : List ℕ) → list_all (λ c. leb 33 c) w ≡ true → IsWord w
word_from [] e = tt
word_from (c ∷ w) e = (let p = and_parts (leb 33 c) (list_all (λ c. leb 33 c) w) e in (leb-true 33 c p.0, word_from w p.1))

word_at : (w : List ℕ) (i : ℕ) → IsWord w → i < length w → 33 ≤ get_or w i 0
word_at [] i h l = absurd (omega arith)
word_at (c ∷ w) zero h l = h.0
word_at (c ∷ w) (suc i) h l = word_at w i h.1 (omega arith)

encoded : (bs : List ℕ) → IsBytes bs → IsWord (encode_lower bs)
unfolding encode_with
encoded [] h = tt
encoded (b ∷ bs) h =
    let l : IsWord lower_digits = word_from lower_digits refl in
    let lt : b < 256 = h 0 in
    (word_at lower_digits (b / 16) l (omega arith), (word_at lower_digits (b % 16) l (omega arith), encoded bs (λ i. h (suc i))))

pub IsWord-hex : (bs : List ℕ) → IsBytes bs → IsWord (hex_word bs)
IsWord-hex [] h = (omega arith, tt)
IsWord-hex (b ∷ bs) h = encoded (b ∷ bs) h
