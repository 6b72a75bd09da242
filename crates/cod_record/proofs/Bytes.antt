-- Numbers as bytes, and a write behind a front.
use Rattle.std.proofs.Common.{◌≡◌, ℕ, zero, suc, ◌+◌, ◌-◌, ◌*◌, ◌^◌, ◌<◌, ◌≤◌, ◌/◌, List, [], ◌∷◌, ◌++◌, length, take, drop, set, get_or, refl, sym, ap, ◌∙◌, arith}
use Rattle.std.proofs.lemmas.List.{append_assoc, append-nil, take_at, drop_at, drop_all, drop-drop, length-take-le, length-drop, take_rest}
use Rattle.std.proofs.lemmas.Nat.{same_from_place}
use Rattle.std.proofs.Math.Nat.{mod-lt}
use Rattle.std.specs.Int.{byte_at, bytes_high_first}
use Rattle.byteorder.specs.Endian.{big_from, big_number}
use Rattle.byteorder.specs.Numbers.{big_from-cons, big_from-lt, big_number-reads_back, length-bytes_high_first, big_from-take}
use borrow.Rule.Slice.PartMut.{put_mid}

abbrev pub IsBytes : List ℕ → Type 0
IsBytes xs = (i : ℕ) → get_or xs i 0 < 256

pub bytes_tail : (x : ℕ) (xs : List ℕ) → IsBytes (x ∷ xs) → IsBytes xs
bytes_tail x xs small = λ i. small (suc i)

pub bytes_take : (n : ℕ) (xs : List ℕ) → IsBytes xs → (i : ℕ) → get_or (take n xs) i 0 < 256
bytes_take zero xs small i = omega arith
bytes_take (suc n) [] small i = small i
bytes_take (suc n) (x ∷ xs) small zero = small 0
bytes_take (suc n) (x ∷ xs) small (suc i) = bytes_take n xs (bytes_tail x xs small) i

pub bytes_drop : (n : ℕ) (xs : List ℕ) → IsBytes xs → IsBytes (drop n xs)
bytes_drop zero xs small = small
bytes_drop (suc n) [] small = small
bytes_drop (suc n) (x ∷ xs) small = bytes_drop n xs (bytes_tail x xs small)

byte_at-lt : (k x : ℕ) → byte_at k x < 256
byte_at-lt zero x = mod-lt x (omega arith)
byte_at-lt (suc k) x = mod-lt (x / 256 ^ suc k) (omega arith)

pub bytes_of : (n x i : ℕ) → get_or (bytes_high_first n x) i 0 < 256
bytes_of zero x i = omega arith
bytes_of (suc n) x zero = byte_at-lt n x
bytes_of (suc n) x (suc i) = bytes_of n x i

-- two lists of n bytes with one number are one
same_number : (n : ℕ) (xs ys : List ℕ) → length xs ≡ n → length ys ≡ n → IsBytes xs → IsBytes ys → big_from 0 n xs ≡ big_from 0 n ys → xs ≡ ys
same_number zero [] [] lx ly bx by_ e = refl
same_number zero [] (y ∷ ys) lx ly bx by_ e = absurd (omega arith)
same_number zero (x ∷ xs) ys lx ly bx by_ e = absurd (omega arith)
same_number (suc n) [] ys lx ly bx by_ e = absurd (omega arith)
same_number (suc n) (x ∷ xs) [] lx ly bx by_ e = absurd (omega arith)
same_number (suc n) (x ∷ xs) (y ∷ ys) lx ly bx by_ e =
    let tx = bytes_tail x xs bx in
    let ty = bytes_tail y ys by_ in
    let low_x : big_from 0 n xs < 256 ^ n = big_from-lt 0 n xs tx in
    let low_y : big_from 0 n ys < 256 ^ n = big_from-lt 0 n ys ty in
    let moved : x * 256 ^ n + big_from 0 n xs ≡ y * 256 ^ n + big_from 0 n ys =
    ap (λ (r : ℕ). x * 256 ^ n + r) (sym (big_from-cons 0 n x xs)) ∙ e ∙ ap (λ (r : ℕ). y * 256 ^ n + r) (big_from-cons 0 n y ys) in
    let both = same_from_place x (big_from 0 n xs) y (big_from 0 n ys) (256 ^ n) low_x low_y moved in
    let rest : xs ≡ ys = same_number n xs ys (omega arith) (omega arith) tx ty both.1 in
    cc (rest, both.0)

-- the bytes of the number that n bytes read as
pub read_back : (n : ℕ) (xs : List ℕ) → n ≤ length xs → IsBytes xs → bytes_high_first n (big_number n xs) ≡ take n xs
read_back n xs long small =
    let x = big_number n xs in
    let fits : x < 256 ^ n = big_from-lt 0 n xs small in
    let left : big_from 0 n (bytes_high_first n x) ≡ x = ap (big_from 0 n) (sym (append-nil (bytes_high_first n x))) ∙ big_number-reads_back n x [] fits in
    let right : big_from 0 n (take n xs) ≡ x = big_from-take 0 n n xs (omega arith) in
    same_number n (bytes_high_first n x) (take n xs) (length-bytes_high_first n x) (length-take-le n xs long) (bytes_of n x) (bytes_take n xs small) (left ∙ sym right)

-- the number that a number's bytes read as, whatever follows
pub same_bytes : (n x y : ℕ) (p q : List ℕ) → x < 256 ^ n → y < 256 ^ n → bytes_high_first n x ++ p ≡ bytes_high_first n y ++ q → (x ≡ y) × (p ≡ q)
same_bytes n x y p q fx fy e =
    let same : x ≡ y = sym (big_number-reads_back n x p fx) ∙ ap (big_from 0 n) e ∙ big_number-reads_back n y q fy in
    (same, sym (drop_at (bytes_high_first n x) p n (length-bytes_high_first n x)) ∙ ap (λ (l : List ℕ). drop n l) e ∙ drop_at (bytes_high_first n y) q n (length-bytes_high_first n y))

-- n bytes written from place a on, where front and then what was there from a on stood
pub written : (s xs ys front w : List ℕ) (a n : ℕ) → xs ≡ front ++ drop a s → length front ≡ a → ys ≡ w ++ drop n (take (length xs - a) (drop a xs))
    → put_mid a (length xs - a) xs ys ≡ (front ++ w) ++ drop (a + n) s
written s xs ys front w a n is len at =
    let rest : drop a xs ≡ drop a s = ap (λ (l : List ℕ). drop a l) is ∙ drop_at front (drop a s) a len in
    let before : take a xs ≡ front = ap (λ (l : List ℕ). take a l) is ∙ take_at front (drop a s) a len in
    let none : drop (length xs - a) (drop a xs) ≡ [] = drop_all (length xs - a) (drop a xs) (omega (arith, length-drop a xs)) in
    let tail : drop n (drop a xs) ≡ drop (a + n) s = ap (λ (l : List ℕ). drop n l) rest ∙ drop-drop n a s in
    ap (λ (l : List ℕ). l ++ (ys ++ drop (length xs - a) (drop a xs))) before
    ∙ ap (λ (l : List ℕ). front ++ (ys ++ l)) none
    ∙ ap (λ (l : List ℕ). front ++ l) (append-nil ys ∙ at ∙ ap (λ (l : List ℕ). w ++ drop n l) (take_rest xs a) ∙ ap (λ (l : List ℕ). w ++ l) tail)
    ∙ sym (append_assoc front w (drop (a + n) s))

pub set_first : (s : List ℕ) (x : ℕ) → 1 ≤ length s → set s 0 x ≡ (x ∷ []) ++ drop 1 s
set_first [] x long = absurd (omega arith)
set_first (y ∷ ys) x long = refl

-- bytes copied from place a to place e, where front and then what was there from a on stood
pub copied : (s xs ys front w : List ℕ) (a e : ℕ) → xs ≡ front ++ drop a s → length front ≡ a → ys ≡ w
    → put_mid a (e - a) xs ys ≡ (front ++ w) ++ drop (a + (e - a)) s
copied s xs ys front w a e is len same =
    let before : take a xs ≡ front = ap (λ (l : List ℕ). take a l) is ∙ take_at front (drop a s) a len in
    let rest : drop a xs ≡ drop a s = ap (λ (l : List ℕ). drop a l) is ∙ drop_at front (drop a s) a len in
    let tail : drop (e - a) (drop a xs) ≡ drop (a + (e - a)) s = ap (λ (l : List ℕ). drop (e - a) l) rest ∙ drop-drop (e - a) a s in
    ap (λ (l : List ℕ). l ++ (ys ++ drop (e - a) (drop a xs))) before
    ∙ ap (λ (l : List ℕ). front ++ (l ++ drop (e - a) (drop a xs))) same
    ∙ ap (λ (l : List ℕ). front ++ (w ++ l)) tail
    ∙ sym (append_assoc front w (drop (a + (e - a)) s))
