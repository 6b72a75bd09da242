-- Sums over the columns, one after the other.
use Rattle.std.proofs.Common.{◌≡◌, ℕ, zero, suc, ◌+◌, ◌<◌, ◌≤◌, true, false, List, [], ◌∷◌, ◌++◌, length, get_or, refl, ap, ◌∙◌, arith, add-one, subst, set, inl, inr}
use Rattle.std.specs.Prelude.{nat_le}
use Rattle.std.specs.List.{sum_by, range_with_len, list_all}
use Rattle.std.proofs.lemmas.Bool.{le-leb, lt-leb, leb-true, cases_lt}
use Rattle.std.proofs.lemmas.List.{get_or-set_same, get_or-set_other}
use Rattle.std.proofs.lemmas.List.Sums.{sum_by-append, AllPass-from_list_all}
use Rattle.std.proofs.lemmas.List.Folds.{list_all-append, list_all_at}
use Rattle.cod_types.specs.Limits.{Shape}
use Rattle.cod_script.specs.Room.{taken_by, taken_on, has_room}

range_push : (a n : ℕ) → range_with_len a (suc n) ≡ range_with_len a n ++ (a + n) ∷ []
range_push a zero = let e : a ≡ a + 0 = omega arith in ap (λ k. k ∷ []) e
range_push a (suc n) = let e : a + 1 + n ≡ a + suc n = omega arith in ap (λ l. a ∷ l) (range_push (a + 1) n ∙ ap (λ k. range_with_len (a + 1) n ++ k ∷ []) e)

pub range_more : (n : ℕ) → range_with_len 0 (n + 1) ≡ range_with_len 0 n ++ n ∷ []
range_more n = let e : 0 + n ≡ n = omega arith in rw add-one (range_push 0 n ∙ ap (λ k. range_with_len 0 n ++ k ∷ []) e)

pub sum_more : (f : ℕ → ℕ) (n : ℕ) → sum_by f (range_with_len 0 (n + 1)) ≡ sum_by f (range_with_len 0 n) + f n
sum_more f n = rw (range_more n, sum_by-append f (range_with_len 0 n) (n ∷ [])) (grind arith)

pub taken_on_more : (g : Shape) (nodes s x : ℕ) → taken_on g nodes (s + 1) x ≡ taken_on g nodes s x + taken_by g nodes x s
unfolding taken_on
taken_on_more g nodes s x = sum_more (taken_by g nodes x) s

pub taken_on_none : (g : Shape) (nodes x : ℕ) → taken_on g nodes 0 x ≡ 0
unfolding taken_on
taken_on_none g nodes x = refl

length-range : (a n : ℕ) → length (range_with_len a n) ≡ n
length-range a zero = refl
length-range a (suc n) = ap suc (length-range (a + 1) n)

get_or-range : (a n i : ℕ) → i < n → get_or (range_with_len a n) i 0 ≡ a + i
get_or-range a zero i h = absurd (omega (arith, h))
get_or-range a (suc n) zero h = omega arith
get_or-range a (suc n) (suc i) h = let e = get_or-range (a + 1) n i (omega (arith, h)) in omega (arith, e)

pub no_room : (g : Shape) (nodes capacity segments x : ℕ) → x < nodes → capacity < taken_on g nodes segments x → has_room g nodes capacity segments ≡ false
unfolding has_room
no_room g nodes capacity segments x lt full =
    let e : get_or (range_with_len 0 nodes) x 0 ≡ x = get_or-range 0 nodes x lt ∙ omega arith in
    let p : nat_le (taken_on g nodes segments (get_or (range_with_len 0 nodes) x 0)) capacity ≡ false = rw e (lt-leb _ _ full) in
    list_all_at (λ y. nat_le (taken_on g nodes segments y) capacity) (range_with_len 0 nodes) x 0 (omega (arith, lt, length-range 0 nodes)) p

pub fits_more : (g : Shape) (nodes capacity segments x : ℕ) → taken_on g nodes segments x ≤ capacity → list_all (λ y. nat_le (taken_on g nodes segments y) capacity) (range_with_len 0 x) ≡ true
    → list_all (λ y. nat_le (taken_on g nodes segments y) capacity) (range_with_len 0 (x + 1)) ≡ true
fits_more g nodes capacity segments x le fits =
    rw (range_more x, list_all-append (λ y. nat_le (taken_on g nodes segments y) capacity) (range_with_len 0 x) (x ∷ []), fits, le-leb (taken_on g nodes segments x) capacity le) refl

pub all_fit : (g : Shape) (nodes capacity segments x : ℕ) → x ≡ nodes → list_all (λ y. nat_le (taken_on g nodes segments y) capacity) (range_with_len 0 x) ≡ true
    → has_room g nodes capacity segments ≡ true
unfolding has_room
all_fit g nodes capacity segments x e fits = let P : ℕ → Type 0 = λ n. list_all (λ y. nat_le (taken_on g nodes segments y) capacity) (range_with_len 0 n) ≡ true in subst P e fits

pub room_at : (g : Shape) (nodes capacity segments x : ℕ) → x < nodes → has_room g nodes capacity segments ≡ true → taken_on g nodes segments x ≤ capacity
unfolding has_room
room_at g nodes capacity segments x lt fits =
    let e : get_or (range_with_len 0 nodes) x 0 ≡ x = get_or-range 0 nodes x lt ∙ omega arith in
    let p = AllPass-from_list_all (λ y. nat_le (taken_on g nodes segments y) capacity) (range_with_len 0 nodes) fits x 0 (omega (arith, lt, length-range 0 nodes)) in
    leb-true _ _ (rw e at p)

pub set_done : (taken : List ℕ) (x v y : ℕ) (f : ℕ → ℕ) → x < length taken → v ≡ f x → ((z : ℕ) → z < x → get_or taken z 0 ≡ f z) → y < x + 1 → get_or (set taken x v) y 0 ≡ f y
set_done taken x v y f h e done lt = elim (cases_lt y x) [
  | inl below ↦ get_or-set_other taken x y v 0 (omega (arith, below)) ∙ done y below
  | inr above ↦ let same : y ≡ x = omega (arith, above, lt) in rw same (get_or-set_same taken x v 0 h ∙ e)
]

pub set_left : (taken : List ℕ) (x v y : ℕ) → x + 1 ≤ y → get_or (set taken x v) y 0 ≡ get_or taken y 0
set_left taken x v y h = get_or-set_other taken x y v 0 (omega (arith, h))
