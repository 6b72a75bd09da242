-- How many entries a legal chronicle has.
use Rattle.std.proofs.Common.{◌≡◌, ◌≢◌, ℕ, zero, suc, ◌+◌, ◌*◌, ◌<◌, ◌≤◌, Bool, true, false, cond, eqb, Option, Some, None, List, [], ◌∷◌, ◌++◌, length, map}
use Rattle.std.proofs.Common.{get_or, refl, sym, ap, ◌∙◌, subst, inl, inr, arith}
use Rattle.std.specs.List.{filter, filter_map, AllByRecursion, AllPairs, cons_option, range_with_len}
use Rattle.std.proofs.lemmas.Bool.{cases_lt, cases_eq, eq-eqb, ne_eqb}
use Rattle.std.proofs.lemmas.List.{length-append, length-map}
use Rattle.cod_chronicle.specs.declared.entry.Entry.{Entry}
use Rattle.cod_chronicle.specs.declared.entry.Entry.TheVariants.{Call, Down, Up, Move}
use Rattle.cod_chronicle.specs.Said.{Site, number_by, call_count, is_down, down_next, downs}
use Rattle.cod_chronicle.specs.Legal.{LegalAfter}
use Rattle.cod_chronicle.specs.Order.{place, placed_from}
use Rattle.cod_chronicle.specs.Laws.{CallsBelow, HasFewEntries, HasFewCalls}
use Rattle.cod_chronicle.proofs.Growth.{is_down-push}

-- two tests that differ at c alone
abbrev Agree : ℕ → (ℕ → Bool) → (ℕ → Bool) → Type 0
Agree c p q = (i : ℕ) → i ≢ c → p i ≡ q i

one_le : (b d : Bool) (i : ℕ) (xs ys : List ℕ) (k : ℕ) → b ≡ d → length xs + k ≤ length ys → length (cond b (i ∷ xs) xs) + k ≤ length (cond d (i ∷ ys) ys)
one_le true true i xs ys k e h = omega arith
one_le true false i xs ys k e h = cc
one_le false true i xs ys k e h = cc
one_le false false i xs ys k e h = h

past : (c : ℕ) (p q : ℕ → Bool) (a m : ℕ) → Agree c p q → c < a → length (filter p (range_with_len a m)) ≤ length (filter q (range_with_len a m))
past c p q a zero f l = omega arith
past c p q a (suc m) f l =
    let h = past c p q (a + 1) m f (omega arith) in
    let r = one_le (p a) (q a) a (filter p (range_with_len (a + 1) m)) (filter q (range_with_len (a + 1) m)) 0 (f a (λ e. absurd (omega arith))) (omega arith) in
    omega arith

-- q passes c, and p doesn't
one_more : (c : ℕ) (p q : ℕ → Bool) (a m : ℕ) → Agree c p q → p c ≡ false → q c ≡ true → a ≤ c → c < a + m → length (filter p (range_with_len a m)) + 1 ≤ length (filter q (range_with_len a m))
one_more c p q a zero f x y l h = absurd (omega arith)
one_more c p q a (suc m) f x y l h = elim (cases_eq a c) [
  | inl same ↦
      let u : p a ≡ false = ap p same ∙ x in
      let v : q a ≡ true = ap q same ∙ y in
      let r = past c p q (a + 1) m f (omega arith) in
      rw (u, v) (omega arith)
  | inr diff ↦
      one_le (p a) (q a) a (filter p (range_with_len (a + 1) m)) (filter q (range_with_len (a + 1) m)) 1 (f a diff)
      (one_more c p q (a + 1) m f x y (elim (cases_lt a c) [ inl lt ↦ omega arith | inr ge ↦ absurd (diff (omega arith)) ]) (omega arith))
]

-- q may miss c
one_less : (c : ℕ) (p q : ℕ → Bool) (a m : ℕ) → Agree c p q → length (filter p (range_with_len a m)) ≤ length (filter q (range_with_len a m)) + 1
one_less c p q a zero f = omega arith
one_less c p q a (suc m) f = elim (cases_eq a c) [
  | inl same ↦
      let r = past c p q (a + 1) m f (omega arith) in
      any (p a) (q a) a (filter p (range_with_len (a + 1) m)) (filter q (range_with_len (a + 1) m)) r
  | inr diff ↦
      let r = one_less c p q (a + 1) m f in
      both (p a) (q a) a (filter p (range_with_len (a + 1) m)) (filter q (range_with_len (a + 1) m)) (f a diff) r
] where
  any : (b d : Bool) (i : ℕ) (xs ys : List ℕ) → length xs ≤ length ys → length (cond b (i ∷ xs) xs) ≤ length (cond d (i ∷ ys) ys) + 1
  any true true i xs ys h = omega arith
  any true false i xs ys h = omega arith
  any false true i xs ys h = omega arith
  any false false i xs ys h = omega arith

  both : (b d : Bool) (i : ℕ) (xs ys : List ℕ) → b ≡ d → length xs ≤ length ys + 1 → length (cond b (i ∷ xs) xs) ≤ length (cond d (i ∷ ys) ys) + 1
  both true true i xs ys e h = omega arith
  both true false i xs ys e h = cc
  both false true i xs ys e h = cc
  both false false i xs ys e h = h

count : (p : ℕ → Bool) (a m : ℕ) → length (filter p (range_with_len a m)) ≤ m
count p a zero = omega arith
count p a (suc m) = (let h = count p (a + 1) m in by (p a) a (filter p (range_with_len (a + 1) m)) h) where
  by : (b : Bool) (i : ℕ) (xs : List ℕ) → length xs ≤ m → length (cond b (i ∷ xs) xs) ≤ suc m
  by true i xs h = omega arith
  by false i xs h = omega arith

same_count : (p q : ℕ → Bool) → ((i : ℕ) → p i ≡ q i) → (xs : List ℕ) → length (filter p xs) ≡ length (filter q xs)
same_count p q f [] = refl
same_count p q f (x ∷ xs) = rw (f x) (by (q x) x (filter p xs) (filter q xs) (same_count p q f xs)) where
  by : (b : Bool) (i : ℕ) (xs ys : List ℕ) → length xs ≡ length ys → length (cond b (i ∷ xs) xs) ≡ length (cond b (i ∷ ys) ys)
  by true i xs ys h = ap suc h
  by false i xs ys h = h

-- an entry that is no Down and no Up
quiet : (site : Site) (before : List Entry) (e : Entry) → ((i : ℕ) (d : Bool) → down_next i d e ≡ d) → length (downs site before) ≡ length (downs site (before ++ e ∷ []))
quiet site before e f = same_count (λ i. is_down before i) (λ i. is_down (before ++ e ∷ []) i) (λ i. sym (is_down-push before e i ∙ f i (is_down before i))) (range_with_len 0 site.shape.n)

changed : (before : List Entry) (e : Entry) (c : ℕ) → ((i : ℕ) (d : Bool) → i ≢ c → down_next i d e ≡ d) → Agree c (λ i. is_down before i) (λ i. is_down (before ++ e ∷ []) i)
changed before e c f i ne = sym (is_down-push before e i ∙ f i (is_down before i) ne)

-- entries left, against the calls left: three for each call, and one for each column that is up now
bound : (site : Site) (before h : List Entry) → LegalAfter site before h → length h + length (downs site before) ≤ 3 * call_count h + site.shape.n
unfolding call_count
bound site before [] l = (let c = count (λ i. is_down before i) 0 site.shape.n in omega arith)
bound site before ((Call caller number stamp call reply) ∷ h) l =
    let e : Entry = Call caller number stamp call reply in
    let r = bound site (before ++ e ∷ []) h l.1 in
    let s = one_less site.shape.n (λ i. is_down before i) (λ i. is_down (before ++ e ∷ []) i) 0 site.shape.n (changed before e site.shape.n (λ i d ne. refl)) in
    omega arith
bound site before ((Down stamp col node cause) ∷ h) l =
    let e : Entry = Down stamp col node cause in
    let r = bound site (before ++ e ∷ []) h l.1 in
    let m = l.0 in
    let y : is_down (before ++ e ∷ []) col ≡ true = is_down-push before e col ∙ ap (λ (b : Bool). cond b true (is_down before col)) (eq-eqb col col refl) in
    let s = one_more col (λ i. is_down before i) (λ i. is_down (before ++ e ∷ []) i) 0 site.shape.n
    (changed before e col (λ i d ne. ap (λ (b : Bool). cond b true d) (ne_eqb col i (λ s. ne (sym s))))) m.live y (omega arith) (let c = m.column in omega arith) in
    omega arith
bound site before ((Up stamp col node) ∷ []) l = absurd l.0.rebuild
bound site before ((Up stamp col node) ∷ ((Call caller number t call reply) ∷ h)) l =
    let e : Entry = Up stamp col node in
    let f : Entry = Call caller number t call reply in
    let r = bound site (before ++ e ∷ [] ++ f ∷ []) h l.1.1 in
    let s = one_less col (λ i. is_down before i) (λ i. is_down (before ++ e ∷ []) i) 0 site.shape.n
    (changed before e col (λ i d ne. ap (λ (b : Bool). cond b false d) (ne_eqb col i (λ s. ne (sym s))))) in
    let same = quiet site (before ++ e ∷ []) f (λ i d. refl) in
    omega arith
bound site before ((Up stamp col node) ∷ ((Down t c n cause) ∷ h)) l = absurd l.0.rebuild
bound site before ((Up stamp col node) ∷ ((Up t c n) ∷ h)) l = absurd l.0.rebuild
bound site before ((Up stamp col node) ∷ ((Move t c n) ∷ h)) l = absurd l.0.rebuild
bound site before ((Move stamp col node) ∷ []) l = absurd l.0.drain
bound site before ((Move stamp col node) ∷ ((Call caller number t call reply) ∷ h)) l =
    let e : Entry = Move stamp col node in
    let f : Entry = Call caller number t call reply in
    let r = bound site (before ++ e ∷ [] ++ f ∷ []) h l.1.1 in
    let s = quiet site before e (λ i d. refl) in
    let same = quiet site (before ++ e ∷ []) f (λ i d. refl) in
    omega arith
bound site before ((Move stamp col node) ∷ ((Down t c n cause) ∷ h)) l = absurd l.0.drain
bound site before ((Move stamp col node) ∷ ((Up t c n) ∷ h)) l = absurd l.0.drain
bound site before ((Move stamp col node) ∷ ((Move t c n) ∷ h)) l = absurd l.0.drain

-- numbers that rise below n are at most n
rising : (n : ℕ) (ms : List ℕ) → AllPairs (λ i j. i < j) ms → ((k : ℕ) → k < length ms → get_or ms k 0 < n) → length ms ≤ n
rising n [] r b = omega arith
rising n (m ∷ ms) r b =
    let all : (k : ℕ) → k < length (m ∷ ms) → k + get_or (m ∷ ms) 0 0 ≤ get_or (m ∷ ms) k 0 = climbs (m ∷ ms) r in
    let last = all (length ms) (omega arith) in
    let l = b (length ms) (omega arith) in
    omega arith where
      climbs : (ms : List ℕ) → AllPairs (λ i j. i < j) ms → (k : ℕ) → k < length ms → k + get_or ms 0 0 ≤ get_or ms k 0
      climbs ms r zero l = omega arith
      climbs ms r (suc k) l = (let h = climbs ms r k (omega arith) in let s = r k (suc k) 0 (omega arith) l in omega arith)

-- the sum of f over the first n numbers
pub sum_to : (ℕ → ℕ) → ℕ → ℕ
sum_to f zero = 0
sum_to f (suc n) = sum_to f n + f n

sum_most : (f : ℕ → ℕ) (k n : ℕ) → ((i : ℕ) → i < n → f i ≤ k) → sum_to f n ≤ n * k
unfolding sum_to
sum_most f k zero h = omega arith
sum_most f k (suc n) h = (let a = sum_most f k n (λ i l. h i (omega arith)) in let b = h n (omega arith) in omega arith)

pub sum_mono : (f g : ℕ → ℕ) (n : ℕ) → ((i : ℕ) → f i ≤ g i) → sum_to f n ≤ sum_to g n
unfolding sum_to
sum_mono f g zero h = omega arith
sum_mono f g (suc n) h = (let a = sum_mono f g n h in let b = h n in omega arith)

pub sum_one : (f g : ℕ → ℕ) (c n : ℕ) → c < n → ((i : ℕ) → f i ≤ g i) → f c + 1 ≤ g c → sum_to f n + 1 ≤ sum_to g n
unfolding sum_to
sum_one f g c zero l h one = absurd (omega arith)
sum_one f g c (suc n) l h one = elim (cases_eq c n) [
  | inl same ↦ (let a = sum_mono f g n h in let b : f n + 1 ≤ g n = subst (λ (i : ℕ). f i + 1 ≤ g i) same one in omega arith)
  | inr diff ↦ (let a = sum_one f g c n (elim (cases_lt c n) [ inl lt ↦ lt | inr ge ↦ absurd (diff (omega arith)) ]) h one in let b = h n in omega arith)
]

-- the calls, caller by caller
pub by_callers : (callers numbers : ℕ) (h : List Entry) → AllByRecursion (CallsBelow callers numbers) h
    → call_count h ≤ sum_to (λ c. length (filter_map (number_by c) h)) callers
unfolding call_count
by_callers callers numbers [] a = omega arith
by_callers callers numbers ((Call caller number stamp call reply) ∷ h) a =
    let r = by_callers callers numbers h a.1 in
    let l = a.0.0 in
    let s = sum_one (λ c. length (filter_map (number_by c) h)) (λ c. length (filter_map (number_by c) ((Call caller number stamp call reply) ∷ h))) caller.0 callers l
    (λ i. longer (number_by i (Call caller number stamp call reply)) (filter_map (number_by i) h))
    (let e : eqb caller.0 caller.0 ≡ true = eq-eqb caller.0 caller.0 refl in rw e (omega arith)) in
    omega arith where
      longer : (o : Option ℕ) (xs : List ℕ) → length xs ≤ length (cons_option o xs)
      longer None xs = omega arith
      longer (Some x) xs = omega arith
by_callers callers numbers ((Down stamp col node cause) ∷ h) a = (let r = by_callers callers numbers h a.1 in omega (arith, r))
by_callers callers numbers ((Up stamp col node) ∷ h) a = (let r = by_callers callers numbers h a.1 in omega (arith, r))
by_callers callers numbers ((Move stamp col node) ∷ h) a = (let r = by_callers callers numbers h a.1 in omega (arith, r))

numbers_below : (callers numbers c : ℕ) (h : List Entry) → AllByRecursion (CallsBelow callers numbers) h → AllByRecursion (λ n. n < numbers) (filter_map (number_by c) h)
numbers_below callers numbers c [] a = tt
numbers_below callers numbers c ((Call caller number stamp call reply) ∷ h) a = by (eqb caller.0 c) (filter_map (number_by c) h) (numbers_below callers numbers c h a.1) where
  by : (b : Bool) (ms : List ℕ) → AllByRecursion (λ n. n < numbers) ms → AllByRecursion (λ n. n < numbers) (cons_option (cond b (Some number) None) ms)
  by true ms h = (a.0.1, h)
  by false ms h = h
numbers_below callers numbers c ((Down stamp col node cause) ∷ h) a = numbers_below callers numbers c h a.1
numbers_below callers numbers c ((Up stamp col node) ∷ h) a = numbers_below callers numbers c h a.1
numbers_below callers numbers c ((Move stamp col node) ∷ h) a = numbers_below callers numbers c h a.1

at : (n : ℕ) (ms : List ℕ) → AllByRecursion (λ m. m < n) ms → (k : ℕ) → k < length ms → get_or ms k 0 < n
at n [] a k l = absurd (omega arith)
at n (m ∷ ms) a zero l = a.0
at n (m ∷ ms) a (suc k) l = at n ms a.1 k (omega arith)

pub has_few_entries : HasFewEntries
has_few_entries site h l = (let b = bound site [] h l in omega (arith, b))

pub has_few_calls : HasFewCalls
has_few_calls callers numbers h c a =
    let s = by_callers callers numbers h a in
    let m = sum_most (λ c. length (filter_map (number_by c) h)) numbers callers
    (λ i lt. rising numbers (filter_map (number_by i) h) (c.numbers i) (at numbers (filter_map (number_by i) h) (numbers_below callers numbers i h a))) in
    omega (arith, s, m)

-- all entries of all segments
pub placed_few : (most i : ℕ) (hs : List (List Entry)) → AllByRecursion (λ h. length h ≤ most) hs → length (placed_from i hs) ≤ length hs * most
placed_few most i [] a = omega arith
placed_few most i (h ∷ hs) a =
    let r = placed_few most (i + 1) hs a.1 in
    let l = length-append (map (λ e. place i e) h) (placed_from (i + 1) hs) in
    let m = length-map h (λ e. place i e) in
    let one = a.0 in
    omega arith
