-- How the ranges of bytes go on behind a byte that isn't 0.
use Rattle.std.proofs.Common.{◌≡◌, ◌≢◌, ◌⊎◌, ℕ, zero, suc, ◌+◌, ◌-◌, ◌<◌, ◌≤◌, ◌==◌, true, false, nat_lt, List, [], ◌∷◌, ◌++◌, length, take, drop, slice_index, replicate, refl, sym, ap, ◌∙◌, arith}
use Rattle.std.proofs.Common.{inl, inr, add-one, drop-cons}
use Rattle.std.proofs.lemmas.Bool.{cases_lt}
use Rattle.std.proofs.lemmas.Bool.Decides.{nat_tests}
use Rattle.std.proofs.lemmas.List.{append_assoc, take_at, drop-drop, drop_all, length-replicate}
use Rattle.std.proofs.Math.Seq.{take-add}
use Rattle.cod_record.specs.Record.{Range, range}
use Rattle.cod_record.specs.Sparse.{joined, ranges_of}

pub replicate-more : (k : ℕ) (rest : List ℕ) → replicate k 0 ++ (0 ∷ rest) ≡ replicate (suc k) 0 ++ rest
replicate-more zero rest = refl
replicate-more (suc k) rest = ap (λ (l : List ℕ). 0 ∷ l) (replicate-more k rest)

-- the byte at a place, and those behind it
pub split_at : (xs : List ℕ) (i : ℕ) → i < length xs → drop i xs ≡ slice_index xs i ∷ drop (i + 1) xs
split_at xs i low = rw add-one (drop-cons xs i 0 low)

ranges_of-zero : (o : ℕ) (bs : List ℕ) → ranges_of o (0 ∷ bs) ≡ ranges_of (o + 1) bs
unfolding ranges_of
ranges_of-zero o bs = refl

pub ranges_of-some : (o b : ℕ) (bs : List ℕ) → b ≢ 0 → ranges_of o (b ∷ bs) ≡ joined o b (ranges_of (o + 1) bs)
unfolding ranges_of
ranges_of-some o b bs some = let test : (b == 0) ≡ false = grind (arith, nat_tests) in rw test refl

pub ranges_of-nil : (o : ℕ) → ranges_of o [] ≡ []
unfolding ranges_of
ranges_of-nil o = refl

pub skip : (o k : ℕ) (zs : List ℕ) → ranges_of o (replicate k 0 ++ zs) ≡ ranges_of (o + k) zs
skip o zero zs = ap (λ n. ranges_of n zs) (let same : o ≡ o + 0 = omega arith in same)
skip o (suc k) zs =
    ranges_of-zero o (replicate k 0 ++ zs) ∙ skip (o + 1) k zs ∙ ap (λ n. ranges_of n zs) (let same : (o + 1) + k ≡ o + suc k = omega arith in same)

pub record Headed (gs : List Range) (off : ℕ) : Type 0 where
  pub first : Range
  pub others : List Range
  pub is : gs ≡ first ∷ others
  pub at : first.off ≡ off

joined-headed : (o b : ℕ) (gs : List Range) → Headed (joined o b gs) o
unfolding joined
joined-headed o b [] = record { first = range o (b ∷ []); others = []; is = refl; at = refl }
joined-headed o b (g ∷ gs) = elim (cases_lt (g.off - (o + 1)) 8) [
  | inl near ↦
      let test : nat_lt (g.off - (o + 1)) 8 ≡ true = grind (arith, nat_tests) in
      rw test (record { first = range o (b ∷ (replicate (g.off - (o + 1)) 0 ++ g.bytes)); others = gs; is = refl; at = refl })
  | inr far ↦
      let test : nat_lt (g.off - (o + 1)) 8 ≡ false = grind (arith, nat_tests) in
      rw test (record { first = range o (b ∷ []); others = g ∷ gs; is = refl; at = refl })
]

-- the ranges of bytes of which the first isn't 0
pub headed : (o b : ℕ) (bs : List ℕ) → b ≢ 0 → Headed (ranges_of o (b ∷ bs)) o
headed o b bs some = rw (ranges_of-some o b bs some) (joined-headed o b (ranges_of (o + 1) bs))

first_off : List Range → ℕ
first_off [] = 0
first_off (g ∷ gs) = g.off

first_is : (o : ℕ) (gs : List Range) (g : Range) (hs : List Range) → Headed gs o → gs ≡ g ∷ hs → g.off ≡ o
unfolding first_off
first_is o gs g hs head is = sym (ap first_off is) ∙ ap first_off head.is ∙ head.at

joined-far : (o b : ℕ) (g : Range) (gs : List Range) → 8 ≤ g.off - (o + 1) → joined o b (g ∷ gs) ≡ range o (b ∷ []) ∷ (g ∷ gs)
unfolding joined
joined-far o b g gs far = let test : nat_lt (g.off - (o + 1)) 8 ≡ false = grind (arith, nat_tests) in rw test refl

joined-near : (o b k : ℕ) (g : Range) (gs : List Range) → k < 8 → g.off ≡ (o + 1) + k → joined o b (g ∷ gs) ≡ range o (b ∷ (replicate k 0 ++ g.bytes)) ∷ gs
unfolding joined
joined-near o b k g gs near at =
    let gap : g.off - (o + 1) ≡ k = omega arith in
    let test : nat_lt (g.off - (o + 1)) 8 ≡ true = grind (arith, nat_tests) in
    rw test (ap (λ n. range o (b ∷ (replicate n 0 ++ g.bytes)) ∷ gs) gap)

joined-nil : (o b : ℕ) → joined o b [] ≡ range o (b ∷ []) ∷ []
unfolding joined
joined-nil o b = refl

-- a byte behind which there are only zeros
pub lone_last : (o b k : ℕ) → b ≢ 0 → ranges_of o (b ∷ (replicate k 0 ++ [])) ≡ range o (b ∷ []) ∷ ranges_of (o + 1) (replicate k 0 ++ [])
lone_last o b k some =
    let none : ranges_of (o + 1) (replicate k 0 ++ []) ≡ [] = skip (o + 1) k [] ∙ ranges_of-nil ((o + 1) + k) in
    ranges_of-some o b (replicate k 0 ++ []) some ∙ ap (joined o b) none ∙ joined-nil o b ∙ ap (λ (l : List Range). range o (b ∷ []) ∷ l) (sym none)

-- a byte behind which there are at least eight zeros
pub lone : (o b k c : ℕ) (cs : List ℕ) → b ≢ 0 → c ≢ 0 → 8 ≤ k
    → ranges_of o (b ∷ (replicate k 0 ++ (c ∷ cs))) ≡ range o (b ∷ []) ∷ ranges_of (o + 1) (replicate k 0 ++ (c ∷ cs))
lone o b k c cs some other far =
    let head = headed ((o + 1) + k) c cs other in
    let rest : ranges_of (o + 1) (replicate k 0 ++ (c ∷ cs)) ≡ head.first ∷ head.others = skip (o + 1) k (c ∷ cs) ∙ head.is in
    ranges_of-some o b (replicate k 0 ++ (c ∷ cs)) some ∙ ap (joined o b) rest ∙ joined-far o b head.first head.others (omega (arith, head.at))
    ∙ ap (λ (l : List Range). range o (b ∷ []) ∷ l) (sym rest)

-- a byte behind which there are fewer
pub near : (o b k c : ℕ) (cs : List ℕ) (g : Range) (gs : List Range) → b ≢ 0 → c ≢ 0 → k < 8 → ranges_of ((o + 1) + k) (c ∷ cs) ≡ g ∷ gs
    → ranges_of o (b ∷ (replicate k 0 ++ (c ∷ cs))) ≡ range o (b ∷ (replicate k 0 ++ g.bytes)) ∷ gs
near o b k c cs g gs some other close is =
    let at : g.off ≡ (o + 1) + k = first_is ((o + 1) + k) (ranges_of ((o + 1) + k) (c ∷ cs)) g gs (headed ((o + 1) + k) c cs other) is in
    ranges_of-some o b (replicate k 0 ++ (c ∷ cs)) some ∙ ap (joined o b) (skip (o + 1) k (c ∷ cs) ∙ is) ∙ joined-near o b k g gs close at

-- the bytes from one place to another are joined to the range that begins at the other
abbrev pub Joins : (bytes : List ℕ) (start last : ℕ) → Type 0
Joins bytes start last = (off : ℕ) (g : Range) (gs : List Range) → ranges_of (off + last) (drop last bytes) ≡ g ∷ gs
    → ranges_of (off + start) (drop start bytes) ≡ range (off + start) (take (last - start) (drop start bytes) ++ g.bytes) ∷ gs

pub joins_first : (bytes : List ℕ) (start : ℕ) → start < length bytes → slice_index bytes start ≢ 0 → Joins bytes start start
joins_first bytes start low some off g gs is =
    let whole : ranges_of (off + start) (slice_index bytes start ∷ drop (start + 1) bytes) ≡ g ∷ gs = ap (ranges_of (off + start)) (sym (split_at bytes start low)) ∙ is in
    let at : g.off ≡ off + start = first_is (off + start) _ g gs (headed (off + start) (slice_index bytes start) (drop (start + 1) bytes) some) whole in
    let none : take (start - start) (drop start bytes) ≡ [] = ap (λ n. take n (drop start bytes)) (let zero_gap : start - start ≡ 0 = omega arith in zero_gap) in
    is ∙ (λ i. range (at i) g.bytes ∷ gs) ∙ ap (λ (l : List ℕ). range (off + start) (l ++ g.bytes) ∷ gs) (sym none)

-- the bytes between two places
between : (bytes : List ℕ) (start last k : ℕ) (rest : List ℕ) → start ≤ last → last < length bytes → drop (last + 1) bytes ≡ replicate k 0 ++ rest
    → take ((last + 1 + k) - start) (drop start bytes) ≡ take (last - start) (drop start bytes) ++ (slice_index bytes last ∷ replicate k 0)
between bytes start last k rest low high zeros =
    let b = slice_index bytes last in
    let len : (last + 1 + k) - start ≡ (last - start) + (k + 1) = omega arith in
    let place : start + (last - start) ≡ last = omega arith in
    let at : drop (last - start) (drop start bytes) ≡ (b ∷ replicate k 0) ++ rest =
    drop-drop (last - start) start bytes ∙ ap (λ n. drop n bytes) place ∙ split_at bytes last high ∙ ap (λ (l : List ℕ). b ∷ l) zeros in
    let front : take (k + 1) ((b ∷ replicate k 0) ++ rest) ≡ b ∷ replicate k 0 =
    take_at (b ∷ replicate k 0) rest (k + 1) (let n : length (b ∷ replicate k 0) ≡ k + 1 = omega (arith, length-replicate {A = ℕ} k 0) in n) in
    ap (λ n. take n (drop start bytes)) len ∙ take-add (last - start) (k + 1) (drop start bytes)
    ∙ ap (λ (l : List ℕ). take (last - start) (drop start bytes) ++ take (k + 1) l) at ∙ ap (λ (l : List ℕ). take (last - start) (drop start bytes) ++ l) front

regroup : (a b c : List ℕ) (x : ℕ) → a ++ (x ∷ (b ++ c)) ≡ (a ++ (x ∷ b)) ++ c
regroup a b c x = sym (append_assoc a (x ∷ b) c)

pub joins_more : (bytes : List ℕ) (start last next : ℕ) → Joins bytes start last → start ≤ last → last < length bytes → slice_index bytes last ≢ 0
    → last + 1 ≤ next → next < length bytes → slice_index bytes next ≢ 0 → next - (last + 1) < 8
    → drop (last + 1) bytes ≡ replicate (next - (last + 1)) 0 ++ drop next bytes → Joins bytes start next
joins_more bytes start last next joins low high some low2 high2 other close zeros off g gs is =
    let b = slice_index bytes last in
    let c = slice_index bytes next in
    let k = next - (last + 1) in
    let here : drop last bytes ≡ b ∷ (replicate k 0 ++ (c ∷ drop (next + 1) bytes)) =
    split_at bytes last high ∙ ap (λ (l : List ℕ). b ∷ l) (zeros ∙ ap (λ (l : List ℕ). replicate k 0 ++ l) (split_at bytes next high2)) in
    let place : off + next ≡ ((off + last) + 1) + k = omega arith in
    let there : ranges_of (((off + last) + 1) + k) (c ∷ drop (next + 1) bytes) ≡ g ∷ gs =
    ap (λ n. ranges_of n (c ∷ drop (next + 1) bytes)) (sym place) ∙ ap (ranges_of (off + next)) (sym (split_at bytes next high2)) ∙ is in
    let grown : ranges_of (off + last) (drop last bytes) ≡ range (off + last) (b ∷ (replicate k 0 ++ g.bytes)) ∷ gs =
    ap (ranges_of (off + last)) here ∙ near (off + last) b k c (drop (next + 1) bytes) g gs some other close there in
    let end : (last + 1 + k) - start ≡ next - start = omega arith in
    let bytes_is : take (last - start) (drop start bytes) ++ (b ∷ (replicate k 0 ++ g.bytes)) ≡ take (next - start) (drop start bytes) ++ g.bytes =
    regroup (take (last - start) (drop start bytes)) (replicate k 0) g.bytes b
    ∙ ap (λ (l : List ℕ). l ++ g.bytes) (sym (between bytes start last k (drop next bytes) low high zeros) ∙ ap (λ n. take n (drop start bytes)) end) in
    joins off (range (off + last) (b ∷ (replicate k 0 ++ g.bytes))) gs grown ∙ ap (λ (l : List ℕ). range (off + start) l ∷ gs) bytes_is

-- the range that begins at one place ends behind the other
pub range_ends : (bytes : List ℕ) (start last next : ℕ) → Joins bytes start last → start ≤ last → last < length bytes → slice_index bytes last ≢ 0
    → last + 1 ≤ next → next ≤ length bytes → (next < length bytes → slice_index bytes next ≢ 0) → (next ≡ length bytes) ⊎ (8 ≤ next - (last + 1))
    → drop (last + 1) bytes ≡ replicate (next - (last + 1)) 0 ++ drop next bytes
    → (off : ℕ) → ranges_of (off + start) (drop start bytes) ≡ range (off + start) (take ((last + 1) - start) (drop start bytes)) ∷ ranges_of (off + (last + 1)) (drop (last + 1) bytes)
range_ends bytes start last next joins low high some low2 high2 other far zeros off =
    let b = slice_index bytes last in
    let k = next - (last + 1) in
    let tail = drop (last + 1) bytes in
    let alone : ranges_of (off + last) (b ∷ tail) ≡ range (off + last) (b ∷ []) ∷ ranges_of ((off + last) + 1) tail = elim (cases_lt next (length bytes)) [
      | inl within ↦
          let c = slice_index bytes next in
          let tail_is : tail ≡ replicate k 0 ++ (c ∷ drop (next + 1) bytes) = zeros ∙ ap (λ (l : List ℕ). replicate k 0 ++ l) (split_at bytes next within) in
          let gap : 8 ≤ k = omega (arith, far) in
          rw tail_is (lone (off + last) b k c (drop (next + 1) bytes) some (other within) gap)
      | inr past ↦
          let tail_is : tail ≡ replicate k 0 ++ [] = zeros ∙ ap (λ (l : List ℕ). replicate k 0 ++ l) (drop_all next bytes past) in
          rw tail_is (lone_last (off + last) b k some)
    ] in
    let place : (off + last) + 1 ≡ off + (last + 1) = omega arith in
    let whole : ranges_of (off + last) (drop last bytes) ≡ range (off + last) (b ∷ []) ∷ ranges_of (off + (last + 1)) tail =
    ap (ranges_of (off + last)) (split_at bytes last high) ∙ alone ∙ ap (λ n. range (off + last) (b ∷ []) ∷ ranges_of n tail) place in
    let end : (last + 1 + 0) - start ≡ (last + 1) - start = omega arith in
    let bytes_is : take (last - start) (drop start bytes) ++ (b ∷ []) ≡ take ((last + 1) - start) (drop start bytes) =
    sym (between bytes start last 0 tail low high refl) ∙ ap (λ n. take n (drop start bytes)) end in
    joins off (range (off + last) (b ∷ [])) (ranges_of (off + (last + 1)) tail) whole
    ∙ ap (λ (l : List ℕ). range (off + start) l ∷ ranges_of (off + (last + 1)) tail) bytes_is

-- one zero more
pub zeros_more : (bytes : List ℕ) (at end : ℕ) → at ≤ end → end < length bytes → slice_index bytes end ≡ 0 → drop at bytes ≡ replicate (end - at) 0 ++ drop end bytes
    → drop at bytes ≡ replicate ((end + 1) - at) 0 ++ drop (end + 1) bytes
zeros_more bytes at end low high zero_here zeros =
    let k = end - at in
    let len : suc k ≡ (end + 1) - at = omega arith in
    zeros ∙ ap (λ (l : List ℕ). replicate k 0 ++ l) (split_at bytes end high ∙ ap (λ (n : ℕ). n ∷ drop (end + 1) bytes) zero_here)
    ∙ replicate-more k (drop (end + 1) bytes) ∙ ap (λ (n : ℕ). replicate n 0 ++ drop (end + 1) bytes) len
