-- The counts that a seat keeps, and what is read of the free bytes.
use Rattle.std.proofs.Common.{◌≡◌, ◌≢◌, ℕ, zero, suc, replicate, ◌+◌, ◌-◌, ◌%◌, ◌^◌, ◌<◌, ◌≤◌, List, [], ◌∷◌, ◌++◌, length, set, get_or, refl, sym, ap, ◌∙◌, subst, arith, length-set, get_or-set_other}
use Rattle.std.proofs.Common.{get_or-set_same}
use Rattle.std.proofs.lemmas.List.{ext_get_or, append-nil}
use Rattle.std.specs.Prelude.{slice_index}
use mathlib.Core.Logic.{dite}
use native.Mathlib.Decide.{ℕ_discrete, dec_lt}
use Rattle.cod_place.specs.declared.view.View.{View}
use Rattle.cod_place.specs.Rooms.{Store}
use Rattle.cod_place.specs.Free.{Counted, at_node, less, taken_from}
use Rattle.cod_place.proofs.Keeps.{at_node-append, at_one, at_other, less_here, less_other, taken_is, taken_beyond}

pub nothing_counted : (counts : List ℕ) → length counts ≡ 64 → ((i : ℕ) → i < 64 → slice_index counts i ≡ 0) → Counted counts []
nothing_counted counts long zeros = (long, λ i inside. zeros i inside)

-- bytes of one node more
pub counted_more : (counts : List ℕ) (bytes : List (ℕ × ℕ)) (i b n : ℕ) → i < 64 → n ≡ (slice_index counts i + b) % 2 ^ 64 → Counted counts bytes → Counted (set counts i n) (bytes ++ (i, b) ∷ [])
counted_more counts bytes i b n inside is c = let long = c.0 in (
  length-set counts i n ∙ long,
  λ node small.
      let a = at_node-append node bytes ((i, b) ∷ []) in
      dite (ℕ_discrete node i)
      (λ e. subst (λ (z : ℕ). get_or (set counts i n) z 0 ≡ at_node z (bytes ++ (i, b) ∷ []) % 2 ^ 64) (sym e)
      (let s = get_or-set_same counts i n 0 (omega arith) in
      let h = c.1 i inside in
      let a' = at_node-append i bytes ((i, b) ∷ []) in
      let o = at_one i b in omega arith))
      (λ other.
      let s = get_or-set_other counts i node n 0 other in
      let h = c.1 node small in
      let o = at_other i node b (λ z. other (sym z)) in omega arith),
)

-- and less
pub counted_less : (counts : List ℕ) (bytes : List (ℕ × ℕ)) (i b n : ℕ) → i < 64 → b < 2 ^ 64 → b ≤ at_node i bytes → n ≡ (slice_index counts i + (2 ^ 64 - b)) % 2 ^ 64 → Counted counts bytes
    → Counted (set counts i n) (less i b bytes)
counted_less counts bytes i b n inside small_b within is c = let long = c.0 in (
  length-set counts i n ∙ long,
  λ node small. dite (ℕ_discrete node i)
      (λ e. subst (λ (z : ℕ). get_or (set counts i n) z 0 ≡ at_node z (less i b bytes) % 2 ^ 64) (sym e)
      (let s = get_or-set_same counts i n 0 (omega arith) in
      let h = c.1 i inside in
      let l = less_here i b bytes within in omega arith))
      (λ other.
      let s = get_or-set_other counts i node n 0 other in
      let h = c.1 node small in
      let l = less_other i node b bytes other in omega arith),
)

-- the counts of two seats, so many of them added
abbrev pub AddedUpTo : (before counts others : List ℕ) → ℕ → Type 0
AddedUpTo before counts others n = (length counts ≡ 64) × ((i : ℕ) → i < n → slice_index counts i ≡ (slice_index before i + slice_index others i) % 2 ^ 64)
    × ((i : ℕ) → n ≤ i → slice_index counts i ≡ slice_index before i)

pub added_none : (before others : List ℕ) → length before ≡ 64 → AddedUpTo before before others 0
added_none before others long = (long, (λ i small. absurd (omega arith)), (λ i big. refl))

pub added_more : (before counts others : List ℕ) (n x : ℕ) → n < 64 → x ≡ (slice_index counts n + slice_index others n) % 2 ^ 64 → AddedUpTo before counts others n
    → AddedUpTo before (set counts n x) others (n + 1)
added_more before counts others n x inside is a = (
  length-set counts n x ∙ a.0,
  λ i small. dite (ℕ_discrete i n)
      (λ e. subst (λ (z : ℕ). get_or (set counts n x) z 0 ≡ (slice_index before z + slice_index others z) % 2 ^ 64) (sym e)
      (let l = a.0 in let s = get_or-set_same counts n x 0 (omega arith) in let h = a.2 n (omega arith) in s ∙ (is ∙ ap (λ (y : ℕ). (y + slice_index others n) % 2 ^ 64) h)))
      (λ other. get_or-set_other counts n i x 0 other ∙ a.1 i (omega arith)),
  λ i big. get_or-set_other counts n i x 0 (λ z. omega arith) ∙ a.2 i (omega arith),
)

pub counted_both : (before counts others : List ℕ) (mine theirs : List (ℕ × ℕ)) (n : ℕ) → 64 ≤ n → AddedUpTo before counts others n → Counted before mine → Counted others theirs
    → Counted counts (mine ++ theirs)
counted_both before counts others mine theirs n whole a m t = (
  a.0,
  λ node small.
      let e = a.1 node (omega arith) in
      let l = at_node-append node mine theirs in
      let x = m.1 node small in
      let y = t.1 node small in omega arith,
)

-- so many nodes were read when pools were opened
abbrev pub OpenedUpTo : Store → (words counts : List ℕ) → ℕ → Type 0
OpenedUpTo store words counts n = (length words ≡ length store.free) × (length counts ≡ 64)
    × ((i : ℕ) → i < n → (slice_index words i ≡ slice_index store.free i) × (slice_index counts i ≡ store.capacity - slice_index store.free i)) × ((i : ℕ) → n ≤ i → slice_index counts i ≡ 0)

pub opened_more : (store : Store) (words counts : List ℕ) (n w k : ℕ) → n < length store.free → length store.free ≤ 64 → w ≡ slice_index store.free n → k ≡ store.capacity - slice_index store.free n
    → OpenedUpTo store words counts n → OpenedUpTo store (set words n w) (set counts n k) (n + 1)
opened_more store words counts n w k inside most is is' o = (
  length-set words n w ∙ o.0,
  length-set counts n k ∙ o.1,
  λ i small. dite (ℕ_discrete i n)
      (λ e. subst (λ (z : ℕ). (get_or (set words n w) z 0 ≡ slice_index store.free z) × (get_or (set counts n k) z 0 ≡ store.capacity - slice_index store.free z)) (sym e)
      (let l = o.0 in let l' = o.1 in (get_or-set_same words n w 0 (omega arith) ∙ is, get_or-set_same counts n k 0 (omega arith) ∙ is')))
      (λ other. let h = o.2 i (omega arith) in (get_or-set_other words n i w 0 other ∙ h.0, get_or-set_other counts n i k 0 other ∙ h.1)),
  λ i big. get_or-set_other counts n i k 0 (λ z. omega arith) ∙ o.3 i (omega arith),
)

pub opened_words : (store : Store) (words counts : List ℕ) → OpenedUpTo store words counts (length store.free) → words ≡ store.free
opened_words store words counts o = ext_get_or 0 words store.free o.0 (λ i small. let l = o.0 in (o.2 i (omega arith)).0)

pub opened_counts : (store : Store) (words counts : List ℕ) → store.capacity < 2 ^ 32 → OpenedUpTo store words counts (length store.free) → Counted counts (taken_from store.capacity 0 store.free)
opened_counts store words counts low o = (
  o.1,
  λ node small. dite (dec_lt node (length store.free))
      (λ inside. let h = (o.2 node inside).1 in let t = taken_is store.capacity store.free node inside in omega arith)
      (λ outside. let h = o.3 node (omega arith) in let t = taken_beyond store.capacity store.free node (omega arith) in omega arith),
)

-- so many nodes were settled when pools were closed
abbrev pub ClosedUpTo : (capacity nodes : ℕ) (bytes : List (ℕ × ℕ)) (free : List ℕ) → ℕ → Type 0
ClosedUpTo capacity nodes bytes free n = (length free ≡ nodes) × ((i : ℕ) → i < n → slice_index free i + at_node i bytes ≡ capacity)

pub closed_more : (capacity nodes : ℕ) (bytes : List (ℕ × ℕ)) (free : List ℕ) (n x : ℕ) → n < nodes → x + at_node n bytes ≡ capacity → ClosedUpTo capacity nodes bytes free n
    → ClosedUpTo capacity nodes bytes (set free n x) (n + 1)
closed_more capacity nodes bytes free n x inside is c = (
  length-set free n x ∙ c.0,
  λ i small. dite (ℕ_discrete i n)
      (λ e. subst (λ (z : ℕ). get_or (set free n x) z 0 + at_node z bytes ≡ capacity) (sym e)
      (let l = c.0 in let s = get_or-set_same free n x 0 (omega arith) in omega arith))
      (λ other. let s = get_or-set_other free n i x 0 other in let h = c.1 i (omega arith) in omega arith),
)

zeros_at : (n i : ℕ) → get_or (replicate {A = ℕ} n 0) i 0 ≡ 0
zeros_at zero i = refl
zeros_at (suc n) zero = refl
zeros_at (suc n) (suc i) = zeros_at n i

pub zeros : (i : ℕ) → i < 64 → slice_index (replicate {A = ℕ} 64 0) i ≡ 0
zeros i small = zeros_at 64 i

pub all_zeros : length (replicate {A = ℕ} 64 0) ≡ 64
all_zeros = refl

pub opened_none : (store : Store) → OpenedUpTo store (replicate (length store.free) 0) (replicate 64 0) 0
opened_none store = (length-zeros (length store.free), refl, (λ i small. absurd (omega arith)), (λ i big. zeros_at 64 i))
  where
    length-zeros : (n : ℕ) → length (replicate {A = ℕ} n 0) ≡ n
    length-zeros zero = refl
    length-zeros (suc n) = ap suc (length-zeros n)

-- a count is exact where the bytes are few
pub exact : (counts : List ℕ) (bytes : List (ℕ × ℕ)) (node cap : ℕ) → node < 64 → at_node node bytes ≤ cap → cap < 2 ^ 32 → Counted counts bytes → slice_index counts node ≡ at_node node bytes
exact counts bytes node cap inside few low c = let e = c.1 node inside in omega arith

pub closed_none : (capacity nodes : ℕ) (bytes : List (ℕ × ℕ)) (free : List ℕ) → length free ≡ nodes → ClosedUpTo capacity nodes bytes free 0
closed_none capacity nodes bytes free long = (long, λ i small. absurd (omega arith))
