-- Which columns are live, and where they are.
use Rattle.std.proofs.Common.{◌≡◌, ◌≢◌, ℕ, zero, suc, ◌+◌, ◌*◌, ◌%◌, ◌^◌, ◌<◌, ◌≤◌, ◌&&◌, ◌||◌, ◌==◌, nat_lt, nat_eq, replicate, List, length, take, get_or, set, Bool, true, false, cond}
use Rattle.std.proofs.Common.{refl, sym, ap, ap₂, ◌∙◌, arith, add-one, inl, inr, w64, Some, None}
use Rattle.std.specs.Prelude.{bit_or}
use Rattle.std.specs.List.{list_any}
use Rattle.std.proofs.lemmas.Nat.Bits.{bit_at_set_same, bit_at_set_other, bit_at-zero}
use Rattle.std.proofs.lemmas.Bool.Decides.{nat_tests}
use Rattle.std.proofs.lemmas.Bool.{cases_eq, cases_lt, lt-ltb, le-ltb}
use Rattle.std.proofs.lemmas.List.{get_or_past, get_or-set_same, get_or-set_other, get_or-take, get_or-replicate, length-replicate, length-take}
use Rattle.std.proofs.lemmas.List.Folds.{list_any_more}
use Rattle.cod_code.specs.Choosing.{is_lowest, marked_below}
use Rattle.cod_place.specs.Spares.{is_in}
use Rattle.cod_seg.specs.Laws.{up_below}
use Rattle.cod_seg.specs.Seg.{Col, col_at, no_col}
use Rattle.cod_repair.specs.Columns.{is_source, live_node}

-- ---- a list that is filled place by place

module _ {X : Type 0} where
  -- the places below i have what f gives, and the others the default
  abbrev pub below : (f : ℕ → X) (d : X) (i j : ℕ) → X
  below f d i j = cond (nat_lt j i) (f j) d

  below_same : (f : ℕ → X) (d : X) (i j : ℕ) → j ≢ i → below f d i j ≡ below f d (i + 1) j
  below_same f d i j other = elim (cases_lt j i) [
    | inl low ↦ let high : j < i + 1 = omega arith in rw (lt-ltb j i low, lt-ltb j (i + 1) high) refl
    | inr from ↦ let past : i + 1 ≤ j = omega arith in rw (le-ltb j i from, le-ltb j (i + 1) past) refl
  ]

  below_end : (f : ℕ → X) (d : X) (i : ℕ) → below f d i i ≡ d
  below_end f d i = rw (le-ltb i i (omega arith)) refl

  below_last : (f : ℕ → X) (d : X) (i : ℕ) → below f d (i + 1) i ≡ f i
  below_last f d i = let low : i < i + 1 = omega arith in rw (lt-ltb i (i + 1) low) refl

  pub filled_more : (f : ℕ → X) (d : X) (xs : List X) (i : ℕ) (x : X) → i < length xs → x ≡ f i → ((j : ℕ) → get_or xs j d ≡ below f d i j)
      → (j : ℕ) → get_or (set xs i x) j d ≡ below f d (i + 1) j
  filled_more f d xs i x within is all j = elim (cases_eq j i) [
    | inl here ↦ rw here (get_or-set_same xs i x d within ∙ is ∙ sym (below_last f d i))
    | inr other ↦ get_or-set_other xs i j x d other ∙ all j ∙ below_same f d i j other
  ]

  pub filled_skip : (f : ℕ → X) (d : X) (xs : List X) (i : ℕ) → f i ≡ d → ((j : ℕ) → get_or xs j d ≡ below f d i j) → (j : ℕ) → get_or xs j d ≡ below f d (i + 1) j
  filled_skip f d xs i is all j = elim (cases_eq j i) [
    | inl here ↦ rw here (all i ∙ below_end f d i ∙ sym is ∙ sym (below_last f d i))
    | inr other ↦ all j ∙ below_same f d i j other
  ]

  pub filled_all : (f : ℕ → X) (d : X) (xs : List X) (n i : ℕ) → i ≡ n → ((j : ℕ) → n ≤ j → f j ≡ d) → ((j : ℕ) → get_or xs j d ≡ below f d i j) → (j : ℕ) → get_or xs j d ≡ f j
  filled_all f d xs n i end past all j = all j ∙ elim (cases_lt j i) [
    | inl low ↦ rw (lt-ltb j i low) refl
    | inr high ↦ rw (le-ltb j i high) (sym (past j (omega arith)))
  ]

pub replicate_default : {X : Type 0} (n : ℕ) (d : X) (j : ℕ) → get_or (replicate n d) j d ≡ d
replicate_default n d j = elim (cases_lt j n) [
  | inl low ↦ get_or-replicate n j d d low
  | inr high ↦ get_or_past (replicate n d) j d (let l = length-replicate n d in omega arith)
]

-- ---- live columns

pub past_up : (cols : List Col) (j : ℕ) → length cols ≤ j → (col_at cols j).is_up ≡ false
past_up cols j past = rw (get_or_past cols j no_col past) refl

pub past_node : (cols : List Col) (j : ℕ) → length cols ≤ j → live_node (col_at cols j) ≡ None
past_node cols j past = rw (get_or_past cols j no_col past) refl

pub node_up : (c : Col) → c.is_up ≡ true → live_node c ≡ Some c.room.node
node_up c is = rw is refl

pub node_down : (c : Col) → c.is_up ≡ false → live_node c ≡ None
node_down c is = rw is refl

pub up_more : (cols : List Col) (i : ℕ) → (col_at cols i).is_up ≡ true → up_below (i + 1) cols ≡ up_below i cols + 1
up_more cols i live = rw (add-one i) (rw live refl)

pub up_skip : (cols : List Col) (i : ℕ) → (col_at cols i).is_up ≡ false → up_below (i + 1) cols ≡ up_below i cols
up_skip cols i down = rw (add-one i) (rw down (omega arith))

-- how many are marked is how many are up
pub marked_up : (marks : List Bool) (cols : List Col) (m : ℕ) → ((j : ℕ) → j < m → get_or marks j false ≡ (col_at cols j).is_up) → marked_below marks m ≡ up_below m cols
marked_up marks cols zero same = refl
marked_up marks cols (suc m) same =
    rw (same m (omega arith)) (one_more (col_at cols m).is_up (marked_below marks m) (up_below m cols) (marked_up marks cols m (λ j lt. same j (omega arith))))
  where
    one_more : (t : Bool) (a b : ℕ) → a ≡ b → cond t (a + 1) a ≡ b + cond t 1 0
    one_more true a b e = omega arith
    one_more false a b e = omega arith

-- the marks of the first n columns
pub front_mark : (marks : List Bool) (cols : List Col) → ((j : ℕ) → get_or marks j false ≡ (col_at cols j).is_up) → (j : ℕ)
    → get_or (take (length cols) marks) j false ≡ (col_at cols j).is_up
front_mark marks cols same j = elim (cases_lt j (length cols)) [
  | inl low ↦ get_or-take (length cols) marks j false low ∙ same j
  | inr high ↦ get_or_past (take (length cols) marks) j false (let l = length-take {A = Bool} (length cols) marks in omega arith) ∙ sym (past_up cols j high)
]

pub lowest_source : (k : ℕ) (marks : List Bool) (cols : List Col) → ((j : ℕ) → get_or marks j false ≡ (col_at cols j).is_up) → (j : ℕ) → is_lowest k marks j ≡ is_source k cols j
lowest_source k marks cols same j =
    ap₂ (λ (t : Bool) (n : ℕ). t && nat_lt n k) (same j) (marked_up marks cols j (λ m lt. same m))

-- a source is up
pub source_up : (k : ℕ) (cols : List Col) (i : ℕ) → is_source k cols i ≡ true → (col_at cols i).is_up ≡ true
source_up k cols i is = first_true (col_at cols i).is_up (nat_lt (up_below i cols) k) is
  where
    first_true : (a b : Bool) → a && b ≡ true → a ≡ true
    first_true true b h = refl
    first_true false b h = h

-- ---- the nodes that are taken

pub taken_none : (node : ℕ) (cols : List Col) → is_in 0 node ≡ list_any (λ (c : Col). c.room.node.0 == node) (take 0 cols)
taken_none node cols = ap (λ b. nat_eq b 1) (bit_at-zero node)

pub taken_more : (cols : List Col) (i set_ x : ℕ) → i < length cols → x ≡ (col_at cols i).room.node.0 → x < 64
    → ((node : ℕ) → is_in set_ node ≡ list_any (λ (c : Col). c.room.node.0 == node) (take i cols))
    → (node : ℕ) → is_in (bit_or set_ (1 * 2 ^ x % 2 ^ 64)) node ≡ list_any (λ (c : Col). c.room.node.0 == node) (take (i + 1) cols)
taken_more cols i set_ x within is small all node =
    let p = λ (c : Col). c.room.node.0 == node in
    let more = list_any_more p cols i no_col within in
    elim (cases_eq node x) [
      | inl here ↦
          ap (is_in (bit_or set_ (1 * 2 ^ x % 2 ^ 64))) here ∙ ap (λ b. nat_eq b 1) (bit_at_set_same w64 set_ x small)
          ∙ sym (more ∙ ap (λ (t : Bool). list_any p (take i cols) || t) (same_eq (col_at cols i).room.node.0 node (sym is ∙ sym here)) ∙ or_true (list_any p (take i cols)))
      | inr other ↦
          ap (λ b. nat_eq b 1) (bit_at_set_other w64 set_ x small node other) ∙ all node
          ∙ sym (more ∙ ap (λ (t : Bool). list_any p (take i cols) || t) (other_eq (col_at cols i).room.node.0 node (λ e. other (sym e ∙ sym is))) ∙ or_false (list_any p (take i cols)))
    ]
  where
    same_eq : (a b : ℕ) → a ≡ b → (a == b) ≡ true
    same_eq a b e = grind (arith, nat_tests)

    other_eq : (a b : ℕ) → a ≢ b → (a == b) ≡ false
    other_eq a b e = grind (arith, nat_tests)

    or_true : (a : Bool) → (a || true) ≡ true
    or_true true = refl
    or_true false = refl

    or_false : (a : Bool) → (a || false) ≡ a
    or_false true = refl
    or_false false = refl
