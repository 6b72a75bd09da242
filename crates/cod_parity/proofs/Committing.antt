-- How a commit keeps what a column holds.
use Rattle.std.proofs.Common.{◌≡◌, ◌≢◌, ℕ, ◌+◌, ◌<◌, ◌≤◌, List, [], ◌∷◌, length, get_or, true, false, cond, refl, sym, ap, ◌∙◌, inl, inr, ◌⊎◌, bit_xor, arith, Some, None, Option}
use Rattle.std.proofs.lemmas.Bool.{cases_lt, cases_eq, lt-ltb, le-ltb, eq-eqb, ne_eqb}
use Rattle.std.proofs.lemmas.List.{get_or-set_same, get_or-set_other}
use Rattle.std.specs.Int.Bits.{xor_zero_l, xor_zero_r, xor_assoc}
use Rattle.std.specs.List.{filter}
use Rattle.cod_types.specs.Limits.{Shape}
use Rattle.cod_types.specs.Overwritten.{byte_at}
use Rattle.cod_parity.specs.Log.{change, Logged, share}
use Rattle.cod_parity.specs.State.{State}
use Rattle.cod_parity.specs.Held.{add_piece, AreInFlight, Holds, is_pending, Piece, raised_cut, without_piece}
use Rattle.cod_parity.proofs.Records.{share_past, share_in}
use Rattle.cod_parity.proofs.Lowest.{swap}

-- the cuts differ at block j alone, and there rise
pub record Rises (cuts higher : List ℕ) (j : ℕ) : Type 0 where
  pub same : (i : ℕ) → i ≢ j → get_or higher i 0 ≡ get_or cuts i 0
  pub up : get_or higher j 0 ≡ get_or cuts j 0 + 1

-- a record that isn't in flight in block j adds what it did
share_same : (cuts higher : List ℕ) (j : ℕ) (l : Logged) (x : ℕ) → Rises cuts higher j → (get_or cuts l.whole.block 0 < l.whole.number → l.whole.block ≢ j) → share higher l x ≡ share cuts l x
share_same cuts higher j l x rise other = elim (cases_lt (get_or cuts l.whole.block 0) l.whole.number) [
  | inl past ↦ let e = rise.same l.whole.block (other past) in
      share_past higher l x (omega (arith, e, past)) ∙ sym (share_past cuts l x past)
  | inr within ↦ elim (cases_eq l.whole.block j) [
    | inl here ↦ let e : get_or higher l.whole.block 0 ≡ get_or cuts l.whole.block 0 + 1 = rw here rise.up in share_in higher l x (omega (arith, e, within)) ∙ sym (share_in cuts l x within)
    | inr there ↦ let e = rise.same l.whole.block there in share_in higher l x (omega (arith, e, within)) ∙ sym (share_in cuts l x within)
  ]
]

-- whether a record is in flight in block j
pub tells_pending : (cuts : List ℕ) (j : ℕ) (l : Logged)
    → ((is_pending cuts j l ≡ true) × (get_or cuts l.whole.block 0 < l.whole.number) × (l.whole.block ≡ j)) ⊎ ((is_pending cuts j l ≡ false)
    × (get_or cuts l.whole.block 0 < l.whole.number → l.whole.block ≢ j))
tells_pending cuts j l = elim (cases_lt (get_or cuts l.whole.block 0) l.whole.number) [
  | inl past ↦ elim (cases_eq l.whole.block j) [
    | inl here ↦ inl (rw (lt-ltb (get_or cuts l.whole.block 0) l.whole.number past, eq-eqb l.whole.block j here) refl, past, here)
    | inr there ↦ inr (rw (lt-ltb (get_or cuts l.whole.block 0) l.whole.number past, ne_eqb l.whole.block j there) refl, λ q. there)
  ]
  | inr within ↦ inr (rw (le-ltb (get_or cuts l.whole.block 0) l.whole.number within) refl, λ q. absurd (omega (arith, q, within)))
]

change_rises : (cuts higher : List ℕ) (j : ℕ) (ls : List Logged) (x : ℕ) → Rises cuts higher j
    → change higher ls x ≡ bit_xor (change cuts ls x) (change higher (filter (is_pending cuts j) ls) x)
change_rises cuts higher j [] x rise = refl
change_rises cuts higher j (l ∷ ls) x rise = elim (tells_pending cuts j l) [
  | inl here ↦
      let kept : List Logged = filter (is_pending cuts j) ls in
      let later = change_rises cuts higher j ls x rise in
      let none = share_past cuts l x here.1 in
      let goal_is : filter (is_pending cuts j) (l ∷ ls) ≡ l ∷ kept = ap (λ b. cond b (l ∷ kept) kept) here.0 in
      rw (goal_is, none, xor_zero_l (change cuts ls x), later) (swap (share higher l x) (change cuts ls x) (change higher kept x))
  | inr other ↦
      let kept : List Logged = filter (is_pending cuts j) ls in
      let later = change_rises cuts higher j ls x rise in
      let same = share_same cuts higher j l x rise other.1 in
      let goal_is : filter (is_pending cuts j) (l ∷ ls) ≡ kept = ap (λ b. cond b (l ∷ kept) kept) other.0 in
      rw (goal_is, same, later) (sym (xor_assoc (share cuts l x) (change cuts ls x) (change higher kept x)))
]

-- what is in flight in block j after the cut has risen was so before
still : (cuts higher : List ℕ) (j : ℕ) (ls : List Logged) → Rises cuts higher j → filter (is_pending higher j) ls ≡ filter (is_pending higher j) (filter (is_pending cuts j) ls)
still cuts higher j [] rise = refl
still cuts higher j (l ∷ ls) rise =
    let later = still cuts higher j ls rise in
    elim (tells_pending cuts j l) [
      | inl here ↦
          let kept : List Logged = filter (is_pending cuts j) ls in
          let kept_is : filter (is_pending cuts j) (l ∷ ls) ≡ l ∷ kept = ap (λ b. cond b (l ∷ kept) kept) here.0 in
          rw (kept_is, later) refl
      | inr other ↦
          let kept : List Logged = filter (is_pending cuts j) ls in
          let kept_is : filter (is_pending cuts j) (l ∷ ls) ≡ kept = ap (λ b. cond b (l ∷ kept) kept) other.0 in
          let no : is_pending higher j l ≡ false = elim (tells_pending higher j l) [
            | inl now ↦ let e : get_or higher l.whole.block 0 ≡ get_or cuts l.whole.block 0 + 1 = rw now.2 rise.up in absurd (other.1 (omega (arith, e, now.1)) now.2)
            | inr never ↦ never.0
          ] in
          let all_is : filter (is_pending higher j) (l ∷ ls) ≡ filter (is_pending higher j) ls = ap (λ b. cond b (l ∷ filter (is_pending higher j) ls) (filter (is_pending higher j) ls)) no in
          rw (kept_is, all_is) later
    ]

-- the other blocks have in flight what they had
others : (cuts higher : List ℕ) (j i : ℕ) (ls : List Logged) → Rises cuts higher j → i ≢ j → filter (is_pending higher i) ls ≡ filter (is_pending cuts i) ls
others cuts higher j i [] rise other = refl
others cuts higher j i (l ∷ ls) rise other =
    let later = others cuts higher j i ls rise other in
    let same : is_pending higher i l ≡ is_pending cuts i l = elim (tells_pending cuts i l) [
      | inl here ↦ let e = rise.same l.whole.block (λ e2. other (sym here.2 ∙ e2)) in elim (tells_pending higher i l) [
        | inl now ↦ now.0 ∙ sym here.0
        | inr never ↦ absurd (never.1 (omega (arith, e, here.1)) here.2)
      ]
      | inr not_here ↦ elim (tells_pending higher i l) [
        | inl now ↦ let e = rise.same l.whole.block (λ e2. other (sym now.2 ∙ e2)) in absurd (not_here.1 (omega (arith, e, now.1)) now.2)
        | inr never ↦ never.0 ∙ sym not_here.0
      ]
    ] in
    ap (λ b. cond b (l ∷ filter (is_pending higher i) ls) (filter (is_pending higher i) ls)) same ∙ ap (λ ks. cond (is_pending cuts i l) (l ∷ ks) ks) later

rises_raised : (cuts : List ℕ) (j : ℕ) → j < length cuts → Rises cuts (raised_cut cuts j) j
rises_raised cuts j within = record {
  same = λ i other. get_or-set_other cuts j i (get_or cuts j 0 + 1) 0 other;
  up = get_or-set_same cuts j (get_or cuts j 0 + 1) 0 within;
}

one_number : (higher : List ℕ) (l : Logged) (j n : ℕ) → l.whole.block ≡ j → l.whole.number ≡ n → n ≤ get_or higher j 0 → l.whole.number ≤ get_or higher l.whole.block 0
one_number higher l j n block number le = rw (block, number) le

added_is : (g : Shape) (higher : List ℕ) (j n x value : ℕ) (v : ℕ → ℕ) (q : Option Piece) (ls : List Logged) → n ≤ get_or higher j 0 → v x ≡ value → AreInFlight g j n q ls
    → bit_xor value (change higher ls x) ≡ add_piece q v x
added_is g higher j n x value v None ls le e none = rw none (xor_zero_r value ∙ sym e)
added_is g higher j n x value v (Some q) ls le e lone =
    let s : share higher lone.one x ≡ byte_at x 0 q.off q.bytes = share_in higher lone.one x (one_number higher lone.one j n lone.piece.in_block lone.piece.numbered le) ∙ lone.piece.bytes x in
    let all : change higher ls x ≡ byte_at x 0 q.off q.bytes = ap (λ (ms : List Logged). change higher ms x) lone.all ∙ xor_zero_r (share higher lone.one x) ∙ s in
    rw (all, e) refl

none_left : (g : Shape) (higher : List ℕ) (j n : ℕ) (q : Option Piece) (ls : List Logged) → n ≤ get_or higher j 0 → AreInFlight g j n q ls → filter (is_pending higher j) ls ≡ []
none_left g higher j n None ls le none = rw none refl
none_left g higher j n (Some q) ls le lone =
    let w = one_number higher lone.one j n lone.piece.in_block lone.piece.numbered le in
    rw (lone.all, le-ltb (get_or higher lone.one.whole.block 0) lone.one.whole.number w) refl

-- with one higher cut, the update in flight of its block is a part of the value
pub committed : (s : State) (cuts : List ℕ) (v : ℕ → ℕ) (p : ℕ → Option Piece) (j : ℕ) → j < length cuts → Holds s cuts v p
    → Holds s (raised_cut cuts j) (add_piece (p j) v) (without_piece p j)
committed s cuts v p j within h =
    let rise = rises_raised cuts j within in
    let le : get_or cuts j 0 + 1 ≤ get_or (raised_cut cuts j) j 0 = omega (arith, rise.up) in
    record {
      base = h.base;
      records = h.records;
      means = h.means;
      value_is = λ x inside.
          let e = change_rises cuts (raised_cut cuts j) j h.records x rise in
          rw (e, ← xor_assoc (get_or h.base x 0) (change cuts h.records x) (change (raised_cut cuts j) (filter (is_pending cuts j) h.records) x))
          (added_is s.shape (raised_cut cuts j) j (get_or cuts j 0 + 1) x (bit_xor (get_or h.base x 0) (change cuts h.records x)) v (p j) (filter (is_pending cuts j) h.records) le (sym
          (h.value_is x inside)) (h.in_flight j));
      in_flight = λ i. elim (cases_eq i j) [
        | inl same ↦ let e : without_piece p j i ≡ None = rw (eq-eqb i j same) refl in
            let f : filter (is_pending (raised_cut cuts j) j) h.records ≡ [] = still cuts (raised_cut cuts j) j h.records rise
            ∙ none_left s.shape (raised_cut cuts j) j (get_or cuts j 0 + 1) (p j) (filter (is_pending cuts j) h.records) le (h.in_flight j) in
            rw (e, same) f
        | inr other ↦ let e : without_piece p j i ≡ p i = rw (ne_eqb i j other) refl in
            let c = rise.same i other in
            rw (e, c, others cuts (raised_cut cuts j) j i h.records rise other) (h.in_flight i)
      ];
    }
