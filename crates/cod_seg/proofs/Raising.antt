-- A parity column while the cuts of a caller's blocks rise.
use Rattle.std.proofs.Common.{◌≡◌, ℕ, zero, suc, ◌+◌, ◌-◌, ◌<◌, ◌≤◌, List, length, get_or, Bool, true, false, cond, refl, sym, ap, ◌∙◌, inl, inr, bit_xor, arith, Some, None, Option}
use Rattle.std.specs.Prelude.{is_some}
use Rattle.std.specs.Option.{option_map}
use Rattle.std.specs.Int.Bits.{xor_assoc, xor_zero_r}
use Rattle.std.proofs.lemmas.Bool.{cases_eq, eq-eqb, ne_eqb, cases_Bool, cases_lt}
use Rattle.std.proofs.lemmas.List.{length-set, length-map, get_or-map, get_or-set_same, get_or-set_other}
use Rattle.cod_types.specs.Overwritten.{byte_at, byte_of}
use Rattle.cod_types.proofs.Replaced.{byte_in, byte_before, byte_after}
use Rattle.cod_field.specs.Field.{product}
use Rattle.cod_field.proofs.Laws.{product_zero}
use Rattle.cod_code.specs.Columns.{gamma}
use Rattle.cod_code.proofs.Encoding.{gamma_lt}
use Rattle.cod_claims.specs.declared.claim.Claim.{Claim}
use Rattle.cod_claims.specs.Claimed.{claim_at, delta_of, is_noted, is_of, noted_length, released, without_claims}
use Rattle.cod_claims.proofs.Claiming.{at_map}
use Rattle.cod_parity.specs.Held.{add_piece, Holds, Piece, raised_cut, without_piece}
use Rattle.cod_parity.specs.Log.{scaled}
use Rattle.cod_parity.specs.State.{State}
use Rattle.cod_parity.proofs.Committing.{committed}
use Rattle.cod_parity.proofs.Unique.{held_again}
use Rattle.cod_seg.specs.Sound.{noted_piece, pending_on, piece_on}
use Rattle.cod_seg.specs.Steps.{added_to, raised_to}

-- the value with the caller's updates of the first n blocks
abbrev pub value_to : (n caller : ℕ) → List (Option Claim) → (ℕ → Option Piece) → (ℕ → ℕ) → ℕ → ℕ
value_to zero caller claims p v x = v x
value_to (suc n) caller claims p v x = cond (is_of caller (claim_at claims n)) (add_piece (p n) (value_to n caller claims p v) x) (value_to n caller claims p v x)

abbrev pub pending_to : (n caller : ℕ) → List (Option Claim) → (ℕ → Option Piece) → ℕ → Option Piece
pending_to zero caller claims p i = p i
pending_to (suc n) caller claims p i = cond (is_of caller (claim_at claims n)) (without_piece (pending_to n caller claims p) n i) (pending_to n caller claims p i)

pub length-raised : (n caller : ℕ) (claims : List (Option Claim)) (cuts : List ℕ) → length (raised_to n caller claims cuts) ≡ length cuts
length-raised zero caller claims cuts = refl
length-raised (suc n) caller claims cuts = elim (cases_Bool (is_of caller (claim_at claims n))) [
  | inl own ↦ rw own (length-set (raised_to n caller claims cuts) n (get_or (raised_to n caller claims cuts) n 0 + 1) ∙ length-raised n caller claims cuts)
  | inr other ↦ rw other (length-raised n caller claims cuts)
]

-- blocks from n on are as they were
later : (n caller : ℕ) (claims : List (Option Claim)) (p : ℕ → Option Piece) (m : ℕ) → n ≤ m → pending_to n caller claims p m ≡ p m
later zero caller claims p m above = refl
later (suc n) caller claims p m above = elim (cases_Bool (is_of caller (claim_at claims n))) [
  | inl own ↦
      let e : without_piece (pending_to n caller claims p) n m ≡ pending_to n caller claims p m = rw (ne_eqb m n (λ e. absurd (omega arith))) refl in
      rw own (e ∙ later n caller claims p m (omega arith))
  | inr other ↦ rw other (later n caller claims p m (omega arith))
]

-- earlier ones that are the caller's have nothing in flight, and others what they had
earlier : (n caller : ℕ) (claims : List (Option Claim)) (p : ℕ → Option Piece) (m : ℕ) → m < n → pending_to n caller claims p m ≡ cond (is_of caller (claim_at claims m)) None (p m)
earlier zero caller claims p m below = absurd (omega arith)
earlier (suc n) caller claims p m below = elim (cases_eq m n) [
  | inl here ↦ rw here (elim (cases_Bool (is_of caller (claim_at claims n))) [
    | inl own ↦ rw (own, eq-eqb n n refl) refl
    | inr other ↦ rw other (later n caller claims p n (omega arith))
  ])
  | inr there ↦ elim (cases_Bool (is_of caller (claim_at claims n))) [
    | inl own ↦
        let e : without_piece (pending_to n caller claims p) n m ≡ pending_to n caller claims p m = rw (ne_eqb m n there) refl in
        rw own (e ∙ earlier n caller claims p m (omega (arith, there)))
    | inr other ↦ rw other (earlier n caller claims p m (omega (arith, there)))
  ]
]

-- a parity column while the cuts of the first n blocks rise
holds_raised : (n caller : ℕ) (claims : List (Option Claim)) (cuts : List ℕ) (s : State) (v : ℕ → ℕ) (p : ℕ → Option Piece) → n ≤ length cuts → Holds s cuts v p
    → Holds s (raised_to n caller claims cuts) (value_to n caller claims p v) (pending_to n caller claims p)
holds_raised zero caller claims cuts s v p within h = h
holds_raised (suc n) caller claims cuts s v p within h =
    let before = holds_raised n caller claims cuts s v p (omega arith) h in
    elim (cases_Bool (is_of caller (claim_at claims n))) [
      | inl own ↦
          let l = length-raised n caller claims cuts in
          let after = committed s (raised_to n caller claims cuts) (value_to n caller claims p v) (pending_to n caller claims p) n (omega (arith, l, within)) before in
          let q = later n caller claims p n (omega arith) in
          rw own (held_again s (raised_cut (raised_to n caller claims cuts) n) (add_piece (p n) (value_to n caller claims p v)) (value_to (suc n) caller claims p v)
          (without_piece (pending_to n caller claims p) n) (pending_to (suc n) caller claims p) (λ x w. rw own refl) (λ j. rw own refl) (rw q at after))
      | inr other ↦ rw other (held_again s (raised_to n caller claims cuts) (value_to n caller claims p v) (value_to (suc n) caller claims p v)
          (pending_to n caller claims p) (pending_to (suc n) caller claims p) (λ x w. rw other refl) (λ j. rw other refl) before)
    ]

-- a multiple of bytes, at a place
scaled_at : (g x off : ℕ) (bytes : List ℕ) → g < 256 → byte_at x 0 off (scaled g bytes) ≡ product g (byte_at x 0 off bytes)
scaled_at g x off bytes small =
    let size : length (scaled g bytes) ≡ length bytes = length-map bytes (product g) in
    let none : product g 0 ≡ 0 = product_zero g small in
    elim (cases_lt x off) [
      | inl before ↦ byte_before x 0 off (scaled g bytes) before ∙ sym none ∙ ap (product g) (sym (byte_before x 0 off bytes before))
      | inr from ↦ elim (cases_lt x (off + length bytes)) [
        | inl within ↦ byte_in x 0 off (scaled g bytes) from (omega (arith, size, within)) ∙ get_or-map (product g) bytes (x - off) 0 0 (omega (arith, from, within))
            ∙ ap (product g) (sym (byte_in x 0 off bytes from within))
        | inr after ↦ byte_after x 0 off (scaled g bytes) (omega (arith, size, after)) ∙ sym none ∙ ap (product g) (sym (byte_after x 0 off bytes after))
      ]
    ]

-- what a claim's record adds is what its delta adds, times the coefficient
piece_adds : (k i n caller x : ℕ) (o : Option Claim) (v : ℕ → ℕ) → is_of caller o ≡ true → is_noted i o ≡ true
    → add_piece (noted_piece k i n o) v x ≡ bit_xor (v x) (product (gamma k i n) (byte_of (delta_of o) x))
piece_adds k i n caller x None v own noted = cc
piece_adds k i n caller x (Some c) v own noted =
    by (noted_length i (Some c)) noted where
      by : (l : Option ℕ) → is_some l ≡ true → add_piece (option_map (λ len. piece_on k i n len c) l) v x ≡ bit_xor (v x) (product (gamma k i n) (byte_of (delta_of (Some c)) x))
      by None e = cc
      by (Some len) e = ap (bit_xor (v x)) (scaled_at (gamma k i n) x c.delta.part.off c.delta.bytes (gamma_lt k i n))

-- where the column has noted each claim of the caller, the value is the old one with what these claims add
value_adds : (n k i caller x : ℕ) (claims : List (Option Claim)) (v : ℕ → ℕ)
    → ((m : ℕ) → m < n → is_of caller (claim_at claims m) ≡ true → is_noted i (claim_at claims m) ≡ true)
    → value_to n caller claims (pending_on k claims i) v x ≡ bit_xor (v x) (added_to n k i caller claims x)
value_adds zero k i caller x claims v noted = sym (xor_zero_r (v x))
value_adds (suc n) k i caller x claims v noted =
    let before = value_adds n k i caller x claims v (λ m lt. noted m (omega arith)) in
    elim (cases_Bool (is_of caller (claim_at claims n))) [
      | inl own ↦
          rw own (piece_adds k i n caller x (claim_at claims n) (value_to n caller claims (pending_on k claims i) v) own (noted n (omega arith) own)
          ∙ ap (λ (z : ℕ). bit_xor z (product (gamma k i n) (byte_of (delta_of (claim_at claims n)) x))) before
          ∙ xor_assoc (v x) (added_to n k i caller claims x) (product (gamma k i n) (byte_of (delta_of (claim_at claims n)) x)))
      | inr other ↦
          rw other (before ∙ ap (bit_xor (v x)) (sym (xor_zero_r (added_to n k i caller claims x))
          ∙ ap (bit_xor (added_to n k i caller claims x)) (sym (product_zero (gamma k i n) (gamma_lt k i n)))))
    ]

-- the claims of a block after the caller's are gone
pub claim_left : (caller : ℕ) (claims : List (Option Claim)) (j : ℕ) → claim_at (without_claims caller claims) j ≡ released caller (claim_at claims j)
claim_left caller claims j = at_map (released caller) refl claims j

pending_left : (k i caller : ℕ) (claims : List (Option Claim)) (j : ℕ) → pending_on k (without_claims caller claims) i j ≡ cond (is_of caller (claim_at claims j)) None (pending_on k claims i j)
pending_left k i caller claims j = ap (noted_piece k i j) (claim_left caller claims j) ∙ elim (cases_Bool (is_of caller (claim_at claims j))) [
  | inl own ↦ rw own refl
  | inr other ↦ rw other refl
]

-- A parity column that has noted each of the caller's claims, which are all of the first k blocks, has after the commit
-- the value with what these claims add, and in flight what the others have.
pub parity_commits : (k i caller : ℕ) (claims : List (Option Claim)) (cuts : List ℕ) (s : State) (v : ℕ → ℕ) → k ≤ length cuts
    → ((m : ℕ) → k ≤ m → is_of caller (claim_at claims m) ≡ false)
    → ((m : ℕ) → m < k → is_of caller (claim_at claims m) ≡ true → is_noted i (claim_at claims m) ≡ true)
    → Holds s cuts v (pending_on k claims i)
    → Holds s (raised_to k caller claims cuts) (λ x. bit_xor (v x) (added_to k k i caller claims x)) (pending_on k (without_claims caller claims) i)
parity_commits k i caller claims cuts s v within above noted h =
    held_again s (raised_to k caller claims cuts) (value_to k caller claims (pending_on k claims i) v) (λ x. bit_xor (v x) (added_to k k i caller claims x))
    (pending_to k caller claims (pending_on k claims i)) (pending_on k (without_claims caller claims) i)
    (λ x w. value_adds k k i caller x claims v noted)
    (λ j. elim (cases_lt j k) [
      | inl low ↦ earlier k caller claims (pending_on k claims i) j low ∙ sym (pending_left k i caller claims j)
      | inr high ↦ later k caller claims (pending_on k claims i) j high ∙ sym (pending_left k i caller claims j ∙ ap (λ (b : Bool). cond b None (pending_on k claims i j)) (above j high))
    ])
    (holds_raised k caller claims cuts s v (pending_on k claims i) within h)

-- the cuts of blocks from n on are as they were, and no cut rises by more than one
raised_behind : (n caller : ℕ) (claims : List (Option Claim)) (cuts : List ℕ) (j : ℕ) → n ≤ j → get_or (raised_to n caller claims cuts) j 0 ≡ get_or cuts j 0
raised_behind zero caller claims cuts j above = refl
raised_behind (suc n) caller claims cuts j above = elim (cases_Bool (is_of caller (claim_at claims n))) [
  | inl own ↦ rw own (get_or-set_other (raised_to n caller claims cuts) n j (get_or (raised_to n caller claims cuts) n 0 + 1) 0 (λ e. absurd (omega arith))
      ∙ raised_behind n caller claims cuts j (omega arith))
  | inr other ↦ rw other (raised_behind n caller claims cuts j (omega arith))
]

pub raised_most : (n caller : ℕ) (claims : List (Option Claim)) (cuts : List ℕ) (j : ℕ) → n ≤ length cuts → get_or (raised_to n caller claims cuts) j 0 ≤ get_or cuts j 0 + 1
raised_most zero caller claims cuts j within = omega arith
raised_most (suc n) caller claims cuts j within =
    let before = raised_most n caller claims cuts j (omega arith) in
    let l = length-raised n caller claims cuts in
    elim (cases_Bool (is_of caller (claim_at claims n))) [
      | inl own ↦ rw own (elim (cases_eq j n) [
        | inl here ↦
            let at = get_or-set_same (raised_to n caller claims cuts) n (get_or (raised_to n caller claims cuts) n 0 + 1) 0 (omega (arith, l, within)) in
            let was = raised_behind n caller claims cuts n (omega arith) in
            rw here (omega (arith, at, was))
        | inr there ↦
            let at = get_or-set_other (raised_to n caller claims cuts) n j (get_or (raised_to n caller claims cuts) n 0 + 1) 0 there in
            omega (arith, at, before)
      ])
      | inr other ↦ rw other before
    ]
