-- How the calls of a parity column and a commit keep what it holds.
use Rattle.std.proofs.Common.{◌≡◌, ◌≢◌, ℕ, ◌+◌, ◌<◌, ◌≤◌, List, [], ◌∷◌, ◌++◌, length, get_or, refl, sym, ap, ◌∙◌, inl, inr, bit_xor, arith, Some, None, Option, Result, Ok, Err}
use Rattle.std.proofs.lemmas.Bool.{cases_lt, cases_eq, lt-ltb, le-ltb, eq-eqb, ne_eqb}
use Rattle.std.proofs.lemmas.List.{append-nil}
use Rattle.std.proofs.lemmas.List.Elements.{filter-append}
use Rattle.std.specs.Int.Bits.{xor_zero_l, xor_zero_r, xor_assoc}
use Rattle.std.specs.List.{filter}
use Rattle.std.specs.Result.{MatchResult, OnOk}
use Rattle.cod_types.specs.Limits.{Shape}
use Rattle.cod_region.specs.Device.{Reads}
use Rattle.cod_parity.specs.Log.{change, IsDue, is_past, IsIncluded, IsValue, Logged, share}
use Rattle.cod_parity.specs.State.{Means, State}
use Rattle.cod_parity.specs.Calls.{Appends, Merges}
use Rattle.cod_parity.proofs.Lowest.{not_due}
use Rattle.cod_parity.proofs.Meaning.{read_plain}
use Rattle.cod_parity.specs.Held.{AreInFlight, HasValue, Holds, is_pending, IsPiece, no_pieces, Piece, with_piece}
use Rattle.cod_parity.proofs.Records.{share_past}

-- what more records add
change-append : (cuts : List ℕ) (ls ms : List Logged) (x : ℕ) → change cuts (ls ++ ms) x ≡ bit_xor (change cuts ls x) (change cuts ms x)
change-append cuts [] ms x = sym (xor_zero_l (change cuts ms x))
change-append cuts (l ∷ ls) ms x = ap (bit_xor (share cuts l x)) (change-append cuts ls ms x) ∙ sym (xor_assoc (share cuts l x) (change cuts ls x) (change cuts ms x))

-- records past the cut add nothing
change-past : (cuts : List ℕ) (ls : List Logged) (x : ℕ) → change cuts (filter (is_past cuts) ls) x ≡ 0
change-past cuts [] x = refl
change-past cuts (l ∷ ls) x = elim (cases_lt (get_or cuts l.whole.block 0) l.whole.number) [
  | inl past ↦ rw (lt-ltb _ _ past, share_past cuts l x past, change-past cuts ls x) refl
  | inr within ↦ rw (le-ltb _ _ within) (change-past cuts ls x)
]

-- the records in flight of a block are past the cut
pending-past : (cuts : List ℕ) (j : ℕ) (ls : List Logged) → filter (is_pending cuts j) (filter (is_past cuts) ls) ≡ filter (is_pending cuts j) ls
pending-past cuts j [] = refl
pending-past cuts j (l ∷ ls) = elim (cases_lt (get_or cuts l.whole.block 0) l.whole.number) [
  | inl past ↦ rw (lt-ltb _ _ past, lt-ltb _ _ past, pending-past cuts j ls) refl
  | inr within ↦ rw (le-ltb _ _ within) (pending-past cuts j ls)
]

-- where no record is at or below the cut, all are past it
pub all_past : (cuts : List ℕ) (ls : List Logged) → (IsIncluded cuts ls → ⊥) → filter (is_past cuts) ls ≡ ls
all_past cuts [] none = refl
all_past cuts (l ∷ ls) none = elim (cases_lt (get_or cuts l.whole.block 0) l.whole.number) [
  | inl past ↦ rw (lt-ltb _ _ past, all_past cuts ls (λ i. none (inr i))) refl
  | inr within ↦ absurd (none (inl within))
]

-- and they add nothing
pub none_included : (cuts : List ℕ) (base : List ℕ) (ls : List Logged) → (IsIncluded cuts ls → ⊥) → IsValue cuts base ls base
none_included cuts base ls none = record {
  size = refl;
  each = λ x.
      let e : change cuts ls x ≡ 0 = ap (λ (ms : List Logged). change cuts ms x) (sym (all_past cuts ls none)) ∙ change-past cuts ls x in
      rw (e, xor_zero_r (get_or base x 0)) refl;
}

-- what a merge leaves
pub merge_holds : (cuts : List ℕ) (s t : State) (v : ℕ → ℕ) (p : ℕ → Option Piece) → t.shape ≡ s.shape → (h : Holds s cuts v p)
    → ((next : List ℕ) × Means t next (filter (is_past cuts) h.records) × IsValue cuts h.base h.records next) → Holds t cuts v p
merge_holds cuts s t v p shape h m =
    let block : t.shape.block ≡ s.shape.block = ap (λ (g : Shape). g.block) shape in
    record {
      base = m.0;
      records = filter (is_past cuts) h.records;
      means = m.1;
      value_is = λ x within. rw (change-past cuts h.records x, xor_zero_r (get_or m.0 x 0), m.2.each x) (h.value_is x (omega (arith, block, within)));
      in_flight = λ j. rw (pending-past cuts j h.records, shape) (h.in_flight j);
    }

pub under_merge : {E T : Type 0} (result : Result T E) (cuts : List ℕ) (s t : State) (v : ℕ → ℕ) (p : ℕ → Option Piece)
    → OnOk result (t.shape ≡ s.shape)
    → ((base : List ℕ) (records : List Logged) → Means s base records → OnOk result ((next : List ℕ) × Means t next (filter (is_past cuts) records) × IsValue cuts base records next))
    → Holds s cuts v p → OnOk result (Holds t cuts v p)
under_merge (Ok u) cuts s t v p shape means h = merge_holds cuts s t v p shape h (means h.base h.records h.means)
under_merge (Err e) cuts s t v p shape means h = tt

-- what read_from ensures
pub read_value : {E T : Type 0} (result : Result T E) (cuts : List ℕ) (s : State) (v : ℕ → ℕ) (into : List ℕ) (off n : ℕ)
    → off + n ≤ s.shape.block
    → ((base : List ℕ) (records : List Logged) → Means s base records → OnOk result ((x : ℕ) → x < n → get_or into x 0 ≡ bit_xor (get_or base (off + x) 0) (change cuts records (off + x))))
    → HasValue s cuts v
    → OnOk result ((x : ℕ) → x < n → get_or into x 0 ≡ v (off + x))
read_value (Ok u) cuts s v into off n inside value h = λ x within. value h.holds.base h.holds.records h.holds.means x within ∙ h.holds.value_is (off + x) (omega (arith, inside, within))
read_value (Err e) cuts s v into off n inside value h = tt

-- bytes of the block as they are held, where there is no record
pub lent_value : (cuts : List ℕ) (s : State) (v : ℕ → ℕ) (bytes : List ℕ) (off n : ℕ) → length bytes ≡ n → off + n ≤ s.shape.block → s.used ≡ 0
    → Reads s.device.content off bytes → HasValue s cuts v → (x : ℕ) → x < n → get_or bytes x 0 ≡ v (off + x)
lent_value cuts s v bytes off n size inside none read h x within =
    read_plain cuts s h.holds.base h.holds.records bytes off h.holds.means none (omega (arith, size, inside)) read x (omega (arith, size, within))
    ∙ h.holds.value_is (off + x) (omega (arith, inside, within))

-- a column of no record holds its base
pub empty_holds : (cuts base : List ℕ) (s : State) → Means s base [] → Holds s cuts (λ x. get_or base x 0) no_pieces
empty_holds cuts base s means = record { base = base; records = []; means = means; value_is = λ x within. xor_zero_r (get_or base x 0); in_flight = λ j. refl }

-- where no number is due, a merge that does nothing is one
pub idle_means : (s : State) (cuts base : List ℕ) (ls : List Logged) → s.shape.k ≤ 16 → (IsDue s.lowest cuts → ⊥) → Means s base ls
    → (next : List ℕ) × Means s next (filter (is_past cuts) ls) × IsValue cuts base ls next
idle_means s cuts base ls few none means =
    let nothing = not_due s cuts base ls few means none in
    (base, rw (all_past cuts ls nothing) means, none_included cuts base ls nothing)

pub merges_shape : (cuts : List ℕ) (s t : State) → Merges cuts s t → t.shape ≡ s.shape
merges_shape cuts s t m = ap (λ (u : State). u.shape) m.same

pub merges_hold : (cuts : List ℕ) (s t : State) (v : ℕ → ℕ) (p : ℕ → Option Piece) → Merges cuts s t → Holds s cuts v p → Holds t cuts v p
merges_hold cuts s t v p m h = merge_holds cuts s t v p (merges_shape cuts s t m) h (m.means h.base h.records h.means)

pub match_holds : {E T : Type 0} (result : Result T E) (Q : E → Type 0) (cuts : List ℕ) (s t : State) (v : ℕ → ℕ) (p : ℕ → Option Piece)
    → MatchResult result (λ x. Merges cuts s t) Q → Holds s cuts v p → OnOk result (Holds t cuts v p)
match_holds (Ok u) Q cuts s t v p m h = merges_hold cuts s t v p m h
match_holds (Err e) Q cuts s t v p m h = tt

in_flight : (cuts : List ℕ) (l : Logged) (j : ℕ) → get_or cuts l.whole.block 0 < l.whole.number → j ≡ l.whole.block → filter (is_pending cuts j) (l ∷ []) ≡ l ∷ []
in_flight cuts l j past same = rw (lt-ltb (get_or cuts l.whole.block 0) l.whole.number past, eq-eqb l.whole.block j (sym same)) refl

not_in_flight : (cuts : List ℕ) (l : Logged) (j : ℕ) → j ≢ l.whole.block → filter (is_pending cuts j) (l ∷ []) ≡ []
not_in_flight cuts l j other =
    elim (cases_lt (get_or cuts l.whole.block 0) l.whole.number) [
      | inl past ↦ rw (lt-ltb _ _ past, ne_eqb l.whole.block j (λ e. other (sym e))) refl
      | inr within ↦ rw (le-ltb _ _ within) refl
    ]

-- with one more record, the next one of its block
pending-with : (g : Shape) (cuts : List ℕ) (l : Logged) (b j : ℕ) (ls : List Logged) (p : ℕ → Option Piece) (q : Piece)
    → IsPiece g b (get_or cuts b 0 + 1) q l → p b ≡ None
    → ((i : ℕ) → AreInFlight g i (get_or cuts i 0 + 1) (p i) (filter (is_pending cuts i) ls))
    → AreInFlight g j (get_or cuts j 0 + 1) (with_piece p b q j) (filter (is_pending cuts j) (ls ++ l ∷ []))
pending-with g cuts l b j ls p q piece none each =
    let past : get_or cuts l.whole.block 0 < l.whole.number = let e = piece.in_block in rw e (omega (arith, piece.numbered)) in
    rw (filter-append (is_pending cuts j) ls (l ∷ [])) (elim (cases_eq j b) [
      | inl same ↦
          let before : filter (is_pending cuts j) ls ≡ [] = rw same (let h = each b in rw none at h) in
          let now : filter (is_pending cuts j) (l ∷ []) ≡ l ∷ [] = in_flight cuts l j past (same ∙ sym piece.in_block) in
          let there : with_piece p b q j ≡ Some q = rw (eq-eqb j b same) refl in
          rw (there, before, now, same) (record { one = l; all = refl; piece = piece })
      | inr other ↦
          let now : filter (is_pending cuts j) (l ∷ []) ≡ [] = not_in_flight cuts l j (λ e. other (e ∙ piece.in_block)) in
          let there : with_piece p b q j ≡ p j = rw (ne_eqb j b other) refl in
          rw (there, now, append-nil (filter (is_pending cuts j) ls)) (each j)
    ])

pub appends_hold : (cuts : List ℕ) (l : Logged) (b : ℕ) (q : Piece) (s t : State) (v : ℕ → ℕ) (p : ℕ → Option Piece)
    → Appends l s t → t.shape ≡ s.shape → IsPiece s.shape b (get_or cuts b 0 + 1) q l → p b ≡ None → Holds s cuts v p
    → Holds t cuts v (with_piece p b q)
appends_hold cuts l b q s t v p a shape piece none h =
    let block : t.shape.block ≡ s.shape.block = ap (λ (g : Shape). g.block) shape in
    let past : get_or cuts l.whole.block 0 < l.whole.number = let e = piece.in_block in rw e (omega (arith, piece.numbered)) in
    record {
      base = h.base;
      records = h.records ++ l ∷ [];
      means = a.means h.base h.records h.means;
      value_is = λ x within. rw (change-append cuts h.records (l ∷ []) x, share_past cuts l x past, xor_zero_r 0, xor_zero_r (change cuts h.records x)) (h.value_is x (omega (arith, block, within)));
      in_flight = λ j. rw shape (pending-with s.shape cuts l b j h.records p q piece none h.in_flight);
    }
