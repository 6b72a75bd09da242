-- The bytes of the records in flight.
use Rattle.std.proofs.Common.{◌≡◌, ◌≢◌, ℕ, zero, suc, ◌+◌, ◌*◌, ◌<◌, ◌≤◌, ◌↔◌, List, [], ◌∷◌, length, get_or, cond, refl, sym, ap, ◌∙◌, subst, inl, inr, arith, Some, None, Option, Result, Ok}
use Rattle.std.proofs.Common.{Err, length-append, suc-mul}
use Rattle.std.proofs.lemmas.Bool.{cases_lt, cases_eq, lt-ltb, le-ltb, eq-eqb}
use Rattle.std.proofs.lemmas.List.{append-nil}
use Rattle.std.specs.List.{AllByRecursion, filter, flat_map}
use Rattle.std.specs.Result.{MatchResult, OnOk}
use Rattle.cod_types.specs.Limits.{floor, record_overhead, Shape}
use Rattle.cod_record.specs.declared.parts.Head.{Head}
use Rattle.cod_parity.specs.Log.{AreBelowEnd, IsDue, IsIn, IsIncluded, is_past, IsValue, Logged, logged_length, text}
use Rattle.cod_parity.specs.State.{IsKept, Means, State, with_record}
use Rattle.cod_parity.specs.Calls.{AppendsMerged, Merges}
use Rattle.cod_parity.specs.Held.{AreInFlight, Holds, is_pending, no_pieces, Piece, piece_length, pieces_length}
use Rattle.cod_parity.specs.Laws.{AreShort}
use Rattle.cod_parity.proofs.Committing.{tells_pending}
use Rattle.cod_parity.proofs.Holding.{all_past}
use Rattle.cod_parity.proofs.Lowest.{due_or_not, due_to, not_due}
use Rattle.cod_parity.proofs.Records.{text_some}
use Rattle.cod_parity.proofs.Spelled.{logged_most}
use Rattle.cod_parity.proofs.Unique.{one_meaning}

abbrev texts : List Logged → ℕ
texts ls = length (flat_map text ls)

-- the bytes of the first n blocks' records in flight
abbrev sums : (cuts : List ℕ) (ls : List Logged) (n : ℕ) → ℕ
sums cuts ls zero = 0
sums cuts ls (suc n) = sums cuts ls n + texts (filter (is_pending cuts n) ls)

sums_none : (cuts : List ℕ) (n : ℕ) → sums cuts [] n ≡ 0
sums_none cuts zero = refl
sums_none cuts (suc n) = let rest = sums_none cuts n in omega (arith, rest)

texts_more : (l : Logged) (ls : List Logged) → texts (l ∷ ls) ≡ length (text l) + texts ls
texts_more l ls = length-append (text l) (flat_map text ls)

pending_here : (cuts : List ℕ) (l : Logged) (ls : List Logged) (n : ℕ) → get_or cuts l.whole.block 0 < l.whole.number → l.whole.block ≡ n
    → texts (filter (is_pending cuts n) (l ∷ ls)) ≡ length (text l) + texts (filter (is_pending cuts n) ls)
pending_here cuts l ls n past same = rw (lt-ltb (get_or cuts l.whole.block 0) l.whole.number past, eq-eqb l.whole.block n same) (texts_more l (filter (is_pending cuts n) ls))

pending_else : (cuts : List ℕ) (l : Logged) (ls : List Logged) (n : ℕ) → (get_or cuts l.whole.block 0 < l.whole.number → l.whole.block ≢ n)
    → texts (filter (is_pending cuts n) (l ∷ ls)) ≡ texts (filter (is_pending cuts n) ls)
pending_else cuts l ls n other = elim (tells_pending cuts n l) [
  | inl here ↦ absurd (other here.1 here.2)
  | inr miss ↦ ap (λ b. texts (cond b (l ∷ filter (is_pending cuts n) ls) (filter (is_pending cuts n) ls))) miss.0
]

-- a record of a later block
sums_later : (cuts : List ℕ) (l : Logged) (ls : List Logged) (n : ℕ) → (get_or cuts l.whole.block 0 < l.whole.number → n ≤ l.whole.block) → sums cuts (l ∷ ls) n ≡ sums cuts ls n
sums_later cuts l ls zero late = refl
sums_later cuts l ls (suc n) late =
    let rest = sums_later cuts l ls n (λ past. let q = late past in omega (arith, q)) in
    let one = pending_else cuts l ls n (λ past same. let q = late past in absurd (omega (arith, q, same))) in
    omega (arith, rest, one)

-- a record past the cut
sums_here : (cuts : List ℕ) (l : Logged) (ls : List Logged) (n : ℕ) → get_or cuts l.whole.block 0 < l.whole.number → l.whole.block < n → sums cuts (l ∷ ls) n ≡ length (text l) + sums cuts ls n
sums_here cuts l ls zero past few = absurd (omega arith)
sums_here cuts l ls (suc n) past few = elim (cases_eq l.whole.block n) [
  | inl same ↦
      let rest = sums_later cuts l ls n (λ p. omega (arith, same)) in
      let one = pending_here cuts l ls n past same in
      omega (arith, rest, one)
  | inr other ↦
      let rest = sums_here cuts l ls n past (let q = other in omega (arith, few, other)) in
      let one = pending_else cuts l ls n (λ p. other) in
      omega (arith, rest, one)
]

-- the records past the cut are those of all blocks
past_sums : (g : Shape) (cuts : List ℕ) (ls : List Logged) → AllByRecursion (IsIn g) ls → texts (filter (is_past cuts) ls) ≡ sums cuts ls g.k
past_sums g cuts [] each = sym (sums_none cuts g.k)
past_sums g cuts (l ∷ ls) each =
    let rest = past_sums g cuts ls each.1 in
    elim (cases_lt (get_or cuts l.whole.block 0) l.whole.number) [
      | inl past ↦
          let here = sums_here cuts l ls g.k past each.0.block in
          let more = texts_more l (filter (is_past cuts) ls) in
          rw (lt-ltb (get_or cuts l.whole.block 0) l.whole.number past) (omega (arith, rest, here, more))
      | inr within ↦
          let same = sums_later cuts l ls g.k (λ p. absurd (omega (arith, p, within))) in
          rw (le-ltb (get_or cuts l.whole.block 0) l.whole.number within) (omega (arith, rest, same))
    ]

flight_length : (g : Shape) (j n : ℕ) (q : Option Piece) (ls : List Logged) → AreInFlight g j n q ls → texts ls ≡ piece_length q
flight_length g j n None ls none = rw none refl
flight_length g j n (Some q) ls lone = ap texts lone.all ∙ ap (λ (b : List ℕ). length b) (append-nil (text lone.one)) ∙ lone.piece.long

sums_length : (g : Shape) (cuts : List ℕ) (p : ℕ → Option Piece) (ls : List Logged) (n : ℕ) → ((j : ℕ) → AreInFlight g j (get_or cuts j 0 + 1) (p j) (filter (is_pending cuts j) ls))
    → sums cuts ls n ≡ pieces_length p n
sums_length g cuts p ls zero each = refl
sums_length g cuts p ls (suc n) each =
    let rest = sums_length g cuts p ls n each in
    let one = flight_length g n (get_or cuts n 0 + 1) (p n) (filter (is_pending cuts n) ls) (each n) in
    omega (arith, rest, one)

past_length : (s : State) (cuts : List ℕ) (v : ℕ → ℕ) (p : ℕ → Option Piece) (h : Holds s cuts v p) → texts (filter (is_past cuts) h.records) ≡ pieces_length p s.shape.k
past_length s cuts v p h = past_sums s.shape cuts h.records h.means.each ∙ sums_length s.shape cuts p h.records s.shape.k h.in_flight

-- the records past the cut have just the bytes that the pieces tell
pub held_length : (s : State) (cuts : List ℕ) (v : ℕ → ℕ) (p : ℕ → Option Piece) → Holds s cuts v p → (base : List ℕ) (ls : List Logged) → Means s base ls
    → length (flat_map text (filter (is_past cuts) ls)) ≡ pieces_length p s.shape.k
held_length s cuts v p h base ls means =
    let same = one_meaning s base h.base ls h.records means h.means in
    rw same.1 (past_length s cuts v p h)

-- what a merge leaves is in use
pub left_length : (s t : State) (cuts : List ℕ) (v : ℕ → ℕ) (p : ℕ → Option Piece) (h : Holds s cuts v p)
    → ((next : List ℕ) × Means t next (filter (is_past cuts) h.records) × IsValue cuts h.base h.records next) → t.used ≡ pieces_length p s.shape.k
left_length s t cuts v p h m = sym m.1.used ∙ past_length s cuts v p h

pub merged_length : (s t : State) (cuts : List ℕ) (v : ℕ → ℕ) (p : ℕ → Option Piece) → Holds s cuts v p → Merges cuts s t → t.used ≡ pieces_length p s.shape.k
merged_length s t cuts v p h m = left_length s t cuts v p h (m.means h.base h.records h.means)

pub idle_length : (cuts : List ℕ) (s : State) (v : ℕ → ℕ) (p : ℕ → Option Piece)
    → ((base : List ℕ) (records : List Logged) → Means s base records → (next : List ℕ) × Means s next (filter (is_past cuts) records) × IsValue cuts base records next)
    → Holds s cuts v p → s.used ≡ pieces_length p s.shape.k
idle_length cuts s v p means h = left_length s s cuts v p h (means h.base h.records h.means)

pub match_means : {E T : Type 0} (result : Result T E) (Q : E → Type 0) (cuts : List ℕ) (s t : State) → MatchResult result (λ x. Merges cuts s t) Q
    → (base : List ℕ) (records : List Logged) → Means s base records → OnOk result ((next : List ℕ) × Means t next (filter (is_past cuts) records) × IsValue cuts base records next)
match_means (Ok u) Q cuts s t m base records means = m.means base records means
match_means (Err e) Q cuts s t m base records means = tt

pub match_none_due : {E T : Type 0} (result : Result T E) (Q : E → Type 0) (cuts : List ℕ) (s t : State) → MatchResult result (λ x. Merges cuts s t) Q
    → AreBelowEnd cuts → OnOk result (IsDue t.lowest cuts → ⊥)
match_none_due (Ok u) Q cuts s t m small = m.none_due small
match_none_due (Err e) Q cuts s t m small = tt

pub under_length : {E T : Type 0} (result : Result T E) (cuts : List ℕ) (s t : State) (v : ℕ → ℕ) (p : ℕ → Option Piece)
    → ((base : List ℕ) (records : List Logged) → Means s base records → OnOk result ((next : List ℕ) × Means t next (filter (is_past cuts) records) × IsValue cuts base records next))
    → Holds s cuts v p → OnOk result (t.used ≡ pieces_length p s.shape.k)
under_length (Ok u) cuts s t v p means h = left_length s t cuts v p h (means h.base h.records h.means)
under_length (Err e) cuts s t v p means h = tt

used_with : (l : Logged) (s : State) → (with_record l s).used ≡ s.used + length (text l)
unfolding with_record
used_with l s = refl

pub appended_length : (s t : State) (cuts : List ℕ) (v : ℕ → ℕ) (p : ℕ → Option Piece) (l : Logged) → Holds s cuts v p → AppendsMerged cuts l s t
    → t.used ≡ pieces_length p s.shape.k + length (text l)
appended_length s t cuts v p l h a =
    ap (λ (u : State). u.used) a.appends.is ∙ used_with l a.middle ∙ ap (λ (n : ℕ). n + length (text l)) (merged_length s a.middle cuts v p h a.merges)

-- a record at or below the cut takes bytes of its own
included_more : (cuts : List ℕ) (ls : List Logged) → texts (filter (is_past cuts) ls) ≤ texts ls
included_more cuts [] = omega arith
included_more cuts (l ∷ ls) =
    let rest = included_more cuts ls in
    let all = texts_more l ls in
    elim (cases_lt (get_or cuts l.whole.block 0) l.whole.number) [
      | inl past ↦ let more = texts_more l (filter (is_past cuts) ls) in rw (lt-ltb (get_or cuts l.whole.block 0) l.whole.number past) (omega (arith, rest, all, more))
      | inr within ↦ rw (le-ltb (get_or cuts l.whole.block 0) l.whole.number within) (omega (arith, rest, all))
    ]

included_less : (cuts : List ℕ) (ls : List Logged) → IsIncluded cuts ls → texts (filter (is_past cuts) ls) < texts ls
included_less cuts [] none = absurd none
included_less cuts (l ∷ ls) (inl here) =
    let rest = included_more cuts ls in
    let all = texts_more l ls in
    rw (le-ltb (get_or cuts l.whole.block 0) l.whole.number here) (omega (arith, rest, all, text_some l))
included_less cuts (l ∷ ls) (inr there) =
    let rest = included_less cuts ls there in
    let all = texts_more l ls in
    elim (cases_lt (get_or cuts l.whole.block 0) l.whole.number) [
      | inl past ↦ let more = texts_more l (filter (is_past cuts) ls) in rw (lt-ltb (get_or cuts l.whole.block 0) l.whole.number past) (omega (arith, rest, all, more))
      | inr within ↦ rw (le-ltb (get_or cuts l.whole.block 0) l.whole.number within) (omega (arith, rest, all))
    ]

-- a merge is due exactly where there are more bytes in use than the pieces tell
pub due_by_length : (s : State) (cuts : List ℕ) (v : ℕ → ℕ) (p : ℕ → Option Piece) → IsKept s → AreBelowEnd cuts → Holds s cuts v p
    → (pieces_length p s.shape.k ≤ s.used) × (IsDue s.lowest cuts ↔ (pieces_length p s.shape.k < s.used))
due_by_length s cuts v p kept small h =
    let few : s.shape.k ≤ 16 = omega (arith, kept.within.data_among_columns, kept.within.most_columns) in
    let past = past_length s cuts v p h in
    let used = h.means.used in
    let more = included_more cuts h.records in (
      omega (arith, past, used, more),
      (
        (λ due. let some = included_less cuts h.records (due_to s.shape few cuts h.records h.means.each small (subst (λ (low : List ℕ). IsDue low cuts) h.means.noted due)) in omega (
          arith,
          past,
          used,
          some,
        )),
        (λ less. elim (due_or_not s.lowest cuts) [
          | inl due ↦ due
          | inr none ↦
              let all = all_past cuts h.records (not_due s cuts h.base h.records few h.means none) in
              let same : texts (filter (is_past cuts) h.records) ≡ texts h.records = ap texts all in
              absurd (omega (arith, past, used, same, less))
        ]),
      ),
    )

no_pieces_length : (n : ℕ) → pieces_length no_pieces n ≡ 0
no_pieces_length zero = refl
no_pieces_length (suc n) = let rest = no_pieces_length n in omega (arith, rest)

-- so where nothing is in flight, it is due exactly where there is a record
pub due_when_committed : (s : State) (cuts : List ℕ) (v : ℕ → ℕ) → IsKept s → AreBelowEnd cuts → Holds s cuts v no_pieces
    → (s.used ≡ 0 → IsDue s.lowest cuts → ⊥) × (0 < s.used → IsDue s.lowest cuts)
due_when_committed s cuts v kept small h =
    let due = due_by_length s cuts v no_pieces kept small h in
    let none = no_pieces_length s.shape.k in (
      (λ empty now. let less = due.1.0 now in omega (arith, less, empty)),
      (λ some. due.1.1 (omega (arith, some, none))),
    )

flight_most : (g : Shape) (j n : ℕ) (o : Option Piece) (q : Piece) (ls : List Logged) → AreInFlight g j n o ls → o ≡ Some q → q.length ≤ record_overhead g.version + length q.bytes
flight_most g j n None q ls none is = let wrong : ⊥ = cc in absurd wrong
flight_most g j n (Some r) q ls lone is = let same : r ≡ q = cc in subst (λ (x : Piece). x.length ≤ record_overhead g.version + length x.bytes) same lone.piece.most

-- a piece's record isn't longer than a record of its bytes may be
pub piece_most : (s : State) (cuts : List ℕ) (v : ℕ → ℕ) (p : ℕ → Option Piece) (j : ℕ) (q : Piece) → Holds s cuts v p → p j ≡ Some q
    → q.length ≤ record_overhead s.shape.version + length q.bytes
piece_most s cuts v p j q h is = flight_most s.shape j (get_or cuts j 0 + 1) (p j) q (filter (is_pending cuts j) h.records) (h.in_flight j) is

short_most : (g : Shape) (o : Option Piece) → ((q : Piece) → o ≡ Some q → (length q.bytes ≤ g.update) × (q.length ≤ record_overhead g.version + length q.bytes))
    → piece_length o ≤ record_overhead g.version + g.update
short_most g None short = omega arith
short_most g (Some q) short = let m = short q refl in omega (arith, m.0, m.1)

lengths_most : (g : Shape) (p : ℕ → Option Piece) (n : ℕ) → AreShort g p → pieces_length p n ≤ n * (record_overhead g.version + g.update)
lengths_most g p zero short = omega arith
lengths_most g p (suc n) short =
    let m : ℕ = record_overhead g.version + g.update in
    let rest : pieces_length p n ≤ n * m = lengths_most g p n short in
    let one : piece_length (p n) ≤ m = short_most g (p n) (short n) in
    let e : suc n * m ≡ n * m + m = suc-mul n m in
    omega (arith, rest, one, e)

pub pieces_fit : (g : Shape) (p : ℕ → Option Piece) → AreShort g p → pieces_length p g.k ≤ floor g
pieces_fit g p short = lengths_most g p g.k short

room_without : (g : Shape) (p : ℕ → Option Piece) (j n : ℕ) → AreShort g p → p j ≡ None → j < n
    → pieces_length p n + (record_overhead g.version + g.update) ≤ n * (record_overhead g.version + g.update)
room_without g p j zero short none few = absurd (omega arith)
room_without g p j (suc n) short none few =
    let m : ℕ = record_overhead g.version + g.update in
    let e : suc n * m ≡ n * m + m = suc-mul n m in
    elim (cases_eq j n) [
      | inl same ↦
          let rest : pieces_length p n ≤ n * m = lengths_most g p n short in
          let one : piece_length (p n) ≡ 0 = rw (← same, none) refl in
          omega (arith, rest, one, e)
      | inr other ↦
          let rest : pieces_length p n + m ≤ n * m = room_without g p j n short none (omega (arith, few, other)) in
          let one : piece_length (p n) ≤ m = short_most g (p n) (short n) in
          omega (arith, rest, one, e)
    ]

-- beside them one record more fits, of a block that has none
pub record_fits : (g : Shape) (p : ℕ → Option Piece) (version : ℕ) (h : Head) (bytes : List ℕ) → AreShort g p → p h.block ≡ None → h.block < g.k → length bytes ≤ g.update
    → (version ≡ 2 → g.version ≡ 2) → pieces_length p g.k + logged_length version h bytes ≤ floor g
record_fits g p version h bytes short none few small asks =
    let most = logged_most g version h bytes asks in
    let room = room_without g p h.block g.k short none few in
    omega (arith, most, room)
