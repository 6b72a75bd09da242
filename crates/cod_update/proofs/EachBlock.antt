-- A target is corrected by one claim after another.
use Rattle.std.proofs.Common.{◌≡◌, ℕ, suc, ◌+◌, ◌<◌, ◌≤◌, List, get_or, Bool, true, false, cond, Option, Some, None, refl, sym, ap, ◌∙◌, subst, inl, inr, bit_xor, arith}
use Rattle.std.specs.Prelude.{◌&&◌, is_some, nat_lt}
use Rattle.std.specs.Int.Bits.{xor_assoc, xor_zero_l, xor_zero_r}
use Rattle.std.proofs.lemmas.Bool.{cases_eq, eq-eqb, ltb-false, ltb-true, ne_eqb, le-ltb, lt-ltb}
use Rattle.cod_types.specs.Faults.{grown}
use Rattle.cod_types.proofs.Faults.{grown-grown}
use Rattle.cod_types.specs.Overwritten.{byte_at, byte_of}
use Rattle.cod_region.specs.Device.{Device}
use Rattle.cod_field.specs.Field.{product}
use Rattle.cod_field.proofs.Laws.{product_zero}
use Rattle.cod_code.specs.Columns.{gamma}
use Rattle.cod_code.proofs.Encoding.{gamma_lt}
use Rattle.cod_claims.specs.declared.claim.Claim.{Claim}
use Rattle.cod_claims.specs.Changes.{new_in}
use Rattle.cod_claims.specs.Claimed.{claim_at, delta_of, is_of}
use Rattle.cod_seg.specs.Calls.{costs, is_touched, touched_below}
use Rattle.cod_seg.specs.Seg.{Target}
use Rattle.cod_seg.specs.Steps.{added_to, KeepsTarget, own_byte}
use Rattle.cod_segment.specs.Events.{Counts}
use Rattle.cod_update.specs.Correcting.{both_on, change_by, changed_by, Changes, HasFailed, IsCorrectedBy, IsCorrectedTo, IsWhole, meets}

-- ---- what stays

filled_same : (s t : Target) → KeepsTarget s t → t.filled ≡ s.filled
filled_same s t keeps = ap (λ (v : Target). v.filled) keeps.same

keeps_then : (s t u : Target) → KeepsTarget s t → KeepsTarget t u → KeepsTarget s u
keeps_then s t u first second = record {
  tells = second.tells ∙ first.tells;
  full = second.full;
  size = second.size ∙ first.size;
  faults = second.faults ∙ first.faults;
  never_fails = second.never_fails ∙ first.never_fails;
  same = second.same ∙ ap (λ (v : Target). record v { device = u.device }) first.same;
}

pub whole_still : (block : ℕ) (s t : Target) → IsWhole block s → KeepsTarget s t → IsWhole block t
whole_still block s t whole keeps =
    let filled = filled_same s t keeps in
    let within = whole.within in
    let least = whole.size in
    let size = keeps.size in
    record { full = keeps.full; within = omega (arith, filled, within); size = omega (arith, least, size) }

pub failed_later : (s t u : Target) → KeepsTarget s t → HasFailed t u → HasFailed s u
failed_later s t u keeps failed = record {
  room = failed.room ∙ ap (λ (v : Target). v.room) keeps.same;
  counted = failed.counted;
  never_fails = failed.never_fails ∙ keeps.never_fails;
  frail = λ never. failed.frail (keeps.never_fails ∙ never);
}

-- ---- what is added

none_yet : (k col caller x : ℕ) (claims : List (Option Claim)) → changed_by 0 k col caller claims x ≡ 0
none_yet k col caller x claims = by (nat_lt col k) where
  by : (b : Bool) → ◌≡◌ {A = ℕ} (cond b (cond (nat_lt col 0) (own_byte caller claims x col) 0) (added_to 0 k col caller claims x)) 0
  by true = rw (le-ltb col 0 (omega arith)) refl
  by false = refl

-- a data column has nothing of the blocks before its own
pub none_before : (m k col caller x : ℕ) (claims : List (Option Claim)) → col < k → m ≤ col → changed_by m k col caller claims x ≡ 0
none_before m k col caller x claims low before = rw (lt-ltb col k low, le-ltb col m before) refl

-- of a data column nothing changes by another block
same_before : (m k col caller x : ℕ) (claims : List (Option Claim)) → col < k → (col ≡ m → ⊥) → changed_by (suc m) k col caller claims x ≡ changed_by m k col caller claims x
same_before m k col caller x claims low other = rw (lt-ltb col k low) (ap (λ (b : Bool). cond b (own_byte caller claims x col) 0) (by (nat_lt col m) refl)) where
  by : (b : Bool) → nat_lt col m ≡ b → nat_lt col (suc m) ≡ nat_lt col m
  by true e = (let less = ltb-true col m e in lt-ltb col (suc m) (omega (arith, less)) ∙ sym e)
  by false e = (let more = ltb-false col m e in le-ltb col (suc m) (omega (arith, more, other)) ∙ sym e)

own_here : (caller x m : ℕ) (claims : List (Option Claim)) (c : Claim) → is_of caller (claim_at claims m) ≡ true → claim_at claims m ≡ Some c
    → own_byte caller claims x m ≡ byte_of (delta_of (Some c)) x
own_here caller x m claims c mine there = rw mine (ap (λ (o : Option Claim). byte_of (delta_of o) x) there)

-- a claim of the caller's adds its change
adds_next : (m k col caller x : ℕ) (claims : List (Option Claim)) (c : Claim) → is_of caller (claim_at claims m) ≡ true → claim_at claims m ≡ Some c
    → bit_xor (changed_by m k col caller claims x) (change_by k col m (byte_of (delta_of (Some c)) x)) ≡ changed_by (suc m) k col caller claims x
adds_next m k col caller x claims c mine there = by (nat_lt col k) refl where
  byte : ℕ
  byte = byte_of (delta_of (Some c)) x

  parity : bit_xor (added_to m k col caller claims x) (product (gamma k col m) byte) ≡ added_to (suc m) k col caller claims x
  parity = ap (λ (z : ℕ). bit_xor (added_to m k col caller claims x) (product (gamma k col m) z)) (sym (own_here caller x m claims c mine there))

  here : col < k → m ≡ col → bit_xor (changed_by m k col caller claims x) (change_by k col m byte) ≡ changed_by (suc m) k col caller claims x
  here low same =
      let zero : changed_by m k col caller claims x ≡ 0 = none_before m k col caller x claims low (omega (arith, same)) in
      let change : change_by k col m byte ≡ byte = rw (lt-ltb col k low, eq-eqb m col same) refl in
      let after : changed_by (suc m) k col caller claims x ≡ own_byte caller claims x col = rw (lt-ltb col k low, lt-ltb col (suc m) (omega (arith, same))) refl in
      rw (zero, change) (xor_zero_l byte ∙ sym (own_here caller x m claims c mine there) ∙ ap (own_byte caller claims x) same ∙ sym after)

  elsewhere : col < k → (m ≡ col → ⊥) → bit_xor (changed_by m k col caller claims x) (change_by k col m byte) ≡ changed_by (suc m) k col caller claims x
  elsewhere low other =
      let change : change_by k col m byte ≡ 0 = rw (lt-ltb col k low, ne_eqb m col other) refl in
      ap (bit_xor (changed_by m k col caller claims x)) change ∙ xor_zero_r (changed_by m k col caller claims x) ∙ sym (same_before m k col caller x claims low (λ e. other (sym e)))

  by : (b : Bool) → nat_lt col k ≡ b → bit_xor (changed_by m k col caller claims x) (change_by k col m byte) ≡ changed_by (suc m) k col caller claims x
  by true e = elim (cases_eq m col) [
    | inl same ↦ here (ltb-true col k e) same
    | inr other ↦ elsewhere (ltb-true col k e) other
  ]
  by false e = rw e parity

-- and another's none
adds_none : (m k col caller x : ℕ) (claims : List (Option Claim)) → is_of caller (claim_at claims m) ≡ false
    → changed_by (suc m) k col caller claims x ≡ changed_by m k col caller claims x
adds_none m k col caller x claims other = by (nat_lt col k) refl where
  zero_byte : own_byte caller claims x m ≡ 0
  zero_byte = rw other refl

  parity : added_to (suc m) k col caller claims x ≡ added_to m k col caller claims x
  parity =
      ap (λ (z : ℕ). bit_xor (added_to m k col caller claims x) (product (gamma k col m) z)) zero_byte
      ∙ ap (bit_xor (added_to m k col caller claims x)) (product_zero (gamma k col m) (gamma_lt k col m)) ∙ xor_zero_r (added_to m k col caller claims x)

  here : col < k → col ≡ m → changed_by (suc m) k col caller claims x ≡ changed_by m k col caller claims x
  here low same =
      let after : changed_by (suc m) k col caller claims x ≡ own_byte caller claims x col = rw (lt-ltb col k low, lt-ltb col (suc m) (omega (arith, same))) refl in
      after ∙ ap (own_byte caller claims x) same ∙ zero_byte ∙ sym (none_before m k col caller x claims low (omega (arith, same)))

  by : (b : Bool) → nat_lt col k ≡ b → changed_by (suc m) k col caller claims x ≡ changed_by m k col caller claims x
  by true e = elim (cases_eq col m) [
    | inl same ↦ here (ltb-true col k e) same
    | inr there ↦ same_before m k col caller x claims (ltb-true col k e) there
  ]
  by false e = rw e parity

-- ---- what it costs

counts_then : (k col n m : ℕ) (s t u : Device) → Counts (both_on k col n) s t → Counts (both_on k col m) t u → Counts (both_on k col (n + m)) s u
counts_then k col n m s t u = by (nat_lt col k) where
  more : (a b c : ℕ) → b ≡ grown n a → c ≡ grown m b → c ≡ grown (n + m) a
  more a b c first second =
      let swap : m + n ≡ n + m = omega arith in
      second ∙ ap (grown m) first ∙ grown-grown m n a ∙ ap (λ (z : ℕ). grown z a) swap

  by : (b : Bool) → Counts (cond b (costs 0 n) (costs n n)) s t → Counts (cond b (costs 0 m) (costs m m)) t u → Counts (cond b (costs 0 (n + m)) (costs (n + m) (n + m))) s u
  by true first second = (second.0 ∙ first.0, more s.writes t.writes u.writes first.1 second.1)
  by false first second = (more s.reads t.reads u.reads first.0 second.0, more s.writes t.writes u.writes first.1 second.1)

touched_next : (m k col filled caller : ℕ) (claims : List (Option Claim)) (c : Claim) → is_of caller (claim_at claims m) ≡ true → claim_at claims m ≡ Some c
    → touched_below m k col filled caller claims + cond (meets k col filled m c) 1 0 ≡ touched_below (suc m) k col filled caller claims
touched_next m k col filled caller claims c mine there =
    let own : is_of caller (Some c) ≡ true = sym (ap (is_of caller) there) ∙ mine in
    let same : is_touched k col filled caller m (claim_at claims m) ≡ meets k col filled m c = ap (is_touched k col filled caller m) there ∙ ap (λ (b : Bool). b && meets k col filled m c) own in
    ap (λ (b : Bool). touched_below m k col filled caller claims + cond b 1 0) (sym same)

touched_none : (m k col filled caller : ℕ) (claims : List (Option Claim)) → is_of caller (claim_at claims m) ≡ false
    → touched_below (suc m) k col filled caller claims ≡ touched_below m k col filled caller claims
touched_none m k col filled caller claims other =
    let none : is_touched k col filled caller m (claim_at claims m) ≡ false = by (claim_at claims m) other in
    let n = touched_below m k col filled caller claims in
    ap (λ (b : Bool). n + cond b 1 0) none ∙ plus_none n where
      by : (o : Option Claim) → is_of caller o ≡ false → is_touched k col filled caller m o ≡ false
      by None e = refl
      by (Some c) e = ap (λ (b : Bool). b && meets k col filled m c) e

      plus_none : (n : ℕ) → n + 0 ≡ n
      plus_none n = omega arith

-- ---- from block to block

some_same : (a b : List ℕ) → ◌≡◌ {A = Option (List ℕ)} (Some a) (Some b) → a ≡ b
some_same a b e = cc

pub corrected_none : (k col caller : ℕ) (claims : List (Option Claim)) (block : ℕ) (t : Target) → IsWhole block t → IsCorrectedTo 0 k col caller claims t t
corrected_none k col caller claims block t whole = record {
  bytes = λ before after old new x inside.
      ap (λ (l : List ℕ). get_or l x 0) (some_same after before (sym new ∙ old))
      ∙ sym (ap (bit_xor (get_or before x 0)) (none_yet k col caller x claims) ∙ xor_zero_r (get_or before x 0));
  keeps = record { tells = refl; full = whole.full; size = refl; faults = refl; never_fails = refl; same = refl };
  counts = by (nat_lt col k);
} where
  by : (b : Bool) → Counts (cond b (costs 0 0) (costs 0 0)) t.device t.device
  by true = (refl, refl)
  by false = (refl, refl)

-- what a target tells that was corrected it told before
told_before : (s t : Target) → KeepsTarget s t → (after : List ℕ) → t.device.content ≡ Some after → (before : List ℕ) × (s.device.content ≡ Some before)
told_before s t keeps after new = by s.device.content refl where
  by : (o : Option (List ℕ)) → s.device.content ≡ o → (before : List ℕ) × (s.device.content ≡ Some before)
  by (Some before) e = (before, e)
  by None e = absurd (let some : false ≡ true = sym (ap is_some e) ∙ sym keeps.tells ∙ ap is_some new in let no_way : ⊥ = cc in no_way)

corrected_more : (m k col caller : ℕ) (claims : List (Option Claim)) (c : Claim) (s t u : Target) → is_of caller (claim_at claims m) ≡ true → claim_at claims m ≡ Some c
    → IsCorrectedTo m k col caller claims s t → IsCorrectedBy k col m c t u → IsCorrectedTo (suc m) k col caller claims s u
corrected_more m k col caller claims c s t u mine there first next =
    let filled = filled_same s t first.keeps in
    record {
      bytes = λ before after old new x inside.
          let middle = told_before t u next.keeps after new in
          let byte = byte_of (delta_of (Some c)) x in
          next.bytes middle.0 after middle.1 new x (omega (arith, filled, inside))
          ∙ ap (λ (z : ℕ). bit_xor z (change_by k col m byte)) (first.bytes before middle.0 old middle.1 x inside)
          ∙ xor_assoc (get_or before x 0) (changed_by m k col caller claims x) (change_by k col m byte)
          ∙ ap (bit_xor (get_or before x 0)) (adds_next m k col caller x claims c mine there);
      keeps = keeps_then s t u first.keeps next.keeps;
      counts = subst (λ (n : ℕ). Counts (both_on k col n) s.device u.device) (touched_next m k col s.filled caller claims c mine there)
          (counts_then k col (touched_below m k col s.filled caller claims) (cond (meets k col s.filled m c) 1 0) s.device t.device u.device first.counts
          (subst (λ (f : ℕ). Counts (both_on k col (cond (meets k col f m c) 1 0)) t.device u.device) filled next.counts));
    }

corrected_skip : (m k col caller : ℕ) (claims : List (Option Claim)) (s t : Target) → is_of caller (claim_at claims m) ≡ false
    → IsCorrectedTo m k col caller claims s t → IsCorrectedTo (suc m) k col caller claims s t
corrected_skip m k col caller claims s t other first = record {
  bytes = λ before after old new x inside. first.bytes before after old new x inside ∙ ap (bit_xor (get_or before x 0)) (sym (adds_none m k col caller x claims other));
  keeps = first.keeps;
  counts = subst (λ (n : ℕ). Counts (both_on k col n) s.device t.device) (sym (touched_none m k col s.filled caller claims other)) first.counts;
}

-- up to its own block a data column has the bytes that it had
pub changes_still : (m k col caller : ℕ) (claims : List (Option Claim)) (c : Claim) (s t : Target) → col < k → m ≤ col → IsCorrectedTo m k col caller claims s t → Changes c s → Changes c t
changes_still m k col caller claims c s t low before first changes held told x inside =
    let was = told_before s t first.keeps held told in
    let filled = filled_same s t first.keeps in
    let small : x < s.filled = omega (arith, filled, inside) in
    let same : get_or held x 0 ≡ get_or was.0 x 0 = first.bytes was.0 held was.1 told x small
    ∙ ap (bit_xor (get_or was.0 x 0)) (none_before m k col caller x claims low before) ∙ xor_zero_r (get_or was.0 x 0) in
    subst (λ (b : ℕ). byte_at x b c.delta.part.off (new_in c.delta) ≡ bit_xor b (byte_at x 0 c.delta.part.off c.delta.bytes)) (sym same) (changes was.0 was.1 x small)

-- as a loop counts
counted : (m k col caller : ℕ) (claims : List (Option Claim)) (s u : Target) → IsCorrectedTo (suc m) k col caller claims s u → IsCorrectedTo (m + 1) k col caller claims s u
counted m k col caller claims s u is = let at : suc m ≡ m + 1 = omega arith in subst (λ (n : ℕ). IsCorrectedTo n k col caller claims s u) at is

pub corrected_on : (m k col caller : ℕ) (claims : List (Option Claim)) (c : Claim) (s t u : Target) → is_of caller (claim_at claims m) ≡ true → claim_at claims m ≡ Some c
    → IsCorrectedTo m k col caller claims s t → IsCorrectedBy k col m c t u → IsCorrectedTo (m + 1) k col caller claims s u
corrected_on m k col caller claims c s t u mine there first next = counted m k col caller claims s u (corrected_more m k col caller claims c s t u mine there first next)

pub corrected_past : (m k col caller : ℕ) (claims : List (Option Claim)) (s t : Target) → is_of caller (claim_at claims m) ≡ false
    → IsCorrectedTo m k col caller claims s t → IsCorrectedTo (m + 1) k col caller claims s t
corrected_past m k col caller claims s t other first = counted m k col caller claims s t (corrected_skip m k col caller claims s t other first)
