-- What is to be done for claims gets less.
use Rattle.std.proofs.Common.{◌≡◌, ◌≢◌, inl, inr, ℕ, ◌+◌, ◌-◌, ◌<◌, ◌≤◌, true, false, Option, Some, None, List, length, refl, sym, ap, ◌∙◌, subst, arith}
use Rattle.std.specs.Prelude.{◌&&◌, not, is_some}
use Rattle.std.proofs.lemmas.Bool.{cases_eq, both_ways}
use Rattle.std.proofs.lemmas.List.{get_or-set_same, get_or-set_other}
use Rattle.cod_claims.specs.declared.claim.Claim.{Claim}
use Rattle.cod_claims.specs.Claimed.{AreClaims, applied, claim_at, is_noted, noted, with_applied, with_note}
use Rattle.cod_claims.proofs.Claiming.{at_set}
use Rattle.cod_seg.specs.Seg.{Col, col_at}
use Rattle.cod_turns.specs.Progress.{total}
use Rattle.cod_advance.specs.Work.{is_to_apply, is_to_note, to_do_for}
use Rattle.cod_advance.proofs.Counting.{and_both, and_first, and_none, and_second, count_le, count_less, one_le, one_less, total_le, total_less}

-- no column comes up
abbrev pub NoneRises : (old new : List Col) → Type 0
NoneRises old new = (i : ℕ) → (col_at new i).is_up ≡ true → (col_at old i).is_up ≡ true

-- what is to be done for block j's claim d was to be done for c
pub record Eases (old new : List Col) (j : ℕ) (c d : Option Claim) : Type 0 where
  pub apply : is_to_apply (col_at new j) d ≡ true → is_to_apply (col_at old j) c ≡ true
  pub note : (i : ℕ) → is_to_note new d i ≡ true → is_to_note old c i ≡ true

module _ (old new : List Col) (falls : NoneRises old new) where
  apply_same : (j : ℕ) (c : Option Claim) → is_to_apply (col_at new j) c ≡ true → is_to_apply (col_at old j) c ≡ true
  apply_same j None is = is
  apply_same j (Some c) is =
      and_both (col_at old j).is_up (not c.applied) (falls j (and_first (col_at new j).is_up (not c.applied) is)) (and_second (col_at new j).is_up (not c.applied) is)

  note_same : (c : Option Claim) (i : ℕ) → is_to_note new c i ≡ true → is_to_note old c i ≡ true
  note_same None i is = is
  note_same (Some c) i is =
      let bare = not (is_noted i (Some c)) in
      and_both (col_at old i).is_up bare (falls i (and_first (col_at new i).is_up bare is)) (and_second (col_at new i).is_up bare is)

  pub same_eases : (j : ℕ) (c : Option Claim) → Eases old new j c c
  same_eases j c = record { apply = apply_same j c; note = note_same c }

-- ---- the sum

module _ (k n : ℕ) (old new : List Col) (claims later : List (Option Claim)) where
  less_for : (j : ℕ) → Eases old new j (claim_at claims j) (claim_at later j) → to_do_for k n new later j ≤ to_do_for k n old claims j
  less_for j eases =
      let a = one_le (is_to_apply (col_at old j) (claim_at claims j)) (is_to_apply (col_at new j) (claim_at later j)) eases.apply in
      let b = count_le (λ i. is_to_note old (claim_at claims j) (k + i)) (λ i. is_to_note new (claim_at later j) (k + i)) (n - k) (λ i lt. eases.note (k + i)) in
      omega (arith, a, b)

  pub to_do_eases : ((j : ℕ) → Eases old new j (claim_at claims j) (claim_at later j)) → total (to_do_for k n new later) 16 ≤ total (to_do_for k n old claims) 16
  to_do_eases each = total_le (to_do_for k n old claims) (to_do_for k n new later) 16 (λ j lt. less_for j (each j))

  pub to_do_applies : (j : ℕ) → j < 16 → ((j : ℕ) → Eases old new j (claim_at claims j) (claim_at later j)) → is_to_apply (col_at old j) (claim_at claims j) ≡ true
      → is_to_apply (col_at new j) (claim_at later j) ≡ false → total (to_do_for k n new later) 16 < total (to_do_for k n old claims) 16
  to_do_applies j low each was is =
      let a = one_less (is_to_apply (col_at old j) (claim_at claims j)) (is_to_apply (col_at new j) (claim_at later j)) was is in
      let b = count_le (λ i. is_to_note old (claim_at claims j) (k + i)) (λ i. is_to_note new (claim_at later j) (k + i)) (n - k) (λ i lt. (each j).note (k + i)) in
      total_less (to_do_for k n old claims) (to_do_for k n new later) j 16 low (λ j lt. less_for j (each j)) (omega (arith, a, b))

  pub to_do_notes : (j i : ℕ) → j < 16 → k ≤ i → i < n → ((j : ℕ) → Eases old new j (claim_at claims j) (claim_at later j))
      → is_to_note old (claim_at claims j) i ≡ true → is_to_note new (claim_at later j) i ≡ false → total (to_do_for k n new later) 16 < total (to_do_for k n old claims) 16
  to_do_notes j i low high below each was is =
      let at : k + (i - k) ≡ i = omega (arith, high) in
      let a = one_le (is_to_apply (col_at old j) (claim_at claims j)) (is_to_apply (col_at new j) (claim_at later j)) (each j).apply in
      let b = count_less (λ i. is_to_note old (claim_at claims j) (k + i)) (λ i. is_to_note new (claim_at later j) (k + i)) (i - k) (n - k) (omega (arith, high, below))
      (λ i lt. (each j).note (k + i)) (ap (is_to_note old (claim_at claims j)) at ∙ was) (ap (is_to_note new (claim_at later j)) at ∙ is) in
      total_less (to_do_for k n old claims) (to_do_for k n new later) j 16 low (λ j lt. less_for j (each j)) (omega (arith, a, b))

-- ---- a part that is applied

apply_done : (column : Col) (c : Option Claim) → is_to_apply column (applied c) ≡ false
apply_done column None = refl
apply_done column (Some c) = and_none column.is_up false refl

note_applied : (cols : List Col) (c : Option Claim) (i : ℕ) → is_to_note cols (applied c) i ≡ is_to_note cols c i
note_applied cols None i = refl
note_applied cols (Some c) i = refl

module _ (old new : List Col) (falls : NoneRises old new) (claims : List (Option Claim)) (are : AreClaims claims) (j : ℕ) (low : j < 16) where
  inside : j < length claims
  inside = let size = are.blocks in omega (arith, size, low)

  applied_at : claim_at (with_applied j claims) j ≡ applied (claim_at claims j)
  applied_at = (at_set claims j (applied (claim_at claims j)) j inside).1 refl

  applied_here : Eases old new j (claim_at claims j) (applied (claim_at claims j))
  applied_here = record {
    apply = λ is. absurd (both_ways (is_to_apply (col_at new j) (applied (claim_at claims j))) (apply_done (col_at new j) (claim_at claims j)) is);
    note = λ i is. (same_eases old new falls j (claim_at claims j)).note i (sym (note_applied new (claim_at claims j) i) ∙ is);
  }

  pub applied_eases : (m : ℕ) → Eases old new m (claim_at claims m) (claim_at (with_applied j claims) m)
  applied_eases m = elim (cases_eq m j) [
    | inl same ↦ rw same (subst (Eases old new j (claim_at claims j)) (sym applied_at) applied_here)
    | inr diff ↦ subst (Eases old new m (claim_at claims m)) (sym ((at_set claims j (applied (claim_at claims j)) m inside).0 diff)) (same_eases old new falls m (claim_at claims m))
  ]

  pub applied_done : is_to_apply (col_at new j) (claim_at (with_applied j claims) j) ≡ false
  applied_done = ap (is_to_apply (col_at new j)) applied_at ∙ apply_done (col_at new j) (claim_at claims j)

-- ---- a part that is noted

apply_noted : (column : Col) (i len : ℕ) (c : Option Claim) → is_to_apply column (noted i len c) ≡ is_to_apply column c
apply_noted column i len None = refl
apply_noted column i len (Some c) = refl

note_done : (cols : List Col) (i len : ℕ) (c : Claim) → i < length c.noted → is_to_note cols (noted i len (Some c)) i ≡ false
note_done cols i len c below =
    and_none (col_at cols i).is_up (not (is_noted i (noted i len (Some c)))) (ap (λ (o : Option ℕ). not (is_some o)) (get_or-set_same c.noted i (Some len) None below))

note_other : (cols : List Col) (i len m : ℕ) (c : Claim) → m ≢ i → is_to_note cols (noted i len (Some c)) m ≡ is_to_note cols (Some c) m
note_other cols i len m c diff = ap (λ (o : Option ℕ). (col_at cols m).is_up && not (is_some o)) (get_or-set_other c.noted i m (Some len) None diff)

module _ (old new : List Col) (falls : NoneRises old new) (claims : List (Option Claim)) (are : AreClaims claims) (j i len : ℕ) (c : Claim) (there : claim_at claims j ≡ Some c) (low : j < 16)
    (few : i < 16) where
  within : j < length claims
  within = let size = are.blocks in omega (arith, size, low)

  below : i < length c.noted
  below = let size = are.marks j c there in omega (arith, size, few)

  noted_at : claim_at (with_note j i len claims) j ≡ noted i len (Some c)
  noted_at = (at_set claims j (noted i len (claim_at claims j)) j within).1 refl ∙ ap (noted i len) there

  noted_here : Eases old new j (Some c) (noted i len (Some c))
  noted_here = record {
    apply = λ is. (same_eases old new falls j (Some c)).apply (sym (apply_noted (col_at new j) i len (Some c)) ∙ is);
    note = λ m is. elim (cases_eq m i) [
      | inl same ↦ absurd (both_ways (is_to_note new (noted i len (Some c)) i) (note_done new i len c below) (sym (ap (is_to_note new (noted i len (Some c))) same) ∙ is))
      | inr diff ↦ (same_eases old new falls j (Some c)).note m (sym (note_other new i len m c diff) ∙ is)
    ];
  }

  pub noted_eases : (m : ℕ) → Eases old new m (claim_at claims m) (claim_at (with_note j i len claims) m)
  noted_eases m = elim (cases_eq m j) [
    | inl same ↦ rw same (subst (λ (o : Option Claim). Eases old new j o (claim_at (with_note j i len claims) j)) (sym there) (subst (Eases old new j (Some c)) (sym noted_at) noted_here))
    | inr diff ↦ subst (Eases old new m (claim_at claims m)) (sym ((at_set claims j (noted i len (claim_at claims j)) m within).0 diff)) (same_eases old new falls m (claim_at claims m))
  ]

  pub noted_done : is_to_note new (claim_at (with_note j i len claims) j) i ≡ false
  noted_done = ap (λ (o : Option Claim). is_to_note new o i) noted_at ∙ note_done new i len c below
