-- What the choice says of calls that take blocks: updates that begin, and puts.
use Rattle.std.proofs.Common.{◌≡◌, ℕ, ◌<◌, ◌≤◌, length, Bool, true, false, cond, find, Option, Some, None, refl, sym, ap, subst, arith, inl, inr}
use Rattle.std.specs.Prelude.{◌==◌, not, is_some, option_and_then}
use Rattle.std.specs.List.{range_with_len}
use Rattle.std.proofs.lemmas.Bool.{cases_lt, lt-ltb}
use Rattle.std.proofs.lemmas.List.{get_or_past}
use Rattle.cod_types.specs.declared.call.Call.{Call as Asked}
use Rattle.cod_types.specs.declared.call.Call.TheVariants.{Read, Write, Swap, Put, Merge, Tick, Rebuild, Upgrade, Drain}
use Rattle.cod_chronicle.specs.Said.{downs}
use Rattle.cod_claims.specs.declared.claim.Claim.{Claim}
use Rattle.cod_claims.specs.declared.claims.Held.{Held}
use Rattle.cod_claims.specs.Claimed.{claim_at, HasNone, holder, is_of, is_others}
use Rattle.cod_claims.proofs.Finding.{found_passes, none_found, second_true}
use Rattle.cod_seg.specs.Seg.{Seg}
use Rattle.cod_seg.specs.Sound.{is_update, length_on, Sound}
use Rattle.cod_seg.specs.Next.{block_holder, has_claim, is_taken_from, live_on, next_part, next_piece, next_served, next_update, rebuild_holder, unless_held, wants}
use Rattle.cod_seg.specs.Choices.{BeginWhereFree, IsToBegin, IsToPut, PutWhereVacant}
use Rattle.cod_seg.specs.declared.next.Step.{Step}
use Rattle.cod_seg.specs.declared.next.Step.TheVariants as step
use Rattle.cod_seg.proofs.Choosing.{IsBringing, IsPart, IsServed, next_is, none_is, piece_is, second_false, served}
use Rattle.cod_seg.proofs.Keeping.{has_none, of_each}
use Rattle.cod_seg.proofs.Serving.{not_held}

-- a step that takes blocks
abbrev IsTaking : Step → Type 0
IsTaking step.Begin = Unit {0}
IsTaking step.Put = Unit {0}
IsTaking _ = ⊥

part_no_taking : (x : Step) → IsPart x → IsTaking x → ⊥
part_no_taking (step.Data j) part taking = taking
part_no_taking (step.Parity j i) part taking = taking
part_no_taking step.Commit part taking = taking
part_no_taking x part taking = part

bring_no_taking : (x : Step) → IsBringing x → IsTaking x → ⊥
bring_no_taking step.RebuildStart bring taking = taking
bring_no_taking step.RebuildPiece bring taking = taking
bring_no_taking step.RebuildEnd bring taking = taking
bring_no_taking x bring taking = bring

-- what it says of a call
abbrev IsTakingOf : Seg → (caller : ℕ) → Asked → Step → Type 0
IsTakingOf s caller (Write off bytes) x = (has_claim caller s.claims ≡ false) × (block_holder s.site.shape (Write off bytes) caller s.claims ≡ None) × (x ≡ step.Begin)
IsTakingOf s caller (Swap off old new) x = (has_claim caller s.claims ≡ false) × (block_holder s.site.shape (Swap off old new) caller s.claims ≡ None) × (x ≡ step.Begin)
IsTakingOf s caller (Put bytes) x = (block_holder s.site.shape (Put bytes) caller s.claims ≡ None) × (x ≡ step.Put)
IsTakingOf s caller _ x = ⊥

update_taking : (s : Seg) (caller : ℕ) (call : Asked) → IsTaking (next_update s caller call)
    → (has_claim caller s.claims ≡ false) × (block_holder s.site.shape call caller s.claims ≡ None) × (next_update s caller call ≡ step.Begin)
update_taking s caller call is = by (has_claim caller s.claims) refl is where
  by : (b : Bool) → has_claim caller s.claims ≡ b
      → IsTaking (cond b (next_part s.site.shape.k s.site.shape.n s.cols s.claims caller) (unless_held (block_holder s.site.shape call caller s.claims) step.Begin))
      → (has_claim caller s.claims ≡ false) × (block_holder s.site.shape call caller s.claims ≡ None)
      × (cond b (next_part s.site.shape.k s.site.shape.n s.cols s.claims caller) (unless_held (block_holder s.site.shape call caller s.claims) step.Begin) ≡ step.Begin)
  by true e p = absurd (part_no_taking (next_part s.site.shape.k s.site.shape.n s.cols s.claims caller) (next_is s.site.shape.k s.site.shape.n s.cols s.claims caller) p)
  by false e p = (let o = (not_held IsTaking (block_holder s.site.shape call caller s.claims) step.Begin (λ h q. q) p).0 in (e, o, ap (λ (x : Option Held). unless_held x step.Begin) o))

served_taking : (s : Seg) (caller : ℕ) (call : Asked) → IsTaking (next_served s caller call) → IsTakingOf s caller call (next_served s caller call)
served_taking s caller (Read off len) is = is
served_taking s caller (Write off bytes) is = update_taking s caller (Write off bytes) is
served_taking s caller (Swap off old new) is = update_taking s caller (Swap off old new) is
served_taking s caller (Put bytes) is =
    let o = (not_held IsTaking (block_holder s.site.shape (Put bytes) caller s.claims) step.Put (λ h q. q) is).0 in
    (o, ap (λ (x : Option Held). unless_held x step.Put) o)
served_taking s caller Merge is = is
served_taking s caller Tick is = is
served_taking s caller Rebuild is = by (length (downs s.site s.log) == 0) is where
  by : (b : Bool) → IsTaking (cond b step.Whole (unless_held (rebuild_holder caller s.rebuild) (next_piece s.site.shape.block s.rebuild))) → ⊥
  by true p = p
  by false p = bring_no_taking (next_piece s.site.shape.block s.rebuild) (piece_is s.site.shape.block s.rebuild)
      (not_held IsTaking (rebuild_holder caller s.rebuild) (next_piece s.site.shape.block s.rebuild) (λ h q. q) p).1
served_taking s caller Upgrade is = is
served_taking s caller (Drain node) is = by (is_some (live_on s.site s.log node.0)) is where
  by : (b : Bool) → IsTaking (cond b (unless_held (rebuild_holder caller s.rebuild) step.Drain) step.Clear) → ⊥
  by true p = (not_held IsTaking (rebuild_holder caller s.rebuild) step.Drain (λ h q. q) p).1
  by false p = p

-- where nobody holds the call, no wanted block is another's
no_holder : (s : Seg) (caller : ℕ) (call : Asked) (j : ℕ) → block_holder s.site.shape call caller s.claims ≡ None → j < 16 → wants s.site.shape call j ≡ true
    → is_others caller (claim_at s.claims j) ≡ false
no_holder s caller call j none below wanted =
    second_false (wants s.site.shape call j) (is_others caller (claim_at s.claims j))
    (none_found (is_taken_from s.site.shape call caller s.claims) 0 16 (found (find (is_taken_from s.site.shape call caller s.claims) (range_with_len 0 16)) refl none) j (omega arith)
    (omega (arith, below)))
    wanted where
      its : (c : Option Claim) → is_others caller c ≡ true → holder c ≡ None → ⊥
      its None others e = cc
      its (Some d) others e = cc

      found : (o : Option ℕ) → find (is_taken_from s.site.shape call caller s.claims) (range_with_len 0 16) ≡ o → option_and_then (λ i. holder (claim_at s.claims i)) o ≡ None
          → find (is_taken_from s.site.shape call caller s.claims) (range_with_len 0 16) ≡ None
      found None f e = f
      found (Some i) f e =
          let passes = found_passes (is_taken_from s.site.shape call caller s.claims) 0 16 i f in
          absurd (its (claim_at s.claims i) (second_true (wants s.site.shape call i) (is_others caller (claim_at s.claims i)) passes) e)

-- a block that is neither the caller's nor another's is free
nobodys : (caller : ℕ) (o : Option Claim) → is_others caller o ≡ false → is_of caller o ≡ false → o ≡ None
nobodys caller None others mine = refl
nobodys caller (Some d) others mine = by (d.owner.0 == caller) others mine where
  by : (b : Bool) → not b ≡ false → b ≡ false → Some d ≡ None
  by true e f = cc
  by false e f = cc

-- without a claim among 16 blocks, a caller has none
unclaimed : (s : Seg) (caller : ℕ) → Sound s → has_claim caller s.claims ≡ false → HasNone caller s.claims
unclaimed s caller sound none = of_each caller s.claims (λ m. elim (cases_lt m 16) [
  | inl below ↦ none_found (λ i. is_of caller (claim_at s.claims i)) 0 16 (none_is (find (λ i. is_of caller (claim_at s.claims i)) (range_with_len 0 16)) none) m (omega arith) (omega (arith, below))
  | inr past ↦ ap (is_of caller) (get_or_past s.claims m None (let n = sound.claimed.sixteen.blocks in omega (arith, n, past)))
])

begins : (s : Seg) (caller : ℕ) (call : Asked) → Sound s → IsServed s caller call step.Begin → is_update call ≡ true
    → ((j : ℕ) → 1 ≤ length_on s.site.shape call j → wants s.site.shape call j ≡ true)
    → has_claim caller s.claims ≡ false → block_holder s.site.shape call caller s.claims ≡ None → IsToBegin s caller call
begins s caller call sound v update wanted none free =
    let idle = unclaimed s caller sound none in
    record {
      free = v.free;
      few = v.few;
      update = update;
      idle = idle;
      vacant = λ j low some.
          let m = sound.shape.data_among_columns in
          let n = sound.shape.most_columns in
          nobodys caller (claim_at s.claims j) (no_holder s caller call j free (omega (arith, low, m, n)) (wanted j some)) (has_none caller s.claims idle j);
    }

pub begin_where_free : BeginWhereFree
begin_where_free s caller call sound is =
    let v = served s caller call step.Begin tt is in
    by call v (subst (IsTakingOf s caller call) v.is (served_taking s caller call (subst IsTaking (sym v.is) tt))) where
      by : (c : Asked) → IsServed s caller c step.Begin → IsTakingOf s caller c step.Begin → IsToBegin s caller c
      by (Read off len) v m = absurd m
      by (Write off bytes) v m = begins s caller (Write off bytes) sound v refl (λ j some. lt-ltb 0 (length_on s.site.shape (Write off bytes) j) some) m.0 m.1
      by (Swap off old new) v m = begins s caller (Swap off old new) sound v refl (λ j some. lt-ltb 0 (length_on s.site.shape (Swap off old new) j) some) m.0 m.1
      by (Put bytes) v m = (let e = m.1 in cc)
      by Merge v m = absurd m
      by Tick v m = absurd m
      by Rebuild v m = absurd m
      by Upgrade v m = absurd m
      by (Drain node) v m = absurd m

pub put_where_vacant : PutWhereVacant
put_where_vacant s caller call sound is =
    let v = served s caller call step.Put tt is in
    by call v (subst (IsTakingOf s caller call) v.is (served_taking s caller call (subst IsTaking (sym v.is) tt))) where
      by : (c : Asked) → IsServed s caller c step.Put → IsTakingOf s caller c step.Put → IsToPut s caller c
      by (Read off len) v m = absurd m
      by (Write off bytes) v m = (let e = m.2 in cc)
      by (Swap off old new) v m = (let e = m.2 in cc)
      by (Put bytes) v m = record {
        free = v.free;
        few = v.few;
        bytes = bytes;
        asked = refl;
        vacant = λ idle j. elim (cases_lt j 16) [
          | inl below ↦ nobodys caller (claim_at s.claims j) (no_holder s caller (Put bytes) j m.0 below refl) (has_none caller s.claims idle j)
          | inr past ↦ get_or_past s.claims j None (let n = sound.claimed.sixteen.blocks in omega (arith, n, past))
        ];
      }
      by Merge v m = absurd m
      by Tick v m = absurd m
      by Rebuild v m = absurd m
      by Upgrade v m = absurd m
      by (Drain node) v m = absurd m
