-- What the choice says of calls that are held, of rebuilds and drains, and of answers at once.
use Rattle.std.proofs.Common.{◌≡◌, ◌≢◌, ℕ, zero, suc, ◌+◌, ◌<◌, ◌≤◌, List, [], length, Bool, true, false, cond, find, Option, Some, None, refl, sym, ap, ◌∙◌, subst, arith, inl, inr}
use Rattle.std.specs.Prelude.{◌⊎◌, ◌&&◌, ◌==◌, not, is_some, nat_lt, option_and_then}
use Rattle.std.specs.List.{range_with_len}
use Rattle.std.proofs.lemmas.Bool.{both_ways, eq-eqb, eqb-true, ltb-false, ltb-true, ne_eqb}
use Rattle.cod_types.specs.Plain.{refusal}
use Rattle.cod_types.specs.declared.call.Call.{Call as Asked}
use Rattle.cod_types.specs.declared.call.Call.TheVariants.{Read, Write, Swap, Put, Merge, Tick, Rebuild, Upgrade, Drain}
use Rattle.cod_types.specs.declared.call.Reply.TheVariants.{Clear, Lost, Whole}
use Rattle.cod_chronicle.specs.declared.entry.Entry.{Entry}
use Rattle.cod_chronicle.specs.Said.{downs, is_down, is_over, node_of, Site}
use Rattle.cod_chronicle.specs.Legal.{IsAnswer, IsLiveOn}
use Rattle.cod_chronicle.proofs.Answering.{answer_lost, answer_served}
use Rattle.cod_chronicle.proofs.Legality.{ends_settled}
use Rattle.cod_claims.specs.declared.claim.Claim.{Claim}
use Rattle.cod_claims.specs.declared.claims.Held.{Held}
use Rattle.cod_claims.specs.Claimed.{claim_at, holder, is_contested, is_of, is_others, open_call}
use Rattle.cod_claims.proofs.Finding.{found_passes, found_range, none_found, second_true}
use Rattle.cod_claims.proofs.Opening.{opens_by_claim, opens_call}
use Rattle.cod_seg.specs.Seg.{Rebuilding, Seg, Target}
use Rattle.cod_seg.specs.Sound.{HasTarget, IsRebuilding, IsSingle, IsTarget, is_update, MayRebuild, Sound}
use Rattle.cod_seg.specs.Next.{block_holder, has_claim, is_taken_from, live_on, next_part, next_piece, next_served}
use Rattle.cod_seg.specs.Next.{next_step, next_target, next_update, open_in, open_of, rebuild_holder, unless_held, wants}
use Rattle.cod_seg.specs.Choices.{AnswersAtOnce, DrainWhereLive, EndWhereWhole, HeldByOpen, HeldExactly, HolderByBits, IsHeldBy}
use Rattle.cod_seg.specs.Choices.{IsToMove}
use Rattle.cod_seg.specs.Choices.{OpenIsFree, PieceWhereNotWhole, StartWhereNoTarget}
use Rattle.cod_seg.specs.declared.next.Step.{Step}
use Rattle.cod_seg.specs.declared.next.Step.TheVariants as step
use Rattle.cod_seg.proofs.Keeping.{has_none}
use Rattle.cod_seg.proofs.Choosing.{IsBringing, IsLater, IsPart, claimed_low, empty, filled, first_true, next_is, none_is, not_empty, not_true, piece_is, second_false, served, some_is}

-- a kind of step that holding isn't of
pub not_held : (P : Step → Type 0) (o : Option Held) (next : Step) → ((h : Held) → P (step.Held h) → ⊥) → P (unless_held o next) → (o ≡ None) × P next
not_held P None next never p = (refl, p)
not_held P (Some h) next never p = absurd (never h p)

unless_is : (o : Option Held) (next : Step) (h : Held) → (next ≡ step.Held h → ⊥) → unless_held o next ≡ step.Held h → o ≡ Some h
unless_is None next h never is = absurd (never is)
unless_is (Some g) next h never is = cc

part_no_held : (x : Step) (h : Held) → IsPart x → x ≡ step.Held h → ⊥
part_no_held x h part is = subst IsPart is part

bring_no_held : (x : Step) (h : Held) → IsBringing x → x ≡ step.Held h → ⊥
bring_no_held x h bring is = subst IsBringing is bring

update_held : (s : Seg) (caller : ℕ) (call : Asked) (h : Held) → next_update s caller call ≡ step.Held h
    → (has_claim caller s.claims ≡ false) × (block_holder s.site.shape call caller s.claims ≡ Some h)
update_held s caller call h is = by (has_claim caller s.claims) refl is where
  by : (b : Bool) → has_claim caller s.claims ≡ b
      → cond b (next_part s.site.shape.k s.site.shape.n s.cols s.claims caller) (unless_held (block_holder s.site.shape call caller s.claims) step.Begin) ≡ step.Held h
      → (has_claim caller s.claims ≡ false) × (block_holder s.site.shape call caller s.claims ≡ Some h)
  by true e f = absurd (part_no_held (next_part s.site.shape.k s.site.shape.n s.cols s.claims caller) h (next_is s.site.shape.k s.site.shape.n s.cols s.claims caller) f)
  by false e f = (e, unless_is (block_holder s.site.shape call caller s.claims) step.Begin h (λ q. cc) f)

served_held : (s : Seg) (caller : ℕ) (call : Asked) (h : Held) → next_served s caller call ≡ step.Held h → IsHeldBy s caller call h
served_held s caller (Read off len) h is = cc
served_held s caller (Write off bytes) h is = update_held s caller (Write off bytes) h is
served_held s caller (Swap off old new) h is = update_held s caller (Swap off old new) h is
served_held s caller (Put bytes) h is = unless_is (block_holder s.site.shape (Put bytes) caller s.claims) step.Put h (λ q. cc) is
served_held s caller Merge h is = cc
served_held s caller Tick h is = cc
served_held s caller Rebuild h is = by (length (downs s.site s.log) == 0) refl is where
  by : (b : Bool) → (length (downs s.site s.log) == 0) ≡ b → cond b step.Whole (unless_held (rebuild_holder caller s.rebuild) (next_piece s.site.shape.block s.rebuild)) ≡ step.Held h
      → (downs s.site s.log ≢ []) × (rebuild_holder caller s.rebuild ≡ Some h)
  by true e f = cc
  by false e f = (
    not_empty (downs s.site s.log) e,
    unless_is (rebuild_holder caller s.rebuild) (next_piece s.site.shape.block s.rebuild) h
        (bring_no_held (next_piece s.site.shape.block s.rebuild) h (piece_is s.site.shape.block s.rebuild)) f,
  )
served_held s caller Upgrade h is = cc
served_held s caller (Drain node) h is = by (is_some (live_on s.site s.log node.0)) refl is where
  by : (b : Bool) → is_some (live_on s.site s.log node.0) ≡ b → cond b (unless_held (rebuild_holder caller s.rebuild) step.Drain) step.Clear ≡ step.Held h
      → (is_some (live_on s.site s.log node.0) ≡ true) × (rebuild_holder caller s.rebuild ≡ Some h)
  by true e f = (e, unless_is (rebuild_holder caller s.rebuild) step.Drain h (λ q. cc) f)
  by false e f = cc

held_update : (s : Seg) (caller : ℕ) (call : Asked) (h : Held) → has_claim caller s.claims ≡ false → block_holder s.site.shape call caller s.claims ≡ Some h
    → next_update s caller call ≡ step.Held h
held_update s caller call h none is =
    ap (λ (b : Bool). cond b (next_part s.site.shape.k s.site.shape.n s.cols s.claims caller) (unless_held (block_holder s.site.shape call caller s.claims) step.Begin)) none
    ∙ ap (λ (o : Option Held). unless_held o step.Begin) is

held_served : (s : Seg) (caller : ℕ) (call : Asked) (h : Held) → IsHeldBy s caller call h → next_served s caller call ≡ step.Held h
held_served s caller (Read off len) h is = absurd is
held_served s caller (Write off bytes) h is = held_update s caller (Write off bytes) h is.0 is.1
held_served s caller (Swap off old new) h is = held_update s caller (Swap off old new) h is.0 is.1
held_served s caller (Put bytes) h is = ap (λ (o : Option Held). unless_held o step.Put) is
held_served s caller Merge h is = absurd is
held_served s caller Tick h is = absurd is
held_served s caller Rebuild h is =
    ap (λ (b : Bool). cond b step.Whole (unless_held (rebuild_holder caller s.rebuild) (next_piece s.site.shape.block s.rebuild))) (filled (downs s.site s.log) is.0)
    ∙ ap (λ (o : Option Held). unless_held o (next_piece s.site.shape.block s.rebuild)) is.1
held_served s caller Upgrade h is = absurd is
held_served s caller (Drain node) h is =
    ap (λ (b : Bool). cond b (unless_held (rebuild_holder caller s.rebuild) step.Drain) step.Clear) is.0 ∙ ap (λ (o : Option Held). unless_held o step.Drain) is.1

pub held_exactly : HeldExactly
held_exactly s caller call h = (
  (λ is. let v = served s caller call (step.Held h) tt is in (v.free, v.few, served_held s caller call h v.is)),
  (λ by.
      ap (λ (o : _). cond (is_some o) step.Refuse (cond (is_over s.site s.log) step.Lost (next_served s caller call))) by.0
      ∙ ap (λ (b : Bool). cond b step.Lost (next_served s caller call)) by.1 ∙ held_served s caller call h by.2),
)

-- who has a claim has its call open
claim_open : (s : Seg) (j : ℕ) (d : Claim) → Sound s → claim_at s.claims j ≡ Some d → open_in s d.owner.0 ≡ Some (d.number, d.delta.call)
claim_open s j d sound here = by s.rebuild sound.single where
  by : (o : Option Rebuilding) → IsSingle s.claims o → open_of d.owner.0 s.claims o ≡ Some (d.number, d.delta.call)
  by None single = opens_call s.claims j d sound.claimed.sixteen here
  by (Some r) single =
      let other : r.caller ≢ d.owner.0 = λ e. both_ways (is_of r.caller (claim_at s.claims j)) (has_none r.caller s.claims single j) (ap (is_of r.caller) here ∙ eq-eqb d.owner.0 r.caller (sym e)) in
      ap (λ (b : Bool). cond b (Some (r.number, Rebuild)) (open_call d.owner.0 s.claims)) (ne_eqb r.caller d.owner.0 other) ∙ opens_call s.claims j d sound.claimed.sixteen here

abbrev IsOpenElsewhere : Seg → (caller : ℕ) → Held → Type 0
IsOpenElsewhere s caller h = (h.owner.0 ≢ caller) × (asked : Asked) × (open_in s h.owner.0 ≡ Some (h.number, asked))

block_open : (s : Seg) (caller : ℕ) (call : Asked) (h : Held) → Sound s → block_holder s.site.shape call caller s.claims ≡ Some h → IsOpenElsewhere s caller h
block_open s caller call h sound is = by (find (is_taken_from s.site.shape call caller s.claims) (range_with_len 0 16)) refl is where
  its : (j : ℕ) (c : Option Claim) → claim_at s.claims j ≡ c → is_others caller c ≡ true → holder c ≡ Some h → IsOpenElsewhere s caller h
  its j None here others e = cc
  its j (Some d) here others e =
      let h0 : Held = record { owner = d.owner; number = d.number } in
      let same : h0 ≡ h = cc in
      subst (IsOpenElsewhere s caller) same (λ f. both_ways (d.owner.0 == caller) (not_true (d.owner.0 == caller) others) (eq-eqb d.owner.0 caller f), d.delta.call, claim_open s j d sound here)

  by : (o : Option ℕ) → find (is_taken_from s.site.shape call caller s.claims) (range_with_len 0 16) ≡ o → option_and_then (λ j. holder (claim_at s.claims j)) o ≡ Some h → IsOpenElsewhere s caller h
  by None f e = cc
  by (Some j) f e =
      let passes = found_passes (is_taken_from s.site.shape call caller s.claims) 0 16 j f in
      its j (claim_at s.claims j) refl (second_true (wants s.site.shape call j) (is_others caller (claim_at s.claims j)) passes) e

rebuild_open : (s : Seg) (caller : ℕ) (h : Held) → rebuild_holder caller s.rebuild ≡ Some h → IsOpenElsewhere s caller h
rebuild_open s caller h is = by s.rebuild is where
  by : (o : Option Rebuilding) → rebuild_holder caller o ≡ Some h → (h.owner.0 ≢ caller) × (asked : Asked) × (open_of h.owner.0 s.claims o ≡ Some (h.number, asked))
  by None e = cc
  by (Some r) e = its (r.caller == caller) refl e where
    its : (b : Bool) → (r.caller == caller) ≡ b → cond b None (Some (record { owner = record { 0 = r.caller }; number = r.number })) ≡ Some h
        → (h.owner.0 ≢ caller) × (asked : Asked) × (open_of h.owner.0 s.claims (Some r) ≡ Some (h.number, asked))
    its true f e = cc
    its false f e =
        let h0 : Held = record { owner = record { 0 = r.caller }; number = r.number } in
        let same : h0 ≡ h = cc in
        subst (λ (g : Held). (g.owner.0 ≢ caller) × (asked : Asked) × (open_of g.owner.0 s.claims (Some r) ≡ Some (g.number, asked))) same (
          λ q. both_ways (r.caller == caller) f (eq-eqb r.caller caller q),
          Rebuild,
          ap (λ (b : Bool). cond b (Some (r.number, Rebuild)) (open_call r.caller s.claims)) (eq-eqb r.caller r.caller refl),
        )

held_open : (s : Seg) (caller : ℕ) (call : Asked) (h : Held) → Sound s → IsHeldBy s caller call h → IsOpenElsewhere s caller h
held_open s caller (Read off len) h sound is = absurd is
held_open s caller (Write off bytes) h sound is = block_open s caller (Write off bytes) h sound is.1
held_open s caller (Swap off old new) h sound is = block_open s caller (Swap off old new) h sound is.1
held_open s caller (Put bytes) h sound is = block_open s caller (Put bytes) h sound is
held_open s caller Merge h sound is = absurd is
held_open s caller Tick h sound is = absurd is
held_open s caller Rebuild h sound is = rebuild_open s caller h is.1
held_open s caller Upgrade h sound is = absurd is
held_open s caller (Drain node) h sound is = rebuild_open s caller h is.1

pub held_by_open : HeldByOpen
held_by_open s caller call h sound is = held_open s caller call h sound ((held_exactly s caller call h).0 is).2

-- what is open is a rebuild, or is claimed
record IsOwnRebuild (caller : ℕ) (call : Asked) (o : Option Rebuilding) : Type 0 where
  r : Rebuilding
  was : o ≡ Some r
  mine : r.caller ≡ caller
  asked : call ≡ Rebuild

open_cases : (caller number : ℕ) (call : Asked) (claims : List (Option Claim)) (o : Option Rebuilding) → open_of caller claims o ≡ Some (number, call)
    → IsOwnRebuild caller call o ⊎ (open_call caller claims ≡ Some (number, call))
open_cases caller number call claims None is = inr is
open_cases caller number call claims (Some r) is = by (r.caller == caller) refl is where
  by : (b : Bool) → (r.caller == caller) ≡ b → cond b (Some (r.number, Rebuild)) (open_call caller claims) ≡ Some (number, call)
      → IsOwnRebuild caller call (Some r) ⊎ (open_call caller claims ≡ Some (number, call))
  by true f e = (
      let x : ℕ × Asked = (r.number, Rebuild) in
      let y : ℕ × Asked = (number, call) in
      let same : x ≡ y = cc in
      inl (record { r = r; was = refl; mine = eqb-true r.caller caller f; asked = sym (ap (λ (q : ℕ × Asked). q.1) same) }))
  by false f e = inr e

claimed_is : (s : Seg) (caller j : ℕ) → Sound s → is_of caller (claim_at s.claims j) ≡ true → has_claim caller s.claims ≡ true
claimed_is s caller j sound mine = by (has_claim caller s.claims) refl where
  by : (b : Bool) → has_claim caller s.claims ≡ b → has_claim caller s.claims ≡ true
  by true e = e
  by false e =
      let low = claimed_low s caller j sound mine in
      let m = sound.shape.data_among_columns in
      let n = sound.shape.most_columns in
      let none = none_found (λ i. is_of caller (claim_at s.claims i)) 0 16 (none_is (find (λ i. is_of caller (claim_at s.claims i)) (range_with_len 0 16)) e) j (omega arith)
      (omega (arith, low, m, n)) in
      absurd (both_ways (is_of caller (claim_at s.claims j)) none mine)

own_rebuild_free : (caller : ℕ) (o : Option Rebuilding) (h : Held) (r : Rebuilding) → o ≡ Some r → r.caller ≡ caller → rebuild_holder caller o ≡ Some h → ⊥
own_rebuild_free caller o h r was mine is =
    let e : rebuild_holder caller (Some r) ≡ None = ap (λ (b : Bool). cond b None (Some (record { owner = record { 0 = r.caller }; number = r.number }))) (eq-eqb r.caller caller mine) in
    let f : rebuild_holder caller (Some r) ≡ Some h = sym (ap (rebuild_holder caller) was) ∙ is in
    let wrong : None ≡ Some h = sym e ∙ f in
    cc

update_free : (s : Seg) (caller : ℕ) (call : Asked) (h : Held) → is_update call ≡ true → has_claim caller s.claims ≡ true → IsHeldBy s caller call h → ⊥
update_free s caller (Read off len) h update has is = cc
update_free s caller (Write off bytes) h update has is = both_ways (has_claim caller s.claims) is.0 has
update_free s caller (Swap off old new) h update has is = both_ways (has_claim caller s.claims) is.0 has
update_free s caller (Put bytes) h update has is = cc
update_free s caller Merge h update has is = cc
update_free s caller Tick h update has is = cc
update_free s caller Rebuild h update has is = cc
update_free s caller Upgrade h update has is = cc
update_free s caller (Drain node) h update has is = cc

pub open_is_free : OpenIsFree
open_is_free s caller number call h sound open' is =
    let held = ((held_exactly s caller call h).0 is).2 in
    elim (open_cases caller number call s.claims s.rebuild open') [
      | inl own ↦
          let by : IsHeldBy s caller Rebuild h = subst (λ (c : Asked). IsHeldBy s caller c h) own.asked held in
          own_rebuild_free caller s.rebuild h own.r own.was own.mine by.1
      | inr claims ↦
          let o = opens_by_claim s.claims caller number call claims in
          let c = sound.claimed.each o.block o.claim o.there in
          let mine : is_of caller (claim_at s.claims o.block) ≡ true = ap (is_of caller) o.there ∙ eq-eqb o.claim.owner.0 caller o.owner in
          update_free s caller call h (subst (λ (x : Asked). is_update x ≡ true) o.call_is c.update) (claimed_is s caller o.block sound mine) held
    ]

-- a rebuild's steps
record IsBringingOf (s : Seg) (caller : ℕ) (call : Asked) (x : Step) : Type 0 where
  few : is_over s.site s.log ≡ false
  asked : call ≡ Rebuild
  some : downs s.site s.log ≢ []
  own : rebuild_holder caller s.rebuild ≡ None
  is : next_piece s.site.shape.block s.rebuild ≡ x

part_no_bringing : (x : Step) → IsPart x → IsBringing x → ⊥
part_no_bringing (step.Data j) part bring = bring
part_no_bringing (step.Parity j i) part bring = bring
part_no_bringing step.Commit part bring = bring
part_no_bringing x part bring = part

update_no_bringing : (s : Seg) (caller : ℕ) (call : Asked) → IsBringing (next_update s caller call) → ⊥
update_no_bringing s caller call is = by (has_claim caller s.claims) is where
  by : (b : Bool) → IsBringing (cond b (next_part s.site.shape.k s.site.shape.n s.cols s.claims caller) (unless_held (block_holder s.site.shape call caller s.claims) step.Begin)) → ⊥
  by true p = part_no_bringing (next_part s.site.shape.k s.site.shape.n s.cols s.claims caller) (next_is s.site.shape.k s.site.shape.n s.cols s.claims caller) p
  by false p = (not_held IsBringing (block_holder s.site.shape call caller s.claims) step.Begin (λ h q. q) p).1

record IsServedBringing (s : Seg) (caller : ℕ) (call : Asked) : Type 0 where
  asked : call ≡ Rebuild
  some : downs s.site s.log ≢ []
  own : rebuild_holder caller s.rebuild ≡ None
  is : next_served s caller call ≡ next_piece s.site.shape.block s.rebuild

served_bringing : (s : Seg) (caller : ℕ) (call : Asked) → IsBringing (next_served s caller call) → IsServedBringing s caller call
served_bringing s caller (Read off len) is = absurd is
served_bringing s caller (Write off bytes) is = absurd (update_no_bringing s caller (Write off bytes) is)
served_bringing s caller (Swap off old new) is = absurd (update_no_bringing s caller (Swap off old new) is)
served_bringing s caller (Put bytes) is = absurd (not_held IsBringing (block_holder s.site.shape (Put bytes) caller s.claims) step.Put (λ h q. q) is).1
served_bringing s caller Merge is = absurd is
served_bringing s caller Tick is = absurd is
served_bringing s caller Rebuild is =
    let parts = by (length (downs s.site s.log) == 0) refl is in
    let own = (not_held IsBringing (rebuild_holder caller s.rebuild) (next_piece s.site.shape.block s.rebuild) (λ h q. q) parts.1).0 in
    record {
      asked = refl;
      some = not_empty (downs s.site s.log) parts.0;
      own = own;
      is = ap (λ (b : Bool). cond b step.Whole (unless_held (rebuild_holder caller s.rebuild) (next_piece s.site.shape.block s.rebuild))) parts.0
          ∙ ap (λ (o : Option Held). unless_held o (next_piece s.site.shape.block s.rebuild)) own;
    } where
      by : (b : Bool) → (length (downs s.site s.log) == 0) ≡ b → IsBringing (cond b step.Whole (unless_held (rebuild_holder caller s.rebuild) (next_piece s.site.shape.block s.rebuild)))
          → ((length (downs s.site s.log) == 0) ≡ false) × IsBringing (unless_held (rebuild_holder caller s.rebuild) (next_piece s.site.shape.block s.rebuild))
      by true e p = absurd p
      by false e p = (e, p)
served_bringing s caller Upgrade is = absurd is
served_bringing s caller (Drain node) is = absurd (by (is_some (live_on s.site s.log node.0)) is) where
  by : (b : Bool) → IsBringing (cond b (unless_held (rebuild_holder caller s.rebuild) step.Drain) step.Clear) → ⊥
  by true p = (not_held IsBringing (rebuild_holder caller s.rebuild) step.Drain (λ h q. q) p).1
  by false p = p

bringing : (s : Seg) (caller : ℕ) (call : Asked) (x : Step) → IsLater x → IsBringing x → next_step s caller call ≡ x → IsBringingOf s caller call x
bringing s caller call x later bring is =
    let v = served s caller call x later is in
    let b = served_bringing s caller call (subst IsBringing (sym v.is) bring) in
    record { few = v.few; asked = b.asked; some = b.some; own = b.own; is = sym b.is ∙ v.is }

-- a rebuild that doesn't hold the caller is the caller's
own_is : (caller : ℕ) (o : Option Rebuilding) (r : Rebuilding) → rebuild_holder caller o ≡ None → o ≡ Some r → r.caller ≡ caller
own_is caller None r none was = cc
own_is caller (Some q) r none was = by (q.caller == caller) refl none where
  by : (b : Bool) → (q.caller == caller) ≡ b → cond {A = Option Held} b None (Some (record { owner = record { 0 = q.caller }; number = q.number })) ≡ None → r.caller ≡ caller
  by true f e = (let same : q ≡ r = cc in ap (λ (x : Rebuilding). x.caller) (sym same) ∙ eqb-true q.caller caller f)
  by false f e = cc

start_target : (block : ℕ) (o : Option Target) → next_target block o ≡ step.RebuildStart → o ≡ None
start_target block None is = refl
start_target block (Some t) is = by (nat_lt t.filled block) is where
  by : (b : Bool) → cond b step.RebuildPiece step.RebuildEnd ≡ step.RebuildStart → Some t ≡ None
  by true e = cc
  by false e = cc

pub start_where_no_target : StartWhereNoTarget
start_where_no_target s caller call is =
    let b = bringing s caller call step.RebuildStart tt tt is in
    record {
      some = b.some;
      goal = λ r was. (own_is caller s.rebuild r b.own was, start_target s.site.shape.block r.target (sym (ap (next_piece s.site.shape.block) was) ∙ b.is));
    }

-- a target that is worked on
record HasGoal (block : ℕ) (o : Option Rebuilding) (less : Bool) : Type 0 where
  r : Rebuilding
  t : Target
  was : o ≡ Some r
  goal : r.target ≡ Some t
  test : nat_lt t.filled block ≡ less

piece_goal : (block : ℕ) (o : Option Rebuilding) → next_piece block o ≡ step.RebuildPiece → HasGoal block o true
piece_goal block None is = cc
piece_goal block (Some r) is = its r.target refl is where
  its : (g : Option Target) → r.target ≡ g → next_target block g ≡ step.RebuildPiece → HasGoal block (Some r) true
  its None e f = cc
  its (Some t) e f = by (nat_lt t.filled block) refl f where
    by : (b : Bool) → nat_lt t.filled block ≡ b → cond b step.RebuildPiece step.RebuildEnd ≡ step.RebuildPiece → HasGoal block (Some r) true
    by true q p = record { r = r; t = t; was = refl; goal = e; test = q }
    by false q p = cc

end_goal : (block : ℕ) (o : Option Rebuilding) → next_piece block o ≡ step.RebuildEnd → HasGoal block o false
end_goal block None is = cc
end_goal block (Some r) is = its r.target refl is where
  its : (g : Option Target) → r.target ≡ g → next_target block g ≡ step.RebuildEnd → HasGoal block (Some r) false
  its None e f = cc
  its (Some t) e f = by (nat_lt t.filled block) refl f where
    by : (b : Bool) → nat_lt t.filled block ≡ b → cond b step.RebuildPiece step.RebuildEnd ≡ step.RebuildEnd → HasGoal block (Some r) false
    by true q p = cc
    by false q p = record { r = r; t = t; was = refl; goal = e; test = q }

pub piece_where_not_whole : PieceWhereNotWhole
piece_where_not_whole s caller call is =
    let b = bringing s caller call step.RebuildPiece tt tt is in
    let g = piece_goal s.site.shape.block s.rebuild b.is in
    (record { r = g.r; t = g.t; was = g.was; mine = own_is caller s.rebuild g.r b.own g.was; goal = g.goal }, ltb-true g.t.filled s.site.shape.block g.test)

pub end_where_whole : EndWhereWhole
end_where_whole s caller call sound is =
    let b = bringing s caller call step.RebuildEnd tt tt is in
    let g = end_goal s.site.shape.block s.rebuild b.is in
    let r : IsRebuilding s.site s.frail s.pools s.log g.r = subst (MayRebuild s.site s.frail s.pools s.log) g.was sound.rebuilt in
    let t : IsTarget s.site s.frail s.pools s.log g.r.col g.t = subst (HasTarget s.site s.frail s.pools s.log g.r.col) g.goal r.goal in
    let most = t.within in
    let least = ltb-false g.t.filled s.site.shape.block g.test in
    (record { r = g.r; t = g.t; was = g.was; mine = own_is caller s.rebuild g.r b.own g.was; goal = g.goal }, omega (arith, most, least))

-- a drain's steps, and the answers at once
abbrev pub IsMoving : Step → Type 0
IsMoving step.Drain = Unit {0}
IsMoving step.Clear = Unit {0}
IsMoving step.Whole = Unit {0}
IsMoving _ = ⊥

part_no_moving : (x : Step) → IsPart x → IsMoving x → ⊥
part_no_moving (step.Data j) part moving = moving
part_no_moving (step.Parity j i) part moving = moving
part_no_moving step.Commit part moving = moving
part_no_moving x part moving = part

bring_no_moving : (x : Step) → IsBringing x → IsMoving x → ⊥
bring_no_moving step.RebuildStart bring moving = moving
bring_no_moving step.RebuildPiece bring moving = moving
bring_no_moving step.RebuildEnd bring moving = moving
bring_no_moving x bring moving = bring

update_no_moving : (s : Seg) (caller : ℕ) (call : Asked) → IsMoving (next_update s caller call) → ⊥
update_no_moving s caller call is = by (has_claim caller s.claims) is where
  by : (b : Bool) → IsMoving (cond b (next_part s.site.shape.k s.site.shape.n s.cols s.claims caller) (unless_held (block_holder s.site.shape call caller s.claims) step.Begin)) → ⊥
  by true p = part_no_moving (next_part s.site.shape.k s.site.shape.n s.cols s.claims caller) (next_is s.site.shape.k s.site.shape.n s.cols s.claims caller) p
  by false p = (not_held IsMoving (block_holder s.site.shape call caller s.claims) step.Begin (λ h q. q) p).1

-- what each of them says of a call
abbrev pub IsMovingOf : Seg → (caller : ℕ) → Asked → Step → Type 0
IsMovingOf s caller Rebuild x = (downs s.site s.log ≡ []) × (x ≡ step.Whole)
IsMovingOf s caller (Drain node) x =
    ((is_some (live_on s.site s.log node.0) ≡ true) × (rebuild_holder caller s.rebuild ≡ None) × (x ≡ step.Drain)) ⊎ ((is_some (live_on s.site s.log node.0) ≡ false) × (x ≡ step.Clear))
IsMovingOf s caller _ x = ⊥

pub served_moving : (s : Seg) (caller : ℕ) (call : Asked) → IsMoving (next_served s caller call) → IsMovingOf s caller call (next_served s caller call)
served_moving s caller (Read off len) is = is
served_moving s caller (Write off bytes) is = update_no_moving s caller (Write off bytes) is
served_moving s caller (Swap off old new) is = update_no_moving s caller (Swap off old new) is
served_moving s caller (Put bytes) is = (not_held IsMoving (block_holder s.site.shape (Put bytes) caller s.claims) step.Put (λ h q. q) is).1
served_moving s caller Merge is = is
served_moving s caller Tick is = is
served_moving s caller Rebuild is = by (length (downs s.site s.log) == 0) refl is where
  by : (b : Bool) → (length (downs s.site s.log) == 0) ≡ b → IsMoving (cond b step.Whole (unless_held (rebuild_holder caller s.rebuild) (next_piece s.site.shape.block s.rebuild)))
      → (downs s.site s.log ≡ []) × (cond b step.Whole (unless_held (rebuild_holder caller s.rebuild) (next_piece s.site.shape.block s.rebuild)) ≡ step.Whole)
  by true e p = (empty (downs s.site s.log) e, refl)
  by false e p = absurd (bring_no_moving (next_piece s.site.shape.block s.rebuild) (piece_is s.site.shape.block s.rebuild)
      (not_held IsMoving (rebuild_holder caller s.rebuild) (next_piece s.site.shape.block s.rebuild) (λ h q. q) p).1)
served_moving s caller Upgrade is = is
served_moving s caller (Drain node) is = by (is_some (live_on s.site s.log node.0)) refl is where
  by : (b : Bool) → is_some (live_on s.site s.log node.0) ≡ b → IsMoving (cond b (unless_held (rebuild_holder caller s.rebuild) step.Drain) step.Clear)
      → ((is_some (live_on s.site s.log node.0) ≡ true) × (rebuild_holder caller s.rebuild ≡ None) × (cond b (unless_held (rebuild_holder caller s.rebuild) step.Drain) step.Clear ≡ step.Drain))
      ⊎ ((is_some (live_on s.site s.log node.0) ≡ false) × (cond b (unless_held (rebuild_holder caller s.rebuild) step.Drain) step.Clear ≡ step.Clear))
  by true e p = (let o = (not_held IsMoving (rebuild_holder caller s.rebuild) step.Drain (λ h q. q) p).0 in inl (e, o, ap (λ (x : Option Held). unless_held x step.Drain) o))
  by false e p = inr (e, refl)

pub moving : (s : Seg) (caller : ℕ) (call : Asked) (x : Step) → IsLater x → IsMoving x → next_step s caller call ≡ x → (is_over s.site s.log ≡ false) × IsMovingOf s caller call x
moving s caller call x later move is =
    let v = served s caller call x later is in
    (v.few, subst (IsMovingOf s caller call) v.is (served_moving s caller call (subst IsMoving (sym v.is) move)))

live_found : (site : Site) (log : List Entry) (x col : ℕ) → live_on site log x ≡ Some col → IsLiveOn site log x col
live_found site log x col found =
    let passes = found_passes (λ i. not (is_down log i) && (node_of site log i == x)) 0 site.shape.n col found in
    let range = found_range (λ i. not (is_down log i) && (node_of site log i == x)) 0 site.shape.n col found in
    let high = range.1 in
    record {
      column = omega (arith, high);
      live = not_true (is_down log col) (first_true (not (is_down log col)) (node_of site log col == x) passes);
      there = eqb-true (node_of site log col) x (second_true (not (is_down log col)) (node_of site log col == x) passes);
    }

pub drain_where_live : DrainWhereLive
drain_where_live s caller call is = by call (moving s caller call step.Drain tt tt is).1 where
  by : (c : Asked) → IsMovingOf s caller c step.Drain → IsToMove s caller c
  by (Read off len) m = absurd m
  by (Write off bytes) m = absurd m
  by (Swap off old new) m = absurd m
  by (Put bytes) m = absurd m
  by Merge m = absurd m
  by Tick m = absurd m
  by Rebuild m = (let e = m.1 in cc)
  by Upgrade m = absurd m
  by (Drain node) (inl m) =
      let f = some_is (live_on s.site s.log node.0) m.0 in
      record { node = node; asked = refl; col = f.0; found = f.1; live = live_found s.site s.log node.0 f.0 f.1; calm = λ r was. own_is caller s.rebuild r m.1 was }
  by (Drain node) (inr m) = (let e = m.1 in cc)

-- a call that is served is neither refused nor lost
part_later : (x : Step) → IsPart x → IsLater x
part_later step.Refuse part = part
part_later step.Lost part = part
part_later x part = tt

bring_later : (x : Step) → IsBringing x → IsLater x
bring_later step.Refuse bring = bring
bring_later step.Lost bring = bring
bring_later x bring = tt

held_later : (o : Option Held) (next : Step) → IsLater next → IsLater (unless_held o next)
held_later None next later = later
held_later (Some h) next later = tt

update_later : (s : Seg) (caller : ℕ) (call : Asked) → IsLater (next_update s caller call)
update_later s caller call = by (has_claim caller s.claims) where
  by : (b : Bool) → IsLater (cond b (next_part s.site.shape.k s.site.shape.n s.cols s.claims caller) (unless_held (block_holder s.site.shape call caller s.claims) step.Begin))
  by true = part_later (next_part s.site.shape.k s.site.shape.n s.cols s.claims caller) (next_is s.site.shape.k s.site.shape.n s.cols s.claims caller)
  by false = held_later (block_holder s.site.shape call caller s.claims) step.Begin tt

served_later : (s : Seg) (caller : ℕ) (call : Asked) → IsLater (next_served s caller call)
served_later s caller (Read off len) = tt
served_later s caller (Write off bytes) = update_later s caller (Write off bytes)
served_later s caller (Swap off old new) = update_later s caller (Swap off old new)
served_later s caller (Put bytes) = held_later (block_holder s.site.shape (Put bytes) caller s.claims) step.Put tt
served_later s caller Merge = tt
served_later s caller Tick = tt
served_later s caller Rebuild = by (length (downs s.site s.log) == 0) where
  by : (b : Bool) → IsLater (cond b step.Whole (unless_held (rebuild_holder caller s.rebuild) (next_piece s.site.shape.block s.rebuild)))
  by true = tt
  by false = held_later (rebuild_holder caller s.rebuild) (next_piece s.site.shape.block s.rebuild) (bring_later (next_piece s.site.shape.block s.rebuild) (piece_is s.site.shape.block s.rebuild))
served_later s caller Upgrade = tt
served_later s caller (Drain node) = by (is_some (live_on s.site s.log node.0)) where
  by : (b : Bool) → IsLater (cond b (unless_held (rebuild_holder caller s.rebuild) step.Drain) step.Clear)
  by true = held_later (rebuild_holder caller s.rebuild) step.Drain tt
  by false = tt

lost_at_once : (s : Seg) (caller : ℕ) (call : Asked) → next_step s caller call ≡ step.Lost → IsAnswer s.site s.log call Lost
lost_at_once s caller call is = by (is_some (refusal s.site.shape call)) (is_over s.site s.log) refl refl is where
  by : (a o : Bool) → is_some (refusal s.site.shape call) ≡ a → is_over s.site s.log ≡ o → cond a step.Refuse (cond o step.Lost (next_served s caller call)) ≡ step.Lost
      → IsAnswer s.site s.log call Lost
  by true o e f g = cc
  by false true e f g = answer_lost s.site s.log call (none_is (refusal s.site.shape call) e) f
  by false false e f g = (let wrong : ⊥ = subst IsLater g (served_later s caller call) in absurd wrong)

whole_at_once : (s : Seg) (call : Asked) (caller : ℕ) → Sound s → is_over s.site s.log ≡ false → IsMovingOf s caller call step.Whole → IsAnswer s.site s.log call Whole
whole_at_once s (Read off len) caller sound few m = absurd m
whole_at_once s (Write off bytes) caller sound few m = absurd m
whole_at_once s (Swap off old new) caller sound few m = absurd m
whole_at_once s (Put bytes) caller sound few m = absurd m
whole_at_once s Merge caller sound few m = absurd m
whole_at_once s Tick caller sound few m = absurd m
whole_at_once s Rebuild caller sound few m =
    let settled = (ends_settled s.site s.log sound.history.legal).0 in
    answer_served s.site s.log Rebuild Whole refl few (rw settled m.0)
whole_at_once s Upgrade caller sound few m = absurd m
whole_at_once s (Drain node) caller sound few (inl m) = (let e = m.2 in cc)
whole_at_once s (Drain node) caller sound few (inr m) = (let e = m.1 in cc)

clear_at_once : (s : Seg) (call : Asked) (caller : ℕ) → Sound s → is_over s.site s.log ≡ false → IsMovingOf s caller call step.Clear → IsAnswer s.site s.log call Clear
clear_at_once s (Read off len) caller sound few m = absurd m
clear_at_once s (Write off bytes) caller sound few m = absurd m
clear_at_once s (Swap off old new) caller sound few m = absurd m
clear_at_once s (Put bytes) caller sound few m = absurd m
clear_at_once s Merge caller sound few m = absurd m
clear_at_once s Tick caller sound few m = absurd m
clear_at_once s Rebuild caller sound few m = (let e = m.1 in cc)
clear_at_once s Upgrade caller sound few m = absurd m
clear_at_once s (Drain node) caller sound few (inl m) = (let e = m.2 in cc)
clear_at_once s (Drain node) caller sound few (inr m) =
    let settled = (ends_settled s.site s.log sound.history.legal).1 in
    let none : (c : ℕ) → IsLiveOn s.site s.log node.0 c → ⊥ = λ c is.
    let on = none_found (λ i. not (is_down s.log i) && (node_of s.site s.log i == node.0)) 0 s.site.shape.n (none_is (live_on s.site s.log node.0) m.0) c (omega arith)
    (let lt = is.column in omega (arith, lt)) in
    both_ways (node_of s.site s.log c == node.0) (second_false (not (is_down s.log c)) (node_of s.site s.log c == node.0) on (ap not is.live)) (eq-eqb (node_of s.site s.log c) node.0 is.there) in
    answer_served s.site s.log (Drain node) Clear refl few (rw settled none)

pub answers_at_once : AnswersAtOnce
answers_at_once s caller call sound = record {
  lost = lost_at_once s caller call;
  whole = λ is. let m = moving s caller call step.Whole tt tt is in whole_at_once s call caller sound m.0 m.1;
  clear = λ is. let m = moving s caller call step.Clear tt tt is in clear_at_once s call caller sound m.0 m.1;
}

find_same : (p q : ℕ → Bool) (a n : ℕ) → ((j : ℕ) → a ≤ j → j < a + n → p j ≡ q j) → find p (range_with_len a n) ≡ find q (range_with_len a n)
find_same p q a zero same = refl
find_same p q a (suc n) same =
    ap (λ (b : Bool). cond b (Some a) (find p (range_with_len (a + 1) n))) (same a (omega arith) (omega arith))
    ∙ ap (cond (q a) (Some a)) (find_same p q (a + 1) n (λ j low high. same j (omega arith) (omega arith)))

pub holder_by_bits : HolderByBits
holder_by_bits g call caller bits claims same =
    ap (option_and_then (λ j. holder (claim_at claims j)))
    (find_same (is_contested bits caller claims) (is_taken_from g call caller claims) 0 16
    (λ j low high. ap (λ (b : Bool). b && is_others caller (claim_at claims j)) (same j (omega (arith, high)))))
