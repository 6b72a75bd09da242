-- An event tells of free bytes only in the reply to a rebuild or a drain.
use Rattle.std.proofs.Common.{◌≡◌, inl, inr, ℕ, List, [], ◌∷◌, ◌++◌, length, Bool, true, false, cond, Option, Some, None, refl, sym, ◌∙◌, subst}
use Rattle.std.specs.Prelude.{◌↔◌, ◌==◌, nat_lt, bytes_eq, is_some, IfSome, IsNone, IsTrue}
use Rattle.cod_types.specs.Plain.{bytes_at, plain_reply, refusal}
use Rattle.cod_types.specs.declared.call.Call.{Call as Asked}
use Rattle.cod_types.specs.declared.call.Call.TheVariants.{Read, Write, Swap, Put, Merge, Tick, Rebuild, Upgrade, Drain}
use Rattle.cod_types.specs.declared.call.NodeId.{NodeId}
use Rattle.cod_types.specs.declared.call.Reply.{Reply}
use Rattle.cod_types.specs.declared.call.Reply.TheVariants.{Done, Differs, Range, Long, Lost, NoSpare}
use Rattle.cod_types.specs.declared.reasons.Reason.{Reason}
use Rattle.cod_chronicle.specs.declared.entry.Entry.{Entry}
use Rattle.cod_chronicle.specs.Event.{Request}
use Rattle.cod_chronicle.specs.Legal.{Fits, IsAnswer, IsLegal, IsPlain, IsServed, LegalAfter}
use Rattle.cod_chronicle.specs.Said.{bytes_of, downs, is_over, Site}
use Rattle.cod_chronicle.proofs.Legality.{legal_right}
use Rattle.cod_claims.specs.Slips.{Paper}
use Rattle.cod_claims.specs.declared.claims.Held.{Held as Holder}
use Rattle.cod_seg.specs.Next.{live_on, next_piece, next_step, next_target, rebuild_holder, unless_held}
use Rattle.cod_seg.specs.Seg.{Rebuilding, Seg, Target}
use Rattle.cod_seg.specs.Sound.{Sound}
use Rattle.cod_seg.specs.declared.next.Step.{Step}
use Rattle.cod_seg.specs.declared.next.Step.TheVariants as step
use Rattle.cod_segment.specs.declared.asking.Outcome.{Outcome}
use Rattle.cod_segment.specs.declared.asking.Outcome.TheVariants.{Moved, Answered, Held}
use Rattle.cod_segment.specs.Events.{IsAsked, IsCallOf, IsOutcome}
use Rattle.cod_segment.specs.Looks.{HasLooked}
use Rattle.cod_segment.proofs.Answering.{ready, refusal_kind}
use Rattle.cod_segment.proofs.Looking.{looked_none, looked_of}

-- ---- calls that are neither a rebuild nor a drain

abbrev pub IsCommon : Asked → Type 0
IsCommon Rebuild = ⊥
IsCommon (Drain node) = ⊥
IsCommon _ = Unit {0}

-- their steps
abbrev pub IsCommonStep : Step → Type 0
IsCommonStep step.Refuse = Unit {0}
IsCommonStep step.Read = Unit {0}
IsCommonStep step.Put = Unit {0}
IsCommonStep step.Merge = Unit {0}
IsCommonStep step.Tick = Unit {0}
IsCommonStep step.Upgrade = Unit {0}
IsCommonStep step.Begin = Unit {0}
IsCommonStep (step.Data j) = Unit {0}
IsCommonStep (step.Parity j i) = Unit {0}
IsCommonStep step.Commit = Unit {0}
IsCommonStep _ = ⊥

abbrev IsOther : Step → Type 0
IsOther x = IsCommonStep x → ⊥

other_held : (o : Option Holder) (x : Step) → IsOther x → IsOther (unless_held o x)
other_held None x not = not
other_held (Some h) x not = λ is. is

other_target : (block : ℕ) (t : Option Target) → IsOther (next_target block t)
other_target block None = λ is. is
other_target block (Some t) = by (nat_lt t.filled block) where
  by : (b : Bool) → IsOther (cond b step.RebuildPiece step.RebuildEnd)
  by true = λ is. is
  by false = λ is. is

other_piece : (block : ℕ) (r : Option Rebuilding) → IsOther (next_piece block r)
other_piece block None = λ is. is
other_piece block (Some r) = other_target block r.target

other_rebuild : (s : Seg) (caller : ℕ) → IsOther (next_step s caller Rebuild)
other_rebuild s caller = by (is_over s.site s.log) (length (downs s.site s.log) == 0) where
  by : (o b : Bool) → IsOther (cond o step.Lost (cond b step.Whole (unless_held (rebuild_holder caller s.rebuild) (next_piece s.site.shape.block s.rebuild))))
  by true b = λ is. is
  by false true = λ is. is
  by false false = other_held (rebuild_holder caller s.rebuild) (next_piece s.site.shape.block s.rebuild) (other_piece s.site.shape.block s.rebuild)

other_drain : (s : Seg) (caller : ℕ) (node : NodeId) → IsOther (next_step s caller (Drain node))
other_drain s caller node = by (is_over s.site s.log) (is_some (live_on s.site s.log node.0)) where
  by : (o b : Bool) → IsOther (cond o step.Lost (cond b (unless_held (rebuild_holder caller s.rebuild) step.Drain) step.Clear))
  by true b = λ is. is
  by false true = other_held (rebuild_holder caller s.rebuild) step.Drain (λ is. is)
  by false false = λ is. is

common_call : (s : Seg) (caller : ℕ) (call : Asked) → IsCommonStep (next_step s caller call) → IsCommon call
common_call s caller (Read off len) is = tt
common_call s caller (Write off bytes) is = tt
common_call s caller (Swap off old new) is = tt
common_call s caller (Put bytes) is = tt
common_call s caller Merge is = tt
common_call s caller Tick is = tt
common_call s caller Upgrade is = tt
common_call s caller Rebuild is = other_rebuild s caller is
common_call s caller (Drain node) is = other_drain s caller node is

-- ---- their replies

plain_spares : (b : List ℕ) (call : Asked) (reasons : List Reason) → plain_reply b call ≡ Some (NoSpare reasons) → ⊥
plain_spares b (Read off len) reasons is = cc
plain_spares b (Write off bytes) reasons is = cc
plain_spares b (Swap off old new) reasons is = by (bytes_eq (bytes_at b off (length old)) old) is where
  by : (x : Bool) → cond x (Some Done) (Some (Differs (bytes_at b off (length old)))) ≡ Some (NoSpare reasons) → ⊥
  by true e = cc
  by false e = cc
plain_spares b (Put bytes) reasons is = cc
plain_spares b Merge reasons is = cc
plain_spares b Tick reasons is = cc
plain_spares b Rebuild reasons is = cc
plain_spares b Upgrade reasons is = cc
plain_spares b (Drain node) reasons is = cc

spares : (told : Bool) (b : List ℕ) (call : Asked) (reasons : List Reason) → IsPlain told b call (NoSpare reasons) → ⊥
spares true b call reasons is = plain_spares b call reasons is
spares false b (Read off len) reasons is = let e = is.1 in cc
spares false b (Write off bytes) reasons is = plain_spares b (Write off bytes) reasons is
spares false b (Swap off old new) reasons is = elim is [
  | inl e ↦ cc
  | inr m ↦ let e = m.1 in cc
]
spares false b (Put bytes) reasons is = plain_spares b (Put bytes) reasons is
spares false b Merge reasons is = plain_spares b Merge reasons is
spares false b Tick reasons is = plain_spares b Tick reasons is
spares false b Rebuild reasons is = plain_spares b Rebuild reasons is
spares false b Upgrade reasons is = plain_spares b Upgrade reasons is
spares false b (Drain node) reasons is = plain_spares b (Drain node) reasons is

served_spares : (site : Site) (before : List Entry) (call : Asked) (reasons : List Reason) → IsCommon call → IsServed site before call (NoSpare reasons) → ⊥
served_spares site before (Read off len) reasons common is = spares site.told (bytes_of site before) (Read off len) reasons is
served_spares site before (Write off bytes) reasons common is = spares site.told (bytes_of site before) (Write off bytes) reasons is
served_spares site before (Swap off old new) reasons common is = spares site.told (bytes_of site before) (Swap off old new) reasons is
served_spares site before (Put bytes) reasons common is = spares site.told (bytes_of site before) (Put bytes) reasons is
served_spares site before Merge reasons common is = spares site.told (bytes_of site before) Merge reasons is
served_spares site before Tick reasons common is = spares site.told (bytes_of site before) Tick reasons is
served_spares site before Upgrade reasons common is = spares site.told (bytes_of site before) Upgrade reasons is
served_spares site before Rebuild reasons common is = absurd common
served_spares site before (Drain node) reasons common is = absurd common

-- no such call is answered that there is no spare
common_spares : (site : Site) (before : List Entry) (call : Asked) (reasons : List Reason) → IsCommon call → IsAnswer site before call (NoSpare reasons) → ⊥
common_spares site before call reasons common answer = by (refusal site.shape call) refl answer.refused answer.lost answer.served where
  over : (v : Bool) → (NoSpare reasons ≡ Lost) ↔ (IsTrue v) → (v ≡ false → IsServed site before call (NoSpare reasons)) → ⊥
  over true lost served = let e : NoSpare reasons ≡ Lost = lost.1 refl in cc
  over false lost served = served_spares site before call reasons common (served refl)

  by : (o : Option Reply) → refusal site.shape call ≡ o → IfSome o (λ r. NoSpare reasons ≡ r) → (IsNone o → (NoSpare reasons ≡ Lost) ↔ (IsTrue (is_over site before)))
      → (IsNone o → is_over site before ≡ false → IsServed site before call (NoSpare reasons)) → ⊥
  by (Some r) e refused lost served = elim (refusal_kind site.shape call r e) [
    | inl range ↦ (let wrong : NoSpare reasons ≡ Range = refused ∙ range in cc)
    | inr long ↦ (let wrong : NoSpare reasons ≡ Long = refused ∙ long in cc)
  ]
  by None e refused lost served = over (is_over site before) (lost refl) (served refl)

-- ---- what comes of their events

module _ (Seen : ℕ → ℕ → Type 0) where
  entered : (r : Request) (stamp : ℕ) (site : Site) (before : List Entry) (last : Entry) (reply : Option Reply) → IsCommon r.call → Fits site before last []
      → IsCallOf r stamp reply last → HasLooked Seen reply
  entered r stamp site before last None common fits is = absurd is
  entered r stamp site before last (Some reply) common fits is =
      let answer : IsAnswer site before r.call reply = subst (λ (e : Entry). Fits site before e []) is fits in
      looked_of Seen reply (λ reasons e. common_spares site before r.call reasons common (subst (IsAnswer site before r.call) e answer))

  common_outcome : (o : Outcome) (r : Request) (after : ℕ) (u : Seg) (p : Paper) → Sound u → IsCommon r.call → IsOutcome o r after u p → HasLooked Seen p.reply
  common_outcome Moved r after u p sound common is = looked_none Seen p.reply is.1.unanswered
  common_outcome (Held h) r after u p sound common is = absurd is
  common_outcome (Answered position stamp) r after u p sound common is =
      let e = is.2 in
      let legal : LegalAfter u.site [] (e.0 ++ e.1 ∷ []) = subst (IsLegal u.site) e.2 sound.history.legal in
      entered r stamp u.site e.0 e.1 p.reply common (legal_right u.site [] e.0 (e.1 ∷ []) legal).0 e.4

  pub common_looked : (s : Seg) (x : Step) (o : Outcome) (r : Request) (after : ℕ) (u : Seg) (p : Paper) → next_step s r.caller r.call ≡ x → IsCommonStep x → IsOutcome o r after u p
      → Sound u → HasLooked Seen p.reply
  common_looked s x o r after u p next is outcome sound = common_outcome o r after u p sound (common_call s r.caller r.call (subst IsCommonStep (sym next) is)) outcome

  -- a slip of a call that isn't answered yet
  pub asked_looked : (s : Seg) (caller number : ℕ) (p : Paper) (call : Asked) → IsAsked s caller number p call → HasLooked Seen p.reply
  asked_looked s caller number p call asked = looked_none Seen p.reply (ready s caller number p call asked).unanswered
