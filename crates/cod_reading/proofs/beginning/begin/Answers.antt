use Rattle.std.proofs.Common.{◌≡◌, ◌∙◌, ◌<◌, ℕ, List, length, map, Some, None, Option, refl, ap, sym, subst, All, arith}
use Rattle.cod_types.specs.declared.call.Reply.TheVariants.{Differs, Done, Lost}
use Rattle.cod_claims.specs.declared.claim.Claim.{Claim}
use Rattle.cod_claims.specs.Changes.{Change, made}
use Rattle.cod_claims.specs.Claimed.{claim_at, HasNone, with_claims}
use Rattle.cod_claims.specs.Slips.{changes_of, Paper}
use Rattle.cod_seg.specs.Seg.{Seg}
use Rattle.cod_segment.specs.Events.{call_in}
use Rattle.cod_segment.specs.Views.{pools_by, told_by}
use Rattle.cod_reading.specs.Filling.{parts_in}
use Rattle.cod_reading.specs.Reads.{part_reads}
use Rattle.cod_reading.proofs.Asking.{lost_ended}
use Rattle.cod_reading.proofs.Claiming.{buffers_fit, changes_free, differs_ended, has_begun, IsBrought, moved, moved_sound, none_ended, update_reads}
use Rattle.cod_reading.proofs.Ending.{costs_begin, ended_begin, ended_makes, ended_outcome, ended_rooms, ended_sound, IsEnded, newest_after, room_last, rooms_kept}
use Rattle.cod_reading.proofs.Starting.{is_beginning, may_begin}
use Rattle.cod_reading.proofs.beginning.begin.Given.{Over}
use Rattle.cod_reading.proofs.beginning.begin.Goals as goal
use Rattle.cod_reading.proofs.beginning.begin.Goals.{After-answer, After-answer_lost, After-answer-in-Some, After-are_bytes, After-claim}

-- ---- an update of no bytes

no_bytes : (g : Over) (c : After-answer g) → IsEnded c.args.clock.now c.args.clock.now c.answer.new.clock c.args.segment.now c.args.segment.now c.answer.new.self c.args.asker.caller c.args.asker.number (call_in c.args.slip.now) Done
no_bytes g c =
    let s = c.args.segment.now in
    let p = c.args.slip.now in
    let caller = c.args.asker.caller in
    let number = c.args.asker.number in
    let t = c.args.clock.now in
    let begin = is_beginning s caller.0 number p c.requires.sound c.requires.next c.requires.asked in
    none_ended s c.answer.new.self caller number t c.answer.new.clock p c.requires.sound begin (sym c.deltas.ensures ∙ c.if-deltas-eq0.true) c.answer.ensures.clock c.answer.ensures.follows c.answer.ensures.becomes

pub returns-then-deltas-eq0-clause-sound : goal.returns-then-deltas-eq0-clause-sound
returns-then-deltas-eq0-clause-sound g c = ended_sound c.args.clock.now c.args.clock.now c.answer.new.clock c.args.segment.now c.args.segment.now c.answer.new.self c.args.asker.caller c.args.asker.number (call_in c.args.slip.now) Done (no_bytes g c)

pub returns-then-deltas-eq0-clause-makes : goal.returns-then-deltas-eq0-clause-makes
returns-then-deltas-eq0-clause-makes g c = rw c.answer.ensures.outcome (λ w setting. ended_makes w c.args.clock.now c.args.clock.now c.answer.new.clock c.args.segment.now c.args.segment.now c.answer.new.self c.args.asker.caller c.args.asker.number (call_in c.args.slip.now) Done (no_bytes g c) setting)

pub returns-then-deltas-eq0-clause-outcome : goal.returns-then-deltas-eq0-clause-outcome
returns-then-deltas-eq0-clause-outcome g c = rw c.answer.ensures.outcome (ended_outcome c.args.clock.now c.args.clock.now c.answer.new.clock c.args.segment.now c.args.segment.now c.answer.new.self c.args.asker.caller c.args.asker.number (call_in c.args.slip.now) Done c.answer.new.slip (no_bytes g c) (ap (λ (x : Paper). x.reply) c.answer.ensures.slip))

pub returns-then-deltas-eq0-clause-costs : goal.returns-then-deltas-eq0-clause-costs
returns-then-deltas-eq0-clause-costs g c = ended_begin c.args.clock.now c.args.clock.now c.answer.new.clock c.args.segment.now c.args.segment.now c.answer.new.self c.args.asker.caller c.args.asker.number (call_in c.args.slip.now) Done (no_bytes g c)

-- ---- the old bytes

pub read_deltas-requires-clause-filling : goal.read_deltas-requires-clause-filling
read_deltas-requires-clause-filling g c =
    (is_beginning c.args.segment.now c.args.asker.caller.0 c.args.asker.number c.args.slip.now c.requires.sound c.requires.next c.requires.asked).filling

pub read_deltas-requires-clause-may : goal.read_deltas-requires-clause-may
read_deltas-requires-clause-may g c =
    let s = c.args.segment.now in
    let p = c.args.slip.now in
    let caller = c.args.asker.caller in
    let number = c.args.asker.number in
    let t = c.args.clock.now in
    let begin = is_beginning s caller.0 number p c.requires.sound c.requires.next c.requires.asked in
    may_begin s caller.0 number p c.requires.sound c.requires.room begin

pub answer_lost-requires-clause-newest : goal.answer_lost-requires-clause-newest
answer_lost-requires-clause-newest g c =
    newest_after _ c.args.clock.now c.read_deltas.new.clock c.args.asker.caller.0 c.args.asker.number c.args.segment.now c.read_deltas.new.segment (c.if-not-read_deltas.ensures.lost refl).0 c.requires.asked.newest

pub answer_lost-requires-clause-room : goal.answer_lost-requires-clause-room
answer_lost-requires-clause-room g c =
    room_last _ c.args.clock.now c.read_deltas.new.clock c.args.segment.now c.read_deltas.new.segment c.requires.room (c.if-not-read_deltas.ensures.lost refl).0

pub answer-requires-in-Some-clause-newest : goal.answer-requires-in-Some-clause-newest
answer-requires-in-Some-clause-newest g c =
    newest_after _ c.args.clock.now c.read_deltas.new.clock c.args.asker.caller.0 c.args.asker.number c.args.segment.now c.read_deltas.new.segment (c.if-not-read_deltas.ensures.brought refl).0 c.requires.asked.newest

pub answer-requires-in-Some-clause-room : goal.answer-requires-in-Some-clause-room
answer-requires-in-Some-clause-room g c =
    room_last _ c.args.clock.now c.read_deltas.new.clock c.args.segment.now c.read_deltas.new.segment c.requires.room (c.if-not-read_deltas.ensures.brought refl).0

too_few : (g : Over) (c : After-answer_lost g) → IsEnded c.args.clock.now c.read_deltas.new.clock c.answer_lost.new.clock c.args.segment.now c.read_deltas.new.segment c.answer_lost.new.self c.args.asker.caller c.args.asker.number (call_in c.args.slip.now) Lost
too_few g c =
    let s = c.args.segment.now in
    let p = c.args.slip.now in
    let caller = c.args.asker.caller in
    let number = c.args.asker.number in
    let t = c.args.clock.now in
    let begin = is_beginning s caller.0 number p c.requires.sound c.requires.next c.requires.asked in
    let v = c.read_deltas.new.segment in
    let mid = c.read_deltas.new.clock in
    let lost = c.if-not-read_deltas.ensures.lost refl in
    lost_ended s v c.answer_lost.new.self caller number p c.read_deltas.new.slip t mid c.answer_lost.new.clock c.requires.sound begin.free begin.few begin.none begin.newest lost.0 lost.1
    (ap (λ (x : Paper). x.call) c.if-not-read_deltas.ensures.slip.0) c.answer_lost.ensures.clock c.answer_lost.ensures.follows c.answer_lost.ensures.becomes

pub returns-then-not-read_deltas-clause-sound : goal.returns-then-not-read_deltas-clause-sound
returns-then-not-read_deltas-clause-sound g c = ended_sound c.args.clock.now c.read_deltas.new.clock c.answer_lost.new.clock c.args.segment.now c.read_deltas.new.segment c.answer_lost.new.self c.args.asker.caller c.args.asker.number (call_in c.args.slip.now) Lost (too_few g c)

pub returns-then-not-read_deltas-clause-makes : goal.returns-then-not-read_deltas-clause-makes
returns-then-not-read_deltas-clause-makes g c = rw c.answer_lost.ensures.outcome (λ w setting. ended_makes w c.args.clock.now c.read_deltas.new.clock c.answer_lost.new.clock c.args.segment.now c.read_deltas.new.segment c.answer_lost.new.self c.args.asker.caller c.args.asker.number (call_in c.args.slip.now) Lost (too_few g c) setting)

pub returns-then-not-read_deltas-clause-outcome : goal.returns-then-not-read_deltas-clause-outcome
returns-then-not-read_deltas-clause-outcome g c = rw c.answer_lost.ensures.outcome (ended_outcome c.args.clock.now c.read_deltas.new.clock c.answer_lost.new.clock c.args.segment.now c.read_deltas.new.segment c.answer_lost.new.self c.args.asker.caller c.args.asker.number (call_in c.args.slip.now) Lost c.answer_lost.new.slip (too_few g c) (ap (λ (x : Paper). x.reply) c.answer_lost.ensures.slip))

pub returns-then-not-read_deltas-clause-costs : goal.returns-then-not-read_deltas-clause-costs
returns-then-not-read_deltas-clause-costs g c = ended_begin c.args.clock.now c.read_deltas.new.clock c.answer_lost.new.clock c.args.segment.now c.read_deltas.new.segment c.answer_lost.new.self c.args.asker.caller c.args.asker.number (call_in c.args.slip.now) Lost (too_few g c)

pub returns-then-not-read_deltas-clause-rooms : goal.returns-then-not-read_deltas-clause-rooms
returns-then-not-read_deltas-clause-rooms g c = ended_rooms c.args.clock.now c.read_deltas.new.clock c.answer_lost.new.clock c.args.segment.now c.read_deltas.new.segment c.answer_lost.new.self c.args.asker.caller c.args.asker.number (call_in c.args.slip.now) Lost (too_few g c)

-- ---- what was brought

brought : (g : Over) (c : After-are_bytes g) → IsBrought c.args.segment.now c.read_deltas.new.segment c.args.asker.caller.0 c.args.asker.number c.args.clock.now c.read_deltas.new.clock c.args.slip.now c.read_deltas.new.slip
brought g c =
    let s = c.args.segment.now in
    let p = c.args.slip.now in
    let caller = c.args.asker.caller in
    let number = c.args.asker.number in
    let t = c.args.clock.now in
    let begin = is_beginning s caller.0 number p c.requires.sound c.requires.next c.requires.asked in
    let x = c.if-not-read_deltas.ensures.brought refl in
    record {
      sound = c.requires.sound;
      is = begin;
      reads = x.0;
      few = x.1;
      filled = x.2;
      same = c.if-not-read_deltas.ensures.slip.0;
      parts = c.if-not-read_deltas.ensures.slip.1;
      bytes = c.are_bytes.ensures;
    }

pub differing-requires-clause-swap : goal.differing-requires-clause-swap
differing-requires-clause-swap g c = λ off old new is.
    let s = c.args.segment.now in
    let p = c.args.slip.now in
    let caller = c.args.asker.caller in
    let number = c.args.asker.number in
    let t = c.args.clock.now in
    let v = c.read_deltas.new.segment in
    let mid = c.read_deltas.new.clock in
    buffers_fit s v caller.0 number t mid off p c.read_deltas.new.slip old new (brought g (goal.at.differing-requires-clause-swap g c).After-are_bytes) is

pub answer-requires-in-Some-clause-call : goal.answer-requires-in-Some-clause-call
answer-requires-in-Some-clause-call g c =
    let b = brought g (goal.at.answer-requires-in-Some-clause-call g c).After-are_bytes in
    rw (ap (λ (y : Paper). y.call) c.in-Some.ensures.slip ∙ b.filled.has) refl

pub answer-requires-in-Some-clause-link : goal.answer-requires-in-Some-clause-link
answer-requires-in-Some-clause-link g c =
    let b = brought g (goal.at.answer-requires-in-Some-clause-link g c).After-are_bytes in
    let one = ap (λ (y : Paper). y.links) c.in-Some.ensures.slip ∙ b.filled.links in omega (arith, one)

pub answer-requires-in-Some-clause-unanswered : goal.answer-requires-in-Some-clause-unanswered
answer-requires-in-Some-clause-unanswered g c =
    let b = brought g (goal.at.answer-requires-in-Some-clause-unanswered g c).After-are_bytes in
    ap (λ (y : Paper). y.reply) c.in-Some.ensures.slip ∙ b.filled.unanswered

-- ---- a swap that finds other bytes

differs : (g : Over) (c : After-answer-in-Some g) → IsBrought c.args.segment.now c.read_deltas.new.segment c.args.asker.caller.0 c.args.asker.number c.args.clock.now c.read_deltas.new.clock c.args.slip.now c.read_deltas.new.slip → IsEnded c.args.clock.now c.read_deltas.new.clock c.answer-in-Some.new.clock c.args.segment.now c.read_deltas.new.segment c.answer-in-Some.new.self c.args.asker.caller c.args.asker.number (call_in c.args.slip.now) (Differs c.in-Some.entered)
differs g c b =
    let o = c.in-Some.ensures.other in
    differs_ended c.args.segment.now c.read_deltas.new.segment c.answer-in-Some.new.self c.args.asker.caller c.args.asker.number c.args.clock.now c.read_deltas.new.clock c.answer-in-Some.new.clock o.0
    c.args.slip.now c.read_deltas.new.slip c.differing.new.slip o.1 o.2 c.in-Some.entered b (record { is = o.3; found_is = o.4; other = o.6 }) c.in-Some.ensures.slip c.answer-in-Some.ensures.clock
    c.answer-in-Some.ensures.follows c.answer-in-Some.ensures.becomes

pub returns-in-Some-clause-sound : goal.returns-in-Some-clause-sound
returns-in-Some-clause-sound g c = ended_sound c.args.clock.now c.read_deltas.new.clock c.answer-in-Some.new.clock c.args.segment.now c.read_deltas.new.segment c.answer-in-Some.new.self c.args.asker.caller c.args.asker.number (call_in c.args.slip.now) (Differs c.in-Some.entered) (differs g c (brought g (goal.at.returns-in-Some-clause-sound g c).After-are_bytes))

pub returns-in-Some-clause-makes : goal.returns-in-Some-clause-makes
returns-in-Some-clause-makes g c = rw c.answer-in-Some.ensures.outcome (λ w setting. ended_makes w c.args.clock.now c.read_deltas.new.clock c.answer-in-Some.new.clock c.args.segment.now c.read_deltas.new.segment c.answer-in-Some.new.self c.args.asker.caller c.args.asker.number (call_in c.args.slip.now) (Differs c.in-Some.entered) (differs g c (brought g (goal.at.returns-in-Some-clause-makes g c).After-are_bytes)) setting)

pub returns-in-Some-clause-outcome : goal.returns-in-Some-clause-outcome
returns-in-Some-clause-outcome g c = rw c.answer-in-Some.ensures.outcome (ended_outcome c.args.clock.now c.read_deltas.new.clock c.answer-in-Some.new.clock c.args.segment.now c.read_deltas.new.segment c.answer-in-Some.new.self c.args.asker.caller c.args.asker.number (call_in c.args.slip.now) (Differs c.in-Some.entered) c.answer-in-Some.new.slip (differs g c (brought g (goal.at.returns-in-Some-clause-outcome g c).After-are_bytes)) (ap (λ (x : Paper). x.reply) c.answer-in-Some.ensures.slip
    ∙ ap (λ (l : List ℕ). Some (Differs l)) (c.in-Some.ensures.other.5 ∙ sym c.in-Some.ensures.other.4)))

pub returns-in-Some-clause-costs : goal.returns-in-Some-clause-costs
returns-in-Some-clause-costs g c = ended_begin c.args.clock.now c.read_deltas.new.clock c.answer-in-Some.new.clock c.args.segment.now c.read_deltas.new.segment c.answer-in-Some.new.self c.args.asker.caller c.args.asker.number (call_in c.args.slip.now) (Differs c.in-Some.entered) (differs g c (brought g (goal.at.returns-in-Some-clause-costs g c).After-are_bytes))

pub returns-in-Some-clause-rooms : goal.returns-in-Some-clause-rooms
returns-in-Some-clause-rooms g c = ended_rooms c.args.clock.now c.read_deltas.new.clock c.answer-in-Some.new.clock c.args.segment.now c.read_deltas.new.segment c.answer-in-Some.new.self c.args.asker.caller c.args.asker.number (call_in c.args.slip.now) (Differs c.in-Some.entered) (differs g c (brought g (goal.at.returns-in-Some-clause-rooms g c).After-are_bytes))

-- ---- the claims

pub claim-requires-clause-none : goal.claim-requires-clause-none
claim-requires-clause-none g c =
    let b = brought g (goal.at.claim-requires-clause-none g c).After-are_bytes in
    let old : c.segment.inside.claims ≡ c.args.segment.now.claims = ap (λ (y : Seg). y.claims) c.segment.view_is ∙ ap (λ (y : Seg). y.claims) b.reads.becomes in
    subst (HasNone c.args.asker.caller.0) (sym old) b.is.idle

pub claim-requires-clause-free : goal.claim-requires-clause-free
claim-requires-clause-free g c =
    let b = brought g (goal.at.claim-requires-clause-free g c).After-are_bytes in
    let old : c.segment.inside.claims ≡ c.args.segment.now.claims = ap (λ (y : Seg). y.claims) c.segment.view_is ∙ ap (λ (y : Seg). y.claims) b.reads.becomes in
    let cs : changes_of c.make_deltas.new.self ≡ map made (changes_of c.read_deltas.new.slip) =
    ap changes_of c.make_deltas.ensures ∙ ap (λ (y : Paper). map made (changes_of y)) c.in-None.ensures.slip in
    subst (λ (l : List (Option Claim)). All (λ (y : Change). claim_at l y.part.block ≡ None) (changes_of c.make_deltas.new.self)) (sym old)
    (subst (All (λ (y : Change). claim_at c.args.segment.now.claims y.part.block ≡ None)) (sym cs)
    (changes_free c.args.segment.now c.read_deltas.new.segment c.args.asker.caller.0 c.args.asker.number c.args.clock.now c.read_deltas.new.clock c.args.slip.now c.read_deltas.new.slip b))

-- the segment with the claims
abbrev claimed : (g : Over) (c : After-claim g) → Seg
claimed g c = record {
  site = record {
    shape = c.segment.inside.shape;
    segment = c.segment.inside.segment.0;
    nodes = c.segment.inside.nodes;
    told = told_by c.segment.inside.columns;
  };
  frail = c.segment.inside.frail.items;
  pools = pools_by c.segment.inside.columns;
  log = c.segment.inside.chronicle;
  cols = c.segment.inside.columns;
  cuts = c.segment.inside.cuts;
  claims = c.claim.new.self;
  version = c.segment.inside.version;
  rebuild = c.segment.inside.rebuild;
}

becomes : (g : Over) (c : After-claim g)
    → claimed g c ≡ record c.read_deltas.new.segment {
      claims = with_claims c.args.asker.caller c.args.asker.number (map made (changes_of c.read_deltas.new.slip)) c.read_deltas.new.segment.claims;
    }
becomes g c =
    let v = c.read_deltas.new.segment in
    let caller = c.args.asker.caller in
    let number = c.args.asker.number in
    let mine = map made (changes_of c.read_deltas.new.slip) in
    let cs : changes_of c.make_deltas.new.self ≡ mine = ap changes_of c.make_deltas.ensures ∙ ap (λ (y : Paper). map made (changes_of y)) c.in-None.ensures.slip in
    let old : c.segment.inside.claims ≡ v.claims = ap (λ (y : Seg). y.claims) c.segment.view_is in
    let now : c.claim.new.self ≡ with_claims caller number mine v.claims =
    c.claim.ensures.claims ∙ ap (λ (l : List Change). with_claims caller number l c.segment.inside.claims) cs ∙ ap (with_claims caller number mine) old in
    ap (λ (l : List (Option Claim)). record (claimed g c) { claims = l }) now ∙ ap (λ (y : Seg). record y { claims = with_claims caller number mine v.claims }) c.segment.view_is

some_changes : (g : Over) (c : After-are_bytes g) → 0 < length (changes_of c.args.slip.now)
some_changes g c = omega (arith, c.deltas.ensures, c.if-deltas-eq0.false)

pub returns-in-None-clause-sound : goal.returns-in-None-clause-sound
returns-in-None-clause-sound g c =
    let b = brought g (goal.at.returns-in-None-clause-sound g c).After-are_bytes in
    moved_sound c.args.segment.now c.read_deltas.new.segment (claimed g (goal.at.returns-in-None-clause-sound g c).After-claim) c.args.asker.caller c.args.asker.number c.args.clock.now c.read_deltas.new.clock c.args.slip.now c.read_deltas.new.slip b (some_changes g (goal.at.returns-in-None-clause-sound g c).After-are_bytes) c.in-None.ensures.same (becomes g (goal.at.returns-in-None-clause-sound g c).After-claim)

pub returns-in-None-clause-makes : goal.returns-in-None-clause-makes
returns-in-None-clause-makes g c =
    let b = brought g (goal.at.returns-in-None-clause-makes g c).After-are_bytes in
    (moved c.args.segment.now c.read_deltas.new.segment (claimed g (goal.at.returns-in-None-clause-makes g c).After-claim) c.args.asker.caller c.args.asker.number c.args.clock.now c.read_deltas.new.clock c.args.slip.now c.read_deltas.new.slip b (some_changes g (goal.at.returns-in-None-clause-makes g c).After-are_bytes) c.in-None.ensures.same (becomes g (goal.at.returns-in-None-clause-makes g c).After-claim)).0

pub returns-in-None-clause-outcome : goal.returns-in-None-clause-outcome
returns-in-None-clause-outcome g c =
    let b = brought g (goal.at.returns-in-None-clause-outcome g c).After-are_bytes in (
      (moved c.args.segment.now c.read_deltas.new.segment (claimed g (goal.at.returns-in-None-clause-outcome g c).After-claim) c.args.asker.caller c.args.asker.number c.args.clock.now c.read_deltas.new.clock c.args.slip.now c.read_deltas.new.slip b (some_changes g (goal.at.returns-in-None-clause-outcome g c).After-are_bytes) c.in-None.ensures.same (becomes g (goal.at.returns-in-None-clause-outcome g c).After-claim)).1,
      has_begun c.args.segment.now c.read_deltas.new.segment c.args.asker.caller.0 c.args.asker.number c.args.clock.now c.read_deltas.new.clock c.args.slip.now c.read_deltas.new.slip c.differing.new.slip c.claim.new.slip b c.in-None.ensures.slip
          (c.claim.ensures.slip ∙ ap (λ (y : Paper). record y { changes = None }) c.make_deltas.ensures),
    )

pub returns-in-None-clause-exact : goal.returns-in-None-clause-exact
returns-in-None-clause-exact g c =
    let b = brought g (goal.at.returns-in-None-clause-exact g c).After-are_bytes in
    λ w. ap (λ (y : Seg). y.rebuild) (becomes g (goal.at.returns-in-None-clause-exact g c).After-claim) ∙ ap (λ (y : Seg). y.rebuild) b.reads.becomes

pub returns-in-None-clause-costs : goal.returns-in-None-clause-costs
returns-in-None-clause-costs g c =
    let b = brought g (goal.at.returns-in-None-clause-costs g c).After-are_bytes in
    costs_begin c.args.segment.now c.read_deltas.new.segment (claimed g (goal.at.returns-in-None-clause-costs g c).After-claim) c.args.asker.caller.0 (call_in c.args.slip.now) c.args.clock.now c.read_deltas.new.clock
    (update_reads c.args.segment.now c.read_deltas.new.segment c.args.asker.caller.0 c.args.asker.number c.args.clock.now c.read_deltas.new.clock c.args.slip.now c.read_deltas.new.slip b) (ap (λ (y : Seg). y.cols) (becomes g (goal.at.returns-in-None-clause-costs g c).After-claim))
    (ap (λ (y : Seg). y.rebuild) (becomes g (goal.at.returns-in-None-clause-costs g c).After-claim) ∙ ap (λ (y : Seg). y.rebuild) b.reads.becomes)

pub returns-in-None-clause-rooms : goal.returns-in-None-clause-rooms
returns-in-None-clause-rooms g c =
    let b = brought g (goal.at.returns-in-None-clause-rooms g c).After-are_bytes in
    rooms_kept (part_reads c.args.segment.now.site.shape.k c.args.segment.now.cols (parts_in (changes_of c.args.slip.now))) c.args.clock.now c.read_deltas.new.clock c.args.segment.now c.read_deltas.new.segment (claimed g (goal.at.returns-in-None-clause-rooms g c).After-claim) c.requires.sound b.reads
    (ap (λ (y : Seg). y.cols) (becomes g (goal.at.returns-in-None-clause-rooms g c).After-claim)) (ap (λ (y : Seg). y.rebuild) (becomes g (goal.at.returns-in-None-clause-rooms g c).After-claim))
