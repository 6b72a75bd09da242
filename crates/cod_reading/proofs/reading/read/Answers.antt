use Rattle.std.proofs.Common.{◌≡◌, ◌∙◌, ℕ, List, length, Some, refl, ap, sym, subst}
use Rattle.cod_types.specs.Limits.{Shape}
use Rattle.cod_types.specs.Plain.{refusal}
use Rattle.cod_types.specs.declared.call.Call.{Call as Asked}
use Rattle.cod_types.specs.declared.call.Reply.TheVariants.{Bytes, Lost}
use Rattle.cod_layout.specs.declared.parts.Part.{Part}
use Rattle.cod_layout.specs.Parts.{IsSplit, parts_of}
use Rattle.cod_claims.specs.Slips.{Paper}
use Rattle.cod_seg.specs.Seg.{Seg}
use Rattle.cod_segment.specs.Events.{call_in}
use Rattle.cod_repair.proofs.Valuing.{given_whole}
use Rattle.cod_reading.specs.Reads.{BringsAll}
use Rattle.cod_reading.proofs.Asking.{buffers_long, bytes_ended, is_reading, IsReading, lost_ended, may_read, not_other}
use Rattle.cod_reading.proofs.Ending.{ended_makes, ended_outcome, ended_read, ended_rooms, ended_sound, IsEnded, newest_after, room_last}
use Rattle.cod_reading.proofs.reading.read.Given.{Over}
use Rattle.cod_reading.proofs.reading.read.Goals as goal
use Rattle.cod_reading.proofs.reading.read.Goals.{After-answer, After-deref, After-deref_mut, After-drop-second-inside, After-split_range-parts}

pub unreachable-requires : goal.unreachable-requires
unreachable-requires g c = not_other c.args.segment.now c.args.asker.caller.0 c.args.slip.now c.call.result.now c.requires.next c.call.ensures c.in_default.not-Read

-- what is asked
asked : (g : Over) (c : After-split_range-parts g) → IsReading c.args.segment.now c.args.asker.caller.0 c.args.asker.number c.args.slip.now c.in-Read.off c.in-Read.len
asked g c =
    is_reading c.args.segment.now c.args.asker.caller.0 c.args.asker.number c.args.slip.now c.in-Read.off c.in-Read.len c.requires.sound c.requires.next c.requires.asked
    (c.call.ensures ∙ ap (λ (x : Asked). Some x) c.in-Read.is)

shape_is : (g : Over) (c : After-split_range-parts g) → c.segment.inside.shape ≡ c.args.segment.now.site.shape
shape_is g c = ap (λ (x : Seg). x.site.shape) c.segment.view_is

pub take_buffers-first-requires : goal.take_buffers-first-requires
take_buffers-first-requires g c = rw (asked g (goal.at.take_buffers-first-requires g c).After-split_range-parts).buffers refl

-- both buffers have the range's length
buffers : (g : Over) (c : After-deref_mut g) → IsReading c.args.segment.now c.args.asker.caller.0 c.args.asker.number c.args.slip.now c.in-Read.off c.in-Read.len
    → (length c.take_buffers-first.result.0 ≡ c.in-Read.len) × (length c.take_buffers-first.result.1 ≡ c.in-Read.len) × (length c.deref_mut.result.now ≡ c.in-Read.len)
buffers g c is =
    let both = buffers_long c.args.slip.now.buffers c.take_buffers-first.result c.in-Read.len c.take_buffers-first.ensures.buffers is.buffers in
    (both.0, both.1, ap length (c.deref_mut.ensures.value ∙ c.into_vec-bytes.ensures) ∙ both.0)

pub read_parts-requires-clause-may : goal.read_parts-requires-clause-may
read_parts-requires-clause-may g c =
    let s = c.args.segment.now in
    let is = asked g (goal.at.read_parts-requires-clause-may g c).After-split_range-parts in
    let shape = shape_is g (goal.at.read_parts-requires-clause-may g c).After-split_range-parts in
    let split : IsSplit s.site.shape.k s.site.shape.block c.in-Read.off c.in-Read.len c.as_slice.result.now =
    subst (λ (l : List Part). IsSplit s.site.shape.k s.site.shape.block c.in-Read.off c.in-Read.len l) (sym c.as_slice.ensures.value)
    (subst (λ (x : Shape). IsSplit x.k x.block c.in-Read.off c.in-Read.len c.split_range-parts.result) shape c.split_range-parts.ensures.split) in
    may_read s c.as_slice.result.now c.in-Read.off c.in-Read.len (length c.deref_mut.result.now) c.requires.sound is.few c.requires.room split
    (buffers g (goal.at.read_parts-requires-clause-may g c).After-deref_mut is).2

pub answer_lost-requires-clause-newest : goal.answer_lost-requires-clause-newest
answer_lost-requires-clause-newest g c =
    newest_after _ c.args.clock.now c.read_parts.new.clock c.args.asker.caller.0 c.args.asker.number c.args.segment.now c.read_parts.new.segment (c.if-not-read_parts.ensures.lost refl).0 c.requires.asked.newest

pub answer_lost-requires-clause-room : goal.answer_lost-requires-clause-room
answer_lost-requires-clause-room g c =
    room_last _ c.args.clock.now c.read_parts.new.clock c.args.segment.now c.read_parts.new.segment c.requires.room (c.if-not-read_parts.ensures.lost refl).0

pub answer-requires-clause-newest : goal.answer-requires-clause-newest
answer-requires-clause-newest g c =
    newest_after _ c.args.clock.now c.read_parts.new.clock c.args.asker.caller.0 c.args.asker.number c.args.segment.now c.read_parts.new.segment (c.if-not-read_parts.ensures.brought refl).0 c.requires.asked.newest

pub answer-requires-clause-room : goal.answer-requires-clause-room
answer-requires-clause-room g c =
    room_last _ c.args.clock.now c.read_parts.new.clock c.args.segment.now c.read_parts.new.segment c.requires.room (c.if-not-read_parts.ensures.brought refl).0

-- ---- where too many columns are down

too_few : (g : Over) (c : After-drop-second-inside g) → IsReading c.args.segment.now c.args.asker.caller.0 c.args.asker.number c.args.slip.now c.in-Read.off c.in-Read.len
    → IsEnded c.args.clock.now c.read_parts.new.clock c.answer_lost.new.clock c.args.segment.now c.read_parts.new.segment c.answer_lost.new.self c.args.asker.caller c.args.asker.number (call_in c.args.slip.now) Lost
too_few g c is =
    let s = c.args.segment.now in
    let lost = c.if-not-read_parts.ensures.lost refl in
    let free = ap (λ (x : Asked). refusal s.site.shape x) is.is ∙ is.free in
    lost_ended s c.read_parts.new.segment c.answer_lost.new.self c.args.asker.caller c.args.asker.number c.args.slip.now c.take_buffers-first.new.self c.args.clock.now c.read_parts.new.clock
    c.answer_lost.new.clock c.requires.sound free is.few is.none is.newest lost.0 lost.1 (ap (λ (x : Paper). x.call) c.take_buffers-first.ensures.rest) c.answer_lost.ensures.clock
    c.answer_lost.ensures.follows c.answer_lost.ensures.becomes

pub returns-then-not-read_parts-clause-sound : goal.returns-then-not-read_parts-clause-sound
returns-then-not-read_parts-clause-sound g c =
    let e = too_few g c (asked g (goal.at.returns-then-not-read_parts-clause-sound g c).After-split_range-parts) in
    ended_sound c.args.clock.now c.read_parts.new.clock c.answer_lost.new.clock c.args.segment.now c.read_parts.new.segment c.answer_lost.new.self c.args.asker.caller c.args.asker.number (call_in c.args.slip.now) Lost e

pub returns-then-not-read_parts-clause-makes : goal.returns-then-not-read_parts-clause-makes
returns-then-not-read_parts-clause-makes g c =
    let e = too_few g c (asked g (goal.at.returns-then-not-read_parts-clause-makes g c).After-split_range-parts) in
    rw c.answer_lost.ensures.outcome (λ w setting. ended_makes w c.args.clock.now c.read_parts.new.clock c.answer_lost.new.clock c.args.segment.now c.read_parts.new.segment c.answer_lost.new.self c.args.asker.caller c.args.asker.number (call_in c.args.slip.now) Lost e setting)

pub returns-then-not-read_parts-clause-outcome : goal.returns-then-not-read_parts-clause-outcome
returns-then-not-read_parts-clause-outcome g c =
    let e = too_few g c (asked g (goal.at.returns-then-not-read_parts-clause-outcome g c).After-split_range-parts) in
    rw c.answer_lost.ensures.outcome (ended_outcome c.args.clock.now c.read_parts.new.clock c.answer_lost.new.clock c.args.segment.now c.read_parts.new.segment c.answer_lost.new.self c.args.asker.caller c.args.asker.number (call_in c.args.slip.now) Lost c.answer_lost.new.slip e (ap (λ (x : Paper). x.reply) c.answer_lost.ensures.slip))

pub returns-then-not-read_parts-clause-costs : goal.returns-then-not-read_parts-clause-costs
returns-then-not-read_parts-clause-costs g c =
    let e = too_few g c (asked g (goal.at.returns-then-not-read_parts-clause-costs g c).After-split_range-parts) in
    ended_read c.args.clock.now c.read_parts.new.clock c.answer_lost.new.clock c.args.segment.now c.read_parts.new.segment c.answer_lost.new.self c.args.asker.caller c.args.asker.number (call_in c.args.slip.now) Lost e

pub returns-then-not-read_parts-clause-rooms : goal.returns-then-not-read_parts-clause-rooms
returns-then-not-read_parts-clause-rooms g c =
    let e = too_few g c (asked g (goal.at.returns-then-not-read_parts-clause-rooms g c).After-split_range-parts) in
    ended_rooms c.args.clock.now c.read_parts.new.clock c.answer_lost.new.clock c.args.segment.now c.read_parts.new.segment c.answer_lost.new.self c.args.asker.caller c.args.asker.number (call_in c.args.slip.now) Lost e

-- ---- the bytes

-- the buffer afterwards
whole : (g : Over) (c : After-deref g) → c.deref.result.now ≡ c.read_parts.new.into
whole g c = c.deref.ensures.value ∙ given_whole c.into_vec-bytes.result.len c.read_parts.new.into c.into_vec-bytes.result.items (c.read_parts.auto.into ∙ c.deref_mut.ensures.len)

pub copy_bytes-told-requires : goal.copy_bytes-told-requires
copy_bytes-told-requires g c =
    let is = asked g (goal.at.copy_bytes-told-requires g c).After-split_range-parts in
    let long = buffers g (goal.at.copy_bytes-told-requires g c).After-deref_mut is in
    long.1 ∙ sym (ap length (whole g c) ∙ c.read_parts.auto.into ∙ long.2)

entered : (g : Over) (c : After-answer g) → c.from_vec.result ≡ c.read_parts.new.into
entered g c = c.from_vec.ensures ∙ given_whole c.into_vec-bytes.result.len c.read_parts.new.into c.into_vec-bytes.result.items (c.read_parts.auto.into ∙ c.deref_mut.ensures.len)

told : (g : Over) (c : After-answer g) → IsReading c.args.segment.now c.args.asker.caller.0 c.args.asker.number c.args.slip.now c.in-Read.off c.in-Read.len → (length c.take_buffers-first.result.0 ≡ c.in-Read.len) × (length c.take_buffers-first.result.1 ≡ c.in-Read.len) × (length c.deref_mut.result.now ≡ c.in-Read.len)
    → c.segment.inside.shape ≡ c.args.segment.now.site.shape
    → IsEnded c.args.clock.now c.read_parts.new.clock c.answer.new.clock c.args.segment.now c.read_parts.new.segment c.answer.new.self c.args.asker.caller c.args.asker.number (call_in c.args.slip.now) (Bytes c.from_vec.result)
told g c is long shape =
    let s = c.args.segment.now in
    let b = c.if-not-read_parts.ensures.brought refl in
    let parts = c.as_slice.result.now in
    let are : parts ≡ parts_of s.site.shape.k s.site.shape.block c.in-Read.off c.in-Read.len =
    c.as_slice.ensures.value ∙ c.split_range-parts.ensures.value ∙ ap (λ (x : Shape). parts_of x.k x.block c.in-Read.off c.in-Read.len) shape in
    bytes_ended s c.read_parts.new.segment c.answer.new.self c.args.asker.caller c.args.asker.number c.args.slip.now c.take_buffers-first.new.self c.in-Read.off c.in-Read.len c.args.clock.now
    c.read_parts.new.clock c.answer.new.clock parts c.from_vec.result c.requires.sound is are (ap length (entered g c) ∙ c.read_parts.auto.into ∙ long.2) b.0 b.1
    (subst (BringsAll s parts) (sym (entered g c)) b.2) (ap (λ (x : Paper). x.call) c.take_buffers-first.ensures.rest) c.answer.ensures.clock c.answer.ensures.follows c.answer.ensures.becomes

pub returns-clause-sound : goal.returns-clause-sound
returns-clause-sound g c =
    let is = asked g (goal.at.returns-clause-sound g c).After-split_range-parts in
    let e = told g c is (buffers g (goal.at.returns-clause-sound g c).After-deref_mut is) (shape_is g (goal.at.returns-clause-sound g c).After-split_range-parts) in
    ended_sound c.args.clock.now c.read_parts.new.clock c.answer.new.clock c.args.segment.now c.read_parts.new.segment c.answer.new.self c.args.asker.caller c.args.asker.number (call_in c.args.slip.now) (Bytes c.from_vec.result) e

pub returns-clause-makes : goal.returns-clause-makes
returns-clause-makes g c =
    let is = asked g (goal.at.returns-clause-makes g c).After-split_range-parts in
    let e = told g c is (buffers g (goal.at.returns-clause-makes g c).After-deref_mut is) (shape_is g (goal.at.returns-clause-makes g c).After-split_range-parts) in
    rw c.answer.ensures.outcome (λ w setting. ended_makes w c.args.clock.now c.read_parts.new.clock c.answer.new.clock c.args.segment.now c.read_parts.new.segment c.answer.new.self c.args.asker.caller c.args.asker.number (call_in c.args.slip.now) (Bytes c.from_vec.result) e setting)

pub returns-clause-outcome : goal.returns-clause-outcome
returns-clause-outcome g c =
    let is = asked g (goal.at.returns-clause-outcome g c).After-split_range-parts in
    let e = told g c is (buffers g (goal.at.returns-clause-outcome g c).After-deref_mut is) (shape_is g (goal.at.returns-clause-outcome g c).After-split_range-parts) in
    rw c.answer.ensures.outcome (ended_outcome c.args.clock.now c.read_parts.new.clock c.answer.new.clock c.args.segment.now c.read_parts.new.segment c.answer.new.self c.args.asker.caller c.args.asker.number (call_in c.args.slip.now) (Bytes c.from_vec.result) c.answer.new.slip e (ap (λ (x : Paper). x.reply) c.answer.ensures.slip
    ∙ ap (λ (l : List ℕ). Some (Bytes l)) (c.copy_bytes-told.ensures ∙ whole g (goal.at.returns-clause-outcome g c).After-deref ∙ sym (entered g c))))

pub returns-clause-costs : goal.returns-clause-costs
returns-clause-costs g c =
    let is = asked g (goal.at.returns-clause-costs g c).After-split_range-parts in
    let e = told g c is (buffers g (goal.at.returns-clause-costs g c).After-deref_mut is) (shape_is g (goal.at.returns-clause-costs g c).After-split_range-parts) in
    ended_read c.args.clock.now c.read_parts.new.clock c.answer.new.clock c.args.segment.now c.read_parts.new.segment c.answer.new.self c.args.asker.caller c.args.asker.number (call_in c.args.slip.now) (Bytes c.from_vec.result) e

pub returns-clause-rooms : goal.returns-clause-rooms
returns-clause-rooms g c =
    let is = asked g (goal.at.returns-clause-rooms g c).After-split_range-parts in
    let e = told g c is (buffers g (goal.at.returns-clause-rooms g c).After-deref_mut is) (shape_is g (goal.at.returns-clause-rooms g c).After-split_range-parts) in
    ended_rooms c.args.clock.now c.read_parts.new.clock c.answer.new.clock c.args.segment.now c.read_parts.new.segment c.answer.new.self c.args.asker.caller c.args.asker.number (call_in c.args.slip.now) (Bytes c.from_vec.result) e
