use Rattle.std.proofs.Common.{List, ◌++◌, cond, refl, sym, ap, subst, Some}
use Rattle.cod_types.specs.declared.call.Reply.TheVariants.{Clear, Lost, NoMem, NoSpare, Shifted}
use Rattle.cod_types.specs.declared.reasons.Reason.{Reason}
use Rattle.cod_chronicle.specs.Legal.{node_id}
use Rattle.cod_chronicle.specs.Said.{bytes_of, is_over, node_of}
use Rattle.cod_segment.specs.Events.{Balances, rooms_of}
use Rattle.cod_segment.proofs.Looking.{looked_some}
use Rattle.cod_drain.specs.Copies.{HasSought, rooms_at}
use Rattle.cod_drain.specs.Ends.{MayEnd}
use Rattle.cod_drain.specs.declared.trying.Tried.{Tried}
use Rattle.cod_drain.proofs.Endings.{call_is, clear_answer, clear_looked, clear_quiet, clear_seen, kept_ends, memory_answer, moved_ends, spare_answer}
use Rattle.cod_drain.proofs.ending.finish.Goals as goal

pub returns-in-Copied-clause-ends : goal.returns-in-Copied-clause-ends
returns-in-Copied-clause-ends g c = λ before now keeps may.
    let s = c.args.segment.now in
    let asked = call_is s c.args.plan.col c.args.asker.caller.0 c.args.asker.number c.args.slip.now c.requires.slip in
    let copied = subst (λ (x : Tried g.row.R.Denot). MayEnd c.args.plan now c.args.reasons s x) c.in-Copied.is may in
    let ends = moved_ends c.args.plan before now c.in-Copied.target c.args.asker.caller c.args.asker.number c.args.clock.now c.arrive.new.clock s c.arrive.new.segment c.args.slip.now c.arrive.new.slip c.requires.sound
    keeps copied.0 copied.1 c.requires.slip c.arrive.ensures.enters in
    rw (asked, c.arrive.ensures.outcome) ends

pub returns-in-Copied-clause-balance : goal.returns-in-Copied-clause-balance
returns-in-Copied-clause-balance g c =
    subst (λ (x : Tried g.row.R.Denot). Balances (g.P.Pools.free c.args.pools.now) (g.P.Pools.free c.arrive.new.pools) (rooms_at x ++ rooms_of c.args.segment.now) (rooms_of c.arrive.new.segment)) (sym c.in-Copied.is)
    c.arrive.ensures.balance

pub returns-in-Failed-clause-ends : goal.returns-in-Failed-clause-ends
returns-in-Failed-clause-ends g c = λ before now keeps may.
    let s = c.args.segment.now in
    let i = c.args.plan.col in
    let asked = call_is s i c.args.asker.caller.0 c.args.asker.number c.args.slip.now c.requires.slip in
    let over = is_over s.site s.log in
    let failed = subst (λ (x : Tried g.row.R.Denot). MayEnd c.args.plan now c.args.reasons s x) c.in-Failed.is may in
    let ends = kept_ends i before now c.args.asker.caller c.args.asker.number c.answer_clear.new.clock c.args.clock.now (cond over Lost Clear) s c.answer_clear.new.segment c.args.slip.now c.answer_clear.new.slip
    c.requires.sound c.requires.slip (clear_answer s i c.requires.sound failed)
    (clear_quiet (bytes_of s.site s.log) c.args.asker.caller c.args.asker.number c.answer_clear.new.clock (node_id (node_of s.site s.log i)) over) (λ w setting seen. clear_seen w over)
    c.answer_clear.ensures.clock c.answer_clear.ensures.follows (rw asked at c.answer_clear.ensures.becomes) c.answer_clear.ensures.told in
    rw (asked, c.answer_clear.ensures.outcome) ends

pub returns-in-NoSpare-clause-ends : goal.returns-in-NoSpare-clause-ends
returns-in-NoSpare-clause-ends g c = λ before now keeps may.
    let s = c.args.segment.now in
    let i = c.args.plan.col in
    let asked = call_is s i c.args.asker.caller.0 c.args.asker.number c.args.slip.now c.requires.slip in
    let none = subst (λ (x : Tried g.row.R.Denot). MayEnd c.args.plan now c.args.reasons s x) c.in-NoSpare.is may in
    let ends = kept_ends i before now c.args.asker.caller c.args.asker.number c.answer.new.clock c.args.clock.now (NoSpare c.args.reasons) s c.answer.new.self c.args.slip.now c.answer.new.slip
    c.requires.sound c.requires.slip (spare_answer s i c.args.reasons c.requires.sound none.0 none.1.reasons) refl none.1.seen
    c.answer.ensures.clock c.answer.ensures.follows (rw asked at c.answer.ensures.becomes) (rw c.answer.ensures.slip (ap (λ (r : List Reason). Some (NoSpare r)) c.copy_reasons.ensures)) in
    rw (asked, c.answer.ensures.outcome) ends

pub returns-in-NoMemory-clause-ends : goal.returns-in-NoMemory-clause-ends
returns-in-NoMemory-clause-ends g c = λ before now keeps may.
    let s = c.args.segment.now in
    let i = c.args.plan.col in
    let asked = call_is s i c.args.asker.caller.0 c.args.asker.number c.args.slip.now c.requires.slip in
    let none = subst (λ (x : Tried g.row.R.Denot). MayEnd c.args.plan now c.args.reasons s x) c.in-NoMemory.is may in
    let ends = kept_ends i before now c.args.asker.caller c.args.asker.number c.answer-in-NoMemory.new.clock c.args.clock.now NoMem s c.answer-in-NoMemory.new.self c.args.slip.now c.answer-in-NoMemory.new.slip
    c.requires.sound c.requires.slip (memory_answer s i c.requires.sound none) refl (λ w setting seen. tt)
    c.answer-in-NoMemory.ensures.clock c.answer-in-NoMemory.ensures.follows (rw asked at c.answer-in-NoMemory.ensures.becomes) (rw c.answer-in-NoMemory.ensures.slip refl) in
    rw (asked, c.answer-in-NoMemory.ensures.outcome) ends

-- ---- the free bytes that the reply tells of

pub returns-in-Copied-clause-looked : goal.returns-in-Copied-clause-looked
returns-in-Copied-clause-looked g c = λ since sought.
    looked_some (g.P.Pools.Seen since c.arrive.new.pools) c.arrive.new.slip.reply (Shifted c.args.plan.col c.in-Copied.target.room.node) c.arrive.ensures.enters.told tt

pub returns-in-Failed-clause-looked : goal.returns-in-Failed-clause-looked
returns-in-Failed-clause-looked g c = λ since sought.
    let over = is_over c.args.segment.now.site c.args.segment.now.log in
    clear_looked (g.P.Pools.Seen since c.args.pools.now) over c.answer_clear.new.slip.reply c.answer_clear.ensures.told

pub returns-in-NoSpare-clause-looked : goal.returns-in-NoSpare-clause-looked
returns-in-NoSpare-clause-looked g c = λ since sought.
    let Seen = g.P.Pools.Seen since c.args.pools.now in
    let seen = subst (λ (x : Tried g.row.R.Denot). HasSought Seen c.args.reasons x) c.in-NoSpare.is sought in
    looked_some Seen c.answer.new.slip.reply (NoSpare c.args.reasons) (rw c.answer.ensures.slip (ap (λ (r : List Reason). Some (NoSpare r)) c.copy_reasons.ensures)) seen

pub returns-in-NoMemory-clause-looked : goal.returns-in-NoMemory-clause-looked
returns-in-NoMemory-clause-looked g c = λ since sought.
    looked_some (g.P.Pools.Seen since c.args.pools.now) c.answer-in-NoMemory.new.slip.reply NoMem (rw c.answer-in-NoMemory.ensures.slip refl) tt
