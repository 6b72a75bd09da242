use Rattle.std.proofs.Common.{◌<◌, All, ap, sym, refl, subst}
use Rattle.cod_chronicle.specs.Said.{numbers_by}
use Rattle.cod_chronicle.specs.declared.entry.Entry.{Entry}
use Rattle.std.proofs.Common.{List}
use Rattle.cod_seg.specs.Seg.{Seg}
use Rattle.cod_segment.specs.Events.{call_in}
use Rattle.cod_update.proofs.OnCommit.{answered, can_commit, CanCommit, Committed, committed, small_cuts}
use Rattle.cod_update.proofs.committing.commit.Given.{Over}
use Rattle.cod_update.proofs.committing.commit.Goals as goal

pub close-requires-clause-small : goal.close-requires-clause-small
close-requires-clause-small g c = small_cuts c.args.segment.now c.correct.new.segment c.requires.sound c.requires.room c.correct.ensures.becomes

pub close-requires-clause-newest : goal.close-requires-clause-newest
close-requires-clause-newest g c =
    subst (λ (l : List Entry). All (λ m. m < c.args.asker.number) (numbers_by c.args.asker.caller.0 l)) (sym (ap (λ (x : Seg). x.log) c.correct.ensures.becomes)) c.requires.asked.newest

-- what is committed
due : (g : Over) (c : goal.After-close g) → CanCommit c.args.segment.now c.args.asker.caller.0 c.args.asker.number (call_in c.args.slip.now)
due g c = can_commit c.args.segment.now c.args.asker.caller.0 c.args.asker.number c.args.slip.now (call_in c.args.slip.now) c.requires.sound c.requires.asked c.requires.next

done : (g : Over) (c : goal.After-close g)
    → Committed c.args.segment.now c.close.new.segment c.args.asker.caller c.args.asker.number c.args.clock.now c.close.new.clock (call_in c.args.slip.now)
done g c =
    committed c.args.segment.now c.correct.new.segment c.close.new.segment c.args.asker.caller c.args.asker.number c.args.clock.now c.close.new.clock (call_in c.args.slip.now) c.requires.sound (due g c)
    c.correct.ensures.settles c.correct.ensures.becomes c.close.ensures.becomes c.close.ensures.clock c.close.ensures.follows

pub returns-clause-sound : goal.returns-clause-sound
returns-clause-sound g c = (done g c).sound

pub returns-clause-makes : goal.returns-clause-makes
returns-clause-makes g c = λ w setting. rw c.close.ensures.outcome ((done g c).makes w)

pub returns-clause-outcome : goal.returns-clause-outcome
returns-clause-outcome g c =
    rw c.close.ensures.outcome
    (answered c.args.segment.now c.correct.new.segment c.close.new.segment c.args.asker.caller c.args.asker.number c.close.new.clock (call_in c.args.slip.now) c.close.new.slip (due g c)
    c.correct.ensures.settles c.close.ensures.becomes (rw c.close.ensures.slip refl))
