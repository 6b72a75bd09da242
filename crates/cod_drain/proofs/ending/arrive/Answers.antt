use Rattle.std.proofs.Common.{◌≡◌, ◌∙◌, List, ◌∷◌, sym, ap, subst}
use Rattle.cod_place.specs.Room.{Room}
use Rattle.cod_seg.specs.Seg.{Seg}
use Rattle.cod_segment.specs.Events.{Balances, rooms_of}
use Rattle.cod_drain.proofs.Endings.{newest_after}
use Rattle.cod_drain.proofs.ending.arrive.Goals as goal

pub answer-requires-clause-newest : goal.answer-requires-clause-newest
answer-requires-clause-newest g c =
    let before : c.settle-node.new.segment.log ≡ c.args.segment.now.log = ap (λ (x : Seg). x.log) c.settle-node.ensures.becomes in
    newest_after c.args.segment.now c.settle-node.new.segment c.enter.new.segment c.args.asker.caller.0 c.args.asker.number c.enter.new.clock c.args.plan.col c.settle-node.result before c.enter.ensures.becomes
    c.requires.slip.newest

pub returns-clause-balance : goal.returns-clause-balance
returns-clause-balance g c =
    let rooms : rooms_of c.answer.new.self ≡ rooms_of c.settle-node.new.segment = ap rooms_of c.answer.ensures.becomes ∙ ap rooms_of c.enter.ensures.becomes in
    subst (λ (l : List Room). Balances (g.P.Pools.free c.args.pools.now) (g.P.Pools.free c.settle-node.new.pools) (c.args.target.room ∷ rooms_of c.args.segment.now) l) (sym rooms) c.settle-node.ensures.balance
