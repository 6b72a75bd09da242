use Rattle.std.proofs.Common.{subst}
use Rattle.cod_seg.specs.declared.next.Step.{Step}
use Rattle.cod_segment.specs.Events.{call_in, Costs, request_of}
use Rattle.cod_segment.specs.Exact.{Exactly}
use Rattle.cod_client.proofs.Replies.{asked_looked}
use Rattle.cod_client.proofs.Stepping.{advanced_of, follows_of}
use Rattle.cod_client.proofs.go_on.Goals as goal

pub returns-in_default : goal.returns-in_default
returns-in_default g c =
    let e = c.event-outcome in
    let r = request_of c.args.around.now.caller.0 c.args.around.now.number (call_in c.args.slip.now) in
    record {
      follows = λ w setting seen. follows_of w r c.args.around.now.clock.now e.new.around.clock.now e.result c.args.stripe.now e.new.stripe e.new.slip e.ensures.outcome
          (e.ensures.makes w setting seen)
          (λ none. subst (λ (n : Step). Costs c.args.stripe.now c.args.around.now.caller.0 (call_in c.args.slip.now) n e.new.stripe) c.next_step.ensures (e.ensures.costs none));
      exact = λ w known. subst (λ (n : Step). Exactly w n e.result c.args.stripe.now e.new.stripe) c.next_step.ensures (e.ensures.exact w known);
      outcome = advanced_of r e.new.around.clock.now e.result e.new.stripe c.args.slip.now e.new.slip e.ensures.outcome;
      looked = e.ensures.looked c.sound.ensures;
      rooms = e.ensures.rooms;
      balance = e.ensures.balance;
      lent = e.ensures.lent;
      who = e.ensures.who;
      board = e.ensures.board;
      pools = e.ensures.pools;
    }

pub returns-in-Held-clause-looked : goal.returns-in-Held-clause-looked
returns-in-Held-clause-looked g c =
    asked_looked (g.P.Pools.Seen c.args.around.now.pools.now c.args.around.now.pools.now) c.args.stripe.now c.args.around.now.caller.0 c.args.around.now.number c.args.slip.now
    (call_in c.args.slip.now) c.requires.asked
