use Rattle.std.proofs.Common.{ap, ◌∙◌, arith}
use Rattle.cod_gen.specs.Drafting.{Draft}
use Rattle.cod_gen.specs.Generated.{round_lines}
use Rattle.cod_gen.proofs.Lining.{line_after}
use Rattle.cod_gen.proofs.Rounds_drawn.{rounds_go_on, rounds_end, round_length}
use Rattle.cod_gen.proofs.draft.Draft.rounds.Goals as goal

pub loop-round-preserved : goal.loop-round-preserved
loop-round-preserved c =
    let now = c.loop-round.self in
    let n = c.loop-round.round in
    let client = c.args.client in
    let one = c.in_ok-round.ensures in
    let line = ap (λ (e : Draft). e.line) one ∙ line_after now (round_lines client n now.state) in
    let few = round_length client n now.state in
    let before = c.loop-round.invariant.line in
    record {
      so_far = rounds_go_on client n c.args.self.now now c.round.new.self c.loop-round.invariant.so_far one;
      line = omega (arith, line, few, before);
    }

pub returns : goal.returns
returns c = λ number first.
    let test = c.loop-round-test.false in
    let end = c.loop-round.auto.round-end in
    rounds_end c.args.client c.loop-round.round c.args.self.now c.loop-round.self (omega (arith, test, end)) c.loop-round.invariant.so_far number first
