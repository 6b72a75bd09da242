use Rattle.std.proofs.Common.{◌≤◌, sym, ◌∙◌, subst}
use Rattle.cod_advance.specs.Histories.{Takes}
use Rattle.cod_turns.specs.Rounds.{IsProgress}
use Rattle.cod_turns.specs.Turns.{Turn}
use Rattle.cod_turns.specs.declared.turned.Turned.{Turned}
use Rattle.cod_turns.specs.declared.turned.Turned.TheVariants as turned
use Rattle.cod_replay.specs.State.{course_of, moment_of, most_of, State, work_of, world_in}
use Rattle.cod_replay.proofs.Turning.{end_is_turn, end_takes, fail_is_progress, fail_is_turn, fail_takes, serve_is_progress, serve_is_turn, serve_stands, serve_takes}
use Rattle.cod_replay.proofs.replay.Replay.turn.Goals as goal

pub returns-in-Nothing-clause-turn : goal.returns-in-Nothing-clause-turn
returns-in-Nothing-clause-turn g c =
    end_is_turn c.args.self.now c.args.client c.due.ensures.stands (rw c.count.ensures.plays c.requires) (sym c.due.ensures.due ∙ c.in-Nothing.is)

pub returns-in-Fail-clause-turn : goal.returns-in-Fail-clause-turn
returns-in-Fail-clause-turn g c =
    subst (λ (u : State). Turn (course_of c.args.self.now) c.args.client (world_in c.args.self.now) (world_in u) turned.Killed) (sym c.fail.ensures)
    (fail_is_turn c.args.self.now c.args.client c.in-Fail.line c.in-Fail.node c.due.ensures.stands (rw c.count.ensures.plays c.requires) (sym c.due.ensures.due ∙ c.in-Fail.is))

pub returns-in-Fail-clause-work : goal.returns-in-Fail-clause-work
returns-in-Fail-clause-work g c =
    subst (λ (u : State). work_of u ≤ most_of c.args.self.now) (sym c.fail.ensures)
    (fail_is_progress c.args.self.now c.args.client c.in-Fail.line c.in-Fail.node c.due.ensures.stands (rw c.count.ensures.plays c.requires)
    (sym c.due.ensures.due ∙ c.in-Fail.is))

pub returns-in-Call-clause-turn : goal.returns-in-Call-clause-turn
returns-in-Call-clause-turn g c =
    subst (λ (t : Turned). Turn (course_of c.args.self.now) c.args.client (world_in c.args.self.now) (world_in c.serve.new.self) t) (sym c.turn_of.ensures)
    (serve_is_turn c.args.self.now c.serve.new.self c.args.client c.in-Call.seg c.serve.result c.due.ensures.stands (rw c.count.ensures.plays c.requires)
    (sym c.due.ensures.due ∙ c.in-Call.is) c.serve.ensures)

pub returns-in-Call-clause-work : goal.returns-in-Call-clause-work
returns-in-Call-clause-work g c =
    subst (λ (t : Turned). IsProgress (most_of c.args.self.now) t (work_of c.args.self.now) (work_of c.serve.new.self)) (sym c.turn_of.ensures)
    (serve_is_progress c.args.self.now c.serve.new.self c.args.client c.in-Call.seg c.serve.result c.due.ensures.stands (rw c.count.ensures.plays c.requires)
    (sym c.due.ensures.due ∙ c.in-Call.is) c.serve.ensures)

pub returns-in-Call-clause-segments : goal.returns-in-Call-clause-segments
returns-in-Call-clause-segments g c =
    (serve_stands c.args.self.now c.serve.new.self c.args.client c.in-Call.seg c.serve.result c.due.ensures.stands (rw c.count.ensures.plays c.requires)
    (sym c.due.ensures.due ∙ c.in-Call.is) c.serve.ensures).moment.are

pub returns-in-Nothing-clause-takes : goal.returns-in-Nothing-clause-takes
returns-in-Nothing-clause-takes g c =
    end_takes c.args.self.now c.args.client c.due.ensures.stands (rw c.count.ensures.plays c.requires) (sym c.due.ensures.due ∙ c.in-Nothing.is)

pub returns-in-Fail-clause-takes : goal.returns-in-Fail-clause-takes
returns-in-Fail-clause-takes g c =
    subst (λ (u : State). Takes (course_of c.args.self.now) c.args.client (moment_of c.args.self.now) (moment_of u)) (sym c.fail.ensures)
    (fail_takes c.args.self.now c.args.client c.in-Fail.line c.in-Fail.node c.due.ensures.stands (rw c.count.ensures.plays c.requires) (sym c.due.ensures.due ∙ c.in-Fail.is))

pub returns-in-Call-clause-takes : goal.returns-in-Call-clause-takes
returns-in-Call-clause-takes g c =
    serve_takes c.args.self.now c.serve.new.self c.args.client c.in-Call.seg c.serve.result c.due.ensures.stands (rw c.count.ensures.plays c.requires)
    (sym c.due.ensures.due ∙ c.in-Call.is) c.serve.ensures
