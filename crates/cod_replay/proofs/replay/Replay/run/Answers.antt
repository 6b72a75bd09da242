use Rattle.cod_replay.proofs.Ending.{all_lead, are_calls, are_idle, leaves_nothing}
use Rattle.cod_replay.specs.State.{course_of}
use Rattle.cod_turns.specs.Rounds.{turns_of}
use Rattle.cod_replay.proofs.replay.Replay.run.Goals as goal

pub run-requires-clause-calls : goal.run-requires-clause-calls
run-requires-clause-calls g c = are_calls c.args.self.now c.count.ensures.stands

pub returns-clause-nothing : goal.returns-clause-nothing
returns-clause-nothing g c = leaves_nothing c.args.self.now c.run.new.m c.count-2.ensures.stands c.run.ensures.course c.run.ensures.run.0

pub returns-clause-idle : goal.returns-clause-idle
returns-clause-idle g c =
    are_idle c.run.new.m c.count-2.ensures.stands
    (leaves_nothing c.args.self.now c.run.new.m c.count-2.ensures.stands c.run.ensures.course c.run.ensures.run.0)

pub returns-clause-run : goal.returns-clause-run
returns-clause-run g c = record {
  run = c.run.ensures.run.0;
  leads = all_lead (course_of c.args.self.now) (turns_of (course_of c.args.self.now).script c.run.ensures.run.0.count) c.args.self.now c.run.new.m c.run.ensures.run.1;
}
