use Rattle.std.proofs.Common.{ℕ, suc, ◌∙◌, sym, subst}
use Rattle.cod_turns.specs.Turns.{Course, AllEnded}
use Rattle.cod_turns.specs.Rounds.{round, Takings, turns_of}
use Rattle.cod_turns.proofs.Rounding.{round_as, run_begins, run_goes_on, run_is, rounds_fall, takings_join}
use Rattle.cod_turns.proofs.machine.run.Goals as goal

pub rounds-init : goal.rounds-init
rounds-init g c =
    let x = g.M.Machine.course c.args.m.now in
    let most = g.M.Machine.most c.args.m.now in
    let w = g.M.Machine.world c.args.m.now in
    let v = g.M.Machine.world c.scheduled_turns.new.m in
    let a = g.M.Machine.work c.args.m.now in
    let b = g.M.Machine.work c.scheduled_turns.new.m in
    record {
      run = (0, run_begins x most w v a b c.requires.calls c.scheduled_turns.ensures.turns, c.scheduled_turns.ensures.takes);
      course = c.scheduled_turns.ensures.course;
      most = c.scheduled_turns.ensures.most;
    }

pub rounds-smaller : goal.rounds-smaller
rounds-smaller g c =
    let x = g.M.Machine.course c.args.m.now in
    let most = g.M.Machine.most c.args.m.now in
    let y = g.M.Machine.course c.rounds.m in
    let w = g.M.Machine.world c.rounds.m in
    let v = g.M.Machine.world c.one_round.new.m in
    let a = g.M.Machine.work c.rounds.m in
    let b = g.M.Machine.work c.one_round.new.m in
    let p = c.rounds.invariant.course in
    let t = round_as y x (g.M.Machine.most c.rounds.m) most w v a b p c.rounds.invariant.most c.one_round.ensures.turns in
    rounds_fall x most w v a b c.rounds.invariant.run.1.opened t
    (λ ended. let e = c.is_ended.ensures.1 (subst (λ (k : Course). AllEnded k.script w) (sym p) ended) in let f = c.rounds-test.true in cc)

pub rounds-preserved : goal.rounds-preserved
rounds-preserved g c =
    let x = g.M.Machine.course c.args.m.now in
    let most = g.M.Machine.most c.args.m.now in
    let y = g.M.Machine.course c.rounds.m in
    let w = g.M.Machine.world c.rounds.m in
    let v = g.M.Machine.world c.one_round.new.m in
    let a = g.M.Machine.work c.rounds.m in
    let b = g.M.Machine.work c.one_round.new.m in
    let p = c.rounds.invariant.course in
    let t = round_as y x (g.M.Machine.most c.rounds.m) most w v a b p c.rounds.invariant.most c.one_round.ensures.turns in
    let so_far = c.rounds.invariant.run in
    let took = subst (λ (k : Course). Takings (g.M.Machine.takes k) (round k.script) c.rounds.m c.one_round.new.m) p c.one_round.ensures.takes in
    record {
      run = (
        suc so_far.0,
        run_goes_on x most so_far.0 (g.M.Machine.world c.args.m.now) w v a b so_far.1
            (λ ended. let e = c.is_ended.ensures.1 (subst (λ (k : Course). AllEnded k.script w) (sym p) ended) in let f = c.rounds-test.true in cc) t,
        takings_join (g.M.Machine.takes x) (turns_of x.script so_far.0) (round x.script) c.args.m.now c.rounds.m c.one_round.new.m so_far.2 took,
      );
      course = c.one_round.ensures.course ∙ p;
      most = c.one_round.ensures.most ∙ c.rounds.invariant.most;
    }

pub returns-clause-run : goal.returns-clause-run
returns-clause-run g c =
    let x = g.M.Machine.course c.args.m.now in
    let w = g.M.Machine.world c.rounds.m in
    let p = c.rounds.invariant.course in
    let f = c.rounds-test.false in
    let so_far = c.rounds.invariant.run in
    let ran = run_is x so_far.0 (g.M.Machine.world c.args.m.now) w so_far.1 (subst (λ (k : Course). AllEnded k.script w) p (c.is_ended.ensures.0 (cc))) in
    (ran.0, subst (λ (n : ℕ). Takings (g.M.Machine.takes x) (turns_of x.script n) c.args.m.now c.rounds.m) ran.1 so_far.2)
