use Rattle.std.proofs.Common.{◌≡◌, ◌≤◌, ◌∙◌, ap, arith}
use Rattle.cod_types.specs.Limits.{floor}
use Rattle.cod_predict.specs.Average.{target_size}
use Rattle.cod_parity.specs.State.{State}
use Rattle.cod_parity.proofs.Ticking.{averaged_means, shrinks, shrunk_means}
use Rattle.cod_parity.proofs.Calling.{under_any}
use Rattle.cod_parity.proofs.Holding.{under_merge}
use Rattle.cod_parity.proofs.column.ParityColumn.tick.Goals as goal

pub returns-clause-shrinks : goal.returns-clause-shrinks
returns-clause-shrinks g c =
    shrinks c.cut.result c.args.cuts.now c.args.self.now c.average_use.new.self c.merge.new.self c.cut.new.self c.target-size.result
    (record {
      begun_is = c.average_use.ensures.is;
      shape = c.merge.ensures.same.shape;
      same_size = c.merge.ensures.same.size;
      average = c.merge.ensures.same.average;
      kept = c.cut.ensures.same.1;
      target = c.target-size.ensures.value ∙ ap (λ (s : State). target_size s.shape s.size s.average) c.self.view_is;
    }) c.in_ok-merge.ensures.merges c.cut.ensures.cuts

pub returns-clause-means : goal.returns-clause-means
returns-clause-means g c = λ base records means.
    let shape : c.self.inside.shape ≡ c.args.self.now.shape = ap (λ (s : State). s.shape) c.self.view_is ∙ c.merge.ensures.same.shape ∙ ap (λ (s : State). s.shape) c.average_use.ensures.is in
    let least : floor c.args.self.now.shape ≤ c.target-size.result = rw (← shape) c.target-size.ensures.least in
    let room = c.requires.room base records means in
    shrunk_means c.cut.result c.args.cuts.now c.args.self.now c.merge.new.self c.cut.new.self c.target-size.result base records c.cut.ensures.cuts (omega (arith, room, least))
    (c.in_ok-merge.ensures.means base records (averaged_means c.args.self.now c.average_use.new.self base records c.average_use.ensures.is means))

pub returns-clause-holds : goal.returns-clause-holds
returns-clause-holds g c = λ v p h.
    let shape = c.cut.ensures.same.0 ∙ c.merge.ensures.same.shape ∙ ap (λ (s : State). s.shape) c.average_use.ensures.is in
    under_merge c.cut.result c.args.cuts.now c.args.self.now c.cut.new.self v p (under_any c.cut.result shape) (returns-clause-means g c) h
