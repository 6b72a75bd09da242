use Rattle.std.proofs.Common.{◌≡◌, true, false, arith}
use Rattle.cod_parity.proofs.Holding.{idle_means, match_holds}
use Rattle.cod_parity.proofs.Pieces.{idle_length, match_means, match_none_due, under_length}
use Rattle.cod_parity.proofs.column.ParityColumn.merge.Goals as goal

pub returns-then-not-any_due-clause-means : goal.returns-then-not-any_due-clause-means
returns-then-not-any_due-clause-means g c = rw (← c.self.view_is) (λ base records means.
    idle_means _ c.args.cuts.now base records (omega (arith, c.self.invariant.within.data_among_columns, c.self.invariant.within.most_columns))
    (λ due. let e : false ≡ true = c.if-not-any_due.ensures.1 due in let wrong : ⊥ = cc in wrong) means)

pub returns-then-not-any_due-clause-used : goal.returns-then-not-any_due-clause-used
returns-then-not-any_due-clause-used g c = λ v p h.
    idle_length c.args.cuts.now c.args.self.now v p (returns-then-not-any_due-clause-means g c) h

pub returns-clause-means : goal.returns-clause-means
returns-clause-means g c = match_means c.merge_now.result _ c.args.cuts.now c.args.self.now c.merge_now.new.self c.merge_now.ensures.merges

pub returns-clause-holds : goal.returns-clause-holds
returns-clause-holds g c = λ v p h. match_holds c.merge_now.result _ c.args.cuts.now c.args.self.now c.merge_now.new.self v p c.merge_now.ensures.merges h

pub returns-clause-used : goal.returns-clause-used
returns-clause-used g c = λ v p h. under_length c.merge_now.result c.args.cuts.now c.args.self.now c.merge_now.new.self v p (returns-clause-means g c) h

pub returns-clause-none_due : goal.returns-clause-none_due
returns-clause-none_due g c = λ small. match_none_due c.merge_now.result _ c.args.cuts.now c.args.self.now c.merge_now.new.self c.merge_now.ensures.merges small
