use Rattle.std.proofs.Common.{[], sym, subst}
use Rattle.cod_parity.specs.Log.{no_lowest}
use Rattle.cod_parity.specs.State.{Means, State}
use Rattle.cod_parity.proofs.Calling.{put_done}
use Rattle.cod_parity.proofs.Holding.{empty_holds}
use Rattle.cod_parity.proofs.Meaning.{base_means}
use Rattle.cod_parity.proofs.column.ParityColumn.put.Goals as goal

pub returns-clause-puts : goal.returns-clause-puts
unfolding no_lowest
returns-clause-puts g c =
    rw (← c.self.view_is) (put_done _ c.args.base.now (g.R.Region.device c.write_at.new.self) c.write_at.ensures.same c.in_ok-write_at.ensures.content c.in_ok-write_at.ensures.cause.kept)

pub returns-clause-means : goal.returns-clause-means
returns-clause-means g c = λ was records means.
    subst (λ (s : State). Means s c.args.base.now []) (sym (returns-clause-puts g c)) (base_means c.args.self.now c.args.base.now was records c.requires.base means)

pub returns-clause-holds : goal.returns-clause-holds
returns-clause-holds g c = λ was records means cuts. empty_holds cuts c.args.base.now _ (returns-clause-means g c was records means)
