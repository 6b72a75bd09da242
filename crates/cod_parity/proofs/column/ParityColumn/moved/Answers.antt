use Rattle.std.proofs.Common.{refl, arith}
use Rattle.cod_parity.specs.Log.{no_lowest}
use Rattle.cod_parity.proofs.Meaning.{empty_means}
use Rattle.cod_parity.proofs.Unique.{front_holds}
use Rattle.cod_parity.proofs.column.ParityColumn.moved.Goals as goal

pub returns-clause-means : goal.returns-clause-means
unfolding no_lowest
returns-clause-means g c = λ held told.
    empty_means c.args.g c.args.size c.args.average (g.R.Region.device c.args.region) held told (g.met.R.Region.whole c.args.region held told) (omega (arith, c.requires.whole))

pub returns-clause-holds : goal.returns-clause-holds
returns-clause-holds g c = λ held told cuts.
    front_holds cuts c.args.g.block held _ refl (returns-clause-means g c held told)
