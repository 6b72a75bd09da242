use Rattle.std.proofs.Common.{◌≡◌, sym, subst, refl}
use Rattle.cod_script.specs.Script.{Script}
use Rattle.cod_pass.specs.States.{Common, IsPassOf}
use Rattle.cod_cluster.proofs.Passing.{pass_with}
use Rattle.cod_cluster.proofs.cluster.Cluster.meet.Goals as goal

pub returns-clause-pass : goal.returns-clause-pass
returns-clause-pass g c = λ x was.
    let here : Common =
    record { turns = c.args.self.now.turns.items; board = c.args.self.now.shared.board; pools = c.args.self.now.shared.pools; regions = g.H.Shelf.regions c.args.self.now.shared.shelf } in
    pass_with x here _ _ c.max-pass-inside.result c.pass.inside.desk.board refl refl refl (subst (IsPassOf x here) (sym c.pass.view_is) was)
