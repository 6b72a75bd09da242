use Rattle.std.proofs.Common.{◌≡◌, length, sym, ap, ◌∙◌, subst, refl}
use Rattle.cod_board.specs.Seats.{Seated}
use Rattle.cod_script.specs.Script.{Script}
use Rattle.cod_pass.specs.States.{Common, IsPassOf}
use Rattle.cod_cluster.proofs.Passing.{kill_numbers, pass_with}
use Rattle.cod_cluster.proofs.cluster.Cluster.kill.Goals as goal

pub returns-clause-pass : goal.returns-clause-pass
returns-clause-pass g c = λ x common was.
    let here : Common =
    record { turns = c.args.self.now.turns.items; board = c.args.self.now.shared.board; pools = c.args.self.now.shared.pools; regions = g.H.Shelf.regions c.args.self.now.shared.shelf } in
    pass_with x here _ _ c.pass.inside.desk.clock c.kill.new.seat refl (ap (λ (s : Seated). s.of) c.kill.ensures.seat)
    (ap (λ (s : Seated). s.knows.numbers) c.kill.ensures.seat ∙ kill_numbers c.pass.inside.desk.board.knows _ _ c.kill.result) (subst (IsPassOf x here) (sym c.pass.view_is) was)
