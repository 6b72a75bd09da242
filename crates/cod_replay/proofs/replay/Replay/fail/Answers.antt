use Rattle.std.proofs.Common.{◌≡◌, refl, sym, subst, ap}
use Rattle.cod_replay.specs.State.{State}
use Rattle.cod_replay.specs.Standing.{Stands}
use Rattle.cod_replay.proofs.Turning.{fail_left, fail_line, fail_stands, failed_is, kept_on, play_is}
use Rattle.cod_replay.proofs.replay.Replay.fail.Goals as goal

stands : (was now : State) → was ≡ now → Stands was → Stands now
stands was now view st = subst Stands view st

pub kill-requires-clause-node : goal.kill-requires-clause-node
kill-requires-clause-node g c =
    let st = stands _ c.args.self.now c.self.view_is c.self.invariant.stands in
    let low = (fail_line c.args.self.now c.args.client c.args.line c.args.node st c.requires.client c.requires.due).1 in
    rw (ap (λ (s : State). s.kills) c.self.view_is, st.board) low

pub kill-requires-clause-line : goal.kill-requires-clause-line
kill-requires-clause-line g c =
    let st = stands _ c.args.self.now c.self.view_is c.self.invariant.stands in
    (fail_line c.args.self.now c.args.client c.args.line c.args.node st c.requires.client c.requires.due).0

pub go_on-requires : goal.go_on-requires
go_on-requires g c =
    let st = stands _ c.args.self.now c.self.view_is c.self.invariant.stands in
    rw (play_is _ c.args.self.now c.self.view_is c.args.client c.requires.client c.index_mut-player.result.now c.index_mut-player.ensures.value)
    (fail_left c.args.self.now c.args.client c.args.line c.args.node st c.requires.client c.requires.due)

pub invariant_of-self : goal.invariant_of-self
invariant_of-self g c =
    let st = stands _ c.args.self.now c.self.view_is c.self.invariant.stands in
    let same = failed_is _ c.args.self.now c.self.view_is c.args.client c.requires.client c.index_mut-player.result.now c.index_mut-player.ensures.value c.args.line
    c.clock.result c.clock_on_board-clock.result c.args.node c.kill.new.self c.go_on.new.self c.clock.ensures c.clock_on_board-clock.ensures
    (c.kill.ensures.alone refl) c.go_on.ensures in
    kept_on _ _ c.self.inside.scenario c.self.inside.bench c.self.invariant refl
    (subst Stands (sym same) (fail_stands c.args.self.now c.args.client c.args.line c.args.node st c.requires.client c.requires.due))

pub returns : goal.returns
returns g c =
    failed_is _ c.args.self.now c.self.view_is c.args.client c.requires.client c.index_mut-player.result.now c.index_mut-player.ensures.value c.args.line
    c.clock.result c.clock_on_board-clock.result c.args.node c.kill.new.self c.go_on.new.self c.clock.ensures c.clock_on_board-clock.ensures
    (c.kill.ensures.alone refl) c.go_on.ensures
