use Rattle.std.proofs.Common.{◌+◌, List, map, ℕ, sym, ◌∙◌, subst, ap, arith}
use Rattle.cod_types.specs.Limits.{Shape}
use Rattle.cod_script.specs.declared.line.Line.{Line}
use Rattle.cod_replay.specs.Building.{ArePlays}
use Rattle.cod_replay.specs.Tasks.{AreDated, Play, whole_task}
use Rattle.cod_replay.specs.declared.task.Task.{Task}
use Rattle.cod_replay.proofs.Making.{bare_all, bare_more, bare_none, plays_more, plays_none}
use Rattle.cod_replay.proofs.building.players.Goals as goal

abbrev play_of : ℕ → List Task → Play
play_of who tasks = record { caller = who; number = 0; clock = 0; next = 0; tasks = tasks }

pub clients-init : goal.clients-init
clients-init c =
    (subst (λ (l : List Play). ArePlays c.args.scenario.now 0 l) (sym c.new-players.ensures.items) (plays_none c.args.scenario.now), bare_none c.args.scenario.now, c.geometry.ensures)

pub take_lines-lines-requires : goal.take_lines-lines-requires
take_lines-lines-requires c =
    let size = c.clients.invariant.1.size in
    let a = c.clients-test.true in
    let b = c.clients-count.ensures in
    omega (arith, a, b, size)

pub prepare-requires : goal.prepare-requires
prepare-requires c =
    let lines = c.take_lines-lines.ensures.lines ∙ c.clients.invariant.1.left c.clients.client (omega arith) in
    subst (λ (s : Shape). AreDated s c.take_lines-lines.result.items) (sym c.geometry.ensures)
    (subst (λ (l : List Line). AreDated c.args.scenario.now.shape l) (sym lines) (c.requires c.clients.client))

pub clients-preserved : goal.clients-preserved
clients-preserved c =
    let lines = c.take_lines-lines.ensures.lines ∙ c.clients.invariant.1.left c.clients.client (omega arith) in (
      subst (λ (l : List Play). ArePlays c.args.scenario.now (c.clients.client + 1) l) (sym {A = List Play} c.in_ok-push.ensures.items)
          (plays_more c.args.scenario.now c.clients.client c.clients.players.items c.in_ok-prepare.field-0 c.clients.invariant.0
          (c.in_ok-prepare.ensures ∙ ap (λ (s : Shape). play_of c.clients.client (map (whole_task s) c.take_lines-lines.result.items)) c.geometry.ensures
          ∙ ap (λ (l : List Line). play_of c.clients.client (map (whole_task c.args.scenario.now.shape) l)) lines)),
      bare_more c.args.scenario.now c.clients.scenario c.take_lines-lines.new.self c.clients.client c.clients.invariant.1 c.take_lines-lines.ensures.rest,
      c.geometry.ensures,
    )

pub returns-clause-players : goal.returns-clause-players
returns-clause-players c =
    subst (λ (n : ℕ). ArePlays c.args.scenario.now n c.clients.players.items)
    (let a = c.clients-test.false in let b = c.clients-count.ensures in let d = c.clients.auto.client-end in omega (arith, a, b, d)) c.clients.invariant.0

pub returns-clause-rest : goal.returns-clause-rest
returns-clause-rest c =
    let a = c.clients-test.false in
    let b = c.clients-count.ensures in
    bare_all c.args.scenario.now c.clients.scenario c.clients.client c.clients.invariant.1 (omega (arith, a, b))
