use Rattle.std.proofs.Common.{◌≡◌, None, Option, List, ℕ, sym, ◌∙◌, subst, ap, replicate}
use Rattle.cod_board.specs.declared.kill.Kill.{Kill as Killed}
use Rattle.cod_script.specs.Script.{Script}
use Rattle.cod_replay.specs.Standing.{IsFresh, IsKept}
use Rattle.cod_replay.specs.State.{course_of, course_over, fenced}
use Rattle.cod_replay.proofs.Dating.{dated_of}
use Rattle.cod_replay.proofs.Starting.{first_course, first_is_fresh, first_stands, first_state, first_world}
use Rattle.cod_replay.proofs.replay.Replay.build.Goals as goal

none_up : (kills : List (Option Killed)) (n nodes : ℕ) → kills ≡ replicate n None → n ≡ nodes → kills ≡ replicate nodes None
none_up kills n nodes is same = is ∙ ap (λ (k : ℕ). replicate k None) same

pub players-requires : goal.players-requires
players-requires g c = dated_of c.args.scenario c.segments-sound.ensures.sound

pub invariant_of-result : goal.invariant_of-result
invariant_of-result g c =
    let regions = g.H.Shelf.regions c.args.shelf in
    let up = none_up c.in_ok-board.board c.nodes.result c.args.scenario.nodes c.in_ok-board.ensures c.nodes.ensures in
    subst (λ (x : Script). IsKept (first_state x regions c.in_ok-board.board c.stripes.new.pools c.in_ok-stripes.stripes.items c.in_ok-players.players.items)
    c.players.new.scenario c.in_ok-bench.bench) (sym c.of-whole.ensures)
    (record {
      stands = first_stands c.args.scenario regions c.in_ok-board.board c.stripes.new.pools c.in_ok-stripes.stripes.items c.in_ok-players.players.items
          c.segments-sound.ensures.sound c.in_ok-stripes.ensures c.in_ok-players.ensures.players up;
      bare = c.in_ok-players.ensures.rest;
      bench = c.in_ok-bench.ensures ∙ c.geometry.ensures;
    })

pub returns-clause-course : goal.returns-clause-course
returns-clause-course g c =
    let regions = g.H.Shelf.regions c.args.shelf in
    subst (λ (x : Script). course_of (first_state x regions c.in_ok-board.board c.stripes.new.pools c.in_ok-stripes.stripes.items c.in_ok-players.players.items)
    ≡ course_over c.args.scenario (fenced c.args.scenario.nodes regions)) (sym c.of-whole.ensures)
    (first_course c.args.scenario regions c.in_ok-board.board c.stripes.new.pools c.in_ok-stripes.stripes.items c.in_ok-players.players.items)

pub returns-clause-world : goal.returns-clause-world
returns-clause-world g c =
    let regions = g.H.Shelf.regions c.args.shelf in
    let up = none_up c.in_ok-board.board c.nodes.result c.args.scenario.nodes c.in_ok-board.ensures c.nodes.ensures in
    first_world c.args.scenario regions c.in_ok-board.board c.stripes.new.pools c.in_ok-stripes.stripes.items c.in_ok-players.players.items c.in_ok-stripes.ensures
    c.in_ok-players.ensures.players up

pub returns-clause-fresh : goal.returns-clause-fresh
returns-clause-fresh g c =
    let regions = g.H.Shelf.regions c.args.shelf in
    let up = none_up c.in_ok-board.board c.nodes.result c.args.scenario.nodes c.in_ok-board.ensures c.nodes.ensures in
    subst (λ (x : Script). IsFresh (first_state x regions c.in_ok-board.board c.stripes.new.pools c.in_ok-stripes.stripes.items c.in_ok-players.players.items)) (sym c.of-whole.ensures)
    (first_is_fresh c.args.scenario regions c.in_ok-board.board c.stripes.new.pools c.in_ok-stripes.stripes.items c.in_ok-players.players.items c.in_ok-stripes.ensures
    c.in_ok-players.ensures.players up)
