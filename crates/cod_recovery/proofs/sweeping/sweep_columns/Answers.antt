use Rattle.std.proofs.Common.{◌≡◌, ℕ, ap, ◌∙◌, subst, arith}
use Rattle.cod_seg.specs.Runs.{Runs}
use Rattle.cod_seg.specs.Seg.{Seg}
use Rattle.cod_recovery.specs.Sweeping.{Rounds}
use Rattle.cod_recovery.proofs.Sweeps.{asks_column, sweeping_on, sweeping_starts}
use Rattle.cod_recovery.proofs.sweeping.sweep_columns.Goals as goal

pub loop-col-init : goal.loop-col-init
loop-col-init g c = (
  sweeping_starts (g.B.Board.kills c.args.board.now) c.args.clock.now c.args.segment.now c.requires.sound,
  c.requires.board.1,
  g.met.B.Board.same_self c.args.board.now,
  omega arith,
)

pub sweep_column-requires-clause-col : goal.sweep_column-requires-clause-col
sweep_column-requires-clause-col g c =
    let end : c.n-col-end.result ≡ c.args.segment.now.site.shape.n = c.n-col-end.ensures ∙ ap (λ (x : Seg). x.site.shape.n) c.segment.view_is in
    let test = c.loop-col-test.true in
    (asks_column (g.B.Board.kills c.args.board.now) (g.B.Board.kills c.loop-col.board) c.loop-col.col c.args.clock.now c.loop-col.clock c.args.segment.now c.loop-col.segment
    c.requires.sound c.requires.board.0 (omega (arith, end, test)) c.requires.room c.loop-col.invariant.0).0

pub sweep_column-requires-clause-node : goal.sweep_column-requires-clause-node
sweep_column-requires-clause-node g c =
    let end : c.n-col-end.result ≡ c.args.segment.now.site.shape.n = c.n-col-end.ensures ∙ ap (λ (x : Seg). x.site.shape.n) c.segment.view_is in
    let test = c.loop-col-test.true in
    (asks_column (g.B.Board.kills c.args.board.now) (g.B.Board.kills c.loop-col.board) c.loop-col.col c.args.clock.now c.loop-col.clock c.args.segment.now c.loop-col.segment
    c.requires.sound c.requires.board.0 (omega (arith, end, test)) c.requires.room c.loop-col.invariant.0).1

pub sweep_column-requires-clause-ready : goal.sweep_column-requires-clause-ready
sweep_column-requires-clause-ready g c = c.loop-col.invariant.1

pub sweep_column-requires-clause-room : goal.sweep_column-requires-clause-room
sweep_column-requires-clause-room g c =
    let end : c.n-col-end.result ≡ c.args.segment.now.site.shape.n = c.n-col-end.ensures ∙ ap (λ (x : Seg). x.site.shape.n) c.segment.view_is in
    let test = c.loop-col-test.true in
    (asks_column (g.B.Board.kills c.args.board.now) (g.B.Board.kills c.loop-col.board) c.loop-col.col c.args.clock.now c.loop-col.clock c.args.segment.now c.loop-col.segment
    c.requires.sound c.requires.board.0 (omega (arith, end, test)) c.requires.room c.loop-col.invariant.0).2

pub loop-col-preserved : goal.loop-col-preserved
loop-col-preserved g c =
    let end : c.n-col-end.result ≡ c.args.segment.now.site.shape.n = c.n-col-end.ensures ∙ ap (λ (x : Seg). x.site.shape.n) c.segment.view_is in
    let test = c.loop-col-test.true in
    let told = c.sweep_column.ensures.board in (
      sweeping_on (g.B.Board.kills c.args.board.now) (g.B.Board.kills c.loop-col.board) (g.B.Board.kills c.sweep_column.new.board) c.loop-col.col c.args.clock.now c.loop-col.clock
          c.sweep_column.new.clock c.args.segment.now c.loop-col.segment c.sweep_column.new.segment (omega (arith, end, test)) told.0 told.1 c.loop-col.invariant.0
          c.sweep_column.ensures.swept,
      told.2,
      g.met.B.Board.same_later c.args.board.now c.loop-col.board c.sweep_column.new.board c.loop-col.invariant.2 told.3,
      omega (arith, test),
    )

pub returns-clause-swept : goal.returns-clause-swept
returns-clause-swept g c = λ later w r keeps setting known seen.
    let end : c.n-col-end.result ≡ c.args.segment.now.site.shape.n = c.n-col-end.ensures ∙ ap (λ (x : Seg). x.site.shape.n) c.segment.view_is in
    let test = c.loop-col-test.false in
    let within = c.loop-col.invariant.3 in
    let all : c.loop-col.col ≡ c.args.segment.now.site.shape.n = omega (arith, end, test, within) in
    subst (λ (m : ℕ). Rounds w r m c.args.clock.now c.loop-col.clock c.args.segment.now c.loop-col.segment) all (c.loop-col.invariant.0.rounds later w r keeps setting known seen)

pub returns-clause-runs : goal.returns-clause-runs
returns-clause-runs g c =
    let end : c.n-col-end.result ≡ c.args.segment.now.site.shape.n = c.n-col-end.ensures ∙ ap (λ (x : Seg). x.site.shape.n) c.segment.view_is in
    let test = c.loop-col-test.false in
    let within = c.loop-col.invariant.3 in
    let all : c.loop-col.col ≡ c.args.segment.now.site.shape.n = omega (arith, end, test, within) in
    subst (λ (m : ℕ). Runs 0 m c.args.segment.now c.loop-col.segment) all c.loop-col.invariant.0.runs

pub returns-clause-rooms : goal.returns-clause-rooms
returns-clause-rooms g c = c.loop-col.invariant.0.rooms

pub returns-clause-board : goal.returns-clause-board
returns-clause-board g c = (c.loop-col.invariant.0.size, c.loop-col.invariant.0.keeps, c.loop-col.invariant.1, c.loop-col.invariant.2)
