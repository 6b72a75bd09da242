use Rattle.cod_board.proofs.Lists.{kill_adds, kill_known, kill_others, kill_keeps, inside_list}
use Rattle.cod_board.proofs.pass.BoardPassBoard.kill.Goals as goal

pub kill-requires-clause-node : goal.kill-requires-clause-node
kill-requires-clause-node c = inside_list c.args.self.now.board.now.words c.args.node.0 c.args.self.now.seat.now.knows.seen c.requires.node

pub returns-clause-known : goal.returns-clause-known
returns-clause-known c =
    let n = c.args.self.now.board.now.words in
    let s = c.args.self.now.seat.now in
    kill_known n c.args.node.0 s c.kill.new.seat (inside_list n c.args.node.0 s.knows.seen c.requires.node) (kill_adds c.args.node.0 c.args.kill c.kill.result s c.kill.new.seat c.kill.ensures.seat)

pub returns-clause-others : goal.returns-clause-others
returns-clause-others c =
    let n = c.args.self.now.board.now.words in
    let s = c.args.self.now.seat.now in
    kill_others n c.args.node.0 s c.kill.new.seat (inside_list n c.args.node.0 s.knows.seen c.requires.node) (kill_adds c.args.node.0 c.args.kill c.kill.result s c.kill.new.seat c.kill.ensures.seat)

pub returns-clause-keeps : goal.returns-clause-keeps
returns-clause-keeps c =
    let s = c.args.self.now.seat.now in
    kill_keeps c.args.self.now.board.now.words c.args.node.0 s c.kill.new.seat (kill_adds c.args.node.0 c.args.kill c.kill.result s c.kill.new.seat c.kill.ensures.seat)
