use Rattle.cod_board.proofs.Lists.{down_asked, asked_keeps, down_known, down_learned, inside_list}
use Rattle.cod_board.proofs.pass.BoardPassBoard.down.Goals as goal

pub down-requires-clause-node : goal.down-requires-clause-node
down-requires-clause-node c = inside_list c.args.self.now.board.now.words c.args.node.0 c.args.self.now.seat.now.knows.seen c.requires.node

pub returns-clause-known : goal.returns-clause-known
returns-clause-known c =
    let n = c.args.self.now.board.now.words in
    let seen = c.args.self.now.seat.now.knows.seen in
    down_known n c.args.node.0 seen c.down.result (inside_list n c.args.node.0 seen c.requires.node) c.down.ensures.known

pub returns-clause-learned : goal.returns-clause-learned
returns-clause-learned c = down_learned c.args.self.now.board.now.words c.args.node.0 c.down.result c.args.self.now.seat.now c.down.new.seat c.down.ensures.seat c.down.ensures.known

pub returns-clause-keeps : goal.returns-clause-keeps
returns-clause-keeps c =
    let s = c.args.self.now.seat.now in
    asked_keeps c.args.self.now.board.now.words s c.down.new.seat (down_asked s c.down.new.seat c.args.node.0 c.down.result c.down.ensures.seat)
