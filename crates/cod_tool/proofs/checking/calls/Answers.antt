use Rattle.std.proofs.Common.{arith}
use Rattle.cod_tool.proofs.Sums.{calls_next}
use Rattle.cod_tool.proofs.checking.calls.Goals as goal

pub loop-line-preserved : goal.loop-line-preserved
loop-line-preserved c = record {
  calls = calls_next c.args.lines.now c.loop-line.line-index c.loop-line.count c.calls_in-count.result c.line-item.result c.loop-line.invariant.calls c.calls_in-count.ensures.calls (omega arith)
      c.line-item.is;
  most = omega (arith, c.loop-line.invariant.most, c.calls_in-count.ensures.most);
}
