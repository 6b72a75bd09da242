use Rattle.std.proofs.Common.{arith}
use Rattle.cod_record.proofs.Zeros.{zeros_more}
use Rattle.cod_record.proofs.runs.zeros_end.Goals as goal

pub zeros-preserved : goal.zeros-preserved
zeros-preserved c = record {
  low = omega (arith, c.zeros.invariant.low);
  high = omega (arith, c.zeros-test.true);
  zeros = zeros_more c.args.bytes.now c.args.at c.zeros.end c.zeros.invariant.low c.zeros-test.true c.if-bytes-end-eq0.true c.zeros.invariant.zeros;
}
