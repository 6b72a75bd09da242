use Rattle.std.proofs.Common.{arith}
use Rattle.cod_scenario.proofs.LineCount.{reads_lines}
use Rattle.cod_scenario.proofs.reading.read.Goals as goal

pub returns : goal.returns
returns c =
    rw (reads_lines c.args.text.now c.in_ok-all_lines.field-0 (omega (arith, c.if-text-gt-MOST_BYTES.false)) c.in_ok-all_lines.ensures.0 c.in_ok-all_lines.ensures.1) c.finish.ensures
