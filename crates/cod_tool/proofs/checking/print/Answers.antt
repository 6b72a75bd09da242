use Rattle.std.proofs.Common.{decimal, length, sym}
use Rattle.cod_print.proofs.Fronts.{puts_same}
use Rattle.cod_tool.specs.Fit.{calls_of}
use Rattle.cod_tool.proofs.Plans.{check_parts}
use Rattle.cod_tool.proofs.checking.print.Goals as goal

pub returns-clause-text : goal.returns-clause-text
returns-clause-text g c =
    let x = c.args.names.now in
    puts_same c.counts.result _ _ _ _ (sym (check_parts (decimal (length x.segments)) (decimal (length x.clients)) (decimal (calls_of x))))
    (rw (c.segments.ensures.count, c.clients.ensures, c.all_calls.ensures) at c.counts.ensures.text)
