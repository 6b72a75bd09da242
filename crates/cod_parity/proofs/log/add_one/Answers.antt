use Rattle.std.proofs.Common.{◌≡◌, ◌+◌, true, false, get_or, refl}
use Rattle.cod_parity.proofs.Records.{sum_in, sum_past}
use Rattle.cod_parity.proofs.log.add_one.Goals as goal

pub returns-then-is_included : goal.returns-then-is_included
returns-then-is_included c = λ l rest same is here x small.
    sum_in c.args.cuts.now l c.args.found (c.args.off + x) (c.args.off + x) (get_or c.args.window.now x 0) (get_or c.add_record.new.window x 0) same (c.if-is_included.ensures.0 refl) refl
    (c.add_record.ensures l rest is here x small)

pub returns-else-is_included : goal.returns-else-is_included
returns-else-is_included c = λ l rest same is here x small.
    sum_past c.args.cuts.now l c.args.found (c.args.off + x) (get_or c.args.window.now x 0) same (λ w. let e : false ≡ true = c.if-is_included.ensures.1 w in let wrong : ⊥ = cc in wrong)
