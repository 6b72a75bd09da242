use Rattle.std.proofs.Common.{◌≡◌, true, false, arith}
use Rattle.cod_parity.proofs.Lowest.{still_none}
use Rattle.cod_parity.proofs.Scan.{low_one}
use Rattle.cod_parity.proofs.log.note_one.Goals as goal

pub returns-then-not-is_included-clause-noted : goal.returns-then-not-is_included-clause-noted
returns-then-not-is_included-clause-noted c = λ l same.
    low_one c.args.cuts.now c.args.lowest.now l c.args.found c.min.result same (λ w. let e : false ≡ true = c.if-not-is_included.ensures.1 w in let wrong : ⊥ = cc in wrong) c.min.ensures

pub returns-then-not-is_included-clause-due : goal.returns-then-not-is_included-clause-due
returns-then-not-is_included-clause-due c = λ due.
    still_none c.args.lowest.now c.args.cuts.now c.args.found.block c.args.found.number c.min.result (λ w. let e : false ≡ true = c.if-not-is_included.ensures.1 w in let wrong : ⊥ = cc in wrong)
    (omega (arith, c.requires)) c.min.ensures due
