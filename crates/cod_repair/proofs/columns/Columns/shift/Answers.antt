use Rattle.std.proofs.Common.{◌∙◌, List, ap, set, false}
use Rattle.std.proofs.lemmas.List.{set-set}
use Rattle.cod_seg.specs.Seg.{Col, col_at}
use Rattle.cod_repair.proofs.columns.Columns.shift.Goals as goal

pub returns-clause-columns : goal.returns-clause-columns
returns-clause-columns g c =
    let cols = c.args.self.now in
    let col = c.args.col in
    c.replace.ensures.columns ∙ ap (λ (cs : List Col). set cs col c.placed.result) c.mark_down-mark.ensures
    ∙ set-set cols col (record (col_at cols col) { is_up = false }) c.placed.result ∙ ap (set cols col) c.placed.ensures
