use Rattle.std.proofs.Common.{◌≡◌, List, map, sym, ap, ◌∙◌}
use Rattle.cod_print.proofs.Fronts.{puts_same}
use Rattle.cod_seg.specs.Seg.{Seg}
use Rattle.cod_text.specs.Summary.{summary_text}
use Rattle.cod_run.specs.declared.command.Command.{Command}
use Rattle.cod_run.specs.Ends.{End}
use Rattle.cod_run.specs.Runs.{text_of}
use Rattle.cod_run.proofs.serving.print.Goals as goal

pub returns-in-Summary-clause-text : goal.returns-in-Summary-clause-text
returns-in-Summary-clause-text g c =
    let e : End = record { segs = c.args.closed.now.stripes.items; kills = c.args.closed.now.board } in
    let same : summary_text (map (λ (s : Seg). s.log) c.as_slice-stripes.result.now) ≡ text_of c.args.command c.args.names.now e =
    ap (λ (l : List Seg). summary_text (map (λ (s : Seg). s.log) l)) c.as_slice-stripes.ensures.value ∙ ap (λ (k : Command). text_of k c.args.names.now e) (sym c.in-Summary.is) in
    puts_same c.summary.result _ _ _ _ same c.summary.ensures.text
