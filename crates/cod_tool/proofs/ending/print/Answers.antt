use Rattle.std.proofs.Common.{◌≡◌, ℕ, List, map, refl, ap, ◌∙◌, subst}
use Rattle.std.specs.Io.KnownBytes.{append_known}
use Rattle.std.proofs.lemmas.Result.{err_from_is_err_and}
use Rattle.cod_seg.specs.Seg.{Seg}
use Rattle.cod_print.specs.Puts.{TakesFront}
use Rattle.cod_print.proofs.Fronts.{front_of, puts_behind}
use Rattle.cod_text.specs.Printed.{chronicle_text}
use Rattle.cod_shell.specs.Lines.{end_lines}
use Rattle.cod_shell.proofs.Bare.{chronicle_same}
use Rattle.cod_replay.specs.State.{moment_of}
use Rattle.cod_tool.specs.Ends.{chronicles_of, run_text}
use Rattle.cod_tool.proofs.Bare.{prints_as}
use Rattle.cod_tool.proofs.ending.print.Goals as goal

pub returns-in_err-chronicle-clause-text : goal.returns-in_err-chronicle-clause-text
returns-in_err-chronicle-clause-text g c =
    let p = err_from_is_err_and c.from_residual.result c.from_residual.ensures.1 in
    let s = c.args.replay.now in
    let bare = c.scenario.result.now in
    let same : chronicle_text bare (map (λ (t : Seg). t.log) c.stripes.result.now) ≡ chronicle_text s.script (chronicles_of (moment_of s)) =
    ap (λ (l : List Seg). chronicle_text bare (map (λ (t : Seg). t.log) l)) c.stripes.ensures.segments ∙ chronicle_same s.script bare (prints_as s.script bare c.scenario.ensures) (chronicles_of (moment_of s)) in
    let h = subst (λ (l : List ℕ). TakesFront (g.W.Sink.taken c.args.sink.now) (g.W.Sink.taken c.chronicle.new.sink) l) same c.in_err-chronicle.ensures.text in
    rw p.1 (front_of _ _ (run_text s.script (moment_of s)) (chronicle_text s.script (chronicles_of (moment_of s))) (end_lines s.script s.kills s.segs) refl h)

pub returns-clause-text : goal.returns-clause-text
returns-clause-text g c =
    let s = c.args.replay.now in
    let bare = c.scenario.result.now in
    let same : chronicle_text bare (map (λ (t : Seg). t.log) c.stripes.result.now) ≡ chronicle_text s.script (chronicles_of (moment_of s)) =
    ap (λ (l : List Seg). chronicle_text bare (map (λ (t : Seg). t.log) l)) c.stripes.ensures.segments ∙ chronicle_same s.script bare (prints_as s.script bare c.scenario.ensures) (chronicles_of (moment_of s)) in
    puts_behind c.ends.result _ _ _ (chronicle_text s.script (chronicles_of (moment_of s))) (end_lines s.script s.kills s.segs)
    (c.in_ok-chronicle.ensures.text ∙ ap (append_known (g.W.Sink.taken c.args.sink.now)) same) c.ends.ensures.text
