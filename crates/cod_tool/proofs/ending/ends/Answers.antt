use Rattle.std.proofs.Common.{◌≡◌, ℕ, List, All, refl, sym, ap, ◌∙◌, subst}
use Rattle.std.specs.List.{flat_map}
use Rattle.std.specs.Io.KnownBytes.{append_known}
use Rattle.std.proofs.lemmas.Result.{err_from_is_err_and}
use Rattle.cod_seg.specs.Seg.{Seg}
use Rattle.cod_print.specs.Puts.{TakesFront}
use Rattle.cod_print.proofs.Fronts.{front_of, puts_behind}
use Rattle.cod_shell.specs.Lines.{columns_text, end_lines, IsNamed, node_lines}
use Rattle.cod_shell.proofs.Bare.{layouts_same}
use Rattle.cod_tool.proofs.Bare.{all_named, prints_as}
use Rattle.cod_tool.proofs.ending.ends.Goals as goal

pub layouts-requires : goal.layouts-requires
layouts-requires g c =
    subst (λ (l : List Seg). All (IsNamed c.scenario.result.now) l) (sym c.stripes.ensures.segments)
    (all_named c.args.replay.now c.scenario.result.now c.scenario.ensures c.stripes.ensures.are)

pub returns-in_err-layouts-clause-text : goal.returns-in_err-layouts-clause-text
returns-in_err-layouts-clause-text g c =
    let p = err_from_is_err_and c.from_residual.result c.from_residual.ensures.1 in
    let s = c.args.replay.now in
    let bare = c.scenario.result.now in
    let same : flat_map (columns_text bare) c.stripes.result.now ≡ flat_map (columns_text s.script) s.segs =
    ap (flat_map (columns_text bare)) c.stripes.ensures.segments ∙ layouts_same s.script bare (prints_as s.script bare c.scenario.ensures) s.segs in
    let h = subst (λ (l : List ℕ). TakesFront (g.W.Sink.taken c.args.sink.now) (g.W.Sink.taken c.layouts.new.sink) l) same c.in_err-layouts.ensures.text in
    rw p.1 (front_of _ _ (end_lines s.script s.kills s.segs) (flat_map (columns_text s.script) s.segs) (node_lines s.script s.kills s.segs) refl h)

pub returns-clause-text : goal.returns-clause-text
returns-clause-text g c =
    let s = c.args.replay.now in
    let bare = c.scenario.result.now in
    let same : flat_map (columns_text bare) c.stripes.result.now ≡ flat_map (columns_text s.script) s.segs =
    ap (flat_map (columns_text bare)) c.stripes.ensures.segments ∙ layouts_same s.script bare (prints_as s.script bare c.scenario.ensures) s.segs in
    puts_behind c.node_lines.result _ _ _ (flat_map (columns_text s.script) s.segs) (node_lines s.script s.kills s.segs)
    (c.in_ok-layouts.ensures.text ∙ ap (append_known (g.W.Sink.taken c.args.sink.now)) same) c.node_lines.ensures.text
