use Rattle.std.proofs.Common.{List, [], ◌∷◌, ◌++◌, Option, Some, sym, ap, ◌∙◌, subst, refl, length}
use Rattle.atomic_table.specs.Table.{opening, Me}
use Rattle.cod_turn.specs.declared.view.View.{View}
use Rattle.cod_turn.specs.Turning.{Kept, starting}
use Rattle.cod_turn.proofs.Keeps.{starts, has_all}
use Rattle.cod_turn.proofs.Sitting.{still_sits}
use Rattle.cod_turn.proofs.turn.Turn.new.Goals as goal

pub new-requires : goal.new-requires
new-requires g c =
    let xs = c.push_reserved.ensures.items ∙ ap (λ (l : List (Option g.row.T.Denot)). l ++ Some c.args.value ∷ []) c.in_ok-slots.ensures.items in
    subst (λ (z : List (Option g.row.T.Denot) × g.row.T.Denot). Kept g.T.Stands.name g.T.Stands.entries g.T.Stands.open_calls
    (opening (0 ∷ c.len-count.result ∷ []) z.0 (starting g.T.Stands.name g.T.Stands.entries g.T.Stands.open_calls z.1)))
    (λ i. (sym xs i, sym c.of-about.ensures i))
    (starts g.T.Stands.name g.T.Stands.entries g.T.Stands.open_calls c.args.value c.len-count.result (c.len-count.ensures ∙ ap length c.chronicle.ensures))

pub invariant_of-result-in-Ok : goal.invariant_of-result-in-Ok
invariant_of-result-in-Ok g c =
    let me = c.in-Ok.ensures.ok.4 ∙ ap (λ (x : g.row.T.Denot). (starting g.T.Stands.name g.T.Stands.entries g.T.Stands.open_calls x, [])) c.of-about.ensures in
    still_sits _ c.in-Ok.seat me refl (has_all c.args.value)

pub returns-in-Ok : goal.returns-in-Ok
returns-in-Ok g c =
    let o = c.in-Ok.ensures.ok in
    let me = ap (λ (m : Me (Option g.row.T.Denot) (View g.row.T.Denot)). m.0) o.4
    ∙ ap (λ (x : g.row.T.Denot). starting g.T.Stands.name g.T.Stands.entries g.T.Stands.open_calls x) c.of-about.ensures in
    λ i. record { of = o.2 i; knows = me i }
