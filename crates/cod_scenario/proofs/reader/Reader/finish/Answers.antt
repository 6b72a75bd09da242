use Rattle.std.proofs.Common.{◌≡◌, ap, sym, ◌∙◌, true}
use Rattle.cod_scenario.specs.Judge.{is_end, last_of}
use Rattle.cod_scenario.proofs.Finishing.{whole, is_finished, not_finished}
use Rattle.cod_scenario.proofs.reader.Reader.finish.Goals as goal

pub scenario-requires : goal.scenario-requires
scenario-requires c =
    let lines = c.self.inside.said.items in
    let v : lines ≡ c.args.self.said = ap (λ h. h.said) c.self.view_is in
    let e : is_end (last_of lines) ≡ true = ap (λ l. is_end (last_of l)) v ∙ (sym c.is_ended.ensures ∙ c.if-not-is_ended.false) in
    rw (c.self.invariant.header_is, c.in_ok-gathered.ensures) (whole c.self.inside.lines lines c.self.invariant.sound e c.self.invariant.fewer c.self.invariant.most_lines)

pub returns-then-not-is_ended : goal.returns-then-not-is_ended
returns-then-not-is_ended c =
    let n : c.self.inside.lines ≡ c.args.self.lines = ap (λ h. h.lines) c.self.view_is in
    rw n (not_finished c.args.self (sym c.is_ended.ensures ∙ c.if-not-is_ended.true))

pub returns : goal.returns
returns c =
    let v : c.self.inside.said.items ≡ c.args.self.said = ap (λ h. h.said) c.self.view_is in
    rw (c.scenario.ensures, c.self.invariant.header_is, c.in_ok-gathered.ensures, v) (is_finished c.args.self (sym c.is_ended.ensures ∙ c.if-not-is_ended.false))
