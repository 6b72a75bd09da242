use Rattle.std.proofs.Common.{◌∙◌, sym}
use Rattle.cod_scenario.proofs.Totals.{too_heavy, no_place, is_carried}
use Rattle.cod_scenario.proofs.reader.Reader.carried.Goals as goal

pub returns-then-weight-gt-MOST_WEIGHT : goal.returns-then-weight-gt-MOST_WEIGHT
returns-then-weight-gt-MOST_WEIGHT c = too_heavy c.args.self.now.said c.args.said.now _ c.if-weight-gt-MOST_WEIGHT.true c.weight_with-weight.ensures

pub returns-then-not-has_room_for : goal.returns-then-not-has_room_for
returns-then-not-has_room_for c =
    no_place c.args.self.now.said c.args.said.now c.weight_with-weight.result c.if-weight-gt-MOST_WEIGHT.false c.weight_with-weight.ensures (sym c.has_room_for.ensures ∙ c.if-not-has_room_for.true)

pub returns : goal.returns
returns c =
    let light = c.if-weight-gt-MOST_WEIGHT.false in (
      is_carried c.args.self.now.said c.args.said.now c.weight_with-weight.result light c.weight_with-weight.ensures (sym c.has_room_for.ensures
          ∙ c.if-not-has_room_for.false),
      c.weight_with-weight.ensures.0 light,
      light,
    )
