use Rattle.std.proofs.Common.{◌∙◌, Some, sym, ap}
use Rattle.std.proofs.lemmas.Option.{slice_get-get_or}
use Rattle.cod_chronicle.proofs.Walking.{set_again}
use Rattle.cod_chronicle.proofs.walk.take_first.Goals as goal

pub returns : goal.returns
returns c = record {
  behind = c.rest.inside.behind;
  left = c.of.result;
  was = slice_get-get_or c.args.rests.now c.args.index c.index-rests-index.result c.requires ∙ ap Some (sym c.take.ensures.value ∙ c.in_ok-rest.was ∙ ap Some (sym c.rest.view_is));
  left_is = c.of.ensures;
  are = set_again c.args.rests.now c.args.index c.take.new.self c.of.result;
}
