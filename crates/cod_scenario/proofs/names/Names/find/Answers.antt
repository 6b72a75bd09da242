use Rattle.std.proofs.Common.{sym, ◌∙◌}
use Rattle.std.specs.Str.{bytes_eq}
use Rattle.cod_scenario.proofs.Keys.{position-map}
use Rattle.cod_scenario.proofs.names.Names.find.Goals as goal

pub returns-in-Some : goal.returns-in-Some
returns-in-Some c = rw (← c.self.view_is) (sym c.in-Some.is ∙ (c.get_index_of.ensures.index ∙ sym (position-map (bytes_eq c.args.name.now) (λ k. k.items) c.self.inside.set.keys)))

pub returns-in-None : goal.returns-in-None
returns-in-None c = rw (← c.self.view_is) (sym c.in-None.is ∙ (c.get_index_of.ensures.index ∙ sym (position-map (bytes_eq c.args.name.now) (λ k. k.items) c.self.inside.set.keys)))
