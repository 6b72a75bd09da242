use Rattle.std.proofs.Common.{◌≡◌, sym, ◌∙◌, false, ◌++◌, ◌∷◌, [], map, refl}
use Rattle.std.proofs.lemmas.List.{map_push}
use Rattle.std.specs.List.{list_any}
use Rattle.std.specs.Str.{bytes_eq}
use Rattle.cod_scenario.proofs.Keys.{list_any-map}
use Rattle.cod_scenario.proofs.names.Names.push.Goals as goal

pub returns-clause-added : goal.returns-clause-added
returns-clause-added c =
    let keys = c.self.inside.set.keys in
    let name = c.in_ok-name.name in
    let i : name.items ≡ c.args.name.now = c.in_ok-name.ensures.items in
    let v : map (λ k. k.items) keys ≡ c.args.self.now = c.self.view_is in
    let r : list_any (bytes_eq c.args.name.now) (map (λ k. k.items) keys) ≡ false = rw v c.requires.absent in
    let absent : list_any (λ k. bytes_eq c.args.name.now k.items) keys ≡ false = sym (list_any-map (bytes_eq c.args.name.now) (λ k. k.items) keys) ∙ r in
    let same : list_any (λ k. bytes_eq name.items k.items) keys ≡ false = rw i absent in
    let grown : c.insert.new.self.keys ≡ keys ++ name ∷ [] = c.in_ok-insert.ensures.keys ∙ rw same refl in
    let e : map (λ k. k.items) c.insert.new.self.keys ≡ c.args.self.now ++ c.args.name.now ∷ [] = rw (grown, map_push (λ k. k.items) keys name, v, i) refl in
    e
