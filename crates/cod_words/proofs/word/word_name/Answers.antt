use Rattle.std.proofs.Common.{rules, tests, ◌≡◌, arith}
use Rattle.std.proofs.lemmas.Grind.{common_steps}
use Rattle.std.proofs.lemmas.Iterator.{YieldsList-from_slice}
use Rattle.std.proofs.lemmas.Iterator.Search.{all_from_yields_List}
use Rattle.std.specs.List.{list_all}
use Rattle.cod_words.specs.Words.{is_name_byte}
use Rattle.cod_words.proofs.Names.{rest_of_name}
use Rattle.cod_words.proofs.word.word_name.Goals as goal

pub returns : goal.returns
returns c =
    let e : c.all.result ≡ list_all is_name_byte c.args.w.now = all_from_yields_List is_name_byte _ _ c.all.result c.all.ensures.ran (YieldsList-from_slice c.args.w.now c.iter.ensures.rest)
    (λ x b q k. search (rules, tests)) in
    rw e (rest_of_name c.args.w.now (grind arith) (grind arith) (grind (arith, common_steps)))
