use Rattle.std.proofs.lemmas.Str.{IsUtf8-from_ascii}
use Rattle.cod_script.proofs.NameBytes.{name_is_ascii}
use Rattle.cod_script.proofs.name.Name.copy.Goals as goal

pub unreachable-requires : goal.unreachable-requires
unreachable-requires c = c.in_default.ensures.cases.0 (IsUtf8-from_ascii c.args.word.now (name_is_ascii c.args.word.now c.requires))
