use Rattle.cod_scenario.proofs.Keeping.{keeps_none}
use Rattle.cod_scenario.proofs.reader.Reader.new.Goals as goal

pub invariant_of-result : goal.invariant_of-result
invariant_of-result c = rw (c.new.ensures.items, c.new-2.ensures, c.new-3.ensures) keeps_none
