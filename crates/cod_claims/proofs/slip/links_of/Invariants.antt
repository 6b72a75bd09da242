use Rattle.std.proofs.Common.{◌≡◌, length}
use Rattle.cod_claims.proofs.slip.links_of.Given as goal

abbrev pub invariant-each : goal.invariant-each
invariant-each l = length l.links.items ≡ l.counter
