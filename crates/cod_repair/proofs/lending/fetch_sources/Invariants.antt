use Rattle.std.proofs.Common.{◌≡◌}
use Rattle.cod_code.specs.Columns.{has_column}
use Rattle.cod_repair.specs.Columns.{were_read}
use Rattle.cod_repair.proofs.lending.fetch_sources.Given as goal

abbrev pub invariant-loop-i : goal.invariant-loop-i
invariant-loop-i g l = record { reads : l.columns ≡ were_read (has_column l.sources) l.fn.columns l.i }
