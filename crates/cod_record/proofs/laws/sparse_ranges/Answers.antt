use Rattle.cod_record.proofs.Splitting.{ranges_of-bytes, ranges_of-sparse}
use Rattle.cod_record.proofs.laws.sparse_ranges.Goals as goal

pub returns : goal.returns
returns c = λ off bytes fits. (ranges_of-sparse off bytes fits, ranges_of-bytes off bytes fits)
