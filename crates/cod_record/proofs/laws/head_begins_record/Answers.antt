use Rattle.cod_record.proofs.Heads.{head_begins_record}
use Rattle.cod_record.proofs.laws.head_begins_record.Goals as goal

pub returns : goal.returns
returns c = head_begins_record
