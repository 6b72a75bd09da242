use Rattle.cod_field.proofs.Tables.{is_field}
use Rattle.cod_field.proofs.bytes_are_a_field.Goals as goal

pub returns : goal.returns
returns c = is_field
