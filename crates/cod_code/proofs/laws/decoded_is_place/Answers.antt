use Rattle.cod_code.proofs.Decoding as lemmas
use Rattle.cod_code.proofs.laws.decoded_is_place.Goals as goal

pub returns : goal.returns
returns c = lemmas.decoded_is_place
