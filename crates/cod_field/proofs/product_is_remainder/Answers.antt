use Rattle.cod_field.proofs.Polynomials as polynomials
use Rattle.cod_field.proofs.product_is_remainder.Goals as goal

pub returns : goal.returns
returns c = polynomials.product_is_remainder
