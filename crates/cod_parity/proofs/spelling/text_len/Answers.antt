use Rattle.std.proofs.Common.{◌∙◌, sym}
use Rattle.cod_parity.proofs.Spelled.{first_length_is, second_length_is}
use Rattle.cod_parity.proofs.spelling.text_len.Goals as goal

pub returns-then-version-eq2 : goal.returns-then-version-eq2
returns-then-version-eq2 c = λ h. c.sparse_len.ensures.len h.off ∙ sym (second_length_is c.args.version h c.args.bytes.now c.if-version-eq2.true)

pub returns : goal.returns
returns c = λ h. sym (first_length_is c.args.version h c.args.bytes.now c.if-version-eq2.false)
