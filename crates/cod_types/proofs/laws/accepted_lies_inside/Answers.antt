-- Each law is its lemma.
use Rattle.cod_types.proofs.Refusals.{reads_inside, writes_update, swaps_update, puts_whole}
use Rattle.cod_types.proofs.laws.accepted_lies_inside.Goals as goal

pub returns-clause-read : goal.returns-clause-read
returns-clause-read c = reads_inside

pub returns-clause-write : goal.returns-clause-write
returns-clause-write c = writes_update

pub returns-clause-swap : goal.returns-clause-swap
returns-clause-swap c = swaps_update

pub returns-clause-put : goal.returns-clause-put
returns-clause-put c = puts_whole
