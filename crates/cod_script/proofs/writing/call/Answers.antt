use Rattle.cod_script.proofs.writing.call.Goals as goal

pub returns-in-Swap-clause-text : goal.returns-in-Swap-clause-text
returns-in-Swap-clause-text g c = rw (c.in-Swap.is) (rw (c.as_slice-in-Swap.ensures.same, c.as_slice-in-Swap-2.ensures.same) at c.pieces-in-Swap.ensures.text)
