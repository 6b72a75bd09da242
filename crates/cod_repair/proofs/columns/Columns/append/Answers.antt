use Rattle.cod_repair.proofs.columns.Columns.append.Goals as goal

pub append_by-requires-clause-room : goal.append_by-requires-clause-room
append_by-requires-clause-room g c = rw c.coefficient-coef.ensures c.requires.room
