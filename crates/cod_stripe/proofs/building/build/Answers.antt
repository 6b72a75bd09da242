use Rattle.cod_stripe.proofs.building.build.Goals as goal

pub returns-in-Err-clause-rooms : goal.returns-in-Err-clause-rooms
returns-in-Err-clause-rooms g c = λ rest adds. c.give_back.ensures.rooms rest (c.in-Err.ensures.rooms rest adds)
