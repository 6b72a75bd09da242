use Rattle.cod_chronicle.proofs.Growth.{chronicle-push}
use Rattle.cod_chronicle.proofs.chronicle.Chronicle.push_link.Goals as goal

pub invariant_of-self : goal.invariant_of-self
invariant_of-self c =
    rw (c.in-Ok.ensures.items, c.filled-place.ensures)
    (chronicle-push _ c.args.entry c.self.invariant (rw (← c.self.view_is) at c.requires.stamp) (rw (← c.self.view_is) at c.requires.number))
