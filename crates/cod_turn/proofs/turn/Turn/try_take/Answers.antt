use Rattle.std.proofs.Common.{Some, ◌∷◌, sym, ap, ◌∙◌, arith}
use Rattle.atomic_table.specs.Table.{rest}
use Rattle.cod_turn.proofs.Keeps.{takes_it}
use Rattle.cod_turn.proofs.Sitting.{board, idle, bare}
use Rattle.cod_turn.proofs.turn.Turn.try_take.Goals as goal

pub compare_exchange-requires : goal.compare_exchange-requires
compare_exchange-requires g c =
    let s = c.seat.inside.seat in
    let none = idle s c.args.seat.now c.seat.view_is c.requires.idle in
    let two = c.self.invariant.0 in
    (board s c.args.seat.now c.args.self.now _ c.seat.view_is c.requires.turn c.self.view_is, omega arith, takes_it _ _ _ _ _ _ (bare s c.seat.invariant none) none c.seat.invariant.1)

pub exchange-requires : goal.exchange-requires
exchange-requires g c =
    let t = c.compare_exchange.ensures.2.0 c.if-compare_exchange-eq0.true in
    let has = ap (λ m. m.1) t.1 in
    let turn = board c.seat.inside.seat c.args.seat.now c.args.self.now _ c.seat.view_is c.requires.turn c.self.view_is in
    (c.compare_exchange.ensures.0 ∙ turn, (Some t.0, has ∙ (λ i. (0, Some t.0) ∷ sym (ap rest has) i)))
