use Rattle.std.proofs.Common.{◌≡◌, ℕ, ◌∷◌, [], Option, Some, refl, sym, ap, ◌∙◌}
use Rattle.cod_turn.specs.declared.view.View.{View}
use Rattle.cod_turn.specs.Seats.{Seated}
use Rattle.cod_turn.specs.Turning.{callers}
use Rattle.cod_turn.proofs.Totals.{firsts-all_at}
use Rattle.bench_turn.specs.declared.meter.Meter.{Meter}
use Rattle.bench_turn.proofs.Holding.{follows}
use Rattle.bench_turn.proofs.by_turn.Goals as goal

pub give-requires-clause-follows : goal.give-requires-clause-follows
give-requires-clause-follows g c =
    let t = ap (λ (s : Seated Meter). s.knows) c.take-meter.ensures.seat in
    let one = c.loop.invariant.2 in (
      c.take-meter.result,
      ap (λ (v : View Meter). v.hold) t,
      follows (callers c.take-meter.new.seat.knows)
          (one.0, ap (λ (v : View Meter). callers v) t ∙ one.1) c.take-meter.result c.work.new.self c.work.ensures,
    )

pub loop-preserved : goal.loop-preserved
loop-preserved g c =
    let t = ap (λ (s : Seated Meter). s.knows) c.take-meter.ensures.seat in
    let one = c.loop.invariant.2 in
    let given = c.give.ensures.seat c.take-meter.result (ap (λ (v : View Meter). v.hold) t) in (
      c.give.ensures.turn ∙ (ap (λ (s : Seated Meter). s.of) c.take-meter.ensures.seat ∙ c.loop.invariant.0),
      c.give.ensures.idle,
      (one.0, ap (λ (v : View Meter). callers v) given ∙ (firsts-all_at c.work.new.self (callers c.take-meter.new.seat.knows) ∙ (ap (λ (v : View Meter). callers v) t ∙ one.1))),
    )
