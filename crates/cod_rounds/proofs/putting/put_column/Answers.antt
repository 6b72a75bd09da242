use Rattle.std.proofs.Common.{false, inr, refl, sym, ◌∙◌}
use Rattle.std.proofs.lemmas.Bool.{both_ways}
use Rattle.cod_rounds.proofs.Giving.{give_failed, given_turn}
use Rattle.cod_rounds.proofs.putting.put_column.Goals as goal

pub returns-in_default-clause-turned : goal.returns-in_default-clause-turned
returns-in_default-clause-turned g c =
    given_turn c.args.bench.now c.args.bytes.now _ c.args.segment.now c.args.col c.put.new.self c.args.clock.now c.segment.view_is c.requires.bench refl refl c.requires.turn
    (sym c.live.ensures ∙ c.if-not-live.false) c.put.ensures.one c.in_default.ensures.puts c.in_default.ensures.holds c.put.ensures.full c.in_default.ensures.told.cause.kept

pub returns-clause-turned : goal.returns-clause-turned
returns-clause-turned g c =
    inr (inr (give_failed c.args.bench.now.block _ c.args.segment.now c.mark_fault.new.self c.args.col c.put.new.self c.args.clock.now c.mark_fault.new.clock c.in-Err.failed c.segment.view_is refl refl
    c.requires.turn (sym c.live.ensures ∙ c.if-not-live.false) c.put.ensures.one c.in-Err.ensures.puts c.put.ensures.full c.in-Err.ensures.told.named c.in-Err.ensures.told.cause.failed
    (λ never. both_ways false refl (c.in-Err.ensures.sure never)) c.mark_fault.ensures.becomes c.mark_fault.ensures.clock c.mark_fault.ensures.follows))
