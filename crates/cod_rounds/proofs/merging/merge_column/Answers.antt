use Rattle.std.proofs.Common.{false, inr, refl, sym, ◌∙◌}
use Rattle.std.proofs.lemmas.Bool.{both_ways}
use Rattle.cod_rounds.proofs.Turning.{merge_failed, merged_turn}
use Rattle.cod_rounds.proofs.merging.merge_column.Goals as goal

pub returns-in_default-clause-turned : goal.returns-in_default-clause-turned
returns-in_default-clause-turned g c =
    merged_turn _ c.args.segment.now c.args.col c.merge.new.self c.args.clock.now c.segment.view_is refl refl c.requires.turn c.requires.parity
    (sym c.live.ensures ∙ c.if-not-live.false) c.merge.ensures.one c.in_default.ensures.merges c.in_default.ensures.holds c.merge.ensures.same c.merge.ensures.kept
    c.merge.ensures.full c.in_default.ensures.told.cause.kept

pub returns-clause-turned : goal.returns-clause-turned
returns-clause-turned g c =
    inr (inr (merge_failed _ c.args.segment.now c.mark_fault.new.self c.args.col c.merge.new.self c.args.clock.now c.mark_fault.new.clock c.in-Err.failed c.segment.view_is refl refl c.requires.turn c.requires.parity
    (sym c.live.ensures ∙ c.if-not-live.false) c.merge.ensures.one c.merge.ensures.same c.merge.ensures.kept c.merge.ensures.full c.in-Err.ensures.told.named
    c.in-Err.ensures.told.cause.failed (λ never. both_ways false refl (c.in-Err.ensures.sure never)) c.mark_fault.ensures.becomes c.mark_fault.ensures.clock c.mark_fault.ensures.follows))
