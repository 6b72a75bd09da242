use Rattle.std.proofs.Common.{◌≡◌, ◌<◌, ℕ, OnOk, take, length, subst, arith}
use Rattle.cod_code.specs.Columns.{gamma}
use Rattle.cod_claims.specs.Changes.{new_in}
use Rattle.cod_claims.specs.Claimed.{claim_at}
use Rattle.cod_repair.specs.Targets.{AddsTo, overlap, Overwrites}
use Rattle.cod_update.specs.Correcting.{IsCorrectedBy}
use Rattle.cod_update.proofs.OnTarget.{brings_is, data_done, data_other, delta_is, parity_done}
use Rattle.cod_update.proofs.correcting.correct_block.Goals as goal

pub returns-then-k-col-clause-corrected : goal.returns-then-k-col-clause-corrected
returns-then-k-col-clause-corrected g c = λ claim there.
    let d = delta_is (claim_at c.args.claims.now c.args.block) claim c.in-Some-Some.off c.in-Some-Some.delta.now there c.in-Some-Some.ensures.delta in
    let adds : AddsTo claim.delta.part.off (gamma c.args.k c.args.col c.args.block) (take (overlap c.args.target.now.filled claim.delta.part.off (length claim.delta.bytes)) claim.delta.bytes)
    c.correct_parity.result c.args.target.now c.correct_parity.new.self =
    rw (c.requires.shape, ← d.0, ← d.1) c.correct_parity.ensures.corrects in
    parity_done c.args.k c.args.col c.args.block c.args.bench.now.block claim c.correct_parity.result c.args.target.now c.correct_parity.new.self c.if-k-col.true (c.requires.placed claim there) c.requires.whole
    adds c.correct_parity.ensures.full

pub returns-then-col-block-clause-corrected : goal.returns-then-col-block-clause-corrected
returns-then-col-block-clause-corrected g c = λ claim there.
    let d = delta_is (claim_at c.args.claims.now c.args.block) claim c.in-Some-Some.off c.in-Some-Some.delta.now there c.in-Some-Some.ensures.delta in
    let b = brings_is (claim_at c.args.claims.now c.args.block) claim c.in-Some-Some.bytes.now there c.in-Some-Some.ensures'.new in
    let e = c.correct_data.ensures in
    let same : c.args.col ≡ c.args.block = c.if-col-block.true in
    let writes : Overwrites claim.delta.part.off (take (overlap c.args.target.now.filled claim.delta.part.off (length (new_in claim.delta))) (new_in claim.delta))
    c.correct_data.result c.args.target.now c.correct_data.new.self =
    rw (← d.0, ← b) e.corrects in
    let low : c.args.col < c.args.k = let past = c.if-k-col.false in omega (arith, past) in
    subst (λ (j : ℕ). OnOk c.correct_data.result (IsCorrectedBy c.args.k c.args.col j claim c.args.target.now c.correct_data.new.self)) same
    (data_done c.args.k c.args.col c.args.bench.now.block claim c.correct_data.result c.args.target.now c.correct_data.new.self low (c.requires.placed claim there) c.requires.whole
    (c.requires.changes claim same there) writes e.cause e.full)

pub returns-else-col-block-clause-corrected : goal.returns-else-col-block-clause-corrected
returns-else-col-block-clause-corrected g c = λ claim there.
    let low : c.args.col < c.args.k = let past = c.if-k-col.false in omega (arith, past) in
    data_other c.args.k c.args.col c.args.block c.args.bench.now.block claim c.args.target.now low c.if-col-block.false c.requires.whole
