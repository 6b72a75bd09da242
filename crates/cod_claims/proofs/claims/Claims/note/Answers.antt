use Rattle.std.proofs.Common.{◌<◌, arith}
use Rattle.cod_claims.specs.Claimed.{noted}
use Rattle.cod_claims.proofs.Claiming.{slot_kept, slot_edited, has_claim_below, noted_keeps}
use Rattle.cod_claims.proofs.claims.Claims.note.Goals as goal

pub invariant_of-self : goal.invariant_of-self
invariant_of-self c =
    let below : c.args.block < 16 = has_claim_below c.self.inside.slots c.args.block c.self.invariant.blocks (rw c.self.view_is c.requires.block) in
    slot_kept (noted c.args.col c.args.len) (noted_keeps c.args.col c.args.len) c.self.inside.slots c.args.block c.index-self-block.result _ c.self.invariant below c.note_one.ensures

pub returns : goal.returns
returns c =
    let below : c.args.block < 16 = has_claim_below c.self.inside.slots c.args.block c.self.invariant.blocks (rw c.self.view_is c.requires.block) in
    rw (← c.self.view_is) (slot_edited (noted c.args.col c.args.len) c.self.inside.slots c.args.block c.index-self-block.result _ (omega (arith, c.self.invariant.blocks)) c.note_one.ensures)
