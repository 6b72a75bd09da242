use Rattle.std.proofs.Common.{◌∙◌, None}
use Rattle.cod_pass.proofs.Naming.{names_tell}
use Rattle.cod_closing.proofs.Rooms.{released}
use Rattle.cod_closing.proofs.closing.close_turn.Goals as goal

pub release-requires-clause-owner : goal.release-requires-clause-owner
release-requires-clause-owner g c = (names_tell c.requires.last.first c.close-stripe.result (c.close-stripe.ensures.value.0 ∙ c.requires.last.named)).pools ∙ c.requires.last.owner

pub returns-clause-rooms : goal.returns-clause-rooms
returns-clause-rooms g c =
    released None c.close-stripe.result c.release.new.self c.release.new.seat c.args.pool_seat.now c.release.ensures.becomes c.release.ensures.seat
