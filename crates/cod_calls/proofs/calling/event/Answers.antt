use Rattle.std.proofs.Common.{sym, ap, ◌∙◌, subst, rules}
use Rattle.atomic_table.specs.Seated.{TableId}
use Rattle.cod_board.specs.Seats.{Seated as OnBoard}
use Rattle.cod_place.specs.Free.{AreOf, HasSeen, Pooled, Seated as OnPools}
use Rattle.cod_segment.specs.Events.{rooms_of}
use Rattle.cod_segment.specs.Looks.{HasLooked}
use Rattle.cod_calls.proofs.Lending.{kills_count, turns_by}
use Rattle.cod_calls.proofs.Rooming.{rooms_came}
use Rattle.cod_calls.proofs.calling.event.Goals as goal

pub advance-requires-clause-board : goal.advance-requires-clause-board
advance-requires-clause-board g c =
    let p = c.new-board.ensures.parts in (
      kills_count c.new-board.result.board.now.words c.new-board.result.seat.now.knows.seen ∙ (ap (λ (t : TableId). t.words) p.0 ∙ c.requires.fits.board_nodes),
      ap (λ (s : OnBoard). s.of) p.1 ∙ (c.requires.seats.0 ∙ sym p.0),
    )

pub advance-requires-clause-pools : goal.advance-requires-clause-pools
advance-requires-clause-pools g c =
    let p = c.new-pools.ensures.parts in (
      ap (λ (q : Pooled). q.of.words) p.0 ∙ c.requires.fits.pool_nodes,
      ap (λ (s : OnPools). s.of) p.1 ∙ (c.requires.seats.1 ∙ sym (ap (λ (q : Pooled). q.of) p.0)),
      subst (λ (q : Pooled). AreOf q.of (rooms_of c.args.stripe.now)) (sym p.0)
          (rooms_came c.args.stripe.now c.requires.sound c.args.shared.now.pools.of c.requires.fits.owner c.requires.fits.pool_nodes),
    )

pub returns-clause-turns : goal.returns-clause-turns
returns-clause-turns g c =
    let p = c.new-board.ensures.parts in
    let words = ap (λ (t : TableId). t.words) p.0 ∙ c.requires.fits.board_nodes in
    turns_by c.args.stripe.now c.advance.new.stripe c.advance.result _ c.args.desk.now.clock _ c.advance.new.clock c.args.desk.now.board.knows.seen c.new-board.result.seat.now.knows.seen
    _ c.advance.new.board.seat.now.knows.seen c.new-board.result.board.now.words c.advance.new.board.board.now.words (search rules) (search rules)
    (ap (λ (s : OnBoard). s.knows.seen) p.1) words (ap (λ (t : TableId). t.words) c.advance.ensures.board.1.1 ∙ words) c.advance.ensures.turns

pub returns-clause-looked : goal.returns-clause-looked
returns-clause-looked g c =
    subst (λ (s : OnPools). HasLooked (HasSeen s c.advance.new.pools.seat.now) c.advance.new.slip.reply) c.new-pools.ensures.parts.1 c.advance.ensures.looked
