use Rattle.std.proofs.Common.{◌≡◌, ℕ, List, [], ◌∷◌, sym, ap, ◌∙◌, subst, Some}
use Rattle.std.specs.Prelude.{IfSome}
use Rattle.atomic_table.specs.Seated.{TableId}
use Rattle.cod_board.proofs.Lists.{kills_length}
use Rattle.cod_place.specs.Room.{Room}
use Rattle.cod_place.specs.Free.{AreOf}
use Rattle.cod_place.specs.Seats.{of_none_lem}
use Rattle.cod_place.proofs.Badges.{found_of}
use Rattle.cod_place.proofs.tests.seats.spare_by_seats.Goals as goal

pub spare-requires-clause-board : goal.spare-requires-clause-board
spare-requires-clause-board g c =
    kills_length c.new-board_pass.result.board.now.words c.new-board_pass.result.seat.now.knows.seen ∙ (ap (λ b. b.words) c.new-board_pass.ensures.parts.0 ∙ c.requires.board.0)

pub returns-clause-mine : goal.returns-clause-mine
returns-clause-mine g c =
    let came = c.spare.ensures.came [] (of_none_lem c.new-pool_pass.result.pools.now.of) in
    let same = ap (λ p. p.of) (c.spare.ensures.pools.3.1 ∙ c.new-pool_pass.ensures.parts.0) in
    subst (λ (of : TableId). IfSome c.spare.result (λ (r : Room). r.of ≡ Some of)) same (found_of _ c.spare.result _ came)
