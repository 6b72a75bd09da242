use Rattle.std.specs.Prelude.{IsPermutation}
use Rattle.std.proofs.Common.{List, [], ◌∷◌, ◌++◌, append-nil, subst, arith}
use Rattle.cod_claims.specs.Claimed.{without_marks}
use Rattle.cod_place.specs.Room.{Room}
use Rattle.cod_seg.specs.Steps.{placed_col}
use Rattle.cod_segment.specs.Events.{rooms_of}
use Rattle.cod_drain.proofs.Rooms.{balances_order, given_beside, moved_rooms}
use Rattle.cod_drain.proofs.ending.settle.Goals as goal

pub let_go-requires-clause-came : goal.let_go-requires-clause-came
let_go-requires-clause-came g c =
    let s = c.args.segment.now in
    let long = c.requires.sound.columns.size in
    let below = c.requires.served.below in
    let order = moved_rooms s c.replace-old.new.segment c.args.plan.col
    (placed_col s.site.shape (record { room = c.into_parts-region.result.1; size = c.args.plan.size; average = c.args.plan.average; device = g.R.Region.device c.into_parts-region.result.0 }))
    (without_marks c.args.plan.col s.claims) c.args.target.room c.replace-old.result [] (omega (arith, long, below)) c.replace-old.ensures.becomes c.into_parts-region.ensures.room c.replace-old.ensures.room in
    let came = rw (← append-nil (rooms_of s)) at c.requires.came in
    g.met.P.Pools.came_front c.args.pools.now (c.replace-old.result ∷ []) (rooms_of c.replace-old.new.segment ++ [])
    (g.met.P.Pools.came_order c.args.pools.now (c.args.target.room ∷ (rooms_of s ++ [])) (c.replace-old.result ∷ (rooms_of c.replace-old.new.segment ++ [])) order came)

pub returns-clause-came : goal.returns-clause-came
returns-clause-came g c = λ rest came.
    let s = c.args.segment.now in
    let long = c.requires.sound.columns.size in
    let below = c.requires.served.below in
    let order = moved_rooms s c.replace-old.new.segment c.args.plan.col
    (placed_col s.site.shape (record { room = c.into_parts-region.result.1; size = c.args.plan.size; average = c.args.plan.average; device = g.R.Region.device c.into_parts-region.result.0 }))
    (without_marks c.args.plan.col s.claims) c.args.target.room c.replace-old.result rest (omega (arith, long, below)) c.replace-old.ensures.becomes c.into_parts-region.ensures.room c.replace-old.ensures.room in
    c.let_go.ensures.came (rooms_of c.replace-old.new.segment ++ rest)
    (g.met.P.Pools.came_order c.args.pools.now (c.args.target.room ∷ (rooms_of s ++ rest)) (c.replace-old.result ∷ (rooms_of c.replace-old.new.segment ++ rest)) order came)

pub returns-clause-balance : goal.returns-clause-balance
returns-clause-balance g c =
    let s = c.args.segment.now in
    let long = c.requires.sound.columns.size in
    let below = c.requires.served.below in
    let order = moved_rooms s c.replace-old.new.segment c.args.plan.col
    (placed_col s.site.shape (record { room = c.into_parts-region.result.1; size = c.args.plan.size; average = c.args.plan.average; device = g.R.Region.device c.into_parts-region.result.0 }))
    (without_marks c.args.plan.col s.claims) c.args.target.room c.replace-old.result [] (omega (arith, long, below)) c.replace-old.ensures.becomes c.into_parts-region.ensures.room c.replace-old.ensures.room in
    let plain : IsPermutation (c.args.target.room ∷ rooms_of s) (c.replace-old.result ∷ rooms_of c.replace-old.new.segment) =
    subst (λ (l : List Room). IsPermutation (c.args.target.room ∷ l) (c.replace-old.result ∷ rooms_of c.replace-old.new.segment)) (append-nil (rooms_of s))
    (subst (λ (l : List Room). IsPermutation (c.args.target.room ∷ (rooms_of s ++ [])) (c.replace-old.result ∷ l)) (append-nil (rooms_of c.replace-old.new.segment)) order) in
    let before = g.P.Pools.free c.args.pools.now in
    let after = g.P.Pools.free c.let_go.new.pools in
    balances_order before after (c.args.target.room ∷ rooms_of s) (c.replace-old.result ∷ rooms_of c.replace-old.new.segment) (rooms_of c.replace-old.new.segment) plain
    (given_beside before after c.replace-old.result (rooms_of c.replace-old.new.segment) c.let_go.ensures.balance)
