use Rattle.std.proofs.Common.{◌≡◌, ◌≤◌, ℕ, ◌+◌, ◌-◌, ◌∷◌, sym, ap, subst, ◌<◌, length, slice_index, slice_set, arith}
use Rattle.std.proofs.lemmas.List.{get_or_read}
use Rattle.std.proofs.lemmas.List.Elements.{All-head}
use Rattle.cod_place.specs.Room.{Room, owner}
use Rattle.cod_place.specs.Rooms.{Store, CameFrom}
use Rattle.cod_place.proofs.Rooms.{came_trimmed}
use Rattle.cod_place.proofs.plain.PlainPoolsPools.trim.Goals as goal

pub returns-clause-came : goal.returns-clause-came
returns-clause-came c rooms came =
    let store : Store = record { capacity = c.self.inside.capacity; free = c.self.inside.free.items } in
    let room : Room = record { node = c.room.inside.node; bytes = c.room.inside.bytes; of = owner c.room.inside.badge.views c.room.inside.badge.table_id } in
    let bytes : ℕ = c.args.bytes in
    let same = ap (λ (r : Room). r.bytes) c.room.view_is in
    let within = c.requires.within in
    let small : bytes ≤ room.bytes = omega arith in
    let old : CameFrom store (room ∷ rooms) = subst (λ (s : Store). CameFrom s (room ∷ rooms)) (sym c.self.view_is)
    (subst (λ (r : Room). CameFrom c.args.self.now (r ∷ rooms)) (sym c.room.view_is) came) in
    let was : c.index_mut.result.now ≡ slice_index store.free room.node.0 = get_or_read store.free room.node.0 _
    (All-head (λ (r : Room). r.node.0 < length store.free) room rooms old.inside) c.index_mut.ensures.value 0 in
    subst (λ (n : ℕ). CameFrom record store { free = slice_set store.free room.node.0 (n + bytes) } (record room { bytes = room.bytes - bytes } ∷ rooms)) (sym was)
    (came_trimmed store rooms room bytes small old)
