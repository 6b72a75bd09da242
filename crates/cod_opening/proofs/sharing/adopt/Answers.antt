use Rattle.std.proofs.Common.{◌≡◌, ◌<◌, ◌≤◌, ℕ, Some, length, refl, sym, ap, ◌∙◌, subst, arith}
use Rattle.std.proofs.lemmas.Option.{get_or_from_slice_get, slice_get_read}
use Rattle.cod_place.specs.Free.{at_node}
use Rattle.cod_place.specs.Rooms.{bytes_on}
use Rattle.cod_seg.specs.Pools.{owned}
use Rattle.cod_seg.specs.Seg.{Seg}
use Rattle.cod_segment.specs.Events.{rooms_of}
use Rattle.cod_stripe.specs.Sharing.{Without}
use Rattle.cod_advance.specs.Worlds.{no_seg, seg_at}
use Rattle.cod_opening.proofs.Adopting.{adopted_all, adopted_more, has_rooms, without_more}
use Rattle.cod_opening.proofs.sharing.adopt.Goals as goal

pub adopt-requires-clause-bytes : goal.adopt-requires-clause-bytes
adopt-requires-clause-bytes g c =
    let old = c.args.stripes.now.items in
    let now = c.stripes.stripes.items in
    let i = c.stripes.at in
    let x = c.index_mut.result.now in
    let low : i < length old = let t = c.stripes-test.true in let n = c.stripes.invariant.count in omega (arith, t, n) in
    let there : i < length now = let s = c.stripes.invariant.adopted.size in omega (arith, low, s) in
    let here : seg_at now i ≡ x = get_or_from_slice_get now i x no_seg (slice_get_read now (length now) i x refl there c.index_mut.ensures.value) in
    subst (λ (s : Seg). (node : ℕ) → bytes_on node (rooms_of s) ≤ at_node node c.stripes.seat.bytes) (sym (c.stripes.invariant.adopted.left i (omega arith)) ∙ here)
    (has_rooms i old c.args.seat.now c.stripes.seat low c.stripes.invariant.seat c.requires.bytes)

pub stripes-preserved : goal.stripes-preserved
stripes-preserved g c =
    let old = c.args.stripes.now.items in
    let now = c.stripes.stripes.items in
    let i = c.stripes.at in
    let x = c.index_mut.result.now in
    let low : i < length old = let t = c.stripes-test.true in let n = c.stripes.invariant.count in omega (arith, t, n) in
    let there : i < length now = let s = c.stripes.invariant.adopted.size in omega (arith, low, s) in
    let here : seg_at now i ≡ x = get_or_from_slice_get now i x no_seg (slice_get_read now (length now) i x refl there c.index_mut.ensures.value) in
    record {
      adopted = adopted_more (Some c.args.pools.now.of) i old now c.adopt.new.self low c.stripes.invariant.adopted (c.adopt.ensures.becomes ∙ ap (owned (Some c.args.pools.now.of)) (sym here));
      seat = without_more i old c.args.seat.now c.stripes.seat c.adopt.new.seat low c.stripes.invariant.seat
          (subst (λ (s : Seg). Without (rooms_of s) c.stripes.seat c.adopt.new.seat) (sym here ∙ c.stripes.invariant.adopted.left i (omega arith)) c.adopt.ensures.seat);
      count = c.stripes.invariant.count;
    }

pub returns-clause-stripes : goal.returns-clause-stripes
returns-clause-stripes g c =
    let n = c.stripes.invariant.count in
    let t = c.stripes-test.false in
    let e = c.stripes.auto.at-end in
    adopted_all (Some c.args.pools.now.of) c.stripes.at c.args.stripes.now.items c.stripes.stripes.items (omega (arith, n, t, e)) c.stripes.invariant.adopted
