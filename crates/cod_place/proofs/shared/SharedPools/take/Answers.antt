use Rattle.std.proofs.Common.{◌≡◌, ◌<◌, ◌≤◌, ℕ, ◌-◌, List, [], ◌∷◌, ◌++◌, Some, sym, ap, ◌∙◌, subst, refl, arith, rules}
use Rattle.cod_place.specs.declared.view.View.{View}
use Rattle.cod_place.specs.Free.{Seated, Pooled, Counted, HasSeen}
use Rattle.cod_place.proofs.Keeps.{loads, takes_it, splits, joins}
use Rattle.cod_place.proofs.Looking.{Looking, looking_self, looking_same, looking_load, looking_join, looking_then, still_counted, after_looking, last_seen, missed}
use Rattle.cod_place.proofs.Badges.{owner_is}
use Rattle.cod_place.proofs.shared.SharedPools.take.Goals as goal

pub loop-init : goal.loop-init
loop-init g c = (refl, refl, looking_self c.seat.inside.seat.me)

pub load-found-requires : goal.load-found-requires
load-found-requires g c =
    let pools = ap (λ (s : Seated). s.of) c.seat.view_is ∙ (c.requires.pools ∙ sym (ap (λ (p : Pooled). p.of) c.self.view_is)) in
    (c.loop.invariant.0 ∙ pools, subst (λ (n : ℕ). c.args.node.0 < n) (sym (ap (λ (p : Pooled). p.of.words) c.self.view_is)) c.requires.node, loads _ _ _ _ _)

pub invariant_of-seat : goal.invariant_of-seat
invariant_of-seat g c =
    let inv = c.loop.invariant in
    let l = looking_then c.seat.inside.seat.me c.loop.seat-inside.seat.me c.load-found.new.seat.me inv.2
    (looking_load c.loop.seat-inside.seat.me c.load-found.new.seat.me c.args.node.0 c.load-found.result c.load-found.ensures.2) in
    (l.held ∙ c.seat.invariant.0, still_counted c.seat.inside.counts c.loop.seat-inside.counts c.seat.inside.seat.me.0.bytes c.load-found.new.seat.me.0.bytes inv.1 l.bytes c.seat.invariant.1)

pub returns-then-found-wanted-clause-seat : goal.returns-then-found-wanted-clause-seat
returns-then-found-wanted-clause-seat g c =
    let inv = c.loop.invariant in
    let l = looking_then c.seat.inside.seat.me c.loop.seat-inside.seat.me c.load-found.new.seat.me inv.2
    (looking_load c.loop.seat-inside.seat.me c.load-found.new.seat.me c.args.node.0 c.load-found.result c.load-found.ensures.2) in
    after_looking c.seat.inside.seat.table_id c.load-found.new.seat.table_id c.seat.inside.seat.me c.load-found.new.seat.me c.args.seat.now c.seat.view_is (c.load-found.ensures.0 ∙ inv.0) l

pub returns-then-found-wanted-clause-short : goal.returns-then-found-wanted-clause-short
returns-then-found-wanted-clause-short g c =
    let inv = c.loop.invariant in
    let t = last_seen c.seat.inside.seat.me.0.looks c.loop.seat-inside.seat.me.0.looks c.load-found.new.seat.me.0.looks c.args.node.0 c.load-found.result inv.2.looks
    (ap (λ m. m.0.looks) c.load-found.ensures.2) in
    (c.if-found-wanted.true, (t.0, subst (λ (s : Seated). s.looks ++ t.0 ≡ c.load-found.new.seat.me.0.looks) c.seat.view_is t.1, t.2))

pub split_seat-own-requires : goal.split_seat-own-requires
split_seat-own-requires g c =
    let pools = ap (λ (s : Seated). s.of) c.seat.view_is ∙ (c.requires.pools ∙ sym (ap (λ (p : Pooled). p.of) c.self.view_is)) in
    (c.load-found.ensures.0 ∙ (c.loop.invariant.0 ∙ pools), c.self.invariant.1, splits _ _ _)

pub compare_exchange-requires : goal.compare_exchange-requires
compare_exchange-requires g c =
    let pools = ap (λ (s : Seated). s.of) c.seat.view_is ∙ (c.requires.pools ∙ sym (ap (λ (p : Pooled). p.of) c.self.view_is)) in (
      c.split_seat-own.ensures.3 ∙ (c.load-found.ensures.0 ∙ (c.loop.invariant.0 ∙ pools)),
      subst (λ (n : ℕ). c.args.node.0 < n) (sym (ap (λ (p : Pooled). p.of.words) c.self.view_is)) c.requires.node,
      takes_it _ _ _ _ _ _ _ (omega arith),
    )

pub invariant_of-seat-then-compare_exchange-found : goal.invariant_of-seat-then-compare_exchange-found
invariant_of-seat-then-compare_exchange-found g c =
    let inv = c.loop.invariant in
    let l = looking_then c.seat.inside.seat.me c.loop.seat-inside.seat.me c.load-found.new.seat.me inv.2
    (looking_load c.loop.seat-inside.seat.me c.load-found.new.seat.me c.args.node.0 c.load-found.result c.load-found.ensures.2) in
    let k = looking_then c.seat.inside.seat.me c.load-found.new.seat.me c.split_seat-own.new.seat.me l
    (looking_same c.load-found.new.seat.me c.split_seat-own.new.seat.me c.split_seat-own.ensures.2) in
    (k.held ∙ c.seat.invariant.0, still_counted c.seat.inside.counts c.loop.seat-inside.counts c.seat.inside.seat.me.0.bytes c.split_seat-own.new.seat.me.0.bytes inv.1 k.bytes c.seat.invariant.1)

pub returns-then-compare_exchange-found-clause-seat : goal.returns-then-compare_exchange-found-clause-seat
returns-then-compare_exchange-found-clause-seat g c =
    let inv = c.loop.invariant in
    let l = looking_then c.seat.inside.seat.me c.loop.seat-inside.seat.me c.load-found.new.seat.me inv.2
    (looking_load c.loop.seat-inside.seat.me c.load-found.new.seat.me c.args.node.0 c.load-found.result c.load-found.ensures.2) in
    let k = looking_then c.seat.inside.seat.me c.load-found.new.seat.me c.split_seat-own.new.seat.me l
    (looking_same c.load-found.new.seat.me c.split_seat-own.new.seat.me c.split_seat-own.ensures.2) in
    after_looking c.seat.inside.seat.table_id c.split_seat-own.new.seat.table_id c.seat.inside.seat.me c.split_seat-own.new.seat.me c.args.seat.now c.seat.view_is
    (c.split_seat-own.ensures.0 ∙ (c.load-found.ensures.0 ∙ inv.0)) k

pub returns-then-compare_exchange-found-clause-room : goal.returns-then-compare_exchange-found-clause-room
returns-then-compare_exchange-found-clause-room g c =
    let pools = ap (λ (s : Seated). s.of) c.seat.view_is ∙ c.requires.pools in
    let id = c.into_badge.ensures.0 ∙ (c.compare_exchange.ensures.0 ∙ (c.split_seat-own.ensures.3 ∙ (c.load-found.ensures.0 ∙ (c.loop.invariant.0 ∙ pools)))) in
    (λ i. record {
      node = c.args.node;
      bytes = c.args.bytes;
      of = owner_is c.into_badge.result.views c.compare_exchange.new.seat.me.0 c.into_badge.result.table_id c.args.self.now.of c.into_badge.ensures.2 id i;
    })

pub join_seat-requires : goal.join_seat-requires
join_seat-requires g c =
    let pools = ap (λ (s : Seated). s.of) c.seat.view_is ∙ (c.requires.pools ∙ sym (ap (λ (p : Pooled). p.of) c.self.view_is)) in
    let id = c.load-found.ensures.0 ∙ (c.loop.invariant.0 ∙ pools) in (
      c.split_seat-own.ensures.0 ∙ id,
      c.compare_exchange.ensures.0 ∙ (c.split_seat-own.ensures.3 ∙ id),
      ap (λ m. m.1) c.compare_exchange.ensures.2 ∙ ap (λ m. m.1) c.split_seat-own.ensures.4,
      c.self.invariant.1,
      joins _ _ _ _ _,
    )

pub loop-preserved : goal.loop-preserved
loop-preserved g c =
    let inv = c.loop.invariant in
    let l = looking_then c.seat.inside.seat.me c.loop.seat-inside.seat.me c.load-found.new.seat.me inv.2
    (looking_load c.loop.seat-inside.seat.me c.load-found.new.seat.me c.args.node.0 c.load-found.result c.load-found.ensures.2) in
    let k = looking_then c.seat.inside.seat.me c.load-found.new.seat.me c.split_seat-own.new.seat.me l
    (looking_same c.load-found.new.seat.me c.split_seat-own.new.seat.me c.split_seat-own.ensures.2) in
    let none = missed c.split_seat-own.result.me c.compare_exchange.new.seat.me c.args.node.0 c.load-found.result (c.load-found.result - c.args.bytes) c.compare_exchange.result
    (ap (λ m. m.0.bytes) c.split_seat-own.ensures.4) c.if-compare_exchange-found.false c.compare_exchange.ensures.2 in (
      c.join_seat.ensures.0 ∙ (c.split_seat-own.ensures.0 ∙ (c.load-found.ensures.0 ∙ inv.0)),
      inv.1,
      looking_then c.seat.inside.seat.me c.split_seat-own.new.seat.me c.join_seat.new.seat.me k
          (looking_join c.split_seat-own.new.seat.me c.join_seat.new.seat.me c.compare_exchange.new.seat.me.0 none c.join_seat.ensures.2),
    )
