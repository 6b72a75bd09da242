use Rattle.std.proofs.Common.{◌≡◌, ◌<◌, ℕ, Some, length, set, refl, sym, ◌∙◌, subst, arith}
use Rattle.std.specs.Prelude.{slice_get}
use Rattle.std.proofs.lemmas.Option.{slice_get_read, slice_get_within}
use Rattle.cod_closing.proofs.Seats.{BothFrom, both_all, both_more, both_none, popped, same_turn, take_whole}
use Rattle.cod_closing.proofs.joining.join_turns.Goals as goal

pub seats-init : goal.seats-init
seats-init g c = record { both = both_none c.args.firsts.now.items c.args.others.items; front = take_whole c.args.others.items }

pub join-requires-clause-turn : goal.join-requires-clause-turn
join-requires-clause-turn g c =
    let at = c.len-at.result in
    let size : at ≡ length c.pop.new.self.items = c.len-at.ensures ∙ c.pop.new.self.ok.0 in
    let p = popped c.args.others.items c.seats.others.items c.pop.new.self.items c.in-Some.other at c.seats.invariant.front c.in-Some.ensures.items size in
    let m = c.requires.others.count in
    let n = c.requires.firsts.count in
    let s = c.seats.invariant.both.size in
    let w = slice_get_within c.args.others.items at c.in-Some.other p.there in
    let low : at < length c.args.turns.now = omega (arith, w, m) in
    let there : slice_get c.seats.firsts.items at ≡ Some c.index_mut.result.now =
    slice_get_read c.seats.firsts.items (length c.seats.firsts.items) at c.index_mut.result.now refl (omega (arith, low, n, s)) c.index_mut.ensures.value in
    let l = p.long in
    let first = sym (c.seats.invariant.both.left at (omega (arith, l))) ∙ there in (
      same_turn c.args.turns.now c.args.firsts.now.items at c.index-turns-at.result c.index_mut.result.now c.requires.firsts low c.index-turns-at.is first,
      same_turn c.args.turns.now c.args.others.items at c.index-turns-at.result c.in-Some.other c.requires.others low c.index-turns-at.is p.there,
    )

pub join-requires-clause-idle : goal.join-requires-clause-idle
join-requires-clause-idle g c =
    let at = c.len-at.result in
    let size : at ≡ length c.pop.new.self.items = c.len-at.ensures ∙ c.pop.new.self.ok.0 in
    let p = popped c.args.others.items c.seats.others.items c.pop.new.self.items c.in-Some.other at c.seats.invariant.front c.in-Some.ensures.items size in
    let m = c.requires.others.count in
    let n = c.requires.firsts.count in
    let s = c.seats.invariant.both.size in
    let w = slice_get_within c.args.others.items at c.in-Some.other p.there in
    let there : slice_get c.seats.firsts.items at ≡ Some c.index_mut.result.now =
    slice_get_read c.seats.firsts.items (length c.seats.firsts.items) at c.index_mut.result.now refl (omega (arith, w, m, n, s)) c.index_mut.ensures.value in
    let l = p.long in
    let first = sym (c.seats.invariant.both.left at (omega (arith, l))) ∙ there in
    ((c.requires.firsts.each at c.index_mut.result.now first).1, (c.requires.others.each at c.in-Some.other p.there).1)

pub seats-preserved : goal.seats-preserved
seats-preserved g c =
    let at = c.len-at.result in
    let size : at ≡ length c.pop.new.self.items = c.len-at.ensures ∙ c.pop.new.self.ok.0 in
    let p = popped c.args.others.items c.seats.others.items c.pop.new.self.items c.in-Some.other at c.seats.invariant.front c.in-Some.ensures.items size in
    let m = c.requires.others.count in
    let n = c.requires.firsts.count in
    let s = c.seats.invariant.both.size in
    let w = slice_get_within c.args.others.items at c.in-Some.other p.there in
    let there : slice_get c.seats.firsts.items at ≡ Some c.index_mut.result.now =
    slice_get_read c.seats.firsts.items (length c.seats.firsts.items) at c.index_mut.result.now refl (omega (arith, w, m, n, s)) c.index_mut.ensures.value in
    let more = both_more at (length c.seats.others.items) c.args.firsts.now.items c.args.others.items c.seats.firsts.items c.index_mut.result.now c.in-Some.other c.join.new.seat p.long
    c.seats.invariant.both there p.there c.join.ensures in
    record {
      both = subst (λ (k : ℕ). BothFrom k c.args.firsts.now.items c.args.others.items (set c.seats.firsts.items at c.join.new.seat)) size more;
      front = p.rest_is;
    }

pub returns : goal.returns
returns g c =
    let none : length c.seats.others.items ≡ 0 = sym c.seats.others.ok.0 ∙ c.in_default.ensures.cases.0 in
    both_all c.args.firsts.now.items c.args.others.items c.seats.firsts.items
    (subst (λ (k : ℕ). BothFrom k c.args.firsts.now.items c.args.others.items c.seats.firsts.items) none c.seats.invariant.both)
