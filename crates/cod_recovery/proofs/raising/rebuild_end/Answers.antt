use Rattle.std.proofs.Common.{◌≡◌, ℕ, ◌<◌, List, ◌∷◌, ◌++◌, [], ◌∙◌, length, All, Some, true, refl, sym, ap, subst, arith}
use Rattle.cod_chronicle.specs.declared.entry.Entry.{Entry}
use Rattle.cod_chronicle.specs.declared.entry.Entry.TheVariants.{Up}
use Rattle.cod_chronicle.specs.Said.{clock_of, next_stamp, numbers_by, StampFollows}
use Rattle.cod_seg.specs.Seg.{col_at, Rebuilding, Seg}
use Rattle.cod_seg.specs.Steps.{placed_col, risen}
use Rattle.cod_segment.specs.declared.asking.Outcome.TheVariants.{Answered}
use Rattle.cod_segment.specs.Events.{call_in, request_of}
use Rattle.cod_segment.proofs.Answering.{calm_setting, sound_after}
use Rattle.cod_recovery.proofs.Bringing.{end_below, end_goal, end_is, some_rebuild, some_target}
use Rattle.cod_recovery.proofs.Risings.{IsEnding, makes_rise, newest_then, rise_costs, rise_outcome, risen_is, the_rise}
use Rattle.cod_recovery.proofs.Rooms.{column_came, settled_balance, settled_came}
use Rattle.cod_recovery.proofs.raising.rebuild_end.Goals as goal

pub unreachable-requires : goal.unreachable-requires
unreachable-requires g c =
    let at = end_goal c.args.segment.now c.args.asker.caller.0 (call_in c.args.slip.now) c.requires.sound c.requires.next in
    some_rebuild c.args.segment.now.rebuild at.0 at.2 (rw (← c.segment.view_is) (sym c.take.ensures.value ∙ c.in_default.is))

pub unreachable-requires-in_default-target : goal.unreachable-requires-in_default-target
unreachable-requires-in_default-target g c =
    let at = end_goal c.args.segment.now c.args.asker.caller.0 (call_in c.args.slip.now) c.requires.sound c.requires.next in
    let was : c.args.segment.now.rebuild ≡ Some c.in-Some.rebuild = rw (← c.segment.view_is) (sym c.take.ensures.value ∙ c.in-Some.is) in
    some_target c.args.segment.now.rebuild at.0 c.in-Some.rebuild at.1 at.2 at.3 was (rw (← c.rebuild.view_is) c.in_default-target.is)

pub settle-requires-clause-came : goal.settle-requires-clause-came
settle-requires-clause-came g c =
    let s = c.args.segment.now in
    let was : c.args.segment.now.rebuild ≡ Some c.in-Some.rebuild = rw (← c.segment.view_is) (sym c.take.ensures.value ∙ c.in-Some.is) in
    let goal : c.in-Some.rebuild.target ≡ Some c.in-Some-target.target = rw (← c.rebuild.view_is) c.in-Some-target.is in
    let below = end_below s c.args.asker.caller.0 (call_in c.args.slip.now) c.in-Some.rebuild c.requires.sound was in
    subst (λ (x : Seg). g.P.Pools.Came c.args.pools.now ((col_at x.cols c.rebuild.inside.col).room ∷ [])) (sym c.segment.view_is)
    (subst (λ (r : Rebuilding). g.P.Pools.Came c.args.pools.now ((col_at c.args.segment.now.cols r.col).room ∷ [])) (sym c.rebuild.view_is)
    (column_came (g.P.Pools.Came c.args.pools.now) s c.in-Some.rebuild c.in-Some-target.target (placed_col s.site.shape (risen s.site.shape c.in-Some.rebuild.col c.in-Some-target.target))
    (g.met.P.Pools.came_order c.args.pools.now) (g.met.P.Pools.came_front c.args.pools.now) was goal refl below c.requires.pools.2))

pub answer-requires-clause-newest : goal.answer-requires-clause-newest
answer-requires-clause-newest g c =
    let e = newest_then c.args.segment.now.log c.args.asker.caller.0 c.args.asker.number c.next_stamp-stamp.result c.rebuild.inside.col c.node-node.result c.requires.asked.newest in
    rw c.push_link.ensures (subst (λ (s : Seg). All (λ m. m < c.args.asker.number)
    (numbers_by c.args.asker.caller.0 (s.log ++ Up c.next_stamp-stamp.result c.rebuild.inside.col c.node-node.result ∷ []))) (sym c.segment.view_is) e)

-- what the clauses follow from
ending : (g : _) (c : goal.After-answer g)
    → IsEnding c.args.segment.now c.answer.new.self c.args.asker.caller c.args.asker.number c.args.slip.now (call_in c.args.slip.now) c.in-Some.rebuild c.in-Some-target.target
    c.args.clock.now c.next_stamp-stamp.result c.answer.new.clock
ending g c =
    let was : c.args.segment.now.rebuild ≡ Some c.in-Some.rebuild = rw (← c.segment.view_is) (sym c.take.ensures.value ∙ c.in-Some.is) in
    let goal : c.in-Some.rebuild.target ≡ Some c.in-Some-target.target = rw (← c.rebuild.view_is) c.in-Some-target.is in
    let up = end_is c.args.segment.now c.args.asker.caller.0 c.args.asker.number c.args.slip.now (call_in c.args.slip.now) c.in-Some.rebuild c.in-Some-target.target
    c.requires.sound c.requires.asked c.requires.next was goal in
    let log : c.push_link.new.self ≡ c.args.segment.now.log ++ Up c.next_stamp-stamp.result c.in-Some.rebuild.col c.in-Some-target.target.room.node ∷ [] =
    rw (← c.segment.view_is, ← c.rebuild.view_is, ← c.node-node.ensures) c.push_link.ensures in
    record {
      sound = c.requires.sound;
      asked = c.requires.asked;
      up = up.0;
      whole = up.1;
      first_is = rw (← c.segment.view_is) c.next_stamp-stamp.ensures.stamp;
      first_follows = rw (← c.segment.view_is) c.next_stamp-stamp.ensures.follows;
      second_is = c.answer.ensures.clock ∙ ap (λ (h : List Entry). next_stamp (clock_of h) c.next_stamp-stamp.new.clock) log
          ∙ ap (λ (n : ℕ). next_stamp (clock_of (c.args.segment.now.log ++ Up c.next_stamp-stamp.result c.in-Some.rebuild.col c.in-Some-target.target.room.node ∷ [])) n)
          c.next_stamp-stamp.ensures.clock;
      second_follows = subst (λ (h : List Entry). StampFollows h c.answer.new.clock) log c.answer.ensures.follows;
      becomes = risen_is c.args.segment.now c.answer.new.self c.in-Some.rebuild c.in-Some-target.target c.args.asker.caller c.args.asker.number c.args.slip.now c.next_stamp-stamp.result
          c.answer.new.clock c.rebuild.inside.col c.node-node.result (call_in c.args.slip.now) c.settle.new.columns c.forget.new.self c.push_link.new.self c.take.new.self
          (ap (λ (r : Rebuilding). r.col) c.rebuild.view_is) c.node-node.ensures (rw (← c.segment.view_is) c.settle.ensures.columns) (rw (← c.segment.view_is) c.forget.ensures)
          (rw (← c.segment.view_is) c.push_link.ensures) c.take.ensures.after up.0 c.requires.sound (rw (← c.segment.view_is) c.answer.ensures.becomes);
    }

pub returns-clause-sound : goal.returns-clause-sound
returns-clause-sound g c =
    sound_after (calm_setting c.args.segment.now) (request_of c.args.asker.caller.0 c.args.asker.number (call_in c.args.slip.now)) c.args.clock.now c.answer.new.clock true
    c.args.segment.now c.answer.new.self c.requires.sound
    (makes_rise (calm_setting c.args.segment.now) c.args.segment.now c.answer.new.self c.args.asker.caller c.args.asker.number c.args.slip.now (call_in c.args.slip.now)
    c.in-Some.rebuild c.in-Some-target.target c.args.clock.now c.next_stamp-stamp.result c.answer.new.clock (ending g c))

pub returns-clause-makes : goal.returns-clause-makes
returns-clause-makes g c = λ w setting.
    rw c.answer.ensures.outcome
    (makes_rise w c.args.segment.now c.answer.new.self c.args.asker.caller c.args.asker.number c.args.slip.now (call_in c.args.slip.now)
    c.in-Some.rebuild c.in-Some-target.target c.args.clock.now c.next_stamp-stamp.result c.answer.new.clock (ending g c))

pub returns-clause-exact : goal.returns-clause-exact
returns-clause-exact g c = λ w.
    rw c.answer.ensures.outcome
    (the_rise c.args.segment.now c.answer.new.self c.args.asker.caller c.args.asker.number c.args.slip.now (call_in c.args.slip.now)
    c.in-Some.rebuild c.in-Some-target.target c.args.clock.now c.next_stamp-stamp.result c.answer.new.clock (ending g c))

pub returns-clause-outcome : goal.returns-clause-outcome
returns-clause-outcome g c =
    let log : c.push_link.new.self ≡ c.args.segment.now.log ++ Up c.next_stamp-stamp.result c.in-Some.rebuild.col c.in-Some-target.target.room.node ∷ [] =
    rw (← c.segment.view_is, ← c.rebuild.view_is, ← c.node-node.ensures) c.push_link.ensures in
    let told : c.answer.result
    ≡ Answered (length (c.args.segment.now.log ++ Up c.next_stamp-stamp.result c.in-Some.rebuild.col c.in-Some-target.target.room.node ∷ [])) c.answer.new.clock =
    c.answer.ensures.outcome ∙ ap (λ (h : List Entry). Answered (length h) c.answer.new.clock) log in
    rw told
    (rise_outcome (calm_setting c.args.segment.now) c.args.segment.now c.answer.new.self c.args.asker.caller c.args.asker.number c.args.slip.now c.answer.new.slip (call_in c.args.slip.now)
    c.in-Some.rebuild c.in-Some-target.target c.args.clock.now c.next_stamp-stamp.result c.answer.new.clock (ending g c)
    (rw (← c.rebuild.view_is, ← c.node-node.ensures, c.answer.ensures.slip) refl))

pub returns-clause-told : goal.returns-clause-told
returns-clause-told g c =
    let was : c.args.segment.now.rebuild ≡ Some c.in-Some.rebuild = rw (← c.segment.view_is) (sym c.take.ensures.value ∙ c.in-Some.is) in
    let goal : c.in-Some.rebuild.target ≡ Some c.in-Some-target.target = rw (← c.rebuild.view_is) c.in-Some-target.is in (
      c.in-Some.rebuild,
      c.in-Some-target.target,
      was,
      goal,
      rw (← c.rebuild.view_is, ← c.node-node.ensures, c.answer.ensures.slip) refl,
    )

pub returns-clause-costs : goal.returns-clause-costs
returns-clause-costs g c = λ none.
    rise_costs c.args.segment.now c.answer.new.self c.args.asker.caller c.args.asker.number c.args.slip.now (call_in c.args.slip.now)
    c.in-Some.rebuild c.in-Some-target.target c.args.clock.now c.next_stamp-stamp.result c.answer.new.clock (ending g c)

pub returns-clause-rooms : goal.returns-clause-rooms
returns-clause-rooms g c = λ rest came.
    let s = c.args.segment.now in
    let is = ending g c in
    let size = is.sound.columns.size in
    let among = is.up.is.column in
    settled_came (g.P.Pools.Came c.args.pools.now) (g.P.Pools.Came c.settle.new.pools) s c.answer.new.self c.in-Some.rebuild c.in-Some-target.target
    (placed_col s.site.shape (risen s.site.shape c.in-Some.rebuild.col c.in-Some-target.target)) rest (g.met.P.Pools.came_order c.args.pools.now) is.up.was is.up.goal refl
    (omega (arith, size, among)) (ap (λ (x : Seg). x.cols) is.becomes) (ap (λ (x : Seg). x.rebuild) is.becomes)
    (rw (← c.segment.view_is, ← c.rebuild.view_is) c.settle.ensures.came) came

pub returns-clause-balance : goal.returns-clause-balance
returns-clause-balance g c =
    let s = c.args.segment.now in
    let is = ending g c in
    let size = is.sound.columns.size in
    let among = is.up.is.column in
    settled_balance (g.P.Pools.free c.args.pools.now) (g.P.Pools.free c.settle.new.pools) s c.answer.new.self c.in-Some.rebuild c.in-Some-target.target
    (placed_col s.site.shape (risen s.site.shape c.in-Some.rebuild.col c.in-Some-target.target)) is.up.was is.up.goal refl
    (omega (arith, size, among)) (ap (λ (x : Seg). x.cols) is.becomes) (ap (λ (x : Seg). x.rebuild) is.becomes)
    (rw (← c.segment.view_is, ← c.rebuild.view_is) c.settle.ensures.balance)
