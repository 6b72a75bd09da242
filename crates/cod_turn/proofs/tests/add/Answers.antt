use Rattle.std.proofs.Common.{◌≡◌, ℕ, ◌+◌, List, [], ◌∷◌, Some, None, cond, Bool, refl, sym, ap, ◌∙◌, subst}
use Rattle.cod_chronicle.specs.declared.entry.Entry.{Entry}
use Rattle.cod_turn.specs.declared.view.View.{View}
use Rattle.cod_turn.specs.Seats.{Seated}
use Rattle.cod_turn.specs.Turning.{FollowsByOne, callers}
use Rattle.cod_turn.proofs.Numbering.{Below, no_name, whole, nothing_open, Happens, taken_below, all_weaker, below_more, follows_same, follows_more, numbered_then, caller_of}
use Rattle.std.proofs.lemmas.Bool.{eq-eqb}
use Rattle.cod_turn.proofs.tests.add.Goals as goal
use Rattle.cod_turn.proofs.tests.add.Goals.{then-room, else-room}

pub push_link-requires-clause-number : goal.push_link-requires-clause-number
push_link-requires-clause-number g c = taken_below c.args.caller c.args.number c.args.seat.now.knows c.take-chronicle.result c.requires.numbered c.take-chronicle.ensures.value.1

pub give-requires-clause-follows : goal.give-requires-clause-follows
give-requires-clause-follows g c =
    let t = ap (λ (s : Seated (List Entry)). s.knows) c.take-chronicle.ensures.seat in
    let x : List Entry = c.take-chronicle.result in
    let mine = ap callers t ∙ caller_of c.args.caller c.args.number c.args.seat.now.knows c.requires.numbered in
    let step : List Entry → Type 0 = λ y. FollowsByOne no_name whole no_name nothing_open Happens (c.args.caller ∷ []) x y in (
      x,
      ap (λ (v : View (List Entry)). v.hold) t,
      subst (λ (cs : List ℕ). FollowsByOne no_name whole no_name nothing_open Happens cs x c.if-room.chronicle) (sym mine)
          (elim c.if-room.branch [
            | then-room w ↦ subst step (sym (w.chronicle-is ∙ w.push_link.ensures)) (follows_more c.args.caller x _ refl)
            | else-room w ↦ subst step (sym w.chronicle-is) (follows_same c.args.caller x)
          ]),
    )

pub returns-clause-numbered : goal.returns-clause-numbered
returns-clause-numbered g c =
    let t = ap (λ (s : Seated (List Entry)). s.knows) c.take-chronicle.ensures.seat in
    let x : List Entry = c.take-chronicle.result in
    let v : View (List Entry) = c.take-chronicle.new.seat.knows in
    let mine : callers v ≡ c.args.caller ∷ [] = ap callers t ∙ caller_of c.args.caller c.args.number c.args.seat.now.knows c.requires.numbered in
    let before = taken_below c.args.caller c.args.number c.args.seat.now.knows x c.requires.numbered c.take-chronicle.ensures.value.1 in
    let below : Below c.args.caller (c.args.number + 1) c.if-room.chronicle =
    elim c.if-room.branch [
      | then-room w ↦ subst (Below c.args.caller (c.args.number + 1)) (sym (w.chronicle-is ∙ w.push_link.ensures))
          (below_more c.args.caller c.args.number 0 x _ (ap (λ (b : Bool). cond b (Some c.args.number) None) (eq-eqb c.args.caller c.args.caller refl)) before)
      | else-room w ↦ subst (Below c.args.caller (c.args.number + 1)) (sym w.chronicle-is) (all_weaker c.args.number _ before)
    ] in
    numbered_then c.args.caller (c.args.number + 1) v c.give.new.seat.knows.own c.if-room.chronicle mine
    (ap (λ (u : View (List Entry)). u.own) (c.give.ensures.seat x (ap (λ (w : View (List Entry)). w.hold) t))) below
