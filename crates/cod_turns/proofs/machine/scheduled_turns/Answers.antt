use Rattle.std.proofs.Common.{◌≡◌, ℕ, ◌<◌, List, [], ◌∷◌, ◌++◌, length, get_or, take, ap, ◌∙◌, sym, subst, arith}
use Rattle.std.proofs.lemmas.List.{take_more}
use Rattle.cod_turns.specs.Turns.{Course}
use Rattle.cod_turns.specs.Rounds.{Takings, TurnsWork}
use Rattle.cod_turns.proofs.Rounding.{takings_push, turns_push, turn_as}
use Rattle.cod_turns.proofs.machine.scheduled_turns.Goals as goal

pub loop-i-preserved : goal.loop-i-preserved
loop-i-preserved g c =
    let i = c.loop-i.i in
    let x = g.M.Machine.course c.args.m.now in
    let s = x.script.schedule in
    let most = g.M.Machine.most c.args.m.now in
    let p = c.loop-i.invariant.course in
    let q = c.loop-i.invariant.most in
    let w = g.M.Machine.world c.args.m.now in
    let u = g.M.Machine.world c.loop-i.m in
    let v = g.M.Machine.world c.turn.new.self in
    let a = g.M.Machine.work c.args.m.now in
    let l = g.M.Machine.work c.loop-i.m in
    let b = g.M.Machine.work c.turn.new.self in
    let r = c.schedule.result.now in
    let e : r ≡ s = c.schedule.ensures ∙ ap (λ (k : Course). k.script.schedule) p in
    let one = turn_as (g.M.Machine.course c.loop-i.m) x (g.M.Machine.most c.loop-i.m) most (get_or r i 0) u v l b c.turn.result p q c.turn.ensures.turn c.turn.ensures.work in
    let all = turns_push x most (take i s) (get_or r i 0) w u v a l b c.turn.result c.loop-i.invariant.turned one.0 one.1 in
    let here = subst (λ (k : List ℕ). TurnsWork x most (take i s ++ get_or k i 0 ∷ []) w v a b) e all in
    let test = c.loop-i-test.true in
    let first = ap length (c.schedule-turns.ensures) in
    let lt : i < length s = omega (arith, test, first) in
    let took = subst (λ (k : Course). g.M.Machine.takes k (get_or r i 0) c.loop-i.m c.turn.new.self) p c.turn.ensures.takes in
    let more = takings_push (g.M.Machine.takes x) (take i s) (get_or r i 0) c.args.m.now c.loop-i.m c.turn.new.self c.loop-i.invariant.took took in
    let now = subst (λ (k : List ℕ). Takings (g.M.Machine.takes x) (take i s ++ get_or k i 0 ∷ []) c.args.m.now c.turn.new.self) e more in
    record {
      turned = subst (λ (k : List ℕ). TurnsWork x most k w v a b) (sym (take_more s i 0 lt)) here;
      took = subst (λ (k : List ℕ). Takings (g.M.Machine.takes x) k c.args.m.now c.turn.new.self) (sym (take_more s i 0 lt)) now;
      course = c.turn.ensures.course ∙ p;
      most = c.turn.ensures.most ∙ q;
      turns = c.loop-i.invariant.turns;
    }
