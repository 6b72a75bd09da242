use Rattle.std.proofs.Common.{◌≡◌, ℕ, ◌+◌, List, ◌++◌, ◌∷◌, [], ◌∙◌, sym, subst, arith}
use Rattle.std.specs.List.{range_with_len}
use Rattle.cod_turns.specs.Turns.{Course}
use Rattle.cod_turns.specs.Rounds.{Takings, TurnsWork}
use Rattle.cod_turns.proofs.Lists.{range_push}
use Rattle.cod_turns.proofs.Rounding.{takings_push, turns_push, turn_as}
use Rattle.cod_turns.proofs.machine.one_round.Goals as goal

pub loop-client-preserved : goal.loop-client-preserved
loop-client-preserved g c =
    let i = c.loop-client.client in
    let x = g.M.Machine.course c.args.m.now in
    let most = g.M.Machine.most c.args.m.now in
    let p = c.loop-client.invariant.course in
    let q = c.loop-client.invariant.most in
    let w = g.M.Machine.world c.args.m.now in
    let u = g.M.Machine.world c.loop-client.m in
    let v = g.M.Machine.world c.turn.new.self in
    let a = g.M.Machine.work c.args.m.now in
    let l = g.M.Machine.work c.loop-client.m in
    let b = g.M.Machine.work c.turn.new.self in
    let one = turn_as (g.M.Machine.course c.loop-client.m) x (g.M.Machine.most c.loop-client.m) most i u v l b c.turn.result p q c.turn.ensures.turn c.turn.ensures.work in
    let all = turns_push x most (range_with_len 0 i) i w u v a l b c.turn.result c.loop-client.invariant.turned one.0 one.1 in
    let z : 0 + i ≡ i = omega arith in
    let more = sym (subst (λ (n : ℕ). range_with_len 0 (i + 1) ≡ range_with_len 0 i ++ n ∷ []) z (range_push 0 i)) in
    let took = subst (λ (k : Course). g.M.Machine.takes k i c.loop-client.m c.turn.new.self) p c.turn.ensures.takes in
    record {
      turned = subst (λ (k : List ℕ). TurnsWork x most k w v a b) more all;
      took = subst (λ (k : List ℕ). Takings (g.M.Machine.takes x) k c.args.m.now c.turn.new.self) more
          (takings_push (g.M.Machine.takes x) (range_with_len 0 i) i c.args.m.now c.loop-client.m c.turn.new.self c.loop-client.invariant.took took);
      course = c.turn.ensures.course ∙ p;
      most = c.turn.ensures.most ∙ q;
      clients = c.loop-client.invariant.clients;
    }
