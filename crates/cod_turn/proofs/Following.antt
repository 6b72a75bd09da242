-- What is known of a value that follows another by one event of a caller among several.
use Rattle.std.proofs.Common.{◌≡◌, ◌≢◌, ℕ, ◌<◌, List, sym, ap, ◌∙◌, arith}
use mathlib.Core.List.{IsPrefix}
use Rattle.cod_chronicle.specs.declared.entry.Entry.{Entry}
use Rattle.cod_chronicle.specs.Said.{calls_by}
use Rattle.cod_chronicle.specs.Standing.{EventRelation, OpenCalls}
use Rattle.cod_chronicle.proofs.Stepping.{leaves_others_calls}
use Rattle.cod_seats.specs.Totals.{times}
use Rattle.cod_turn.specs.Turning.{FollowsByOne}

-- a caller that isn't among them is another one
is_other : (cs : List ℕ) (by c : ℕ) → 0 < times by cs → times c cs ≡ 0 → c ≢ by
is_other cs by c mine off same = let e : times c cs ≡ times by cs = ap (λ (z : ℕ). times z cs) same in omega (arith, e)

module _ {T : Type 0} (name : T → List ℕ) (log : T → List Entry) (gauge : T → List ℕ) (opened : T → OpenCalls) (event : EventRelation) where
  pub begins : (cs : List ℕ) (x y : T) → FollowsByOne name log gauge opened event cs x y → IsPrefix (log x) (log y)
  begins cs x y f = (f.step.added, sym f.step.grown)

  pub others_calls : (cs : List ℕ) (x y : T) → FollowsByOne name log gauge opened event cs x y → (c : ℕ) → times c cs ≡ 0 → calls_by c (log y) ≡ calls_by c (log x)
  others_calls cs x y f c off = ap (calls_by c) f.step.grown ∙ leaves_others_calls f.by c (log x) f.step.added (is_other cs f.by c f.mine off) f.step.calls

  pub others_open : (cs : List ℕ) (x y : T) → FollowsByOne name log gauge opened event cs x y → (c : ℕ) → times c cs ≡ 0 → opened y c ≡ opened x c
  others_open cs x y f c off = f.step.others c (is_other cs f.by c f.mine off)
