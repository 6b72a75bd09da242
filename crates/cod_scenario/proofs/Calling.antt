-- A call may come after a line of a client.
use Rattle.std.proofs.Common.{◌≡◌, ℕ, ◌<◌, ◌≤◌, true, List, length, refl, Option, Some}
use Rattle.std.proofs.lemmas.Bool.{false≢true, eqb-true}
use Rattle.cod_types.specs.declared.call.Call.{Call}
use Rattle.cod_types.specs.declared.call.Call.TheVariants as calls
use Rattle.cod_types.specs.declared.call.SegId.{SegId}
use Rattle.cod_script.specs.Script.{Body}
use Rattle.cod_script.specs.Sound.{HasBytes, IsDatedCall, NamesNode}
use Rattle.cod_script.specs.declared.line.What.TheVariants.{Segment}
use Rattle.cod_scenario.specs.declared.said.Said.{Said}
use Rattle.cod_scenario.specs.declared.said.Said.TheVariants as said
use Rattle.cod_scenario.specs.Judge.{has_call, last_of, is_among}
use Rattle.cod_scenario.specs.Lines.{header_of, body_of, segments_of}
use Rattle.cod_scenario.specs.Reading.{Accepts, AreBefore, HasSome, place_of}

among_place : (o : Option Said) → is_among o ≡ true → place_of o ≡ 8
among_place (Some (said.Client name)) e = refl
among_place (Some (said.Does line what)) e = refl
among_place _ e = absurd (false≢true e)

among_some : (o : Option Said) (p : Body) → is_among o ≡ true → HasSome o p → (1 ≤ length p.segments) × (1 ≤ length p.clients)
among_some (Some (said.Client name)) p e h = h
among_some (Some (said.Does line what)) p e h = h
among_some _ p e h = absurd (false≢true e)

has_dated : (version : ℕ) (call : Call) → has_call version call ≡ true → IsDatedCall version call
has_dated version calls.Upgrade e = eqb-true version 2 e
has_dated version (calls.Read off len) e = tt
has_dated version (calls.Write off bytes) e = tt
has_dated version (calls.Swap off old new) e = tt
has_dated version (calls.Put bytes) e = tt
has_dated version calls.Merge e = tt
has_dated version calls.Tick e = tt
has_dated version calls.Rebuild e = tt
has_dated version (calls.Drain node) e = tt

pub call_accepts : (before : List Said) (line : ℕ) (seg : SegId) (call : Call) → 1 ≤ line → AreBefore line (body_of before).clients → is_among (last_of before) ≡ true
    → (seg.0 < length (segments_of before)) × NamesNode (header_of before).nodes call → HasBytes call → has_call (header_of before).version call ≡ true
    → Accepts before (said.Does line (Segment seg call))
call_accepts before line seg call le smaller e there bytes has = record {
  order = among_place (last_of before) e;
  needs = λ h. among_some (last_of before) (body_of before) e h;
  fresh = tt;
  good = (le, (there.0, there.1, bytes), has_dated (header_of before).version call has);
  later = smaller;
}
