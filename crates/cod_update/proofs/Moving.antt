-- What an event gives that moves a call on.
use Rattle.std.proofs.Common.{◌≡◌, ℕ, ◌∙◌, List, false, Some, ap, subst}
use Rattle.cod_types.specs.declared.call.Call.{Call as Asked}
use Rattle.cod_chronicle.specs.declared.entry.Entry.{Entry}
use Rattle.cod_chronicle.specs.Event.{Setting}
use Rattle.cod_chronicle.specs.Said.{clock_of, next_stamp, StampFollows}
use Rattle.cod_claims.specs.Slips.{Paper}
use Rattle.cod_seg.specs.Next.{open_in}
use Rattle.cod_seg.specs.Seg.{Seg}
use Rattle.cod_seg.specs.Sound.{Sound}
use Rattle.cod_seg.specs.Steps.{marks}
use Rattle.cod_seg.specs.declared.next.Step.{Step}
use Rattle.cod_segment.specs.declared.asking.Outcome.TheVariants.{Moved}
use Rattle.cod_segment.specs.Events.{Costs, HasBegun, IsOutcome, IsSettingOf, Makes, NoneFails, request_of, rooms_of}
use Rattle.cod_seg.proofs.Going.{step_keeps}
use Rattle.cod_update.proofs.Falling.{HasFallen, makes_mark, mark_open, mark_rooms, marked, some_fails}

pub record Moves (s u : Seg) (caller number t after : ℕ) (p : Paper) (call : Asked) (next : Step) : Type 0 where
  pub sound : Sound u
  pub makes : (w : Setting) → IsSettingOf w s → Makes w (request_of caller number call) t after false s u
  pub outcome : IsOutcome Moved (request_of caller number call) after u p
  pub costs : NoneFails s u → Costs s caller call next u
  pub rooms : rooms_of u ≡ rooms_of s

-- a column was marked
pub moves_down : (s m u : Seg) (i caller number t stamp : ℕ) (p : Paper) (call : Asked) (next : Step) → Sound s → HasFallen s m u i stamp → stamp ≡ next_stamp (clock_of m.log) t
    → StampFollows m.log stamp → open_in s caller ≡ Some (number, call) → HasBegun p call → Moves s u caller number t stamp p call next
moves_down s m u i caller number t stamp p call next sound h stamped_later follows_later opened begun =
    let same : m.log ≡ s.log = ap (λ (x : Seg). x.log) h.f.becomes in
    let stamped : stamp ≡ next_stamp (clock_of s.log) t = subst (λ (l : List Entry). stamp ≡ next_stamp (clock_of l) t) same stamped_later in
    let follows : StampFollows s.log stamp = subst (λ (l : List Entry). StampFollows l stamp) same follows_later in
    record {
      sound = step_keeps s u sound (marks i h.is.below (marked s u i stamp h.f.state sound h.is follows h.becomes));
      makes = λ w setting. makes_mark w (request_of caller number call) s u i t stamp h.f.state setting sound h.is stamped follows h.becomes;
      outcome = (mark_open s u i stamp caller h.f.state h.becomes ∙ opened, begun);
      costs = λ none. absurd (some_fails s u i stamp h.f.state sound h.is h.becomes none);
      rooms = mark_rooms s u i stamp h.f.state h.becomes;
    }
