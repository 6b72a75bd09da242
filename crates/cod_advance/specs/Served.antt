-- One event of a segment, as a turn of a run has it.
use Rattle.std.specs.Prelude.{◌≡◌, ◌≢◌, ℕ, List, ◌++◌}
use Rattle.cod_claims.specs.Slips.{Paper}
use Rattle.cod_chronicle.specs.declared.entry.Entry.{Entry}
use Rattle.cod_chronicle.specs.Event.{Event, Request, Setting}
use Rattle.cod_chronicle.specs.Step.{IsStep}
use Rattle.cod_chronicle.specs.Sweep.{Proceeds}
use Rattle.cod_seg.specs.Next.{open_in}
use Rattle.cod_seg.specs.Seg.{Seg}
use Rattle.cod_seg.specs.Sound.{Sound}
use Rattle.cod_segment.specs.declared.asking.Outcome.{Outcome}
use Rattle.cod_segment.specs.declared.asking.Outcome.TheVariants as outcome
use Rattle.cod_segment.specs.Advancing.{IsAdvanced}
use Rattle.cod_segment.specs.Events.{IsAsked, IsSettingOf}
use Rattle.cod_segment.specs.Exact.{Turns}
use Rattle.cod_turns.specs.Turns.{Comes, is_answered, is_held}
use Rattle.cod_turns.specs.declared.turned.Turned.{Turned}
use Rattle.cod_turns.specs.declared.turned.Turned.TheVariants.{Held, Moved, Answered}

-- what came of an event, as a turn says it
abbrev pub turned_by : Outcome → Turned
turned_by outcome.Moved = Moved
turned_by (outcome.Answered position stamp) = Answered position stamp
turned_by (outcome.Held h) = Held h.owner h.number

-- A caller's event of a sound segment, as it is promised, with the call's slip before and after it.
pub record IsEvent (w : Setting) (r : Request) (t after : ℕ) (outcome : Outcome) (s u : Seg) : Type 0 where
  pub old : Paper
  pub new : Paper
  pub sound : Sound s
  pub setting : IsSettingOf w s
  pub asked : IsAsked s r.caller r.number old r.call
  pub turns : Turns w r t after outcome s u
  pub advanced : IsAdvanced outcome r after u old new

-- ---- on any board

-- What a caller may say of its event, also where others kill nodes meanwhile: some entries are added by one event; what came of it is what
-- the caller has open now; what other callers have open stays; and the segment is sound, at the same site.
pub record IsStepped (w : Setting) (r : Request) (t after : ℕ) (turned : Turned) (s u : Seg) : Type 0 where
  pub entries : List Entry
  pub grown : u.log ≡ s.log ++ entries
  pub event : Event w r s.log t entries after (is_answered turned)
  pub comes : Comes r after u.log (open_in s) (open_in u) turned
  pub others : (c : ℕ) → c ≢ r.caller → open_in u c ≡ open_in s c
  pub site : u.site ≡ s.site
  pub frail : u.frail ≡ s.frail
  pub sound : Sound u

abbrev pub EventIsStep : Type 0
EventIsStep = (w : Setting) (r : Request) (t after : ℕ) (outcome : Outcome) (s u : Seg) → IsEvent w r t after outcome s u
    → IsStepped w r t after (turned_by outcome) s u

-- so its chronicle steps on, as those see it who take turns with it
abbrev pub SteppedIsStep : Type 0
SteppedIsStep = (w : Setting) (r : Request) (t after : ℕ) (turned : Turned) (s u : Seg) → IsStepped w r t after turned s u
    → IsStep w.site w.may r.caller s.log u.log

-- ---- on a board on which nothing changes

-- no node is killed meanwhile: the event sees the kills that it knew
abbrev pub IsCalm : Setting → Type 0
IsCalm w = (x : ℕ) → w.known x ≡ w.seen x

-- What a turn says of its segment: the same, and the event is its sweep and then its step, which finds no killed node.
pub record IsServed (w : Setting) (r : Request) (t after : ℕ) (turned : Turned) (s u : Seg) : Type 0 where
  pub entries : List Entry
  pub grown : u.log ≡ s.log ++ entries
  pub event : Proceeds w r s.log t entries after (is_held turned) (is_answered turned)
  pub comes : Comes r after u.log (open_in s) (open_in u) turned
  pub others : (c : ℕ) → c ≢ r.caller → open_in u c ≡ open_in s c
  pub site : u.site ≡ s.site
  pub frail : u.frail ≡ s.frail
  pub sound : Sound u

abbrev pub EventIsTurn : Type 0
EventIsTurn = (w : Setting) (r : Request) (t after : ℕ) (outcome : Outcome) (s u : Seg) → IsEvent w r t after outcome s u → IsCalm w
    → IsServed w r t after (turned_by outcome) s u
