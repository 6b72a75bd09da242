-- Runs in their segments.
use Rattle.std.proofs.Common.{◌≡◌, ◌⊎◌, inl, inr, ℕ, List, [], ◌∷◌, ◌++◌, refl, sym, ap, ◌∙◌, subst}
use Rattle.cod_seg.specs.Seg.{Seg}
use Rattle.cod_segment.specs.Events.{kills_at}
use Rattle.cod_turns.specs.Turns.{Course, Turn, Turns, World}
use Rattle.cod_turns.specs.declared.turned.Turned.{Turned}
use Rattle.cod_turns.specs.declared.turned.Turned.TheVariants.{Ended, Killed}
use Rattle.cod_advance.specs.Histories.{Leads, LeadsAreTurns, Moment, Takes, world_at}
use Rattle.cod_advance.specs.Served.{turned_by}
use Rattle.cod_advance.specs.Worlds.{AreSegmentsOf, world_of}
use Rattle.cod_advance.proofs.Worldly.{ending_is_turn, failing_is_turn, serving_is_turn, serving_keeps}

-- one turn
takes_turn : (x : Course) (who : ℕ) (a b : Moment) → AreSegmentsOf x a.segs → Takes x who a b → (turned : Turned) × Turn x who (world_at a) (world_at b) turned × AreSegmentsOf x b.segs
takes_turn x who a b are (inl served) =
    let t = serving_is_turn x who (kills_at a.kills) served.0 a.segs a.places b.segs b.places are served.1 in (
      turned_by served.0,
      subst (λ (k : _). Turn x who (world_at a) (world_of b.segs (kills_at k) b.places) (turned_by served.0)) (sym served.2) t,
      serving_keeps x who (kills_at a.kills) served.0 a.segs a.places b.segs b.places are served.1,
    )
takes_turn x who a b are (inr (inl failed)) = (
  Killed,
  subst (λ (s : List Seg). Turn x who (world_at a) (world_of s (kills_at b.kills) b.places) Killed) (sym failed.1)
      (failing_is_turn x who a.segs a.kills a.places b.kills b.places failed.0),
  subst (λ (s : List Seg). AreSegmentsOf x s) (sym failed.1) are,
)
takes_turn x who a b are (inr (inr ended)) = (
  Ended,
  subst (λ (m : Moment). Turn x who (world_at a) (world_at m) Ended) (sym ended.1) (ending_is_turn x who a.segs (kills_at a.kills) a.places ended.0),
  subst (λ (m : Moment). AreSegmentsOf x m.segs) (sym ended.1) are,
)

pub leads_are_turns : LeadsAreTurns
leads_are_turns x [] a b are leads = (ap world_at leads, subst (λ (m : Moment). AreSegmentsOf x m.segs) (sym leads) are)
leads_are_turns x (who ∷ rest) a b are leads =
    let one = takes_turn x who a leads.0 are leads.1 in
    let more = leads_are_turns x rest leads.0 b one.2 leads.2 in
    ((world_at leads.0, one.0, one.1, more.0), more.1)
