-- A rebuild where no column is down, and a drain of a node that no live column is on.
use Rattle.std.proofs.Common.{◌≡◌, inl, inr, ℕ, zero, suc, ◌<◌, ◌≤◌, List, [], ◌∷◌, ◌++◌, Bool, true, false, cond, Some, None, refl, sym, ap, ◌∙◌, subst, arith}
use Rattle.std.specs.Prelude.{◌+◌, filter}
use Rattle.std.specs.List.{range_with_len}
use Rattle.std.proofs.lemmas.Bool.{cases_eq}
use Rattle.cod_types.specs.declared.call.Call.{Call as Asked}
use Rattle.cod_types.specs.declared.call.Call.TheVariants.{Drain, Rebuild}
use Rattle.cod_types.specs.declared.call.Caller.{Caller}
use Rattle.cod_types.specs.declared.call.NodeId.{NodeId}
use Rattle.cod_types.specs.declared.call.Reply.TheVariants.{Clear, Whole}
use Rattle.cod_chronicle.specs.declared.entry.Entry.{Entry}
use Rattle.cod_chronicle.specs.declared.entry.Entry.TheVariants.{Call}
use Rattle.cod_chronicle.specs.Event.{Setting}
use Rattle.cod_chronicle.specs.Said.{clock_of, downs, is_down, next_stamp, Site, StampFollows}
use Rattle.cod_claims.specs.Slips.{Paper}
use Rattle.cod_seg.specs.Next.{next_step, open_in}
use Rattle.cod_seg.specs.Seg.{Rebuilding, Seg}
use Rattle.cod_seg.specs.Sound.{IsRebuilding, is_update, MayRebuild, Sound}
use Rattle.cod_seg.specs.declared.next.Step.TheVariants as step
use Rattle.cod_seg.proofs.Choosing.{served}
use Rattle.cod_seg.proofs.Serving.{answers_at_once, IsMovingOf, moving}
use Rattle.cod_segment.specs.Events.{IsAsked, Makes, request_of}
use Rattle.cod_segment.proofs.Answering.{answered, idle, IsStepOf, step_of, unopened}

-- what a filter leaves empty holds nowhere
none_passes : (p : ℕ → Bool) (a n i : ℕ) → filter p (range_with_len a n) ≡ [] → a ≤ i → i < a + n → p i ≡ true → ⊥
none_passes p a zero i e low high is = omega (arith, low, high)
none_passes p a (suc n) i e low high is = by (p a) refl e (λ f diff. none_passes p (a + 1) n i f (omega (arith, low, diff)) (omega (arith, high)) is) where
  by : (b : Bool) → p a ≡ b → cond b (a ∷ filter p (range_with_len (a + 1) n)) (filter p (range_with_len (a + 1) n)) ≡ []
      → (filter p (range_with_len (a + 1) n) ≡ [] → (a ≡ i → ⊥) → ⊥) → ⊥
  by true t f on = cc
  by false t f on = elim (cases_eq a i) [
    | inl same ↦ (let wrong : true ≡ false = sym is ∙ (sym (ap p same) ∙ t) in cc)
    | inr diff ↦ on f diff
  ]

none_down : (site : Site) (log : List Entry) (i : ℕ) → downs site log ≡ [] → i < site.shape.n → is_down log i ≡ true → ⊥
none_down site log i none lt is = none_passes (λ j. is_down log j) 0 site.shape.n i none (omega arith) (omega (arith, lt)) is

-- where no column is down, no rebuild is in progress
calm : (s : Seg) (r : Rebuilding) → Sound s → downs s.site s.log ≡ [] → s.rebuild ≡ Some r → ⊥
calm s r sound none was =
    let is : IsRebuilding s.site s.frail s.pools s.log r = subst (MayRebuild s.site s.frail s.pools s.log) was sound.rebuilt in
    none_down s.site s.log r.col none is.column is.down

-- what a step says of its call
of_whole : (s : Seg) (caller : ℕ) (call : Asked) → next_step s caller call ≡ step.Whole → call ≡ Rebuild
of_whole s caller call is = let v = served s caller call step.Whole tt is in subst (IsStepOf call) v.is (step_of s caller call)

of_clear : (s : Seg) (caller : ℕ) (call : Asked) → next_step s caller call ≡ step.Clear → (node : NodeId) × (call ≡ Drain node)
of_clear s caller call is = let v = served s caller call step.Clear tt is in subst (IsStepOf call) v.is (step_of s caller call)

none_left : (s : Seg) (caller : ℕ) (call : Asked) → call ≡ Rebuild → IsMovingOf s caller call step.Whole → downs s.site s.log ≡ []
none_left s caller call is m = (let q : IsMovingOf s caller Rebuild step.Whole = subst (λ (x : Asked). IsMovingOf s caller x step.Whole) is m in q.0)

pub whole_idle : (s : Seg) (caller number : ℕ) (p : Paper) (call : Asked) → next_step s caller call ≡ step.Whole → Sound s → IsAsked s caller number p call → open_in s caller ≡ None
whole_idle s caller number p call next sound asked =
    let is = of_whole s caller call next in
    let m = moving s caller call step.Whole tt tt next in
    unopened s caller number p call asked
    (λ j c there e. let update : is_update Rebuild ≡ true = subst (λ (x : Asked). is_update x ≡ true) (e ∙ is) (sound.claimed.each j c there).update in cc)
    (λ r was e. calm s r sound (none_left s caller call is m.1) was)

pub clear_idle : (s : Seg) (caller number : ℕ) (p : Paper) (call : Asked) → next_step s caller call ≡ step.Clear → Sound s → IsAsked s caller number p call → open_in s caller ≡ None
clear_idle s caller number p call next sound asked =
    let is = of_clear s caller call next in
    unopened s caller number p call asked
    (λ j c there e. let update : is_update (Drain is.0) ≡ true = subst (λ (x : Asked). is_update x ≡ true) (e ∙ is.1) (sound.claimed.each j c there).update in cc)
    (λ r was e. let wrong : Rebuild ≡ Drain is.0 = sym e ∙ is.1 in cc)

pub makes_whole : (w : Setting) (s u : Seg) (caller : Caller) (number stamp t : ℕ) (p : Paper) (call : Asked) → Sound s → IsAsked s caller.0 number p call
    → next_step s caller.0 call ≡ step.Whole → stamp ≡ next_stamp (clock_of s.log) t → StampFollows s.log stamp
    → u ≡ record s { log = s.log ++ Call caller number stamp call Whole ∷ [] }
    → Makes w (request_of caller.0 number call) t stamp true s u
makes_whole w s u caller number stamp t p call sound asked next stamped follows becomes =
    let none = whole_idle s caller.0 number p call next sound asked in
    let calm = idle s caller.0 sound none in
    let is = of_whole s caller.0 call next in
    answered w s u caller number stamp t s.version call Whole calm.0 calm.1 asked.newest ((answers_at_once s caller.0 call sound).whole next)
    (rw is refl) (inl refl) tt stamped follows becomes

pub makes_clear : (w : Setting) (s u : Seg) (caller : Caller) (number stamp t : ℕ) (p : Paper) (call : Asked) → Sound s → IsAsked s caller.0 number p call
    → next_step s caller.0 call ≡ step.Clear → stamp ≡ next_stamp (clock_of s.log) t → StampFollows s.log stamp
    → u ≡ record s { log = s.log ++ Call caller number stamp call Clear ∷ [] }
    → Makes w (request_of caller.0 number call) t stamp true s u
makes_clear w s u caller number stamp t p call sound asked next stamped follows becomes =
    let none = clear_idle s caller.0 number p call next sound asked in
    let calm = idle s caller.0 sound none in
    let is = of_clear s caller.0 call next in
    answered w s u caller number stamp t s.version call Clear calm.0 calm.1 asked.newest ((answers_at_once s caller.0 call sound).clear next)
    (rw is.1 refl) (inl refl) tt stamped follows becomes
