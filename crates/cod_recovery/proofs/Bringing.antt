-- A caller whose rebuild is in progress, with a target.
use Rattle.std.proofs.Common.{◌≡◌, ◌⊎◌, inl, inr, ℕ, ◌<◌, Bool, false, cond, Option, Some, None, sym, ap, ◌∙◌, subst, length, arith}
use Rattle.std.proofs.lemmas.Bool.{eq-eqb}
use Rattle.cod_types.specs.declared.call.Call.{Call as Asked}
use Rattle.cod_types.specs.declared.call.Call.TheVariants.{Rebuild}
use Rattle.cod_chronicle.specs.Said.{is_over}
use Rattle.cod_claims.specs.Claimed.{open_call}
use Rattle.cod_claims.specs.Slips.{Paper, prepared}
use Rattle.cod_seg.specs.Next.{next_step, open_in, open_of}
use Rattle.cod_seg.specs.Seg.{Rebuilding, Seg, Target}
use Rattle.cod_seg.specs.Sound.{HasTarget, IsRebuilding, IsTarget, MayRebuild, Sound}
use Rattle.cod_seg.specs.declared.next.Step.TheVariants as step
use Rattle.cod_seg.proofs.Choosing.{served}
use Rattle.cod_seg.proofs.Serving.{end_where_whole, piece_where_not_whole}
use Rattle.cod_segment.specs.Events.{HasBegun, IsAsked}

-- the call that has a rebuild in progress, with a target, is this one, and has begun
pub record IsBringingUp (s : Seg) (caller number : ℕ) (p : Paper) (call : Asked) (r : Rebuilding) (t : Target) : Type 0 where
  pub was : s.rebuild ≡ Some r
  pub goal : r.target ≡ Some t
  pub mine : r.caller ≡ caller
  pub number_is : r.number ≡ number
  pub call_is : call ≡ Rebuild
  pub open_is : open_in s caller ≡ Some (number, call)
  pub begun : HasBegun p call
  pub few : is_over s.site s.log ≡ false
  pub is : IsRebuilding s.site s.frail s.pools s.log r
  pub at : IsTarget s.site s.frail s.pools s.log r.col t

own_open : (s : Seg) (caller : ℕ) (r : Rebuilding) → s.rebuild ≡ Some r → r.caller ≡ caller → open_in s caller ≡ Some (r.number, Rebuild)
own_open s caller r was mine = ap (λ (o : Option Rebuilding). open_of caller s.claims o) was ∙ ap (λ (b : Bool). cond b (Some (r.number, Rebuild)) (open_call caller s.claims)) (eq-eqb r.caller caller mine)

is_bringing : (s : Seg) (caller number : ℕ) (p : Paper) (call : Asked) (r : Rebuilding) (t : Target) → Sound s → IsAsked s caller number p call → is_over s.site s.log ≡ false
    → s.rebuild ≡ Some r → r.target ≡ Some t → r.caller ≡ caller → IsBringingUp s caller number p call r t
is_bringing s caller number p call r t sound asked few was goal mine = by asked.state where
  opened : open_in s caller ≡ Some (r.number, Rebuild)
  opened = own_open s caller r was mine

  is : IsRebuilding s.site s.frail s.pools s.log r
  is = subst (MayRebuild s.site s.frail s.pools s.log) was sound.rebuilt

  by : ((open_in s caller ≡ None) × (p ≡ prepared s.site.shape call)) ⊎ ((open_in s caller ≡ Some (number, call)) × HasBegun p call) → IsBringingUp s caller number p call r t
  by (inl a) = let wrong : ◌≡◌ {A = Option (ℕ × Asked)} None (Some (r.number, Rebuild)) = sym a.0 ∙ opened in absurd (let no_way : ⊥ = cc in no_way)
  by (inr a) =
      let e : ◌≡◌ {A = Option (ℕ × Asked)} (Some (r.number, Rebuild)) (Some (number, call)) = sym opened ∙ a.0 in
      let q : ◌≡◌ {A = ℕ × Asked} (r.number, Rebuild) (number, call) = cc in
      record {
        was = was;
        goal = goal;
        mine = mine;
        number_is = ap (λ (x : ℕ × Asked). x.0) q;
        call_is = sym (ap (λ (x : ℕ × Asked). x.1) q);
        open_is = a.0;
        begun = a.1;
        few = few;
        is = is;
        at = subst (HasTarget s.site s.frail s.pools s.log r.col) goal is.goal;
      }

-- a rebuild has one target
pub same_target : (o : Option Rebuilding) (r q : Rebuilding) (t v : Target) → o ≡ Some r → o ≡ Some q → r.target ≡ Some t → q.target ≡ Some v → (r ≡ q) × (t ≡ v)
same_target o r q t v first second goal other =
    let e : Some r ≡ Some q = sym first ∙ second in
    let same : r ≡ q = cc in
    let f : Some t ≡ Some v = sym goal ∙ ap (λ (x : Rebuilding). x.target) same ∙ other in
    let alike : t ≡ v = cc in
    (same, alike)

pub end_is : (s : Seg) (caller number : ℕ) (p : Paper) (call : Asked) (r : Rebuilding) (t : Target) → Sound s → IsAsked s caller number p call → next_step s caller call ≡ step.RebuildEnd
    → s.rebuild ≡ Some r → r.target ≡ Some t → IsBringingUp s caller number p call r t × (t.filled ≡ s.site.shape.block)
end_is s caller number p call r t sound asked is was goal =
    let whole = end_where_whole s caller call sound is in
    let v = served s caller call step.RebuildEnd tt is in
    let same = same_target s.rebuild r whole.0.r t whole.0.t was whole.0.was goal whole.0.goal in (
      is_bringing s caller number p call r t sound asked v.few was goal (ap (λ (x : Rebuilding). x.caller) same.0 ∙ whole.0.mine),
      ap (λ (x : Target). x.filled) same.1 ∙ whole.1,
    )

pub piece_is : (s : Seg) (caller number : ℕ) (p : Paper) (call : Asked) (r : Rebuilding) (t : Target) → Sound s → IsAsked s caller number p call → next_step s caller call ≡ step.RebuildPiece
    → s.rebuild ≡ Some r → r.target ≡ Some t → IsBringingUp s caller number p call r t × (t.filled < s.site.shape.block)
piece_is s caller number p call r t sound asked is was goal =
    let part = piece_where_not_whole s caller call is in
    let v = served s caller call step.RebuildPiece tt is in
    let same = same_target s.rebuild r part.0.r t part.0.t was part.0.was goal part.0.goal in (
      is_bringing s caller number p call r t sound asked v.few was goal (ap (λ (x : Rebuilding). x.caller) same.0 ∙ part.0.mine),
      subst (λ (x : Target). x.filled < s.site.shape.block) (sym same.1) part.1,
    )

-- there is one
pub end_goal : (s : Seg) (caller : ℕ) (call : Asked) → Sound s → next_step s caller call ≡ step.RebuildEnd → (r : Rebuilding) × (t : Target) × (s.rebuild ≡ Some r) × (r.target ≡ Some t)
end_goal s caller call sound is = let whole = end_where_whole s caller call sound is in (whole.0.r, whole.0.t, whole.0.was, whole.0.goal)

pub piece_goal : (s : Seg) (caller : ℕ) (call : Asked) → next_step s caller call ≡ step.RebuildPiece → (r : Rebuilding) × (t : Target) × (s.rebuild ≡ Some r) × (r.target ≡ Some t)
piece_goal s caller call is = let part = piece_where_not_whole s caller call is in (part.0.r, part.0.t, part.0.was, part.0.goal)

pub some_rebuild : (o : Option Rebuilding) (r : Rebuilding) → o ≡ Some r → o ≡ None → ⊥
some_rebuild o r some none = let wrong : Some r ≡ None = sym some ∙ none in let no_way : ⊥ = cc in no_way

pub some_target : (o : Option Rebuilding) (r q : Rebuilding) (t : Target) → o ≡ Some r → r.target ≡ Some t → o ≡ Some q → q.target ≡ None → ⊥
some_target o r q t some goal is none =
    let e : Some r ≡ Some q = sym some ∙ is in
    let same : r ≡ q = cc in
    let wrong : Some t ≡ None = sym goal ∙ ap (λ (x : Rebuilding). x.target) same ∙ none in
    let no_way : ⊥ = cc in no_way

-- the column is one of them
pub end_below : (s : Seg) (caller : ℕ) (call : Asked) (r : Rebuilding) → Sound s → s.rebuild ≡ Some r → r.col < length s.cols
end_below s caller call r sound was =
    let is : IsRebuilding s.site s.frail s.pools s.log r = subst (MayRebuild s.site s.frail s.pools s.log) was sound.rebuilt in
    let size = sound.columns.size in
    let among = is.column in
    omega (arith, size, among)
