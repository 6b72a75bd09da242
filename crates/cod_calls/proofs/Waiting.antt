-- A caller's slip between the holds of its call.
use Rattle.std.proofs.Common.{◌≡◌, ℕ, ◌<◌, Option, Some, None, List, [], ◌∷◌, All, refl, sym, ap, ◌∙◌, subst, inl, inr}
use Rattle.std.specs.Prelude.{unwrap_or}
use Rattle.cod_types.specs.declared.call.Call.{Call as Asked}
use Rattle.cod_types.specs.declared.call.Call.TheVariants.{Merge, Upgrade}
use Rattle.cod_types.specs.declared.call.Reply.{Reply}
use Rattle.cod_chronicle.specs.Event.{Request, Setting}
use Rattle.cod_chronicle.specs.Said.{numbers_by, Site}
use Rattle.cod_claims.specs.Slips.{Paper, prepared}
use Rattle.cod_seg.specs.Next.{open_in}
use Rattle.cod_seg.specs.Seg.{Seg}
use Rattle.cod_segment.specs.declared.asking.Outcome.{Outcome}
use Rattle.cod_segment.specs.declared.asking.Outcome.TheVariants.{Moved, Answered, Held}
use Rattle.cod_segment.specs.Advancing.{IsAdvanced}
use Rattle.cod_segment.specs.Events.{call_in, IsAsked}
use Rattle.cod_stripe.specs.Standing.{name_of}
use Rattle.cod_turn.specs.declared.view.View.{View}
use Rattle.cod_turn.specs.Turning.{Stays}
use Rattle.cod_accounts.proofs.Holds.{below, Taken}
use Rattle.cod_advance.specs.Moments.{IsSlipFor}
use Rattle.cod_advance.specs.Served.{IsStepped, turned_by}
use Rattle.cod_pass.proofs.Naming.{names_tell}
use Rattle.cod_calls.proofs.Holding.{answer_of}

-- The seat's one caller has the slip of its call as the segment has the call: whole, or begun.
pub record Waits (r : Request) (p : Paper) (v : View Seg) : Type 0 where
  pub now : Seg
  pub own : v.own ≡ (r.caller, now) ∷ []
  pub named : name_of now ≡ v.name
  pub slip : IsSlipFor now r.caller r.call p

-- a slip of what the caller is asking for has its call
pub call_is : (x : Seg) (who number : ℕ) (p : Paper) (call : Asked) → IsAsked x who number p call → call_in p ≡ call
call_is x who number p call asked = elim asked.state [
  | inl a ↦ ap call_in a.1
  | inr a ↦ ap (λ (o : Option Asked). unwrap_or o Merge) a.1.call_is
]

-- what the event of the segment that is taken then asks of it
pub asked_in : (r : Request) (t0 t : ℕ) (first x : Seg) (v : View Seg) (p : Paper) → Waits r p v → name_of x ≡ v.name → Stays name_of (λ (s : Seg). s.log) open_in x v.own
    → Taken name_of (λ (s : Seg). s.log) open_in r t0 t first x → All (λ m. m < r.number) (numbers_by r.caller first.log) → (r.call ≡ Upgrade → x.site.shape.version ≡ 2)
    → IsAsked x r.caller r.number p r.call
asked_in r t0 t first x v p waits named stays taken low dated =
    let s = subst (λ (ps : List (ℕ × Seg)). Stays name_of (λ (s : Seg). s.log) open_in x ps) waits.own stays in
    let place = names_tell waits.now x (named ∙ sym waits.named) in
    record {
      newest = below name_of (λ (s : Seg). s.log) open_in r t0 t first x taken low;
      state = elim taken.opens [
        | inl none ↦ inl (none, subst (λ (q : Site). p ≡ prepared q.shape r.call) (sym place.site) (waits.slip.whole (sym s.2 ∙ none)))
        | inr some ↦ inr (some, waits.slip.begun (r.number, r.call) (sym s.2 ∙ some))
      ];
      dated = dated;
    }

-- the outcome answers nothing
abbrev pub Unanswered : Outcome → Type 0
Unanswered o = (position stamp : ℕ) → o ≡ Answered position stamp → ⊥

pub no_answer : (o : Outcome) (reply : Option Reply) → Unanswered o → answer_of o reply ≡ None
no_answer Moved reply un = refl
no_answer (Held h) reply un = refl
no_answer (Answered position stamp) reply un = absurd (un position stamp refl)

-- the slip behind an event that doesn't answer
pub slip_behind : (w : Setting) (r : Request) (t after : ℕ) (o : Outcome) (x y : Seg) (p q : Paper) → Unanswered o → IsAsked x r.caller r.number p r.call
    → IsStepped w r t after (turned_by o) x y → IsAdvanced o r after y p q → IsSlipFor y r.caller r.call q
slip_behind w r t after Moved x y p q un asked st advanced = record {
  whole = λ none. absurd (let bad : None ≡ Some (r.number, r.call) = sym none ∙ advanced.0 in cc bad);
  begun = λ opened is. advanced.1;
}
slip_behind w r t after (Held h) x y p q un asked st advanced =
    let c = st.comes in
    record {
      whole = λ none. elim asked.state [
        | inl a ↦ advanced ∙ subst (λ (s : Site). p ≡ prepared s.shape r.call) (sym st.site) a.1
        | inr a ↦ absurd (let bad : None ≡ Some (r.number, r.call) = sym c.0 ∙ a.0 in cc bad)
      ];
      begun = λ opened is. absurd (let bad : None ≡ Some opened = sym c.1 ∙ is in cc bad);
    }
slip_behind w r t after (Answered position stamp) x y p q un asked st advanced = absurd (un position stamp refl)
