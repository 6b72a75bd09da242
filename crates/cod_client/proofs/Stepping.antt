-- A sweep, and then the event of the next step, are one event of a client.
use Rattle.std.proofs.Common.{◌≡◌, ℕ, ◌≤◌, List, length, Option, Some, None, IsSome, refl, sym, ap, ◌∙◌, subst, arith}
use Rattle.std.specs.Prelude.{◌+◌, false, option_map}
use Rattle.cod_board.specs.declared.kill.Kill.{Kill as Killed}
use Rattle.cod_board.specs.Kills.{Keeps, kill_of}
use Rattle.cod_types.specs.declared.call.Call.{Call as Asked}
use Rattle.cod_chronicle.specs.Event.{NodeKill, Kills, Request, Setting}
use Rattle.cod_chronicle.specs.Said.{numbers_by}
use Rattle.cod_claims.specs.Slips.{Paper}
use Rattle.cod_seg.specs.Next.{next_step, open_in}
use Rattle.cod_seg.specs.Seg.{Seg}
use Rattle.cod_seg.specs.Sound.{is_frail}
use Rattle.cod_segment.specs.declared.asking.Outcome.{Outcome}
use Rattle.cod_segment.specs.declared.asking.Outcome.TheVariants.{Moved, Answered, Held}
use Rattle.cod_segment.specs.Advancing.{Follows, IsAdvanced, number_after}
use Rattle.cod_segment.specs.Events.{Costs, HasRoom, is_answered, IsAsked, IsOutcome, IsSettingOf, kills_at, Makes, NoneFails, request_of, Swept}
use Rattle.cod_segment.specs.Exact.{Exactly, SweepsExactly, Turns}
use Rattle.cod_client.proofs.Later.{exactly_earlier, IsLater, IsUnknown, knowing, makes_later, seeing, sweeps_exactly_later, swept_later}

-- ---- what came of a step

pub follows_of : (w : Setting) (r : Request) (t after : ℕ) (o : Outcome) (s u : Seg) (p : Paper) → IsOutcome o r after u p → Makes w r t after (is_answered o) s u
    → (NoneFails s u → Costs s r.caller r.call (next_step s r.caller r.call) u) → Follows w r t after o s u
follows_of w r t after Moved s u p is m costs = (m, costs)
follows_of w r t after (Answered position stamp) s u p is m costs = (m, costs)
follows_of w r t after (Held h) s u p is m costs = absurd is

pub advanced_of : (r : Request) (after : ℕ) (o : Outcome) (u : Seg) (old new : Paper) → IsOutcome o r after u new → IsAdvanced o r after u old new
advanced_of r after Moved u old new is = is
advanced_of r after (Answered position stamp) u old new is = is
advanced_of r after (Held h) u old new is = absurd is

-- ---- what boards show

abbrev shown : Option Killed → Option NodeKill
shown o = option_map (λ (k : Killed). record { line = k.line; clock = k.clock }) o

kept_at : (a b : List (Option Killed)) (x : ℕ) → Keeps a b → IsSome (kills_at a x) → kills_at b x ≡ kills_at a x
kept_at a b x keeps some = by (kill_of a x) refl some where
  by : (o : Option Killed) → kill_of a x ≡ o → IsSome (shown o) → kills_at b x ≡ kills_at a x
  by None e is = cc
  by (Some k) e is = let there : IsSome (kill_of a x) = rw e refl in ap shown (keeps x there)

unknown_at : (a b : List (Option Killed)) (x : ℕ) → Keeps a b → kills_at b x ≡ None → kills_at a x ≡ None
unknown_at a b x keeps none = by (kills_at a x) refl where
  by : (o : _) → kills_at a x ≡ o → kills_at a x ≡ None
  by None e = e
  by (Some k) e = let there : IsSome (kills_at a x) = rw e refl in let same : kills_at b x ≡ kills_at a x = kept_at a b x keeps there in sym same ∙ none

-- ---- both

pub turns_of : (before between after : List (Option Killed)) (w : Setting) (r q : Request) (t clock end : ℕ) (o : Outcome) (s m u : Seg) → q ≡ r → Keeps before between → Keeps between after
    → ((x : ℕ) → w.known x ≡ kills_at before x) → ((x : ℕ) → w.seen x ≡ kills_at after x) → IsSettingOf w s → m.site ≡ s.site → m.frail ≡ s.frail
    → ((v : Setting) → IsSettingOf v s → ((x : ℕ) → v.known x ≡ kills_at before x) → ((x : ℕ) → v.seen x ≡ kills_at between x)
    → Makes v r t clock false s m × Swept v s t clock m × SweepsExactly v s m)
    → ((v : Setting) → IsSettingOf v m → ((x : ℕ) → v.seen x ≡ kills_at after x) → Follows v q clock end o m u)
    → ((v : Setting) → ((x : ℕ) → v.known x ≡ kills_at between x) → Exactly v (next_step m q.caller q.call) o m u)
    → Turns w r t end o s u
turns_of before between after w r q t clock end o s m u same first then known seen setting site frail sweep follow exact =
    let shown : Kills = λ x. kills_at between x in
    let later : IsLater shown w.seen = λ x is. seen x ∙ kept_at between after x then is in
    let unknown : IsUnknown w.known shown = λ x is. known x ∙ unknown_at before between x first is in
    let swept = sweep (seeing w shown) (record { site = setting.site; may = setting.may }) known (λ x. refl) in
    record {
      advances = record {
        mid = m;
        clock = clock;
        swept = swept_later w shown s t clock m later swept.1;
        sweeps = makes_later w shown r t clock false s m later swept.0;
        follows = subst (λ (x : Request). Follows w x clock end o m u) same
            (follow w (record { site = setting.site ∙ sym site; may = λ node is. setting.may node (sym (ap (λ (f : List ℕ). is_frail f node) frail) ∙ is) }) seen);
      };
      sweeps = sweeps_exactly_later w shown s m later swept.2;
      exact = exactly_earlier w shown (next_step m r.caller r.call) o m u unknown
          (subst (λ (x : Request). Exactly (knowing w shown) (next_step m x.caller x.call) o m u) same (exact (knowing w shown) (λ x. refl)));
    }

-- ---- what is asked, after the sweep

pub still_asked : (s m : Seg) (caller number : ℕ) (p : Paper) (call : Asked) → numbers_by caller m.log ≡ numbers_by caller s.log → open_in m caller ≡ open_in s caller
    → m.site ≡ s.site → IsAsked s caller number p call → IsAsked m caller number p call
still_asked s m caller number p call numbers opened site is = record {
  newest = rw numbers is.newest;
  state = rw (opened, site) is.state;
  dated = λ e. rw site (is.dated e);
}

pub still_room : (s m : Seg) → m.site ≡ s.site → length m.log ≤ length s.log + s.site.shape.n → HasRoom (s.site.shape.n + 2) s → HasRoom 2 m
still_room s m site long room = let n : m.site.shape.n ≡ s.site.shape.n = ap (λ (x : _). x.shape.n) site in omega (arith, n, long, room)

-- who asks is still the same
pub same_request : (a b : ℕ) (i j : ℕ) (call : Asked) → a ≡ b → i ≡ j → request_of a i call ≡ request_of b j call
same_request a b i j call who number = rw (who, number) refl

-- only an answer raises the number
pub number_stays : (o : Outcome) (n : ℕ) → ((position stamp : ℕ) → o ≡ Answered position stamp → ⊥) → number_after o n ≡ n
number_stays Moved n other = refl
number_stays (Held h) n other = refl
number_stays (Answered position stamp) n other = absurd (other position stamp refl)

pub keeps_on : (a b c : List (Option Killed)) → Keeps a b → Keeps b c → Keeps a c
keeps_on a b c first then = λ node is. let same = first node is in let there : IsSome (kill_of b node) = rw same is in then node there ∙ same
