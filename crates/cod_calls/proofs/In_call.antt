-- A call from hold to hold.
use Rattle.std.proofs.Common.{◌≡◌, ℕ, ◌+◌, ◌<◌, ◌≤◌, Bool, cond, eq-eqb, Option, Some, None, List, [], ◌∷◌, ◌++◌, All, refl, sym, ap, ◌∙◌, subst, arith}
use Rattle.std.specs.List.{cons_option}
use Rattle.std.proofs.lemmas.List.Elements.{All-push, All-weaker}
use mathlib.Core.List.{IsPrefix}
use Rattle.atomic_table.specs.Seated.{TableId}
use Rattle.cod_types.specs.Limits.{Shape}
use Rattle.cod_types.specs.declared.call.Call.{Call as Asked}
use Rattle.cod_types.specs.declared.call.Call.TheVariants.{Upgrade}
use Rattle.cod_types.specs.declared.call.Reply.{Reply}
use Rattle.cod_region.specs.Device.{AllRegions}
use Rattle.cod_chronicle.specs.declared.entry.Entry.{Entry}
use Rattle.cod_chronicle.specs.Event.{Request, Setting}
use Rattle.cod_chronicle.specs.Legal.{IsLegal}
use Rattle.cod_chronicle.specs.Said.{calls_by, last_stamp, number_by, numbers_by, Site}
use Rattle.cod_chronicle.proofs.Growth.{numbers_by-push}
use Rattle.cod_claims.specs.Slips.{Paper, prepared}
use Rattle.cod_board.specs.declared.kill.Kill.{Kill}
use Rattle.cod_board.specs.Seats.{kills_in}
use Rattle.cod_seats.specs.Totals.{times}
use Rattle.cod_seats.proofs.Totals.{times-here}
use Rattle.cod_seg.specs.Next.{open_in}
use Rattle.cod_seg.specs.Seg.{Seg}
use Rattle.cod_seg.specs.Sound.{is_frail, Sound}
use Rattle.cod_segment.specs.declared.asking.Outcome.{Outcome}
use Rattle.cod_segment.specs.declared.asking.Outcome.TheVariants.{Answered}
use Rattle.cod_segment.specs.Advancing.{IsAdvanced}
use Rattle.cod_segment.specs.Events.{call_in, IsAsked, request_of}
use Rattle.cod_segment.specs.Exact.{Turns}
use Rattle.cod_stripe.specs.Standing.{gauge_of, IsStep, name_of}
use Rattle.cod_turn.specs.declared.view.View.{View}
use Rattle.cod_turn.specs.Seats.{IsIdle, Seated}
use Rattle.cod_turn.specs.Turning.{all_at, callers, firsts, FollowsByOne, given, held_by, Meets}
use Rattle.cod_turn.proofs.Numbering.{numbers_of_calls}
use Rattle.cod_accounts.specs.Calling.{Made}
use Rattle.cod_accounts.specs.Holding.{entry_of, Ground, Hold, setting}
use Rattle.cod_accounts.proofs.Holds.{begins, Begun, begun_ends, begun_on, Held, taken}
use Rattle.cod_advance.specs.Served.{IsEvent}
use Rattle.cod_advance.proofs.Serving.{event_is_step}
use Rattle.cod_pass.specs.Places.{ground_of, SamePlace}
use Rattle.cod_pass.specs.Readiness.{Fits, IsReady}
use Rattle.cod_calls.proofs.Following.{follows, same_place}
use Rattle.cod_calls.proofs.Holding.{answer_of, event_holds}
use Rattle.cod_pass.proofs.Naming.{names_tell, same_name}
use Rattle.cod_calls.proofs.Waiting.{asked_in, call_is, no_answer, slip_behind, Unanswered, Waits}

abbrev pub log_of : Seg → List Entry
log_of s = s.log

-- ---- places

pub ground_same : (s t : Seg) → SamePlace s t → ground_of t ≡ ground_of s
ground_same s t p = rw (p.site, p.frail) refl

pub fits_there : (board pools : TableId) (regions : AllRegions) (bench : Shape) (s t : Seg) → SamePlace s t → Fits board pools regions bench s → Fits board pools regions bench t
fits_there board pools regions bench s t p f = record {
  board_nodes = f.board_nodes ∙ ap (λ (x : Site). x.nodes) (sym p.site);
  pool_nodes = f.pool_nodes ∙ ap (λ (x : Site). x.nodes) (sym p.site);
  owner = p.pools ∙ f.owner;
  shelf = λ node below sure. f.shelf node (subst (λ (x : Site). node < x.nodes) p.site below) (ap (λ (l : List ℕ). is_frail l node) (sym p.frail) ∙ sure);
  made_for = f.made_for ∙ ap (λ (x : Site). x.shape) (sym p.site);
}

later_place : (s t u : Seg) → SamePlace s t → SamePlace t u → SamePlace s u
later_place s t u p q = record { site = q.site ∙ p.site; frail = q.frail ∙ p.frail; pools = q.pools ∙ p.pools }

-- ---- a call that isn't answered yet

-- What holds between two holds of a call: how it began, what came of it, and the slip.
pub record InCall (r : Request) (board pools : TableId) (regions : AllRegions) (bench : Shape) (t0 : ℕ) (seat0 : Seated Seg) (t : ℕ) (seen : List (ℕ × Kill)) (p : Paper)
    (v : View Seg) : Type 0 where
  pub first : Seg
  pub ready : IsReady r.caller r.number first seat0
  pub fits : Fits board pools regions bench first
  pub begun : Begun name_of log_of open_in (ground_of first) r t0 t seen seat0.knows v
  pub waits : Waits r p v

pub at_first : (r : Request) (board pools : TableId) (regions : AllRegions) (bench : Shape) (t : ℕ) (seat : Seated Seg) (seen : List (ℕ × Kill)) (p : Paper) (s : Seg)
    → IsReady r.caller r.number s seat → Fits board pools regions bench s → p ≡ prepared bench r.call → InCall r board pools regions bench t seat t seen p seat.knows
at_first r board pools regions bench t seat seen p s ready fits whole = record {
  first = s;
  ready = ready;
  fits = fits;
  begun = begins name_of log_of open_in (ground_of s) r t seen s seat.knows ready.own ready.none ready.newest;
  waits = record {
    now = s;
    own = ready.own;
    named = sym ready.named;
    slip = record {
      whole = λ none. whole ∙ ap (λ (g : Shape). prepared g r.call) fits.made_for;
      begun = λ opened is. absurd (let bad : None ≡ Some opened = sym ready.none ∙ is in cc bad);
    };
  };
}

-- ---- a call that is answered

-- the numbers of a caller's calls, with one more
newest_after : (r : Request) (stamp : ℕ) (reply : Reply) (old now : List Entry) → calls_by r.caller now ≡ calls_by r.caller old ++ entry_of r stamp reply ∷ []
    → All (λ m. m < r.number) (numbers_by r.caller old) → All (λ m. m < r.number + 1) (numbers_by r.caller now)
newest_after r stamp reply old now calls low =
    let c : ℕ = r.caller in
    let one : cons_option (number_by c (entry_of r stamp reply)) [] ≡ r.number ∷ [] = ap (λ (b : Bool). cons_option (cond b (Some r.number) None) []) (eq-eqb c c refl) in
    let numbers : numbers_by c now ≡ numbers_by c old ++ r.number ∷ [] =
    sym (numbers_of_calls c now) ∙ (ap (numbers_by c) calls ∙ (numbers_by-push c (calls_by c old) (entry_of r stamp reply) ∙
    (ap (λ (l : List ℕ). numbers_by c (calls_by c old) ++ l) one ∙ ap (λ (l : List ℕ). l ++ r.number ∷ []) (numbers_of_calls c old)))) in
    subst (All (λ m. m < r.number + 1)) (sym numbers)
    (All-push (λ m. m < r.number + 1) (numbers_by c old) r.number (All-weaker (λ m. m < r.number) (λ m. m < r.number + 1) (λ m lt. omega arith) (numbers_by c old) low) (omega arith))

-- What an answered call leaves, with the segment before it and behind it.
pub record Answers (r : Request) (seat0 : Seated Seg) (t0 after : ℕ) (seen0 last : List (ℕ × Kill)) (seat : Seated Seg) (position stamp : ℕ) (reply : Reply) : Type 0 where
  pub first : Seg
  pub was : seat0.knows.own ≡ (r.caller, first) ∷ []
  pub made : Made log_of open_in (ground_of first) r t0 after seen0 last seat0.knows seat.knows position stamp reply
  pub now : Seg
  pub ready : IsReady r.caller (r.number + 1) now seat
  pub place : SamePlace first now

abbrev value_of : Seg → List (ℕ × Seg) → Seg
value_of d [] = d
value_of d (x ∷ xs) = x.1

-- a seat with one caller has one segment
one_segment : (who : ℕ) (held : List (ℕ × Seg)) (s t : Seg) → held ≡ (who, s) ∷ [] → held ≡ (who, t) ∷ [] → s ≡ t
one_segment who held s t a b = ap (value_of s) (sym a ∙ b)

-- ---- one hold

-- the segment that is taken
module _ (r : Request) (board pools : TableId) (regions : AllRegions) (bench : Shape) (t0 : ℕ) (seat0 : Seated Seg) (t : ℕ) (seen : List (ℕ × Kill)) (p : Paper)
    (v : View Seg) (in_call : InCall r board pools regions bench t0 seat0 t seen p v) (x : Seg) (meets : Meets name_of log_of open_in v x) where
  pub place : SamePlace in_call.first x
  place = names_tell in_call.first x (meets.0 ∙ (in_call.begun.named ∙ in_call.ready.named))

  pub fits : Fits board pools regions bench x
  fits = fits_there board pools regions bench in_call.first x place in_call.fits

  -- what its event asks of the slip
  pub asked : (r.call ≡ Upgrade → bench.version ≡ 2) → IsAsked x r.caller r.number p r.call
  asked dated =
      asked_in r t0 t in_call.begun.first x v p in_call.waits meets.0 meets.1
      (taken name_of log_of open_in r t0 t in_call.begun.first x v in_call.begun.going meets.1) in_call.begun.low
      (λ e. ap (λ (g : Shape). g.version) (sym fits.made_for) ∙ dated e)

  pub request_is : (r.call ≡ Upgrade → bench.version ≡ 2) → request_of r.caller r.number (call_in p) ≡ r
  request_is dated = ap (λ (c : Asked). request_of r.caller r.number c) (call_is x r.caller r.number p r.call (asked dated))

  -- the event of it
  module _ (sound : Sound x) (dated : r.call ≡ Upgrade → bench.version ≡ 2) (o : Outcome) (y : Seg) (q : Paper) (after : ℕ) (last : List (ℕ × Kill)) (range : t ≤ last_stamp)
      (turns : Turns (setting (ground_of x) (kills_in x.site.nodes seen) (kills_in x.site.nodes last)) (request_of r.caller r.number (call_in p)) t after o x y)
      (advanced : IsAdvanced o (request_of r.caller r.number (call_in p)) after y p q) where
    abbrev w : Setting
    w = setting (ground_of x) (kills_in x.site.nodes seen) (kills_in x.site.nodes last)

    advanced_by : IsAdvanced o r after y p q
    advanced_by = subst (λ (z : Request). IsAdvanced o z after y p q) (request_is dated) advanced

    is_event : IsEvent w r t after o x y
    is_event = record {
      old = p;
      new = q;
      sound = sound;
      setting = record { site = refl; may = λ node is. is };
      asked = asked dated;
      turns = subst (λ (z : Request). Turns w z t after o x y) (request_is dated) turns;
      advanced = advanced_by;
    }

    -- the turn may be given back
    pub gives : FollowsByOne name_of log_of gauge_of open_in IsStep (callers v) x y
    gives = record {
      by = r.caller;
      mine = let own = ap firsts in_call.waits.own in subst (λ (cs : List ℕ). 0 < times r.caller cs) (sym own) (let one = times-here r.caller [] in omega arith);
      step = follows w r t after o x y is_event;
    }

    holds : Held name_of log_of open_in (ground_of in_call.first) r t after seen last x y (answer_of o q.reply)
    holds = subst (λ (g : Ground). Hold (setting g (kills_in g.site.nodes seen) (kills_in g.site.nodes last)) r t after x.log y.log (open_in x) (open_in y) (answer_of o q.reply))
        (ground_same in_call.first x place) (event_holds w r t after range o x y p q is_event advanced_by)

    -- the seat that has given it back
    module _ (more : IsPrefix seen last) (u : View Seg) (is : u ≡ given name_of log_of open_in (held_by v (Some x)) x y) where
      named : u.name ≡ name_of y
      named = ap (λ (z : View Seg). z.name) is ∙ (sym meets.0 ∙ sym (same_name x y (same_place w r t after o x y is_event)))

      own : u.own ≡ (r.caller, y) ∷ []
      own = ap (λ (z : View Seg). z.own) is ∙ ap (all_at y) (ap firsts in_call.waits.own)

      -- where the call goes on
      pub goes_on : Unanswered o → InCall r board pools regions bench t0 seat0 after last q u
      goes_on un = record {
        first = in_call.first;
        ready = in_call.ready;
        fits = in_call.fits;
        begun = begun_on name_of log_of open_in (ground_of in_call.first) r t0 t after seen last x y seat0.knows v in_call.begun meets.1 more
            (subst (Held name_of log_of open_in (ground_of in_call.first) r t after seen last x y) (no_answer o q.reply un) holds)
            u (ap (λ (z : View Seg). z.own) is) (ap (λ (z : View Seg). z.name) is) (ap (λ (z : View Seg). z.places) is);
        waits = record {
          now = y;
          own = own;
          named = sym named;
          slip = slip_behind w r t after o x y p q un (asked dated) (event_is_step w r t after o x y is_event) advanced_by;
        };
      }

      -- where it is answered
      pub ends : (position stamp : ℕ) (reply : Reply) → o ≡ Answered position stamp → q.reply ≡ Some reply → (seen0 : List (ℕ × Kill)) → IsPrefix seen0 seen → (seat : Seated Seg)
          → IsIdle seat → seat.knows ≡ u → Answers r seat0 t0 after seen0 last seat position stamp reply
      ends position stamp reply outcome told seen0 before seat idle is_seat =
          let e = event_is_step w r t after o x y is_event in
          let answer : answer_of o q.reply ≡ Some (record { position = position; stamp = stamp; reply = reply }) =
          ap (λ (z : Outcome). answer_of z q.reply) outcome ∙ ap (λ (z : Option Reply). answer_of (Answered position stamp) z) told in
          let came : IsAdvanced (Answered position stamp) r after y p q = subst (λ (z : Outcome). IsAdvanced z r after y p q) outcome advanced_by in
          let legal = subst (λ (z : Site). IsLegal z y.log) (e.site ∙ place.site) e.sound.history.legal in
          let made = begun_ends name_of log_of open_in (ground_of in_call.first) r t0 t after seen0 seen last x y seat0.knows v position stamp reply in_call.begun meets.1 before more
          (subst (Held name_of log_of open_in (ground_of in_call.first) r t after seen last x y) answer holds) legal
          u (ap (λ (z : View Seg). z.own) is) (ap (λ (z : View Seg). z.name) is) (ap (λ (z : View Seg). z.places) is) in
          let c : ℕ = r.caller in
          let entry : Entry = entry_of r stamp reply in
          let calls : calls_by c y.log ≡ calls_by c in_call.first.log ++ entry ∷ [] =
          subst (λ (z : Seg). calls_by c z.log ≡ calls_by c in_call.first.log ++ entry ∷ []) (one_segment c u.own made.now y made.is own)
          (subst (λ (z : Seg). calls_by c made.now.log ≡ calls_by c z.log ++ entry ∷ []) (one_segment c seat0.knows.own made.old in_call.first made.was in_call.ready.own) made.called.calls) in
          record {
            first = in_call.first;
            was = in_call.ready.own;
            made = subst (λ (z : View Seg). Made log_of open_in (ground_of in_call.first) r t0 after seen0 last seat0.knows z position stamp reply) (sym is_seat) made;
            now = y;
            ready = record {
              idle = idle;
              named = ap (λ (z : View Seg). z.name) is_seat ∙ named;
              own = ap (λ (z : View Seg). z.own) is_seat ∙ own;
              none = came.0;
              newest = newest_after r stamp reply in_call.first.log y.log calls in_call.ready.newest;
            };
            place = later_place in_call.first x y place (same_place w r t after o x y is_event);
          }

-- ---- what a caller learns of it

module _ (r : Request) (seat0 : Seated Seg) (t0 after : ℕ) (seen0 last : List (ℕ × Kill)) (seat : Seated Seg) (position stamp : ℕ) (reply : Reply)
    (a : Answers r seat0 t0 after seen0 last seat position stamp reply) (s : Seg) (own : seat0.knows.own ≡ (r.caller, s) ∷ []) where
  pub made_for : Made log_of open_in (ground_of s) r t0 after seen0 last seat0.knows seat.knows position stamp reply
  made_for = subst (λ (z : Seg). Made log_of open_in (ground_of z) r t0 after seen0 last seat0.knows seat.knows position stamp reply)
      (one_segment r.caller seat0.knows.own a.first s a.was own) a.made

  pub ready_for : (t : Seg) × IsReady r.caller (r.number + 1) t seat × SamePlace s t
  ready_for = (a.now, a.ready, subst (λ (z : Seg). SamePlace z a.now) (one_segment r.caller seat0.knows.own a.first s a.was own) a.place)
