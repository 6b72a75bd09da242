-- Between two holds of a call, and what one more hold makes of it.
use Rattle.std.proofs.Common.{◌≡◌, ℕ, ◌+◌, ◌^◌, ◌<◌, ◌≤◌, Option, Some, None, [], ◌∷◌, refl, sym, ap, ◌∙◌, subst}
use Rattle.atomic_table.specs.Seated.{TableId}
use Rattle.cod_types.specs.declared.call.Call.{Call as Wanted}
use Rattle.cod_types.specs.declared.call.Call.TheVariants.{Upgrade}
use Rattle.cod_types.specs.declared.call.Reply.{Reply}
use Rattle.cod_types.specs.Limits.{Shape}
use Rattle.cod_region.specs.Device.{AllRegions}
use Rattle.cod_chronicle.specs.declared.entry.Entry.{Entry}
use Rattle.cod_chronicle.specs.Event.{Request, Setting}
use Rattle.cod_chronicle.specs.Said.{last_stamp}
use Rattle.cod_claims.specs.Slips.{Paper, prepared}
use Rattle.cod_board.specs.Seats.{Asked, asked_later_lem, asked_self_lem, kills_in}
use Rattle.cod_client.specs.declared.Client.{Client}
use Rattle.cod_place.specs.Free.{After, HasSeen, Seated as PoolSeated}
use Rattle.cod_place.specs.Seats.{after_later_lem, after_self_lem, seen_earlier_lem}
use Rattle.cod_seg.specs.Next.{open_in}
use Rattle.cod_seg.specs.Seg.{Seg}
use Rattle.cod_seg.specs.Sound.{Sound}
use Rattle.cod_segment.specs.declared.asking.Outcome.{Outcome}
use Rattle.cod_segment.specs.declared.asking.Outcome.TheVariants.{Moved, Answered, Held}
use Rattle.cod_segment.specs.Advancing.{IsAdvanced, number_after}
use Rattle.cod_segment.specs.Events.{call_in, IsAsked, IsCallOf, request_of}
use Rattle.cod_segment.specs.Exact.{Turns}
use Rattle.cod_segment.specs.Looks.{AreLooked, HasLooked}
use Rattle.cod_segment.proofs.Looking.{looked_later}
use Rattle.cod_stripe.specs.Standing.{gauge_of, IsStep, name_of}
use Rattle.cod_turn.specs.Seats.{IsIdle, Seated}
use Rattle.cod_turn.specs.Turning.{callers, FollowsByOne, given, held_by, Meets}
use Rattle.cod_accounts.specs.Calling.{Made}
use Rattle.cod_accounts.specs.Holding.{setting}
use Rattle.cod_pass.specs.declared.desk.Desk.{Desk}
use Rattle.cod_pass.specs.Places.{ground_of, SamePlace}
use Rattle.cod_pass.specs.Readiness.{Fits, IsReady}
use Rattle.cod_calls.proofs.In_call.{Answers, asked, at_first, ends, fits, gives, goes_on, InCall, log_of, made_for, ready_for}
use Rattle.cod_calls.proofs.Waiting.{call_is, Unanswered}

-- What is between two holds: the seat holds nothing, and of what the caller has only its clock and its seats have changed.
pub record Between (r : Request) (board pools : TableId) (regions : AllRegions) (desk0 desk : Desk) (seat0 seat : Seated Seg) (p : Paper) : Type 0 where
  pub of : seat.of ≡ seat0.of
  pub idle : IsIdle seat
  pub desk_is : desk ≡ record desk0 { clock = desk.clock; board = desk.board; pools = desk.pools }
  pub board_after : Asked desk0.board desk.board
  pub pools_after : After desk0.pools desk.pools
  pub in_call : InCall r board pools regions desk0.bench desk0.clock seat0 desk.clock desk.board.knows.seen p seat.knows

abbrev pub request_by : Desk → Paper → Request
request_by desk p = request_of desk.client.caller.0 desk.client.number (call_in p)

-- What an answered call leaves.
pub record Ended (r : Request) (desk0 desk : Desk) (seat0 seat : Seated Seg) (position stamp : ℕ) (reply : Reply) : Type 0 where
  pub of : seat.of ≡ seat0.of
  pub desk_is : desk ≡ record desk0 { client = record desk0.client { number = desk0.client.number + 1 }; clock = desk.clock; board = desk.board; pools = desk.pools }
  pub board_after : Asked desk0.board desk.board
  pub pools_after : After desk0.pools desk.pools
  pub made : (s : Seg) → seat0.knows.own ≡ (r.caller, s) ∷ []
      → Made log_of open_in (ground_of s) r desk0.clock desk.clock desk0.board.knows.seen desk.board.knows.seen seat0.knows seat.knows position stamp reply
  pub ready : (s : Seg) → seat0.knows.own ≡ (r.caller, s) ∷ [] → (t : Seg) × IsReady r.caller (r.number + 1) t seat × SamePlace s t

-- the slip of an answered call has the reply
replied : (r : Request) (stamp : ℕ) (reply : Option Reply) (e : Entry) → IsCallOf r stamp reply e → (a : Reply) × (reply ≡ Some a)
replied r stamp None e is = absurd is
replied r stamp (Some a) e is = (a, refl)

pub answered_told : (o : Outcome) (r : Request) (after position stamp : ℕ) (u : Seg) (p q : Paper) → o ≡ Answered position stamp → IsAdvanced o r after u p q → (a : Reply) × (q.reply ≡ Some a)
answered_told o r after position stamp u p q outcome advanced =
    let came : IsAdvanced (Answered position stamp) r after u p q = subst (λ (z : Outcome). IsAdvanced z r after u p q) outcome advanced in
    replied r stamp q.reply came.2.1 came.2.4

-- what was looked at in the event that answers was looked at in the call
pub looked_in_call : (first since now : PoolSeated) (told : Option Reply) (reply : Reply) → After first since → told ≡ Some reply → HasLooked (HasSeen since now) told
    → AreLooked (HasSeen first now) reply
looked_in_call first since now told reply after is looked =
    looked_later (HasSeen since now) (HasSeen first now) (λ node bytes seen. seen_earlier_lem first since now node bytes after seen) reply (subst (HasLooked (HasSeen since now)) is looked)

-- an event that doesn't answer leaves the number
unanswered_number : (o : Outcome) (n : ℕ) → Unanswered o → number_after o n ≡ n
unanswered_number Moved n un = refl
unanswered_number (Held h) n un = refl
unanswered_number (Answered position stamp) n un = absurd (un position stamp refl)

-- at the start
pub at_start : (board pools : TableId) (regions : AllRegions) (desk : Desk) (p : Paper) (seat : Seated Seg) (s : Seg) → IsReady desk.client.caller.0 desk.client.number s seat
    → Fits board pools regions desk.bench s → p ≡ prepared desk.bench (call_in p) → Between (request_by desk p) board pools regions desk desk seat seat p
at_start board pools regions desk p seat s ready fit whole = record {
  of = refl;
  idle = ready.idle;
  desk_is = refl;
  board_after = asked_self_lem desk.board;
  pools_after = after_self_lem desk.pools;
  in_call = at_first (request_by desk p) board pools regions desk.bench desk.clock seat desk.board.knows.seen p s ready fit whole;
}

-- a hold in which the segment x is taken
module _ (board pools : TableId) (regions : AllRegions) (desk0 desk : Desk) (p0 p : Paper) (seat0 seat : Seated Seg)
    (b : Between (request_by desk0 p0) board pools regions desk0 desk seat0 seat p) (dated : call_in p0 ≡ Upgrade → desk0.bench.version ≡ 2) (x : Seg)
    (meets : Meets name_of log_of open_in seat.knows x) where
  abbrev r : Request
  r = request_by desk0 p0

  client_is : desk.client ≡ desk0.client
  client_is = ap (λ (d : Desk). d.client) b.desk_is

  bench_is : desk.bench ≡ desk0.bench
  bench_is = ap (λ (d : Desk). d.bench) b.desk_is

  pub event_fits : Fits board pools regions desk.bench x
  event_fits = subst (λ (g : Shape). Fits board pools regions g x) (sym bench_is)
      (fits r board pools regions desk0.bench desk0.clock seat0 desk.clock desk.board.knows.seen p seat.knows b.in_call x meets)

  asked_now : IsAsked x r.caller r.number p r.call
  asked_now = asked r board pools regions desk0.bench desk0.clock seat0 desk.clock desk.board.knows.seen p seat.knows b.in_call x meets dated

  pub event_asked : IsAsked x desk.client.caller.0 desk.client.number p (call_in p)
  event_asked = subst (λ (c : Client). IsAsked x c.caller.0 c.number p (call_in p)) (sym client_is)
      (subst (λ (a : Wanted). IsAsked x r.caller r.number p a) (sym (call_is x r.caller r.number p r.call asked_now)) asked_now)

  pub event_number : desk0.client.number + 1 < 2 ^ 32 → desk.client.number + 1 < 2 ^ 32
  event_number small = subst (λ (c : Client). c.number + 1 < 2 ^ 32) (sym client_is) small

  -- its event
  module _ (seat1 : Seated Seg) (took : seat1 ≡ record { of = seat.of; knows = held_by seat.knows (Some x) }) (sound : Sound x) (o : Outcome) (y : Seg) (q : Paper) (next : Desk)
      (next_is : next ≡ record desk { client = record desk.client { number = number_after o desk.client.number }; clock = next.clock; board = next.board; pools = next.pools })
      (looked : Asked desk.board next.board) (pooled : After desk.pools next.pools) (range : desk.clock ≤ last_stamp)
      (turns : Turns (setting (ground_of x) (kills_in x.site.nodes desk.board.knows.seen) (kills_in x.site.nodes next.board.knows.seen)) (request_by desk p) desk.clock next.clock o x y)
      (advanced : IsAdvanced o (request_by desk p) next.clock y p q) where
    abbrev w : Setting
    w = setting (ground_of x) (kills_in x.site.nodes desk.board.knows.seen) (kills_in x.site.nodes next.board.knows.seen)

    request_now : request_by desk p ≡ request_of r.caller r.number (call_in p)
    request_now = ap (λ (c : Client). request_of c.caller.0 c.number (call_in p)) client_is

    turns_now : Turns w (request_of r.caller r.number (call_in p)) desk.clock next.clock o x y
    turns_now = subst (λ (z : Request). Turns w z desk.clock next.clock o x y) request_now turns

    advanced_now : IsAdvanced o (request_of r.caller r.number (call_in p)) next.clock y p q
    advanced_now = subst (λ (z : Request). IsAdvanced o z next.clock y p q) request_now advanced

    pub event_gives : FollowsByOne name_of log_of gauge_of open_in IsStep (callers seat1.knows) x y
    event_gives = subst (λ (s : Seated Seg). FollowsByOne name_of log_of gauge_of open_in IsStep (callers s.knows) x y) (sym took)
        (gives r board pools regions desk0.bench desk0.clock seat0 desk.clock desk.board.knows.seen p seat.knows b.in_call x meets
        sound dated o y q next.clock next.board.knows.seen range turns_now advanced_now)

    abbrev desk_with : Client → Shape → Desk
    desk_with c g = record { client = c; clock = next.clock; bench = g; board = next.board; pools = next.pools }

    abbrev numbered : ℕ → Client
    numbered n = record { caller = desk0.client.caller; number = n }

    -- what of the caller has changed since the call began
    desk_now : (n : ℕ) → number_after o desk.client.number ≡ n → next ≡ desk_with (numbered n) desk0.bench
    desk_now n is =
        next_is ∙ (ap (λ (m : ℕ). desk_with (record desk.client { number = m }) desk.bench) is
        ∙ (ap (λ (c : Client). desk_with (record c { number = n }) desk.bench) client_is ∙ ap (desk_with (numbered n)) bench_is))

    -- the seat that has given it back
    module _ (seat2 : Seated Seg) (of : seat2.of ≡ seat1.of) (idle : IsIdle seat2) (gave : seat2.knows ≡ given name_of log_of open_in seat1.knows x y) where
      gave_now : seat2.knows ≡ given name_of log_of open_in (held_by seat.knows (Some x)) x y
      gave_now = gave ∙ ap (λ (s : Seated Seg). given name_of log_of open_in s.knows x y) took

      pub of_now : seat2.of ≡ seat0.of
      of_now = of ∙ (ap (λ (s : Seated Seg). s.of) took ∙ b.of)

      pub board_now : Asked desk0.board next.board
      board_now = asked_later_lem desk0.board desk.board next.board b.board_after looked

      pub pools_now : After desk0.pools next.pools
      pools_now = after_later_lem desk0.pools desk.pools next.pools b.pools_after pooled

      pub goes_between : Unanswered o → Between r board pools regions desk0 next seat0 seat2 q
      goes_between un = record {
        of = of_now;
        idle = idle;
        desk_is = desk_now desk0.client.number (unanswered_number o desk.client.number un ∙ ap (λ (c : Client). c.number) client_is);
        board_after = board_now;
        pools_after = pools_now;
        in_call = goes_on r board pools regions desk0.bench desk0.clock seat0 desk.clock desk.board.knows.seen p seat.knows b.in_call x meets
            sound dated o y q next.clock next.board.knows.seen range turns_now advanced_now looked.seen seat2.knows gave_now un;
      }

      -- where it was answered
      module _ (position stamp : ℕ) (reply : Reply) (outcome : o ≡ Answered position stamp) (told : q.reply ≡ Some reply) where
        answers_now : Answers r seat0 desk0.clock next.clock desk0.board.knows.seen next.board.knows.seen seat2 position stamp reply
        answers_now = ends r board pools regions desk0.bench desk0.clock seat0 desk.clock desk.board.knows.seen p seat.knows b.in_call x meets
            sound dated o y q next.clock next.board.knows.seen range turns_now advanced_now looked.seen seat2.knows gave_now
            position stamp reply outcome told desk0.board.knows.seen b.board_after.seen seat2 idle refl

        pub event_ends : Ended r desk0 next seat0 seat2 position stamp reply
        event_ends = record {
          of = of_now;
          desk_is = desk_now (desk0.client.number + 1)
              (ap (λ (z : Outcome). number_after z desk.client.number) outcome ∙ ap (λ (c : Client). c.number + 1) client_is);
          board_after = board_now;
          pools_after = pools_now;
          made = λ s own. made_for r seat0 desk0.clock next.clock desk0.board.knows.seen next.board.knows.seen seat2 position stamp reply answers_now s own;
          ready = λ s own. ready_for r seat0 desk0.clock next.clock desk0.board.knows.seen next.board.knows.seen seat2 position stamp reply answers_now s own;
        }
