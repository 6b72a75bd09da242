-- The turns of a replay.
use Rattle.std.proofs.Common.{◌≡◌, ◌≢◌, inl, inr, ℕ, ◌+◌, ◌^◌, ◌<◌, ◌≤◌, true, false, List, [], ◌∷◌, ◌++◌, length, set, get_or, Option, refl, sym, ap, ◌∙◌, subst, arith}
use Rattle.std.specs.Prelude.{unwrap_or}
use Rattle.std.proofs.lemmas.Bool.{cases_eq}
use Rattle.std.proofs.lemmas.List.{get_or-set_same, get_or-set_other, length-set, get_or_at, get_or_read}
use Rattle.cod_types.specs.declared.call.Call.{Call as Asked}
use Rattle.cod_types.specs.declared.call.Call.TheVariants.{Merge, Upgrade}
use Rattle.cod_types.specs.declared.call.NodeId.{NodeId}
use Rattle.cod_types.specs.declared.call.SegId.{SegId}
use Rattle.cod_types.specs.Limits.{Shape}
use Rattle.cod_region.specs.Device.{AllRegions}
use Rattle.cod_board.specs.declared.kill.Kill.{Kill as Killed}
use Rattle.cod_board.specs.Kills.{killed}
use Rattle.cod_chronicle.specs.Event.{Setting}
use Rattle.cod_chronicle.specs.Legal.{node_id}
use Rattle.cod_chronicle.specs.Said.{Site}
use Rattle.cod_claims.specs.Slips.{Paper}
use Rattle.cod_place.specs.Rooms.{CameFrom, Store}
use Rattle.cod_script.specs.declared.line.Line.{Line}
use Rattle.cod_script.specs.declared.line.What.TheVariants as what
use Rattle.cod_script.specs.Script.{lines_by, Script}
use Rattle.cod_seg.specs.Seg.{Seg}
use Rattle.cod_seg.specs.Sound.{is_frail}
use Rattle.cod_stripe.specs.Building.{frail_below}
use Rattle.cod_stripe.proofs.Frail.{sure_below}
use Rattle.cod_segment.specs.declared.asking.Outcome.{Outcome}
use Rattle.cod_segment.specs.declared.asking.Outcome.TheVariants as outcome
use Rattle.cod_segment.specs.Advancing.{IsAdvanced}
use Rattle.cod_segment.specs.Events.{call_in, HasRoom, IsAsked, kills_at, request_of}
use Rattle.cod_segment.specs.Exact.{Turns}
use Rattle.cod_turns.specs.Rounds.{IsProgress}
use Rattle.cod_turns.specs.Turns.{board_clock, is_answered, line_after, setting, Turn}
use Rattle.cod_turns.specs.declared.turned.Turned.TheVariants as turned
use Rattle.cod_advance.specs.Histories.{Takes}
use Rattle.cod_advance.specs.Moments.{IsWholeSlip}
use Rattle.cod_advance.specs.Served.{turned_by}
use Rattle.cod_advance.specs.Worlds.{HasFailed, HasServed, OthersStayAt, seg_at, world_of}
use Rattle.cod_advance.proofs.Lining.{line_is_there, moment_has_room, number_is_small, turn_leads_on}
use Rattle.cod_advance.proofs.Serving.{event_is_turn}
use Rattle.cod_advance.proofs.Slipping.{failing_keeps_slips, serving_keeps_slips, slip_is_asked}
use Rattle.cod_advance.proofs.Totalling.{all_work_is_bounded, serving_is_progress}
use Rattle.cod_advance.proofs.Worldly.{elsewhere, failing_is_turn, happened, here, serving_is_turn, serving_keeps, setting_is_segments, ending_is_turn}
use Rattle.cod_replay.specs.Serving.{done_if, failed, HasEvent, kill_by, played, served_as, Serves}
use Rattle.cod_replay.specs.Standing.{beginning, IsBareOf, IsKept, IsPlay, Stands}
use Rattle.cod_homes.specs.Building.{all_rooms}
use Rattle.cod_replay.specs.State.{course_of, moment_of, most_of, nobody, places_of, play_at, slips_of, State, work_of, world_in}
use Rattle.cod_replay.specs.Tasks.{due_of, gone_on, IsDated, Play, slip_in, task_of}
use Rattle.cod_replay.specs.declared.task.Due.TheVariants as due
use Rattle.cod_replay.specs.declared.task.Task.TheVariants.{Call, Done}
use Rattle.cod_replay.proofs.Playing.{line_below, called, CalledAt, fails, FailsAt, ended, goes_on, next_whole, number_called, number_failed, number_here, stays, stays_same, stays_set}
use Rattle.cod_replay.proofs.Rooming.{adds_up, came_back, came_first, rest_of}

-- ---- one client of many

pub own_play : (plays : List Play) (who : ℕ) (q : Play) → who < length plays → play_at (set plays who q) who ≡ q
own_play plays who q there = get_or-set_same plays who q nobody there

pub other_play : (plays : List Play) (who c : ℕ) (q : Play) → c ≢ who → play_at (set plays who q) c ≡ play_at plays c
other_play plays who c q diff = get_or-set_other plays who c q nobody diff

others_stay : (plays : List Play) (who : ℕ) (q : Play) → OthersStayAt who (places_of plays) (places_of (set plays who q))
others_stay plays who q = λ c diff. (ap (λ (p : Play). p.next) (other_play plays who c q diff), ap (λ (p : Play). p.clock) (other_play plays who c q diff))

other_slips : (plays : List Play) (who : ℕ) (q : Play) → (c : ℕ) → c ≢ who → slips_of (set plays who q) c ≡ slips_of plays c
other_slips plays who q = λ c diff. ap (λ (p : Play). slip_in (task_of p)) (other_play plays who c q diff)

each_play : (x : Script) (plays : List Play) (who : ℕ) (q : Play) → who < length plays → ((c : ℕ) → c < length plays → IsPlay x c (play_at plays c)) → IsPlay x who q
    → (c : ℕ) → c < length (set plays who q) → IsPlay x c (play_at (set plays who q) c)
each_play x plays who q there each is = λ c small. elim (cases_eq c who) [
  | inl same ↦ subst (λ (i : ℕ). IsPlay x i (play_at (set plays who q) i)) (sym same) (subst (IsPlay x who) (sym (own_play plays who q there)) is)
  | inr diff ↦ subst (IsPlay x c) (sym (other_play plays who c q diff)) (each c (let l = length-set plays who q in omega (arith, small, l)))
]

-- ---- a node that fails

module _ (s : State) (who line : ℕ) (node : NodeId) (st : Stands s) (there : who < length s.plays) (is : due_of (play_at s.plays who) ≡ due.Fail line node) where
  fails_here : FailsAt s.script who (play_at s.plays who) line node
  fails_here = fails s.script who (play_at s.plays who) line node (st.each who there) is

  pub fail_line : (1 ≤ line) × (node.0 < s.script.nodes)
  fail_line = line_is_there s.script who (play_at s.plays who).next (record { line = line; what = what.Fail node }) st.scenario fails_here.at

  pub fail_left : (play_at s.plays who).next < length (play_at s.plays who).tasks
  fail_left = fails_here.small

  has_failed : HasFailed s.script who s.kills (places_of s.plays) (failed who line node.0 s).kills (places_of (failed who line node.0 s).plays)
  has_failed =
      let p = play_at s.plays who in
      let own = own_play s.plays who (gone_on p) there in
      record {
        node = node;
        kill = kill_by line p;
        at = fails_here.at;
        there = (let a = fail_line.1 in let b = st.board in omega (arith, a, b));
        clock_is = refl;
        becomes = refl;
        moves = ap (λ (q : Play). q.next) own;
        stays = ap (λ (q : Play). q.clock) own;
        others = others_stay s.plays who (gone_on p);
      }

  pub fail_takes : Takes (course_of s) who (moment_of s) (moment_of (failed who line node.0 s))
  fail_takes = inr (inl (has_failed, refl))

  pub fail_is_turn : Turn (course_of s) who (world_in s) (world_in (failed who line node.0 s)) turned.Killed
  fail_is_turn = failing_is_turn (course_of s) who s.segs s.kills (places_of s.plays) (failed who line node.0 s).kills (places_of (failed who line node.0 s).plays) has_failed

  pub fail_is_progress : work_of (failed who line node.0 s) ≤ most_of s
  fail_is_progress = all_work_is_bounded (course_of s) (kills_at (failed who line node.0 s).kills) s.segs st.moment.are

  pub fail_stands : Stands (failed who line node.0 s)
  fail_stands =
      let p = play_at s.plays who in
      let v = failed who line node.0 s in
      let own = own_play s.plays who (gone_on p) there in
      let whole : IsWholeSlip s.script who ((places_of v.plays).next who) (slips_of v.plays who) =
      subst (λ (q : Play). IsWholeSlip s.script who q.next (slip_in (task_of q))) (sym own)
      (next_whole s.script who p p.tasks (st.each who there) (stays_same p)) in
      record {
        scenario = st.scenario;
        moment = turn_leads_on (course_of s) who turned.Killed s.segs (kills_at s.kills) (places_of s.plays) s.segs (kills_at v.kills) (places_of v.plays) st.moment
            fail_is_turn st.moment.are;
        frail = st.frail;
        slips = failing_keeps_slips (course_of s) who s.segs (kills_at s.kills) s.kills v.kills (places_of s.plays) (places_of v.plays) (slips_of s.plays)
            (slips_of v.plays) st.scenario st.moment has_failed st.slips whole (other_slips s.plays who (gone_on p));
        count = length-set s.plays who (gone_on p) ∙ st.count;
        each = each_play s.script s.plays who (gone_on p) there st.each
            (goes_on s.script who p (record { line = line; what = what.Fail node }) p.number p.clock p.tasks (st.each who there) fails_here.at (stays_same p)
            (number_failed s.script who p line node (st.each who there) fails_here.at));
        board = length-set s.kills node.0 _ ∙ st.board;
        pools = st.pools;
        came = st.came;
        sums = st.sums;
      }

-- ---- a client with no line

pub end_is_turn : (s : State) (who : ℕ) → Stands s → who < length s.plays → due_of (play_at s.plays who) ≡ due.Nothing
    → Turn (course_of s) who (world_in s) (world_in s) turned.Ended
end_is_turn s who st there is =
    ending_is_turn (course_of s) who s.segs (kills_at s.kills) (places_of s.plays) (ended s.script who (play_at s.plays who) (st.each who there) is)

pub end_takes : (s : State) (who : ℕ) → Stands s → who < length s.plays → due_of (play_at s.plays who) ≡ due.Nothing
    → Takes (course_of s) who (moment_of s) (moment_of s)
end_takes s who st there is = inr (inr (ended s.script who (play_at s.plays who) (st.each who there) is, refl))

-- ---- an event of a client's call

-- the call of a slip
asked_call : (s : Seg) (who number : ℕ) (p : Paper) (call : Asked) → IsAsked s who number p call → call_in p ≡ call
asked_call s who number p call is = elim is.state [
  | inl whole ↦ ap call_in whole.1
  | inr begun ↦ ap (λ (c : Option Asked). unwrap_or c Merge) begun.1.call_is
]

module _ (s : State) (who : ℕ) (seg : SegId) (st : Stands s) (there : who < length s.plays) (is : due_of (play_at s.plays who) ≡ due.Call seg) where
  called_here : CalledAt s.script who (play_at s.plays who) seg
  called_here = called s.script who (play_at s.plays who) seg (st.each who there) is

  the_line : Line
  the_line = record { line = called_here.line; what = what.Segment seg called_here.call }

  pub seg_there : seg.0 < length s.segs
  seg_there =
      let l = line_is_there s.script who (play_at s.plays who).next (record { line = called_here.line; what = what.Segment seg called_here.call }) st.scenario called_here.at in
      let a = l.1 in
      let b = st.moment.are.count in
      omega (arith, a, b)

  asked_here : IsAsked (seg_at s.segs seg.0) who (play_at s.plays who).number (slip_in (task_of (play_at s.plays who))) called_here.call
  asked_here =
      let p = play_at s.plays who in
      let l : Line = record { line = called_here.line; what = what.Segment seg called_here.call } in
      let for_it = st.slips.each who called_here.line seg called_here.call called_here.at in
      subst (λ (n : ℕ). IsAsked (seg_at s.segs seg.0) who n (slip_in (task_of p)) called_here.call) (sym (number_here s.script who p l called_here.at (st.each who there)))
      (slip_is_asked (course_of s) s.segs (kills_at s.kills) (places_of s.plays) who called_here.line seg called_here.call (slip_in (task_of p)) st.scenario st.moment
      called_here.at for_it)

  call_here : call_in (slip_in (task_of (play_at s.plays who))) ≡ called_here.call
  call_here = asked_call (seg_at s.segs seg.0) who (play_at s.plays who).number (slip_in (task_of (play_at s.plays who))) called_here.call asked_here

  -- what an event asks
  pub asked : IsAsked (seg_at s.segs seg.0) (play_at s.plays who).caller (play_at s.plays who).number (slip_in (task_of (play_at s.plays who)))
      (call_in (slip_in (task_of (play_at s.plays who))))
  asked =
      let p = play_at s.plays who in
      subst (λ (c : Asked). IsAsked (seg_at s.segs seg.0) p.caller p.number (slip_in (task_of p)) c) (sym call_here)
      (subst (λ (c : ℕ). IsAsked (seg_at s.segs seg.0) c p.number (slip_in (task_of p)) called_here.call) (sym (st.each who there).own) asked_here)

  pub small_number : (play_at s.plays who).number + 1 < 2 ^ 32
  small_number =
      let p = play_at s.plays who in
      let l : Line = record { line = called_here.line; what = what.Segment seg called_here.call } in
      let n = number_is_small s.script who p.next l called_here.at st.scenario in
      let e = number_here s.script who p l called_here.at (st.each who there) in
      omega (arith, n, e)

  pub has_room : HasRoom ((seg_at s.segs seg.0).site.shape.n + 2) (seg_at s.segs seg.0)
  has_room =
      let site = (st.moment.are.each seg.0 seg_there).site in
      subst (λ (n : ℕ). HasRoom (n + 2) (seg_at s.segs seg.0)) (sym (ap (λ (w : Site). w.shape.n) site))
      (moment_has_room (course_of s) s.segs (kills_at s.kills) (places_of s.plays) seg.0 st.scenario st.moment seg_there)

-- ---- after it

-- what becomes of the client
record GoesOn (x : Script) (who : ℕ) (o : Outcome) (clock : ℕ) (slip : Paper) (p q : Play) : Type 0 where
  is : IsPlay x who q
  clock_is : q.clock ≡ clock
  next_is : q.next ≡ line_after p.next (is_answered (turned_by o))
  slip_is : is_answered (turned_by o) ≡ false → slip_in (task_of q) ≡ slip
  whole : is_answered (turned_by o) ≡ true → IsWholeSlip x who q.next (slip_in (task_of q))

plays_on : (x : Script) (who : ℕ) (p : Play) (seg : SegId) (o : Outcome) (clock : ℕ) (slip : Paper) → IsPlay x who p → CalledAt x who p seg
    → GoesOn x who o clock slip p (done_if o (played o seg clock slip p))
plays_on x who p seg outcome.Moved clock slip is at = record {
  is = stays x who p seg at.line at.call slip clock is at.small at.at;
  clock_is = refl;
  next_is = refl;
  slip_is = λ e. ap slip_in (get_or-set_same p.tasks p.next (Call seg slip) Done at.small);
  whole = λ e. cc;
}
plays_on x who p seg (outcome.Held h) clock slip is at = record {
  is = stays x who p seg at.line at.call slip clock is at.small at.at;
  clock_is = refl;
  next_is = refl;
  slip_is = λ e. ap slip_in (get_or-set_same p.tasks p.next (Call seg slip) Done at.small);
  whole = λ e. cc;
}
plays_on x who p seg (outcome.Answered position stamp) clock slip is at = record {
  is = goes_on x who p (record { line = at.line; what = what.Segment seg at.call }) (p.number + 1) clock (set p.tasks p.next (Call seg slip)) is at.at
      (stays_set p (Call seg slip)) (number_called x who p at.line seg at.call is at.at);
  clock_is = refl;
  next_is = refl;
  slip_is = λ e. cc;
  whole = λ e. next_whole x who p (set p.tasks p.next (Call seg slip)) is (stays_set p (Call seg slip));
}

module _ (s : State) (who : ℕ) (seg : SegId) (st : Stands s) (there : who < length s.plays) (is : due_of (play_at s.plays who) ≡ due.Call seg)
    (o : Outcome) (clock : ℕ) (slip : Paper) (now : Seg) (pools : Store)
    (event : HasEvent s.kills (play_at s.plays who).caller (play_at s.plays who).number (play_at s.plays who).clock clock o (slip_in (task_of (play_at s.plays who))) slip
    (seg_at s.segs seg.0) now s.pools pools) where
  abbrev v : State
  v = served_as who seg o clock slip now pools s

  abbrev q : Play
  q = done_if o (played o seg clock slip (play_at s.plays who))

  on : GoesOn s.script who o clock slip (play_at s.plays who) q
  on = plays_on s.script who (play_at s.plays who) seg o clock slip (st.each who there) (called_here s who seg st there is)

  own : play_at v.plays who ≡ q
  own = own_play s.plays who q there

  clock_now : (places_of v.plays).clock who ≡ clock
  clock_now = ap (λ (p : Play). p.clock) own ∙ on.clock_is

  abbrev w : Setting
  w = setting (course_of s) (world_of s.segs (kills_at s.kills) (places_of s.plays)) seg.0

  has_served : HasServed (course_of s) who (kills_at s.kills) o s.segs (places_of s.plays) v.segs (places_of v.plays)
  has_served =
      let p = play_at s.plays who in
      let at = called_here s who seg st there is in
      let call = call_here s who seg st there is in
      let caller = (st.each who there).own in
      let turns = event.turns w (setting_is_segments (course_of s) s.segs (kills_at s.kills) (places_of s.plays) seg.0 st.moment.are (seg_there s who seg st there is))
      (λ x. refl) (λ x. refl) in
      record {
        line = at.line;
        seg = seg;
        call = at.call;
        at = at.at;
        there = seg_there s who seg st there is;
        number = p.number;
        number_is = number_here s.script who p (record { line = at.line; what = what.Segment seg at.call }) at.at (st.each who there);
        slip = slip_in (task_of p);
        slip_after = slip;
        asked = asked_here s who seg st there is;
        now = now;
        turns = subst (λ (c : ℕ). Turns w (request_of who p.number at.call) p.clock c o (seg_at s.segs seg.0) now) (sym clock_now)
            (subst (λ (c : ℕ). Turns w (request_of c p.number at.call) p.clock clock o (seg_at s.segs seg.0) now) caller
            (subst (λ (c : Asked). Turns w (request_of p.caller p.number c) p.clock clock o (seg_at s.segs seg.0) now) call turns));
        advanced = subst (λ (c : ℕ). IsAdvanced o (request_of who p.number at.call) c now (slip_in (task_of p)) slip) (sym clock_now)
            (subst (λ (c : ℕ). IsAdvanced o (request_of c p.number at.call) clock now (slip_in (task_of p)) slip) caller
            (subst (λ (c : Asked). IsAdvanced o (request_of p.caller p.number c) clock now (slip_in (task_of p)) slip) call event.advanced));
        becomes = refl;
        moves = ap (λ (p : Play). p.next) own ∙ on.next_is;
        others = others_stay s.plays who q;
      }

  served_takes : Takes (course_of s) who (moment_of s) (moment_of v)
  served_takes = inl (o, has_served, refl)

  served_turn : Turn (course_of s) who (world_in s) (world_in v) (turned_by o)
  served_turn = serving_is_turn (course_of s) who (kills_at s.kills) o s.segs (places_of s.plays) v.segs (places_of v.plays) st.moment.are has_served

  served_progress : IsProgress (most_of s) (turned_by o) (work_of s) (work_of v)
  served_progress =
      serving_is_progress (course_of s) who (kills_at s.kills) o s.segs (places_of s.plays) v.segs (places_of v.plays) st.moment.are has_served
      (let c = st.count in omega (arith, there, c))

  served_frail : (i : ℕ) → i < length v.segs → (seg_at v.segs i).frail ≡ s.frail
  unfolding has_served called_here
  served_frail i small = elim (cases_eq i seg.0) [
    | inl same ↦
        let j = seg_there s who seg st there is in
        let ev = happened (course_of s) who (kills_at s.kills) o s.segs (places_of s.plays) v.segs (places_of v.plays) st.moment.are has_served in
        let turn = event_is_turn w (request_of who (play_at s.plays who).number (called_here s who seg st there is).call) ((places_of s.plays).clock who)
        ((places_of v.plays).clock who) o (seg_at s.segs seg.0) now ev (λ x. refl) in
        ap (λ (k : ℕ). (seg_at v.segs k).frail) same
        ∙ ap (λ (u : Seg). u.frail) (here (course_of s) who (kills_at s.kills) o s.segs (places_of s.plays) v.segs (places_of v.plays) st.moment.are has_served)
        ∙ turn.frail ∙ st.frail seg.0 j
    | inr diff ↦
        let l = length-set s.segs seg.0 now in
        ap (λ (u : Seg). u.frail) (elsewhere (course_of s) who (kills_at s.kills) o s.segs (places_of s.plays) v.segs (places_of v.plays) st.moment.are has_served i diff)
        ∙ st.frail i (omega (arith, small, l))
  ]

  served_came : CameFrom pools (all_rooms v.segs)
  served_came =
      let j = seg_there s who seg st there is in
      came_back pools s.segs seg.0 now j (event.rooms (rest_of seg.0 s.segs) (came_first s.pools s.segs seg.0 j st.came))

  served_stands : Stands v
  unfolding has_served
  served_stands =
      let j = seg_there s who seg st there is in
      record {
        scenario = st.scenario;
        moment = turn_leads_on (course_of s) who (turned_by o) s.segs (kills_at s.kills) (places_of s.plays) v.segs (kills_at s.kills) (places_of v.plays) st.moment
            served_turn
            (serving_keeps (course_of s) who (kills_at s.kills) o s.segs (places_of s.plays) v.segs (places_of v.plays) st.moment.are has_served);
        frail = served_frail;
        slips = serving_keeps_slips (course_of s) who (kills_at s.kills) o s.segs (places_of s.plays) v.segs (places_of v.plays) has_served (slips_of s.plays)
            (slips_of v.plays) st.scenario st.moment st.slips
            (record {
              own = refl;
              goes_on = λ e. ap (λ (p : Play). slip_in (task_of p)) own ∙ on.slip_is e;
              next = λ e. subst (λ (p : Play). IsWholeSlip s.script who p.next (slip_in (task_of p))) (sym own) (on.whole e);
              others = other_slips s.plays who q;
            });
        count = length-set s.plays who q ∙ st.count;
        each = each_play s.script s.plays who q there st.each on.is;
        board = st.board;
        pools = event.nodes ∙ st.pools;
        came = served_came;
        sums = adds_up s.script.capacity s.pools pools s.segs seg.0 now j event.nodes event.balance served_came st.sums;
      }

-- ---- the same of a state that has become so

module _ (s v : State) (who : ℕ) (seg : SegId) (o : Outcome) (st : Stands s) (there : who < length s.plays) (is : due_of (play_at s.plays who) ≡ due.Call seg)
    (h : Serves who seg o s v) where
  pub serve_is_turn : Turn (course_of s) who (world_in s) (world_in v) (turned_by o)
  serve_is_turn = subst (λ (u : State). Turn (course_of s) who (world_in s) (world_in u) (turned_by o)) (sym h.becomes)
      (served_turn s who seg st there is o h.clock h.slip h.now h.pools h.event)

  pub serve_takes : Takes (course_of s) who (moment_of s) (moment_of v)
  serve_takes = subst (λ (u : State). Takes (course_of s) who (moment_of s) (moment_of u)) (sym h.becomes)
      (served_takes s who seg st there is o h.clock h.slip h.now h.pools h.event)

  pub serve_is_progress : IsProgress (most_of s) (turned_by o) (work_of s) (work_of v)
  serve_is_progress = subst (λ (u : State). IsProgress (most_of s) (turned_by o) (work_of s) (work_of u)) (sym h.becomes)
      (served_progress s who seg st there is o h.clock h.slip h.now h.pools h.event)

  pub serve_stands : Stands v
  serve_stands = subst Stands (sym h.becomes) (served_stands s who seg st there is o h.clock h.slip h.now h.pools h.event)

  pub serve_course : course_of v ≡ course_of s
  serve_course = ap course_of h.becomes

-- ---- with a replay's fields

module _ (was now : State) (view : was ≡ now) (who : ℕ) (there : who < length now.plays) (p : Play) (is : p ≡ get_or was.plays who p) where
  pub play_is : p ≡ play_at now.plays who
  play_is =
      let below : who < length was.plays = rw view there in
      get_or_read was.plays who p below is nobody ∙ ap (λ (s : State). play_at s.plays who) view

  pub failed_is : (line clock kept : ℕ) (node : NodeId) (kills : List (Option Killed)) (q : Play) → clock ≡ p.clock → kept ≡ board_clock clock
      → kills ≡ killed node.0 (record { line = line; clock = kept }) was.kills → q ≡ gone_on p
      → (let s : State = record was { kills = kills; plays = set was.plays who q } in s) ≡ failed who line node.0 now
  failed_is line clock kept node kills q clock_is kept_is kills_is q_is =
      let e : kept ≡ board_clock (play_at now.plays who).clock = kept_is ∙ ap board_clock (clock_is ∙ ap (λ (x : Play). x.clock) play_is) in
      let f : q ≡ gone_on (play_at now.plays who) = q_is ∙ ap gone_on play_is in
      let k : kills ≡ killed node.0 (kill_by line (play_at now.plays who)) now.kills =
      kills_is ∙ ap (λ (n : ℕ). killed node.0 (record { line = line; clock = n }) was.kills) e
      ∙ ap (λ (s : State). killed node.0 (kill_by line (play_at now.plays who)) s.kills) view in
      ap (λ (ks : List (Option Killed)). let s : State = record was { kills = ks; plays = set was.plays who q } in s) k
      ∙ ap (λ (x : Play). let s : State = record was { kills = killed node.0 (kill_by line (play_at now.plays who)) now.kills; plays = set was.plays who x } in s) f
      ∙ ap (λ (y : State). let s : State = record y {
        kills = killed node.0 (kill_by line (play_at now.plays who)) now.kills;
        plays = set y.plays who (gone_on (play_at now.plays who));
      } in s) view

  -- an event of the client's call
  pub served_is : (seg : SegId) (o : Outcome) (u v : Seg) (pools : Store) (kills : List (Option Killed)) (r q : Play) → u ≡ seg_at now.segs seg.0
      → HasEvent was.kills p.caller p.number p.clock r.clock o (slip_in (task_of p)) (slip_in (task_of r)) u v was.pools pools
      → r ≡ played o seg r.clock (slip_in (task_of r)) p → q ≡ done_if o r → kills ≡ was.kills
      → Serves who seg o now (record was { kills = kills; pools = pools; segs = set was.segs seg.0 v; plays = set was.plays who q })
  served_is seg o u v pools kills r q u_is event r_is q_is kills_is = record {
    clock = r.clock;
    slip = slip_in (task_of r);
    now = v;
    pools = pools;
    event =
        subst (λ (s : State). HasEvent s.kills (play_at now.plays who).caller (play_at now.plays who).number (play_at now.plays who).clock r.clock o
        (slip_in (task_of (play_at now.plays who))) (slip_in (task_of r)) (seg_at now.segs seg.0) v s.pools pools) view
        (subst (λ (x : Play). HasEvent was.kills x.caller x.number x.clock r.clock o (slip_in (task_of x)) (slip_in (task_of r)) (seg_at now.segs seg.0) v was.pools pools) play_is
        (subst (λ (x : Seg). HasEvent was.kills p.caller p.number p.clock r.clock o (slip_in (task_of p)) (slip_in (task_of r)) x v was.pools pools) u_is event));
    becomes =
        let f : q ≡ done_if o (played o seg r.clock (slip_in (task_of r)) (play_at now.plays who)) =
        q_is ∙ ap (done_if o) r_is ∙ ap (λ (x : Play). done_if o (played o seg r.clock (slip_in (task_of r)) x)) play_is in
        ap (λ (ks : List (Option Killed)). let s : State = record was { kills = ks; pools = pools; segs = set was.segs seg.0 v; plays = set was.plays who q } in s) kills_is
        ∙ ap (λ (x : Play). let s : State = record was { pools = pools; segs = set was.segs seg.0 v; plays = set was.plays who x } in s) f
        ∙ ap (λ (y : State). let s : State = record y {
          pools = pools;
          segs = set y.segs seg.0 v;
          plays = set y.plays who (done_if o (played o seg r.clock (slip_in (task_of r)) (play_at now.plays who)));
        } in s) view;
  }

-- what is kept
pub kept_on : (was new : State) (scenario : Script) (desk : Shape) → IsKept was scenario desk → new.script ≡ was.script → Stands new
    → IsKept new scenario desk
kept_on was new scenario desk kept same stands = record {
  stands = stands;
  bare = subst (λ (x : Script). IsBareOf x scenario) (sym same) kept.bare;
  bench = kept.bench ∙ sym (ap (λ (x : Script). x.shape) same);
}

-- on a node that isn't frail no region fails
pub sure : (regions : AllRegions) (nodes node : ℕ) → node < nodes → is_frail (frail_below regions.never_fail nodes) node ≡ false → regions.never_fail (node_id node) ≡ true
sure regions nodes node there none = sure_below regions.never_fail nodes (node_id node) there none

-- a segment of a replay has its site
pub nodes_are : (s : State) (i : ℕ) → Stands s → i < length s.segs → s.script.nodes ≡ (seg_at s.segs i).site.nodes
nodes_are s i st there = sym (ap (λ (w : Site). w.nodes) (st.moment.are.each i there).site)

pub shape_is : (s : State) (i : ℕ) → Stands s → i < length s.segs → s.script.shape ≡ (seg_at s.segs i).site.shape
shape_is s i st there = sym (ap (λ (w : Site). w.shape) (st.moment.are.each i there).site)

pub event_left : (s : State) (who : ℕ) (seg : SegId) → Stands s → who < length s.plays → due_of (play_at s.plays who) ≡ due.Call seg
    → (play_at s.plays who).next < length (play_at s.plays who).tasks
event_left s who seg st there is = (called s.script who (play_at s.plays who) seg (st.each who there) is).small

-- an event leaves its line
pub still_left : (seg : SegId) (o : Outcome) (p r : Play) (clock : ℕ) (slip : Paper) → r ≡ played o seg clock slip p → p.next < length p.tasks → r.next < length r.tasks
still_left seg o p r clock slip is left =
    subst (λ (x : Play). x.next < length x.tasks) (sym is) (let l = length-set p.tasks p.next (Call seg slip) in omega (arith, left, l))
