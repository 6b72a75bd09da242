-- How a drain ends, over plain data.
use Rattle.std.proofs.Common.{◌≡◌, inl, inr, ℕ, ◌+◌, ◌<◌, List, [], ◌∷◌, ◌++◌, length, All, Bool, true, false, cond, Option, Some, None, refl, sym, ap, ◌∙◌, subst, append-nil, arith}
use Rattle.std.specs.Prelude.{not, unwrap_or}
use Rattle.std.specs.List.{last_or}
use Rattle.std.proofs.lemmas.List.{length-append}
use Rattle.cod_types.specs.declared.call.Call.{Call as Asked}
use Rattle.cod_types.specs.declared.call.Call.TheVariants.{Drain, Merge}
use Rattle.cod_types.specs.declared.call.Caller.{Caller}
use Rattle.cod_types.specs.declared.call.NodeId.{NodeId}
use Rattle.cod_types.specs.declared.call.Reply.{Reply}
use Rattle.cod_types.specs.declared.call.Reply.TheVariants.{Clear, Lost, NoMem, NoSpare, Shifted}
use Rattle.cod_types.specs.declared.reasons.Reason.{Reason}
use Rattle.cod_board.specs.declared.kill.Kill.{Kill as Killed}
use Rattle.cod_board.specs.Kills.{Keeps}
use Rattle.cod_chronicle.specs.declared.entry.Entry.{Entry}
use Rattle.cod_chronicle.specs.declared.entry.Entry.TheVariants.{Call, Move}
use Rattle.cod_chronicle.specs.Event.{IsSeenReply, Setting}
use Rattle.cod_chronicle.specs.Legal.{IsAnswer, IsLiveOn, IsReasons, move_of}
use Rattle.cod_chronicle.specs.Said.{bytes_next, bytes_of, clock_of, is_down, is_over, next_stamp, node_of, numbers_by, Precedes, Site, StampFollows}
use Rattle.cod_chronicle.proofs.Answering.{answer_lost, answer_served}
use Rattle.cod_chronicle.proofs.Growth.{clock_of-push, numbers_same}
use Rattle.cod_chronicle.proofs.Legality.{ends_settled}
use Rattle.cod_claims.specs.Slips.{Paper}
use Rattle.cod_seg.specs.Calls.{costs}
use Rattle.cod_seg.specs.Next.{open_in}
use Rattle.cod_seg.specs.Seg.{Col, col_at, node_in, Rebuilding, Seg, Target}
use Rattle.cod_seg.specs.Sound.{is_frail, IsOther, Sound}
use Rattle.cod_seg.specs.Steps.{goes, Moves, moves, placed_col, stays}
use Rattle.cod_seg.proofs.Happening.{answer_ends, nothing}
use Rattle.cod_seg.proofs.Keeping.{col_here, col_there}
use Rattle.cod_segment.specs.declared.asking.Outcome.TheVariants.{Answered}
use Rattle.cod_segment.specs.Events.{call_in, Counts, IsSettingOf, kills_at, Makes, request_of}
use Rattle.cod_segment.specs.Looks.{HasLooked}
use Rattle.cod_segment.proofs.Answering.{answered, outcome, sound_after}
use Rattle.cod_segment.proofs.Looking.{looked_some}
use Rattle.cod_placing.proofs.Finding.{unknown}
use Rattle.cod_drain.specs.Copies.{MayCome, place_of}
use Rattle.cod_drain.specs.Ends.{drain_of, Ends, Enters, IsDraining, IsServed}
use Rattle.cod_drain.specs.declared.plan.Plan.{Plan}

-- ---- what holds where nothing is open

alone : (caller : ℕ) (o : Option Rebuilding) → o ≡ None → IsOther caller o
alone caller o calm = rw calm tt

no_open : (s : Seg) (i caller number : ℕ) (p : Paper) → IsDraining s i caller number p → open_in s caller ≡ None
no_open s i caller number p is = nothing caller s.claims s.rebuild is.idle (alone caller s.rebuild is.calm)

-- the setting in which just these kills are seen, and regions fail where they may
abbrev pub setting_of : Seg → List (Option Killed) → Setting
setting_of s kills = record { site = s.site; known = λ x. None; seen = kills_at kills; may = λ x. is_frail s.frail x }

its_setting : (s : Seg) (kills : List (Option Killed)) → IsSettingOf (setting_of s kills) s
its_setting s kills = record { site = refl; may = λ node is. is }

no_reads : (c d : Col) → d ≡ c → (times : ℕ) × Counts (costs times 0) c.state.device d.state.device
no_reads c d same = (0, (ap (λ (x : Col). x.state.device.reads) same, ap (λ (x : Col). x.state.device.writes) same))

-- ---- the column stays, and the drain is answered

pub kept_ends : (i : ℕ) (before now : List (Option Killed)) (caller : Caller) (number stamp t : ℕ) (reply : Reply) (s u : Seg) (p q : Paper) → Sound s → IsDraining s i caller.0 number p
    → IsAnswer s.site s.log (drain_of s i) reply → bytes_next (bytes_of s.site s.log) (Call caller number stamp (drain_of s i) reply) ≡ bytes_of s.site s.log
    → ((w : Setting) → IsSettingOf w s → ((x : ℕ) → w.seen x ≡ kills_at now x) → IsSeenReply w.seen w.may reply)
    → stamp ≡ next_stamp (clock_of s.log) t → StampFollows s.log stamp → u ≡ record s { log = s.log ++ Call caller number stamp (drain_of s i) reply ∷ [] } → q.reply ≡ Some reply
    → Ends i before now (request_of caller.0 number (drain_of s i)) t stamp (Answered (length s.log) stamp) s u q
kept_ends i before now caller number stamp t reply s u p q sound is answer quiet seen next follows becomes told =
    let made : (w : Setting) → IsSeenReply w.seen w.may reply → Makes w (request_of caller.0 number (drain_of s i)) t stamp true s u = λ (w : Setting) (sees : IsSeenReply w.seen w.may reply).
    answered w s u caller number stamp t s.version (drain_of s i) reply is.idle (alone caller.0 s.rebuild is.calm) is.newest answer quiet (inl refl) sees next follows becomes in
    record {
      sound = (let w = setting_of s now in sound_after w (request_of caller.0 number (drain_of s i)) t stamp true s u sound (made w (seen w (its_setting s now) (λ x. refl))));
      makes = λ w setting kills. made w (seen w setting kills);
      exact = λ w known. inl (record { entries = Call caller number stamp (drain_of s i) reply ∷ []; grown = ap (λ (x : Seg). x.log) becomes; staying = (tt, tt) });
      outcome = outcome s u caller number stamp s.version (drain_of s i) reply q (no_open s i caller.0 number p is) becomes told;
      others = λ m other. ap (λ (x : Seg). col_at x.cols m) becomes;
      own = λ same. no_reads (col_at s.cols i) (col_at u.cols i) (ap (λ (x : Seg). col_at x.cols i) becomes);
    }

-- ---- the replies

settled : (s : Seg) → Sound s → move_of (last_or None s.log) ≡ None
settled s sound = (ends_settled s.site s.log sound.history.legal).1

up_to : (b : Bool) → true ≡ not b → b ≡ false
up_to true e = cc
up_to false e = refl

pub live_there : (s : Seg) (i : ℕ) → Sound s → IsServed s i → IsLiveOn s.site s.log (node_of s.site s.log i) i
live_there s i sound is = record {
  column = is.below;
  live = up_to (is_down s.log i) (sym is.live ∙ (sound.columns.each i is.below).up);
  there = refl;
}

pub spare_answer : (s : Seg) (i : ℕ) (reasons : List Reason) → Sound s → IsServed s i → IsReasons s.site s.log i reasons → IsAnswer s.site s.log (drain_of s i) (NoSpare reasons)
spare_answer s i reasons sound is why = answer_served s.site s.log (drain_of s i) (NoSpare reasons) refl is.few (let e = settled s sound in rw e (i, live_there s i sound is, why))

pub memory_answer : (s : Seg) (i : ℕ) → Sound s → IsServed s i → IsAnswer s.site s.log (drain_of s i) NoMem
memory_answer s i sound is = answer_served s.site s.log (drain_of s i) NoMem refl is.few (let e = settled s sound in rw e (i, live_there s i sound is))

pub clear_answer : (s : Seg) (i : ℕ) → Sound s → ((c : ℕ) → IsLiveOn s.site s.log (node_of s.site s.log i) c → ⊥)
    → IsAnswer s.site s.log (drain_of s i) (cond (is_over s.site s.log) Lost Clear)
clear_answer s i sound none = by (is_over s.site s.log) refl where
  by : (b : Bool) → is_over s.site s.log ≡ b → IsAnswer s.site s.log (drain_of s i) (cond b Lost Clear)
  by true over = answer_lost s.site s.log (drain_of s i) refl over
  by false few = answer_served s.site s.log (drain_of s i) Clear refl few (let e = settled s sound in rw e none)

pub clear_quiet : (b : List ℕ) (caller : Caller) (number stamp : ℕ) (node : NodeId) (over : Bool) → bytes_next b (Call caller number stamp (Drain node) (cond over Lost Clear)) ≡ b
clear_quiet b caller number stamp node true = refl
clear_quiet b caller number stamp node false = refl

pub clear_seen : (w : Setting) (over : Bool) → IsSeenReply w.seen w.may (cond over Lost Clear)
clear_seen w true = tt
clear_seen w false = tt

-- it tells of no free bytes
pub clear_looked : (Seen : ℕ → ℕ → Type 0) (over : Bool) (reply : Option Reply) → reply ≡ Some (cond over Lost Clear) → HasLooked Seen reply
clear_looked Seen true reply is = looked_some Seen reply Lost is tt
clear_looked Seen false reply is = looked_some Seen reply Clear is tt

-- ---- the column moves

pub precedes_of : (h : List Entry) (e : Entry) (t : ℕ) → StampFollows (h ++ e ∷ []) t → Precedes (Rattle.cod_chronicle.specs.Said.stamp_of e) t
precedes_of [] e t follows = follows
precedes_of (x ∷ h) e t follows = let c = clock_of-push (x ∷ h) e in rw c at follows

newest_moved : (log : List Entry) (caller number stamp col : ℕ) (node : NodeId) → All (λ m. m < number) (numbers_by caller log)
    → All (λ m. m < number) (numbers_by caller (log ++ Move stamp col node ∷ []))
newest_moved log caller number stamp col node newest = let e = numbers_same caller log (Move stamp col node) refl in rw e newest

pub newest_after : (s m u : Seg) (caller number stamp col : ℕ) (node : NodeId) → m.log ≡ s.log → u ≡ record m { log = m.log ++ Move stamp col node ∷ [] } → All (λ n. n < number) (numbers_by caller s.log)
    → All (λ n. n < number) (numbers_by caller u.log)
newest_after s m u caller number stamp col node same becomes newest =
    let log = ap (λ (x : Seg). x.log) becomes ∙ ap (λ (h : List Entry). h ++ Move stamp col node ∷ []) same in
    subst (λ (h : List Entry). All (λ n. n < number) (numbers_by caller h)) (sym log) (newest_moved s.log caller number stamp col node newest)

abbrev it_moves : (p : Plan) (kills : List (Option Killed)) (goal : Target) (caller : Caller) (number t after : ℕ) (s u : Seg) (q r : Paper) → IsServed s p.col → MayCome s p kills goal
    → IsDraining s p.col caller.0 number q → Enters p goal caller number t after s u r → Moves p.col s u
it_moves p kills goal caller number t after s u q r served may is enters = record {
  place = place_of p goal;
  caller = caller;
  number = number;
  first = enters.first;
  second = after;
  live = served.live;
  few = served.few;
  idle = is.idle;
  newest = is.newest;
  follows = enters.follows;
  next = enters.next;
  calm = is.calm;
  is = may.is;
  copied = may.copied;
  becomes = enters.becomes;
}

pub moved_ends : (p : Plan) (before now : List (Option Killed)) (goal : Target) (caller : Caller) (number t after : ℕ) (s u : Seg) (q r : Paper) → Sound s → Keeps before now → IsServed s p.col
    → MayCome s p now goal → IsDraining s p.col caller.0 number q → Enters p goal caller number t after s u r
    → Ends p.col before now (request_of caller.0 number (drain_of s p.col)) t after (Answered (length s.log + 1) after) s u r
moved_ends p before now goal caller number t after s u q r sound keeps served may is enters =
    let i = p.col in
    let request = request_of caller.0 number (drain_of s i) in
    let m = it_moves p now goal caller number t after s u q r served may is enters in
    let made : (w : Setting) → Makes w request t after true s u = λ (w : Setting). record {
      steps = goes s s u (stays s) (moves i served.below m);
      happened = (
        t,
        record { clock = refl; goes_on = refl },
        record { caller_is = refl; number_is = refl; call_is = refl; first_is = enters.stamp; second_is = enters.last; clock = refl; ends = refl },
      );
    } in
    let front = s.log ++ Move enters.first i goal.room.node ∷ [] in
    let long = length-append s.log (Move enters.first i goal.room.node ∷ []) in
    let col = sound.columns.each i served.below in
    let size = sound.columns.size in
    let below = served.below in
    record {
      sound = sound_after (setting_of s now) request t after true s u sound (made (setting_of s now));
      makes = λ w setting kills. made w;
      exact = λ w known. inr (record {
        before = s;
        col = i;
        stays = record { entries = []; grown = sym (append-nil s.log); staying = tt };
        moves = m;
        written = may.written;
        unread = may.unread;
        off = known goal.room.node.0 ∙ unknown before now goal.room.node.0 keeps may.up;
      });
      outcome = (
        answer_ends (setting_of s now) request t after s u (moves i served.below m) sound
            (record { caller_is = refl; number_is = refl; call_is = refl; first_is = enters.stamp; second_is = enters.last; clock = refl; ends = refl }),
        refl,
        (front, Call caller number after (drain_of s i) (Shifted i goal.room.node), ap (λ (x : Seg). x.log) enters.becomes, omega (arith, long), rw enters.told refl),
      );
      others = λ k other. ap (λ (x : Seg). col_at x.cols k) enters.becomes ∙ col_there s.cols i k (placed_col s.site.shape (place_of p goal)) other;
      own = λ same.
          let here = ap (λ (x : Seg). col_at x.cols i) enters.becomes ∙ col_here s.cols i (placed_col s.site.shape (place_of p goal)) (omega (arith, size, below)) in
          let node : goal.room.node.0 ≡ node_in (col_at s.cols i) = ap node_in (sym here) ∙ ap (λ (n : NodeId). n.0) same in
          absurd (may.is.alone i served.below (sym col.there ∙ sym node));
    }

pub call_is : (s : Seg) (i caller number : ℕ) (p : Paper) → IsDraining s i caller number p → call_in p ≡ drain_of s i
call_is s i caller number p is = ap (λ (o : Option Asked). unwrap_or o Merge) is.call
