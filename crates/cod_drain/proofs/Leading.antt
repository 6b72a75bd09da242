-- What a try has made, and how the drain's end follows on it.
use Rattle.std.proofs.Common.{◌≡◌, ◌≢◌, inl, inr, ℕ, ◌+◌, ◌<◌, ◌≤◌, List, [], ◌∷◌, ◌++◌, length, Bool, true, false, cond, Option, Some, None, refl, sym, ap, ◌∙◌, subst, append-nil, append_assoc, arith}
use Rattle.std.specs.Prelude.{not, unwrap_or}
use Rattle.std.proofs.lemmas.Bool.{cases_eq, eq-eqb}
use Rattle.std.proofs.lemmas.List.{length-append}
use Rattle.cod_types.specs.Faults.{grown}
use Rattle.cod_types.specs.declared.call.Call.{Call as Asked}
use Rattle.cod_types.specs.declared.call.Call.TheVariants.{Drain, Merge, Rebuild}
use Rattle.cod_types.specs.declared.call.NodeId.{NodeId}
use Rattle.cod_types.specs.declared.reasons.Reason.{Reason}
use Rattle.cod_board.specs.declared.kill.Kill.{Kill as Killed}
use Rattle.cod_board.specs.Kills.{Keeps}
use Rattle.cod_chronicle.specs.declared.entry.Cause.TheVariants.{Fault}
use Rattle.cod_chronicle.specs.declared.entry.Entry.{Entry}
use Rattle.cod_chronicle.specs.declared.entry.Entry.TheVariants.{Down}
use Rattle.cod_chronicle.specs.Event.{Request, Setting}
use Rattle.cod_chronicle.specs.Legal.{IsLiveOn}
use Rattle.cod_chronicle.specs.Said.{is_down, node_of, numbers_by, Site}
use Rattle.cod_chronicle.proofs.Growth.{is_down-push, node_of-push, numbers_same}
use Rattle.cod_chronicle.proofs.Orders.{Each-append}
use Rattle.cod_claims.specs.Slips.{Paper, prepared}
use Rattle.cod_seg.specs.Calls.{costs, drained, piece_count}
use Rattle.cod_seg.specs.Happens.{Happened}
use Rattle.cod_seg.specs.Next.{live_on, next_step, open_in}
use Rattle.cod_seg.specs.Seg.{Col, col_at, node_in, Rebuilding, Seg}
use Rattle.cod_seg.specs.Sound.{is_update, IsOther, Sound}
use Rattle.cod_seg.specs.Steps.{Goes, goes, marks, stays, works}
use Rattle.cod_seg.specs.declared.next.Step.TheVariants as step
use Rattle.cod_seg.proofs.Falling.{marks_keep}
use Rattle.cod_seg.proofs.Keeping.{col_here, col_there}
use Rattle.cod_seg.proofs.Serving.{drain_where_live, moving}
use Rattle.cod_segment.specs.declared.asking.Outcome.{Outcome}
use Rattle.cod_segment.specs.declared.asking.Outcome.TheVariants.{Answered, Held, Moved}
use Rattle.cod_segment.specs.Events.{call_in, Costs, Counts, is_answered, IsAsked, IsSettingOf, Makes, request_of, rooms_of}
use Rattle.cod_segment.specs.Exact.{Exactly, IsStaying, Stays}
use Rattle.cod_segment.proofs.Answering.{idle, unopened}
use Rattle.cod_drain.specs.Copies.{Falls, read_times, Reads, Tries, with_faults}
use Rattle.cod_drain.specs.Ends.{drain_of, Ends, IsDraining, IsServed, MayEnd}
use Rattle.cod_drain.specs.declared.plan.Plan.{Plan}
use Rattle.cod_drain.specs.declared.trying.Tried.{Tried}
use Rattle.cod_drain.specs.declared.trying.Tried.TheVariants.{Copied, Failed, NoSpare, NoMemory}
use Rattle.cod_drain.proofs.Pieces.{grown_more}
use Rattle.cod_drain.proofs.Trials.{come_on, falls_mark, read_sound, reads_work, rooms_kept, same_rooms, spare_on, still_served}

-- ---- steps after steps

happened_on : (w : Setting) (r : Request) (t mid after : ℕ) (done : Bool) (s m u : Seg) (before : Goes s m) (later : Goes m u) → Happened w r t mid false s m before → Happened w r mid after done m u later
    → (all : Goes s u) × Happened w r t after done s u all
happened_on w r t mid after done s m u before (stays v) first then_ =
    (before, rw (then_.clock, then_.goes_on) first)
happened_on w r t mid after done s m u before (goes a b c later step) first then_ =
    let more = happened_on w r t mid then_.0 false s a b before later first then_.1 in
    (goes s b c more.0 step, (then_.0, more.1, then_.2))

pub makes_on : (w : Setting) (r : Request) (t mid after : ℕ) (done : Bool) (s m u : Seg) → Makes w r t mid false s m → Makes w r mid after done m u → Makes w r t after done s u
makes_on w r t mid after done s m u first then_ =
    let all = happened_on w r t mid after done s m u first.steps then_.steps first.happened then_.happened in
    record { steps = all.0; happened = all.1 }

pub stays_on : (s m u : Seg) → Stays s m → Stays m u → Stays s u
stays_on s m u first then_ = record {
  entries = first.entries ++ then_.entries;
  grown = then_.grown ∙ ap (λ (l : List Entry). l ++ then_.entries) first.grown ∙ append_assoc s.log first.entries then_.entries;
  staying = Each-append IsStaying first.entries then_.entries first.staying then_.staying;
}

-- ---- what a try has made

pub record Leads (i t mid : ℕ) (s m : Seg) : Type 0 where
  pub sound : Sound m
  pub site : m.site ≡ s.site
  pub frail : m.frail ≡ s.frail
  pub claims : m.claims ≡ s.claims
  pub rebuild : m.rebuild ≡ s.rebuild
  pub rooms : rooms_of m ≡ rooms_of s
  pub makes : (w : Setting) (r : Request) → IsSettingOf w s → Makes w r t mid false s m
  pub stays : Stays s m
  pub others : (k : ℕ) → k ≢ i → col_at m.cols k ≡ col_at s.cols k
  pub node : (col_at m.cols i).room.node ≡ (col_at s.cols i).room.node
  pub own : (times : ℕ) × Counts (costs times 0) (col_at s.cols i).state.device (col_at m.cols i).state.device
  pub numbers : (who : ℕ) → numbers_by who m.log ≡ numbers_by who s.log
  pub nodes : (k : ℕ) → node_of m.site m.log k ≡ node_of s.site s.log k
  pub long : length m.log ≤ length s.log + 1

pub reads_lead : (i t mid : ℕ) (s m : Seg) → Sound s → i < s.site.shape.n → Reads i t mid s m → Leads i t mid s m
reads_lead i t mid s m sound below reads =
    let read = reads.becomes in
    let c = read_times reads.times (col_at s.cols i) in
    let log = ap (λ (x : Seg). x.log) read in
    let long = ap length log in
    let size = sound.columns.size in
    let at = ap (λ (x : Seg). col_at x.cols i) read ∙ col_here s.cols i c (omega (arith, size, below)) in
    record {
      sound = read_sound i reads.times s m sound below read;
      site = ap (λ (x : Seg). x.site) read;
      frail = ap (λ (x : Seg). x.frail) read;
      claims = ap (λ (x : Seg). x.claims) read;
      rebuild = ap (λ (x : Seg). x.rebuild) read;
      rooms = same_rooms i reads.times s m read;
      makes = λ w r setting. record {
        steps = goes s s m (stays s) (works i below (reads_work i reads.times s m sound below read));
        happened = (t, record { clock = refl; goes_on = refl }, record { clock = reads.clock; goes_on = refl });
      };
      stays = record { entries = []; grown = log ∙ sym (append-nil s.log); staying = tt };
      others = λ k other. ap (λ (x : Seg). col_at x.cols k) read ∙ col_there s.cols i k c other;
      node = ap (λ (x : Col). x.room.node) at;
      own = (reads.times, (ap (λ (x : Col). x.state.device.reads) at, ap (λ (x : Col). x.state.device.writes) at));
      numbers = λ who. ap (numbers_by who) log;
      nodes = λ k. ap (λ (x : Seg). node_of x.site x.log k) read;
      long = omega (arith, long);
    }

pub falls_lead : (i t mid : ℕ) (s m : Seg) → Sound s → i < s.site.shape.n → (col_at s.cols i).is_up ≡ true → Falls i t mid s m → Leads i t mid s m
falls_lead i t mid s m sound below live falls =
    let c = record (with_faults falls.count (read_times falls.times (col_at s.cols i))) { is_up = false } in
    let mark = falls_mark i t mid s m sound below live falls in
    let e : Entry = Down mid i (col_at s.cols i).room.node (Fault falls.count) in
    let log : m.log ≡ s.log ++ e ∷ [] = ap (λ (x : Seg). x.log) falls.becomes in
    let long = ap length log ∙ length-append s.log (e ∷ []) in
    let size = sound.columns.size in
    let at = ap (λ (x : Seg). col_at x.cols i) falls.becomes ∙ col_here s.cols i c (omega (arith, size, below)) in
    record {
      sound = marks_keep s m i below sound mark;
      site = ap (λ (x : Seg). x.site) falls.becomes;
      frail = ap (λ (x : Seg). x.frail) falls.becomes;
      claims = ap (λ (x : Seg). x.claims) falls.becomes;
      rebuild = ap (λ (x : Seg). x.rebuild) falls.becomes;
      rooms = ap rooms_of falls.becomes ∙ rooms_kept s i c refl;
      makes = λ w r setting. record {
        steps = goes s s m (stays s) (marks i below mark);
        happened = (
          t,
          record { clock = refl; goes_on = refl },
          ((falls.some, setting.may (node_in (col_at s.cols i)) falls.frail), record { stamp_is = falls.stamp; clock = refl; goes_on = refl }),
        );
      };
      stays = record { entries = e ∷ []; grown = log; staying = (tt, tt) };
      others = λ k other. ap (λ (x : Seg). col_at x.cols k) falls.becomes ∙ col_there s.cols i k c other;
      node = ap (λ (x : Col). x.room.node) at;
      own = (falls.times, (ap (λ (x : Col). x.state.device.reads) at, ap (λ (x : Col). x.state.device.writes) at));
      numbers = λ who. ap (numbers_by who) log ∙ numbers_same who s.log e refl;
      nodes = λ k. ap (λ (x : Seg). node_of x.site x.log k) falls.becomes ∙ node_of-push s.site s.log e k;
      long = omega (arith, long);
    }

-- no column is live on the node of one that went down
none_live : (i t mid : ℕ) (s m : Seg) → Sound s → i < s.site.shape.n → Falls i t mid s m → Leads i t mid s m → (c : ℕ) → IsLiveOn m.site m.log (node_of m.site m.log i) c → ⊥
none_live i t mid s m sound below falls leads c is =
    let lower : c < s.site.shape.n = subst (λ (x : Site). c < x.shape.n) leads.site is.column in
    let same : c ≡ i = sound.columns.apart c i lower below (sym (leads.nodes c) ∙ is.there ∙ leads.nodes i) in
    let e : Entry = Down mid i (col_at s.cols i).room.node (Fault falls.count) in
    let down : is_down m.log i ≡ true = ap (λ (x : Seg). is_down x.log i) falls.becomes ∙ is_down-push s.log e i ∙ ap (λ (b : Bool). cond b true (is_down s.log i)) (eq-eqb i i refl) in
    let wrong : true ≡ false = sym down ∙ ap (is_down m.log) (sym same) ∙ is.live in cc

pub tries_lead : {R : Type 0} (p : Plan) (kills : List (Option Killed)) (reasons : List Reason) (t mid : ℕ) (s m : Seg) (x : Tried R) → Sound s → IsServed s p.col → Tries p kills reasons t mid s m x
    → Leads p.col t mid s m × MayEnd p kills reasons m x
tries_lead p kills reasons t mid s m (Copied goal) sound served tries = (
  reads_lead p.col t mid s m sound served.below tries.0,
  (still_served p.col tries.0.times s m sound served tries.0.becomes, come_on p.col tries.0.times p kills goal s m tries.0.becomes tries.1),
)
tries_lead p kills reasons t mid s m Failed sound served tries =
    let leads = falls_lead p.col t mid s m sound served.below served.live tries in (leads, none_live p.col t mid s m sound served.below tries leads)
tries_lead p kills reasons t mid s m NoSpare sound served tries = (
  reads_lead p.col t mid s m sound served.below tries.0,
  (still_served p.col tries.0.times s m sound served tries.0.becomes, spare_on p.col p.col tries.0.times kills reasons s m tries.0.becomes tries.1),
)
tries_lead p kills reasons t mid s m NoMemory sound served tries = (reads_lead p.col t mid s m sound served.below tries, still_served p.col tries.times s m sound served tries.becomes)

-- ---- the end after a try

answered_on : (w : Setting) (result : Outcome) (s m u : Seg) → m.site ≡ s.site → Stays s m → Exactly w step.Drain result m u → Exactly w step.Drain result s u
answered_on w (Held h) s m u site first exact = tt
answered_on w Moved s m u site first exact = exact
answered_on w (Answered position stamp) s m u site first (inl then_) = inl (stays_on s m u first then_)
answered_on w (Answered position stamp) s m u site first (inr then_) = inr (record {
  before = then_.before;
  col = then_.col;
  stays = stays_on s m then_.before first then_.stays;
  moves = then_.moves;
  off = then_.off;
  written = then_.written ∙ ap (λ (x : Site). piece_count x.shape) site;
  unread = then_.unread;
})

counts_on : (i : ℕ) (s m u : Seg) → (times : ℕ) × Counts (costs times 0) (col_at s.cols i).state.device (col_at m.cols i).state.device
    → (times : ℕ) × Counts (costs times 0) (col_at m.cols i).state.device (col_at u.cols i).state.device
    → (times : ℕ) × Counts (costs times 0) (col_at s.cols i).state.device (col_at u.cols i).state.device
counts_on i s m u first then_ = (
  first.0 + then_.0,
  (then_.1.0 ∙ ap (grown then_.0) first.1.0 ∙ grown_more first.0 then_.0 (col_at s.cols i).state.device.reads, then_.1.1 ∙ first.1.1),
)

pub ends_on : (i t mid after : ℕ) (before now : List (Option Killed)) (r : Request) (result : Outcome) (s m u : Seg) (q : Paper) → Leads i t mid s m → Ends i before now r mid after result m u q
    → Ends i before now r t after result s u q
ends_on i t mid after before now r result s m u q leads ends = record {
  sound = ends.sound;
  makes = λ w setting seen.
      makes_on w r t mid after (is_answered result) s m u (leads.makes w r setting)
      (ends.makes w (record { site = setting.site ∙ sym leads.site; may = λ node is. setting.may node (subst (λ (f : List ℕ). Rattle.cod_seg.specs.Sound.is_frail f node ≡ true) leads.frail is) }) seen);
  exact = λ w known. answered_on w result s m u leads.site leads.stays (ends.exact w known);
  outcome = ends.outcome;
  others = λ k other. ends.others k other ∙ leads.others k other;
  own = λ same. counts_on i s m u leads.own (ends.own (same ∙ sym leads.node));
}

pub drains_on : (i t mid caller number : ℕ) (s m : Seg) (p : Paper) → Leads i t mid s m → IsDraining s i caller number p → IsDraining m i caller number p
drains_on i t mid caller number s m p leads is = record {
  call = is.call ∙ ap (λ (n : ℕ). Some (Drain (record { 0 = n }))) (sym (leads.nodes i));
  links = is.links;
  unanswered = is.unanswered;
  idle = rw leads.claims is.idle;
  calm = leads.rebuild ∙ is.calm;
  newest = rw (leads.numbers caller) is.newest;
}

-- ---- the begin

-- what a drain that is the next step begins with
pub record Begins (s : Seg) (i caller number : ℕ) (p : Paper) : Type 0 where
  pub served : IsServed s i
  pub draining : IsDraining s i caller number (record p { reasons = None })
  pub listed : p.reasons ≡ Some ([], [])
  pub drains : drained s (call_in p) ≡ Some i

pub begins : (s : Seg) (i caller number : ℕ) (node : NodeId) (p : Paper) → Sound s → next_step s caller (call_in p) ≡ step.Drain → IsAsked s caller number p (call_in p) → call_in p ≡ Drain node
    → live_on s.site s.log node.0 ≡ Some i → Begins s i caller number p
begins s i caller number node p sound next asked call found =
    let m = drain_where_live s caller (call_in p) next in
    let same : m.node ≡ node = let e : Drain m.node ≡ Drain node = sym m.asked ∙ call in cc in
    let at : m.col ≡ i = let e : Some m.col ≡ Some i = sym m.found ∙ ap (λ (x : NodeId). live_on s.site s.log x.0) same ∙ found in cc in
    let live : IsLiveOn s.site s.log node.0 i = subst (λ (k : ℕ). IsLiveOn s.site s.log node.0 k) at (subst (λ (x : NodeId). IsLiveOn s.site s.log x.0 m.col) same m.live) in
    let none = unopened s caller number p (call_in p) asked
    (λ j c there e. let update : is_update (Drain node) ≡ true = subst (λ (x : Asked). is_update x ≡ true) (e ∙ call) (sound.claimed.each j c there).update in cc)
    (λ r was e. let wrong : Rebuild ≡ Drain node = sym e ∙ call in cc) in
    let open' = idle s caller sound none in
    let whole : p ≡ prepared s.site.shape (Drain node) = its_paper s caller number p none asked ∙ ap (prepared s.site.shape) call in
    let place : Drain node ≡ drain_of s i = ap (λ (n : ℕ). Drain (record { 0 = n })) (sym live.there) in
    record {
      served = record {
        below = live.column;
        live = (sound.columns.each i live.column).up ∙ ap not live.live;
        few = (moving s caller (call_in p) step.Drain tt tt next).0;
      };
      draining = record {
        call = ap (λ (x : Paper). x.call) whole ∙ ap Some place;
        links = ap (λ (x : Paper). x.links) whole;
        unanswered = ap (λ (x : Paper). x.reply) whole;
        idle = open'.0;
        calm = no_rebuild caller s.rebuild open'.1 m.calm;
        newest = asked.newest;
      };
      listed = ap (λ (x : Paper). x.reasons) whole;
      drains = ap (drained s) call ∙ found;
    } where
      its_paper : (s : Seg) (caller number : ℕ) (p : Paper) → open_in s caller ≡ None → IsAsked s caller number p (call_in p) → p ≡ prepared s.site.shape (call_in p)
      its_paper s caller number p none asked = elim asked.state [
        | inl new ↦ new.1
        | inr begun ↦ (let wrong : ◌≡◌ {A = Option (ℕ × Asked)} None (Some (number, call_in p)) = sym none ∙ begun.0 in cc)
      ]

      no_rebuild : (caller : ℕ) (o : Option Rebuilding) → IsOther caller o → ((r : Rebuilding) → o ≡ Some r → r.caller ≡ caller) → o ≡ None
      no_rebuild caller None other own = refl
      no_rebuild caller (Some r) other own = absurd (other (own r refl))

-- as the code has it
pub begins_at : (s : Seg) (col i caller number : ℕ) (node : NodeId) (p : Paper) (call : Asked) → Sound s → next_step s caller (call_in p) ≡ step.Drain → IsAsked s caller number p (call_in p)
    → p.call ≡ Some call → call ≡ Drain node → live_on s.site s.log node.0 ≡ Some col → i ≡ col → Begins s i caller number p
begins_at s col i caller number node p call sound next asked has drain found same =
    begins s i caller number node p sound next asked (ap (λ (o : Option Asked). unwrap_or o Merge) has ∙ drain) (found ∙ ap Some (sym same))

pub drain_ends : {R : Type 0} (p : Plan) (before now : List (Option Killed)) (reasons : List Reason) (t mid after : ℕ) (result : Outcome) (s m u : Seg) (caller number : ℕ) (old taken new : Paper) (x : Tried R)
    → Sound s → Begins s p.col caller number old → taken ≡ record old { reasons = None } → Tries p now reasons t mid s m x → Keeps before now
    → ((early late : List (Option Killed)) → Keeps early late → MayEnd p late reasons m x → Ends p.col early late (request_of caller number (call_in taken)) mid after result m u new)
    → Ends p.col before now (request_of caller number (call_in old)) t after result s u new
drain_ends p before now reasons t mid after result s m u caller number old taken new x sound begins rest tries keeps ends =
    let both = tries_lead p now reasons t mid s m x sound begins.served tries in
    let all = ends_on p.col t mid after before now (request_of caller number (call_in taken)) result s m u new both.0 (ends before now keeps both.1) in
    let same : call_in taken ≡ call_in old = ap call_in rest in
    subst (λ (call : Asked). Ends p.col before now (request_of caller number call) t after result s u new) same all

pub drain_costs : (s u : Seg) (caller : ℕ) (call : Asked) (i : ℕ) → s.rebuild ≡ None → drained s call ≡ Some i → ((m : ℕ) → m ≢ i → col_at u.cols m ≡ col_at s.cols m)
    → ((col_at u.cols i).room.node ≡ (col_at s.cols i).room.node → (times : ℕ) × Counts (costs times 0) (col_at s.cols i).state.device (col_at u.cols i).state.device)
    → Costs s caller call step.Drain u
drain_costs s u caller call i calm is others own = record {
  columns = λ m lt node. (
    (λ other. let same = others m (λ e. other (is ∙ ap Some (sym e))) in (ap (λ (x : Col). x.state.device.reads) same, ap (λ (x : Col). x.state.device.writes) same)),
    elim (cases_eq m i) [
      | inl at ↦ writes_here m at node
      | inr apart ↦ ap (λ (x : Col). x.state.device.writes) (others m apart)
    ],
  );
  target = rw calm tt;
} where
  writes_here : (m : ℕ) → m ≡ i → (col_at u.cols m).room.node ≡ (col_at s.cols m).room.node → (col_at u.cols m).state.device.writes ≡ (col_at s.cols m).state.device.writes
  writes_here m at node = rw at (own (rw at at node)).1.1
