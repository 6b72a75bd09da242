-- A put whose call is answered.
use Rattle.std.proofs.Common.{◌≡◌, inl, inr, ℕ, zero, suc, ◌+◌, ◌<◌, ◌≤◌, ◌++◌, ◌∷◌, [], List, length, slice_set, length-set, All, Bool, true, false, cond, Option, Some, None, refl, sym, ap, ◌∙◌, subst, arith}
use Rattle.std.proofs.Common.{get_or-set_other, get_or-set_same}
use Rattle.std.specs.Prelude.{not, slice_index_or, ◌-◌, ◌==◌}
use Rattle.std.specs.List.{filter, range_with_len}
use Rattle.std.proofs.lemmas.Bool.{both_ways, cases_Bool, cases_eq, cases_lt, eqb-true, le-ltb, ltb-false}
use Rattle.std.proofs.lemmas.List.{get_or_past}
use Rattle.atomic_table.specs.Seated.{TableId}
use Rattle.cod_types.specs.Limits.{segment_length, Shape}
use Rattle.cod_types.specs.Plain.{refusal}
use Rattle.cod_types.specs.declared.call.Call.{Call as Asked}
use Rattle.cod_types.specs.declared.call.Call.TheVariants.{Put, Rebuild}
use Rattle.cod_types.specs.declared.call.Caller.{Caller}
use Rattle.cod_types.specs.declared.call.NodeId.{NodeId}
use Rattle.cod_types.specs.declared.call.Reply.TheVariants.{Done, Long, Lost}
use Rattle.cod_code.specs.Codewords.{AreBytes}
use Rattle.cod_chronicle.specs.declared.entry.Entry.{Entry}
use Rattle.cod_chronicle.specs.declared.entry.Entry.TheVariants.{Call}
use Rattle.cod_chronicle.specs.Event.{Request, Setting}
use Rattle.cod_chronicle.specs.Said.{clock_of, downs, is_down, is_over, next_stamp, numbers_by, Site, StampFollows}
use Rattle.cod_chronicle.proofs.Answering.{answer_lost}
use Rattle.cod_claims.specs.Claimed.{claim_at, HasNone}
use Rattle.cod_claims.specs.declared.claim.Claim.{Claim}
use Rattle.cod_claims.specs.Slips.{Paper}
use Rattle.cod_place.specs.Room.{Room}
use Rattle.cod_repair.specs.Columns.{live_node}
use Rattle.cod_seg.specs.Choices.{IsToPut}
use Rattle.cod_seg.specs.Happens.{IsOwnAim}
use Rattle.cod_seg.specs.Next.{next_step, open_in}
use Rattle.cod_seg.specs.Runs.{Runs}
use Rattle.cod_seg.specs.Seg.{Col, col_at, Rebuilding, Seg, Target}
use Rattle.cod_seg.specs.Sound.{AreBroken, HasTarget, is_frail, IsOther, IsRebuilding, IsSingle, is_update, MayRebuild, Sound}
use Rattle.cod_seg.specs.Steps.{Aims, aims, MaySpoil, Puts, puts, PutsColumn, PutsRebuild, Spoils, spoils, SpoilsRebuild}
use Rattle.cod_seg.specs.declared.next.Step.TheVariants as step
use Rattle.cod_seg.proofs.Beginnings.{put_where_vacant}
use Rattle.cod_seg.proofs.Happening.{nothing as nothing_open}
use Rattle.cod_segment.specs.Events.{Costs, CountsRebuild, IsAsked, IsSettingOf, Makes, NoneFails, rebuild_rooms, request_of, rooms_of}
use Rattle.cod_segment.proofs.Answering.{answered, idle, unopened}
use Rattle.cod_step.specs.Scenes.{AreLive}
use Rattle.cod_rounds.specs.Rounds.{BreaksOn, Given, GivesGoal, rooms_in}
use Rattle.cod_rounds.proofs.Passing.{and_then, none_made, one_step}

-- ---- the call

pub to_put : (s : Seg) (caller : ℕ) (call : Asked) → Sound s → next_step s caller call ≡ step.Put → IsToPut s caller call
to_put s caller call sound next = put_where_vacant s caller call sound next

-- it has as many bytes as the segment
pub put_long : (g : Shape) (bytes : List ℕ) → refusal g (Put bytes) ≡ None → length bytes ≡ segment_length g
put_long g bytes free = by (length bytes == segment_length g) refl free where
  by : (b : Bool) → (length bytes == segment_length g) ≡ b → cond b None (Some Long) ≡ None → length bytes ≡ segment_length g
  by true e f = eqb-true (length bytes) (segment_length g) e
  by false e f = cc

-- its caller has nothing open
pub put_idle : (s : Seg) (caller number : ℕ) (p : Paper) (call : Asked) → next_step s caller call ≡ step.Put → Sound s → IsAsked s caller number p call → open_in s caller ≡ None
put_idle s caller number p call next sound asked =
    let is = to_put s caller call sound next in
    unopened s caller number p call asked
    (λ j c there e. let update : is_update (Put is.bytes) ≡ true = subst (λ (x : Asked). is_update x ≡ true) (e ∙ is.asked) (sound.claimed.each j c there).update in cc)
    (λ r was e. let wrong : Rebuild ≡ Put is.bytes = sym e ∙ is.asked in cc)

-- ---- which columns are live

pub given_live : (bytes : List ℕ) (s : Seg) (t : ℕ) (u : Seg) (mid : ℕ) (live : List (Option NodeId)) (given : Given bytes s.site.shape.n s t u mid)
    → ((i : ℕ) → slice_index_or live i None ≡ live_node (col_at u.cols i)) → AreLive live given.marked.cols
given_live bytes s t u mid live given each i = elim (cases_lt i s.site.shape.n) [
  | inl lt ↦
      (let put = given.each i lt in
      each i ∙ (λ k. cond (put.live k) (Some (put.keeps.node k)) None))
  | inr high ↦ each i ∙ ap live_node (given.rest i high)
]

-- what is told of the live columns is true of the segment with its marks alone
pub given_over : (bytes : List ℕ) (s : Seg) (t : ℕ) (u : Seg) (mid : ℕ) (v : Seg) (live : List (Option NodeId)) (lost : Bool) → v ≡ u → (given : Given bytes s.site.shape.n s t u mid)
    → ((i : ℕ) → slice_index_or live i None ≡ live_node (col_at v.cols i))
    → ((m : Seg) → Sound m → v.site.shape ≡ m.site.shape → AreLive live m.cols → lost ≡ is_over m.site m.log) → lost ≡ is_over given.marked.site given.marked.log
given_over bytes s t u mid v live lost is given each tells =
    tells given.marked given.runs.sound (ap (λ (x : Seg). x.site.shape) is ∙ ap (λ (x : Seg). x.site.shape) given.becomes)
    (given_live bytes s t u mid live given (λ i. each i ∙ ap (λ (x : Seg). live_node (col_at x.cols i)) is))

-- ---- it is lost

same_target : (frail : List ℕ) (site : Site) (col : ℕ) (pools : Option TableId) (log : List Entry) (o : Option Target) → HasTarget site frail pools log col o → MaySpoil o o
same_target frail site col pools log None is = refl
same_target frail site col pools log (Some t) is = (t, refl, record { tells = refl; full = is.full; size = refl; faults = refl; never_fails = refl; same = refl })

same_goal : (m : Seg) (o : Option Rebuilding) → MayRebuild m.site m.frail m.pools m.log o → SpoilsRebuild o o
same_goal m None is = refl
same_goal m (Some r) is = (r.target, refl, same_target m.frail m.site r.col m.pools m.log r.target is.goal)

-- what was written is any bytes from now on
spoiled : (bytes : List ℕ) (n : ℕ) (m : Seg) (cs : List Col) → m.site.shape.n ≤ n → Sound m → is_over m.site m.log ≡ true → length cs ≡ length m.cols
    → ((i : ℕ) → i < n → PutsColumn m.site.shape m.frail i bytes m.cuts (col_at m.cols i) (col_at cs i)) → Spoils m (record m { cols = cs })
spoiled bytes n m cs few sound over size each = record {
  over = over;
  size = size;
  keeps = λ i lt. (each i (omega (arith, lt, few))).keeps;
  live = λ i lt. (each i (omega (arith, lt, few))).live;
  faults = λ i lt. (each i (omega (arith, lt, few))).faults;
  target = same_goal m m.rebuild sound.rebuilt;
  becomes = refl;
}

-- what the caller has and the numbers of its calls, by the round
pub record Stands (s m : Seg) (caller number : ℕ) : Type 0 where
  pub idle : HasNone caller m.claims
  pub alone : IsOther caller m.rebuild
  pub newest : All (λ x. x < number) (numbers_by caller m.log)

pub stands : (bytes : List ℕ) (n : ℕ) (s m : Seg) (caller number : ℕ) (p : Paper) (call : Asked) → Sound s → IsAsked s caller number p call → next_step s caller call ≡ step.Put → Runs 0 n s m
    → Stands s m caller number
stands bytes n s m caller number p call sound asked next runs =
    let calm = idle s caller sound (put_idle s caller number p call next sound asked) in
    record {
      idle = subst (HasNone caller) (sym runs.claims) calm.0;
      alone = subst (IsOther caller) (sym runs.rebuild) calm.1;
      newest = subst (All (λ x. x < number)) (sym (runs.numbers caller)) asked.newest;
    }

pub makes_lost : (w : Setting) (bytes : List ℕ) (s u v : Seg) (caller : Caller) (number stamp t mid : ℕ) (p : Paper) (call : Asked) → Sound s → IsAsked s caller.0 number p call
    → next_step s caller.0 call ≡ step.Put → IsSettingOf w s → (given : Given bytes s.site.shape.n s t u mid) → is_over given.marked.site given.marked.log ≡ true
    → stamp ≡ next_stamp (clock_of u.log) mid → StampFollows u.log stamp → v ≡ record u { log = u.log ++ Call caller number stamp call Lost ∷ [] }
    → Makes w (request_of caller.0 number call) t stamp true s v
makes_lost w bytes s u v caller number stamp t mid p call sound asked next setting given over stamped follows becomes =
    let m = given.marked in
    let runs = given.runs in
    let r = request_of caller.0 number call in
    let u' : Seg = record m { cols = u.cols } in
    let st = stands bytes s.site.shape.n s m caller.0 number p call sound asked next runs in
    let few : m.site.shape.n ≤ s.site.shape.n = let e = ap (λ (x : Site). x.shape.n) runs.site in omega (arith, e) in
    let log : u.log ≡ m.log = ap (λ (x : Seg). x.log) given.becomes in
    let spoil : Makes w r mid mid false m u' = one_step w r mid mid false m u' (spoils (spoiled bytes s.site.shape.n m u.cols few runs.sound over given.size given.each))
    (record { clock = refl; goes_on = refl }) in
    let free : refusal m.site.shape call ≡ None = subst (λ (x : Site). refusal x.shape call ≡ None) (sym runs.site) (to_put s caller.0 call sound next).free in
    let answer = answered w u' v caller number stamp mid m.version call Lost st.idle st.alone st.newest (answer_lost m.site m.log call free over) refl (inl refl) tt
    (subst (λ (l : List Entry). stamp ≡ next_stamp (clock_of l) mid) log stamped) (subst (λ (l : List Entry). StampFollows l stamp) log follows)
    (becomes ∙ ap (λ (x : Seg). record x { log = x.log ++ Call caller number stamp call Lost ∷ [] }) given.becomes) in
    and_then w r t mid stamp true s m v (given.makes w r setting) (and_then w r mid mid stamp true m u' v spoil answer)

-- ---- it is done

-- the nodes that broke, and one more
broke : (frail : List ℕ) (broken : List (Option ℕ)) (node count : ℕ) → AreBroken frail broken → 1 ≤ count → is_frail frail node ≡ true → AreBroken frail (slice_set broken node (Some count))
broke frail broken node count honest some may x c at = elim (cases_eq x node) [
  | inl here ↦ elim (cases_lt node (length broken)) [
    | inl small ↦
        (let now : slice_index_or (slice_set broken node (Some count)) x None ≡ Some count = rw here (get_or-set_same broken node (Some count) None small) in
        let same : count ≡ c = (let e : Some count ≡ Some c = sym now ∙ at in cc) in
        (subst (λ (n : ℕ). 1 ≤ n) same some, rw here may))
    | inr past ↦
        (let none : slice_index_or (slice_set broken node (Some count)) x None ≡ None = get_or_past (slice_set broken node (Some count)) x None
        (let l = length-set broken node (Some count) in omega (arith, l, here, past)) in
        let wrong : None ≡ Some c = sym none ∙ at in absurd (let no_way : ⊥ = cc in no_way))
  ]
  | inr other ↦ honest x c (sym (get_or-set_other broken node x (Some count) None other) ∙ at)
]

-- A target that broke is let go, before all bytes are replaced.
let_go : (m : Seg) (r q : Rebuilding) → Sound m → m.rebuild ≡ Some r → BreaksOn r q → Aims m (record m { rebuild = Some q })
let_go m r q sound was br =
    let is : IsRebuilding m.site m.frail m.pools m.log r = subst (MayRebuild m.site m.frail m.pools m.log) was sound.rebuilt in
    let goal = subst (HasTarget m.site m.frail m.pools m.log r.col) br.goal is.goal in
    let frail : is_frail m.frail br.t.room.node.0 ≡ true = elim (cases_Bool (is_frail m.frail br.t.room.node.0)) [
      | inl yes' ↦ yes'
      | inr sure ↦ absurd (br.fails (goal.sure sure))
    ] in
    let single : IsSingle m.claims (Some r) = subst (IsSingle m.claims) was sound.single in
    let none : q.target ≡ None = ap (λ (x : Rebuilding). x.target) br.becomes in
    record {
      goal = rw br.becomes (record { column = is.column; down = is.down; honest = broke m.frail r.broken br.t.room.node.0 br.count is.honest br.some frail; goal = tt });
      idle = rw br.becomes single;
      same = λ o p first second.
          let old : r ≡ o = (let e : Some r ≡ Some o = sym was ∙ first in cc) in
          let new : q ≡ p = (let e : Some q ≡ Some p = second in cc) in
          record {
            caller = ap (λ (x : Rebuilding). x.caller) (sym new ∙ br.becomes) ∙ ap (λ (x : Rebuilding). x.caller) old;
            number = ap (λ (x : Rebuilding). x.number) (sym new ∙ br.becomes) ∙ ap (λ (x : Rebuilding). x.number) old;
            col = ap (λ (x : Rebuilding). x.col) (sym new ∙ br.becomes) ∙ ap (λ (x : Rebuilding). x.col) old;
          };
      nothing = λ p t second goal.
          let new : q ≡ p = (let e : Some q ≡ Some p = second in cc) in
          let wrong : None ≡ Some t = sym none ∙ ap (λ (x : Rebuilding). x.target) new ∙ goal in
          absurd (let no_way : ⊥ = cc in no_way);
      becomes = refl;
    }

-- The rebuild before the put: its target was let go where it broke.
pub record Readied (bytes : List ℕ) (m : Seg) (mid : ℕ) (q : Option Rebuilding) : Type 0 where
  pub before : Option Rebuilding
  pub makes : (w : Setting) (r : Request) → Makes w r mid mid false m (record m { rebuild = before })
  pub puts : PutsRebuild m.site.shape bytes before q
  pub others : (who : ℕ) → IsOther who m.rebuild → IsOther who q

readied_by : (bytes : List ℕ) (m : Seg) (mid : ℕ) (o q : Option Rebuilding) → Sound m → m.rebuild ≡ o → GivesGoal m.site.shape bytes o q → Readied bytes m mid q
readied_by bytes m mid None q sound was is = record {
  before = None;
  makes = λ w r. rw (← was) (none_made w r mid m);
  puts = is;
  others = λ who other. rw is tt;
}
readied_by bytes m mid (Some r) q sound was (x, now, inl on) = record {
  before = Some r;
  makes = λ w req. rw (← was) (none_made w req mid m);
  puts = (on.target, now ∙ ap (λ (y : Rebuilding). Some y) on.becomes, on.puts);
  others = λ who other. rw (now, on.becomes) (subst (IsOther who) was other);
}
readied_by bytes m mid (Some r) q sound was (x, now, inr br) = record {
  before = Some x;
  makes = λ w req. one_step w req mid mid false m (record m { rebuild = Some x }) (aims (let_go m r x sound was br))
      (subst (λ (o : Option Rebuilding). IsOwnAim req o (Some x)) (sym was) tt, record { clock = refl; goes_on = refl });
  puts = (x.target, now, rw br.becomes refl);
  others = λ who other. rw (now, br.becomes) (subst (IsOther who) was other);
}

pub readied : (bytes : List ℕ) (m : Seg) (mid : ℕ) (q : Option Rebuilding) → Sound m → GivesGoal m.site.shape bytes m.rebuild q → Readied bytes m mid q
readied bytes m mid q sound is = readied_by bytes m mid m.rebuild q sound refl is

pub makes_done : (w : Setting) (bytes : List ℕ) (s u x v : Seg) (caller : Caller) (number stamp t mid : ℕ) (p : Paper) (call : Asked) → Sound s → IsAsked s caller.0 number p call
    → next_step s caller.0 call ≡ step.Put → IsSettingOf w s → call ≡ Put bytes → AreBytes bytes → (given : Given bytes s.site.shape.n s t u mid)
    → is_over given.marked.site given.marked.log ≡ false → x ≡ record u { rebuild = x.rebuild } → GivesGoal u.site.shape bytes u.rebuild x.rebuild
    → stamp ≡ next_stamp (clock_of x.log) mid → StampFollows x.log stamp → v ≡ record x { log = x.log ++ Call caller number stamp call Done ∷ [] }
    → Makes w (request_of caller.0 number call) t stamp true s v
makes_done w bytes s u x v caller number stamp t mid p call sound asked next setting is plain given enough goal gives stamped follows becomes =
    let m = given.marked in
    let runs = given.runs in
    let r = request_of caller.0 number call in
    let st = stands bytes s.site.shape.n s m caller.0 number p call sound asked next runs in
    let few : m.site.shape.n ≤ s.site.shape.n = let e = ap (λ (y : Site). y.shape.n) runs.site in omega (arith, e) in
    let vacant = (to_put s caller.0 call sound next).vacant (subst (HasNone caller.0) runs.claims st.idle) in
    let free : refusal m.site.shape (Put bytes) ≡ None = subst (λ (y : Site). refusal y.shape (Put bytes) ≡ None) (sym runs.site)
    (subst (λ (y : Asked). refusal s.site.shape y ≡ None) is (to_put s caller.0 call sound next).free) in
    let ready = readied bytes m mid x.rebuild runs.sound (subst (λ (y : Seg). GivesGoal y.site.shape bytes y.rebuild x.rebuild) given.becomes gives) in
    let b : Seg = record m { rebuild = ready.before } in
    let all : x ≡ record m { cols = u.cols; rebuild = x.rebuild } = goal ∙ ap (λ (y : Seg). record y { rebuild = x.rebuild }) given.becomes in
    let log : x.log ≡ m.log = ap (λ (y : Seg). y.log) all in
    let v' : Seg = record m { cols = u.cols; rebuild = x.rebuild; log = m.log ++ Call caller number stamp (Put bytes) Done ∷ [] } in
    let last : v ≡ v' = becomes ∙ ap (λ (y : Seg). record y { log = y.log ++ Call caller number stamp call Done ∷ [] }) all
    ∙ ap (λ (c : Asked). record m { cols = u.cols; rebuild = x.rebuild; log = m.log ++ Call caller number stamp c Done ∷ [] }) is in
    let put : Puts b v' = record {
      caller = caller;
      number = number;
      stamp = stamp;
      bytes = bytes;
      long = put_long m.site.shape bytes free;
      plain = plain;
      few = enough;
      vacant = λ j. subst (λ (c : List (Option Claim)). claim_at c j ≡ None) (sym runs.claims) (vacant j);
      newest = st.newest;
      follows = subst (λ (l : List Entry). StampFollows l stamp) log follows;
      size = given.size;
      each = λ i lt. given.each i (omega (arith, lt, few));
      target = ready.puts;
      becomes = refl;
    } in
    let made : Makes w r mid stamp true b v' = one_step w r mid stamp true b v' (puts put) (record {
      caller_is = refl;
      number_is = refl;
      call_is = sym is;
      seen = tt;
      stamp_is = subst (λ (l : List Entry). stamp ≡ next_stamp (clock_of l) mid) log stamped;
      clock = refl;
      ends = refl;
      alone = ready.others caller.0 st.alone;
    }) in
    subst (Makes w r t stamp true s) (sym last)
    (and_then w r t mid stamp true s m v' (given.makes w r setting) (and_then w r mid mid stamp true m b v' (ready.makes w r) made))

-- ---- what the caller has open then

pub given_newest : (bytes : List ℕ) (n : ℕ) (s : Seg) (t : ℕ) (u : Seg) (mid caller number : ℕ) → Given bytes n s t u mid → All (λ x. x < number) (numbers_by caller s.log)
    → All (λ x. x < number) (numbers_by caller u.log)
given_newest bytes n s t u mid caller number given newest =
    subst (All (λ x. x < number)) (sym (ap (λ (x : Seg). numbers_by caller x.log) given.becomes ∙ given.runs.numbers caller)) newest

pub goal_newest : (u x : Seg) (caller number : ℕ) → x ≡ record u { rebuild = x.rebuild } → All (λ y. y < number) (numbers_by caller u.log) → All (λ y. y < number) (numbers_by caller x.log)
goal_newest u x caller number is newest = subst (All (λ y. y < number)) (sym (ap (λ (y : Seg). numbers_by caller y.log) is)) newest

pub given_open : (bytes : List ℕ) (s u : Seg) (caller number t mid : ℕ) (p : Paper) (call : Asked) → Sound s → IsAsked s caller number p call → next_step s caller call ≡ step.Put
    → Given bytes s.site.shape.n s t u mid → open_in u caller ≡ None
given_open bytes s u caller number t mid p call sound asked next given =
    let st = stands bytes s.site.shape.n s given.marked caller number p call sound asked next given.runs in
    ap (λ (x : Seg). open_in x caller) given.becomes ∙ nothing_open caller given.marked.claims given.marked.rebuild st.idle st.alone

pub goal_open : (bytes : List ℕ) (s u x : Seg) (caller number t mid : ℕ) (p : Paper) (call : Asked) → Sound s → IsAsked s caller number p call → next_step s caller call ≡ step.Put
    → Given bytes s.site.shape.n s t u mid → x ≡ record u { rebuild = x.rebuild } → GivesGoal u.site.shape bytes u.rebuild x.rebuild → open_in x caller ≡ None
goal_open bytes s u x caller number t mid p call sound asked next given goal gives =
    let m = given.marked in
    let st = stands bytes s.site.shape.n s m caller number p call sound asked next given.runs in
    let ready = readied bytes m mid x.rebuild given.runs.sound (subst (λ (y : Seg). GivesGoal y.site.shape bytes y.rebuild x.rebuild) given.becomes gives) in
    ap (λ (y : Seg). open_in y caller) (goal ∙ ap (λ (y : Seg). record y { rebuild = x.rebuild }) given.becomes)
    ∙ nothing_open caller m.claims x.rebuild st.idle (ready.others caller st.alone)

-- ---- rooms

pub given_rooms : (bytes : List ℕ) (n : ℕ) (s : Seg) (t : ℕ) (u : Seg) (mid : ℕ) → Given bytes n s t u mid → rooms_of u ≡ rooms_of s
given_rooms bytes n s t u mid given =
    let rebuild : u.rebuild ≡ s.rebuild = ap (λ (x : Seg). x.rebuild) given.becomes ∙ given.runs.rebuild in
    ap (λ (o : Option Rebuilding). rebuild_rooms o ++ rooms_in u.cols) rebuild ∙ ap (λ (l : List Room). rebuild_rooms s.rebuild ++ l) given.rooms

-- ---- its device calls

-- where each column that is down was down before, no more are
fewer : (p q : ℕ → Bool) (a n : ℕ) → ((i : ℕ) → i < a + n → p i ≡ true → q i ≡ true) → length (filter p (range_with_len a n)) ≤ length (filter q (range_with_len a n))
fewer p q a zero so = omega arith
fewer p q a (suc n) so =
    let rest = fewer p q (a + 1) n (λ i lt is. so i (omega (arith, lt)) is) in
    by (p a) (q a) refl (so a (omega arith)) rest where
      by : (x y : Bool) → p a ≡ x → (x ≡ true → y ≡ true) → length (filter p (range_with_len (a + 1) n)) ≤ length (filter q (range_with_len (a + 1) n))
          → length (cond x (a ∷ filter p (range_with_len (a + 1) n)) (filter p (range_with_len (a + 1) n))) ≤ length (cond y (a ∷ filter q (range_with_len (a + 1) n)) (filter q (range_with_len (a + 1) n)))
      by true true e f rest = omega (arith, rest)
      by true false e f rest = absurd (both_ways false refl (f refl))
      by false true e f rest = omega (arith, rest)
      by false false e f rest = rest

none_over : (s m : Seg) → Sound s → Sound m → m.site ≡ s.site → ((i : ℕ) → i < s.site.shape.n → (col_at s.cols i).is_up ≡ true → (col_at m.cols i).is_up ≡ true)
    → is_over s.site s.log ≡ false → is_over m.site m.log ≡ false
none_over s m sound later site stay few =
    let down : (i : ℕ) → i < s.site.shape.n → is_down m.log i ≡ true → is_down s.log i ≡ true = λ i lt is. elim (cases_Bool (is_down s.log i)) [
      | inl was ↦ was
      | inr up ↦
          (let now = stay i lt ((sound.columns.each i lt).up ∙ ap not up) in
          let gone = (later.columns.each i (subst (λ (x : Site). i < x.shape.n) (sym site) lt)).up ∙ ap not is in
          absurd (both_ways (col_at m.cols i).is_up gone now))
    ] in
    let less = fewer (is_down m.log) (is_down s.log) 0 s.site.shape.n (λ i lt is. down i (omega (arith, lt)) is) in
    let most = ltb-false (s.site.shape.n - s.site.shape.k) (length (downs s.site s.log)) few in
    subst (λ (x : Site). is_over x m.log ≡ false) (sym site) (le-ltb (s.site.shape.n - s.site.shape.k) (length (downs s.site m.log)) (omega (arith, less, most)))

goal_counts : (s : Seg) (caller : ℕ) (bytes : List ℕ) (o q : Option Rebuilding) → GivesGoal s.site.shape bytes o q → CountsRebuild s caller step.Put o q
goal_counts s caller bytes None q is = tt
goal_counts s caller bytes (Some r) q (x, now, inl on) = rw (now, on.becomes) (λ t goal. on.counts t goal)
goal_counts s caller bytes (Some r) q (x, now, inr br) = rw (now, br.becomes) (λ t goal. rw goal tt)

-- where no column fails, a put isn't lost
pub none_lost : (bytes : List ℕ) (s u v : Seg) (t mid : ℕ) → Sound s → is_over s.site s.log ≡ false → (given : Given bytes s.site.shape.n s t u mid) → (log : List Entry) → v ≡ record u { log = log } → NoneFails s v
    → is_over given.marked.site given.marked.log ≡ false
none_lost bytes s u v t mid sound few given log becomes none =
    let cols = ap (λ (x : Seg). x.cols) becomes in
    none_over s given.marked sound given.runs.sound given.runs.site
    (λ i lt up. sym (given.each i lt).live ∙ subst (λ (c : List Col). (col_at c i).is_up ≡ true) cols (none i lt up)) few

pub costs_put : (bytes : List ℕ) (s u x v : Seg) (caller : ℕ) (call : Asked) (t mid : ℕ) → Given bytes s.site.shape.n s t u mid → x ≡ record u { rebuild = x.rebuild }
    → GivesGoal u.site.shape bytes u.rebuild x.rebuild → (log : List Entry) → v ≡ record x { log = log } → NoneFails s v → Costs s caller call step.Put v
costs_put bytes s u x v caller call t mid given goal gives log becomes none =
    let cols : v.cols ≡ u.cols = ap (λ (y : Seg). y.cols) becomes ∙ ap (λ (y : Seg). y.cols) goal in
    let site : u.site ≡ s.site = ap (λ (y : Seg). y.site) given.becomes ∙ given.runs.site in
    let rebuild : u.rebuild ≡ s.rebuild = ap (λ (y : Seg). y.rebuild) given.becomes ∙ given.runs.rebuild in
    record {
      columns = λ i lt node.
          let counts = given.counts i lt (λ up. subst (λ (c : List Col). (col_at c i).is_up ≡ true) cols (none i lt up)) in
          rw cols counts;
      target = subst (CountsRebuild s caller step.Put s.rebuild) (sym (ap (λ (y : Seg). y.rebuild) becomes))
          (goal_counts s caller bytes s.rebuild x.rebuild (subst (λ (o : Option Rebuilding). GivesGoal s.site.shape bytes o x.rebuild) rebuild
          (subst (λ (y : Site). GivesGoal y.shape bytes u.rebuild x.rebuild) site gives)));
    }
