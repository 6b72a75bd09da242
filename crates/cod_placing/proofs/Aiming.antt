-- The steps of a rebuild that is aimed, or ends in vain.
use Rattle.std.proofs.Common.{◌≡◌, ◌≢◌, ℕ, ◌<◌, Bool, true, false, cond, List, [], ◌∷◌, ◌++◌, length, map, All, Option, Some, None, refl, sym, ap, ◌∙◌, subst, inl, arith}
use Rattle.std.proofs.lemmas.Bool.{eq-eqb}
use Rattle.cod_types.specs.Columns.{column_size}
use Rattle.cod_types.specs.declared.call.Call.{Call as Asked}
use Rattle.cod_types.specs.declared.call.Call.TheVariants.{Rebuild}
use Rattle.cod_types.specs.declared.call.Caller.{Caller}
use Rattle.cod_types.specs.declared.call.Reply.{Reply}
use Rattle.cod_types.specs.declared.reasons.Reason.{Reason}
use Rattle.cod_region.specs.Device.{Device}
use Rattle.cod_chronicle.specs.declared.entry.Entry.TheVariants.{Call}
use Rattle.cod_chronicle.specs.Event.{IsSeenReply, Kills, Setting}
use Rattle.cod_chronicle.specs.Legal.{Arrival, IsAnswer, IsRebuild}
use Rattle.cod_chronicle.specs.Said.{bytes_next, bytes_of, clock_of, downs, is_over, next_stamp, numbers_by, StampFollows}
use Rattle.cod_chronicle.proofs.Answering.{answer_served}
use Rattle.cod_chronicle.proofs.Legality.{ends_settled}
use Rattle.cod_board.specs.declared.kill.Kill.{Kill as Killed}
use Rattle.cod_board.specs.Kills.{Keeps}
use Rattle.cod_place.specs.Room.{Room}
use Rattle.cod_claims.specs.Claimed.{HasNone, open_call}
use Rattle.cod_claims.specs.Slips.{Paper}
use Rattle.cod_seg.specs.Calls.{nothing}
use Rattle.cod_seg.specs.Happens.{IsOwnAim}
use Rattle.cod_seg.specs.Next.{open_in}
use Rattle.cod_seg.specs.Seg.{Col, col_at, Rebuilding, Seg, Target}
use Rattle.cod_seg.specs.Sound.{is_frail, IsTarget, Sound}
use Rattle.cod_seg.specs.Steps.{Aims, aims, Answers, answers, goes, stays}
use Rattle.cod_seg.specs.declared.next.Step.TheVariants as step
use Rattle.cod_seg.proofs.Happening.{nothing as nothing_open}
use Rattle.cod_seg.proofs.Targets.{aims_keep}
use Rattle.cod_segment.specs.Events.{Costs, Counts, CountsRebuild, IsOutcome, IsSettingOf, kills_at, Makes, rebuild_rooms, request_of, rooms_of}
use Rattle.cod_segment.specs.Exact.{Aimed, Stays}
use Rattle.cod_segment.specs.Looks.{HasLooked, IsLooked}
use Rattle.cod_segment.proofs.Looking.{looked_some}
use Rattle.cod_segment.specs.declared.asking.Outcome.TheVariants.{Answered}
use Rattle.cod_placing.specs.declared.placing.Missing.{Missing}
use Rattle.cod_placing.specs.declared.placing.Missing.TheVariants.{Memory, Spare}
use Rattle.cod_placing.specs.Places.{HasNoSpare, IsFresh}
use Rattle.cod_placing.specs.Starts.{vain}
use Rattle.cod_placing.proofs.Choices.{IsChosen}
use Rattle.cod_placing.proofs.Finding.{unknown}

-- ---- the states between

abbrev pub with_rebuild : Seg → Option Rebuilding → Seg
with_rebuild s o = record s { rebuild = o }

abbrev pub aimed_at : Rebuilding → Target → Rebuilding
aimed_at r t = record r { target = Some t }

-- A place says nothing of the rebuild in progress, nor does the lack of one.
fresh_as : (s : Seg) (o : Option Rebuilding) (bytes : ℕ) (broken : List (Option ℕ)) (kills : List (Option Killed)) (t : Target) → IsFresh (with_rebuild s o) bytes broken kills t → IsFresh s bytes broken kills t
fresh_as s o bytes broken kills t is = record {
  alone = is.alone;
  known = is.known;
  owned = is.owned;
  room = is.room;
  fresh = is.fresh;
  size = is.size;
  tells = is.tells;
  full = is.full;
  zeros = is.zeros;
  unread = is.unread;
  unwritten = is.unwritten;
  clean = is.clean;
  sure = is.sure;
  whole = is.whole;
  up = is.up;
}

-- such a place may be the target
target_is : (s : Seg) (col : ℕ) (broken : List (Option ℕ)) (kills : List (Option Killed)) (t : Target) → IsFresh s (column_size s.site.shape col) broken kills t
    → IsTarget s.site s.frail s.pools s.log col t
target_is s col broken kills t is = record {
  alone = is.alone;
  known = is.known;
  owned = is.owned;
  tells = is.tells;
  full = is.full;
  clean = is.clean;
  sure = is.sure;
  fits = let a = is.room in let b = is.size in omega (arith, a, b);
  roomy = λ none. is.room ∙ sym is.size;
  size = is.size;
  within = let z = is.fresh in omega (arith, z);
}

-- ---- a target

aims_at : (s : Seg) (caller number : ℕ) (r : Rebuilding) (t : Target) (broken : List (Option ℕ)) (kills : List (Option Killed)) → HasNone caller s.claims → IsChosen s caller number s.rebuild r
    → IsFresh s (column_size s.site.shape r.col) broken kills t → Aims s (with_rebuild s (Some (aimed_at r t)))
aims_at s caller number r t broken kills idle chosen place = record {
  goal = record { column = chosen.is.column; down = chosen.is.down; honest = chosen.is.honest; goal = target_is s r.col broken kills t place };
  idle = subst (λ (n : ℕ). HasNone n s.claims) (sym chosen.mine) idle;
  same = λ p q was is.
      let old : r ≡ p = chosen.same p was in
      let new : aimed_at r t ≡ q = cc in
      record {
        caller = sym (ap (λ (x : Rebuilding). x.caller) new) ∙ ap (λ (x : Rebuilding). x.caller) old;
        number = sym (ap (λ (x : Rebuilding). x.number) new) ∙ ap (λ (x : Rebuilding). x.number) old;
        col = sym (ap (λ (x : Rebuilding). x.col) new) ∙ ap (λ (x : Rebuilding). x.col) old;
      };
  nothing = λ q u is goal.
      let new : aimed_at r t ≡ q = cc in
      let same : Some t ≡ Some u = ap (λ (x : Rebuilding). x.target) new ∙ goal in
      let one : t ≡ u = cc in
      sym (ap (λ (x : Target). x.filled) one) ∙ place.fresh;
  becomes = refl;
}

own_aim : (s : Seg) (caller number : ℕ) (call : Asked) (o : Option Rebuilding) (r : Rebuilding) (t : Target) → IsChosen s caller number s.rebuild r → IsOwnAim (request_of caller number call) o (Some (aimed_at r t))
own_aim s caller number call None r t chosen = (chosen.mine, chosen.numbered)
own_aim s caller number call (Some p) r t chosen = tt

pub makes_aim : (w : Setting) (s u : Seg) (caller number clock : ℕ) (call : Asked) (r : Rebuilding) (t : Target) (broken : List (Option ℕ)) (kills : List (Option Killed)) → HasNone caller s.claims
    → IsChosen s caller number s.rebuild r → IsFresh s (column_size s.site.shape r.col) broken kills t → u ≡ with_rebuild s (Some (aimed_at r t))
    → Makes w (request_of caller number call) clock clock false s u
makes_aim w s u caller number clock call r t broken kills idle chosen place becomes =
    subst (λ (x : Seg). Makes w (request_of caller number call) clock clock false s x) (sym becomes) (record {
      steps = goes s s (with_rebuild s (Some (aimed_at r t))) (stays s) (aims (aims_at s caller number r t broken kills idle chosen place));
      happened = (
        clock,
        record { clock = refl; goes_on = refl },
        (own_aim s caller number call s.rebuild r t chosen, record { clock = refl; goes_on = refl }),
      );
    })

pub exact_aim : (known : Kills) (s u : Seg) (caller number : ℕ) (r : Rebuilding) (t : Target) (before kills : List (Option Killed)) → IsChosen s caller number s.rebuild r
    → IsFresh s (column_size s.site.shape r.col) r.broken kills t → ((x : ℕ) → known x ≡ kills_at before x) → Keeps before kills → u ≡ with_rebuild s (Some (aimed_at r t)) → Aimed known s u
exact_aim known s u caller number r t before kills chosen place knows keeps becomes = record {
  r = aimed_at r t;
  t = t;
  goal = refl;
  fresh = place.fresh;
  broken = chosen.broken;
  whole = place.whole;
  alive = knows t.room.node.0 ∙ unknown before kills t.room.node.0 keeps place.up;
  becomes = becomes;
}

pub opens_aim : (s u : Seg) (caller number : ℕ) (r : Rebuilding) (t : Target) → IsChosen s caller number s.rebuild r → u ≡ with_rebuild s (Some (aimed_at r t)) → open_in u caller ≡ Some (number, Rebuild)
opens_aim s u caller number r t chosen becomes =
    ap (λ (x : Seg). open_in x caller) becomes ∙ ap (λ (b : Bool). cond b (Some (r.number, Rebuild)) (open_call caller s.claims)) (eq-eqb r.caller caller chosen.mine)
    ∙ ap (λ (n : ℕ). Some (n, Rebuild)) chosen.numbered

-- ---- an end in vain

abbrev pub ended : Seg → Caller → (number stamp : ℕ) → Asked → Reply → Seg
ended s caller number stamp call reply = record s { rebuild = None; log = s.log ++ Call caller number stamp call reply ∷ [] }

quiet : (b : List ℕ) (caller : Caller) (number stamp : ℕ) (missing : Missing) (reasons : List Reason) → bytes_next b (Call caller number stamp Rebuild (vain missing reasons)) ≡ b
quiet b caller number stamp Spare reasons = refl
quiet b caller number stamp Memory reasons = refl

seen : (w : Setting) (s : Seg) (c : ℕ) (kills : List (Option Killed)) (missing : Missing) (reasons : List Reason) → IsSettingOf w s → ((x : ℕ) → w.seen x ≡ kills_at kills x)
    → (missing ≡ Spare → HasNoSpare s c kills reasons) → IsSeenReply w.seen w.may (vain missing reasons)
seen w s c kills Spare reasons setting known none = (none refl).seen w setting known
seen w s c kills Memory reasons setting known none = tt

answer_is : (s : Seg) (caller number : ℕ) (r : Rebuilding) (kills : List (Option Killed)) (missing : Missing) (reasons : List Reason) → Sound s → is_over s.site s.log ≡ false → downs s.site s.log ≢ []
    → IsChosen s caller number s.rebuild r → (missing ≡ Spare → HasNoSpare s r.col kills reasons) → IsAnswer s.site s.log Rebuild (vain missing reasons)
answer_is s caller number r kills missing reasons sound few some chosen none =
    let settled = (ends_settled s.site s.log sound.history.legal).0 in
    answer_served s.site s.log Rebuild (vain missing reasons) refl few (subst (λ (o : Option Arrival). IsRebuild s.site s.log o (vain missing reasons)) (sym settled) (by missing none)) where
      by : (m : Missing) → (m ≡ Spare → HasNoSpare s r.col kills reasons) → IsRebuild s.site s.log None (vain m reasons)
      by Spare n = (r.col, chosen.is.down, (n refl).reasons)
      by Memory n = some

own_end : (s : Seg) (caller number : ℕ) (call : Asked) (o : Option Rebuilding) (r : Rebuilding) → s.rebuild ≡ o → IsChosen s caller number s.rebuild r → IsOwnAim (request_of caller number call) o None
own_end s caller number call None r was chosen = tt
own_end s caller number call (Some p) r was chosen = sym (ap (λ (x : Rebuilding). x.caller) (chosen.same p was)) ∙ chosen.mine

pub makes_end : (w : Setting) (s u : Seg) (caller : Caller) (number stamp t : ℕ) (r : Rebuilding) (kills : List (Option Killed)) (missing : Missing) (reasons : List Reason) → Sound s → IsSettingOf w s
    → ((x : ℕ) → w.seen x ≡ kills_at kills x) → HasNone caller.0 s.claims → is_over s.site s.log ≡ false → downs s.site s.log ≢ [] → All (λ m. m < number) (numbers_by caller.0 s.log)
    → IsChosen s caller.0 number s.rebuild r → (missing ≡ Spare → HasNoSpare s r.col kills reasons) → stamp ≡ next_stamp (clock_of s.log) t → StampFollows s.log stamp
    → u ≡ ended s caller number stamp Rebuild (vain missing reasons) → Makes w (request_of caller.0 number Rebuild) t stamp true s u
makes_end w s u caller number stamp t r kills missing reasons sound setting known idle few some newest chosen none next follows becomes =
    let m : Seg = with_rebuild s None in
    let v : Seg = ended s caller number stamp Rebuild (vain missing reasons) in
    let aim : Aims s m = record { goal = tt; idle = tt; same = λ p q was is. absurd (let no_way : ⊥ = cc in no_way); nothing = λ q x is goal. absurd (let no_way : ⊥ = cc in no_way); becomes = refl } in
    let answer : Answers m v = record {
      caller = caller;
      number = number;
      stamp = stamp;
      call = Rebuild;
      reply = vain missing reasons;
      follows = follows;
      newest = newest;
      idle = idle;
      answer = answer_is s caller.0 number r kills missing reasons sound few some chosen none;
      quiet = λ told. quiet (bytes_of s.site s.log) caller number stamp missing reasons;
      plain = λ bytes. rw (quiet (bytes_of s.site s.log) caller number stamp missing reasons) bytes;
      dated = inl refl;
      becomes = refl;
    } in
    subst (λ (x : Seg). Makes w (request_of caller.0 number Rebuild) t stamp true s x) (sym becomes) (record {
      steps = goes s m v (goes s s m (stays s) (aims aim)) (answers answer);
      happened = (
        t,
        (t, record { clock = refl; goes_on = refl }, (own_end s caller.0 number Rebuild s.rebuild r refl chosen, record { clock = refl; goes_on = refl })),
        record {
          caller_is = refl;
          number_is = refl;
          call_is = refl;
          seen = seen w s r.col kills missing reasons setting known none;
          stamp_is = next;
          clock = refl;
          ends = refl;
          alone = tt;
        },
      );
    })

-- a setting in which these nodes are killed
abbrev pub killed_setting : Seg → List (Option Killed) → Setting
killed_setting s kills = record { site = s.site; known = λ x. None; seen = kills_at kills; may = is_frail s.frail }

pub killed_setting_is : (s : Seg) (kills : List (Option Killed)) → IsSettingOf (killed_setting s kills) s
killed_setting_is s kills = record { site = refl; may = λ node frail. frail }

pub exact_end : (s u : Seg) (caller : Caller) (number stamp : ℕ) (call : Asked) (reply : Reply) → u ≡ ended s caller number stamp call reply → Stays s u
exact_end s u caller number stamp call reply becomes =
    record { entries = Call caller number stamp call reply ∷ []; grown = ap (λ (x : Seg). x.log) becomes; staying = (tt, tt) }

pub outcome_end : (s u : Seg) (caller : Caller) (number stamp position : ℕ) (call : Asked) (reply : Reply) (p : Paper) → HasNone caller.0 s.claims → position ≡ length s.log
    → u ≡ ended s caller number stamp call reply → p.reply ≡ Some reply → IsOutcome (Answered position stamp) (request_of caller.0 number call) stamp u p
outcome_end s u caller number stamp position call reply p idle at becomes told = (
  ap (λ (x : Seg). open_in x caller.0) becomes ∙ nothing_open caller.0 s.claims None idle tt,
  refl,
  (s.log, Call caller number stamp call reply, ap (λ (x : Seg). x.log) becomes, at, rw told refl),
)

-- what the reply tells of free bytes was seen
pub vain_looked : (Seen : ℕ → ℕ → Type 0) (missing : Missing) (reasons : List Reason) (reply : Option Reply) → reply ≡ Some (vain missing reasons)
    → (missing ≡ Spare → All (λ (r : Reason). IsLooked Seen r.node.0 r.why) reasons) → HasLooked Seen reply
vain_looked Seen Spare reasons reply is seen = looked_some Seen reply (vain Spare reasons) is (seen refl)
vain_looked Seen Memory reasons reply is seen = looked_some Seen reply (vain Memory reasons) is tt

-- ---- the segment with its rebuild, in which the place was looked for

pub fresh_in : (s m : Seg) (o : Option Rebuilding) (bytes : ℕ) (broken : List (Option ℕ)) (kills : List (Option Killed)) (t : Target) → m ≡ with_rebuild s o → IsFresh m bytes broken kills t
    → IsFresh s bytes broken kills t
fresh_in s m o bytes broken kills t becomes is = fresh_as s o bytes broken kills t (subst (λ (x : Seg). IsFresh x bytes broken kills t) becomes is)

pub spare_in : (s m : Seg) (o : Option Rebuilding) (c : ℕ) (kills : List (Option Killed)) (reasons : List Reason) → m ≡ with_rebuild s o → HasNoSpare m c kills reasons → HasNoSpare s c kills reasons
spare_in s m o c kills reasons becomes is =
    let there : HasNoSpare (with_rebuild s o) c kills reasons = subst (λ (x : Seg). HasNoSpare x c kills reasons) becomes is in
    record { reasons = there.reasons; seen = λ w setting known. there.seen w (record { site = setting.site; may = setting.may }) known }

-- it is sound, with a rebuild that has no target yet
pub chosen_sound : (s m : Seg) (caller number : ℕ) (r : Rebuilding) → Sound s → HasNone caller s.claims → IsChosen s caller number s.rebuild r → m ≡ with_rebuild s (Some r) → Sound m
chosen_sound s m caller number r sound idle chosen becomes = subst Sound (sym becomes) (aims_keep s (with_rebuild s (Some r)) sound (record {
  goal = chosen.is;
  idle = subst (λ (n : ℕ). HasNone n s.claims) (sym chosen.mine) idle;
  same = λ p q was is.
      let old : r ≡ p = chosen.same p was in
      let new : r ≡ q = cc in
      let one : q ≡ p = sym new ∙ old in
      record { caller = ap (λ (x : Rebuilding). x.caller) one; number = ap (λ (x : Rebuilding). x.number) one; col = ap (λ (x : Rebuilding). x.col) one };
  nothing = λ q t is goal.
      let new : r ≡ q = cc in
      let wrong : None ≡ Some t = sym chosen.bare ∙ (ap (λ (x : Rebuilding). x.target) new ∙ goal) in
      absurd (let no_way : ⊥ = cc in no_way);
  becomes = refl;
}))

pub aimed_is : (s m u : Seg) (r : Rebuilding) (t : Target) → m ≡ with_rebuild s (Some r) → ((q : Rebuilding) → m.rebuild ≡ Some q → u ≡ with_rebuild m (Some (aimed_at q t)))
    → u ≡ with_rebuild s (Some (aimed_at r t))
aimed_is s m u r t becomes then = then r (ap (λ (x : Seg). x.rebuild) becomes) ∙ ap (λ (x : Seg). with_rebuild x (Some (aimed_at r t))) becomes

pub record IsEnded (s u : Seg) (caller : Caller) (number stamp t : ℕ) (reply : Reply) : Type 0 where
  pub becomes : u ≡ ended s caller number stamp Rebuild reply
  pub next : stamp ≡ next_stamp (clock_of s.log) t
  pub follows : StampFollows s.log stamp

pub ended_is : (s m u : Seg) (r : Rebuilding) (caller : Caller) (number stamp t : ℕ) (call : Asked) (reply : Reply) → m ≡ with_rebuild s (Some r) → call ≡ Rebuild
    → u ≡ ended m caller number stamp call reply → stamp ≡ next_stamp (clock_of m.log) t → StampFollows m.log stamp → IsEnded s u caller number stamp t reply
ended_is s m u r caller number stamp t call reply becomes asked then next follows = record {
  becomes = then ∙ (λ i. ended (becomes i) caller number stamp (asked i) reply);
  next = next ∙ ap (λ (x : Seg). next_stamp (clock_of x.log) t) becomes;
  follows = subst (λ (x : Seg). StampFollows x.log stamp) becomes follows;
}

-- ---- beside

costs_none : (s : Seg) (call : Asked) (d : Device) (up : Bool) → Counts (cond up nothing nothing) d d
costs_none s call d true = (refl, refl)
costs_none s call d false = (refl, refl)

counts_none : (s : Seg) (caller : ℕ) (o n : Option Rebuilding) → ((r : Rebuilding) → o ≡ Some r → r.target ≡ None) → CountsRebuild s caller step.RebuildStart o n
counts_none s caller None n bare = tt
counts_none s caller (Some r) None bare = tt
counts_none s caller (Some r) (Some q) bare = λ t goal. absurd (let wrong : None ≡ Some t = sym (bare r refl) ∙ goal in let no_way : ⊥ = cc in no_way)

-- no device call is made
pub costs_nothing : (s u : Seg) (caller : ℕ) (call : Asked) → u.cols ≡ s.cols → ((r : Rebuilding) → s.rebuild ≡ Some r → r.target ≡ None) → Costs s caller call step.RebuildStart u
costs_nothing s u caller call same bare = record {
  columns = λ i lt at. rw same (costs_none s call (col_at s.cols i).state.device (col_at s.cols i).is_up);
  target = counts_none s caller s.rebuild u.rebuild bare;
}

-- no target has a room
pub rooms_bare : (s : Seg) → ((r : Rebuilding) → s.rebuild ≡ Some r → r.target ≡ None) → rooms_of s ≡ map (λ (c : Col). c.room) s.cols
rooms_bare s bare = ap (λ (xs : List Room). xs ++ map (λ (c : Col). c.room) s.cols) (by s.rebuild bare) where
  by : (o : Option Rebuilding) → ((r : Rebuilding) → o ≡ Some r → r.target ≡ None) → rebuild_rooms o ≡ []
  by None b = refl
  by (Some r) b = rw (b r refl) refl
