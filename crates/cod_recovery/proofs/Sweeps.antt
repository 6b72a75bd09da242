-- A sweep.
use Rattle.std.proofs.Common.{◌≡◌, ◌⊎◌, inl, inr, ℕ, ◌+◌, ◌<◌, ◌≤◌, ◌^◌, max, List, [], ◌∷◌, ◌++◌, length, Bool, true, false, Option, Some, None, refl, sym, ap, ◌∙◌, subst, arith}
use Rattle.std.specs.Prelude.{is_some, IsSome, not, slice_set}
use Rattle.std.specs.Option.{option_map}
use Rattle.std.specs.List.{range_with_len}
use Rattle.std.proofs.Math.Seq.{map-set_same}
use Rattle.std.proofs.lemmas.Bool.{cases_lt}
use Rattle.std.proofs.lemmas.List.{append-nil, append_assoc, get_or-set_same, get_or_past, length-set}
use Rattle.cod_types.specs.declared.call.Call.TheVariants.{Merge}
use Rattle.cod_types.specs.declared.call.NodeId.{NodeId}
use Rattle.cod_board.specs.declared.kill.Kill.{Kill}
use Rattle.cod_board.specs.Kills.{Keeps, kill_of}
use Rattle.cod_chronicle.specs.declared.entry.Cause.TheVariants.{Killed}
use Rattle.cod_chronicle.specs.declared.entry.Entry.{Entry}
use Rattle.cod_chronicle.specs.declared.entry.Entry.TheVariants.{Down}
use Rattle.cod_chronicle.specs.Event.{clock_at, Request, Setting}
use Rattle.cod_chronicle.specs.Event as event
use Rattle.cod_chronicle.specs.Said.{clock_of, is_down, next_stamp, node_of, Site}
use Rattle.cod_chronicle.specs.Sweep.{IsCaught, IsPassed, Sweeps}
use Rattle.cod_code.proofs.Rows.{range_more}
use Rattle.cod_place.specs.Room.{Room}
use Rattle.cod_seg.specs.Happens.{IsOwnAim}
use Rattle.cod_seg.specs.Runs.{Runs, Touches}
use Rattle.cod_seg.specs.Seg.{Col, col_at, no_col, Rebuilding, Seg, Target}
use Rattle.cod_seg.specs.Sound.{IsColumn, IsRebuilding, IsSingle, MayRebuild, Sound}
use Rattle.cod_seg.specs.Steps.{Aims, aims, Marks, marks}
use Rattle.cod_seg.proofs.Running.{runs_on, runs_start}
use Rattle.cod_segment.specs.Events.{HasRoom, kills_at, Makes, rebuild_rooms, rooms_of, Swept}
use Rattle.cod_segment.specs.Exact.{SweepsExactly, SweepsRebuild, SweepsTarget}
use Rattle.cod_segment.proofs.Answering.{calm_setting, sound_after}
use Rattle.cod_seg.proofs.Choosing.{none_is, not_true}
use Rattle.cod_recovery.specs.Sweeping.{IsGoalSwept, IsSpared, IsStruck, IsSweeping, IsSwept, IsTargetSwept, Rounds}
use Rattle.cod_recovery.proofs.Losses.{more, nothing_made}

-- ---- what is known of kills

not_false : (b : Bool) → not b ≡ false → b ≡ true
not_false true is = refl
not_false false is = cc

pub keeps_self : (kills : List (Option Kill)) → Keeps kills kills
keeps_self kills node some = refl

pub keeps_on : (a b c : List (Option Kill)) → Keeps a b → Keeps b c → Keeps a c
keeps_on a b c first second node some =
    let one = first node some in
    second node (subst IsSome (sym one) some) ∙ one

was_none : (before now : List (Option Kill)) (node : ℕ) → Keeps before now → kill_of now node ≡ None → kill_of before node ≡ None
was_none before now node keeps none = by (kill_of before node) refl where
  by : (o : Option Kill) → kill_of before node ≡ o → kill_of before node ≡ None
  by None e = e
  by (Some k) e = sym (keeps node (rw e refl)) ∙ none

stays_some : (now later : List (Option Kill)) (node : ℕ) (kill : Kill) → Keeps now later → kill_of now node ≡ Some kill → kill_of later node ≡ Some kill
stays_some now later node kill keeps some = keeps node (rw some refl) ∙ some

-- ---- one column more

sweeps_push : (w : Setting) (h : List Entry) (t : ℕ) (is : List ℕ) (es : List Entry) (mid i : ℕ) (fs : List Entry) (after : ℕ) → Sweeps w h t is es mid
    → Sweeps w (h ++ es) mid (i ∷ []) fs after → Sweeps w h t (is ++ i ∷ []) (es ++ fs) after
sweeps_push w h t [] es mid i fs after done next =
    let none : es ≡ [] = done.0 in
    let clock : mid ≡ t = done.1 in
    subst (λ (l : List Entry). Sweeps w h t (i ∷ []) (l ++ fs) after) (sym none)
    (subst (λ (l : List Entry). Sweeps w l t (i ∷ []) fs after) (append-nil h)
    (subst (λ (l : List Entry). Sweeps w (h ++ l) t (i ∷ []) fs after) none (subst (λ (n : ℕ). Sweeps w (h ++ es) n (i ∷ []) fs after) clock next)))
sweeps_push w h t (j ∷ is) es mid i fs after (inl passed) next = inl (passed.0, sweeps_push w h t is es mid i fs after passed.1 next)
sweeps_push w h t (j ∷ is) es mid i fs after (inr caught) next =
    let mark : Entry = Down caught.0 j caught.2 (Killed caught.1) in
    let are : es ≡ mark ∷ caught.3 = caught.5 in
    let then : Sweeps w ((h ++ mark ∷ []) ++ caught.3) mid (i ∷ []) fs after =
    subst (λ (l : List Entry). Sweeps w l mid (i ∷ []) fs after) (sym (append_assoc h (mark ∷ []) caught.3)) (subst (λ (l : List Entry). Sweeps w (h ++ l) mid (i ∷ []) fs after) are next) in
    inr (
      caught.0,
      caught.1,
      caught.2,
      caught.3 ++ fs,
      caught.4,
      ap (λ (l : List Entry). l ++ fs) are,
      sweeps_push w (h ++ mark ∷ []) caught.0 is caught.3 mid i fs after caught.6 then,
    )

-- the mark of a struck column
abbrev the_strike : (now : List (Option Kill)) (i t after : ℕ) (s u : Seg) → Sound s → i < s.site.shape.n → IsStruck now i t after s u → Marks i s u
the_strike now i t after s u sound below x =
    let is = sound.columns.each i below in
    record {
      column = record (col_at s.cols i) { is_up = false };
      stamp = after;
      cause = Killed x.kill.line;
      was = x.live;
      down = refl;
      keeps = record {
        node = refl;
        owned = refl;
        shape = refl;
        tells = refl;
        never_fails = refl;
        full = is.full;
        fits = λ fits. fits;
        roomy = λ none room. room;
        long = λ low. refl;
        plain = λ low. refl;
        kept = λ high kept. kept;
        exact = λ high live size. size;
      };
      why = tt;
      follows = x.follows;
      becomes = x.becomes;
    }

touched : (before now : List (Option Kill)) (i t after : ℕ) (s u : Seg) → Sound s → i < s.site.shape.n → IsSwept before now i t after s u → Touches i s u
touched before now i t after s u sound below (inl x) = inl x.same
touched before now i t after s u sound below (inr x) = inr (inr (the_strike now i t after s u sound below x))

rooms_swept : (before now : List (Option Kill)) (i t after : ℕ) (s u : Seg) → IsSwept before now i t after s u → rooms_of u ≡ rooms_of s
rooms_swept before now i t after s u (inl x) = ap rooms_of x.same
rooms_swept before now i t after s u (inr x) =
    ap rooms_of x.becomes
    ∙ ap (λ (rooms : List Room). rebuild_rooms s.rebuild ++ rooms) (map-set_same (λ (c : Col). c.room) s.cols i (record (col_at s.cols i) { is_up = false }) no_col refl)

-- the kill that is seen
killed_by : (w : Setting) (later : List (Option Kill)) (node : ℕ) (kill : Kill) → ((x : ℕ) → w.seen x ≡ kills_at later x) → kill_of later node ≡ Some kill
    → w.seen node ≡ Some (record { line = kill.line; clock = kill.clock })
killed_by w later node kill seen is = seen node ∙ ap (option_map (λ (k : Kill). record { line = k.line; clock = k.clock })) is

passed : (w : Setting) (before now : List (Option Kill)) (i t after : ℕ) (s u v : Seg) → Sound u → i < u.site.shape.n → w.site ≡ u.site → Keeps before now
    → ((x : ℕ) → w.known x ≡ kills_at before x) → IsSpared now i t after u v → IsPassed w u.log i
passed w before now i t after s u v sound below at keeps known x = by x.why where
  is : IsColumn u.site u.frail u.pools u.log i (col_at u.cols i)
  is = sound.columns.each i below

  there : node_of w.site u.log i ≡ (col_at u.cols i).room.node.0
  there = ap (λ (q : Site). node_of q u.log i) at ∙ sym is.there

  by : ((col_at u.cols i).is_up ≡ false) ⊎ (kill_of now (col_at u.cols i).room.node.0 ≡ None) → IsPassed w u.log i
  by (inl down) = inl (not_false (is_down u.log i) (sym is.up ∙ down))
  by (inr none) = inr (ap w.known there ∙ known (col_at u.cols i).room.node.0
      ∙ ap (option_map (λ (k : Kill). record { line = k.line; clock = k.clock })) (was_none before now (col_at u.cols i).room.node.0 keeps none))

caught : (w : Setting) (later : List (Option Kill)) (next : List (Option Kill)) (i t after : ℕ) (u v : Seg) → Sound u → i < u.site.shape.n → w.site ≡ u.site → Keeps next later
    → ((x : ℕ) → w.seen x ≡ kills_at later x) → (x : IsStruck next i t after u v) → IsCaught w u.log t i after (col_at u.cols i).room.node x.kill.line
caught w later next i t after u v sound below at keeps seen x =
    let is = sound.columns.each i below in
    let node = (col_at u.cols i).room.node.0 in
    let kill = killed_by w later node x.kill seen (stays_some next later node x.kill keeps x.seen) in
    record {
      live = not_true (is_down u.log i) (sym is.up ∙ x.live);
      there = is.there ∙ ap (λ (q : Site). node_of q u.log i) (sym at);
      seen = (record { line = x.kill.line; clock = x.kill.clock }, kill, refl);
      stamp_is = x.clock ∙ sym (ap (λ (o : Option event.NodeKill). next_stamp (clock_of u.log) (max t (clock_at o))) kill);
    }

-- what was made of the columns before, and then of this one
round_on : (w : Setting) (r : Request) (before now next later : List (Option Kill)) (m t mid after : ℕ) (s u v : Seg) → Sound u → m < u.site.shape.n → w.site ≡ u.site
    → Keeps before now → Keeps next later → ((x : ℕ) → w.known x ≡ kills_at before x) → ((x : ℕ) → w.seen x ≡ kills_at later x)
    → Rounds w r m t mid s u → IsSwept now next m mid after u v → Rounds w r (m + 1) t after s v
round_on w r before now next later m t mid after s u v sound below at keeps stays known seen done (inl x) = record {
  makes = subst (λ (z : Seg). Makes w r t after false s z) (sym x.same) (subst (λ (n : ℕ). Makes w r t n false s u) (sym x.clock) done.makes);
  marks = done.marks;
  grown = ap (λ (z : Seg). z.log) x.same ∙ done.grown;
  sweeps =
      let pass : IsPassed w (s.log ++ done.marks) m = subst (λ (h : List Entry). IsPassed w h m) done.grown (passed w before now m mid after s u v sound below at keeps known x) in
      let one = sweeps_push w s.log t (range_with_len 0 m) done.marks mid m [] after done.sweeps (inl (pass, (refl, x.clock))) in
      subst (λ (l : List ℕ). Sweeps w s.log t l done.marks after) (sym (range_more m)) (subst (λ (l : List Entry). Sweeps w s.log t (range_with_len 0 m ++ m ∷ []) l after) (append-nil done.marks) one);
}
round_on w r before now next later m t mid after s u v sound below at keeps stays known seen done (inr x) =
    let node = (col_at u.cols m).room.node in
    let mark : Entry = Down after m node (Killed x.kill.line) in
    let catch = caught w later next m mid after u v sound below at stays seen x in
    let here : IsCaught w (s.log ++ done.marks) mid m after node x.kill.line = subst (λ (h : List Entry). IsCaught w h mid m after node x.kill.line) done.grown catch in
    let one = sweeps_push w s.log t (range_with_len 0 m) done.marks mid m (mark ∷ []) after done.sweeps
    (inr (after, x.kill.line, node, [], here, refl, (refl, refl))) in
    record {
      makes = more w r t mid after false s u v done.makes (marks m below (the_strike next m mid after u v sound below x))
          (catch.seen, record { stamp_is = catch.stamp_is; clock = refl; goes_on = refl });
      marks = done.marks ++ mark ∷ [];
      grown = ap (λ (z : Seg). z.log) x.becomes ∙ ap (λ (h : List Entry). h ++ mark ∷ []) done.grown ∙ append_assoc s.log done.marks (mark ∷ []);
      sweeps = subst (λ (l : List ℕ). Sweeps w s.log t l (done.marks ++ mark ∷ []) after) (sym (range_more m)) one;
    }

pub sweeping_starts : (before : List (Option Kill)) (t : ℕ) (s : Seg) → Sound s → IsSweeping before before 0 t t s s
sweeping_starts before t s sound = record {
  runs = runs_start 0 s sound;
  rooms = refl;
  size = refl;
  keeps = keeps_self before;
  rounds = λ later w r keeps setting known seen. record { makes = nothing_made w r t s s refl; marks = []; grown = sym (append-nil s.log); sweeps = (refl, refl) };
}

pub sweeping_on : (before now next : List (Option Kill)) (m t mid after : ℕ) (s u v : Seg) → m < s.site.shape.n → length next ≡ length now → Keeps now next
    → IsSweeping before now m t mid s u → IsSwept now next m mid after u v → IsSweeping before next (m + 1) t after s v
sweeping_on before now next m t mid after s u v below size keeps done swept =
    let here : m < u.site.shape.n = subst (λ (q : Site). m < q.shape.n) (sym done.runs.site) below in
    record {
      runs = runs_on 0 m m s u v (omega arith) below done.runs (touched now next m mid after u v done.runs.sound here swept);
      rooms = rooms_swept now next m mid after u v swept ∙ done.rooms;
      size = size ∙ done.size;
      keeps = keeps_on before now next done.keeps keeps;
      rounds = λ later w r stays setting known seen.
          round_on w r before now next later m t mid after s u v done.runs.sound here (setting.site ∙ sym done.runs.site) done.keeps stays known seen
          (done.rounds later w r (keeps_on now next later keeps stays) setting known seen) swept;
    }

-- ---- what a call for the next column asks

-- its column is one of them, on a node of the board, and the chronicle has room
pub asks_column : (before now : List (Option Kill)) (m t after : ℕ) (s u : Seg) → Sound s → length before ≡ s.site.nodes → m < s.site.shape.n → HasRoom 0 s
    → IsSweeping before now m t after s u → (m < length u.cols) × ((col_at u.cols m).room.node.0 < length now) × (length u.log + 1 < 2 ^ 63)
asks_column before now m t after s u sound nodes below room done =
    let here : m < u.site.shape.n = subst (λ (q : Site). m < q.shape.n) (sym done.runs.site) below in
    let size = done.runs.sound.columns.size in
    let there = (done.runs.sound.columns.each m here).there in
    let known = done.runs.sound.columns.known m here in
    let same = ap (λ (q : Site). q.nodes) done.runs.site in
    let long = done.size in
    let log = done.runs.log in
    (omega (arith, here, size), omega (arith, there, known, same, long, nodes), omega (arith, log, room, below))

-- ---- the target

kill_after : (kills : List (Option Kill)) (node : ℕ) → kill_of (slice_set kills node None) node ≡ None
kill_after kills node = by (cases_lt node (length kills)) where
  by : (node < length kills) ⊎ (length kills ≤ node) → kill_of (slice_set kills node None) node ≡ None
  by (inl below) = get_or-set_same kills node None None below
  by (inr past) = let long = length-set kills node None in get_or_past (slice_set kills node None) node None (omega (arith, long, past))

none_known : (o result : Option Kill) → result ≡ None → (IsSome o → result ≡ o) → o ≡ None
none_known None result none known = refl
none_known (Some k) result none known = sym (known refl) ∙ none

pub target_spared : (before now : List (Option Kill)) (node : NodeId) (result : Option Kill) (o : Option Rebuilding) (r : Rebuilding) → o ≡ Some r
    → option_map (λ (t : Target). t.room.node) r.target ≡ Some node → is_some result ≡ false → (IsSome (kill_of before node.0) → result ≡ kill_of before node.0)
    → now ≡ slice_set before node.0 result → IsTargetSwept before now o (Some r)
target_spared before now node result o r was at none known learned = rw was (r.target, refl, by r.target at) where
  gone : result ≡ None
  gone = none_is result none

  by : (g : Option Target) → option_map (λ (t : Target). t.room.node) g ≡ Some node → IsGoalSwept before now g g
  by None e = refl
  by (Some t) e =
      let same : t.room.node ≡ node = cc in
      let old : kill_of before node.0 ≡ None = none_known (kill_of before node.0) result gone known in
      let new : kill_of now node.0 ≡ None = ap (λ (l : List (Option Kill)). kill_of l node.0) (learned ∙ ap (slice_set before node.0) gone) ∙ kill_after before node.0 in
      inl (refl, ap (λ (n : NodeId). kill_of before n.0) same ∙ old, ap (λ (n : NodeId). kill_of now n.0) same ∙ new)

-- ---- the whole sweep

-- the target is let go
lets_go : (v : Seg) (q : Rebuilding) → Sound v → v.rebuild ≡ Some q → Aims v (record v { rebuild = Some (record q { target = None }) })
lets_go v q sound was =
    let is : IsRebuilding v.site v.frail v.pools v.log q = subst (MayRebuild v.site v.frail v.pools v.log) was sound.rebuilt in
    record {
      goal = record { column = is.column; down = is.down; honest = is.honest; goal = tt };
      idle = subst (IsSingle v.claims) was sound.single;
      same = λ x y old now.
          let e : Some q ≡ Some x = sym was ∙ old in
          let first : q ≡ x = cc in
          let second : record q { target = None } ≡ y = cc in
          record {
            caller = sym (ap (λ (z : Rebuilding). z.caller) second) ∙ ap (λ (z : Rebuilding). z.caller) first;
            number = sym (ap (λ (z : Rebuilding). z.number) second) ∙ ap (λ (z : Rebuilding). z.number) first;
            col = sym (ap (λ (z : Rebuilding). z.col) second) ∙ ap (λ (z : Rebuilding). z.col) first;
          };
      nothing = λ x t now goal.
          let second : record q { target = None } ≡ x = cc in
          let wrong : None ≡ Some t = ap (λ (z : Rebuilding). z.target) second ∙ goal in
          absurd (let no_way : ⊥ = cc in no_way);
      becomes = refl;
    }

-- a rebuild in progress is the same, or its target is let go
kept_or_dropped : (before now : List (Option Kill)) (old new : Option Rebuilding) → IsTargetSwept before now old new
    → (new ≡ old) ⊎ ((q : Rebuilding) × (old ≡ Some q) × (new ≡ Some (record q { target = None })))
kept_or_dropped before now None new is = inl is
kept_or_dropped before now (Some q) new is = by q.target refl is.2 where
  alike : (o : Option Target) → q.target ≡ o → is.0 ≡ o → new ≡ Some q
  alike o e f = is.1 ∙ ap (λ (x : Option Target). Some (record q { target = x })) (f ∙ sym e)

  by : (o : Option Target) → q.target ≡ o → IsGoalSwept before now o is.0 → (new ≡ Some q) ⊎ ((p : Rebuilding) × (Some q ≡ Some p) × (new ≡ Some (record p { target = None })))
  by None e f = inl (alike None e f)
  by (Some t) e (inl stays) = inl (alike (Some t) e stays.0)
  by (Some t) e (inr goes) = inr (q, refl, is.1 ∙ ap (λ (x : Option Target). Some (record q { target = x })) goes.0)

aims_on : (r : Request) (o new : Option Rebuilding) (q p : Rebuilding) → o ≡ Some q → new ≡ Some p → IsOwnAim r o new
aims_on r o new q p is now = rw (is, now) tt

pub target_made : (w : Setting) (r : Request) (t after : ℕ) (s v : Seg) (left : Option Rebuilding) (before now : List (Option Kill)) → Sound v → Makes w r t after false s v
    → IsTargetSwept before now v.rebuild left → Makes w r t after false s (record v { rebuild = left })
target_made w r t after s v left before now sound made swept = by (kept_or_dropped before now v.rebuild left swept) where
  by : (left ≡ v.rebuild) ⊎ ((q : Rebuilding) × (v.rebuild ≡ Some q) × (left ≡ Some (record q { target = None }))) → Makes w r t after false s (record v { rebuild = left })
  by (inl same) = subst (λ (o : Option Rebuilding). Makes w r t after false s (record v { rebuild = o })) (sym same) made
  by (inr drop) = subst (λ (o : Option Rebuilding). Makes w r t after false s (record v { rebuild = o })) (sym drop.2)
      (more w r t after after false s v (record v { rebuild = Some (record drop.0 { target = None }) }) made (aims (lets_go v drop.0 sound drop.1))
      (aims_on r v.rebuild (Some (record drop.0 { target = None })) drop.0 (record drop.0 { target = None }) drop.1 refl, record { clock = refl; goes_on = refl }))

-- so the rebuild is swept
pub rebuild_swept : (w : Setting) (first mid last : List (Option Kill)) (old new : Option Rebuilding) → Keeps first mid → ((x : ℕ) → w.known x ≡ kills_at first x)
    → ((x : ℕ) → w.seen x ≡ kills_at last x) → IsTargetSwept mid last old new → SweepsRebuild w old new
rebuild_swept w first mid last None new keeps known seen is = is
rebuild_swept w first mid last (Some q) new keeps known seen is = (is.0, is.1, by q.target is.2) where
  shown : (o : Option Kill) → IsSome o → IsSome {T = event.NodeKill} (option_map (λ (k : Kill). record { line = k.line; clock = k.clock }) o)
  shown None some = some
  shown (Some k) some = refl

  by : (o : Option Target) → IsGoalSwept mid last o is.0 → SweepsTarget w o is.0
  by None f = f
  by (Some t) (inl stays) = inl (
    stays.0,
    known t.room.node.0 ∙ ap (option_map (λ (k : Kill). record { line = k.line; clock = k.clock })) (was_none first mid t.room.node.0 keeps stays.1),
  )
  by (Some t) (inr goes) = inr (goes.0, subst IsSome (sym (seen t.room.node.0)) (shown (kill_of last t.room.node.0) goes.1))

-- x is another name of what was made of the columns
pub swept_is_sound : (x v : Seg) (left : Option Rebuilding) (before now : List (Option Kill)) → x ≡ v → Sound v → IsTargetSwept before now x.rebuild left → Sound (record x { rebuild = left })
swept_is_sound x v left before now same sound swept =
    let here : Sound x = subst Sound (sym same) sound in
    let w = calm_setting x in
    let r : Request = record { caller = 0; number = 0; call = Merge } in
    sound_after w r 0 0 false x (record x { rebuild = left }) here (target_made w r 0 0 x x left before now here (nothing_made w r 0 x x refl) swept)

pub all_swept : (w : Setting) (r : Request) (t after : ℕ) (s x v : Seg) (left : Option Rebuilding) (first mid last : List (Option Kill)) → x ≡ v
    → Runs 0 s.site.shape.n s v → Rounds w r s.site.shape.n t after s v → Keeps first mid → ((y : ℕ) → w.known y ≡ kills_at first y) → ((y : ℕ) → w.seen y ≡ kills_at last y)
    → IsTargetSwept mid last x.rebuild left
    → Makes w r t after false s (record x { rebuild = left }) × Swept w s t after (record x { rebuild = left }) × SweepsExactly w s (record x { rebuild = left })
all_swept w r t after s x v left first mid last same runs rounds keeps known seen swept = (
  target_made w r t after s x left mid last (subst Sound (sym same) runs.sound) (subst (λ (z : Seg). Makes w r t after false s z) (sym same) rounds.makes) swept,
  record { marks = rounds.marks; grown = ap (λ (z : Seg). z.log) same ∙ rounds.grown; sweeps = rounds.sweeps },
  record {
    claims = ap (λ (z : Seg). z.claims) same ∙ runs.claims;
    rebuild = subst (λ (o : Option Rebuilding). SweepsRebuild w o left) (ap (λ (z : Seg). z.rebuild) same ∙ runs.rebuild)
        (rebuild_swept w first mid last x.rebuild left keeps known seen swept);
  },
)
