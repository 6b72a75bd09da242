-- A replay that was just built.
use Rattle.std.proofs.Common.{◌≡◌, ◌⊎◌, inl, inr, ℕ, zero, suc, ◌+◌, ◌<◌, ◌≤◌, Bool, true, false, cond, List, [], ◌∷◌, length, map, get_or, replicate, Option, None, refl, sym, ap, ◌∙◌, subst, arith}
use Rattle.std.specs.Prelude.{◌==◌, ◌||◌, All, filter, not}
use Rattle.std.specs.List.{list_any, range_with_len}
use Rattle.std.specs.Option.{option_map}
use Rattle.std.proofs.Math.Path.{fun_ext}
use Rattle.std.proofs.lemmas.Bool.{cases_lt, eqb-true, le-ltb, lt-ltb}
use Rattle.std.proofs.lemmas.List.{get_or-map, get_or-replicate, get_or_at, get_or_default, get_or_past, length-map, length-replicate}
use Rattle.std.proofs.lemmas.List.Elements.{All-append, All-map, All-nil}
use Rattle.cod_region.specs.Device.{AllRegions}
use Rattle.cod_board.specs.declared.kill.Kill.{Kill as Killed}
use Rattle.cod_board.specs.Kills.{kill_of}
use Rattle.cod_chronicle.specs.Event.{NodeKill}
use Rattle.cod_chronicle.specs.Legal.{node_id}
use Rattle.cod_place.specs.Room.{Room}
use Rattle.cod_place.specs.Rooms.{CameFrom, Store}
use Rattle.cod_script.specs.declared.line.Line.{Line}
use Rattle.cod_script.specs.declared.line.What.TheVariants as what
use Rattle.cod_script.specs.Script.{Client, lines_by, nobody as none, Script}
use Rattle.cod_script.specs.Sound.{IsScenario}
use Rattle.cod_seg.specs.Seg.{Col, no_col, Seg}
use Rattle.cod_seg.specs.Sound.{is_frail}
use Rattle.cod_seg.proofs.Starting.{new_is_sound}
use Rattle.cod_segment.specs.Events.{kills_at, rooms_of}
use Rattle.cod_stripe.specs.Building.{frail_below}
use Rattle.cod_turns.specs.Turns.{Course, IsLineAt, start}
use Rattle.cod_advance.specs.Histories.{Moment}
use Rattle.cod_advance.specs.Moments.{IsWholeSlip}
use Rattle.cod_advance.specs.Worlds.{AreSegmentsOf, IsAtFirst, Places, seg_at}
use Rattle.cod_advance.proofs.Lining.{first_is_moment}
use Rattle.cod_advance.proofs.Slipping.{first_has_slips}
use Rattle.cod_advance.proofs.Worldly.{start_is_start}
use Rattle.cod_homes.specs.Building.{all_rooms, AreBuilt, IsBuilt}
use Rattle.cod_replay.specs.Building.{ArePlays, new_play}
use Rattle.cod_replay.specs.Standing.{IsFresh, IsPlay, Stands}
use Rattle.cod_replay.specs.State.{course_of, course_over, fenced, nobody, places_of, play_at, slips_of, State, world_in}
use Rattle.cod_replay.specs.Tasks.{Play, slip_in, task_at, task_of, whole_task}
use Rattle.cod_replay.specs.declared.task.Task.TheVariants.{Done}
use Rattle.cod_homes.proofs.Making.{rooms_are}
use Rattle.cod_replay.proofs.Playing.{line_below, whole_begun}
use Rattle.cod_replay.proofs.Turning.{sure}

-- the state of a replay that was just built
abbrev pub first_state : Script → AllRegions → List (Option Killed) → Store → List Seg → List Play → State
first_state x regions kills pools segs plays =
    record {
      script = x;
      frail = frail_below regions.never_fail x.nodes;
      told = regions.tell;
      kills = kills;
      pools = pools;
      segs = segs;
      plays = plays;
    }

-- ---- clients

task_first : (x : Script) (who i : ℕ) (l : Line) → IsLineAt x who i l → task_at (map (whole_task x.shape) (lines_by x who)) i ≡ whole_task x.shape l
task_first x who i l at =
    get_or-map (whole_task x.shape) (lines_by x who) i l Done (line_below x who i l at)
    ∙ ap (whole_task x.shape) (ap (λ (ls : List Line). get_or ls i l) at.lines ∙ get_or_at at.front l at.rest l i at.place)

new_plays : (x : Script) (who : ℕ) → IsPlay x who (new_play x who)
new_plays x who = record {
  own = refl;
  count = length-map (lines_by x who) (whole_task x.shape);
  within = omega arith;
  number_is = refl;
  here = λ l at. whole_begun x.shape l (task_at (map (whole_task x.shape) (lines_by x who)) 0) (task_first x who 0 l at);
  later = λ i l big at. task_first x who i l at;
}

whole_first : (x : Script) (plays : List Play) → ArePlays x (length x.clients) plays → (who : ℕ) → IsWholeSlip x who 0 (slips_of plays who)
whole_first x plays are who = λ line seg call at. elim (cases_lt who (length x.clients)) [
  | inl there ↦
      let l : Line = record { line = line; what = what.Segment seg call } in
      ap (λ (p : Play). slip_in (task_of p)) (are.each who there) ∙ ap slip_in (task_first x who 0 l at)
  | inr past ↦
      let gone : lines_by x who ≡ [] = ap (λ (c : Client). c.lines) (get_or_past x.clients who none past) in
      let l = ap (λ (ls : List Line). length ls) gone in
      let small = line_below x who 0 (record { line = line; what = what.Segment seg call }) at in
      absurd (omega (arith, l, small))
]

-- ---- the start

none_killed : (kills : List (Option Killed)) (nodes : ℕ) → kills ≡ replicate nodes None → (node : ℕ) → kills_at kills node ≡ None
none_killed kills nodes is node =
    let n : kill_of (replicate nodes None) node ≡ None = by (cases_lt node nodes) in
    ap (λ (ks : List (Option Killed)). kills_at ks node) is ∙ ap (option_map (λ (k : Killed). let q : NodeKill = record { line = k.line; clock = k.clock } in q)) n where
      by : (node < nodes) ⊎ (nodes ≤ node) → kill_of (replicate nodes None) node ≡ None
      by (inl lt) = get_or-replicate nodes node None None lt
      by (inr ge) = get_or_past (replicate nodes None) node None (let l = length-replicate {A = Option Killed} nodes None in omega (arith, l, ge))

pub at_first : (x : Script) (regions : AllRegions) (kills : List (Option Killed)) (pools : Store) (segs : List Seg) (plays : List Play)
    → AreBuilt x regions (length x.segments) segs pools → ArePlays x (length x.clients) plays → kills ≡ replicate x.nodes None → IsAtFirst segs (kills_at kills) (places_of plays)
at_first x regions kills pools segs plays built are up = record {
  new = λ i small. (built.each i (let z = built.size in omega (arith, small, z))).new;
  board_is = none_killed kills x.nodes up;
  next_is = λ c. elim (cases_lt c (length x.clients)) [
    | inl there ↦ ap (λ (p : Play). p.next) (are.each c there)
    | inr past ↦ ap (λ (p : Play). p.next) (get_or_past plays c nobody (let z = are.size in omega (arith, past, z)))
  ];
  clock_is = λ c. elim (cases_lt c (length x.clients)) [
    | inl there ↦ ap (λ (p : Play). p.clock) (are.each c there)
    | inr past ↦ ap (λ (p : Play). p.clock) (get_or_past plays c nobody (let z = are.size in omega (arith, past, z)))
  ];
}

are_segments : (x : Script) (regions : AllRegions) (kills : List (Option Killed)) (pools : Store) (segs : List Seg) (plays : List Play)
    → AreBuilt x regions (length x.segments) segs pools → AreSegmentsOf (course_of (first_state x regions kills pools segs plays)) segs
are_segments x regions kills pools segs plays built = record {
  count = built.size;
  each = λ i small.
      let is = built.each i (let z = built.size in omega (arith, small, z)) in
      record { sound = new_is_sound (seg_at segs i) is.new; site = is.site; may = λ node frail. subst (λ (f : List ℕ). is_frail f node ≡ true) is.frail frail };
}

-- ---- its rooms

all_of : (P : Room → Type 0) (segs : List Seg) → ((i : ℕ) → i < length segs → All P (rooms_of (seg_at segs i))) → All P (all_rooms segs)
all_of P [] each = All-nil P
all_of P (s ∷ ss) each = All-append P (rooms_of s) (all_rooms ss) (each 0 (omega arith)) (all_of P ss (λ i small. each (suc i) (omega (arith, small))))

plain_rooms : (x : Script) (regions : AllRegions) (i : ℕ) (s : Seg) → IsBuilt x regions i s → All (λ (r : Room). r.of ≡ None) (rooms_of s)
plain_rooms x regions i s is =
    subst (λ (l : List Room). All (λ (r : Room). r.of ≡ None) l) (sym (rooms_are x regions i s is))
    (All-map (λ (r : Room). r.of ≡ None) (λ (c : Col). c.room) s.cols (λ k d small.
    let size = is.new.size in
    ap (λ (c : Col). c.room.of) (get_or_default s.cols k d no_col small) ∙ (is.new.each k (omega (arith, small, size))).owned ∙ is.plain))

pub came_all : (x : Script) (regions : AllRegions) (segs : List Seg) (pools : Store) → AreBuilt x regions (length x.segments) segs pools → CameFrom pools (all_rooms segs)
came_all x regions segs pools built = record {
  inside = built.sums.inside;
  plain = all_of (λ (r : Room). r.of ≡ None) segs (λ i small.
      plain_rooms x regions i (seg_at segs i) (built.each i (let z = built.size in omega (arith, small, z))));
  within = λ node there. let w = built.sums.sums node there in omega (arith, w);
}

-- ---- all

-- ---- no turn has been made

first_places : (x : Script) (plays : List Play) → ArePlays x (length x.clients) plays → places_of plays ≡ record { next = λ c. 0; clock = λ c. 0 }
first_places x plays are =
    ap (λ (f : ℕ → ℕ). let p : Places = record { next = f; clock = λ c. (play_at plays c).clock } in p) (fun_ext (λ c. next (cases_lt c (length x.clients))))
    ∙ ap (λ (f : ℕ → ℕ). let p : Places = record { next = λ c. 0; clock = f } in p) (fun_ext (λ c. clock (cases_lt c (length x.clients)))) where
      next : {c : ℕ} → (c < length x.clients) ⊎ (length x.clients ≤ c) → (play_at plays c).next ≡ 0
      next {c} (inl there) = ap (λ (p : Play). p.next) (are.each c there)
      next {c} (inr past) = ap (λ (p : Play). p.next) (get_or_past plays c nobody (let z = are.size in omega (arith, past, z)))

      clock : {c : ℕ} → (c < length x.clients) ⊎ (length x.clients ≤ c) → (play_at plays c).clock ≡ 0
      clock {c} (inl there) = ap (λ (p : Play). p.clock) (are.each c there)
      clock {c} (inr past) = ap (λ (p : Play). p.clock) (get_or_past plays c nobody (let z = are.size in omega (arith, past, z)))

pub first_is_fresh : (x : Script) (regions : AllRegions) (kills : List (Option Killed)) (pools : Store) (segs : List Seg) (plays : List Play)
    → AreBuilt x regions (length x.segments) segs pools → ArePlays x (length x.clients) plays → kills ≡ replicate x.nodes None
    → IsFresh (first_state x regions kills pools segs plays)
first_is_fresh x regions kills pools segs plays built are up = record {
  built = record {
    size = built.size;
    each = λ i small. (let is = built.each i small in record { new = is.new; untouched = is.untouched; site = is.site; plain = is.plain; frail_is = is.frail });
  };
  begins =
      ap (λ (ks : List (Option Killed)). let m : Moment = record { segs = segs; kills = ks; places = places_of plays } in m) up
      ∙ ap (λ (p : Places). let m : Moment = record { segs = segs; kills = replicate x.nodes None; places = p } in m) (first_places x plays are);
}

pub first_stands : (x : Script) (regions : AllRegions) (kills : List (Option Killed)) (pools : Store) (segs : List Seg) (plays : List Play) → IsScenario x
    → AreBuilt x regions (length x.segments) segs pools → ArePlays x (length x.clients) plays → kills ≡ replicate x.nodes None
    → Stands (first_state x regions kills pools segs plays)
first_stands x regions kills pools segs plays scenario built are up =
    let s = first_state x regions kills pools segs plays in
    let first = at_first x regions kills pools segs plays built are up in
    let segments = are_segments x regions kills pools segs plays built in
    record {
      scenario = scenario;
      moment = first_is_moment (course_of s) segs (kills_at kills) (places_of plays) first segments;
      frail = λ i small. (built.each i (let z = built.size in omega (arith, small, z))).frail;
      slips = first_has_slips (course_of s) segs (kills_at kills) (places_of plays) (slips_of plays) scenario first segments (whole_first x plays are);
      count = are.size;
      each = λ who there. subst (IsPlay x who) (sym (are.each who (let z = are.size in omega (arith, there, z)))) (new_plays x who);
      board = ap (λ (ks : List (Option Killed)). length ks) up ∙ length-replicate x.nodes None;
      pools = built.nodes;
      came = came_all x regions segs pools built;
      sums = record { inside = built.sums.inside; sums = λ node there. built.sums.sums node there ∙ built.capacity };
    }

pub first_world : (x : Script) (regions : AllRegions) (kills : List (Option Killed)) (pools : Store) (segs : List Seg) (plays : List Play)
    → AreBuilt x regions (length x.segments) segs pools → ArePlays x (length x.clients) plays → kills ≡ replicate x.nodes None
    → world_in (first_state x regions kills pools segs plays) ≡ start (length x.segments)
first_world x regions kills pools segs plays built are up =
    start_is_start segs (kills_at kills) (places_of plays) (at_first x regions kills pools segs plays built are up) ∙ ap start built.size

-- what is among the numbers that pass passes
passes : (p : ℕ → Bool) (x : ℕ) (ns : List ℕ) → list_any (λ y. y == x) (filter p ns) ≡ true → p x ≡ true
passes p x [] some = cc
passes p x (n ∷ ns) some = by (p n) refl some (passes p x ns) where
  by : (b : Bool) → p n ≡ b → list_any (λ y. y == x) (cond b (n ∷ filter p ns) (filter p ns)) ≡ true → (list_any (λ y. y == x) (filter p ns) ≡ true → p x ≡ true) → p x ≡ true
  by false is some on = on some
  by true is some on = here (n == x) refl some where
    here : (b : Bool) → (n == x) ≡ b → (b || list_any (λ y. y == x) (filter p ns)) ≡ true → p x ≡ true
    here true same some = ap p (sym (eqb-true n x same)) ∙ is
    here false diff some = on some

-- and is one of the numbers
below : (p : ℕ → Bool) (x a n : ℕ) → list_any (λ y. y == x) (filter p (range_with_len a n)) ≡ true → x < a + n
below p x a zero some = cc
below p x a (suc n) some = by (p a) some (λ rest. let lt = below p x (a + 1) n rest in omega (arith, lt)) where
  by : (b : Bool) → list_any (λ y. y == x) (cond b (a ∷ filter p (range_with_len (a + 1) n)) (filter p (range_with_len (a + 1) n))) ≡ true
      → (list_any (λ y. y == x) (filter p (range_with_len (a + 1) n)) ≡ true → x < a + suc n) → x < a + suc n
  by false some on = on some
  by true some on = here (a == x) refl some where
    here : (b : Bool) → (a == x) ≡ b → (b || list_any (λ y. y == x) (filter p (range_with_len (a + 1) n))) ≡ true → x < a + suc n
    here true same some = (let e = eqb-true a x same in omega (arith, e))
    here false diff some = on some

frail_is : (regions : AllRegions) (nodes node : ℕ) → is_frail (frail_below regions.never_fail nodes) node ≡ not ((fenced nodes regions).never_fail (node_id node))
frail_is regions nodes node = elim (cases_lt node nodes) [
  | inl lt ↦
      by lt (is_frail (frail_below regions.never_fail nodes) node) refl ∙ sym (ap (λ (b : Bool). not (cond b (regions.never_fail (node_id node)) true)) (lt-ltb node nodes lt))
  | inr ge ↦
      past ge (is_frail (frail_below regions.never_fail nodes) node) refl ∙ sym (ap (λ (b : Bool). not (cond b (regions.never_fail (node_id node)) true)) (le-ltb node nodes ge))
] where
  by : node < nodes → (b : Bool) → is_frail (frail_below regions.never_fail nodes) node ≡ b → is_frail (frail_below regions.never_fail nodes) node ≡ not (regions.never_fail (node_id node))
  by lt true is = is ∙ sym (passes (λ x. not (regions.never_fail (node_id x))) node (range_with_len 0 nodes) is)
  by lt false is = is ∙ sym (ap not (sure regions nodes node lt is))

  past : nodes ≤ node → (b : Bool) → is_frail (frail_below regions.never_fail nodes) node ≡ b → is_frail (frail_below regions.never_fail nodes) node ≡ false
  past ge true is = (let lt = below (λ x. not (regions.never_fail (node_id x))) node 0 nodes is in absurd (omega (arith, lt, ge)))
  past ge false is = is

pub first_course : (x : Script) (regions : AllRegions) (kills : List (Option Killed)) (pools : Store) (segs : List Seg) (plays : List Play)
    → course_of (first_state x regions kills pools segs plays) ≡ course_over x (fenced x.nodes regions)
first_course x regions kills pools segs plays =
    ap (λ (may : ℕ → Bool). let c : Course = record { script = x; may = may; told = regions.tell } in c) (fun_ext (frail_is regions x.nodes))
