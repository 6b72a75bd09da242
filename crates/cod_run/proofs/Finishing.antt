-- The end of a run.
use Rattle.std.proofs.Common.{◌≡◌, ℕ, zero, suc, ◌+◌, ◌<◌, ◌≤◌, Bool, true, false, cond, not, ◌||◌, Option, Some, List, [], ◌∷◌, length, map, eqb-true, refl, sym, ap, ◌∙◌, subst, arith}
use Rattle.std.specs.Prelude.{IsTrue, All, slice_get, slice_index_or, ◌==◌}
use Rattle.std.specs.List.{filter, list_any, range_with_len}
use Rattle.std.proofs.lemmas.List.{length-map}
use Rattle.cod_types.specs.declared.call.NodeId.{NodeId}
use Rattle.cod_board.specs.declared.kill.Kill.{Kill}
use Rattle.cod_chronicle.specs.Legal.{node_id}
use Rattle.cod_chronicle.specs.Said.{Site, clock_of, last_stamp}
use Rattle.cod_place.specs.Rooms.{Store}
use Rattle.cod_script.specs.Owed.{owed_with_care, IsHistory}
use Rattle.cod_script.specs.Script.{Script}
use Rattle.cod_script.specs.Sound.{IsScenario}
use Rattle.cod_seg.specs.Next.{open_in}
use Rattle.cod_seg.specs.Seg.{Seg}
use Rattle.cod_seg.specs.Sound.{is_frail}
use Rattle.cod_stripe.specs.Building.{frail_below}
use Rattle.cod_stripe.specs.Standing.{name_of}
use Rattle.cod_text.proofs.ScenarioNames.{scenario_has_names}
use Rattle.cod_accounts.specs.Closing.{AllClosed, Fulfils}
use Rattle.cod_accounts.specs.Working.{Pass}
use Rattle.cod_accounts.proofs.Ending.{worked_is_history}
use Rattle.cod_accounts.proofs.Owing.{others_owe_nothing}
use Rattle.cod_shell.specs.Lines.{IsNamed}
use Rattle.cod_shell.specs.Numbers.{AllFit}
use Rattle.cod_shell.proofs.Fitting.{has_chronicles}
use Rattle.cod_shell.proofs.Wider.{history_wider}
use Rattle.cod_closing.specs.Closing.{IsClosedOf, log_of}
use Rattle.cod_pass.specs.States.{Common, course_on, known_by, PassState}
use Rattle.cod_run.specs.Ends.{IsEnd, IsPrintable}
use Rattle.cod_run.proofs.Failed.{killed_by_line, line_has_killed}
use Rattle.cod_run.proofs.Shifting.{get_here, get_mapped}

-- ---- where regions may fail

passes : (p : ℕ → Bool) (x : ℕ) (ns : List ℕ) → list_any (λ y. y == x) (filter p ns) ≡ true → p x ≡ true
passes p x [] some = cc
passes p x (n ∷ ns) some = by (p n) refl some (passes p x ns) where
  by : (b : Bool) → p n ≡ b → list_any (λ y. y == x) (cond b (n ∷ filter p ns) (filter p ns)) ≡ true → (list_any (λ y. y == x) (filter p ns) ≡ true → p x ≡ true) → p x ≡ true
  by false is some on = on some
  by true is some on = here (n == x) refl some where
    here : (b : Bool) → (n == x) ≡ b → (b || list_any (λ y. y == x) (filter p ns)) ≡ true → p x ≡ true
    here true same some = ap p (sym (eqb-true n x same)) ∙ is
    here false diff some = on some

may_fail : (never : NodeId → Bool) (nodes node : ℕ) → IsTrue (is_frail (frail_below never nodes) node) → IsTrue (not (never (node_id node)))
may_fail never nodes node frail = passes (λ y. not (never (node_id y))) node (range_with_len 0 nodes) frail

-- ---- places

all_get : {X : Type 0} (P : X → Type 0) (xs : List X) (i : ℕ) (y : X) → All P xs → slice_get xs i ≡ Some y → P y
all_get P [] i y all is = absurd (cc is)
all_get P (x ∷ xs) zero y all is = (let same : x ≡ y = cc in subst P same (all 0 x (omega arith)))
all_get P (x ∷ xs) (suc i) y all is = all_get P xs i y (λ k d lt. all (suc k) d (omega (arith, lt))) is

-- ---- the end

-- the passes have done what their callers owe
abbrev AllFulfil : (x : Script) (c : Common) → List PassState → Type 0
AllFulfil x c passes = (i : ℕ) (p : PassState) → slice_get passes i ≡ Some p → Fulfils log_of open_in (course_on x c.regions) (owed_with_care x) i (known_by p)

all_known : (x : Script) (c : Common) (passes : List PassState) → AllFulfil x c passes
    → (i : ℕ) (p : Pass Seg) → slice_get (map known_by passes) i ≡ Some p → Fulfils log_of open_in (course_on x c.regions) (owed_with_care x) i p
all_known x c passes fulfil i p at =
    let m = get_mapped known_by passes i p at in
    subst (λ (q : Pass Seg). Fulfils log_of open_in (course_on x c.regions) (owed_with_care x) i q) m.is (fulfil i m.value m.gets)

abbrev Small : Seg → Type 0
Small s = clock_of s.log < last_stamp

all_closed : (x : Script) (c : Common) (passes : List PassState) (segs : List Seg) (kills : List (Option Kill)) (pools : Store) → length passes ≡ length x.clients + x.workers
    → AllFulfil x c passes → IsClosedOf x c passes segs kills pools → All Small segs
    → AllClosed name_of log_of open_in (course_on x c.regions) (owed_with_care x) (map known_by passes) segs kills
all_closed x c passes segs kills pools count fulfil closed small = record {
  count = closed.count;
  fulfils = all_known x c passes fulfil;
  others = λ who ge. others_owe_nothing x who (let n = length-map passes known_by in omega (arith, ge, count, n));
  segments = λ s now at. (closed.each s now at).closed;
  board = closed.board;
  small = λ s now at. all_get Small segs s now small at;
}

site_at : (x : Script) (c : Common) (passes : List PassState) (segs : List Seg) (kills : List (Option Kill)) (pools : Store) → IsClosedOf x c passes segs kills pools → All (IsNamed x) segs
site_at x c passes segs kills pools closed k d lt =
    let site = (closed.each k (slice_index_or segs k d) (get_here segs k d lt)).site in
    let place = ap (λ (t : Site). t.segment) site in
    record { there = (let n = closed.count in omega (arith, place, n, lt)); shape = ap (λ (t : Site). t.shape) site }

-- what a closed cluster leaves can be printed
pub is_printable : (x : Script) (c : Common) (passes : List PassState) (segs : List Seg) (kills : List (Option Kill)) (pools : Store) → IsClosedOf x c passes segs kills pools
    → IsPrintable x segs kills pools
is_printable x c passes segs kills pools closed = record {
  count = closed.count;
  named = site_at x c passes segs kills pools closed;
  nodes = closed.nodes;
  capacity = closed.capacity;
  free = closed.free;
  sums = closed.rooms;
}

-- where all passes have done what their callers owe, it is the end of a run
pub is_end : (x : Script) (c : Common) (passes : List PassState) (segs : List Seg) (kills : List (Option Kill)) (pools : Store) → IsScenario x
    → length passes ≡ length x.clients + x.workers → AllFulfil x c passes → IsClosedOf x c passes segs kills pools → All Small segs → AllFit (λ (s : Seg). s.log) segs
    → IsEnd c.regions x (record { segs = segs; kills = kills })
is_end x c passes segs kills pools scenario count fulfil closed small fit =
    let all = all_closed x c passes segs kills pools count fulfil closed small in
    let narrow = worked_is_history name_of log_of open_in (course_on x c.regions) (owed_with_care x) (map known_by passes) segs kills scenario all in
    let history : IsHistory c.regions.tell x (λ node. not (c.regions.never_fail (node_id node))) (owed_with_care x) (map log_of segs) =
    history_wider c.regions.tell x (is_frail (frail_below c.regions.never_fail x.nodes)) (λ node. not (c.regions.never_fail (node_id node))) (owed_with_care x) (map log_of segs)
    (λ node. may_fail c.regions.never_fail x.nodes node) narrow in
    let p = is_printable x c passes segs kills pools closed in
    let many : length x.clients ≤ length (map known_by passes) = (let n = length-map passes known_by in omega (arith, count, n)) in
    record {
      history = history;
      sound = λ i s at. (closed.each i s at).sound;
      sites = λ i s at. (closed.each i s at).site;
      killed = killed_by_line (course_on x c.regions) (map known_by passes) kills (all_known x c passes fulfil) closed.board;
      failed = line_has_killed (course_on x c.regions) (map known_by passes) kills (all_known x c passes fulfil) many closed.board;
      room = λ node lt. let sum = p.sums.sums node (let n = closed.free in omega (arith, lt, n)) in let capacity = closed.capacity in omega (arith, sum, capacity);
      names = scenario_has_names x scenario;
      chronicles = has_chronicles c.regions.tell x (λ node. not (c.regions.never_fail (node_id node))) (owed_with_care x) segs history fit;
    }
