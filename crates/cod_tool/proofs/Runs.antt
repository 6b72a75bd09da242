-- The end of a run.
use Rattle.std.proofs.Common.{◌≡◌, ℕ, ◌+◌, ◌<◌, ◌≤◌, Bool, true, false, cond, not, List, length, ap, ◌∙◌, subst, arith}
use Rattle.std.specs.Prelude.{IsTrue, nat_lt}
use Rattle.cod_region.specs.Device.{AllRegions}
use Rattle.cod_chronicle.specs.Legal.{node_id}
use Rattle.cod_shell.specs.Lines.{taken_on}
use Rattle.cod_script.specs.Script.{Script}
use Rattle.cod_script.specs.Sound.{IsScenario}
use Rattle.cod_script.specs.Owed.{owed}
use Rattle.cod_seg.specs.Seg.{Seg}
use Rattle.cod_text.proofs.ScenarioNames.{scenario_has_names}
use Rattle.cod_turns.specs.Turns.{Course, World, start}
use Rattle.cod_turns.specs.Rounds.{IsRun, IsRunFrom, turns_of}
use Rattle.cod_turns.proofs.Rounding.{run_leaves_history}
use Rattle.cod_advance.specs.Histories.{Leads, Moment, Runs}
use Rattle.cod_advance.specs.Worlds.{AreSegmentsOf}
use Rattle.cod_replay.specs.State.{course_of, moment_of, State, world_in}
use Rattle.cod_replay.specs.Standing.{AreFirst, AreIdle, beginning, IsFresh, Stands}
use Rattle.cod_shell.specs.Numbers.{AllFit}
use Rattle.cod_shell.proofs.Fitting.{has_chronicles}
use Rattle.cod_shell.proofs.Wider.{history_wider}
use Rattle.cod_tool.specs.Ends.{chronicles_of, course, HasRun, IsLedTo}
use Rattle.cod_tool.specs.Replays.{Ran}

fence_wider : (there never : Bool) → IsTrue (not (cond there never true)) → IsTrue (not never)
fence_wider true never t = t
fence_wider false never t = cc

-- ---- the end

room_in : (s : State) → Stands s → (node : ℕ) → node < s.script.nodes → taken_on s.segs node ≤ s.script.capacity
room_in s st node lt = let sum = st.sums.sums node (omega (arith, lt, st.pools)) in omega (arith, sum)

-- the way from the start, said of the scenario and the shelf
led_to : (on : AllRegions) (x : Script) (rounds : ℕ) (s : State) (e : Moment) → course_of s ≡ course on x → IsFresh s → Leads (course on x) (turns_of x rounds) (moment_of s) e
    → IsLedTo on x rounds e
led_to on x rounds s e is fresh leads =
    let script : s.script ≡ x = ap (λ (c : Course). c.script) is in
    let told : s.told ≡ on.tell = ap (λ (c : Course). c.told) is in
    record {
      frail = s.frail;
      may = λ node. ap (λ (c : Course). c.may node) is;
      first = s.segs;
      built = subst (λ (b : Bool). AreFirst x b s.frail s.segs) told (subst (λ (y : Script). AreFirst y s.told s.frail s.segs) script fresh.built);
      leads = subst (λ (y : Script). Leads (course on x) (turns_of x rounds) (beginning y s.segs) e) script
          (subst (λ (m : Moment). Leads (course on x) (turns_of x rounds) m e) fresh.begins leads);
    }

-- a run of the scenario, of which it stands, has come to its end
pub has_run : (on : AllRegions) (x : Script) (first last : State) → course_of first ≡ course on x → world_in first ≡ start (length x.segments)
    → IsFresh first → Runs (course_of first) (moment_of first) (moment_of last) → course_of last ≡ course_of first → AreSegmentsOf (course_of last) last.segs
    → AreIdle last.segs
    → Stands last
    → AllFit (λ (s : Seg). s.log) last.segs → HasRun on x last
has_run on x first last course_is start_is fresh ran same are idle stands fit =
    let is : course_of last ≡ course on x = same ∙ course_is in
    let script : last.script ≡ x = ap (λ (c : Course). c.script) is in
    let sound : IsScenario x = subst IsScenario script stands.scenario in
    let over = subst (λ (c : Course). Runs c (moment_of first) (moment_of last)) course_is ran in
    let both = subst (λ (w : World). (run : IsRunFrom (course on x) w (world_in last)) × Leads (course on x) (turns_of x run.count) (moment_of first) (moment_of last))
    start_is (over.run, over.leads) in
    let whole : IsRun (course on x) (world_in last) = both.0 in
    let narrow = run_leaves_history (course on x) (world_in last) sound whole in
    let history = history_wider on.tell x (course on x).may (λ node. not (on.never_fail (node_id node))) (owed x) (chronicles_of (moment_of last))
    (λ node. fence_wider (nat_lt node x.nodes) (on.never_fail (node_id node))) narrow in
    record {
      script = script;
      ended = record {
        run = whole;
        led = led_to on x both.0.count first (moment_of last) course_is fresh both.1;
        history = history;
        segments = subst (λ (c : Course). AreSegmentsOf c last.segs) is are;
        idle = idle;
        room = λ node lt. let r = room_in last stands node (omega (arith, lt, ap (λ (y : Script). y.nodes) script)) in omega (arith, r, ap (λ (y : Script). y.capacity) script);
        names = scenario_has_names x sound;
        chronicles = has_chronicles on.tell x _ (owed x) last.segs history fit;
      };
    }

-- and a text of it was printed
pub ran_of : (on : AllRegions) (x : Script) (s : State) (text_of : Script → Moment → List ℕ) (Took : List ℕ → Type 0) → HasRun on x s → Took (text_of s.script (moment_of s))
    → Ran on x text_of Took
ran_of on x s text_of Took h took = record { end = moment_of s; run = h.ended; printed = subst (λ (y : Script). Took (text_of y (moment_of s))) h.script took }
