-- Lines of a scenario, and room for a run's entries.
use Rattle.std.proofs.Common.{◌≡◌, inl, inr, ℕ, zero, suc, ◌+◌, ◌<◌, ◌≤◌, Some, List, [], ◌∷◌, ◌++◌, length, get_or, map, refl, ap, ◌∙◌, subst, arith}
use Rattle.std.specs.Prelude.{slice_get}
use Rattle.std.specs.Option.{option_map}
use Rattle.std.proofs.Math.Seq.{get_or-append_seam}
use Rattle.std.proofs.lemmas.Bool.{cases_lt}
use Rattle.std.proofs.lemmas.List.{get_or_past, length-append, length-map}
use Rattle.std.proofs.lemmas.List.Sums.{get_or-le-sum_by}
use Rattle.std.proofs.lemmas.Option.{slice_get-get_or, slice_get-map}
use Rattle.cod_chronicle.specs.declared.entry.Entry.{Entry}
use Rattle.cod_chronicle.specs.Order.{place, placed_from}
use Rattle.cod_chronicle.specs.Said.{Site}
use Rattle.cod_types.specs.declared.call.Call.{Call as Asked}
use Rattle.cod_types.specs.declared.call.Call.TheVariants as call
use Rattle.cod_types.specs.declared.call.SegId.{SegId}
use Rattle.cod_script.specs.declared.line.Line.{Line}
use Rattle.cod_script.specs.declared.line.What.TheVariants.{Segment}
use Rattle.cod_script.specs.Script.{Client, lines_by, nobody, Script}
use Rattle.cod_script.specs.Sound.{IsDated, IsDatedCall, IsLine, IsScenario, line_count}
use Rattle.cod_seg.specs.Seg.{Seg}
use Rattle.cod_turns.specs.Turns.{Course, IsLineAt, start, Turn, Turns, World}
use Rattle.cod_turns.specs.declared.turned.Turned.{Turned}
use Rattle.cod_turns.proofs.Counting.{runs_are_small}
use Rattle.cod_turns.proofs.Running.{fewer_asks, mul_le}
use Rattle.cod_advance.specs.Moments.{FirstIsMoment, LineIsThere, MomentHasRoom, NumberIsSmall, TurnLeadsOn}
use Rattle.cod_advance.specs.Worlds.{no_seg, seg_at, world_of}
use Rattle.cod_advance.proofs.Worldly.{start_is_start}

-- ---- moments

turns_push : (x : Course) (cs : List ℕ) (who : ℕ) (w u v : World) (turned : Turned) → Turns x cs w u → Turn x who u v turned → Turns x (cs ++ who ∷ []) w v
turns_push x [] who w u v turned first last = (v, turned, subst (λ (q : World). Turn x who q v turned) first last, refl)
turns_push x (c ∷ cs) who w u v turned first last = (first.0, first.1, first.2, turns_push x cs who first.0 u v turned first.3 last)

pub first_is_moment : FirstIsMoment
first_is_moment x segs board places first are = record { turns = []; led = start_is_start segs board places first ∙ ap start are.count; are = are }

pub turn_leads_on : TurnLeadsOn
turn_leads_on x who turned segs board old later after new m turn are = record {
  turns = m.turns ++ who ∷ [];
  led = turns_push x m.turns who (start (length x.script.segments)) (world_of segs board old) (world_of later after new) turned m.led turn;
  are = are;
}

-- ---- lines

-- a client with a line is there
line_of : (x : Script) (who i : ℕ) (l : Line) → IsLineAt x who i l → (who < length x.clients) × (length (lines_by x who) ≤ line_count x.clients)
line_of x who i l at = elim (cases_lt who (length x.clients)) [
  | inl lt ↦ (lt, get_or-le-sum_by (λ (c : Client). length c.lines) x.clients who nobody lt)
  | inr ge ↦
      let none : length (lines_by x who) ≡ 0 = ap (λ (c : Client). length c.lines) (get_or_past x.clients who nobody ge) in
      let some = ap length at.lines ∙ length-append at.front (l ∷ at.rest) in
      absurd (omega (arith, none, some))
]

pub line_is_there : LineIsThere
line_is_there x who i l scenario at =
    let c = scenario.clients who nobody (line_of x who i l at).0 in
    let some = ap length at.lines ∙ length-append at.front (l ∷ at.rest) in
    let is : get_or (lines_by x who) (length at.front) l ≡ l = ap (λ (ls : List Line). get_or ls (length at.front) l) at.lines ∙ get_or-append_seam at.front l at.rest l in
    subst (IsLine x.nodes (length x.segments)) is (c.1 (length at.front) l (omega (arith, some)))

pub dated_call : (version : ℕ) (c : Asked) → IsDatedCall version c → c ≡ call.Upgrade → version ≡ 2
dated_call version call.Upgrade dated e = dated
dated_call version (call.Read off len) dated e = cc
dated_call version (call.Write off bytes) dated e = cc
dated_call version (call.Swap off old new) dated e = cc
dated_call version (call.Put bytes) dated e = cc
dated_call version call.Merge dated e = cc
dated_call version call.Tick dated e = cc
dated_call version call.Rebuild dated e = cc
dated_call version (call.Drain node) dated e = cc

-- an upgrade is asked for only where the version is 2
pub line_is_dated : (x : Script) (who i line : ℕ) (seg : SegId) (asked : Asked) → IsScenario x → IsLineAt x who i (record { line = line; what = Segment seg asked })
    → asked ≡ call.Upgrade → x.shape.version ≡ 2
line_is_dated x who i line seg asked scenario at e =
    let l : Line = record { line = line; what = Segment seg asked } in
    let c = scenario.dated who nobody (line_of x who i l at).0 in
    let some = ap length at.lines ∙ length-append at.front (l ∷ at.rest) in
    let is : get_or (lines_by x who) (length at.front) l ≡ l = ap (λ (ls : List Line). get_or ls (length at.front) l) at.lines ∙ get_or-append_seam at.front l at.rest l in
    let dated : IsDatedCall x.shape.version asked = subst (λ (k : Line). IsDated x.shape.version k.what) is (c (length at.front) l (omega (arith, some))) in
    dated_call x.shape.version asked dated e

pub number_is_small : NumberIsSmall
number_is_small x who i l at scenario =
    let most = (line_of x who i l at).1 in
    let few = scenario.few_lines in
    let fewer = fewer_asks at.front in
    let some = ap length at.lines ∙ length-append at.front (l ∷ at.rest) in
    omega (arith, most, few, fewer, some)

-- ---- room

in_placed : (s i : ℕ) (hs : List (List Entry)) (h : List Entry) → slice_get hs i ≡ Some h → length h ≤ length (placed_from s hs)
in_placed s i [] h is = cc
in_placed s zero (k ∷ hs) h is =
    let same : k ≡ h = cc in
    let e = ap length same in
    let m = length-map k (λ (x : Entry). place s x) in
    let a = length-append (map (λ (x : Entry). place s x) k) (placed_from (s + 1) hs) in
    omega (arith, e, m, a)
in_placed s (suc i) (k ∷ hs) h is =
    let r = in_placed (s + 1) i hs h is in
    let a = length-append (map (λ (x : Entry). place s x) k) (placed_from (s + 1) hs) in
    omega (arith, r, a)

pub moment_has_room : MomentHasRoom
moment_has_room x segs board places i scenario m lt =
    let small = (runs_are_small x m.turns (world_of segs board places) scenario m.led).entries in
    let log = λ (s : Seg). s.log in
    let there : slice_get (map log segs) i ≡ Some (seg_at segs i).log = slice_get-map log segs i ∙ ap (option_map log) (slice_get-get_or segs i no_seg lt) in
    let here = in_placed 0 i (map log segs) (seg_at segs i).log there in
    let lines = scenario.few_lines in
    let columns = scenario.shape.most_columns in
    let marks = mul_le (length x.script.segments) x.script.shape.n 1024 16 scenario.most_segments columns in
    let n = ap (λ (q : Site). q.shape.n) (m.are.each i lt).site in
    omega (arith, small, here, lines, columns, marks, n)
