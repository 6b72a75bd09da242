-- The canonical text of a scenario that a text gave is read again.
use Rattle.std.proofs.Common.{◌≡◌, ℕ, ◌+◌, ◌<◌, ◌≤◌, ◌^◌, true, List, [], ◌∷◌, length, get_or, refl, sym, ap, ◌∙◌, arith, subst, Ok, Option, Some, map, append-nil}
use Rattle.std.specs.List.{All, AllByRecursion, flat_map}
use Rattle.std.proofs.Math.ListN.{get_or-map}
use Rattle.std.proofs.lemmas.List.{length-map}
use Rattle.std.proofs.lemmas.List.{get_or_default}
use Rattle.std.proofs.lemmas.List.Elements.{All-tail, recursion_from_All}
use Rattle.std.proofs.lemmas.Bool.{le-ltb}
use Rattle.cod_words.specs.Words.{is_name, lines_of}
use Rattle.cod_script.specs.declared.line.Line.{Line}
use Rattle.cod_scenario.specs.declared.said.Header.{Header}
use Rattle.cod_scenario.specs.declared.said.Keyword.TheVariants as key
use Rattle.cod_scenario.specs.declared.said.Said.{Said}
use Rattle.cod_scenario.specs.declared.said.Said.TheVariants as said
use Rattle.cod_script.specs.Script.{Script, Client, nobody, Body}
use Rattle.cod_scenario.specs.Lines.{header_of, body_of, script_of, script_with, line_weight, holds}
use Rattle.cod_scenario.specs.Judge.{lines_say, to_end, text_says, last_of}
use Rattle.cod_scenario.specs.Reads.{reads}
use Rattle.cod_script.specs.Sound.{IsScenario, IsClient, IsLine, IsDated, IsDatedClient}
use Rattle.cod_script.specs.Text.{canonical_text, header_text, segment_text, client_text, care_text, schedule_text}
use Rattle.cod_scenario.proofs.TextSound.{text_is_scenario}
use Rattle.cod_canonical.specs.Again.{unnumbered, unnumbered_client, IsReadAgain}
use Rattle.cod_canonical.proofs.Steps.{Reaches, goes_on, Heads, Stands, unnumbered_parts, name_of, names_unnumbered}
use Rattle.cod_canonical.proofs.ClientLines.{AreNames, IsSpoken}
use Rattle.cod_canonical.proofs.HeaderLines.{head_of, IsHead, header_reaches}
use Rattle.cod_canonical.proofs.Weights.{segments_weight, clients_weight, parts_weight, room_of, same_weight}
use Rattle.cod_canonical.proofs.Phases.{segments_only, clients_only, EndsWith, EndsAmong, IsGoodLine, IsGoodClient, MayCome, after_alpha, segments_reach, clients_reach}
use Rattle.cod_canonical.proofs.Endings.{EndsAfter, with_care, all_parts, care_reaches, schedule_reaches, end_reaches}
use Rattle.cod_canonical.proofs.Accepted.{AreSpoken, IsGiven, text_is_given}

-- ---- what is known of the scenario

is_head : (p : Script) → IsScenario p → p.capacity < 2 ^ 32 → IsHead (head_of p)
is_head p i most = record {
  first_version = i.shape.first_version;
  last_version = i.shape.last_version;
  some_nodes = i.some_nodes;
  most_nodes = i.most_nodes;
  some_capacity = i.some_capacity;
  most_capacity = most;
  some_columns = let a = i.shape.some_data in let b = i.shape.data_among_columns in omega (arith, a, b);
  most_columns = i.shape.most_columns;
  columns = i.columns;
  some_data = i.shape.some_data;
  data_among_columns = i.shape.data_among_columns;
  some_bytes = i.shape.some_bytes;
  most_bytes = i.shape.most_bytes;
  some_update = i.shape.some_update;
  update_in_segment = i.shape.update_in_segment;
  most_update = i.shape.most_update;
  least_reserve = i.shape.least_reserve;
  most_reserve = i.shape.most_reserve;
  some_unit = i.shape.some_unit;
  unit_in_reserve = i.shape.unit_in_reserve;
  most_alpha = i.shape.most_alpha;
}

good_lines : (h : Header) (segments : ℕ) (ls : List Line) → All (IsLine h.nodes segments) ls → All (λ l. IsDated h.version l.what) ls
    → AllByRecursion (λ (l : Line). IsSpoken l.what) ls → AllByRecursion (IsGoodLine h segments) ls
good_lines h segments [] there dated spoken = tt
good_lines h segments (l ∷ ls) there dated spoken =
    let first = there 0 l (omega arith) in (
      (first.1, dated 0 l (omega arith), spoken.0),
      good_lines h segments ls (All-tail (IsLine h.nodes segments) l ls there) (All-tail (λ (x : Line). IsDated h.version x.what) l ls dated) spoken.1,
    )

good_clients : (h : Header) (segments : ℕ) (cs : List Client) → All (IsClient h.nodes segments) cs → All (IsDatedClient h.version) cs → AreSpoken cs
    → AllByRecursion (IsGoodClient h segments) cs
good_clients h segments [] all dated spoken = tt
good_clients h segments (c ∷ cs) all dated spoken =
    let first = all 0 c (omega arith) in (
      good_lines h segments c.lines first.1 (dated 0 c (omega arith)) spoken.0,
      good_clients h segments cs (All-tail (IsClient h.nodes segments) c cs all) (All-tail (IsDatedClient h.version) c cs dated) spoken.1,
    )

client_names_good : (nodes segments : ℕ) (cs : List Client) → All (IsClient nodes segments) cs → All (λ name. is_name name ≡ true) (map name_of cs)
client_names_good nodes segments cs all i d lt =
    let n : length (map name_of cs) ≡ length cs = length-map cs name_of in
    let below : i < length cs = omega (arith, lt, n) in
    let at : get_or (map name_of cs) i d ≡ (get_or cs i nobody).name = get_or_default (map name_of cs) i d [] lt ∙ get_or-map name_of cs i nobody in
    rw at ((all i nobody below).0)

-- what a scenario has beyond its limits
pub record IsReadable (h : Header) (q : Body) : Type 0 where
  pub scenario : IsScenario (script_with h q)
  pub capacity : h.capacity < 2 ^ 32
  pub spoken : AreSpoken q.clients
  pub light : parts_weight h q ≤ 268435456
  pub room : holds h (length q.segments) ≡ true

-- ---- the whole text

abbrev IsWhole : Header → Body → List Said → Type 0
IsWhole h q lines = Stands h (unnumbered_parts q) 0 lines × (last_of lines ≡ Some said.End)

begins : (h : Header) (q : Body) (lines : List Said) → Heads 8 h lines → parts_weight h q ≤ 268435456
    → Stands h (segments_only []) (segments_weight h q.segments + (clients_weight h q.clients + (line_weight h (said.Care q.workers q.rounds) + 0))) lines
unfolding parts_weight
begins h q lines i light =
    let w = i.weight_is in let n = i.length_is in
    record { header_is = i.header_is; parts_are = ap unnumbered_parts i.parts_are; late = omega (arith, n); light = omega (arith, w, light) }

whole_reaches : (h : Header) (segments : List (List ℕ)) (clients : List Client) (schedule : List ℕ) (workers rounds : ℕ)
    → IsReadable h (all_parts segments clients schedule workers rounds)
    → Reaches [] 1 (canonical_text (script_with h (all_parts segments clients schedule workers rounds))) (IsWhole h (all_parts segments clients schedule workers rounds))
whole_reaches h [] clients schedule workers rounds i = let some = i.scenario.some_segments in absurd (omega (arith, some))
whole_reaches h (name ∷ names) [] schedule workers rounds i = let some = i.scenario.some_clients in absurd (omega (arith, some))
whole_reaches h (name ∷ names) (c ∷ cs) schedule workers rounds i =
    let segments : List (List ℕ) = name ∷ names in
    let clients : List Client = c ∷ cs in
    let q : Body = all_parts segments clients schedule workers rounds in
    let bare : List Client = map unnumbered_client clients in
    let p : Script = script_with h q in
    let End : List Said → Type 0 = IsWhole h q in
    let care : ℕ = line_weight h (said.Care workers rounds) + 0 in
    let segment_names : AreNames segments = record { differ = i.scenario.segments_differ; good = i.scenario.segment_names } in
    let client_names : AreNames (map name_of clients) = record { differ = i.scenario.clients_differ; good = client_names_good h.nodes (length segments) clients i.scenario.clients } in
    let n : length (map name_of clients) ≡ length clients = length-map clients name_of in
    let most = i.scenario.most_clients in
    let turns : AllByRecursion (λ t. t < length (map name_of clients)) schedule =
    subst (λ (k : ℕ). AllByRecursion (λ t. t < k) schedule) (sym n) (recursion_from_All (λ t. t < length clients) schedule i.scenario.turns) in
    goes_on [] 1 (header_text p) _ (λ lines. Heads 8 h lines × (last_of lines ≡ Some (said.Alpha h.alpha))) End (header_reaches p (is_head p i.scenario i.capacity)) (λ a m ha.
    goes_on a m (flat_map segment_text segments) _ (EndsWith h segments (clients_weight h clients + care)) End
    (segments_reach h segments [] name names (clients_weight h clients + care) a m refl segment_names i.scenario.most_segments i.room (begins h q a ha.0 i.light)
    (subst (λ (l : Option Said). MayCome h.version l key.Segment) (sym ha.1) (after_alpha h.version h.alpha))) (λ b m hb.
    goes_on b m (flat_map (client_text segments) clients) _ (EndsAmong h (clients_only segments bare) care) End
    (clients_reach h segments (map name_of clients) [] c cs care b m segment_names i.scenario.most_nodes refl client_names (omega (arith, n, most))
    (good_clients h (length segments) clients i.scenario.clients i.scenario.dated i.spoken) hb.0 hb.1) (λ d m hd.
    goes_on d m (care_text workers rounds) _ (EndsAfter h (with_care (clients_only segments bare) workers rounds) 0) End
    (care_reaches h segments bare workers rounds 0 d m i.scenario.most_workers i.scenario.most_rounds hd.0 hd.1) (λ e m he.
    goes_on e m (schedule_text clients schedule) _ (EndsAfter h (all_parts segments bare schedule workers rounds) 0) End
    (schedule_reaches h segments bare clients workers rounds schedule 0 e m (names_unnumbered clients) client_names turns he) (λ f m hf.
    end_reaches h (all_parts segments bare schedule workers rounds) 0 f m hf)))))

-- ---- what is read

done : (now : List Said) (m : ℕ) → lines_say now m (lines_of []) ≡ Ok now
unfolding lines_say
done now m = refl

said_again : (text : List ℕ) (P : List Said → Type 0) (r : Reaches [] 1 text P) → lines_say [] 1 (lines_of text) ≡ Ok r.now
said_again text P r = ap (λ t. lines_say [] 1 (lines_of t)) (sym (append-nil text)) ∙ (r.leads.same [] ∙ done r.now r.next)

ended : (lines : List Said) (count : ℕ) → last_of lines ≡ Some said.End → to_end count (Ok lines) ≡ Ok lines
ended lines count e = rw e refl

read_again : (text : List ℕ) (now : List Said) → length text ≤ 2 ^ 24 → lines_say [] 1 (lines_of text) ≡ Ok now → last_of now ≡ Some said.End → reads text ≡ Ok (script_of now)
unfolding text_says
read_again text now le e last = rw (le-ltb 16777216 (length text) le, e, ended now (length (lines_of text)) last) refl

same_script : (h : Header) (q : Body) (now : List Said) → Stands h (unnumbered_parts q) 0 now → unnumbered (script_of now) ≡ unnumbered (script_with h q)
unfolding script_of
same_script h q now i = ap (λ (x : Header). script_with x (unnumbered_parts (body_of now))) i.header_is ∙ ap (script_with h) i.parts_are

readable : (p : Script) → IsScenario p → (g : IsGiven p) → IsReadable (header_of g.lines) (body_of g.lines)
readable p s g =
    let h : Header = header_of g.lines in
    let q : Body = body_of g.lines in
    let scenario : IsScenario (script_with h q) = subst IsScenario (sym g.script_is) s in
    let light = scenario.light in
    let same = same_weight h q in
    record { scenario = scenario; capacity = g.heard.capacity; spoken = g.heard.spoken; light = omega (arith, light, same); room = room_of h (length q.segments) scenario.room }

again_of : (h : Header) (q : Body) → IsReadable h q → length (canonical_text (script_with h q)) ≤ 2 ^ 24
    → (again : Script) × (reads (canonical_text (script_with h q)) ≡ Ok again) × (unnumbered again ≡ unnumbered (script_with h q))
again_of h q i le =
    let r : Reaches [] 1 (canonical_text (script_with h q)) (IsWhole h q) = whole_reaches h q.segments q.clients q.schedule q.workers q.rounds i in
    (script_of r.now, read_again (canonical_text (script_with h q)) r.now le (said_again (canonical_text (script_with h q)) (IsWhole h q) r) r.holds.1, same_script h q r.now r.holds.0)

pub is_read_again : IsReadAgain
is_read_again text p e le =
    let g = text_is_given text p e in
    let h : Header = header_of g.lines in
    let q : Body = body_of g.lines in
    subst (λ (x : Script). length (canonical_text x) ≤ 2 ^ 24 → (again : Script) × (reads (canonical_text x) ≡ Ok again) × (unnumbered again ≡ unnumbered x)) g.script_is
    (again_of h q (readable p (text_is_scenario text p e) g)) le
