-- The care workers, the schedule and the end of a canonical text are read again.
use Rattle.std.proofs.Common.{◌≡◌, ℕ, suc, ◌+◌, ◌<◌, ◌≤◌, Bool, true, false, List, [], ◌∷◌, length, refl, sym, arith, subst, Ok, Option, Some, map}
use Rattle.std.specs.Prelude.{nat_eq, ◌&&◌, slice_index_or, codes, decimal}
use Rattle.std.specs.List.{All, AllByRecursion}
use Rattle.std.proofs.Math.ListN.{get_or-map}
use Rattle.std.proofs.lemmas.Bool.{le-leb, and_parts, eqb-true}
use Rattle.cod_words.specs.Words.{is_name}
use Rattle.cod_scenario.specs.declared.said.Header.{Header}
use Rattle.cod_scenario.specs.declared.said.Keyword.TheVariants as key
use Rattle.cod_scenario.specs.declared.said.Said.{Said}
use Rattle.cod_scenario.specs.declared.said.Said.TheVariants as said
use Rattle.cod_scenario.specs.Judge.{may_follow, rest_says, care_line, schedule_line, end_line, last_of}
use Rattle.cod_scenario.specs.Lines.{client_names, line_weight}
use Rattle.cod_script.specs.Script.{Body, Client, nobody}
use Rattle.cod_script.specs.Text.{line_text, care_text, schedule_text, name_at}
use Rattle.cod_canonical.proofs.Texts.{IsClear}
use Rattle.cod_canonical.proofs.Fields.{decimal_is_clear, field_back, name_is_clear, each_back}
use Rattle.cod_canonical.proofs.Steps.{Reaches, stays, Stands, leaves, name_of, there_reaches}
use Rattle.cod_canonical.proofs.ClientLines.{AreNames, IsAmong}
use Rattle.cod_canonical.proofs.Phases.{MayCome, clients_only}

-- a line after which a schedule or the end may come
pub record IsAfter (version : ℕ) (last : Option Said) : Type 0 where
  pub schedule : MayCome version last key.Schedule
  pub end : MayCome version last key.End

after_among : (version : ℕ) (last : Option Said) → IsAmong version last → IsAfter version last
after_among version last a = record { schedule = record { goes_on = a.goes_on; stands = a.among key.Schedule }; end = record { goes_on = a.goes_on; stands = a.among key.End } }

after_care : (version workers rounds : ℕ) → IsAfter version (Some (said.Care workers rounds))
unfolding may_follow
after_care version workers rounds = record { schedule = record { goes_on = refl; stands = refl }; end = record { goes_on = refl; stands = refl } }

after_schedule : (version : ℕ) (turns : List ℕ) → IsAfter version (Some (said.Schedule turns))
unfolding may_follow
after_schedule version turns = record { schedule = record { goes_on = refl; stands = refl }; end = record { goes_on = refl; stands = refl } }

abbrev pub EndsAfter : Header → Body → ℕ → List Said → Type 0
EndsAfter h q left lines = Stands h q left lines × IsAfter h.version (last_of lines)

-- the line behind which more may come
then : (before : List Said) (n : ℕ) (h : Header) (q : Body) (left : ℕ) (s : Said) (text : List ℕ) → IsAfter h.version (Some s)
    → Reaches before n text (λ now. Stands h q left now × (last_of now ≡ Some s)) → Reaches before n text (EndsAfter h q left)
then before n h q left s text after r =
    record { now = r.now; next = r.next; leads = r.leads; holds = (r.holds.0, subst (IsAfter h.version) (sym r.holds.1) after) }

-- ---- the care workers

abbrev pub with_care : Body → ℕ → ℕ → Body
with_care q workers rounds = record q { workers = workers; rounds = rounds }

care_read : (h : Header) (segments clients : List (List ℕ)) (n workers rounds : ℕ) → workers ≤ 16 → rounds ≤ 65536
    → rest_says h segments clients n key.Care (decimal workers ∷ decimal rounds ∷ []) ≡ Ok (said.Care workers rounds)
unfolding rest_says care_line
care_read h segments clients n workers rounds a b =
    rw (field_back 0 16 workers (omega arith) a (omega (arith, a)), field_back 0 65536 rounds (omega arith) b (omega (arith, b))) refl

care_by : (none : Bool) (h : Header) (names : List (List ℕ)) (cs : List Client) (workers rounds left : ℕ) (before : List Said) (n : ℕ)
    → (nat_eq workers 0 && nat_eq rounds 0) ≡ none → workers ≤ 16 → rounds ≤ 65536
    → Stands h (clients_only names cs) (line_weight h (said.Care workers rounds) + left) before → IsAmong h.version (last_of before)
    → Reaches before n (care_text workers rounds) (EndsAfter h (with_care (clients_only names cs) workers rounds) left)
care_by true h names cs workers rounds left before n e a b i among =
    let parts = and_parts (nat_eq workers 0) (nat_eq rounds 0) e in
    let w : workers ≡ 0 = eqb-true workers 0 parts.0 in
    let r : rounds ≡ 0 = eqb-true rounds 0 parts.1 in
    let same : with_care (clients_only names cs) 0 0 ≡ with_care (clients_only names cs) workers rounds = rw (w, r) refl in
    let end : Stands h (with_care (clients_only names cs) workers rounds) left before = subst (λ (q : Body). Stands h q left before) same (leaves i refl (omega arith)) in
    rw e (stays before n (EndsAfter h (with_care (clients_only names cs) workers rounds) left) (end, after_among h.version (last_of before) among))
care_by false h names cs workers rounds left before n e a b i among =
    let reached : Reaches before n (line_text (codes "care") (decimal workers ∷ decimal rounds ∷ [])) (EndsAfter h (with_care (clients_only names cs) workers rounds) left) =
    then before n h (with_care (clients_only names cs) workers rounds) left (said.Care workers rounds) (line_text (codes "care") (decimal workers ∷ decimal rounds ∷ []))
    (after_care h.version workers rounds)
    (there_reaches before n h (clients_only names cs) left (last_of before) (codes "care") (decimal workers ∷ decimal rounds ∷ []) key.Care (said.Care workers rounds) i refl
    (record {
      clear = record { some = refl; clear = refl };
      no_comment = refl;
      words = (decimal_is_clear workers (omega (arith, a)), (decimal_is_clear rounds (omega (arith, b)), tt));
      goes_on = among.goes_on;
      keyword = refl;
      stands = among.among key.Care;
      read = care_read h names (client_names (clients_only names cs)) n workers rounds a b;
      placed = refl;
    })) in
    rw e reached

pub care_reaches : (h : Header) (names : List (List ℕ)) (cs : List Client) (workers rounds left : ℕ) (before : List Said) (n : ℕ) → workers ≤ 16 → rounds ≤ 65536
    → Stands h (clients_only names cs) (line_weight h (said.Care workers rounds) + left) before → IsAmong h.version (last_of before)
    → Reaches before n (care_text workers rounds) (EndsAfter h (with_care (clients_only names cs) workers rounds) left)
care_reaches h names cs workers rounds left before n a b i among = care_by _ h names cs workers rounds left before n refl a b i among

-- ---- the schedule

each_name : (clients : List Client) (turns : List ℕ) → map (name_at clients) turns ≡ map (λ t. slice_index_or (map name_of clients) t []) turns
each_name clients [] = refl
each_name clients (t ∷ turns) = rw (get_or-map name_of clients t nobody, each_name clients turns) refl

names_clear : (names : List (List ℕ)) (turns : List ℕ) → All (λ name. is_name name ≡ true) names → AllByRecursion (λ t. t < length names) turns
    → AllByRecursion IsClear (map (λ t. slice_index_or names t []) turns)
names_clear names [] good all = tt
names_clear names (t ∷ turns) good all = (name_is_clear (slice_index_or names t []) (good t [] all.0), names_clear names turns good all.1)

schedule_read : (h : Header) (segments names : List (List ℕ)) (n t : ℕ) (turns : List ℕ) → AreNames names → AllByRecursion (λ t. t < length names) (t ∷ turns)
    → rest_says h segments names n key.Schedule (map (λ t. slice_index_or names t []) (t ∷ turns)) ≡ Ok (said.Schedule (t ∷ turns))
unfolding rest_says schedule_line
schedule_read h segments names n t turns good all =
    rw (le-leb 1 (suc (length (map (λ t. slice_index_or names t []) turns))) (omega arith), each_back names (t ∷ turns) good.differ good.good all) refl

-- the parts of a scenario with these clients
abbrev pub all_parts : List (List ℕ) → List Client → List ℕ → ℕ → ℕ → Body
all_parts names cs schedule workers rounds = record { segments = names; clients = cs; schedule = schedule; workers = workers; rounds = rounds }

no_weight : (h : Header) (q : Body) (turns : List ℕ) (left : ℕ) (lines : List Said) → Stands h q left lines → Stands h q (line_weight h (said.Schedule turns) + left) lines
unfolding line_weight
no_weight h q turns left lines i = leaves i refl (omega arith)

no_end_weight : (h : Header) (q : Body) (left : ℕ) (lines : List Said) → Stands h q left lines → Stands h q (line_weight h said.End + left) lines
unfolding line_weight
no_end_weight h q left lines i = leaves i refl (omega arith)

pub schedule_reaches : (h : Header) (names : List (List ℕ)) (cs clients : List Client) (workers rounds : ℕ) (turns : List ℕ) (left : ℕ) (before : List Said) (n : ℕ)
    → map name_of cs ≡ map name_of clients → AreNames (map name_of clients) → AllByRecursion (λ t. t < length (map name_of clients)) turns
    → EndsAfter h (all_parts names cs [] workers rounds) left before → Reaches before n (schedule_text clients turns) (EndsAfter h (all_parts names cs turns workers rounds) left)
schedule_reaches h names cs clients workers rounds [] left before n e good all i = stays before n (EndsAfter h (all_parts names cs [] workers rounds) left) i
schedule_reaches h names cs clients workers rounds (t ∷ turns) left before n e good all i =
    let words : List (List ℕ) = map (λ t. slice_index_or (map name_of clients) t []) (t ∷ turns) in
    let q : Body = all_parts names cs [] workers rounds in
    let read : rest_says h names (client_names q) n key.Schedule words ≡ Ok (said.Schedule (t ∷ turns)) = rw e (schedule_read h names (map name_of clients) n t turns good all) in
    let reached : Reaches before n (line_text (codes "schedule") words) (EndsAfter h (all_parts names cs (t ∷ turns) workers rounds) left) =
    then before n h (all_parts names cs (t ∷ turns) workers rounds) left (said.Schedule (t ∷ turns)) (line_text (codes "schedule") words) (after_schedule h.version (t ∷ turns))
    (there_reaches before n h q left (last_of before) (codes "schedule") words key.Schedule (said.Schedule (t ∷ turns)) (no_weight h q (t ∷ turns) left before i.0) refl
    (record {
      clear = record { some = refl; clear = refl };
      no_comment = refl;
      words = names_clear (map name_of clients) (t ∷ turns) good.good all;
      goes_on = i.1.schedule.goes_on;
      keyword = refl;
      stands = i.1.schedule.stands;
      read = read;
      placed = refl;
    })) in
    subst (λ (ws : List (List ℕ)). Reaches before n (line_text (codes "schedule") ws) (EndsAfter h (all_parts names cs (t ∷ turns) workers rounds) left)) (sym (each_name clients (t ∷ turns))) reached

-- ---- the end

end_read : (h : Header) (segments clients : List (List ℕ)) (n : ℕ) → rest_says h segments clients n key.End [] ≡ Ok said.End
unfolding rest_says end_line
end_read h segments clients n = refl

pub end_reaches : (h : Header) (q : Body) (left : ℕ) (before : List Said) (n : ℕ) → EndsAfter h q left before
    → Reaches before n (line_text (codes "end") []) (λ now. Stands h q left now × (last_of now ≡ Some said.End))
end_reaches h q left before n i =
    there_reaches before n h q left (last_of before) (codes "end") [] key.End said.End (no_end_weight h q left before i.0) refl
    (record {
      clear = record { some = refl; clear = refl };
      no_comment = refl;
      words = tt;
      goes_on = i.1.end.goes_on;
      keyword = refl;
      stands = i.1.end.stands;
      read = end_read h q.segments (client_names q) n;
      placed = refl;
    })
