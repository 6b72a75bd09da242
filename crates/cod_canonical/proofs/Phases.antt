-- What stands behind the header of a canonical text is read again.
use Rattle.std.proofs.Common.{◌≡◌, ℕ, suc, ◌+◌, ◌<◌, ◌≤◌, true, false, List, [], ◌∷◌, ◌++◌, length, refl, sym, ap, ◌∙◌, arith, subst, Ok, Option, Some, map, append_assoc, append-nil, length-append}
use Rattle.std.specs.Prelude.{codes}
use Rattle.std.specs.List.{All, AllByRecursion, flat_map}
use Rattle.std.proofs.Math.Seq.{get_or-append_seam}
use Rattle.std.proofs.lemmas.List.{map_push}
use Rattle.std.proofs.lemmas.Bool.{lt-ltb}
use Rattle.cod_words.specs.Words.{is_name}
use Rattle.cod_script.specs.declared.line.Line.{Line}
use Rattle.cod_scenario.specs.declared.said.Header.{Header}
use Rattle.cod_scenario.specs.declared.said.Keyword.TheVariants as key
use Rattle.cod_scenario.specs.declared.said.Keyword.{Keyword}
use Rattle.cod_scenario.specs.declared.said.Said.{Said}
use Rattle.cod_scenario.specs.declared.said.Said.TheVariants as said
use Rattle.cod_scenario.specs.Judge.{may_follow, rest_says, added_name, segment_line, client_line, is_end, last_of}
use Rattle.cod_scenario.specs.Lines.{no_body, line_weight, with_line, holds}
use Rattle.cod_script.specs.Script.{Body, onto_last, Client}
use Rattle.cod_script.specs.Sound.{AllDiffer, IsThere, IsDated}
use Rattle.cod_script.specs.Text.{line_text, what_text, client_text, segment_text}
use Rattle.cod_canonical.specs.Again.{unnumbered_line, unnumbered_client}
use Rattle.cod_canonical.proofs.Fields.{name_is_clear, new_back}
use Rattle.cod_canonical.proofs.Steps.{Reaches, stays, goes_on, Stands, leaves, name_of, there_reaches}
use Rattle.cod_canonical.proofs.ClientLines.{AreNames, IsSpoken, IsAmong, after_client, after_does, what_reaches}
use Rattle.cod_canonical.proofs.Weights.{segments_weight, lines_weight, clients_weight, room_for_fewer}

-- ---- the segments

abbrev pub segments_only : List (List ℕ) → Body
segments_only names = record no_body { segments = names }

-- a line of this kind may come
pub record MayCome (version : ℕ) (last : Option Said) (k : Keyword) : Type 0 where
  pub goes_on : is_end last ≡ false
  pub stands : may_follow version last k ≡ true

pub after_alpha : (version a : ℕ) → MayCome version (Some (said.Alpha a)) key.Segment
unfolding may_follow
after_alpha version a = record { goes_on = refl; stands = refl }

segment_then : (version : ℕ) (name : List ℕ) → MayCome version (Some (said.Segment name)) key.Segment
unfolding may_follow
segment_then version name = record { goes_on = refl; stands = refl }

client_then : (version : ℕ) (name : List ℕ) → MayCome version (Some (said.Segment name)) key.Client
unfolding may_follow
client_then version name = record { goes_on = refl; stands = refl }

name_added : (most : ℕ) (before after : List (List ℕ)) (name : List ℕ) → AllDiffer (before ++ name ∷ after) → is_name name ≡ true → length before < most
    → added_name most before (name ∷ []) ≡ Ok tt
unfolding added_name
name_added most before after name differ good few = rw (new_back before after name differ good, lt-ltb (length before) most few) refl

segment_read : (h : Header) (before after clients : List (List ℕ)) (name : List ℕ) (n : ℕ) → AllDiffer (before ++ name ∷ after) → is_name name ≡ true → length before < 1024
    → rest_says h before clients n key.Segment (name ∷ []) ≡ Ok (said.Segment name)
unfolding rest_says segment_line
segment_read h before after clients name n differ good few = rw (name_added 1024 before after name differ good few) refl

client_read : (h : Header) (before after segments : List (List ℕ)) (name : List ℕ) (n : ℕ) → AllDiffer (before ++ name ∷ after) → is_name name ≡ true → length before < 64
    → rest_says h segments before n key.Client (name ∷ []) ≡ Ok (said.Client name)
unfolding rest_says client_line
client_read h before after segments name n differ good few = rw (name_added 64 before after name differ good few) refl

name_at_seam : (before after : List (List ℕ)) (name : List ℕ) → All (λ w. is_name w ≡ true) (before ++ name ∷ after) → is_name name ≡ true
name_at_seam before after name good =
    let n : length (before ++ name ∷ after) ≡ length before + suc (length after) = length-append before (name ∷ after) in
    let at = good (length before) [] (omega (arith, n)) in
    rw (get_or-append_seam before name after []) at at

-- this segment is the last one
abbrev pub EndsWith : Header → List (List ℕ) → ℕ → List Said → Type 0
EndsWith h all left lines = Stands h (segments_only all) left lines × MayCome h.version (last_of lines) key.Client

segment_reaches : (h : Header) (all done : List (List ℕ)) (name : List ℕ) (rest : List (List ℕ)) (left : ℕ) (before : List Said) (n : ℕ)
    → all ≡ done ++ name ∷ rest → AreNames all → length all ≤ 1024 → holds h (length all) ≡ true
    → Stands h (segments_only done) (segments_weight h (name ∷ rest) + left) before → MayCome h.version (last_of before) key.Segment
    → Reaches before n (segment_text name) (λ now. Stands h (segments_only (done ++ name ∷ [])) (segments_weight h rest + left) now × (last_of now ≡ Some (said.Segment name)))
unfolding segments_weight
segment_reaches h all done name rest left before n e names few room i may =
    let len : length all ≡ length done + suc (length rest) = ap length e ∙ length-append done (name ∷ rest) in
    let differ : AllDiffer (done ++ name ∷ rest) = subst AllDiffer e names.differ in
    let good : All (λ w. is_name w ≡ true) (done ++ name ∷ rest) = subst (λ l. All (λ w. is_name w ≡ true) l) e names.good in
    let a_name = name_at_seam done rest name good in
    let start : Stands h (segments_only done) (line_weight h (said.Segment name) + (segments_weight h rest + left)) before = leaves i refl (omega arith) in
    there_reaches before n h (segments_only done) (segments_weight h rest + left) (last_of before) (codes "segment") (name ∷ []) key.Segment (said.Segment name) start refl
    (record {
      clear = record { some = refl; clear = refl };
      no_comment = refl;
      words = (name_is_clear name a_name, tt);
      goes_on = may.goes_on;
      keyword = refl;
      stands = may.stands;
      read = segment_read h done rest [] name n differ a_name (omega (arith, len, few));
      placed = room_for_fewer h (length done + 1) (length all) (omega (arith, len)) room;
    })

pub segments_reach : (h : Header) (all done : List (List ℕ)) (name : List ℕ) (rest : List (List ℕ)) (left : ℕ) (before : List Said) (n : ℕ)
    → all ≡ done ++ name ∷ rest → AreNames all → length all ≤ 1024 → holds h (length all) ≡ true
    → Stands h (segments_only done) (segments_weight h (name ∷ rest) + left) before → MayCome h.version (last_of before) key.Segment
    → Reaches before n (flat_map segment_text (name ∷ rest)) (EndsWith h all left)
unfolding segments_weight
segments_reach h all done name [] left before n e names few room i may =
    goes_on before n (segment_text name) []
    (λ now. Stands h (segments_only (done ++ name ∷ [])) (segments_weight h [] + left) now × (last_of now ≡ Some (said.Segment name))) (EndsWith h all left)
    (segment_reaches h all done name [] left before n e names few room i may)
    (λ now m was. stays now m (EndsWith h all left) (leaves was.0 (ap segments_only (sym e)) (omega arith), rw was.1 (client_then h.version name)))
segments_reach h all done name (w ∷ rest) left before n e names few room i may =
    goes_on before n (segment_text name) (flat_map segment_text (w ∷ rest))
    (λ now. Stands h (segments_only (done ++ name ∷ [])) (segments_weight h (w ∷ rest) + left) now × (last_of now ≡ Some (said.Segment name))) (EndsWith h all left)
    (segment_reaches h all done name (w ∷ rest) left before n e names few room i may)
    (λ now m was.
    segments_reach h all (done ++ name ∷ []) w rest left now m (e ∙ sym (append_assoc done (name ∷ []) (w ∷ rest))) names few room was.0 (rw was.1 (segment_then h.version name)))

-- ---- the clients

abbrev pub clients_only : List (List ℕ) → List Client → Body
clients_only names cs = record no_body { segments = names; clients = cs }

abbrev pub client_with : List ℕ → List Line → Client
client_with name ls = record { name = name; lines = ls }

onto_seam : (cs : List Client) (c : Client) (l : Line) → onto_last (cs ++ c ∷ []) l ≡ cs ++ client_with c.name (c.lines ++ l ∷ []) ∷ []
onto_seam [] c l = refl
onto_seam (d ∷ []) c l = refl
onto_seam (d ∷ e ∷ more) c l = ap (λ x. d ∷ x) (onto_seam (e ∷ more) c l)

-- what is known of each line of a client
abbrev pub IsGoodLine : Header → ℕ → Line → Type 0
IsGoodLine h segments l = IsThere h.nodes segments l.what × IsDated h.version l.what × IsSpoken l.what

abbrev pub EndsAmong : Header → Body → ℕ → List Said → Type 0
EndsAmong h q left lines = Stands h q left lines × IsAmong h.version (last_of lines)

pub lines_reach : (h : Header) (names : List (List ℕ)) (done : List Client) (name : List ℕ) (ls rest : List Line) (left : ℕ) (before : List Said) (n : ℕ)
    → AreNames names → h.nodes ≤ 64 → AllByRecursion (IsGoodLine h (length names)) rest
    → Stands h (clients_only names (done ++ client_with name ls ∷ [])) (lines_weight h rest + left) before → IsAmong h.version (last_of before)
    → Reaches before n (flat_map (λ l. what_text names l.what) rest) (EndsAmong h (clients_only names (done ++ client_with name (ls ++ map unnumbered_line rest) ∷ [])) left)
unfolding lines_weight
lines_reach h names done name ls [] left before n good few all i among =
    stays before n (EndsAmong h (clients_only names (done ++ client_with name (ls ++ []) ∷ [])) left)
    (leaves i (ap (λ (x : List Line). clients_only names (done ++ client_with name x ∷ [])) (sym (append-nil ls))) (omega arith), among)
lines_reach h names done name ls (l ∷ rest) left before n good few all i among =
    let q : Body = clients_only names (done ++ client_with name ls ∷ []) in
    let start : Stands h q (line_weight h (said.Does 0 l.what) + (lines_weight h rest + left)) before = leaves i refl (omega arith) in
    goes_on before n (what_text names l.what) (flat_map (λ l. what_text names l.what) rest)
    (λ now. Stands h (with_line q (said.Does 0 l.what)) (lines_weight h rest + left) now × (last_of now ≡ Some (said.Does n l.what)))
    (EndsAmong h (clients_only names (done ++ client_with name (ls ++ unnumbered_line l ∷ map unnumbered_line rest) ∷ [])) left)
    (what_reaches before n h q (lines_weight h rest + left) (last_of before) good few refl among l.what start all.0.0 all.0.1 all.0.2)
    (λ now m was.
    let next : Stands h (clients_only names (done ++ client_with name (ls ++ unnumbered_line l ∷ []) ∷ [])) (lines_weight h rest + left) now =
    leaves was.0 (ap (clients_only names) (onto_seam done (client_with name ls) (unnumbered_line l))) (omega arith) in
    subst (λ (x : List Line). Reaches now m (flat_map (λ l. what_text names l.what) rest) (EndsAmong h (clients_only names (done ++ client_with name x ∷ [])) left))
    (append_assoc ls (unnumbered_line l ∷ []) (map unnumbered_line rest))
    (lines_reach h names done name (ls ++ unnumbered_line l ∷ []) rest left now m good few all.1 next (rw was.1 (after_does h.version n l.what))))

-- what is known of each client
abbrev pub IsGoodClient : Header → ℕ → Client → Type 0
IsGoodClient h segments c = AllByRecursion (IsGoodLine h segments) c.lines

weightless : (h : Header) (q : Body) (name : List ℕ) (left : ℕ) (lines : List Said) → Stands h q left lines → Stands h q (line_weight h (said.Client name) + left) lines
unfolding line_weight
weightless h q name left lines i = leaves i refl (omega arith)

client_reaches : (h : Header) (names all : List (List ℕ)) (done : List Client) (c : Client) (rest : List (List ℕ)) (left : ℕ) (before : List Said) (n : ℕ)
    → AreNames names → h.nodes ≤ 64 → all ≡ map name_of done ++ c.name ∷ rest → AreNames all → length all ≤ 64 → IsGoodClient h (length names) c
    → Stands h (clients_only names done) (lines_weight h c.lines + left) before → MayCome h.version (last_of before) key.Client
    → Reaches before n (client_text names c) (EndsAmong h (clients_only names (done ++ unnumbered_client c ∷ [])) left)
client_reaches h names all done c rest left before n good few e all_names most lines i may =
    let len : length all ≡ length (map name_of done) + suc (length rest) = ap length e ∙ length-append (map name_of done) (c.name ∷ rest) in
    let differ : AllDiffer (map name_of done ++ c.name ∷ rest) = subst AllDiffer e all_names.differ in
    let names_good : All (λ w. is_name w ≡ true) (map name_of done ++ c.name ∷ rest) = subst (λ l. All (λ w. is_name w ≡ true) l) e all_names.good in
    let a_name = name_at_seam (map name_of done) rest c.name names_good in
    goes_on before n (line_text (codes "client") (c.name ∷ [])) (flat_map (λ l. what_text names l.what) c.lines)
    (λ now. Stands h (clients_only names (done ++ client_with c.name [] ∷ [])) (lines_weight h c.lines + left) now × (last_of now ≡ Some (said.Client c.name)))
    (EndsAmong h (clients_only names (done ++ unnumbered_client c ∷ [])) left)
    (there_reaches before n h (clients_only names done) (lines_weight h c.lines + left) (last_of before) (codes "client") (c.name ∷ []) key.Client (said.Client c.name)
    (weightless h (clients_only names done) c.name (lines_weight h c.lines + left) before i) refl
    (record {
      clear = record { some = refl; clear = refl };
      no_comment = refl;
      words = (name_is_clear c.name a_name, tt);
      goes_on = may.goes_on;
      keyword = refl;
      stands = may.stands;
      read = client_read h (map name_of done) rest names c.name n differ a_name (omega (arith, len, most));
      placed = refl;
    }))
    (λ now m was. lines_reach h names done c.name [] c.lines left now m good few lines was.0 (rw was.1 (after_client h.version c.name)))

among_client : (version : ℕ) (last : Option Said) → IsAmong version last → MayCome version last key.Client
among_client version last a = record { goes_on = a.goes_on; stands = a.among key.Client }

pub clients_reach : (h : Header) (names all : List (List ℕ)) (done : List Client) (c : Client) (rest : List Client) (left : ℕ) (before : List Said) (n : ℕ)
    → AreNames names → h.nodes ≤ 64 → all ≡ map name_of done ++ map name_of (c ∷ rest) → AreNames all → length all ≤ 64 → AllByRecursion (IsGoodClient h (length names)) (c ∷ rest)
    → Stands h (clients_only names done) (clients_weight h (c ∷ rest) + left) before → MayCome h.version (last_of before) key.Client
    → Reaches before n (flat_map (client_text names) (c ∷ rest)) (EndsAmong h (clients_only names (done ++ map unnumbered_client (c ∷ rest))) left)
unfolding clients_weight
clients_reach h names all done c [] left before n good few e all_names most lines i may =
    let start : Stands h (clients_only names done) (lines_weight h c.lines + left) before = leaves i refl (omega arith) in
    goes_on before n (client_text names c) [] (EndsAmong h (clients_only names (done ++ unnumbered_client c ∷ [])) left) (EndsAmong h (clients_only names (done ++ unnumbered_client c ∷ [])) left)
    (client_reaches h names all done c [] left before n good few e all_names most lines.0 start may)
    (λ now m was. stays now m (EndsAmong h (clients_only names (done ++ unnumbered_client c ∷ [])) left) was)
clients_reach h names all done c (d ∷ rest) left before n good few e all_names most lines i may =
    let start : Stands h (clients_only names done) (lines_weight h c.lines + (clients_weight h (d ∷ rest) + left)) before = leaves i refl (omega arith) in
    let then : all ≡ map name_of (done ++ unnumbered_client c ∷ []) ++ map name_of (d ∷ rest) =
    e ∙ sym (ap (λ l. l ++ map name_of (d ∷ rest)) (map_push name_of done (unnumbered_client c)) ∙ append_assoc (map name_of done) (c.name ∷ []) (map name_of (d ∷ rest))) in
    goes_on before n (client_text names c) (flat_map (client_text names) (d ∷ rest)) (EndsAmong h (clients_only names (done ++ unnumbered_client c ∷ [])) (clients_weight h (d ∷ rest) + left))
    (EndsAmong h (clients_only names (done ++ map unnumbered_client (c ∷ d ∷ rest))) left)
    (client_reaches h names all done c (map name_of (d ∷ rest)) (clients_weight h (d ∷ rest) + left) before n good few e all_names most lines.0 start may)
    (λ now m was.
    subst (λ (x : List Client). Reaches now m (flat_map (client_text names) (d ∷ rest)) (EndsAmong h (clients_only names x) left))
    (append_assoc done (unnumbered_client c ∷ []) (map unnumbered_client (d ∷ rest)))
    (clients_reach h names all (done ++ unnumbered_client c ∷ []) d rest left now m good few then all_names most lines.1 was.0 (among_client h.version (last_of now) was.1)))
