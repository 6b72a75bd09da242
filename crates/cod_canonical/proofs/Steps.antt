-- One line of a canonical text.
use Rattle.std.proofs.Common.{◌≡◌, ℕ, suc, ◌+◌, ◌<◌, ◌≤◌, true, false, List, [], ◌∷◌, ◌++◌, length, refl, sym, ap, ◌∙◌, arith, Ok, Option, Some, not, map, append_assoc}
use Rattle.std.specs.Prelude.{nat_eq, ◌||◌, slice_index}
use Rattle.std.specs.List.{AllByRecursion, list_all}
use Rattle.std.proofs.lemmas.Bool.{le-leb}
use Rattle.std.proofs.lemmas.Bool.Decides.{nat_tests}
use Rattle.std.proofs.lemmas.List.{map_push}
use Rattle.cod_words.specs.Words.{lines_of}
use Rattle.cod_words.proofs.Round.{words_of_line}
use Rattle.cod_script.specs.declared.line.Line.{Line}
use Rattle.cod_scenario.specs.declared.said.Header.{Header}
use Rattle.cod_scenario.specs.declared.said.Keyword.{Keyword}
use Rattle.cod_scenario.specs.declared.said.Said.{Said}
use Rattle.cod_scenario.specs.declared.said.Said.TheVariants as said
use Rattle.cod_script.specs.Script.{Client, Body, onto_last}
use Rattle.cod_scenario.specs.Lines.{no_body, no_header, header_of, body_of, segments_of, clients_of, client_names, weight_of, line_weight, with_line, noted, holds}
use Rattle.cod_scenario.specs.Judge.{keyword_of, may_follow, rest_says, words_mean, words_say, carried, all_say, line_says, lines_say, is_plain_byte, is_placed, is_segment, is_end, last_of}
use Rattle.cod_script.specs.Text.{line_text}
use Rattle.cod_scenario.proofs.Totals.{header_early, header_late, weight_early, weight_late}
use Rattle.cod_scenario.proofs.Gathering.{body_more, length_more}
use Rattle.cod_scenario.proofs.Soundness.{last_more}
use Rattle.cod_canonical.specs.Again.{unnumbered_line, unnumbered_client}
use Rattle.cod_canonical.proofs.Texts.{IsClear, is_word, are_words, line_of, plain_line, no_return, first_line, line_text_is}

-- ---- what a line says

-- the line's words are those of this line, which may stand here
pub record Passes (before : List Said) (n : ℕ) (first : List ℕ) (ws : List (List ℕ)) (k : Keyword) (s : Said) : Type 0 where
  pub clear : IsClear first
  pub no_comment : nat_eq (slice_index first 0) 35 ≡ false
  pub words : AllByRecursion IsClear ws
  pub goes_on : is_end (last_of before) ≡ false
  pub keyword : keyword_of first ≡ Some k
  pub stands : may_follow (header_of before).version (last_of before) k ≡ true
  pub read : rest_says (header_of before) (segments_of before) (clients_of before) n k ws ≡ Ok s
  pub light : weight_of (before ++ s ∷ []) ≤ 268435456
  pub placed : is_placed before s ≡ true

not_none : (n : ℕ) → nat_eq (suc n) 0 ≡ false
not_none n = grind (arith, nat_tests)

meant : (before : List Said) (n : ℕ) (first : List ℕ) (ws : List (List ℕ)) (k : Keyword) (s : Said) → Passes before n first ws k s → words_mean before n first ws ≡ Ok s
unfolding words_mean
meant before n first ws k s p = rw (p.goes_on, p.keyword, p.stands, p.read) refl

carries : (before : List Said) (s : Said) → weight_of (before ++ s ∷ []) ≤ 268435456 → is_placed before s ≡ true → carried before s ≡ Ok s
unfolding carried
carries before s l p = rw (le-leb (weight_of (before ++ s ∷ [])) 268435456 l, p) refl

said_words : (before : List Said) (n : ℕ) (first : List ℕ) (ws : List (List ℕ)) (k : Keyword) (s : Said) → Passes before n first ws k s → words_say before n first ws ≡ Ok s
unfolding words_say
said_words before n first ws k s p = rw (meant before n first ws k s p, carries before s p.light p.placed) refl

all_said : (before : List Said) (n : ℕ) (first : List ℕ) (ws : List (List ℕ)) (k : Keyword) (s : Said) → Passes before n first ws k s
    → all_say before n (first ∷ ws) ≡ Ok (before ++ s ∷ [])
unfolding all_say
all_said before n first ws k s p = rw (not_none (length ws), p.no_comment, said_words before n first ws k s p) refl

pub says_line : (before : List Said) (n : ℕ) (first : List ℕ) (ws : List (List ℕ)) (k : Keyword) (s : Said) → Passes before n first ws k s
    → line_says before n (line_of first ws) ≡ Ok (before ++ s ∷ [])
unfolding line_says
says_line before n first ws k s p =
    let plain = plain_line first ws p.clear p.words in
    rw (no_return (line_of first ws) plain, plain, words_of_line first ws (is_word first p.clear) (are_words ws p.words)) (all_said before n first ws k s p)

-- ---- what a text says

-- reading goes on behind the text with what was said then
pub record Leads (before : List Said) (n : ℕ) (text : List ℕ) (now : List Said) (m : ℕ) : Type 0 where
  pub same : (rest : List ℕ) → lines_say before n (lines_of (text ++ rest)) ≡ lines_say now m (lines_of rest)

leads_line : (before now : List Said) (n : ℕ) (first : List ℕ) (ws : List (List ℕ)) → list_all is_plain_byte (line_of first ws) ≡ true
    → line_says before n (line_of first ws) ≡ Ok now → Leads before n (line_text first ws) now (n + 1)
unfolding lines_say
leads_line before now n first ws plain e = record {
  same = λ rest. rw (line_text_is first ws rest, first_line (line_of first ws) rest plain, e) refl;
}

-- the text is read, and then P holds of what was said
pub record Reaches (before : List Said) (n : ℕ) (text : List ℕ) (P : List Said → Type 0) : Type 0 where
  pub now : List Said
  pub next : ℕ
  pub leads : Leads before n text now next
  pub holds : P now

pub stays : (before : List Said) (n : ℕ) (P : List Said → Type 0) → P before → Reaches before n [] P
stays before n P h = record { now = before; next = n; leads = record { same = λ rest. refl }; holds = h }

pub goes_on : (before : List Said) (n : ℕ) (s t : List ℕ) (P Q : List Said → Type 0) → Reaches before n s P
    → ((now : List Said) (m : ℕ) → P now → Reaches now m t Q) → Reaches before n (s ++ t) Q
goes_on before n s t P Q r f =
    let then = f r.now r.next r.holds in
    record {
      now = then.now;
      next = then.next;
      leads = record { same = λ rest. rw (append_assoc s t rest) (r.leads.same (t ++ rest) ∙ then.leads.same rest) };
      holds = then.holds;
    }

pub line_reaches : (before : List Said) (n : ℕ) (first : List ℕ) (ws : List (List ℕ)) (k : Keyword) (s : Said) (P : List Said → Type 0)
    → Passes before n first ws k s → P (before ++ s ∷ []) → Reaches before n (line_text first ws) P
line_reaches before n first ws k s P p h =
    record {
      now = before ++ s ∷ [];
      next = n + 1;
      leads = leads_line before (before ++ s ∷ []) n first ws (plain_line first ws p.clear p.words) (says_line before n first ws k s p);
      holds = h;
    }

-- ---- the header

-- so many lines of a header were said
pub record Heads (count : ℕ) (h : Header) (lines : List Said) : Type 0 where
  pub header_is : header_of lines ≡ h
  pub parts_are : body_of lines ≡ no_body
  pub length_is : length lines ≡ count
  pub weight_is : weight_of lines ≡ 0

pub heads_none : Heads 0 no_header []
unfolding header_of body_of weight_of
heads_none = record { header_is = refl; parts_are = refl; length_is = refl; weight_is = refl }

heads_more : (count : ℕ) (h : Header) (lines : List Said) (s : Said) → count < 8 → with_line no_body s ≡ no_body → Heads count h lines → Heads (count + 1) (noted h s) (lines ++ s ∷ [])
heads_more count h lines s lt e i =
    let n = length_more lines s in let l = i.length_is in
    record {
      header_is = header_early lines s (omega (arith, l, lt)) ∙ ap (λ (x : Header). noted x s) i.header_is;
      parts_are = body_more lines s ∙ (ap (λ p. with_line p s) i.parts_are ∙ e);
      length_is = omega (arith, n, l);
      weight_is = weight_early lines s (omega (arith, l, lt));
    }

-- a line of the header
pub record PassesHead (h : Header) (last : Option Said) (n : ℕ) (first : List ℕ) (ws : List (List ℕ)) (k : Keyword) (s : Said) : Type 0 where
  pub clear : IsClear first
  pub no_comment : nat_eq (slice_index first 0) 35 ≡ false
  pub words : AllByRecursion IsClear ws
  pub goes_on : is_end last ≡ false
  pub keyword : keyword_of first ≡ Some k
  pub stands : may_follow h.version last k ≡ true
  pub read : rest_says h [] [] n k ws ≡ Ok s
  pub no_segment : is_segment s ≡ false
  pub no_part : with_line no_body s ≡ no_body

pub head_reaches : (before : List Said) (n count : ℕ) (h : Header) (last : Option Said) (first : List ℕ) (ws : List (List ℕ)) (k : Keyword) (s : Said)
    → Heads count h before → last_of before ≡ last → count < 8 → PassesHead h last n first ws k s
    → Reaches before n (line_text first ws) (λ now. Heads (count + 1) (noted h s) now × (last_of now ≡ Some s))
head_reaches before n count h last first ws k s i l lt p =
    let len = i.length_is in
    let none = weight_early before s (omega (arith, len, lt)) in
    let segments : segments_of before ≡ [] = ap (λ (x : Body). x.segments) i.parts_are in
    let clients : clients_of before ≡ [] = ap client_names i.parts_are in
    line_reaches before n first ws k s (λ now. Heads (count + 1) (noted h s) now × (last_of now ≡ Some s))
    (record {
      clear = p.clear;
      no_comment = p.no_comment;
      words = p.words;
      goes_on = rw l p.goes_on;
      keyword = p.keyword;
      stands = rw (i.header_is, l) p.stands;
      read = rw (i.header_is, segments, clients) p.read;
      light = omega (arith, none);
      placed = rw p.no_segment refl;
    })
    (heads_more count h before s lt p.no_part i, last_more before s)

-- ---- behind the header

abbrev pub unnumbered_parts : Body → Body
unnumbered_parts p = record p { clients = map unnumbered_client p.clients }

abbrev pub unnumbered_said : Said → Said
unnumbered_said (said.Does line what) = said.Does 0 what
unnumbered_said s = s

-- what was said gives these parts, and leaves so much of the weight
pub record Stands (h : Header) (q : Body) (left : ℕ) (lines : List Said) : Type 0 where
  pub header_is : header_of lines ≡ h
  pub parts_are : unnumbered_parts (body_of lines) ≡ q
  pub late : 8 ≤ length lines
  pub light : weight_of lines + left ≤ 268435456

-- equal parts, and no more of the weight
pub leaves : {h : Header} {q p : Body} {left less : ℕ} {lines : List Said} → Stands h q left lines → q ≡ p → less ≤ left → Stands h p less lines
leaves i e le = let light = i.light in record { header_is = i.header_is; parts_are = i.parts_are ∙ e; late = i.late; light = omega (arith, light, le) }

abbrev pub name_of : Client → List ℕ
name_of c = c.name

pub names_unnumbered : (cs : List Client) → map name_of (map unnumbered_client cs) ≡ map name_of cs
names_unnumbered [] = refl
names_unnumbered (c ∷ cs) = ap (λ l. c.name ∷ l) (names_unnumbered cs)

unnumbered_onto : (cs : List Client) (l : Line) → map unnumbered_client (onto_last cs l) ≡ onto_last (map unnumbered_client cs) (unnumbered_line l)
unnumbered_onto [] l = refl
unnumbered_onto (c ∷ []) l = ap (λ (ls : List Line). (record { name = c.name; lines = ls }) ∷ []) (map_push unnumbered_line c.lines l)
unnumbered_onto (c ∷ d ∷ cs) l = ap (λ x. unnumbered_client c ∷ x) (unnumbered_onto (d ∷ cs) l)

unnumbered_step : (p : Body) (s : Said) → unnumbered_parts (with_line p s) ≡ with_line (unnumbered_parts p) (unnumbered_said s)
unnumbered_step p (said.Client name) = ap (λ (cs : List Client). record p { clients = cs }) (map_push unnumbered_client p.clients (record { name = name; lines = [] }))
unnumbered_step p (said.Does line what) = ap (λ (cs : List Client). record p { clients = cs }) (unnumbered_onto p.clients (record { line = line; what = what }))
unnumbered_step p _ = refl

-- a line behind the header
pub record PassesThere (h : Header) (q : Body) (last : Option Said) (n : ℕ) (first : List ℕ) (ws : List (List ℕ)) (k : Keyword) (s : Said) : Type 0 where
  pub clear : IsClear first
  pub no_comment : nat_eq (slice_index first 0) 35 ≡ false
  pub words : AllByRecursion IsClear ws
  pub goes_on : is_end last ≡ false
  pub keyword : keyword_of first ≡ Some k
  pub stands : may_follow h.version last k ≡ true
  pub read : rest_says h q.segments (client_names q) n k ws ≡ Ok s
  pub placed : (not (is_segment s) || holds h (length q.segments + 1)) ≡ true

pub there_reaches : (before : List Said) (n : ℕ) (h : Header) (q : Body) (left : ℕ) (last : Option Said) (first : List ℕ) (ws : List (List ℕ)) (k : Keyword) (s : Said)
    → Stands h q (line_weight h s + left) before → last_of before ≡ last → PassesThere h q last n first ws k s
    → Reaches before n (line_text first ws) (λ now. Stands h (with_line q (unnumbered_said s)) left now × (last_of now ≡ Some s))
there_reaches before n h q left last first ws k s i l p =
    let late = i.late in
    let light = i.light in
    let more : weight_of (before ++ s ∷ []) ≡ weight_of before + line_weight h s = weight_late before s late ∙ ap (λ (x : Header). weight_of before + line_weight x s) i.header_is in
    let segments : segments_of before ≡ q.segments = ap (λ (x : Body). x.segments) i.parts_are in
    let clients : clients_of before ≡ client_names q = sym (names_unnumbered (body_of before).clients) ∙ ap client_names i.parts_are in
    let len = length_more before s in
    line_reaches before n first ws k s (λ now. Stands h (with_line q (unnumbered_said s)) left now × (last_of now ≡ Some s))
    (record {
      clear = p.clear;
      no_comment = p.no_comment;
      words = p.words;
      goes_on = rw l p.goes_on;
      keyword = p.keyword;
      stands = rw (i.header_is, l) p.stands;
      read = rw (i.header_is, segments, clients) p.read;
      light = omega (arith, more, light);
      placed = rw (i.header_is, segments) p.placed;
    }) (
      record {
        header_is = header_late before s late ∙ i.header_is;
        parts_are = ap unnumbered_parts (body_more before s) ∙ (unnumbered_step (body_of before) s ∙ ap (λ x. with_line x (unnumbered_said s)) i.parts_are);
        late = omega (arith, late, len);
        light = omega (arith, more, light);
      },
      last_more before s,
    )
