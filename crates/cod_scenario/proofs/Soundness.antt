-- What is known of accepted lines stays known with one line more.
use Rattle.std.proofs.Common.{◌≡◌, ℕ, zero, suc, ◌+◌, ◌-◌, ◌<◌, ◌≤◌, true, false, List, [], ◌∷◌, ◌++◌, length, get_or, refl, sym, ap, ◌∙◌, arith, Some, inl, inr, min}
use Rattle.std.specs.Prelude.{slice_get}
use Rattle.std.specs.List.{All, list_any}
use Rattle.std.specs.Str.{bytes_eq}
use Rattle.std.proofs.lemmas.Slice.Eq.{bytes_eq-Decides}
use Rattle.std.proofs.lemmas.List.Folds.{list_any_at}
use Rattle.std.proofs.lemmas.List.{get_or_append_left}
use Rattle.std.proofs.Math.Seq.{get_or-append_seam}
use Rattle.std.proofs.lemmas.Bool.{cases_lt, false≢true}
use Rattle.std.proofs.lemmas.List.Elements.{All-nil, All-cons, All-push, All-append}
use Rattle.std.proofs.lemmas.List.Sums.{sum_by-append}
use Rattle.cod_words.specs.Words.{is_name}
use Rattle.cod_script.specs.declared.line.Line.{Line}
use Rattle.cod_script.specs.declared.line.What.{What}
use Rattle.cod_script.specs.declared.line.What.TheVariants.{Segment, Fail}
use Rattle.cod_scenario.specs.declared.said.Header.{Header}
use Rattle.cod_scenario.specs.declared.said.Said.{Said}
use Rattle.cod_scenario.specs.declared.said.Said.TheVariants as said
use Rattle.cod_scenario.specs.Judge.{is_placed, last_of}
use Rattle.cod_script.specs.Script.{Client, Body, onto_last}
use Rattle.cod_scenario.specs.Lines.{header_of, body_of, no_body, with_line, noted, segments_of, clients_of, client_names, script_with, weight_of}
use Rattle.cod_script.specs.Sound.{AllDiffer, IsThere, IsLine, IsClient, IsDated, IsDatedClient, line_count}
use Rattle.cod_script.specs.Weight.{weight}
use Rattle.cod_scenario.specs.Reading.{IsGood, IsFresh, Accepts, HasSome, Needs, place_of, rank_of, IsHeader, IsBodyIn, IsCarried, IsLater, IsSound}
use Rattle.cod_script.proofs.Lines_added.{longer}
use Rattle.cod_scenario.proofs.Gathering.{body_more, length_more}
use Rattle.cod_scenario.proofs.Numbering.{rise_onto, client_numbers}
use Rattle.cod_scenario.proofs.Weighing.{weight_step, no_weight, no_room_taken, room_step, HasRoom}
use Rattle.cod_scenario.proofs.Totals.{header_early, header_late, clients_step, weight_late}

-- ---- the last line

last_at : {A : Type 0} (xs : List A) (x : A) (i : ℕ) → i ≡ length xs → slice_get (xs ++ x ∷ []) i ≡ Some x
last_at [] x i e = rw e refl
last_at (y ∷ ys) x zero e = absurd (omega (arith, e))
last_at (y ∷ ys) x (suc i) e = last_at ys x i (omega (arith, e))

pub last_more : (lines : List Said) (s : Said) → last_of (lines ++ s ∷ []) ≡ Some s
last_more lines s = let n = length_more lines s in last_at lines s (length (lines ++ s ∷ []) - 1) (omega (arith, n))

place_after : (s : Said) → place_of (Some s) ≡ min (rank_of s + 1) 8
place_after (said.Codfs v) = refl
place_after (said.Nodes nodes c) = refl
place_after (said.Code n k) = refl
place_after (said.Block b) = refl
place_after (said.Update u) = refl
place_after (said.Reserve r) = refl
place_after (said.Unit x) = refl
place_after _ = refl

-- ---- the header

header_step : (s : Said) (h : Header) (a b : ℕ) → rank_of s < 8 → IsHeader (rank_of s) h → IsGood h a b s → IsHeader (rank_of s + 1) (noted h s)
header_step (said.Codfs v) h a b lt old good = good
header_step (said.Nodes nodes c) h a b lt old good = (old, good.0, good.1, good.2)
header_step (said.Code n k) h a b lt old good = (old, good.0, good.1, good.2, good.3, good.4)
header_step (said.Block x) h a b lt old good = (old, good.0, good.1)
header_step (said.Update u) h a b lt old good = (old, good.0, good.1, good.2)
header_step (said.Reserve r) h a b lt old good = (old, good.0, good.1)
header_step (said.Unit x) h a b lt old good = (old, good.0, good.1)
header_step (said.Alpha x) h a b lt old good = (old, good)
header_step _ h a b lt old good = absurd (omega (arith, lt))

header_more : (lines : List Said) (s : Said) (a b : ℕ) → min (length lines) 8 ≡ rank_of s → IsHeader (min (length lines) 8) (header_of lines) → IsGood (header_of lines) a b s
    → IsHeader (min (length (lines ++ s ∷ [])) 8) (header_of (lines ++ s ∷ []))
header_more lines s a b order old good =
    let n = length_more lines s in
    elim (cases_lt (length lines) 8) [
      | inl lt ↦
          let small : rank_of s < 8 = omega (arith, order, lt) in
          let now : min (length (lines ++ s ∷ [])) 8 ≡ rank_of s + 1 = omega (arith, order, lt, n) in
          let before : IsHeader (rank_of s) (header_of lines) = rw order at old in
          rw (now, header_early lines s lt) (header_step s (header_of lines) a b small before good)
      | inr le ↦
          let now : min (length (lines ++ s ∷ [])) 8 ≡ 8 = omega (arith, le, n) in
          let then : min (length lines) 8 ≡ 8 = omega (arith, le) in
          let before : IsHeader 8 (header_of lines) = rw then at old in
          rw (now, header_late lines s le) before
    ]

-- ---- the other lines

header_line : (p : Body) (s : Said) → rank_of s < 8 → with_line p s ≡ p
header_line p (said.Codfs v) lt = refl
header_line p (said.Nodes nodes c) lt = refl
header_line p (said.Code n k) lt = refl
header_line p (said.Block b) lt = refl
header_line p (said.Update u) lt = refl
header_line p (said.Reserve r) lt = refl
header_line p (said.Unit x) lt = refl
header_line p (said.Alpha a) lt = refl
header_line p _ lt = absurd (omega (arith, lt))

pub length-onto_last : (cs : List Client) (l : Line) → length (onto_last cs l) ≡ length cs
length-onto_last [] l = refl
length-onto_last (c ∷ []) l = refl
length-onto_last (c ∷ d ∷ more) l = ap suc (length-onto_last (d ∷ more) l)

all_onto : (P : Client → Type 0) (cs : List Client) (l : Line) → All P cs → ((c : Client) → P c → P (longer c l)) → All P (onto_last cs l)
all_onto P [] l all f = all
all_onto P (c ∷ []) l all f = All-cons P (longer c l) [] (f c (all 0 c (omega arith))) (All-nil P)
all_onto P (c ∷ d ∷ more) l all f =
    All-cons P c (onto_last (d ∷ more) l) (all 0 c (omega arith)) (all_onto P (d ∷ more) l (λ k e lt. all (suc k) e (omega (arith, lt))) f)

some_more : (p : Body) (s : Said) → Needs s p → HasSome (Some s) (with_line p s)
some_more p (said.Segment name) n = let e = length_more p.segments name in omega (arith, e)
some_more p (said.Client name) n = let e = length_more p.clients (record { name = name; lines = [] }) in (n, omega (arith, e))
some_more p (said.Does line what) n = let e = length-onto_last p.clients (record { line = line; what = what }) in let m = n.1 in (n.0, omega (arith, e, m))
some_more p (said.Care w r) n = n
some_more p (said.Schedule t) n = n
some_more p said.End n = n
some_more p _ n = tt

there_more : (nodes a b : ℕ) (what : What) → a ≤ b → IsThere nodes a what → IsThere nodes b what
there_more nodes a b (Segment seg call) le t = let lt = t.0 in (omega (arith, le, lt), t.1, t.2)
there_more nodes a b (Fail node) le t = t

client_more : (nodes a b : ℕ) (c : Client) → a ≤ b → IsClient nodes a c → IsClient nodes b c
client_more nodes a b c le i = (i.0, λ k l lt. let t = i.1 k l lt in (t.0, there_more nodes a b _ le t.1))

clients_wider : (nodes a b : ℕ) (cs : List Client) → a ≤ b → All (IsClient nodes a) cs → All (IsClient nodes b) cs
clients_wider nodes a b cs le all k c lt = client_more nodes a b (get_or cs k c) le (all k c lt)

turns_wider : (a b : ℕ) (turns : List ℕ) → a ≤ b → All (λ t. t < a) turns → All (λ t. t < b) turns
turns_wider a b turns le all k d lt = let t = all k d lt in omega (arith, le, t)

-- ---- names that differ

not_among : (names : List (List ℕ)) (name : List ℕ) (i : ℕ) → i < length names → list_any (bytes_eq name) names ≡ false → get_or names i [] ≡ name → ⊥
not_among names name i lt new e =
    let same : bytes_eq name (get_or names i []) ≡ true = (bytes_eq-Decides name (get_or names i [])).1 (sym e) in
    false≢true (sym new ∙ list_any_at (bytes_eq name) names i [] lt same)

differ_push : (names : List (List ℕ)) (name : List ℕ) → AllDiffer names → list_any (bytes_eq name) names ≡ false → AllDiffer (names ++ name ∷ [])
differ_push names name d new i j li lj e =
    let n = length_more names name in
    elim (cases_lt i (length names)) [
      | inl a ↦ elim (cases_lt j (length names)) [
        | inl b ↦ d i j a b (sym (get_or_append_left names (name ∷ []) [] i a) ∙ (e ∙ get_or_append_left names (name ∷ []) [] j b))
        | inr b ↦
            let s : j ≡ length names = omega (arith, b, lj, n) in
            let last : get_or (names ++ name ∷ []) j [] ≡ name = rw s (get_or-append_seam names name [] []) in
            absurd (not_among names name i a new (sym (get_or_append_left names (name ∷ []) [] i a) ∙ (e ∙ last)))
      ]
      | inr a ↦
          let s : i ≡ length names = omega (arith, a, li, n) in
          let last : get_or (names ++ name ∷ []) i [] ≡ name = rw s (get_or-append_seam names name [] []) in
          elim (cases_lt j (length names)) [
            | inl b ↦ absurd (not_among names name j b new (sym (get_or_append_left names (name ∷ []) [] j b) ∙ (sym e ∙ last)))
            | inr b ↦ let t : j ≡ length names = omega (arith, b, lj, n) in omega (arith, s, t)
          ]
    ]

none_differ : AllDiffer []
none_differ i j li lj e = absurd (omega (arith, li))

pub no_body_in : (h : Header) → IsBodyIn h no_body
no_body_in h = record {
  most_segments = omega arith;
  segment_names = All-nil (λ name. is_name name ≡ true);
  segments_differ = none_differ;
  most_clients = omega arith;
  clients = All-nil (IsClient h.nodes 0);
  dated = All-nil (IsDatedClient h.version);
  clients_differ = none_differ;
  lines_rise = tt;
  turns = All-nil (λ t. t < 0);
  most_workers = omega arith;
  most_rounds = omega arith;
}

body_step : (h : Header) (p : Body) (s : Said) → IsBodyIn h p → IsFresh p.segments (client_names p) s
    → length (client_names p) ≡ length p.clients → IsGood h (length p.segments) (length (client_names p)) s
    → IsLater p.clients s → IsBodyIn h (with_line p s)
body_step h p (said.Segment name) i f e g later =
    let n = length_more p.segments name in
    let few = f.1 in
    record {
      most_segments = omega (arith, n, few);
      segment_names = All-push (λ name. is_name name ≡ true) p.segments name i.segment_names g;
      segments_differ = differ_push p.segments name i.segments_differ f.0;
      most_clients = i.most_clients;
      clients = clients_wider h.nodes (length p.segments) (length (p.segments ++ name ∷ [])) p.clients (omega (arith, n)) i.clients;
      dated = i.dated;
      clients_differ = i.clients_differ;
      lines_rise = i.lines_rise;
      turns = i.turns;
      most_workers = i.most_workers;
      most_rounds = i.most_rounds;
    }
body_step h p (said.Client name) i f e g later =
    let c : Client = record { name = name; lines = [] } in
    let n = length_more p.clients c in
    let few = f.1 in
    record {
      most_segments = i.most_segments;
      segment_names = i.segment_names;
      segments_differ = i.segments_differ;
      most_clients = omega (arith, n, few, e);
      clients = All-push (IsClient h.nodes (length p.segments)) p.clients c i.clients (g, All-nil (IsLine h.nodes (length p.segments)));
      dated = All-push (IsDatedClient h.version) p.clients c i.dated (All-nil (λ (l : Line). IsDated h.version l.what));
      clients_differ = rw (clients_step p (said.Client name)) (differ_push (client_names p) name i.clients_differ f.0);
      lines_rise = rw (client_numbers p.clients name) i.lines_rise;
      turns = turns_wider (length p.clients) (length (p.clients ++ c ∷ [])) p.schedule (omega (arith, n)) i.turns;
      most_workers = i.most_workers;
      most_rounds = i.most_rounds;
    }
body_step h p (said.Does line what) i f e g later =
    let l : Line = record { line = line; what = what } in
    let n = length-onto_last p.clients l in
    let most = i.most_clients in
    record {
      most_segments = i.most_segments;
      segment_names = i.segment_names;
      segments_differ = i.segments_differ;
      most_clients = omega (arith, n, most);
      clients = all_onto (IsClient h.nodes (length p.segments)) p.clients l i.clients
          (λ c j. (j.0, All-push (IsLine h.nodes (length p.segments)) c.lines l j.1 (g.0, g.1)));
      dated = all_onto (IsDatedClient h.version) p.clients l i.dated (λ c j. All-push (λ (m : Line). IsDated h.version m.what) c.lines l j g.2);
      clients_differ = rw (clients_step p (said.Does line what)) i.clients_differ;
      lines_rise = rise_onto p.clients l g.0 later i.lines_rise;
      turns = turns_wider (length p.clients) (length (onto_last p.clients l)) p.schedule (omega (arith, n)) i.turns;
      most_workers = i.most_workers;
      most_rounds = i.most_rounds;
    }
body_step h p (said.Care workers rounds) i f e g later =
    record {
      most_segments = i.most_segments;
      segment_names = i.segment_names;
      segments_differ = i.segments_differ;
      most_clients = i.most_clients;
      clients = i.clients;
      dated = i.dated;
      clients_differ = i.clients_differ;
      lines_rise = i.lines_rise;
      turns = i.turns;
      most_workers = g.0;
      most_rounds = g.1;
    }
body_step h p (said.Schedule turns) i f e g later =
    record {
      most_segments = i.most_segments;
      segment_names = i.segment_names;
      segments_differ = i.segments_differ;
      most_clients = i.most_clients;
      clients = i.clients;
      dated = i.dated;
      clients_differ = i.clients_differ;
      lines_rise = i.lines_rise;
      turns = All-append (λ t. t < length p.clients) p.schedule turns i.turns (turns_wider (length (client_names p)) (length p.clients) turns (omega (arith, e)) g);
      most_workers = i.most_workers;
      most_rounds = i.most_rounds;
    }
body_step h p _ i f e g later = i

-- ---- the number of lines

abbrev counted : Body → ℕ
counted p = line_count p.clients + (length p.segments + (length p.clients + 8))

lines_onto : (cs : List Client) (l : Line) → line_count (onto_last cs l) ≤ line_count cs + 1
lines_onto [] l = omega arith
lines_onto (c ∷ []) l = let n = length_more c.lines l in omega (arith, n)
lines_onto (c ∷ d ∷ more) l =
    let h = lines_onto (d ∷ more) l in
    let a : line_count (onto_last (c ∷ d ∷ more) l) ≡ line_count (c ∷ []) + line_count (onto_last (d ∷ more) l) = sum_by-append (λ (e : Client). length e.lines) (c ∷ []) (onto_last (d ∷ more) l) in
    let b : line_count (c ∷ d ∷ more) ≡ line_count (c ∷ []) + line_count (d ∷ more) = sum_by-append (λ (e : Client). length e.lines) (c ∷ []) (d ∷ more) in
    omega (arith, h, a, b)

count_step : (p : Body) (s : Said) → counted (with_line p s) ≤ counted p + 1
count_step p (said.Segment name) = let n = length_more p.segments name in omega (arith, n)
count_step p (said.Client name) =
    let c : Client = record { name = name; lines = [] } in
    let n = length_more p.clients c in
    let m : line_count (p.clients ++ c ∷ []) ≡ line_count p.clients + 0 = sum_by-append (λ (d : Client). length d.lines) p.clients (c ∷ []) in
    omega (arith, n, m)
count_step p (said.Does line what) =
    let l : Line = record { line = line; what = what } in
    let n = length-onto_last p.clients l in
    let m = lines_onto p.clients l in
    omega (arith, n, m)
count_step p _ = omega arith

-- ---- all together

length_names : (cs : List Client) → length (client_names (record no_body { clients = cs })) ≡ length cs
length_names [] = refl
length_names (c ∷ cs) = ap suc (length_names cs)

body_more_in : (lines : List Said) (s : Said) → IsSound lines → Accepts lines s → IsBodyIn (header_of (lines ++ s ∷ [])) (body_of (lines ++ s ∷ []))
body_more_in lines s i a = elim (cases_lt (length lines) 8) [
  | inl lt ↦
      let order = a.order in let place = i.place in
      let e : with_line (body_of lines) s ≡ no_body = header_line (body_of lines) s (omega (arith, lt, order, place)) ∙ i.bare (omega (arith, lt)) in
      rw (body_more lines s, e) (no_body_in (header_of (lines ++ s ∷ [])))
  | inr le ↦
      rw (body_more lines s, header_late lines s le) (body_step (header_of lines) (body_of lines) s i.body a.fresh (length_names (body_of lines).clients) a.good a.later)
]

count_more : (lines : List Said) (s : Said) → IsSound lines → Accepts lines s → 8 ≤ length (lines ++ s ∷ []) → counted (body_of (lines ++ s ∷ [])) ≤ length (lines ++ s ∷ [])
count_more lines s i a most = elim (cases_lt (length lines) 8) [
  | inl lt ↦
      let order = a.order in let place = i.place in
      let e : with_line (body_of lines) s ≡ no_body = header_line (body_of lines) s (omega (arith, lt, order, place)) ∙ i.bare (omega (arith, lt)) in
      rw (body_more lines s, e) most
  | inr le ↦
      let step = count_step (body_of lines) s in
      let old = i.count le in
      let n = length_more lines s in
      rw (body_more lines s) (omega (arith, step, old, n))
]

bare_more : (lines : List Said) (s : Said) → IsSound lines → Accepts lines s → length (lines ++ s ∷ []) ≤ 8 → body_of (lines ++ s ∷ []) ≡ no_body
bare_more lines s i a le =
    let n = length_more lines s in let order = a.order in let place = i.place in
    body_more lines s ∙ (header_line (body_of lines) s (omega (arith, n, le, order, place)) ∙ i.bare (omega (arith, n, le)))

weighed_more : (lines : List Said) (s : Said) → IsSound lines → Accepts lines s
    → weight (script_with (header_of (lines ++ s ∷ [])) (body_of (lines ++ s ∷ []))) ≤ weight_of (lines ++ s ∷ [])
weighed_more lines s i a = elim (cases_lt (length lines) 8) [
  | inl lt ↦
      let n = length_more lines s in
      let none = no_weight (header_of (lines ++ s ∷ [])) in
      rw (bare_more lines s i a (omega (arith, n, lt))) (omega (arith, none))
  | inr le ↦
      let step = weight_step (header_of lines) (body_of lines) s in
      let old = i.weighed in
      let more = weight_late lines s le in
      rw (body_more lines s, header_late lines s le) (omega (arith, step, old, more))
]

room_more : (lines : List Said) (s : Said) → IsSound lines → Accepts lines s → is_placed lines s ≡ true
    → HasRoom (header_of (lines ++ s ∷ [])) (body_of (lines ++ s ∷ []))
room_more lines s i a placed = elim (cases_lt (length lines) 8) [
  | inl lt ↦
      let n = length_more lines s in
      rw (bare_more lines s i a (omega (arith, n, lt))) (no_room_taken (header_of (lines ++ s ∷ [])))
  | inr le ↦ rw (body_more lines s, header_late lines s le) (room_step lines s i.room placed)
]

pub sound_more : (lines : List Said) (s : Said) → IsSound lines → Accepts lines s → IsCarried lines s → IsSound (lines ++ s ∷ [])
sound_more lines s i a c =
    let n = length_more lines s in
    let order = a.order in
    let place = i.place in
    let after = place_after s in
    record {
      place = ap place_of (last_more lines s) ∙ omega (arith, n, order, place, after);
      header = header_more lines s (length (segments_of lines)) (length (clients_of lines)) (sym place ∙ order) i.header a.good;
      bare = bare_more lines s i a;
      some = rw (last_more lines s, body_more lines s) (some_more (body_of lines) s (a.needs i.some));
      body = body_more_in lines s i a;
      count = count_more lines s i a;
      weighed = weighed_more lines s i a;
      light = c.light;
      room = room_more lines s i a c.placed;
    }
