-- What a reader keeps, with one line more.
use Rattle.std.proofs.Common.{◌≡◌, ℕ, zero, suc, ◌+◌, ◌<◌, ◌≤◌, ◌^◌, ◌-◌, Bool, true, false, List, [], ◌∷◌, ◌++◌, length, refl, sym, ap, ◌∙◌, arith, inl, inr, min, replicate}
use Rattle.std.specs.Prelude.{slice_index}
use Rattle.std.proofs.lemmas.Bool.{cases_lt, false≢true}
use Rattle.cod_scenario.specs.declared.said.Header.{Header}
use Rattle.cod_scenario.specs.declared.said.Said.{Said}
use Rattle.cod_scenario.specs.declared.said.Said.TheVariants as said
use Rattle.cod_scenario.specs.Judge.{is_segment}
use Rattle.cod_scenario.specs.Lines.{header_of, body_of, segments_of, weight_of, no_header, shape_of}
use Rattle.cod_script.specs.Script.{Body}
use Rattle.cod_scenario.specs.Reading.{Accepts, IsCarried, IsNumbered, IsSound, IsHeader, Keeps, Takes, rank_of, with_header, with_segment, with_client}
use Rattle.cod_scenario.proofs.Totals.{header_more, is_late, segments_more, clients_more}
use Rattle.cod_script.proofs.RoomSums.{taken_on_none}
use Rattle.cod_scenario.proofs.Gathering.{body_more, length_more}
use Rattle.cod_scenario.proofs.Numbering.{before_more, before_wider}
use Rattle.cod_scenario.proofs.Soundness.{sound_more, no_body_in}
use Rattle.cod_scenario.proofs.Weighing.{no_weight, no_room_taken}

segment_rank : (s : Said) → is_segment s ≡ true → rank_of s ≡ 8
segment_rank (said.Segment name) e = refl
segment_rank (said.Client name) e = refl
segment_rank (said.Does line what) e = refl
segment_rank (said.Care w r) e = refl
segment_rank (said.Schedule t) e = refl
segment_rank said.End e = refl
segment_rank _ e = absurd (false≢true e)

segment_late : (lines : List Said) (s : Said) → IsSound lines → Accepts lines s → is_segment s ≡ true → 8 ≤ length lines
segment_late lines s i a e = let r = segment_rank s e in let order = a.order in let place = i.place in omega (arith, r, order, place)

pub whole_header : (lines : List Said) → IsSound lines → 8 ≤ length lines → IsHeader 8 (header_of lines)
whole_header lines i le = let e : min (length lines) 8 ≡ 8 = omega (arith, le) in rw e at i.header

pub few_nodes : (lines : List Said) (s : Said) → IsSound lines → Accepts lines s → is_segment s ≡ true → (header_of lines).nodes ≤ 64
few_nodes lines s i a e = let h = whole_header lines i (segment_late lines s i a e) in h.0.0.0.0.0.0.2

-- ---- the room

zero_at : (n x : ℕ) → slice_index (replicate n 0) x ≡ 0
zero_at zero x = refl
zero_at (suc n) zero = refl
zero_at (suc n) (suc x) = zero_at n x

takes_none : (h : Header) → Takes (replicate 64 0) h 0
takes_none h x lt = zero_at 64 x ∙ sym (taken_on_none (shape_of h) h.nodes x)

names_same : (segments : List (List ℕ)) (s : Said) → is_segment s ≡ false → with_segment segments s ≡ segments
names_same segments (said.Segment name) e = absurd (false≢true (sym e))
names_same segments _ e = refl

names_more : (segments : List (List ℕ)) (s : Said) → is_segment s ≡ true → length (with_segment segments s) ≡ length segments + 1
names_more segments (said.Segment name) e = length_more segments name
names_more segments _ e = absurd (false≢true e)

room_more : (lines : List Said) (s : Said) (h : Header) (segments : List (List ℕ)) (taken now : List ℕ) (b : Bool) → is_segment s ≡ b → IsSound lines → Accepts lines s
    → segments ≡ segments_of lines → (length lines ≤ 8 → taken ≡ replicate 64 0) → Takes taken h (length segments)
    → (is_segment s ≡ true → Takes now h (length segments + 1)) → (is_segment s ≡ false → now ≡ taken)
    → Takes now (with_header (length lines) h s) (length (with_segment segments s))
room_more lines s h segments taken now true e i a names zeros old grown kept =
    rw (names_more segments s e, is_late (length lines) h s (segment_late lines s i a e)) (grown e)
room_more lines s h segments taken now false e i a names zeros old grown kept = elim (cases_lt (length lines) 8) [
  | inl lt ↦
      let bare : segments ≡ [] = names ∙ ap (λ (p : Body). p.segments) (i.bare (omega (arith, lt))) in
      rw (names_same segments s e, bare, kept e, zeros (omega (arith, lt))) (takes_none (with_header (length lines) h s))
  | inr le ↦ rw (names_same segments s e, is_late (length lines) h s le, kept e) old
]

empty_more : (lines : List Said) (s : Said) (taken now : List ℕ) (b : Bool) → is_segment s ≡ b → IsSound lines → Accepts lines s
    → (length lines ≤ 8 → taken ≡ replicate 64 0) → (is_segment s ≡ false → now ≡ taken) → length (lines ++ s ∷ []) ≤ 8 → now ≡ replicate 64 0
empty_more lines s taken now true e i a zeros kept le =
    let n = length_more lines s in let late = segment_late lines s i a e in absurd (omega (arith, n, late, le))
empty_more lines s taken now false e i a zeros kept le = let n = length_more lines s in kept e ∙ zeros (omega (arith, n, le))

-- ---- all that is kept

pub keeps_more : (n : ℕ) (lines : List Said) (s : Said) (h : Header) (segments clients : List (List ℕ)) (w more : ℕ) (taken now : List ℕ)
    → Keeps n lines h segments clients w taken → n < 2 ^ 32 - 2 → Accepts lines s → IsNumbered (n + 1) s → IsCarried lines s → more ≡ weight_of (lines ++ s ∷ [])
    → (is_segment s ≡ true → Takes now h (length segments + 1)) → (is_segment s ≡ false → now ≡ taken) → length now ≡ length taken
    → Keeps (n + 1) (lines ++ s ∷ []) (with_header (length lines) h s) (with_segment segments s) (with_client clients s) more now
keeps_more n lines s h segments clients w more taken now k fewer a is c weight grown kept same = record {
  header_is = ap (λ x. with_header (length lines) x s) k.header_is ∙ sym (header_more lines s);
  segments_are = ap (λ x. with_segment x s) k.segments_are ∙ sym (segments_more lines s);
  clients_are = ap (λ x. with_client x s) k.clients_are ∙ sym (clients_more lines s);
  weight_is = weight;
  places = same ∙ k.places;
  empty = empty_more lines s taken now (is_segment s) refl k.sound a k.empty kept;
  room = room_more lines s h segments taken now (is_segment s) refl k.sound a k.segments_are k.empty k.room grown kept;
  fewer = let m = length_more lines s in let o = k.fewer in omega (arith, m, o);
  most_lines = omega (arith, fewer);
  numbers = rw (body_more lines s) (before_more (n + 1) (body_of lines) s is k.numbers);
  sound = sound_more lines s k.sound a c;
}

-- a line that says nothing
pub keeps_lines : (n : ℕ) (lines : List Said) (h : Header) (segments clients : List (List ℕ)) (w : ℕ) (taken : List ℕ)
    → Keeps n lines h segments clients w taken → n < 2 ^ 32 - 2 → Keeps (n + 1) lines h segments clients w taken
keeps_lines n lines h segments clients w taken k fewer = record {
  header_is = k.header_is;
  segments_are = k.segments_are;
  clients_are = k.clients_are;
  weight_is = k.weight_is;
  places = k.places;
  empty = k.empty;
  room = k.room;
  fewer = let o = k.fewer in omega (arith, o);
  most_lines = omega (arith, fewer);
  numbers = before_wider (n + 1) (n + 1 + 1) (body_of lines).clients (omega arith) k.numbers;
  sound = k.sound;
}

pub nothing_sound : IsSound []
unfolding body_of weight_of
nothing_sound = record {
  place = refl;
  header = tt;
  bare = λ le. refl;
  some = tt;
  body = no_body_in (header_of []);
  count = λ le. absurd (omega (arith, le));
  weighed = let e = no_weight (header_of []) in omega (arith, e);
  light = omega arith;
  room = no_room_taken (header_of []);
}

pub keeps_none : Keeps 0 [] no_header [] [] 0 (replicate 64 0)
unfolding header_of body_of weight_of
keeps_none = record {
  header_is = refl;
  segments_are = refl;
  clients_are = refl;
  weight_is = refl;
  places = refl;
  empty = λ le. refl;
  room = takes_none no_header;
  fewer = omega arith;
  most_lines = omega arith;
  numbers = tt;
  sound = nothing_sound;
}
