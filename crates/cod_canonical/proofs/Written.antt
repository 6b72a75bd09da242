-- The canonical text doesn't tell the numbers of the lines.
use Rattle.std.proofs.Common.{◌≡◌, ℕ, ◌<◌, List, [], ◌∷◌, ◌++◌, length, refl, sym, ap, ◌∙◌, Result, Ok, Err, map, inl, inr}
use Rattle.std.specs.Prelude.{codes}
use Rattle.std.specs.List.{flat_map}
use Rattle.std.proofs.Math.ListN.{get_or-map}
use Rattle.std.proofs.lemmas.Bool.{cases_lt, lt-ltb}
use Rattle.cod_script.specs.declared.line.Line.{Line}
use Rattle.cod_scenario.specs.declared.refusal.Refusal.{Refusal}
use Rattle.cod_scenario.specs.declared.refusal.Refusal.TheVariants.{TooLong}
use Rattle.cod_script.specs.Script.{Script, Client, nobody}
use Rattle.cod_scenario.specs.Judge.{text_says}
use Rattle.cod_scenario.specs.Reads.{reads}
use Rattle.cod_script.specs.Text.{canonical_text, header_text, client_text, what_text, schedule_text, line_text, name_at}
use Rattle.cod_canonical.specs.Again.{unnumbered, unnumbered_client, unnumbered_line, IsWrittenAgain}
use Rattle.cod_canonical.proofs.Canonical.{is_read_again}

same_header : (p : Script) → header_text (unnumbered p) ≡ header_text p
unfolding header_text
same_header p = refl

same_lines : (segments : List (List ℕ)) (ls : List Line) → flat_map (λ (l : Line). what_text segments l.what) (map unnumbered_line ls) ≡ flat_map (λ (l : Line). what_text segments l.what) ls
same_lines segments [] = refl
same_lines segments (l ∷ ls) = ap (λ t. what_text segments l.what ++ t) (same_lines segments ls)

same_clients : (segments : List (List ℕ)) (cs : List Client) → flat_map (client_text segments) (map unnumbered_client cs) ≡ flat_map (client_text segments) cs
same_clients segments [] = refl
same_clients segments (c ∷ cs) = rw (same_lines segments c.lines, same_clients segments cs) refl

same_names : (clients : List Client) (turns : List ℕ) → map (name_at (map unnumbered_client clients)) turns ≡ map (name_at clients) turns
same_names clients [] = refl
same_names clients (t ∷ turns) =
    let at : name_at (map unnumbered_client clients) t ≡ name_at clients t = ap (λ (c : Client). c.name) (get_or-map unnumbered_client clients t nobody) in
    rw (at, same_names clients turns) refl

same_schedule : (clients : List Client) (turns : List ℕ) → schedule_text (map unnumbered_client clients) turns ≡ schedule_text clients turns
same_schedule clients [] = refl
same_schedule clients (t ∷ turns) = ap (line_text (codes "schedule")) (same_names clients (t ∷ turns))

same_text : (p : Script) → canonical_text (unnumbered p) ≡ canonical_text p
same_text p = rw (same_header p, same_clients p.segments p.clients, same_schedule p.clients p.schedule) refl

too_long : (text : List ℕ) → 16777216 < length text → reads text ≡ Err (0, TooLong)
unfolding text_says
too_long text lt = rw (lt-ltb 16777216 (length text) lt) refl

not_both : (r : Result Script (ℕ × Refusal)) (e : ℕ × Refusal) (p : Script) → r ≡ Err e → r ≡ Ok p → ⊥
not_both r e p a b = cc

same_ok : (r : Result Script (ℕ × Refusal)) (p q : Script) → r ≡ Ok p → r ≡ Ok q → p ≡ q
same_ok r p q a b = cc

pub is_written_again : IsWrittenAgain
is_written_again text p again e r = elim (cases_lt 16777216 (length (canonical_text p))) [
  | inl lt ↦ absurd (not_both (reads (canonical_text p)) (0, TooLong) again (too_long (canonical_text p) lt) r)
  | inr le ↦
      let found = is_read_again text p e le in
      let same : found.0 ≡ again = same_ok (reads (canonical_text p)) found.0 again found.1 r in
      sym (same_text again) ∙ (ap (λ x. canonical_text (unnumbered x)) (sym same) ∙ (ap canonical_text found.2 ∙ same_text p))
]
