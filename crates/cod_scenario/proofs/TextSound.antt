-- What a text gives is a scenario.
use Rattle.std.proofs.Common.{◌≡◌, ℕ, suc, ◌+◌, ◌<◌, ◌≤◌, ◌^◌, Bool, true, false, cond, List, [], ◌∷◌, ◌++◌, length, drop, refl, arith, Result, Ok, Err, inl, inr, nat_eq}
use Rattle.std.specs.Prelude.{IfOk, ◌||◌, slice_index}
use Rattle.std.specs.List.{list_all}
use Rattle.std.specs.Str.Lines.{strip_carriage_return}
use Rattle.std.proofs.lemmas.Bool.{cases_lt, lt-ltb, le-ltb}
use Rattle.cod_words.specs.Words.{words_of, lines_of}
use Rattle.cod_scenario.specs.declared.refusal.Refusal.{Refusal}
use Rattle.cod_scenario.specs.declared.refusal.Refusal.TheVariants as why
use Rattle.cod_scenario.specs.declared.said.Said.{Said}
use Rattle.cod_script.specs.Script.{Script}
use Rattle.cod_scenario.specs.Lines.{script_of, script_with, header_of, body_of}
use Rattle.cod_scenario.specs.Judge.{◌>>=◌, wants, word, words_mean, words_say, all_say, line_says, is_plain_byte, at_line, lines_say, to_end, text_says, last_of, is_end}
use Rattle.cod_scenario.specs.Reads.{reads, script_or}
use Rattle.cod_script.specs.Sound.{IsScenario, line_count}
use Rattle.cod_scenario.specs.Reading.{AreBefore, IsCarried, IsSaidAt, IsSound}
use Rattle.cod_scenario.proofs.Accepting.{bind, Any, any, words_in}
use Rattle.cod_scenario.proofs.Soundness.{sound_more}
use Rattle.cod_scenario.proofs.Gathering.{body_more, body_none, length_more}
use Rattle.cod_scenario.proofs.Numbering.{before_more, before_wider}
use Rattle.cod_scenario.proofs.Totals.{carried_in}
use Rattle.cod_scenario.proofs.Keeping.{nothing_sound}
use Rattle.cod_scenario.proofs.Finishing.{few_said, whole}
use Rattle.cod_scenario.proofs.LineCount.{few_lines}

-- sound lines, at most so many, with numbers below the next line's
pub record Grew (most next : ℕ) (lines : List Said) : Type 0 where
  pub sound : IsSound lines
  pub few : length lines ≤ most
  pub numbers : AreBefore next (body_of lines).clients

-- a line that may be added, with its number
abbrev pub Adds : ℕ → List Said → Said → Type 0
Adds n before s = IsSaidAt n before s × IsCarried before s

words_say_in : (before : List Said) (n : ℕ) (first : List ℕ) (ws : List (List ℕ)) → 1 ≤ n → AreBefore n (body_of before).clients → IfOk (words_say before n first ws) (Adds n before)
unfolding words_say
words_say_in before n first ws le smaller =
    bind (words_mean before n first ws) _ (IsSaidAt n before) (Adds n before) (words_in before n first ws le smaller) (λ s a. carried_in before s (Adds n before) (λ c. (a, c)))

pub added : (before : List Said) (n : ℕ) (s : Said) → IsSound before → AreBefore n (body_of before).clients → Adds n before s → Grew (length before + 1) (n + 1) (before ++ s ∷ [])
added before n s i smaller a =
    let l = length_more before s in
    record {
      sound = sound_more before s i a.0.accepts a.1;
      few = omega (arith, l);
      numbers = rw (body_more before s) (before_more n (body_of before) s a.0.numbered smaller);
    }

some_or_none : (b : Bool) (before : List Said) (n : ℕ) (r : Result Said Refusal) → IsSound before → AreBefore n (body_of before).clients → IfOk r (Adds n before)
    → IfOk (cond b (Ok before) (r >>= λ new. Ok (before ++ new ∷ []))) (Grew (length before + 1) (n + 1))
some_or_none true before n r i smaller a = record { sound = i; few = omega arith; numbers = before_wider n (n + 1) (body_of before).clients (omega arith) smaller }
some_or_none false before n r i smaller a = bind r _ (Adds n before) (Grew (length before + 1) (n + 1)) a (λ s b. added before n s i smaller b)

all_in : (before : List Said) (n : ℕ) (ws : List (List ℕ)) → 1 ≤ n → IsSound before → AreBefore n (body_of before).clients → IfOk (all_say before n ws) (Grew (length before + 1) (n + 1))
unfolding all_say
all_in before n ws le i smaller =
    some_or_none (nat_eq (length ws) 0 || nat_eq (slice_index (word ws 0) 0) 35) before n (words_say before n (word ws 0) (drop 1 ws)) i smaller
    (words_say_in before n (word ws 0) (drop 1 ws) le smaller)

line_in : (before : List Said) (n : ℕ) (text : List ℕ) → 1 ≤ n → IsSound before → AreBefore n (body_of before).clients → IfOk (line_says before n text) (Grew (length before + 1) (n + 1))
unfolding line_says
line_in before n text le i smaller =
    let Now : List Said → Type 0 = Grew (length before + 1) (n + 1) in
    bind (wants (list_all is_plain_byte (strip_carriage_return text)) why.BadByte) _ Any Now (any (wants (list_all is_plain_byte (strip_carriage_return text)) why.BadByte))
    (λ u _. all_in before n (words_of (strip_carriage_return text)) le i smaller)

at_in : {A : Type 0} (n : ℕ) (r : Result A Refusal) (f : A → Result A (ℕ × Refusal)) (Q P : A → Type 0) → IfOk r Q → ((x : A) → Q x → IfOk (f x) P) → IfOk (at_line n r f) P
at_in n (Ok x) f Q P q h = h x q
at_in n (Err w) f Q P q h = tt

-- sound lines, at most so many
pub record Few (most : ℕ) (lines : List Said) : Type 0 where
  pub sound : IsSound lines
  pub few : length lines ≤ most

wider : (a b : ℕ) (r : Result (List Said) (ℕ × Refusal)) → a ≤ b → IfOk r (Few a) → IfOk r (Few b)
wider a b (Ok l) le g = let few = g.few in record { sound = g.sound; few = omega (arith, few, le) }
wider a b (Err e) le g = tt

lines_in : (before : List Said) (n : ℕ) (ls : List (List ℕ)) → 1 ≤ n → IsSound before → AreBefore n (body_of before).clients → IfOk (lines_say before n ls) (Few (length before + length ls))
unfolding lines_say
lines_in before n [] le i smaller = record { sound = i; few = omega arith }
lines_in before n (t ∷ ls) le i smaller =
    at_in n (line_says before n t) _ (Grew (length before + 1) (n + 1)) (Few (length before + suc (length ls))) (line_in before n t le i smaller)
    (λ now g. let few = g.few in
    wider (length now + length ls) (length before + suc (length ls)) (lines_say now (n + 1) ls) (omega (arith, few)) (lines_in now (n + 1) ls (omega arith) g.sound g.numbers))

-- the lines of a scenario, and few of them a client's
abbrev Makes : List Said → Type 0
Makes lines = IsScenario (script_with (header_of lines) (body_of lines)) × (line_count (body_of lines).clients < 2 ^ 24)

ended_in : (b : Bool) (lines : List Said) (e : ℕ × Refusal) → (b ≡ true → Makes lines) → IfOk (cond b (Ok lines) (Err e)) Makes
ended_in true lines e h = h refl
ended_in false lines e h = tt

makes : (n : ℕ) (lines : List Said) → n ≤ 2 ^ 24 + 1 → Few n lines → is_end (last_of lines) ≡ true → Makes lines
makes n lines le g e = let few = few_said n lines g.sound e g.few in (whole n lines g.sound e g.few (omega (arith, le)), omega (arith, few, le))

whole_in : (count n : ℕ) (r : Result (List Said) (ℕ × Refusal)) → n ≤ 2 ^ 24 + 1 → IfOk r (Few n) → IfOk (to_end count r) Makes
whole_in count n (Ok lines) le g = ended_in (is_end (last_of lines)) lines (count + 1, why.NoEnd) (makes n lines le g)
whole_in count n (Err e) le g = tt

none_before : AreBefore 1 (body_of []).clients
none_before = rw body_none tt

text_in : (text : List ℕ) → IfOk (text_says text) Makes
unfolding text_says
text_in text = elim (cases_lt 16777216 (length text)) [
  | inl lt ↦ rw (lt-ltb 16777216 (length text) lt) tt
  | inr le ↦
      let few = few_lines text in
      rw (le-ltb 16777216 (length text) le)
      (whole_in (length (lines_of text)) (length (lines_of text)) (lines_say [] 1 (lines_of text)) (omega (arith, few, le))
      (wider (0 + length (lines_of text)) (length (lines_of text)) (lines_say [] 1 (lines_of text)) (omega arith) (lines_in [] 1 (lines_of text) (omega arith) nothing_sound none_before)))
]

scripted : (r : Result (List Said) (ℕ × Refusal)) → IfOk r Makes → IfOk (script_or r) (λ p. IsScenario p × (line_count p.clients < 2 ^ 24))
unfolding script_of
scripted (Ok lines) h = h
scripted (Err e) h = tt

text_makes : (text : List ℕ) (p : Script) → reads text ≡ Ok p → IsScenario p × (line_count p.clients < 2 ^ 24)
text_makes text p e = let h = scripted (text_says text) (text_in text) in rw e at h

pub text_is_scenario : (text : List ℕ) (p : Script) → reads text ≡ Ok p → IsScenario p
text_is_scenario text p e = (text_makes text p e).0

pub text_has_few : (text : List ℕ) (p : Script) → reads text ≡ Ok p → line_count p.clients < 2 ^ 24
text_has_few text p e = (text_makes text p e).1
