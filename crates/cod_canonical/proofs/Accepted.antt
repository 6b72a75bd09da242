-- What is known of the lines of a text that was accepted.
use Rattle.std.proofs.Common.{◌≡◌, ℕ, zero, suc, ◌+◌, ◌<◌, ◌≤◌, ◌^◌, Bool, true, false, cond, List, [], ◌∷◌, ◌++◌, length, drop, take, refl, arith, Result, Ok, Err, inl, inr, nat_eq}
use Rattle.std.specs.Prelude.{IfOk, ◌||◌, slice_index}
use Rattle.std.specs.List.{AllByRecursion, list_all, filter, slice_split, onto_first}
use Rattle.std.specs.Str.Lines.{strip_carriage_return}
use Rattle.std.proofs.lemmas.Bool.{cases_lt, le-ltb, lt-ltb}
use Rattle.std.proofs.lemmas.List.{length-take}
use Rattle.cod_words.specs.Words.{words_of, lines_of, is_not_empty}
use Rattle.cod_script.specs.declared.line.Line.{Line}
use Rattle.cod_scenario.specs.declared.refusal.Refusal.{Refusal}
use Rattle.cod_scenario.specs.declared.refusal.Refusal.TheVariants as why
use Rattle.cod_scenario.specs.declared.said.Header.{Header}
use Rattle.cod_scenario.specs.declared.said.Said.{Said}
use Rattle.cod_scenario.specs.declared.said.Said.TheVariants as said
use Rattle.cod_script.specs.Script.{Script, Client, Body, onto_last}
use Rattle.cod_scenario.specs.Lines.{no_body, header_of, body_of, script_of, script_with, with_line, noted}
use Rattle.cod_scenario.specs.Judge.{◌>>=◌, wants, word, words_mean, words_say, all_say, line_says, is_plain_byte, at_line, lines_say, to_end, text_says, last_of}
use Rattle.cod_scenario.specs.Judge.{is_end}
use Rattle.cod_scenario.specs.Reads.{reads, script_or}
use Rattle.cod_scenario.specs.Reading.{AreBefore, IsSaidAt, IsSound}
use Rattle.cod_scenario.proofs.Accepting.{bind, Any, any, words_in}
use Rattle.cod_scenario.proofs.Gathering.{body_more, body_none, length_more}
use Rattle.cod_scenario.proofs.Numbering.{before_wider}
use Rattle.cod_scenario.proofs.TextSound.{Adds, added}
use Rattle.cod_scenario.proofs.Totals.{carried_in, header_early, header_late}
use Rattle.cod_scenario.proofs.Keeping.{nothing_sound}
use Rattle.cod_canonical.proofs.ClientLines.{IsSpoken}
use Rattle.cod_canonical.proofs.Spoken.{IsSaid, AreShort, words_good}

-- ---- the lines of the clients

abbrev pub AreSpoken : List Client → Type 0
AreSpoken cs = AllByRecursion (λ (c : Client). AllByRecursion (λ (l : Line). IsSpoken l.what) c.lines) cs

lines_spoken : (ls : List Line) (l : Line) → AllByRecursion (λ (l : Line). IsSpoken l.what) ls → IsSpoken l.what
    → AllByRecursion (λ (l : Line). IsSpoken l.what) (ls ++ l ∷ [])
lines_spoken [] l all good = (good, tt)
lines_spoken (d ∷ ls) l all good = (all.0, lines_spoken ls l all.1 good)

clients_spoken : (cs : List Client) (name : List ℕ) → AreSpoken cs → AreSpoken (cs ++ (record { name = name; lines = [] }) ∷ [])
clients_spoken [] name all = (tt, tt)
clients_spoken (c ∷ cs) name all = (all.0, clients_spoken cs name all.1)

onto_spoken : (cs : List Client) (l : Line) → AreSpoken cs → IsSpoken l.what → AreSpoken (onto_last cs l)
onto_spoken [] l all good = tt
onto_spoken (c ∷ []) l all good = (lines_spoken c.lines l all.0 good, tt)
onto_spoken (c ∷ d ∷ more) l all good = (all.0, onto_spoken (d ∷ more) l all.1 good)

spoken_step : (p : Body) (s : Said) → AreSpoken p.clients → IsSaid s → AreSpoken (with_line p s).clients
spoken_step p (said.Client name) all good = clients_spoken p.clients name all
spoken_step p (said.Does line what) all good = onto_spoken p.clients (record { line = line; what = what }) all good
spoken_step p _ all good = all

-- ---- all that is known

pub record IsHeard (lines : List Said) : Type 0 where
  pub capacity : (header_of lines).capacity < 2 ^ 32
  pub spoken : AreSpoken (body_of lines).clients

noted_capacity : (h : Header) (s : Said) → h.capacity < 2 ^ 32 → IsSaid s → (noted h s).capacity < 2 ^ 32
noted_capacity h (said.Codfs v) old good = old
noted_capacity h (said.Nodes nodes capacity) old good = good
noted_capacity h (said.Code n k) old good = old
noted_capacity h (said.Block b) old good = old
noted_capacity h (said.Update u) old good = old
noted_capacity h (said.Reserve r) old good = old
noted_capacity h (said.Unit x) old good = old
noted_capacity h (said.Alpha a) old good = old
noted_capacity h _ old good = old

-- a line that was carried
record IsTaken (n : ℕ) (before : List Said) (s : Said) : Type 0 where
  pub adds : Adds n before s
  pub good : IsSaid s

heard_more : (before : List Said) (s : Said) → IsSound (before ++ s ∷ []) → IsHeard before → IsSaid s → IsHeard (before ++ s ∷ [])
heard_more before s now h good = elim (cases_lt (length before) 8) [
  | inl lt ↦
      let n = length_more before s in
      let bare : body_of (before ++ s ∷ []) ≡ no_body = now.bare (omega (arith, n, lt)) in
      record {
        capacity = rw (header_early before s lt) (noted_capacity (header_of before) s h.capacity good);
        spoken = rw bare tt;
      }
  | inr late ↦
      let same = header_late before s late in
      record {
        capacity = rw same h.capacity;
        spoken = rw (body_more before s) (spoken_step (body_of before) s h.spoken good);
      }
]

heard_none : IsHeard []
unfolding header_of body_of
heard_none = record { capacity = omega arith; spoken = tt }

-- ---- the lengths of the words

abbrev AreWithin : ℕ → List (List ℕ) → Type 0
AreWithin most ws = AllByRecursion (λ w. length w ≤ most) ws

wider : (most : ℕ) (ws : List (List ℕ)) → AreWithin most ws → AreWithin (suc most) ws
wider most [] all = tt
wider most (w ∷ ws) all = let a = all.0 in (omega (arith, a), wider most ws all.1)

within_first : (most x : ℕ) (ws : List (List ℕ)) → AreWithin most ws → AreWithin (suc most) (onto_first x ws)
within_first most x [] all = (omega arith, tt)
within_first most x (w ∷ ws) all = let a = all.0 in (omega (arith, a), wider most ws all.1)

cut_by : (cut : Bool) (most : ℕ) (ws more : List (List ℕ)) → AreWithin most ws → AreWithin most more → AreWithin most (cond cut ([] ∷ ws) more)
cut_by true most ws more a b = (omega arith, a)
cut_by false most ws more a b = b

pieces_within : (p : ℕ → Bool) (xs : List ℕ) (most : ℕ) → length xs ≤ most → AreWithin most (slice_split p xs)
pieces_within p [] most le = (omega arith, tt)
pieces_within p (x ∷ xs) zero le = absurd (omega (arith, le))
pieces_within p (x ∷ xs) (suc most) le =
    let all = pieces_within p xs most (omega (arith, le)) in
    cut_by (p x) (suc most) (slice_split p xs) (onto_first x (slice_split p xs)) (wider most (slice_split p xs) all) (within_first most x (slice_split p xs) all)

kept_by : (keep : Bool) (most : ℕ) (w : List ℕ) (ws : List (List ℕ)) → length w ≤ most → AreWithin most ws → AreWithin most (cond keep (w ∷ ws) ws)
kept_by true most w ws a all = (a, all)
kept_by false most w ws a all = all

kept_within : (p : List ℕ → Bool) (most : ℕ) (ws : List (List ℕ)) → AreWithin most ws → AreWithin most (filter p ws)
kept_within p most [] all = tt
kept_within p most (w ∷ ws) all = kept_by (p w) most w (filter p ws) all.0 (kept_within p most ws all.1)

front_within : (n most : ℕ) (ws : List (List ℕ)) → AreWithin most ws → AreWithin most (take n ws)
front_within zero most ws all = tt
front_within (suc n) most [] all = tt
front_within (suc n) most (w ∷ ws) all = (all.0, front_within n most ws all.1)

last_by : (empty : Bool) (n most : ℕ) (ws : List (List ℕ)) → AreWithin most ws → AreWithin most (cond empty (take n ws) ws)
last_by true n most ws all = front_within n most ws all
last_by false n most ws all = all

lines_within : (text : List ℕ) (most : ℕ) → length text ≤ most → AreWithin most (lines_of text)
lines_within text most le = last_by _ _ most (slice_split (λ b. nat_eq b 10) text) (pieces_within (λ b. nat_eq b 10) text most le)

stripped_by : (b : Bool) (n most : ℕ) (l : List ℕ) → length l ≤ most → length (cond b (take n l) l) ≤ most
stripped_by true n most l le = let t = length-take n l in omega (arith, t, le)
stripped_by false n most l le = le

words_within : (line : List ℕ) (most : ℕ) → length line ≤ most → AreWithin most (words_of (strip_carriage_return line))
words_within line most le =
    kept_within is_not_empty most (slice_split (λ b. nat_eq b 32) (strip_carriage_return line)) (pieces_within (λ b. nat_eq b 32) (strip_carriage_return line) most (stripped_by _ _ most line le))

each_short : (ws : List (List ℕ)) → AreWithin 16777216 ws → AreShort ws
each_short [] all i = omega arith
each_short (w ∷ ws) all zero = all.0
each_short (w ∷ ws) all (suc i) = each_short ws all.1 i

rest_short : (ws : List (List ℕ)) → AreWithin 16777216 ws → AreShort (drop 1 ws)
rest_short [] all = each_short [] tt
rest_short (w ∷ ws) all = each_short ws all.1

-- ---- one line

also : {A : Type 0} (r : Result A Refusal) (P Q : A → Type 0) → IfOk r P → IfOk r Q → IfOk r (λ x. P x × Q x)
also (Ok x) P Q p q = (p, q)
also (Err e) P Q p q = tt

words_carried : (before : List Said) (n : ℕ) (first : List ℕ) (ws : List (List ℕ)) → 1 ≤ n → AreBefore n (body_of before).clients → AreShort ws
    → IfOk (words_say before n first ws) (IsTaken n before)
unfolding words_say
words_carried before n first ws le smaller short =
    bind (words_mean before n first ws) _ (λ s. IsSaidAt n before s × IsSaid s) (IsTaken n before)
    (also (words_mean before n first ws) (IsSaidAt n before) IsSaid (words_in before n first ws le smaller) (words_good before n first ws short))
    (λ s both. carried_in before s (IsTaken n before) (λ c. record { adds = (both.0, c); good = both.1 }))

-- what is kept from line to line, where this is the number of the next
pub record IsKept (next : ℕ) (lines : List Said) : Type 0 where
  pub sound : IsSound lines
  pub numbers : AreBefore next (body_of lines).clients
  pub heard : IsHeard lines

kept_more : (before : List Said) (n : ℕ) (s : Said) → IsKept n before → IsTaken n before s → IsKept (n + 1) (before ++ s ∷ [])
kept_more before n s i t =
    let g = added before n s i.sound i.numbers t.adds in
    record { sound = g.sound; numbers = g.numbers; heard = heard_more before s g.sound i.heard t.good }

some_or_none : (b : Bool) (before : List Said) (n : ℕ) (r : Result Said Refusal) → IsKept n before → IfOk r (IsTaken n before)
    → IfOk (cond b (Ok before) (r >>= λ new. Ok (before ++ new ∷ []))) (IsKept (n + 1))
some_or_none true before n r i a = record { sound = i.sound; numbers = before_wider n (n + 1) (body_of before).clients (omega arith) i.numbers; heard = i.heard }
some_or_none false before n r i a = bind r _ (IsTaken n before) (IsKept (n + 1)) a (λ s t. kept_more before n s i t)

all_kept : (before : List Said) (n : ℕ) (ws : List (List ℕ)) → 1 ≤ n → AreWithin 16777216 ws → IsKept n before → IfOk (all_say before n ws) (IsKept (n + 1))
unfolding all_say
all_kept before n ws le short i =
    some_or_none (nat_eq (length ws) 0 || nat_eq (slice_index (word ws 0) 0) 35) before n (words_say before n (word ws 0) (drop 1 ws)) i
    (words_carried before n (word ws 0) (drop 1 ws) le i.numbers (rest_short ws short))

line_kept : (before : List Said) (n : ℕ) (text : List ℕ) → 1 ≤ n → length text ≤ 16777216 → IsKept n before → IfOk (line_says before n text) (IsKept (n + 1))
unfolding line_says
line_kept before n text le short i =
    bind (wants (list_all is_plain_byte (strip_carriage_return text)) why.BadByte) _ Any (IsKept (n + 1)) (any (wants (list_all is_plain_byte (strip_carriage_return text)) why.BadByte))
    (λ u _. all_kept before n (words_of (strip_carriage_return text)) le (words_within text 16777216 short) i)

-- ---- the whole text

at_kept : (n : ℕ) (r : Result (List Said) Refusal) (f : List Said → Result (List Said) (ℕ × Refusal)) → IfOk r (IsKept (n + 1)) → ((x : List Said) → IsKept (n + 1) x → IfOk (f x) IsHeard)
    → IfOk (at_line n r f) IsHeard
at_kept n (Ok x) f q h = h x q
at_kept n (Err w) f q h = tt

lines_kept : (before : List Said) (n : ℕ) (ls : List (List ℕ)) → 1 ≤ n → AreWithin 16777216 ls → IsKept n before → IfOk (lines_say before n ls) IsHeard
unfolding lines_say
lines_kept before n [] le short i = i.heard
lines_kept before n (t ∷ ls) le short i =
    at_kept n (line_says before n t) _ (line_kept before n t le short.0 i) (λ now k. lines_kept now (n + 1) ls (omega arith) short.1 k)

ended_kept : (b : Bool) (lines : List Said) (e : ℕ × Refusal) → IsHeard lines → IfOk (cond b (Ok lines) (Err e)) IsHeard
ended_kept true lines e h = h
ended_kept false lines e h = tt

to_end_kept : (count : ℕ) (r : Result (List Said) (ℕ × Refusal)) → IfOk r IsHeard → IfOk (to_end count r) IsHeard
to_end_kept count (Ok lines) h = ended_kept (is_end (last_of lines)) lines (count + 1, why.NoEnd) h
to_end_kept count (Err e) h = tt

none_kept : IsKept 1 []
none_kept = record { sound = nothing_sound; numbers = rw body_none tt; heard = heard_none }

text_kept : (text : List ℕ) → IfOk (text_says text) IsHeard
unfolding text_says
text_kept text = elim (cases_lt 16777216 (length text)) [
  | inl lt ↦ rw (lt-ltb 16777216 (length text) lt) tt
  | inr le ↦
      rw (le-ltb 16777216 (length text) le)
      (to_end_kept (length (lines_of text)) (lines_say [] 1 (lines_of text)) (lines_kept [] 1 (lines_of text) (omega arith) (lines_within text 16777216 le) none_kept))
]

-- a scenario that some lines gave
pub record IsGiven (p : Script) : Type 0 where
  pub lines : List Said
  pub script_is : script_with (header_of lines) (body_of lines) ≡ p
  pub heard : IsHeard lines

given : (r : Result (List Said) (ℕ × Refusal)) → IfOk r IsHeard → IfOk (script_or r) IsGiven
unfolding script_of
given (Ok lines) h = record { lines = lines; script_is = refl; heard = h }
given (Err e) h = tt

pub text_is_given : (text : List ℕ) (p : Script) → reads text ≡ Ok p → IsGiven p
text_is_given text p e = let h = given (text_says text) (text_kept text) in rw e at h
