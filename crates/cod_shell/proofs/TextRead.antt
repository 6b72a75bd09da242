-- What was read of a source, and that a text of a scenario is not refused.
use Rattle.std.proofs.Common.{◌≡◌, ◌⊎◌, inl, inr, ℕ, ◌<◌, ◌≤◌, Bool, true, false, cond, List, [], ◌++◌, length, Option, Some, None, Ok, Err, refl, sym, ap, ◌∙◌, arith, append-nil, append_assoc}
use Rattle.std.specs.Prelude.{nat_lt}
use Rattle.std.specs.Io.KnownBytes.{prepend_known, IsAtEnd}
use Rattle.std.proofs.lemmas.Bool.{cases_lt, lt-ltb}
use Rattle.std.proofs.lemmas.Bool.Decides.{nat_tests}
use Rattle.std.proofs.lemmas.List.{length-append}
use Rattle.cod_words.specs.Words.{lines_of as lines_in}
use Rattle.cod_script.specs.Script.{Script}
use Rattle.cod_scenario.specs.Judge.{text_says, to_end, lines_say}
use Rattle.cod_scenario.specs.Reads.{reads, script_or}
use Rattle.cod_scenario.specs.declared.refusal.Refusal.TheVariants.{TooLong}
use Rattle.cod_shell.specs.Reading.{HasScenario, ReadsAtMost, ReadsScenario, RefusesText}

-- ---- how much was read

nothing : (left : Option (List ℕ)) → prepend_known [] left ≡ left
nothing None = refl
nothing (Some xs) = refl

pub reads_none : (most : ℕ) (left left' : Option (List ℕ)) → left' ≡ left → ReadsAtMost most left left'
reads_none most left left' same = ([], sym same ∙ sym (nothing left'), omega arith)

-- what was read in two parts
pub reads_both : (front back : List ℕ) (left middle left' : Option (List ℕ)) → left ≡ prepend_known front middle → middle ≡ prepend_known back left'
    → left ≡ prepend_known (front ++ back) left'
reads_both front back left middle None first second = first ∙ ap (prepend_known front) second
reads_both front back left middle (Some xs) first second = first ∙ ap (prepend_known front) second ∙ ap Some (sym (append_assoc front back xs))

-- ---- a text that was read

-- a text of a scenario isn't too long
pub short_text : (text : List ℕ) (x : Script) → reads text ≡ Ok x → length text ≤ 16777216
unfolding text_says
short_text text x e = by (nat_lt 16777216 (length text)) refl e where
  by : (o : Bool) → nat_lt 16777216 (length text) ≡ o → script_or (cond o (Err (0, TooLong)) (to_end (length (lines_in text)) (lines_say [] 1 (lines_in text)))) ≡ Ok x → length text ≤ 16777216
  by true t e = cc
  by false t e = grind (arith, nat_tests)

pub reads_as : (Holds : Script → Type 0) (left left' : Option (List ℕ)) (bytes text : List ℕ) (x : Script) → left ≡ prepend_known bytes left' → (length bytes ≤ 16777216 → IsAtEnd left') → text ≡ bytes
    → reads text ≡ Ok x → Holds x → ReadsScenario Holds left left'
reads_as Holds left left' bytes text x read end same is holds =
    let whole : reads bytes ≡ Ok x = ap reads (sym same) ∙ is in
    record { bytes = bytes; scenario = x; read = read; end = end (short_text bytes x whole); text = whole; holds = holds }

-- what holds of the scenario said otherwise
pub scenario_as : (P Q : Script → Type 0) (left left' : Option (List ℕ)) → ((x : Script) → P x → Q x) → ReadsScenario P left left' → ReadsScenario Q left left'
scenario_as P Q left left' so d = record { bytes = d.bytes; scenario = d.scenario; read = d.read; end = d.end; text = d.text; holds = so d.scenario d.holds }

-- the refusal's line taken in another way
pub refusal_as : (left left' : Option (List ℕ)) (T U : List ℕ → Type 0) → ((text : List ℕ) → T text → U text) → RefusesText left left' T → RefusesText left left' U
refusal_as left left' T U so r = record { bytes = r.bytes; read = r.read; most = r.most; end = r.end; line = r.line; why = r.why; refused = r.refused; printed = so _ r.printed }

-- ---- what is a scenario is not refused

-- bytes that were read to the end are all that there were
all_read : (bytes front : List ℕ) (left : Option (List ℕ)) → Some bytes ≡ prepend_known front left → IsAtEnd left → bytes ≡ front
all_read bytes front None is end = cc
all_read bytes front (Some xs) is end =
    let same : bytes ≡ front ++ xs = cc in
    same ∙ ap (λ (l : List ℕ). front ++ l) end ∙ append-nil front

-- and there were no fewer than were read
no_fewer : (bytes front : List ℕ) (left : Option (List ℕ)) → Some bytes ≡ prepend_known front left → length front ≤ length bytes
no_fewer bytes front None is = cc
no_fewer bytes front (Some xs) is =
    let same : bytes ≡ front ++ xs = cc in
    rw (same, length-append front xs) (omega arith)

too_long : (bytes : List ℕ) → 16777216 < length bytes → reads bytes ≡ Err (0, TooLong)
unfolding text_says
too_long bytes long = rw (lt-ltb 16777216 (length bytes) long) refl

text_stands : (bytes : List ℕ) (x : Script) (left left' : Option (List ℕ)) (Took : List ℕ → Type 0) → left ≡ Some bytes → reads bytes ≡ Ok x → RefusesText left left' Took → ⊥
text_stands bytes x left left' Took is text r =
    let read : Some bytes ≡ prepend_known r.bytes left' = sym is ∙ r.read in
    elim (cases_lt 16777216 (length r.bytes)) [
      | inl long ↦ (let few = no_fewer bytes r.bytes left' read in let e = too_long bytes (omega (arith, long, few)) in cc)
      | inr short ↦ (let same = all_read bytes r.bytes left' read (r.end short) in let e : reads bytes ≡ Err (r.line, r.why) = ap reads same ∙ r.refused in cc)
    ]

pub not_refused : (left left' : Option (List ℕ)) (Took : List ℕ → Type 0) → HasScenario left → RefusesText left left' Took → ⊥
not_refused left left' Took has refused = text_stands has.0 has.1 left left' Took has.2 has.3 refused

-- of five statuses three don't come
pub two_left : (status : ℕ) → (status ≡ 0) ⊎ ((status ≡ 3) ⊎ ((status ≡ 4) ⊎ ((status ≡ 5) ⊎ (status ≡ 6)))) → (status ≡ 3 → ⊥) → (status ≡ 4 → ⊥) → (status ≡ 5 → ⊥)
    → (status ≡ 0) ⊎ (status ≡ 6)
two_left status s three four five =
    elim s [
      | inl a ↦ inl a
      | inr t ↦ elim t [ inl b ↦ absurd (three b) | inr u ↦ elim u [ inl c ↦ absurd (four c) | inr v ↦ elim v [ inl d ↦ absurd (five d) | inr e ↦ inr e ] ] ]
    ]
