-- The failures ahead of a caller's calls.
use Rattle.std.proofs.Common.{◌≡◌, ◌≢◌, ℕ, suc, ◌+◌, ◌-◌, ◌<◌, Bool, true, false, cond, eqb, eq-eqb, ne_eqb, Some, None, is_some, List, [], ◌∷◌, ◌++◌, length, refl, sym, ap, ◌∙◌, subst, inl, inr, arith, append_assoc, append-nil}
use Rattle.std.specs.Prelude.{All}
use Rattle.std.specs.List.{AllByRecursion, cons_option}
use Rattle.std.proofs.lemmas.Bool.{cases_eq}
use Rattle.std.proofs.lemmas.List.Elements.{recursion_from_All}
use Rattle.cod_types.specs.declared.call.SegId.{SegId}
use Rattle.cod_types.specs.declared.call.Call.{Call as Asked}
use Rattle.cod_chronicle.specs.declared.entry.Entry.{Entry}
use Rattle.cod_chronicle.specs.declared.entry.Entry.TheVariants.{Call, Down, Up, Move}
use Rattle.cod_chronicle.specs.Said.{Site, numbers_by, calls_by}
use Rattle.cod_script.specs.declared.line.Line.{Line}
use Rattle.cod_script.specs.declared.line.What.{What}
use Rattle.cod_script.specs.declared.line.What.TheVariants.{Segment, Fail}
use Rattle.cod_script.specs.Owed.{failed_ahead, failed_with, IsOut}
use Rattle.cod_script.specs.Script.{ask_of, asks}
use Rattle.cod_accounts.specs.Doing.{SeesOwnFails, SeesOwnFailsAfter}

-- ---- what failed ahead of a call, with more lines

first_call : (seg : SegId) (call : Asked) (rest : ℕ → List ℕ) (m : ℕ) → m ≡ 0 → failed_with (Segment seg call) rest m ≡ []
first_call seg call rest m is = ap (λ (b : Bool). cond b [] (rest (m - 1))) (eq-eqb m 0 is)

later_call : (seg : SegId) (call : Asked) (rest : ℕ → List ℕ) (m : ℕ) → m ≢ 0 → failed_with (Segment seg call) rest m ≡ rest (m - 1)
later_call seg call rest m other = ap (λ (b : Bool). cond b [] (rest (m - 1))) (ne_eqb m 0 other)

-- ahead of a call that the lines have, it stays
pub ahead_still : (lines more : List Line) (m : ℕ) → m < length (asks lines) → failed_ahead (lines ++ more) m ≡ failed_ahead lines m
ahead_still [] more m lt = absurd (omega arith)
ahead_still (l ∷ lines) more m lt = by l.what lt (λ k small. ahead_still lines more k small) where
  by : (w : What) → m < length (cons_option (ask_of w) (asks lines)) → ((k : ℕ) → k < length (asks lines) → failed_ahead (lines ++ more) k ≡ failed_ahead lines k)
      → failed_with w (failed_ahead (lines ++ more)) m ≡ failed_with w (failed_ahead lines) m
  by (Fail node) lt still = ap (λ (xs : List ℕ). node.0 ∷ xs) (still m lt)
  by (Segment seg call) lt still = elim (cases_eq m 0) [
    | inl is ↦ first_call seg call (failed_ahead (lines ++ more)) m is ∙ sym (first_call seg call (failed_ahead lines) m is)
    | inr other ↦ later_call seg call (failed_ahead (lines ++ more)) m other ∙ (still (m - 1) (omega arith) ∙ sym (later_call seg call (failed_ahead lines) m other))
  ]

-- ahead of a call behind the lines there is all that failed in them
pub ahead_more : (lines more : List Line) (n : ℕ) → failed_ahead (lines ++ more) (length (asks lines) + n) ≡ failed_ahead lines (length (asks lines)) ++ failed_ahead more n
ahead_more [] more n = let e : 0 + n ≡ n = omega arith in ap (failed_ahead more) e
ahead_more (l ∷ lines) more n = by l.what (ahead_more lines more n) where
  by : (w : What) → failed_ahead (lines ++ more) (length (asks lines) + n) ≡ failed_ahead lines (length (asks lines)) ++ failed_ahead more n
      → failed_with w (failed_ahead (lines ++ more)) (length (cons_option (ask_of w) (asks lines)) + n)
      ≡ failed_with w (failed_ahead lines) (length (cons_option (ask_of w) (asks lines))) ++ failed_ahead more n
  by (Fail node) r = ap (λ (xs : List ℕ). node.0 ∷ xs) r
  by (Segment seg call) r =
      let k : ℕ = length (asks lines) in
      let some : suc k + n ≢ 0 = λ z. absurd (omega arith) in
      let some' : suc k ≢ 0 = λ z. absurd (omega arith) in
      let a : suc k + n - 1 ≡ k + n = omega arith in
      let b : suc k - 1 ≡ k = omega arith in
      later_call seg call (failed_ahead (lines ++ more)) (suc k + n) some ∙ (ap (failed_ahead (lines ++ more)) a
      ∙ (r ∙ ap (λ (xs : List ℕ). xs ++ failed_ahead more n) (sym (later_call seg call (failed_ahead lines) (suc k) some' ∙ ap (failed_ahead lines) b))))

-- ---- what a caller's calls see of them

module _ (who : ℕ) (site : Site) where
  pub sees_append : (lines : List Line) (before h k : List Entry) → SeesOwnFailsAfter who lines site before h → SeesOwnFailsAfter who lines site (before ++ h) k
      → SeesOwnFailsAfter who lines site before (h ++ k)
  sees_append lines before [] k a b = subst (λ (l : List Entry). SeesOwnFailsAfter who lines site l k) (append-nil before) b
  sees_append lines before (e ∷ h) k a b =
      (a.0, sees_append lines (before ++ e ∷ []) h k a.1 (subst (λ (l : List Entry). SeesOwnFailsAfter who lines site l k) (sym (append_assoc before (e ∷ []) h)) b))

  -- where the caller has no call
  pub sees_none : (lines : List Line) (before h : List Entry) → calls_by who h ≡ [] → SeesOwnFailsAfter who lines site before h
  sees_none lines before [] none = tt
  sees_none lines before ((Call caller number stamp call reply) ∷ h) none =
      by (eqb caller.0 who) refl none (λ z. sees_none lines (before ++ Call caller number stamp call reply ∷ []) h z) where
        by : (b : Bool) → eqb caller.0 who ≡ b → cond (is_some (cond b (Some number) None)) (Call caller number stamp call reply ∷ calls_by who h) (calls_by who h) ≡ []
            → (calls_by who h ≡ [] → SeesOwnFailsAfter who lines site (before ++ Call caller number stamp call reply ∷ []) h)
            → SeesOwnFailsAfter who lines site before (Call caller number stamp call reply ∷ h)
        by true is none rest = absurd (cc none)
        by false is none rest = (
          (λ mine. (let bad : true ≡ false = sym (eq-eqb caller.0 who mine) ∙ is in absurd (cc bad))),
          rest none,
        )
  sees_none lines before ((Down stamp col node cause) ∷ h) none = (tt, sees_none lines (before ++ (Down stamp col node cause) ∷ []) h none)
  sees_none lines before ((Up stamp col node) ∷ h) none = (tt, sees_none lines (before ++ (Up stamp col node) ∷ []) h none)
  sees_none lines before ((Move stamp col node) ∷ h) none = (tt, sees_none lines (before ++ (Move stamp col node) ∷ []) h none)

  -- more lines change nothing for the calls that are there
  sees_still : (lines more : List Line) (before h : List Entry) → AllByRecursion (λ m. m < length (asks lines)) (numbers_by who h) → SeesOwnFailsAfter who lines site before h
      → SeesOwnFailsAfter who (lines ++ more) site before h
  sees_still lines more before [] low a = tt
  sees_still lines more before ((Call caller number stamp call reply) ∷ h) low a =
      by (eqb caller.0 who) refl low (λ z. sees_still lines more (before ++ Call caller number stamp call reply ∷ []) h z a.1) where
        by : (b : Bool) → eqb caller.0 who ≡ b → AllByRecursion (λ m. m < length (asks lines)) (cons_option (cond b (Some number) None) (numbers_by who h))
            → (AllByRecursion (λ m. m < length (asks lines)) (numbers_by who h) → SeesOwnFailsAfter who (lines ++ more) site (before ++ Call caller number stamp call reply ∷ []) h)
            → SeesOwnFailsAfter who (lines ++ more) site before (Call caller number stamp call reply ∷ h)
        by true is low rest = (
          (λ mine. subst (All (IsOut site before)) (sym (ahead_still lines more number low.0)) (a.0 mine)),
          rest low.1,
        )
        by false is low rest = (
          (λ mine. (let bad : true ≡ false = sym (eq-eqb caller.0 who mine) ∙ is in absurd (cc bad))),
          rest low,
        )
  sees_still lines more before ((Down stamp col node cause) ∷ h) low a = (tt, sees_still lines more (before ++ (Down stamp col node cause) ∷ []) h low a.1)
  sees_still lines more before ((Up stamp col node) ∷ h) low a = (tt, sees_still lines more (before ++ (Up stamp col node) ∷ []) h low a.1)
  sees_still lines more before ((Move stamp col node) ∷ h) low a = (tt, sees_still lines more (before ++ (Move stamp col node) ∷ []) h low a.1)

  pub sees_more : (lines more : List Line) (h : List Entry) (number : ℕ) → number ≡ length (asks lines) → All (λ m. m < number) (numbers_by who h) → SeesOwnFailsAfter who lines site [] h
      → SeesOwnFailsAfter who (lines ++ more) site [] h
  sees_more lines more h number is low a =
      sees_still lines more [] h (subst (λ (n : ℕ). AllByRecursion (λ m. m < n) (numbers_by who h)) is (recursion_from_All (λ m. m < number) (numbers_by who h) low)) a

  -- what the call at one place sees
  pub sees_at : (lines : List Line) (before pre post : List Entry) (e : Entry) → SeesOwnFailsAfter who lines site before (pre ++ e ∷ post) → SeesOwnFails who lines site (before ++ pre) e
  sees_at lines before [] post e a = subst (λ (l : List Entry). SeesOwnFails who lines site l e) (sym (append-nil before)) a.0
  sees_at lines before (f ∷ pre) post e a = subst (λ (l : List Entry). SeesOwnFails who lines site l e) (append_assoc before (f ∷ []) pre) (sees_at lines (before ++ f ∷ []) pre post e a.1)
