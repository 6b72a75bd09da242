-- The nodes that are killed at the end are those that the scenario fails.
use Rattle.std.proofs.Common.{◌≡◌, inl, inr, ℕ, ◌+◌, ◌<◌, ◌≤◌, true, false, Option, Some, List, [], ◌∷◌, ◌++◌, length, sym, ap, ◌∙◌, subst, arith}
use Rattle.std.specs.Prelude.{is_some, slice_get}
use Rattle.std.specs.List.{All, AllByRecursion}
use Rattle.std.proofs.lemmas.Bool.{cases_lt}
use Rattle.std.proofs.lemmas.List.{get_or_past, length-append}
use Rattle.std.proofs.lemmas.List.Elements.{filter_map-append, recursion_from_All}
use Rattle.cod_types.specs.declared.call.NodeId.{NodeId}
use Rattle.cod_board.specs.declared.kill.Kill.{Kill}
use Rattle.cod_board.specs.Kills.{kill_of}
use Rattle.cod_board.proofs.Found.{known_has}
use Rattle.cod_script.specs.declared.line.Line.{Line}
use Rattle.cod_script.specs.declared.line.What.TheVariants.{Fail}
use Rattle.cod_script.specs.Owed.{failed_ahead, is_fail, owed_with_care, FailsBehind, IsFailLine}
use Rattle.cod_script.specs.Script.{Client, Script, ask_of, asks, lines_by, nobody}
use Rattle.cod_seg.specs.Next.{open_in}
use Rattle.cod_seg.specs.Seg.{Seg}
use Rattle.cod_turns.specs.Turns.{Course}
use Rattle.cod_accounts.specs.Closing.{ClosedBoard, Fulfils, HasNoFail}
use Rattle.cod_accounts.specs.Working.{IsKilled, Pass}
use Rattle.cod_accounts.proofs.Failing.{ahead_more}
use Rattle.cod_closing.specs.Closing.{log_of}
use Rattle.cod_run.proofs.Shifting.{get_below}

-- the passes have done what their callers owe
abbrev AllFulfil : Course → List (Pass Seg) → Type 0
AllFulfil x passes = (c : ℕ) (p : Pass Seg) → slice_get passes c ≡ Some p → Fulfils log_of open_in x (owed_with_care x.script) c p

none_fails : (front : List Line) (l : Line) (rest : List Line) → HasNoFail (front ++ l ∷ rest) → is_fail l ≡ false
none_fails [] l rest none = none.0
none_fails (f ∷ fs) l rest none = none_fails fs l rest none.1

-- each kill was made by a line that fails the node
pub killed_by_line : (x : Course) (passes : List (Pass Seg)) (kills : List (Option Kill)) → AllFulfil x passes → ClosedBoard passes kills
    → (node : ℕ) (kill : Kill) → kill_of kills node ≡ Some kill → IsFailLine x.script kill.line node
killed_by_line x passes kills fulfil board node kill is =
    let made = board.made node kill is in
    let f = fulfil made.0 made.1 made.2 in
    let by = f.worked.made node kill made.3 in
    elim f.lines [
      | inl own ↦ record {
        who = made.0;
        front = by.front;
        behind = record { rest = by.rest; at = by.at; node_is = by.node_is; lines_are = sym own ∙ by.lines };
      }
      | inr other ↦ absurd (
          let fails = none_fails by.front (record { line = kill.line; what = Fail by.at }) by.rest (subst (λ (l : List Line). HasNoFail l) by.lines other.1) in
          cc
          )
    ]

-- ---- the other way

middle : (P : ℕ → Type 0) (fs : List ℕ) (m : ℕ) (bs : List ℕ) → AllByRecursion P (fs ++ m ∷ bs) → P m
middle P [] m bs all = all.0
middle P (f ∷ fs) m bs all = middle P fs m bs all.1

-- a node that a line fails is one of those that failed ahead of the end
fails_ahead : (P : ℕ → Type 0) (trace front rest : List Line) (line : ℕ) (at : NodeId) → trace ≡ front ++ (record { line = line; what = Fail at }) ∷ rest
    → All P (failed_ahead trace (length (asks trace))) → P at.0
fails_ahead P trace front rest line at is all =
    let l : Line = record { line = line; what = Fail at } in
    let count : length (asks trace) ≡ length (asks front) + length (asks rest) =
    ap (λ (ls : List Line). length (asks ls)) is ∙ ap length (filter_map-append (λ (k : Line). ask_of k.what) front (l ∷ rest)) ∙ length-append (asks front) (asks (l ∷ rest)) in
    let nodes : failed_ahead trace (length (asks trace)) ≡ failed_ahead front (length (asks front)) ++ at.0 ∷ failed_ahead rest (length (asks rest)) =
    ap (λ (ls : List Line). failed_ahead ls (length (asks trace))) is ∙ ap (failed_ahead (front ++ l ∷ rest)) count ∙ ahead_more front (l ∷ rest) (length (asks rest)) in
    middle P (failed_ahead front (length (asks front))) at.0 (failed_ahead rest (length (asks rest)))
    (recursion_from_All P _ (subst (λ (ns : List ℕ). All P ns) nodes all))

-- a client whose line that is is there
fails_there : (x : Script) (who : ℕ) (front : List Line) (line node : ℕ) → FailsBehind x who front line node → who < length x.clients
fails_there x who front line node b = elim (cases_lt who (length x.clients)) [
  | inl lt ↦ lt
  | inr ge ↦ absurd (
      let none : length (lines_by x who) ≡ 0 = ap (λ (c : Client). length c.lines) (get_or_past x.clients who nobody ge) in
      let some = ap (λ (l : List Line). length l) b.lines_are in
      let size = length-append front ((record { line = line; what = Fail b.at }) ∷ b.rest) in
      omega (arith, none, some, size)
      )
]

-- each node that a line fails is killed
pub line_has_killed : (x : Course) (passes : List (Pass Seg)) (kills : List (Option Kill)) → AllFulfil x passes → length x.script.clients ≤ length passes → ClosedBoard passes kills
    → (line node : ℕ) → IsFailLine x.script line node → is_some (kill_of kills node) ≡ true
line_has_killed x passes kills fulfil many board line node is =
    let b = is.behind in
    let there = fails_there x.script is.who is.front line node b in
    let at = get_below passes is.who (omega (arith, there, many)) in
    let p = at.0 in
    let f = fulfil is.who p at.1 in
    let own : lines_by x.script is.who ≡ f.trace = elim f.lines [
      | inl own ↦ sym own
      | inr other ↦ absurd (
          let some = ap (λ (l : List Line). length l) b.lines_are in
          let none = ap (λ (l : List Line). length l) other.0 in
          let size = length-append is.front ((record { line = line; what = Fail b.at }) ∷ b.rest) in
          omega (arith, none, some, size)
          )
    ] in
    let all : All (IsKilled x.script.nodes p.board.seen) (failed_ahead f.trace (length (asks f.trace))) =
    subst (λ (n : ℕ). All (IsKilled x.script.nodes p.board.seen) (failed_ahead f.trace n)) f.worked.count f.worked.failed in
    let dead = fails_ahead (IsKilled x.script.nodes p.board.seen) f.trace is.front b.rest line b.at (sym own ∙ b.lines_are) all in
    let on = board.seen is.who p b.at.0 dead.kill at.1 (known_has b.at.0 dead.kill p.board.seen dead.is) in
    ap (λ (n : ℕ). is_some (kill_of kills n)) (sym b.node_is) ∙ ap (λ (o : Option Kill). is_some o) on
