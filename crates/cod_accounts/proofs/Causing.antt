-- Each entry at the end has its account by a pass, and so its cause.
use Rattle.std.proofs.Common.{◌≡◌, ℕ, ◌<◌, Option, Some, List, [], ◌∷◌, ◌++◌, length, refl, sym, ap, ◌∙◌, subst, inl, inr, arith}
use Rattle.std.specs.Prelude.{slice_get, option_map}
use Rattle.std.specs.List.{AllByRecursion}
use mathlib.Core.List.{IsPrefix}
use Rattle.cod_chronicle.specs.declared.entry.Entry.{Entry}
use Rattle.cod_chronicle.specs.Event.{NodeKill}
use Rattle.cod_chronicle.specs.Said.{calls_by}
use Rattle.cod_chronicle.specs.Standing.{OpenCalls}
use Rattle.cod_board.specs.declared.kill.Kill.{Kill}
use Rattle.cod_board.specs.Seats.{kills_in}
use Rattle.cod_board.proofs.Found.{known_has}
use Rattle.cod_turn.specs.declared.view.View.{View}
use Rattle.cod_turn.specs.Turning.{Stays}
use Rattle.cod_turns.specs.Turns.{Course}
use Rattle.cod_accounts.specs.Accounts.{At, Knows}
use Rattle.cod_accounts.specs.Closing.{ClosedBoard, ClosedSegment, HasWorked, IsCaused, EntriesAreCaused}
use Rattle.cod_accounts.specs.Holding.{plain_kill, kills_at}
use Rattle.cod_accounts.specs.Working.{Pass, Told, knowing, first_list}
use Rattle.cod_accounts.proofs.Accounting.{Each, at_more, cause_more}
use Rattle.cod_accounts.proofs.Choosing.{places_each}
use Rattle.cod_accounts.proofs.Kills.{seen_of}

-- a kill that a pass knows is on the board
known_on_board : {T : Type 0} (passes : List (Pass T)) (kills : List (Option Kill)) (nodes c : ℕ) (p : Pass T) → ClosedBoard passes kills → slice_get passes c ≡ Some p
    → Knows (kills_at (kills_in nodes p.board.seen)) (kills_at kills)
known_on_board passes kills nodes c p board is node k e =
    let seen = seen_of nodes node p.board.seen k e in
    let on = board.seen c p node seen.kill is (known_has node seen.kill p.board.seen seen.is) in
    ap (option_map plain_kill) on ∙ ap (λ (q : NodeKill). Some q) seen.plain

module _ {T : Type 0} (name : T → List ℕ) (log : T → List Entry) (opened : T → OpenCalls) (x : Course) (passes : List (Pass T)) (values : List T)
    (works : (c : ℕ) (p : Pass T) → slice_get passes c ≡ Some p → HasWorked log opened x p) (segments : (s : ℕ) (now : T) → slice_get values s ≡ Some now → ClosedSegment name log opened x passes s now) where
  -- ---- what a pass last saw of a segment, and what it is at the end

  pub record Saw (p : Pass T) (now : T) (v : View T) : Type 0 where
    pub begins : IsPrefix (first_list log v.own) (log now)
    pub calls : calls_by p.caller (log now) ≡ calls_by p.caller (first_list log v.own)

  pub of_view : (c : ℕ) (p : Pass T) (s : ℕ) (now : T) (v : View T) → slice_get passes c ≡ Some p → slice_get values s ≡ Some now → slice_get p.seats s ≡ Some v → Saw p now v
  of_view c p s now v is at seat =
      let r = (works c p is).worked.ready s v seat in
      let st = subst (λ (ps : List (ℕ × T)). Stays name log opened now ps) r.own ((segments s now at).stays c p v is seat) in
      let e : log r.last ≡ first_list log v.own = ap (first_list log) (sym r.own) in
      record {
        begins = subst (λ (l : List Entry). IsPrefix l (log now)) e st.0;
        calls = subst (λ (l : List Entry). calls_by p.caller (log now) ≡ calls_by p.caller l) e st.1;
      }

  -- ---- each entry has its account

  pub record Accounted (s : ℕ) (before : List Entry) (e : Entry) : Type 0 where
    pub by : ℕ
    pub pass : Pass T
    pub is : slice_get passes by ≡ Some pass
    pub told : Told (knowing x pass (works by pass is).worked.clocks) before e

  accounted : (s : ℕ) (now : T) → slice_get values s ≡ Some now → (p : ℕ) → p < length (log now) → At (log now) p (Accounted s)
  accounted s now at place lt =
      let a = (segments s now at).added place lt in
      let c : ℕ = a.0 in
      let p : Pass T = a.1 in
      let v : View T = a.2 in
      let w = (works c p a.3).worked in
      let told = (w.shows s v a.4).told in
      elim (told place a.5) [
        | inl none ↦ absurd (omega arith)
        | inr there ↦ at_more (Told (knowing x p w.clocks)) (Accounted s) (first_list log v.own) (log now) place
            (λ b e g. record { by = c; pass = p; is = a.3; told = g }) (of_view c p s now v a.3 at a.4).begins there
      ]

  pub each_accounted : (s : ℕ) (now : T) → slice_get values s ≡ Some now → Each (Accounted s) [] (log now)
  each_accounted s now at = places_each (Accounted s) (log now) [] (log now) refl (accounted s now at)

  -- each has its cause
  caused : (kills : List (Option Kill)) → ClosedBoard passes kills → (s : ℕ) (before rest : List Entry) → Each (Accounted s) before rest → AllByRecursion (IsCaused passes kills x.may) rest
  caused kills board s before [] a = tt
  caused kills board s before (e ∷ rest) a =
      let p : Pass T = a.0.pass in
      let known = known_on_board passes kills x.script.nodes a.0.by p board a.0.is in
      ((a.0.by, p, a.0.is, cause_more p.caller (kills_at (kills_in x.script.nodes p.board.seen)) (kills_at kills) x.may known e a.0.told.2.cause), caused kills board s (before ++ e ∷ []) rest a.1)

pub entries_are_caused : {T : Type 0} (name : T → List ℕ) (log : T → List Entry) (opened : T → OpenCalls) → EntriesAreCaused name log opened
entries_are_caused name log opened x passes values kills works segments board s now at =
    caused name log opened x passes values works segments kills board s [] (log now) (each_accounted name log opened x passes values works segments s now at)
