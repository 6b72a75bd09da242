-- Seats that were joined.
use Rattle.std.proofs.Common.{◌≡◌, ◌⊎◌, ℕ, zero, suc, ◌<◌, cond, Bool, Option, Some, None, List, [], ◌∷◌, ◌++◌, length, refl, sym, ap, ◌∙◌, subst, inl, inr, arith}
use Rattle.std.specs.Prelude.{slice_get}
use Rattle.std.specs.List.{cons_option}
use Rattle.std.proofs.lemmas.Bool.{cases_lt, lt-ltb}
use Rattle.cod_chronicle.specs.declared.entry.Entry.{Entry}
use Rattle.cod_chronicle.specs.Standing.{OpenCalls}
use Rattle.cod_board.specs.declared.kill.Kill.{Kill}
use Rattle.cod_board.specs.declared.view.View.{View as BoardView}
use Rattle.cod_board.specs.Words.{both_of as both_boards}
use Rattle.cod_seats.specs.Totals.{Has, times}
use Rattle.cod_seats.proofs.Found.{has_left, has_none, has_right}
use Rattle.cod_seats.proofs.Totals.{times-append}
use Rattle.cod_turn.specs.declared.view.View.{View}
use Rattle.cod_turn.specs.Turning.{Stays, both_of}
use Rattle.cod_accounts.specs.Closing.{joined, seats_at, joined_board, JoinedBoardCloses, JoinedSeatsClose}
use Rattle.cod_accounts.specs.Working.{Pass}
use Rattle.cod_accounts.proofs.Works.{has_cases}

module _ {T : Type 0} (name : T → List ℕ) (log : T → List Entry) (opened : T → OpenCalls) where
  stays_left : (now : T) (xs ys : List (ℕ × T)) → Stays name log opened now (xs ++ ys) → Stays name log opened now xs
  stays_left now [] ys s = tt
  stays_left now (x ∷ xs) ys s = (s.0, s.1, s.2, stays_left now xs ys s.3)

  stays_right : (now : T) (xs ys : List (ℕ × T)) → Stays name log opened now (xs ++ ys) → Stays name log opened now ys
  stays_right now [] ys s = s
  stays_right now (x ∷ xs) ys s = stays_right now xs ys s.3

  module _ (s : ℕ) where
    -- what all the joined seats know holds of each
    abbrev AllStay : T → List (Pass T) → Type 0
    AllStay now passes = (c : ℕ) (p : Pass T) (w : View T) → slice_get passes c ≡ Some p → slice_get p.seats s ≡ Some w → Stays name log opened now w.own

    joined_stays : (now : T) (v : View T) (passes : List (Pass T)) → Stays name log opened now (joined v (seats_at s passes)).own → Stays name log opened now v.own × AllStay now passes
    joined_stays now v [] st = (st, λ c p w is. absurd (cc is))
    joined_stays now v (q ∷ passes) st = by (slice_get q.seats s) refl (λ u h. joined_stays now u passes h) st where
      add : Stays name log opened now v.own → ((w : View T) → slice_get q.seats s ≡ Some w → Stays name log opened now w.own) → AllStay now passes
          → Stays name log opened now v.own × AllStay now (q ∷ passes)
      add first here rest = (first, all) where
        all : AllStay now (q ∷ passes)
        all zero p w is at = here w (let e : q ≡ p = cc is in subst (λ (z : Pass T). slice_get z.seats s ≡ Some w) (sym e) at)
        all (suc c) p w is at = rest c p w is at

      by : (o : Option (View T)) → slice_get q.seats s ≡ o → ((u : View T) → Stays name log opened now (joined u (seats_at s passes)).own → Stays name log opened now u.own × AllStay now passes)
          → Stays name log opened now (joined v (cons_option o (seats_at s passes))).own → Stays name log opened now v.own × AllStay now (q ∷ passes)
      by None is go st = let r = go v st in add r.0 (λ w at. (let bad : None ≡ Some w = sym is ∙ at in absurd (cc bad))) r.1
      by (Some u) is go st =
          let r = go (both_of v u) st in
          add (stays_left now v.own u.own r.0) (λ w at. (let t : Some u ≡ Some w = sym is ∙ at in let e : u ≡ w = cc t in subst (λ (z : View T). Stays name log opened now z.own) e (stays_right now v.own u.own r.0))) r.1

    -- a place of all is one of the first, or of one of the others
    abbrev Added : ℕ → List (Pass T) → Type 0
    Added place passes = (c : ℕ) × (p : Pass T) × (w : View T) × (slice_get passes c ≡ Some p) × (slice_get p.seats s ≡ Some w) × (0 < times place w.places)

    some_place : (place : ℕ) (v : View T) (passes : List (Pass T)) → 0 < times place (joined v (seats_at s passes)).places → (0 < times place v.places) ⊎ Added place passes
    some_place place v [] some = inl some
    some_place place v (q ∷ passes) some = by (slice_get q.seats s) refl (λ u h. some_place place u passes h) some where
      further : Added place passes → Added place (q ∷ passes)
      further a = (suc a.0, a.1, a.2, a.3, a.4, a.5)

      by : (o : Option (View T)) → slice_get q.seats s ≡ o → ((u : View T) → 0 < times place (joined u (seats_at s passes)).places → (0 < times place u.places) ⊎ Added place passes)
          → 0 < times place (joined v (cons_option o (seats_at s passes))).places → (0 < times place v.places) ⊎ Added place (q ∷ passes)
      by None is go some = elim (go v some) [ inl here ↦ inl here | inr rest ↦ inr (further rest) ]
      by (Some u) is go some = elim (go (both_of v u) some) [
        | inl both ↦ (let sum = times-append place v.places u.places in elim (cases_lt 0 (times place v.places)) [
          | inl here ↦ inl here
          | inr none ↦ inr (0, q, u, refl, is, (let n = both in omega arith))
        ])
        | inr rest ↦ inr (further rest)
      ]

  pub joined_seats_close : JoinedSeatsClose name log opened
  joined_seats_close x passes s rest now none meets places legal chronicle = record {
    stays = (joined_stays s now rest passes meets.1).1;
    added = λ place lt.
        let one : times place (joined rest (seats_at s passes)).places ≡ 1 = places place ∙ ap (λ (b : Bool). cond {A = ℕ} b 1 0) (lt-ltb place (length (log now)) lt) in
        elim (some_place s place rest passes (omega arith)) [
          | inl here ↦ absurd (let z : times place rest.places ≡ 0 = ap (times place) none in omega arith)
          | inr a ↦ a
        ];
    legal = legal;
    chronicle = chronicle;
  }

-- ---- the board

module _ {T : Type 0} where
  seen_first : (v : BoardView) (passes : List (Pass T)) (x : ℕ × Kill) → Has x v.seen → Has x (joined_board v passes).seen
  seen_first v [] x h = h
  seen_first v (p ∷ passes) x h = seen_first (both_boards v p.board) passes x (has_left x v.seen p.board.seen h)

  seen_each : (v : BoardView) (passes : List (Pass T)) (c : ℕ) (p : Pass T) (x : ℕ × Kill) → slice_get passes c ≡ Some p → Has x p.board.seen → Has x (joined_board v passes).seen
  seen_each v [] c p x is h = absurd (cc is)
  seen_each v (q ∷ passes) zero p x is h =
      let e : q ≡ p = cc is in
      seen_first (both_boards v q.board) passes x (has_right x v.seen q.board.seen (subst (λ (z : Pass T). Has x z.board.seen) (sym e) h))
  seen_each v (q ∷ passes) (suc c) p x is h = seen_each (both_boards v q.board) passes c p x is h

  made_by_one : (v : BoardView) (passes : List (Pass T)) (x : ℕ × Kill) → Has x (joined_board v passes).made
      → Has x v.made ⊎ ((c : ℕ) × (p : Pass T) × (slice_get passes c ≡ Some p) × Has x p.board.made)
  made_by_one v [] x h = inl h
  made_by_one v (q ∷ passes) x h = elim (made_by_one (both_boards v q.board) passes x h) [
    | inl both ↦ elim (has_cases x v.made q.board.made both) [ inl here ↦ inl here | inr of_q ↦ inr (0, q, refl, of_q) ]
    | inr rest ↦ inr (suc rest.0, rest.1, rest.2, rest.3)
  ]

  pub joined_board_closes : JoinedBoardCloses T
  joined_board_closes nodes rest passes kills none closed = record {
    seen = λ c p node kill is h. closed.seen node kill (seen_each rest passes c p (node, kill) is h);
    made = λ node kill e. elim (made_by_one rest passes (node, kill) (closed.made node kill e)) [
      | inl here ↦ absurd (has_none (node, kill) (subst (Has (node, kill)) none here))
      | inr a ↦ a
    ];
  }
