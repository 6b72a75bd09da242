-- What callers leave that share the segments.
use Rattle.std.proofs.Common.{◌≡◌, ◌⊎◌, ℕ, suc, ◌+◌, ◌<◌, ◌≤◌, ◌^◌, Bool, true, false, cond, eqb, Option, Some, None, List, [], ◌∷◌, length, map, refl, sym, ap, ◌∙◌, subst, arith}
use Rattle.std.specs.Prelude.{slice_get, is_some}
use Rattle.std.specs.List.{filter, filter_map, AllByRecursion, range_with_len}
use Rattle.std.proofs.lemmas.Bool.{lt-ltb}
use Rattle.std.proofs.lemmas.List.Elements.{All-from_recursion, recursion_from_All, All-weaker, filter_agree}
use Rattle.cod_types.specs.declared.call.Reply.{Reply}
use Rattle.cod_types.specs.declared.call.Reply.TheVariants.{Bytes, Done, Range, Long, Lost, Whole, Rebuilt, NoSpare, NoMem, Shifted, Clear, Differs}
use Rattle.cod_types.specs.declared.reasons.Why.{Why}
use Rattle.cod_types.specs.declared.reasons.Why.TheVariants as why
use Rattle.cod_chronicle.specs.declared.entry.Entry.{Entry}
use Rattle.cod_chronicle.specs.declared.entry.Entry.TheVariants.{Call, Down, Up, Move}
use Rattle.cod_chronicle.specs.declared.entry.Cause.TheVariants.{Killed, Fault}
use Rattle.cod_chronicle.specs.Said.{number_by, StampsRise}
use Rattle.cod_chronicle.specs.Order.{Placed, stamp_at, place, placed, order}
use Rattle.cod_chronicle.specs.Whole.{HasStamp, numbers_of}
use Rattle.cod_chronicle.specs.Laws.{is_by, is_at}
use Rattle.cod_chronicle.proofs.Shares.{keeps_each_order}
use Rattle.cod_chronicle.proofs.Orders.{Each-weaker, Each-filter, filter_map-keep}
use Rattle.cod_script.specs.declared.line.Line.{Line}
use Rattle.cod_script.specs.Script.{Ask, asks}
use Rattle.cod_script.specs.Owed.{FailsBehind, IsFailLine, IsGivenWhy, IsGiven, IsLicensed, ask_by, asked_in, asked_by, StandsAfter}
use Rattle.cod_chronicle.specs.Event.{NodeKill}
use Rattle.cod_turns.specs.Turns.{Course, board_clock}
use Rattle.cod_turns.specs.Whole_runs.{LinesApart}
use Rattle.cod_turns.specs.Closed.{IsMade, IsMadeWhy, IsMadeReply, IsMadeEntry, IsClosed, ClosedIsHistory}
use Rattle.cod_turns.proofs.Kept.{IsClock-all}
use Rattle.cod_turns.proofs.Losing.{by_segments}
use Rattle.cod_turns.proofs.Numbering.{lines_are_apart}

asks_as_numbers : (c : ℕ) (p : Placed) → is_some (ask_by c p) ≡ is_by c p
asks_as_numbers c p = by p.entry where
  cases : (b : Bool) (k : Ask) (n : ℕ) → is_some (cond b (Some k) None) ≡ is_some (cond b (Some n) None)
  cases true k n = refl
  cases false k n = refl

  by : (e : Entry) → is_some (asked_in p.segment c e) ≡ is_some (number_by c e)
  by (Call caller number stamp call reply) = cases (eqb caller.0 c) (record { segment = p.segment; call = call }) number
  by (Down stamp col node cause) = refl
  by (Up stamp col node) = refl
  by (Move stamp col node) = refl

each_rises : (hs : List (List Entry)) → ((s : ℕ) (h : List Entry) → slice_get hs s ≡ Some h → StampsRise h) → AllByRecursion StampsRise hs
each_rises [] f = tt
each_rises (h ∷ hs) f = (f 0 h refl, each_rises hs (λ s k is. f (suc s) k is))

module _ (x : Course) (owes : ℕ → List Ask) (hs : List (List Entry)) (own : ℕ → List Placed) (C : IsClosed x owes hs own) where
  in_order : (who : ℕ) → filter (is_by who) (order hs) ≡ own who
  in_order who = keeps_each_order who hs (own who) (each_rises hs (λ s h is. (C.each s h is).0.stamps)) (C.are who)

  all_by : (who : ℕ) → filter (is_by who) (own who) ≡ own who
  all_by who = ap (filter (is_by who)) (sym (in_order who)) ∙ twice (order hs) ∙ in_order who where
    step : (b : Bool) (p : Placed) (ps : List Placed) → is_by who p ≡ b → filter (is_by who) (filter (is_by who) ps) ≡ filter (is_by who) ps
        → filter (is_by who) (cond b (p ∷ filter (is_by who) ps) (filter (is_by who) ps)) ≡ cond b (p ∷ filter (is_by who) ps) (filter (is_by who) ps)
    step true p ps e h = ap (λ (b : Bool). cond b (p ∷ filter (is_by who) (filter (is_by who) ps)) (filter (is_by who) (filter (is_by who) ps))) e ∙ ap (λ (l : List Placed). p ∷ l) h
    step false p ps e h = h

    twice : (ps : List Placed) → filter (is_by who) (filter (is_by who) ps) ≡ filter (is_by who) ps
    twice [] = refl
    twice (p ∷ ps) = step (is_by who p) p ps refl (twice ps)

  numbers_same : (who : ℕ) → numbers_of who (order hs) ≡ numbers_of who (own who)
  numbers_same who =
      let f : Placed → Option ℕ = λ p. number_by who p.entry in
      filter_map-keep f (order hs) ∙ ap (filter_map f) (in_order who)

  asked_same : (who : ℕ) → asked_by who (order hs) ≡ asked_by who (own who)
  asked_same who =
      let f : Placed → Option Ask = ask_by who in
      filter_map-keep f (order hs) ∙ ap (filter_map f) (filter_agree (λ p. is_some (f p)) (is_by who) (asks_as_numbers who) (order hs)) ∙ ap (filter_map f) (in_order who)

  fails : (node line : ℕ) (k : NodeKill) → IsMade x.script hs own node k → k.line ≡ line → IsFailLine x.script line node
  fails node line k m e = record { who = m.who; front = m.front; behind = subst (λ (l : ℕ). FailsBehind x.script m.who m.front l node) e m.behind }

  why_given : (node : ℕ) (y : Why) → IsMadeWhy x hs own node y → IsGivenWhy x.script x.may node y
  why_given node (why.Down line) m = fails node line m.0 m.1 m.2
  why_given node (why.Free bytes) m = tt
  why_given node (why.Fault count) m = m

  given : (r : Reply) → IsMadeReply x hs own r → IsGiven x.script x.may r
  given (NoSpare reasons) g = All-weaker (λ r. IsMadeWhy x hs own r.node.0 r.why) (λ r. IsGivenWhy x.script x.may r.node.0 r.why) (λ r k. why_given r.node.0 r.why k) reasons g
  given (Bytes bytes) g = tt
  given (Differs bytes) g = tt
  given Done g = tt
  given Range g = tt
  given Long g = tt
  given Lost g = tt
  given Whole g = tt
  given (Rebuilt col node) g = tt
  given NoMem g = tt
  given (Shifted col node) g = tt
  given Clear g = tt

  licensed : (e : Entry) → IsMadeEntry x hs own e → IsLicensed x.script x.may e
  licensed (Call caller number stamp call reply) m = given reply m
  licensed (Down stamp col node (Killed line)) m = fails node.0 line m.0 m.1 m.2
  licensed (Down stamp col node (Fault count)) m = m
  licensed (Up stamp col node) m = tt
  licensed (Move stamp col node) m = tt

  -- ---- marks stand after what their callers did before

  -- what holds of a caller's own entries holds of all
  of_own : (who number : ℕ) (P : Placed → Type 0) → AllByRecursion (λ p. number_by who p.entry ≡ Some number → P p) (own who) → AllByRecursion (λ p. number_by who p.entry ≡ Some number
      → P p) (placed hs)
  of_own who number P a = by_segments (λ p. Unit {0}) (λ p. number_by who p.entry ≡ Some number → P p) 0 hs (nothing (placed hs))
      (λ s h is n. in_segment s h ((C.are who).there s h is)) where
        nothing : (ps : List Placed) → AllByRecursion (λ p. Unit {0}) ps
        nothing [] = tt
        nothing (p ∷ ps) = (tt, nothing ps)

        parts : (s : ℕ) → AllByRecursion (λ p. number_by who p.entry ≡ Some number → P p) (filter (is_at s) (own who))
        parts s = Each-filter (λ p. number_by who p.entry ≡ Some number → P p) (is_at s) (own who) a

        spread : (s : ℕ) (h : List Entry) → AllByRecursion (λ p. number_by who p.entry ≡ Some number → P p) (filter (is_by who) (map (λ e. place s e) h))
            → AllByRecursion (λ e. number_by who e ≡ Some number → P (place s e)) h
        spread s [] b = tt
        spread s (e ∷ h) b = by (is_by who (place s e)) refl b (spread s h) where
          by : (t : Bool) → is_by who (place s e) ≡ t → AllByRecursion (λ p. number_by who p.entry ≡ Some number
              → P p) (cond t (place s e ∷ filter (is_by who) (map (λ e. place s e) h)) (filter (is_by who) (map (λ e. place s e) h)))
              → (AllByRecursion (λ p. number_by who p.entry ≡ Some number → P p) (filter (is_by who) (map (λ e. place s e) h)) → AllByRecursion (λ e. number_by who e ≡ Some number
              → P (place s e)) h)
              → AllByRecursion (λ e. number_by who e ≡ Some number → P (place s e)) (e ∷ h)
          by true e b go = (b.0, go b.1)
          by false is b go = ((λ n. absurd (let t : is_some (number_by who e) ≡ true = ap is_some n in cc)), go b)

        in_segment : (s : ℕ) (h : List Entry) → filter (is_by who) (map (λ e. place s e) h) ≡ filter (is_at s) (own who) → AllByRecursion (λ e. number_by who e ≡ Some number
            → P (place (0 + s) e)) h
        in_segment s h e =
            let z : 0 + s ≡ s = omega arith in
            subst (λ (i : ℕ). AllByRecursion (λ e. number_by who e ≡ Some number → P (place i e)) h) (sym z) (spread s h (subst (AllByRecursion (λ p. number_by who p.entry ≡ Some number
            → P p)) (sym e) (parts s)))

  small_clock : AllByRecursion (λ p. stamp_at p < 2 ^ 32) (placed hs) → (t : ℕ) → (t ≡ 0) ⊎ HasStamp (placed hs) t → board_clock t ≡ t
  small_clock all t is =
      let lt : t < 2 ^ 32 = IsClock-all (λ t. t < 2 ^ 32) (placed hs) t (omega arith) all is in
      ap (λ (b : Bool). cond b t 0) (lt-ltb t (2 ^ 32) lt)

  stands : LinesApart x.script → AllByRecursion (λ p. stamp_at p < 2 ^ 32) (placed hs) → (e : Entry) → IsMadeEntry x hs own e → StandsAfter x.script (placed hs) e
  stands apart all (Down stamp col node (Killed line)) m =
      λ who number front f l.
      let k = m.1 in
      let b : FailsBehind x.script k.who k.front line node.0 = subst (λ (l : ℕ). FailsBehind x.script k.who k.front l node.0) m.2 k.behind in
      let same = apart line node.0 node.0 who k.who front k.front f b in
      let c : m.0.clock ≡ k.clock = k.clock_is ∙ small_clock all k.clock k.stamp in
      let r = k.covers number (let e : length (asks front) ≡ length (asks k.front) = ap (λ (ls : List Line). length (asks ls)) same.1 in omega (arith, e, l)) in
      let a = of_own k.who number (λ p. stamp_at p ≤ k.clock) r in
      All-from_recursion (λ p. number_by who p.entry ≡ Some number → stamp_at p < stamp) (placed hs)
      (Each-weaker (λ p. number_by k.who p.entry ≡ Some number → stamp_at p ≤ k.clock) (λ p. number_by who p.entry ≡ Some number → stamp_at p < stamp)
      (λ p h n. let t = h (ap (λ (c : ℕ). number_by c p.entry) (sym same.0) ∙ n) in let s = m.3 in omega (arith, t, s, c)) (placed hs) a)
  stands apart all (Down stamp col node (Fault count)) m = tt
  stands apart all (Call caller number stamp call reply) m = tt
  stands apart all (Up stamp col node) m = tt
  stands apart all (Move stamp col node) m = tt

pub closed_is_history : ClosedIsHistory
closed_is_history x owes hs own X C =
    let apart = lines_are_apart x.script X in
    let made = recursion_from_All (λ p. IsMadeEntry x hs own p.entry) (placed hs) C.made in
    record {
      count = C.count;
      whole = record {
        each = C.each;
        numbers = λ who. (let e = numbers_same x owes hs own C who in e ∙ C.numbers who ∙ sym (ap (λ (ns : List ℕ). range_with_len 0 (length ns)) e));
        stamps = C.gaps;
      };
      licensed = All-from_recursion (λ p. IsLicensed x.script x.may p.entry) (placed hs)
          (Each-weaker (λ p. IsMadeEntry x hs own p.entry) (λ p. IsLicensed x.script x.may p.entry) (λ p m. licensed x owes hs own C p.entry m) (placed hs) made);
      holds = λ who. asked_same x owes hs own C who ∙ C.asked who;
      obeys = record {
        seen = C.sees;
        after = λ all.
            let a = recursion_from_All (λ p. stamp_at p < 2 ^ 32) (placed hs) all in
            All-from_recursion (λ p. StandsAfter x.script (placed hs) p.entry) (placed hs)
            (Each-weaker (λ p. IsMadeEntry x hs own p.entry) (λ p. StandsAfter x.script (placed hs) p.entry) (λ p m. stands x owes hs own C apart a p.entry m) (placed hs) made);
      };
    }
