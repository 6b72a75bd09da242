-- What is open is the call of its client's line.
use Rattle.std.proofs.Common.{◌≡◌, ◌≢◌, ◌≤◌, ℕ, Option, Some, None, List, [], ◌∷◌, ◌++◌, length, refl, sym, ap, ◌∙◌, subst, inl, inr, arith}
use Rattle.std.proofs.lemmas.Bool.{cases_eq}
use Rattle.std.proofs.lemmas.List.{length-append}
use Rattle.cod_types.specs.declared.call.NodeId.{NodeId}
use Rattle.cod_types.specs.declared.call.SegId.{SegId}
use Rattle.cod_types.specs.declared.call.Call.{Call as Asked}
use Rattle.cod_script.specs.declared.line.Line.{Line}
use Rattle.cod_script.specs.declared.line.What.TheVariants.{Segment, Fail}
use Rattle.cod_script.specs.Script.{Script, asks, lines_by}
use Rattle.cod_turns.specs.declared.turned.Turned.{Turned}
use Rattle.cod_turns.specs.declared.turned.Turned.TheVariants.{Ended, Killed, Held, Moved, Answered}
use Rattle.cod_turns.specs.Turns.{World, Course, IsLineAt, start, Serves, Kills, Turn, Turns, TellsOfLine, TurnTellsOfLine, AllEnded}
use Rattle.cod_turns.specs.Open.{IsItsCall, AreItsCalls, NothingOpen, StartIsOfItsLines, OpenIsOfItsLine, EndsWithNothingOpen}
use Rattle.cod_turns.proofs.Lists.{one_at}

-- two lines at one place are one
one_line : (x : Script) (who i : ℕ) (l m : Line) → IsLineAt x who i l → IsLineAt x who i m → l ≡ m
one_line x who i l m a b = one_at a.front a.rest b.front b.rest l m (sym a.lines ∙ b.lines) (a.place ∙ sym b.place)

-- a `fail` line is no call
pub no_call : (x : Script) (who i line other : ℕ) (node : NodeId) (seg : SegId) (call : Asked)
    → IsLineAt x who i (record { line = line; what = Fail node }) → IsLineAt x who i (record { line = other; what = Segment seg call }) → ⊥
no_call x who i line other node seg call a b =
    let e = one_line x who i (record { line = line; what = Fail node }) (record { line = other; what = Segment seg call }) a b in
    let wrong : Fail node ≡ Segment seg call = ap (λ (l : Line). l.what) e in
    cc

-- two calls at one place are of one segment
pub one_segment : (x : Script) (who i line other : ℕ) (seg seg2 : SegId) (call call2 : Asked)
    → IsLineAt x who i (record { line = line; what = Segment seg call }) → IsLineAt x who i (record { line = other; what = Segment seg2 call2 }) → seg.0 ≡ seg2.0
one_segment x who i line other seg seg2 call call2 a b =
    let e = one_line x who i (record { line = line; what = Segment seg call }) (record { line = other; what = Segment seg2 call2 }) a b in
    let w : Segment seg call ≡ Segment seg2 call2 = ap (λ (l : Line). l.what) e in
    let s : seg ≡ seg2 = cc in
    ap (λ (k : SegId). k.0) s

-- a client that has ended has no line
no_line : (x : Script) (who i : ℕ) (l : Line) → length (lines_by x who) ≤ i → IsLineAt x who i l → ⊥
no_line x who i l le a =
    let n : length (lines_by x who) ≡ length (a.front ++ l ∷ a.rest) = ap length a.lines in
    let m = length-append a.front (l ∷ a.rest) in
    let p = a.place in
    omega (arith, n, m, p, le)

call_tells : (x : Script) (who line : ℕ) (seg : SegId) (call : Asked) (w : World) (turned : Turned) → IsLineAt x who (w.next who) (record { line = line; what = Segment seg call })
    → (turned ≡ Ended → ⊥) → (turned ≡ Killed → ⊥) → TellsOfLine x who w turned
call_tells x who line seg call w turned at a b = record {
  ended = (λ e. absurd (a e), λ le. absurd (no_line x who (w.next who) (record { line = line; what = Segment seg call }) le at));
  killed = (λ e. absurd (b e), λ k. absurd (no_call x who (w.next who) k.0 line k.1 seg call k.2 at));
}

pub turn_tells_of_line : TurnTellsOfLine
turn_tells_of_line x who w v Ended T = record {
  ended = (λ e. T.ended, λ le. refl);
  killed = (λ e. absurd (cc), λ k. absurd (no_line x.script who (w.next who) (record { line = k.0; what = Fail k.1 }) T.ended k.2));
}
turn_tells_of_line x who w v Killed T = record {
  ended = (λ e. absurd (cc), λ le. absurd (no_line x.script who (w.next who) (record { line = T.line; what = Fail T.node }) le T.at));
  killed = (λ e. (T.line, T.node, T.at), λ k. refl);
}
turn_tells_of_line x who w v (Held owner number) T = call_tells x.script who T.line T.seg T.call w (Held owner number) T.at (λ e. cc) (λ e. cc)
turn_tells_of_line x who w v Moved T = call_tells x.script who T.line T.seg T.call w Moved T.at (λ e. cc) (λ e. cc)
turn_tells_of_line x who w v (Answered position stamp) T = call_tells x.script who T.line T.seg T.call w (Answered position stamp) T.at (λ e. cc) (λ e. cc)

at_as : (x : Script) (who i j : ℕ) (l : Line) → i ≡ j → IsLineAt x who i l → IsLineAt x who j l
at_as x who i j l e a = record { front = a.front; rest = a.rest; lines = a.lines; place = a.place ∙ e }

-- what stays open stays the call of its client's line, where that stays
pub stays : (x : Script) (w v : World) (c s number : ℕ) (call : Asked) → v.next c ≡ w.next c → IsItsCall x w c s number call → IsItsCall x v c s number call
stays x w v c s number call same k = record {
  line = k.line;
  seg = k.seg;
  at = record { front = k.at.front; rest = k.at.rest; lines = k.at.lines; place = k.at.place ∙ sym same };
  segment_is = k.segment_is;
  number_is = k.number_is;
}

-- a kill
kills_open : (x : Script) (who : ℕ) (w v : World) → Kills x who w v → AreItsCalls x w → AreItsCalls x v
kills_open x who w v T a s c number call is =
    let o = T.opened in
    let was : w.opened s c ≡ Some (number, call) = sym (ap (λ (f : ℕ → ℕ → Option (ℕ × Asked)). f s c) o) ∙ is in
    let k = a s c number call was in
    elim (cases_eq c who) [
      | inl same ↦
          let place : w.next c ≡ w.next who = ap w.next same in
          let at : IsLineAt x who (w.next who) (record { line = k.line; what = Segment k.seg call }) =
          at_as x who (w.next c) (w.next who) (record { line = k.line; what = Segment k.seg call }) place
          (subst (λ (d : ℕ). IsLineAt x d (w.next c) (record { line = k.line; what = Segment k.seg call })) same k.at) in
          absurd (no_call x who (w.next who) T.line k.line T.node k.seg call T.at at)
      | inr diff ↦ stays x w v c s number call ((T.others c diff).0) k
    ]

none_some : {A : Type 0} (o : Option A) (y : A) → o ≡ None → o ≡ Some y → ⊥
none_some o y a b = cc

module _ (x : Course) (who : ℕ) (w v : World) (turned : Turned) (T : Serves x who w v turned) (a : AreItsCalls x.script w) where
  -- what this client has open elsewhere is nothing
  none_elsewhere : (s number : ℕ) (call : Asked) → s ≢ T.seg.0 → w.opened s who ≡ Some (number, call) → ⊥
  none_elsewhere s number call ne is =
      let k = a s who number call is in
      ne (sym k.segment_is ∙ one_segment x.script who (w.next who) k.line T.line k.seg T.seg call T.call k.at T.at)

  -- and so of all, where what it has open at this segment now is the call of its line
  serves_open : ((number : ℕ) (call : Asked) → v.opened T.seg.0 who ≡ Some (number, call) → IsItsCall x.script v who T.seg.0 number call) → AreItsCalls x.script v
  serves_open own s c number call is = elim (cases_eq s T.seg.0) [
    | inl here ↦ elim (cases_eq c who) [
      | inl same ↦
          subst (λ (k : ℕ). IsItsCall x.script v k s number call) (sym same)
          (subst (λ (k : ℕ). IsItsCall x.script v who k number call) (sym here)
          (own number call (sym (ap (λ (k : ℕ). v.opened k who) here) ∙ sym (ap (λ (k : ℕ). v.opened s k) same) ∙ is)))
      | inr diff ↦
          let was : w.opened s c ≡ Some (number, call) =
          ap (λ (k : ℕ). w.opened k c) here ∙ sym (T.others_open.1 c diff) ∙ sym (ap (λ (k : ℕ). v.opened k c) here) ∙ is in
          stays x.script w v c s number call ((T.others c diff).0) (a s c number call was)
    ]
    | inr away ↦
        let was : w.opened s c ≡ Some (number, call) = sym (T.others_open.0 s c away) ∙ is in
        elim (cases_eq c who) [
          | inl same ↦ absurd (none_elsewhere s number call away (sym (ap (w.opened s) same) ∙ was))
          | inr diff ↦ stays x.script w v c s number call ((T.others c diff).0) (a s c number call was)
        ]
  ]

some_same : (p q : ℕ × Asked) → Some p ≡ Some q → p ≡ q
some_same p q e = cc

moved_open : (x : Course) (who : ℕ) (w v : World) → Serves x who w v Moved → AreItsCalls x.script w → AreItsCalls x.script v
moved_open x who w v T a = serves_open x who w v Moved T a (λ number call is.
    let both : Some (number, call) ≡ Some (length (asks T.at.front), T.call) = sym is ∙ T.comes in
    let pair = some_same (number, call) (length (asks T.at.front), T.call) both in
    let n : number ≡ length (asks T.at.front) = ap (λ (p : ℕ × Asked). p.0) pair in
    let k : call ≡ T.call = ap (λ (p : ℕ × Asked). p.1) pair in
    let e = T.next in
    record {
      line = T.line;
      seg = T.seg;
      at = record {
        front = T.at.front;
        rest = T.at.rest;
        lines = T.at.lines ∙ ap (λ (k : Asked). T.at.front ++ (record { line = T.line; what = Segment T.seg k }) ∷ T.at.rest) (sym k);
        place = T.at.place ∙ sym e;
      };
      segment_is = refl;
      number_is = n;
    })

pub turn_open : (x : Course) (who : ℕ) (w v : World) (turned : Turned) → Turn x who w v turned → AreItsCalls x.script w → AreItsCalls x.script v
turn_open x who w v Ended T a = (let e = T.same in subst (AreItsCalls x.script) (sym e) a)
turn_open x who w v Killed T a = kills_open x.script who w v T a
turn_open x who w v (Held owner number) T a = serves_open x who w v (Held owner number) T a (λ n call is. absurd (none_some (v.opened T.seg.0 who) (n, call) T.comes.1 is))
turn_open x who w v Moved T a = moved_open x who w v T a
turn_open x who w v (Answered position stamp) T a = serves_open x who w v (Answered position stamp) T a (λ n call is. absurd (none_some (v.opened T.seg.0 who) (n, call) T.comes.0 is))

pub turns_open : (x : Course) (turns : List ℕ) (w v : World) → Turns x turns w v → AreItsCalls x.script w → AreItsCalls x.script v
turns_open x [] w v h a = subst (AreItsCalls x.script) (sym h) a
turns_open x (who ∷ rest) w v h a = turns_open x rest h.0 v h.3 (turn_open x who w h.0 h.1 h.2 a)

pub start_is_of_its_lines : StartIsOfItsLines
start_is_of_its_lines x segments s c number call is = absurd (none_some {A = ℕ × Asked} None (number, call) refl is)

pub open_is_of_its_line : OpenIsOfItsLine
open_is_of_its_line x turns w h = turns_open x turns (start (length x.script.segments)) w h (start_is_of_its_lines x.script (length x.script.segments))

-- where each client has ended there is no such line
pub none_open : (x : Script) (w : World) → AreItsCalls x w → AllEnded x w → NothingOpen w
none_open x w a ended s c = by (w.opened s c) refl where
  by : (o : Option (ℕ × Asked)) → w.opened s c ≡ o → w.opened s c ≡ None
  by None e = e
  by (Some p) e = absurd (
      let k = a s c p.0 p.1 e in
      no_line x c (w.next c) (record { line = k.line; what = Segment k.seg p.1 }) (ended c) k.at)

pub ends_with_nothing_open : EndsWithNothingOpen
ends_with_nothing_open x turns w h ended = none_open x.script w (open_is_of_its_line x turns w h) ended
