-- One line more of what a caller has done.
use Rattle.std.proofs.Common.{◌≡◌, ◌≢◌, ℕ, suc, ◌+◌, ◌<◌, ◌≤◌, Bool, true, false, cond, eqb, eq-eqb, ne_eqb, Some, None, List, [], ◌∷◌, ◌++◌, length, length-set, length-append, append_assoc, map, set, refl, sym, ap, ◌∙◌, subst, inl, inr, arith, append-nil}
use Rattle.std.specs.Prelude.{slice_get, is_some}
use Rattle.std.specs.List.{AllByRecursion, filter, range_with_len, cons_option}
use Rattle.std.proofs.lemmas.List.{map-append}
use Rattle.std.proofs.lemmas.List.Elements.{filter-append, filter_map-append}
use Rattle.std.proofs.lemmas.Option.{slice_get_within}
use mathlib.Core.Logic.{dite}
use native.Mathlib.Decide.{ℕ_discrete}
use Rattle.cod_types.specs.declared.call.NodeId.{NodeId}
use Rattle.cod_types.specs.declared.call.SegId.{SegId}
use Rattle.cod_types.specs.declared.call.Call.{Call as Asked}
use Rattle.cod_types.specs.declared.call.Reply.{Reply}
use Rattle.cod_chronicle.specs.declared.entry.Entry.{Entry}
use Rattle.cod_chronicle.specs.declared.entry.Entry.TheVariants.{Call, Down, Up, Move}
use Rattle.cod_chronicle.specs.Laws.{is_at, is_by, Climbs, AreOwn}
use Rattle.cod_chronicle.specs.Order.{Placed, stamp_at, place}
use Rattle.cod_chronicle.specs.Said.{Precedes, last_stamp, number_by, calls_by}
use Rattle.cod_chronicle.specs.Whole.{numbers_of}
use Rattle.cod_chronicle.proofs.Orders.{Each-append, Each-weaker}
use Rattle.cod_script.specs.declared.line.Line.{Line}
use Rattle.cod_script.specs.declared.line.What.TheVariants.{Segment, Fail}
use Rattle.cod_script.specs.Owed.{asked_by, ask_by, asked_in}
use Rattle.cod_script.specs.Script.{Ask, ask_of, asks}
use Rattle.cod_script.proofs.RoomSums.{range_more}
use Rattle.cod_board.specs.declared.kill.Kill.{Kill}
use Rattle.cod_seats.proofs.Found.{has_left, has_last}
use Rattle.cod_turns.specs.Turns.{board_clock}
use Rattle.cod_turns.proofs.Lists.{asks_push, slice_get-set_same, slice_get-set_other}
use Rattle.cod_accounts.specs.Doing.{Did, HasFailed}
use Rattle.cod_accounts.specs.Holding.{entry_of}

climbs_more : (ps : List Placed) (t : ℕ) (p : Placed) → AllByRecursion (λ q. stamp_at q ≤ t) ps → t < stamp_at p → Climbs ps → Climbs (ps ++ p ∷ [])
climbs_more [] t p a lt c = (tt, tt)
climbs_more (q ∷ ps) t p a lt c = (Each-append (λ r. stamp_at q < stamp_at r) ps (p ∷ []) c.0 ((let b = a.0 in omega arith), tt), climbs_more ps t p a.1 lt c.1)

at_end : (own : List Placed) (s i : ℕ) (e : Entry) → filter (is_at i) (own ++ place s e ∷ []) ≡ filter (is_at i) own ++ cond (eqb s i) (place s e ∷ []) []
at_end own s i e = filter-append (is_at i) own (place s e ∷ [])

-- the clock doesn't fall
pub no_fall : (t after : ℕ) → Precedes t after → t ≤ after
no_fall t after r = elim r [ inl lt ↦ omega arith | inr both ↦ (let a = both.0 in let b = both.1 in omega arith) ]

module _ (caller number clock after line : ℕ) (seg : SegId) (call : Asked) (reply : Reply) (hs : List (List Entry)) (h now : List Entry) (own : List Placed) (trace : List Line)
    (d : Did caller number clock hs own trace) (there : slice_get hs seg.0 ≡ Some h) (rises : Precedes clock after)
    (calls : calls_by caller now ≡ calls_by caller h ++ entry_of (record { caller = caller; number = number; call = call }) after reply ∷ []) where
  abbrev e : Entry
  e = entry_of (record { caller = caller; number = number; call = call }) after reply

  abbrev p : Placed
  p = place seg.0 e

  mine : eqb caller caller ≡ true
  mine = eq-eqb caller caller refl

  asked_more : asked_by caller (own ++ p ∷ []) ≡ asks (trace ++ record { line = line; what = Segment seg call } ∷ [])
  asked_more =
      let one : asked_by caller (p ∷ []) ≡ record { segment = seg.0; call = call } ∷ [] = ap (λ (b : Bool). cons_option (cond b (Some (record { segment = seg.0; call = call })) None) []) mine in
      let asked = d.asked in
      filter_map-append (ask_by caller) own (p ∷ []) ∙ (ap (λ (l : List Ask). l ++ asked_by caller (p ∷ [])) asked ∙ (ap (λ (l : List Ask). asks trace ++ l) one ∙ sym (asks_push trace line (Segment seg call))))

  numbers_more : numbers_of caller (own ++ p ∷ []) ≡ range_with_len 0 (number + 1)
  numbers_more =
      let one : numbers_of caller (p ∷ []) ≡ number ∷ [] = ap (λ (b : Bool). cons_option (cond b (Some number) None) []) mine in
      let numbers = d.numbers in
      filter_map-append (λ (q : Placed). number_by caller q.entry) own (p ∷ []) ∙ (ap (λ (l : List ℕ). l ++ numbers_of caller (p ∷ [])) numbers ∙ (ap (λ (l : List ℕ). range_with_len 0 number ++ l) one ∙ sym (range_more number)))

  at_there : map (λ e. place seg.0 e) (calls_by caller now) ≡ filter (is_at seg.0) (own ++ p ∷ [])
  at_there =
      let old = d.there seg.0 h there in
      ap (map (λ (e : Entry). place seg.0 e)) calls ∙ (map-append (λ (e : Entry). place seg.0 e) (calls_by caller h) (e ∷ []) ∙ (ap (λ (l : List Placed). l ++ p ∷ []) old
      ∙ (ap (λ (b : Bool). filter (is_at seg.0) own ++ cond b (p ∷ []) []) (sym (eq-eqb seg.0 seg.0 refl)) ∙ sym (at_end own seg.0 seg.0 e))))

  at_others : (i : ℕ) (g : List Entry) → i ≢ seg.0 → slice_get hs i ≡ Some g → map (λ e. place i e) (calls_by caller g) ≡ filter (is_at i) (own ++ p ∷ [])
  at_others i g other is =
      d.there i g is ∙ (sym (append-nil (filter (is_at i) own))
      ∙ (ap (λ (b : Bool). filter (is_at i) own ++ cond b (p ∷ []) []) (sym (ne_eqb seg.0 i (λ z. other (sym z)))) ∙ sym (at_end own seg.0 i e)))

  there_more : (i : ℕ) (g : List Entry) → slice_get (set hs seg.0 now) i ≡ Some g → map (λ e. place i e) (calls_by caller g) ≡ filter (is_at i) (own ++ p ∷ [])
  there_more i g is = dite (ℕ_discrete i seg.0)
      (λ same.
      let t : Some now ≡ Some g = sym (slice_get-set_same hs seg.0 now h there) ∙ subst (λ (k : ℕ). slice_get (set hs seg.0 now) k ≡ Some g) same is in
      let g_is : now ≡ g = cc t in
      subst (λ (k : ℕ). map (λ (e : Entry). place k e) (calls_by caller g) ≡ filter (is_at k) (own ++ p ∷ [])) (sym same)
      (subst (λ (l : List Entry). map (λ (e : Entry). place seg.0 e) (calls_by caller l) ≡ filter (is_at seg.0) (own ++ p ∷ [])) g_is at_there))
      (λ other. at_others i g other (sym (slice_get-set_other hs seg.0 i now other) ∙ is))

  -- a call that was answered
  pub did_call : Did caller (number + 1) after (set hs seg.0 now) (own ++ p ∷ []) (trace ++ record { line = line; what = Segment seg call } ∷ [])
  did_call =
      let below = d.below in
      let within = d.within in
      let le = no_fall clock after rises in
      let long = length-set hs seg.0 now in
      record {
        asked = asked_more;
        numbers = numbers_more;
        there = there_more;
        below = Each-append (λ q. stamp_at q ≤ after) own (p ∷ []) (Each-weaker (λ q. stamp_at q ≤ clock) (λ q. stamp_at q ≤ after) (λ q b. omega arith) own below) (omega arith, tt);
        climbs = λ small. elim rises [ inl lt ↦ climbs_more own clock p below lt (d.climbs (omega arith)) | inr both ↦ (let b = both.1 in absurd (omega arith)) ];
        within = Each-append (λ q. q.segment < length (set hs seg.0 now)) own (p ∷ []) (Each-weaker (λ q. q.segment < length hs) (λ q. q.segment < length (set hs seg.0 now)) (λ q b. omega arith) own within)
            ((let i = slice_get_within hs seg.0 h there in omega arith), tt);
      }

-- a node that was killed
pub did_kill : (caller number clock line : ℕ) (node : NodeId) (hs : List (List Entry)) (own : List Placed) (trace : List Line) → Did caller number clock hs own trace
    → Did caller number clock hs own (trace ++ record { line = line; what = Fail node } ∷ [])
did_kill caller number clock line node hs own trace d =
    let asked = d.asked in
    record {
      asked = asked ∙ (sym (append-nil (asks trace)) ∙ sym (asks_push trace line (Fail node)));
      numbers = d.numbers;
      there = d.there;
      below = d.below;
      climbs = d.climbs;
      within = d.within;
    }

-- a later clock
pub did_meet : (caller number clock after : ℕ) (hs : List (List Entry)) (own : List Placed) (trace : List Line) → clock ≤ after → Did caller number clock hs own trace
    → Did caller number after hs own trace
did_meet caller number clock after hs own trace le d = record {
  asked = d.asked;
  numbers = d.numbers;
  there = d.there;
  below = Each-weaker (λ q. stamp_at q ≤ clock) (λ q. stamp_at q ≤ after) (λ q b. omega arith) own d.below;
  climbs = λ small. d.climbs (omega arith);
  within = d.within;
}

-- ---- its kills

-- as many calls as there are numbers
asks_as_numbers : (caller : ℕ) (own : List Placed) → length (asked_by caller own) ≡ length (numbers_of caller own)
asks_as_numbers caller [] = refl
asks_as_numbers caller (p ∷ own) = by p.entry (asks_as_numbers caller own) where
  either : (b : Bool) (a : Ask) (n : ℕ) (xs : List Ask) (ys : List ℕ) → length xs ≡ length ys → length (cons_option (cond b (Some a) None) xs) ≡ length (cons_option (cond b (Some n) None) ys)
  either true a n xs ys h = ap suc h
  either false a n xs ys h = h

  by : (e : Entry) → length (asked_by caller own) ≡ length (numbers_of caller own)
      → length (cons_option (asked_in p.segment caller e) (asked_by caller own)) ≡ length (cons_option (number_by caller e) (numbers_of caller own))
  by (Call c number stamp call reply) h = either (eqb c.0 caller) (record { segment = p.segment; call = call }) number (asked_by caller own) (numbers_of caller own) h
  by (Down stamp col node cause) h = h
  by (Up stamp col node) h = h
  by (Move stamp col node) h = h

-- the calls of some lines are no fewer than those of the first of them
asks_front : (front rest : List Line) → length (asks front) ≤ length (asks (front ++ rest))
asks_front front rest =
    let e : length (asks (front ++ rest)) ≡ length (asks front) + length (asks rest) = ap length (filter_map-append (λ (l : Line). ask_of l.what) front rest) ∙ length-append (asks front) (asks rest) in
    omega arith

-- a kill stays as it was made, with a further line
pub failed_still : (caller : ℕ) (own : List Placed) (clocks : List ℕ) (trace : List Line) (node : ℕ) (kill : Kill) (l : Line) (more : List ℕ) → HasFailed caller own clocks trace node kill
    → HasFailed caller own (clocks ++ more) (trace ++ l ∷ []) node kill
failed_still caller own clocks trace node kill l more f =
    let lines = f.lines in
    let had = f.had in
    record {
      front = f.front;
      rest = f.rest ++ l ∷ [];
      at = f.at;
      node_is = f.node_is;
      lines = ap (λ (ls : List Line). ls ++ l ∷ []) lines ∙ append_assoc f.front (record { line = kill.line; what = Fail f.at } ∷ f.rest) (l ∷ []);
      clock = f.clock;
      had = has_left f.clock clocks more had;
      clock_is = f.clock_is;
      covers = f.covers;
    }

-- also with a further call, whose number is none of those that the kill covers
pub failed_calls : (caller : ℕ) (own : List Placed) (clocks : List ℕ) (trace : List Line) (node : ℕ) (kill : Kill) (p : Placed) (number : ℕ) → number_by caller p.entry ≡ Some number
    → length (asks trace) ≤ number → HasFailed caller own clocks trace node kill → HasFailed caller (own ++ p ∷ []) clocks trace node kill
failed_calls caller own clocks trace node kill p number is low f =
    let lines = f.lines in
    let few = asks_front f.front (record { line = kill.line; what = Fail f.at } ∷ f.rest) in
    let all : length (asks (f.front ++ record { line = kill.line; what = Fail f.at } ∷ f.rest)) ≡ length (asks trace) = ap (λ (ls : List Line). length (asks ls)) (sym lines) in
    record {
      front = f.front;
      rest = f.rest;
      at = f.at;
      node_is = f.node_is;
      lines = lines;
      clock = f.clock;
      had = f.had;
      clock_is = f.clock_is;
      covers = λ m small. Each-append (λ (q : Placed). number_by caller q.entry ≡ Some m → stamp_at q ≤ f.clock) own (p ∷ []) (f.covers m small)
          ((λ other. (let same : Some number ≡ Some m = sym is ∙ other in let n : number ≡ m = cc same in absurd (omega arith))), tt);
    }

-- the kill of the last line
pub fails_now : (caller number clock : ℕ) (hs : List (List Entry)) (own : List Placed) (clocks : List ℕ) (trace : List Line) (line : ℕ) (at : NodeId) → Did caller number clock hs own trace
    → HasFailed caller own (clocks ++ clock ∷ []) (trace ++ record { line = line; what = Fail at } ∷ []) at.0 (record { line = line; clock = board_clock clock })
fails_now caller number clock hs own clocks trace line at d = record {
  front = trace;
  rest = [];
  at = at;
  node_is = refl;
  lines = refl;
  clock = clock;
  had = has_last clock clocks;
  clock_is = refl;
  covers = λ m small. Each-weaker (λ (q : Placed). stamp_at q ≤ clock) (λ (q : Placed). number_by caller q.entry ≡ Some m → stamp_at q ≤ clock) (λ q le is. le) own d.below;
}

-- ---- at the end

-- a caller's calls, placed
pub calls_placed : (c s : ℕ) (h : List Entry) → filter (is_by c) (map (λ e. place s e) h) ≡ map (λ e. place s e) (calls_by c h)
calls_placed c s [] = refl
calls_placed c s ((Call caller number stamp call reply) ∷ es) = by (eqb caller.0 c) (calls_placed c s es) where
  by : (b : Bool) → filter (is_by c) (map (λ e. place s e) es) ≡ map (λ e. place s e) (calls_by c es)
      → cond (is_some (cond b (Some number) None)) (place s (Call caller number stamp call reply) ∷ filter (is_by c) (map (λ e. place s e) es)) (filter (is_by c) (map (λ e. place s e) es))
      ≡ map (λ e. place s e) (cond (is_some (cond b (Some number) None)) ((Call caller number stamp call reply) ∷ calls_by c es) (calls_by c es))
  by true r = ap (λ (l : List Placed). place s (Call caller number stamp call reply) ∷ l) r
  by false r = r
calls_placed c s ((Down stamp col node cause) ∷ es) = calls_placed c s es
calls_placed c s ((Up stamp col node) ∷ es) = calls_placed c s es
calls_placed c s ((Move stamp col node) ∷ es) = calls_placed c s es

-- Where the segments ended with lists which have the caller's calls as it last saw them, its calls are its own.
pub did_is_own : (caller number clock : ℕ) (ls hs : List (List Entry)) (own : List Placed) (trace : List Line) (d : Did caller number clock ls own trace) → clock < last_stamp → length hs ≡ length ls
    → ((s : ℕ) (h : List Entry) → slice_get hs s ≡ Some h → (l : List Entry) × (slice_get ls s ≡ Some l) × (calls_by caller h ≡ calls_by caller l)) → AreOwn caller hs own
did_is_own caller number clock ls hs own trace d small long same =
    let within = d.within in
    record {
      climbs = d.climbs small;
      there = λ s h is. let l = same s h is in calls_placed caller s h ∙ (ap (map (λ (e : Entry). place s e)) l.2 ∙ d.there s l.0 l.1);
      within = subst (λ (n : ℕ). AllByRecursion (λ (p : Placed). p.segment < n) own) (sym long) within;
    }
