-- What passes have worked is what callers leave that share the segments.
use Rattle.std.proofs.Common.{◌≡◌, ◌≢◌, ◌⊎◌, ℕ, zero, suc, ◌+◌, ◌-◌, ◌<◌, ◌≤◌, ◌^◌, Bool, true, false, cond, ltb, ne_eqb, Option, Some, None, is_some, List, [], ◌∷◌, ◌++◌, length, map, get_or, refl, sym, ap, ◌∙◌, subst, inl, inr, arith, append_assoc, append-nil}
use Rattle.std.specs.Prelude.{slice_get, option_map, All}
use Rattle.std.specs.List.{AllByRecursion, range_with_len}
use Rattle.std.proofs.lemmas.Bool.{cases_lt}
use Rattle.std.proofs.lemmas.List.{append_cancel_left, length-map}
use Rattle.std.proofs.lemmas.List.Elements.{All-from_recursion, All-weaker}
use Rattle.std.proofs.lemmas.List.FromFn.{length-range_with_len}
use Rattle.std.proofs.lemmas.Option.{get_or_from_slice_get, slice_get-map, slice_get_within}
use Rattle.std.proofs.Math.ListN.{get_or-eq_default}
use Rattle.cod_types.specs.declared.call.Reply.{Reply}
use Rattle.cod_types.specs.declared.call.Reply.TheVariants.{Bytes, Done, Range, Long, Lost, Whole, Rebuilt, NoSpare, NoMem, Shifted, Clear, Differs}
use Rattle.cod_types.specs.declared.reasons.Reason.{Reason}
use Rattle.cod_types.specs.declared.reasons.Why.{Why}
use Rattle.cod_types.specs.declared.reasons.Why.TheVariants as why
use Rattle.cod_chronicle.specs.declared.entry.Entry.{Entry}
use Rattle.cod_chronicle.specs.declared.entry.Entry.TheVariants.{Call, Down, Up, Move}
use Rattle.cod_chronicle.specs.declared.entry.Cause.TheVariants.{Killed, Fault}
use Rattle.cod_chronicle.specs.Event.{NodeKill, IsSeenReply, IsSeenWhy}
use Rattle.cod_chronicle.specs.Laws.{AreOwn}
use Rattle.cod_chronicle.specs.Legal.{IsLegal}
use Rattle.cod_chronicle.specs.Order.{Placed, stamp_at, place, placed}
use Rattle.cod_chronicle.specs.Said.{Site, site_as, stamp_of, clock_of, last_stamp, number_by, calls_by, IsChronicle}
use Rattle.cod_chronicle.specs.Standing.{OpenCalls}
use Rattle.cod_chronicle.specs.Whole.{HasStamp, numbers_of}
use Rattle.cod_chronicle.proofs.Orders.{Each-weaker}
use Rattle.cod_script.specs.declared.line.Line.{Line}
use Rattle.cod_script.specs.declared.line.What.TheVariants.{Fail}
use Rattle.cod_script.specs.Owed.{SeesFails, SeesFailsAfter, IsOut, failed_ahead, asked_by, is_fail}
use Rattle.cod_script.specs.Script.{Ask, lines_by}
use Rattle.cod_board.specs.declared.kill.Kill.{Kill}
use Rattle.cod_board.specs.Seats.{kills_in}
use Rattle.cod_board.proofs.Found.{known_has}
use Rattle.cod_seats.specs.Totals.{Has}
use Rattle.cod_turn.specs.declared.view.View.{View}
use Rattle.cod_turn.proofs.Prefixes.{calls_by-append}
use Rattle.cod_turns.specs.Closed.{IsMade, IsMadeWhy, IsMadeReply, IsMadeEntry, IsClosed}
use Rattle.cod_turns.specs.Turns.{Course, board_clock}
use Rattle.cod_turns.proofs.Closing.{closed_is_history}
use Rattle.cod_turns.proofs.Losing.{by_segments}
use Rattle.cod_accounts.specs.Accounts.{StampIn, Comes, Springs, HasCause}
use Rattle.cod_accounts.specs.Closing.{HasNoFail, Fulfils, HasWorked, AllClosed, WorkedIsClosed, WorkedIsHistory}
use Rattle.cod_accounts.specs.Doing.{SeesOwnFailsAfter}
use Rattle.cod_accounts.specs.Holding.{kills_at}
use Rattle.cod_accounts.specs.Working.{Pass, IsReal, first_list, lists_of}
use Rattle.cod_accounts.proofs.Accounting.{Each, stamp_more}
use Rattle.cod_accounts.proofs.Causing.{Saw, of_view as saw_of, Accounted as AccountedBy, each_accounted as all_accounted}
use Rattle.cod_accounts.proofs.Choosing.{there_is, picked, picked_at, picked_long, in_placed, stamp_below, stamps_below}
use Rattle.cod_accounts.proofs.Doing.{calls_placed, did_is_own}
use Rattle.cod_accounts.proofs.Failing.{sees_append, sees_none, sees_at}
use Rattle.cod_accounts.proofs.Kills.{seen_of}
use Rattle.cod_accounts.proofs.Works.{got, list_there, list_at}

-- ---- entries, one after another

-- an entry is no call of this caller
abbrev pub IsNotBy : ℕ → Entry → Type 0
IsNotBy who (Call caller number stamp call reply) = caller.0 ≢ who
IsNotBy who _ = Unit {0}

none_by : (who : ℕ) (h : List Entry) → AllByRecursion (IsNotBy who) h → calls_by who h ≡ []
none_by who [] a = refl
none_by who ((Call caller number stamp call reply) ∷ h) a =
    ap (λ (b : Bool). cond (is_some (cond b (Some number) None)) (Call caller number stamp call reply ∷ calls_by who h) (calls_by who h)) (ne_eqb caller.0 who a.0) ∙ none_by who h a.1
none_by who ((Down stamp col node cause) ∷ h) a = none_by who h a.1
none_by who ((Up stamp col node) ∷ h) a = none_by who h a.1
none_by who ((Move stamp col node) ∷ h) a = none_by who h a.1

-- no list with a `fail` line has none
fails_none : (front rest : List Line) (l : Line) → is_fail l ≡ true → HasNoFail (front ++ l ∷ rest) → ⊥
fails_none [] rest l is a = let bad : true ≡ false = sym is ∙ a.0 in cc bad
fails_none (f ∷ front) rest l is a = fails_none front rest l is a.1

module _ {T : Type 0} (name : T → List ℕ) (log : T → List Entry) (opened : T → OpenCalls) (x : Course) (owes : ℕ → List Ask) (passes : List (Pass T)) (values : List T) (kills : List (Option Kill))
    (A : AllClosed name log opened x owes passes values kills) where
  abbrev hs : List (List Entry)
  hs = map log values

  abbrev site : ℕ → Site
  site s = site_as x.told x.script.shape x.script.nodes s

  -- ---- each caller's own calls

  abbrev Full : ℕ → Pass T → Type 0
  Full c p = Fulfils log opened x owes c p

  own_in : (c : ℕ) (p : Pass T) → Full c p → List Placed
  own_in c p f = f.worked.own

  owns : List (List Placed)
  owns = picked Full own_in passes A.fulfils

  own : ℕ → List Placed
  own who = get_or owns who []

  -- what the pass of a caller has worked, by which its own calls are known
  record Work (c : ℕ) (p : Pass T) : Type 0 where
    full : Full c p
    own_is : own c ≡ full.worked.own

  work : (c : ℕ) (p : Pass T) → slice_get passes c ≡ Some p → Work c p
  unfolding own owns own_in
  work c p is = let f = picked_at Full own_in passes A.fulfils c p is in record { full = f.0; own_is = get_or_from_slice_get owns c f.0.worked.own [] f.1 }

  none_own : (who : ℕ) → length passes ≤ who → own who ≡ []
  unfolding own owns
  none_own who ge = let long = picked_long Full own_in passes A.fulfils in get_or-eq_default owns [] (omega arith)

  -- ---- what a pass last saw of a segment, and what it is at the end

  abbrev works : (c : ℕ) (p : Pass T) → slice_get passes c ≡ Some p → HasWorked log opened x p
  works c p is = let f = (work c p is).full in record { met = false; trace = f.trace; worked = f.worked }

  of_view : (c : ℕ) (p : Pass T) (s : ℕ) (now : T) (v : View T) → slice_get passes c ≡ Some p → slice_get values s ≡ Some now → slice_get p.seats s ≡ Some v → Saw name log opened x passes values works A.segments p now v
  of_view = saw_of name log opened x passes values works A.segments

  abbrev Accounted : ℕ → List Entry → Entry → Type 0
  Accounted = AccountedBy name log opened x passes values works A.segments

  each_accounted : (s : ℕ) (now : T) → slice_get values s ≡ Some now → Each (Accounted s) [] (log now)
  each_accounted = all_accounted name log opened x passes values works A.segments

  seat_at : (c : ℕ) (p : Pass T) (s : ℕ) (now : T) → slice_get passes c ≡ Some p → slice_get values s ≡ Some now → (v : View T) × (slice_get p.seats s ≡ Some v)
  seat_at c p s now is at =
      let f = (work c p is).full in
      let lt = slice_get_within values s now at in
      let count = A.count in
      let seats = f.seats in
      there_is p.seats s (omega arith)

  -- a pass's seats are of segments that there are
  value_at : (c : ℕ) (p : Pass T) (s : ℕ) (v : View T) → slice_get passes c ≡ Some p → slice_get p.seats s ≡ Some v → (now : T) × (slice_get values s ≡ Some now)
  value_at c p s v is seat =
      let f = (work c p is).full in
      let lt = slice_get_within p.seats s v seat in
      let count = A.count in
      let seats = f.seats in
      there_is values s (omega arith)

  -- ---- clocks

  abbrev IsClock : ℕ → Type 0
  IsClock t = (t ≡ 0) ⊎ HasStamp (placed hs) t

  value_list : (s : ℕ) (now : T) → slice_get values s ≡ Some now → slice_get hs s ≡ Some (log now)
  value_list s now at = slice_get-map log values s ∙ ap (option_map log) at

  clock_real : (c : ℕ) (p : Pass T) (is : slice_get passes c ≡ Some p) (t : ℕ) → Has t (p.clock ∷ (work c p is).full.worked.clocks) → IsClock t × (t < last_stamp)
  clock_real c p is t has = by ((work c p is).full.worked.real refl t has) where
    by : IsReal (lists_of log p.seats) t → IsClock t × (t < last_stamp)
    by (inl none) = (inl none, omega arith)
    by (inr (s, h, at, stamp)) =
        let v = list_there log opened p.seats s h at in
        let n = value_at c p s v.0 is v.1 in
        let sh = of_view c p s n.0 v.0 is n.1 v.1 in
        let inside : StampIn (log n.0) t = stamp_more (first_list log v.0.own) (log n.0) t sh.begins (subst (λ (l : List Entry). StampIn l t) (sym v.2) stamp) in
        let closed = A.segments s n.0 n.1 in
        let le = stamp_below (log n.0) t closed.chronicle.stamps inside in
        let small = A.small s n.0 n.1 in
        (inr (in_placed 0 hs s (log n.0) t (value_list s n.0 n.1) inside), omega arith)

  -- ---- kills

  -- a kill that a pass knows is one that a pass made by a `fail` line of its own, and its clock is that of an entry, or 0
  record Cause (node : ℕ) (k : NodeKill) : Type 0 where
    made : IsMade x.script hs own node k
    clock : IsClock k.clock

  lines_of : (c : ℕ) (p : Pass T) (f : Full c p) (front rest : List Line) (l : Line) → f.trace ≡ front ++ l ∷ rest → is_fail l ≡ true → lines_by x.script c ≡ front ++ l ∷ rest
  lines_of c p f front rest l parts is = elim f.lines [
    | inl e ↦ sym e ∙ parts
    | inr none ↦ absurd (fails_none front rest l is (subst HasNoFail parts none.1))
  ]

  small_or_none : (t : ℕ) → IsClock t → IsClock (board_clock t)
  small_or_none t c = by (ltb t (2 ^ 32)) where
    by : (b : Bool) → IsClock (cond b t 0)
    by true = c
    by false = inl refl

  cause_of : (c : ℕ) (p : Pass T) (node : ℕ) (k : NodeKill) → slice_get passes c ≡ Some p → kills_at (kills_in x.script.nodes p.board.seen) node ≡ Some k → Cause node k
  cause_of c p node k is e =
      let seen = seen_of x.script.nodes node p.board.seen k e in
      let kill : Kill = seen.kill in
      let on_board = A.board.seen c p node kill is (known_has node kill p.board.seen seen.is) in
      let by = A.board.made node kill on_board in
      let d : ℕ = by.0 in
      let q : Pass T = by.1 in
      let w = work d q by.2 in
      let f = w.full in
      let h = f.worked.made node kill by.3 in
      let clock = clock_real d q by.2 h.clock (suc h.had.0, h.had.1) in
      let caller = f.caller in
      let own_is = w.own_is in
      subst (Cause node) seen.plain (record {
        made = record {
          who = d;
          front = h.front;
          behind = record { rest = h.rest; at = h.at; node_is = h.node_is; lines_are = lines_of d q f h.front h.rest (record { line = kill.line; what = Fail h.at }) h.lines refl };
          clock = h.clock;
          clock_is = h.clock_is;
          stamp = clock.0;
          covers = λ number small. subst (λ (ps : List Placed). AllByRecursion (λ p. number_by d p.entry ≡ Some number → stamp_at p ≤ h.clock) ps) (sym own_is)
              (subst (λ (who : ℕ). AllByRecursion (λ p. number_by who p.entry ≡ Some number → stamp_at p ≤ h.clock) f.worked.own) caller (h.covers number small));
        };
        clock = (let e : kill.clock ≡ board_clock h.clock = h.clock_is in subst IsClock (sym e) (small_or_none h.clock clock.0));
      })

  -- ---- a caller that has no pass has no call

  not_by : (who : ℕ) → length passes ≤ who → (s : ℕ) (before rest : List Entry) → Each (Accounted s) before rest → AllByRecursion (IsNotBy who) rest
  not_by who ge s before [] a = tt
  not_by who ge s before (e ∷ rest) a = (one e a.0, not_by who ge s (before ++ e ∷ []) rest a.1) where
    one : (e : Entry) → Accounted s before e → IsNotBy who e
    one (Call caller number stamp call reply) b =
        let f = (work b.by b.pass b.is).full in
        let lt = slice_get_within passes b.by b.pass b.is in
        let is : caller.0 ≡ b.pass.caller = b.told.2.cause.0 in
        let mine = f.caller in
        λ other. absurd (omega arith)
    one (Down stamp col node cause) b = tt
    one (Up stamp col node) b = tt
    one (Move stamp col node) b = tt

  -- ---- no stamp is left out

  abbrev IsGood : ℕ → Type 0
  IsGood t = (t ≤ 1) ⊎ HasStamp (placed hs) (t - 1)

  clock_good : (t u : ℕ) → t ≡ u + 1 → IsClock u → IsGood t
  clock_good t u is (inl none) = inl (omega arith)
  clock_good t u is (inr there) = inr (subst (HasStamp (placed hs)) (let e : u ≡ t - 1 = omega arith in e) there)

  in_list : (s : ℕ) (now : T) (before rest : List Entry) (u : ℕ) → slice_get values s ≡ Some now → log now ≡ before ++ rest → StampIn before u → IsClock u
  in_list s now before rest u at parts st = inr (in_placed 0 hs s (log now) u (value_list s now at) (stamp_more before (log now) u (rest, sym parts) st))

  clock_of_account : (s : ℕ) (now : T) (before rest : List Entry) (e : Entry) (u : ℕ) → slice_get values s ≡ Some now → log now ≡ before ++ e ∷ rest → (a : Accounted s before e)
      → Comes (kills_at (kills_in x.script.nodes a.pass.board.seen)) a.told.0 before u → IsClock u
  clock_of_account s now before rest e u at parts a (inl same) = subst IsClock (sym same) (clock_real a.by a.pass a.is a.told.0 (suc a.told.1.0, a.told.1.1)).0
  clock_of_account s now before rest e u at parts a (inr (inl (inl none))) = inl none
  clock_of_account s now before rest e u at parts a (inr (inl (inr st))) = in_list s now before (e ∷ rest) u at parts st
  clock_of_account s now before rest e u at parts a (inr (inr (node, k, is, clock))) = subst IsClock clock (cause_of a.by a.pass node k a.is is).clock

  good : (s : ℕ) (now : T) (before rest : List Entry) (e : Entry) → slice_get values s ≡ Some now → log now ≡ before ++ e ∷ rest → stamp_of e < last_stamp → (a : Accounted s before e)
      → Springs (kills_at (kills_in x.script.nodes a.pass.board.seen)) a.told.0 before (stamp_of e) → IsGood (stamp_of e)
  good s now before rest e at parts small a (inl last) = absurd (omega arith)
  good s now before rest e at parts small a (inr (u, one, comes)) = clock_good (stamp_of e) u one (clock_of_account s now before rest e u at parts a comes)

  all_good : (s : ℕ) (now : T) (before rest : List Entry) → slice_get values s ≡ Some now → log now ≡ before ++ rest → AllByRecursion (λ e. stamp_of e < last_stamp) rest
      → Each (Accounted s) before rest → AllByRecursion (λ e. IsGood (stamp_of e)) rest
  all_good s now before [] at parts small a = tt
  all_good s now before (e ∷ rest) at parts small a = (
    good s now before rest e at parts small.0 a.0 a.0.told.2.springs,
    all_good s now (before ++ e ∷ []) rest at (parts ∙ sym (append_assoc before (e ∷ []) rest)) small.1 a.1,
  )

  all_small : (s : ℕ) (now : T) → slice_get values s ≡ Some now → AllByRecursion (λ e. stamp_of e < last_stamp) (log now)
  all_small s now at =
      let closed = A.segments s now at in
      let small = A.small s now at in
      Each-weaker (λ e. stamp_of e ≤ clock_of (log now)) (λ e. stamp_of e < last_stamp) (λ e le. omega arith) (log now) (stamps_below (log now) closed.chronicle.stamps)

  -- ---- what entries tell was made

  made_why : (a : ℕ) (p : Pass T) → slice_get passes a ≡ Some p → (node : ℕ) (y : Why) → IsSeenWhy (kills_at (kills_in x.script.nodes p.board.seen)) x.may node y → IsMadeWhy x hs own node y
  made_why c p is node (why.Down line) s = (s.0, (cause_of c p node s.0 is s.1).made, s.2)
  made_why c p is node (why.Free bytes) s = tt
  made_why c p is node (why.Fault count) s = s

  made_reply : (c : ℕ) (p : Pass T) → slice_get passes c ≡ Some p → (reply : Reply) → IsSeenReply (kills_at (kills_in x.script.nodes p.board.seen)) x.may reply → IsMadeReply x hs own reply
  made_reply c p is (NoSpare reasons) s = All-weaker (λ (r : Reason). IsSeenWhy (kills_at (kills_in x.script.nodes p.board.seen)) x.may r.node.0 r.why) (λ (r : Reason). IsMadeWhy x hs own r.node.0 r.why)
      (λ r y. made_why c p is r.node.0 r.why y) reasons s
  made_reply c p is (Bytes bytes) s = tt
  made_reply c p is (Differs bytes) s = tt
  made_reply c p is Done s = tt
  made_reply c p is Range s = tt
  made_reply c p is Long s = tt
  made_reply c p is Lost s = tt
  made_reply c p is Whole s = tt
  made_reply c p is (Rebuilt col node) s = tt
  made_reply c p is NoMem s = tt
  made_reply c p is (Shifted col node) s = tt
  made_reply c p is Clear s = tt

  made_entry : (c : ℕ) (p : Pass T) → slice_get passes c ≡ Some p → (e : Entry) → stamp_of e < last_stamp → HasCause p.caller (kills_at (kills_in x.script.nodes p.board.seen)) x.may e → IsMadeEntry x hs own e
  made_entry c p is (Call caller number stamp call reply) small h = made_reply c p is reply h.1
  made_entry c p is (Down stamp col node (Killed line)) small h =
      (h.0, (cause_of c p node.0 h.0 is h.1).made, h.2, elim (h.3) [ inl lt ↦ lt | inr last ↦ absurd (omega arith) ])
  made_entry c p is (Down stamp col node (Fault count)) small h = h
  made_entry c p is (Up stamp col node) small h = tt
  made_entry c p is (Move stamp col node) small h = tt

  all_made : (s : ℕ) (before rest : List Entry) → AllByRecursion (λ e. stamp_of e < last_stamp) rest → Each (Accounted s) before rest → AllByRecursion (IsMadeEntry x hs own) rest
  all_made s before [] small a = tt
  all_made s before (e ∷ rest) small a = (made_entry a.0.by a.0.pass a.0.is e small.0 a.0.told.2.cause, all_made s (before ++ e ∷ []) rest small.1 a.1)

  -- ---- calls see the failures ahead of them

  sees_whole : (c : ℕ) (p : Pass T) (is : slice_get passes c ≡ Some p) (s : ℕ) (now : T) → slice_get values s ≡ Some now
      → SeesOwnFailsAfter p.caller (work c p is).full.trace (site s) [] (log now)
  sees_whole c p is s now at =
      let f = (work c p is).full in
      let v = seat_at c p s now is at in
      let saw = of_view c p s now v.0 is at v.1 in
      let first : List Entry = first_list log v.0.own in
      let rest : List Entry = saw.begins.0 in
      let none : calls_by p.caller rest ≡ [] =
      append_cancel_left (calls_by p.caller first) (calls_by p.caller rest) []
      (sym (calls_by-append p.caller first rest) ∙ (ap (calls_by p.caller) saw.begins.1 ∙ (saw.calls ∙ sym (append-nil (calls_by p.caller first))))) in
      subst (SeesOwnFailsAfter p.caller f.trace (site s) []) saw.begins.1
      (sees_append p.caller (site s) f.trace [] first rest (f.worked.shows s v.0 v.1).sees (sees_none p.caller (site s) f.trace first rest none))

  sees_entry : (s : ℕ) (now : T) (before rest : List Entry) (e : Entry) → slice_get values s ≡ Some now → log now ≡ before ++ e ∷ rest → Accounted s before e → SeesFails x.script (site s) before e
  sees_entry s now before rest (Call caller number stamp call reply) at parts a =
      let f = (work a.by a.pass a.is).full in
      let e : Entry = Call caller number stamp call reply in
      let whole = subst (SeesOwnFailsAfter a.pass.caller f.trace (site s) []) parts (sees_whole a.by a.pass a.is s now at) in
      let is : caller.0 ≡ a.pass.caller = a.told.2.cause.0 in
      let out : All (IsOut (site s) before) (failed_ahead f.trace number) = sees_at a.pass.caller (site s) f.trace [] before rest e whole is in
      let who : a.by ≡ caller.0 = sym f.caller ∙ sym is in
      elim f.lines [
        | inl same ↦ subst (λ (ls : List Line). All (IsOut (site s) before) (failed_ahead ls number)) (same ∙ ap (lines_by x.script) who) out
        | inr none ↦ subst (λ (ls : List Line). All (IsOut (site s) before) (failed_ahead ls number)) (sym none.0 ∙ ap (lines_by x.script) who) (All-from_recursion (IsOut (site s) before) [] tt)
      ]
  sees_entry s now before rest (Down stamp col node cause) at parts a = tt
  sees_entry s now before rest (Up stamp col node) at parts a = tt
  sees_entry s now before rest (Move stamp col node) at parts a = tt

  all_see : (s : ℕ) (now : T) (before rest : List Entry) → slice_get values s ≡ Some now → log now ≡ before ++ rest → Each (Accounted s) before rest → SeesFailsAfter x.script (site s) before rest
  all_see s now before [] at parts a = tt
  all_see s now before (e ∷ rest) at parts a =
      (sees_entry s now before rest e at parts a.0, all_see s now (before ++ e ∷ []) rest at (parts ∙ sym (append_assoc before (e ∷ []) rest)) a.1)

  -- ---- each caller's own calls are its own

  own_of_pass : (c : ℕ) (p : Pass T) → slice_get passes c ≡ Some p → AreOwn c hs (own c)
  own_of_pass c p is =
      let w = work c p is in
      let f = w.full in
      let count = A.count in
      let seats = f.seats in
      let small = (clock_real c p is p.clock (zero, refl)).1 in
      let long : length hs ≡ length (lists_of log p.seats) =
      length-map values log ∙ (count ∙ (sym seats ∙ sym (length-map p.seats (λ (v : View T). first_list log v.own)))) in
      subst (AreOwn c hs) (sym w.own_is) (subst (λ (who : ℕ). AreOwn who hs f.worked.own) f.caller
      (did_is_own p.caller p.number p.clock (lists_of log p.seats) hs f.worked.own f.trace f.worked.did small long
      (λ s h at.
      let n = got log values s h at in
      let v = seat_at c p s n.0 is n.1 in
      let saw = of_view c p s n.0 v.0 is n.1 v.1 in
      (first_list log v.0.own, list_at log opened p.seats s v.0 v.1, ap (calls_by p.caller) (sym n.2) ∙ saw.calls))))

  own_of_none : (who : ℕ) → length passes ≤ who → AreOwn who hs (own who)
  own_of_none who ge = subst (AreOwn who hs) (sym (none_own who ge)) (record {
    climbs = tt;
    there = λ s h at.
        let n = got log values s h at in
        let none : calls_by who (log n.0) ≡ [] = none_by who (log n.0) (not_by who ge s [] (log n.0) (each_accounted s n.0 n.1)) in
        calls_placed who s h ∙ ap (map (λ (e : Entry). place s e)) (ap (calls_by who) (sym n.2) ∙ none);
    within = tt;
  })

  -- ---- all of it

  -- of each caller: its pass, or that it has none
  either : (P : ℕ → Type 0) → ((c : ℕ) (p : Pass T) → slice_get passes c ≡ Some p → P c) → ((c : ℕ) → length passes ≤ c → P c) → (who : ℕ) → P who
  either P pass none who = elim (cases_lt who (length passes)) [
    | inl lt ↦ (let p = there_is passes who lt in pass who p.0 p.1)
    | inr ge ↦ none who ge
  ]

  asked_of : (who : ℕ) → asked_by who (own who) ≡ owes who
  asked_of = either (λ who. asked_by who (own who) ≡ owes who)
      (λ c p is.
      let w = work c p is in
      let f = w.full in
      let d = f.worked.did in
      ap (asked_by c) w.own_is ∙ (ap (λ (who : ℕ). asked_by who f.worked.own) (sym f.caller) ∙ (d.asked ∙ f.owed)))
      (λ c ge. ap (asked_by c) (none_own c ge) ∙ sym (A.others c ge))

  numbers_of_all : (who : ℕ) → numbers_of who (own who) ≡ range_with_len 0 (length (numbers_of who (own who)))
  numbers_of_all = either (λ who. numbers_of who (own who) ≡ range_with_len 0 (length (numbers_of who (own who))))
      (λ c p is.
      let w = work c p is in
      let f = w.full in
      let d = f.worked.did in
      let e : numbers_of c (own c) ≡ range_with_len 0 p.number = ap (numbers_of c) w.own_is ∙ (ap (λ (who : ℕ). numbers_of who f.worked.own) (sym f.caller) ∙ d.numbers) in
      e ∙ ap (range_with_len 0) (sym (ap length e ∙ length-range_with_len 0 p.number)))
      (λ c ge. subst (λ (ps : List Placed). numbers_of c ps ≡ range_with_len 0 (length (numbers_of c ps))) (sym (none_own c ge)) refl)

  -- what holds of each entry of each value holds of all
  each_placed : (Q : Entry → Type 0) → ((s : ℕ) (now : T) → slice_get values s ≡ Some now → AllByRecursion Q (log now)) → All (λ p. Q p.entry) (placed hs)
  each_placed Q all = All-from_recursion (λ p. Q p.entry) (placed hs) (by_segments (λ p. Unit {0}) (λ p. Q p.entry) 0 hs (nothing (placed hs))
      (λ s h at u. (let n = got log values s h at in subst (AllByRecursion Q) n.2 (all s n.0 n.1)))) where
        nothing : (ps : List Placed) → AllByRecursion (λ p. Unit {0}) ps
        nothing [] = tt
        nothing (p ∷ ps) = (tt, nothing ps)

  closed : IsClosed x owes hs own
  closed =
      let count = A.count in
      record {
        count = length-map values log ∙ count;
        each = λ s h at. (let n = got log values s h at in let g = A.segments s n.0 n.1 in
            (subst IsChronicle n.2 g.chronicle, subst (IsLegal (site s)) n.2 g.legal));
        sees = λ s h at. (let n = got log values s h at in
            subst (SeesFailsAfter x.script (site s) []) n.2 (all_see s n.0 [] (log n.0) n.1 refl (each_accounted s n.0 n.1)));
        are = either (λ who. AreOwn who hs (own who)) own_of_pass own_of_none;
        asked = asked_of;
        numbers = numbers_of_all;
        gaps = each_placed (λ e. IsGood (stamp_of e)) (λ s now at. all_good s now [] (log now) at refl (all_small s now at) (each_accounted s now at));
        made = each_placed (IsMadeEntry x hs own) (λ s now at. all_made s [] (log now) (all_small s now at) (each_accounted s now at));
      }

pub worked_is_closed : {T : Type 0} (name : T → List ℕ) (log : T → List Entry) (opened : T → OpenCalls) → WorkedIsClosed name log opened
worked_is_closed name log opened x owes passes values kills A = (own name log opened x owes passes values kills A, closed name log opened x owes passes values kills A)

pub worked_is_history : {T : Type 0} (name : T → List ℕ) (log : T → List Entry) (opened : T → OpenCalls) → WorkedIsHistory name log opened
worked_is_history name log opened x owes passes values kills X A =
    let c = worked_is_closed name log opened x owes passes values kills A in
    closed_is_history x owes (map log values) c.0 X c.1
