-- A pass works one line more.
use Rattle.std.proofs.Common.{◌≡◌, ◌≢◌, ◌⊎◌, ℕ, zero, suc, ◌+◌, ◌<◌, ◌≤◌, Bool, true, false, cond, eqb, eq-eqb, Option, Some, None, List, [], ◌∷◌, ◌++◌, length, length-append, map, set, refl, sym, ap, ◌∙◌, subst, inl, inr, arith, append-nil}
use Rattle.std.specs.Prelude.{slice_get, option_map, All}
use Rattle.std.specs.List.{cons_option, range_with_len}
use Rattle.std.proofs.lemmas.List.{map-set, append_cancel_left}
use Rattle.std.proofs.lemmas.List.Elements.{All-from_recursion, All-push, All-weaker}
use Rattle.std.proofs.lemmas.Option.{slice_get-map}
use mathlib.Core.List.{IsPrefix}
use mathlib.Core.Logic.{dite}
use mathlib.Core.Option as maybe
use native.Mathlib.Decide.{ℕ_discrete}
use Rattle.cod_types.specs.declared.call.Call.{Call as Asked}
use Rattle.cod_types.specs.declared.call.NodeId.{NodeId}
use Rattle.cod_types.specs.declared.call.Reply.{Reply}
use Rattle.cod_types.specs.declared.call.SegId.{SegId}
use Rattle.cod_chronicle.specs.declared.entry.Entry.{Entry}
use Rattle.cod_chronicle.specs.Event.{Kills, Request}
use Rattle.cod_chronicle.specs.Order.{place}
use Rattle.cod_chronicle.specs.Said.{Site, site_as, number_by, numbers_by, calls_by}
use Rattle.cod_chronicle.specs.Standing.{OpenCalls}
use Rattle.cod_chronicle.proofs.Growth.{numbers_by-push}
use Rattle.cod_script.specs.declared.line.Line.{Line}
use Rattle.cod_script.specs.declared.line.What.TheVariants.{Segment, Fail}
use Rattle.cod_script.specs.Owed.{failed_ahead, IsOut}
use Rattle.cod_script.specs.Script.{asks}
use Rattle.cod_board.specs.declared.kill.Kill.{Kill}
use Rattle.cod_board.specs.declared.view.View.{View as BoardView}
use Rattle.cod_board.specs.Seats.{kills_in}
use Rattle.cod_board.specs.Words.{known, after_kill}
use Rattle.cod_seats.specs.Totals.{Has, times}
use Rattle.cod_seats.proofs.Found.{has_none}
use Rattle.cod_turn.specs.declared.view.View.{View}
use Rattle.cod_turn.proofs.Numbering.{numbers_of_calls}
use Rattle.cod_turn.proofs.Prefixes.{calls_by-append, prefix_trans}
use Rattle.cod_turns.specs.Turns.{Course, board_clock}
use Rattle.cod_turns.proofs.Lists.{asks_push, slice_get-set_same, slice_get-set_other}
use Rattle.cod_accounts.specs.Accounts.{Accounts, StampIn}
use Rattle.cod_accounts.specs.Doing.{Did, HasFailed, SeesOwnFailsAfter}
use Rattle.cod_accounts.specs.Holding.{entry_of, kills_at}
use Rattle.cod_accounts.specs.Working.{Pass, Knowing, Told, IsReal, IsKilled, knowing, first_list, lists_of, Shows, IsReady, AreReady, Worked, HasCalled, NewHasWorked, CallLeavesReady, CallIsLine, KillIsLine, MeetingKeeps}
use Rattle.cod_accounts.proofs.Accounting.{stamp_more}
use Rattle.cod_accounts.proofs.Doing.{did_call, did_kill, did_meet, failed_calls, failed_still, fails_now}
use Rattle.cod_accounts.proofs.Failing.{ahead_more, sees_append, sees_more, sees_none}
use Rattle.cod_accounts.proofs.Holds.{snoc_same, entry_alone}
use Rattle.cod_accounts.proofs.Kills.{known_later, knows_more}
use Rattle.cod_accounts.proofs.Sharing.{accounts_go_on, accounts_stay}

-- ---- lists

module _ {A : Type 0} where
  pub has_cons : (x y : A) (ys : List A) → Has x (y ∷ ys) → (x ≡ y) ⊎ Has x ys
  has_cons x y ys (zero, e) = inl (sym (maybe.some-injective y x e))
  has_cons x y ys (suc i, e) = inr (i, e)

  pub has_cases : (x : A) (xs ys : List A) → Has x (xs ++ ys) → Has x xs ⊎ Has x ys
  has_cases x [] ys h = inr h
  has_cases x (y ∷ xs) ys (zero, e) = inl (zero, e)
  has_cases x (y ∷ xs) ys (suc i, e) = elim (has_cases x xs ys (i, e)) [
    | inl a ↦ inl (suc a.0, a.1)
    | inr b ↦ inr b
  ]

  pub got : {B : Type 0} (f : A → B) (xs : List A) (s : ℕ) (y : B) → slice_get (map f xs) s ≡ Some y → (x : A) × (slice_get xs s ≡ Some x) × (f x ≡ y)
  got {B} f xs s y e = by (slice_get xs s) refl (sym (slice_get-map f xs s) ∙ e) where
    by : (o : Option A) → slice_get xs s ≡ o → option_map f (slice_get xs s) ≡ Some y → (x : A) × (slice_get xs s ≡ Some x) × (f x ≡ y)
    by None is e = absurd (let bad : None ≡ Some y = sym (ap (option_map f) is) ∙ e in cc bad)
    by (Some x) is e = (x, is, (let t : Some (f x) ≡ Some y = sym (ap (option_map f) is) ∙ e in cc t))

-- a clock stays real where a list grows
pub real_more : (hs : List (List Entry)) (s : ℕ) (h now : List Entry) (t : ℕ) → slice_get hs s ≡ Some h → IsPrefix h now → IsReal hs t → IsReal (set hs s now) t
real_more hs s h now t is p (inl none) = inl none
real_more hs s h now t is p (inr (i, g, there, stamp)) = dite (ℕ_discrete i s)
    (λ same.
    let e : Some g ≡ Some h = sym there ∙ (ap (slice_get hs) same ∙ is) in
    let g_is : g ≡ h = cc e in
    inr (s, now, slice_get-set_same hs s now h is, stamp_more h now t p (subst (λ (l : List Entry). StampIn l t) g_is stamp)))
    (λ other. inr (i, g, slice_get-set_other hs s i now other ∙ there, stamp))

-- ---- kills

pub known_end : (node : ℕ) (k : Kill) (xs : List (ℕ × Kill)) → (q : Kill) × (known node (xs ++ (node, k) ∷ []) ≡ Some q)
known_end node k [] = (k, ap (λ (b : Bool). cond b (Some k) None) (eq-eqb node node refl))
known_end node k (x ∷ xs) = by (eqb x.0 node) (known_end node k xs) where
  by : (b : Bool) → (q : Kill) × (known node (xs ++ (node, k) ∷ []) ≡ Some q) → (q : Kill) × (cond b (Some x.1) (known node (xs ++ (node, k) ∷ [])) ≡ Some q)
  by true r = (x.1, refl)
  by false r = r

killed_later : (nodes : ℕ) (xs ys : List (ℕ × Kill)) (node : ℕ) → IsPrefix xs ys → IsKilled nodes xs node → IsKilled nodes ys node
killed_later nodes xs ys node p k = record { inside = k.inside; kill = k.kill; is = known_later node xs ys k.kill p k.is }

-- Values that stand for chronicles
module _ {T : Type 0} (log : T → List Entry) (opened : T → OpenCalls) where
  pub list_there : (seats : List (View T)) (s : ℕ) (h : List Entry) → slice_get (lists_of log seats) s ≡ Some h → (v : View T) × (slice_get seats s ≡ Some v) × (first_list log v.own ≡ h)
  list_there seats s h is = got (λ (v : View T). first_list log v.own) seats s h is

  pub list_at : (seats : List (View T)) (s : ℕ) (v : View T) → slice_get seats s ≡ Some v → slice_get (lists_of log seats) s ≡ Some (first_list log v.own)
  list_at seats s v is = slice_get-map (λ (v : View T). first_list log v.own) seats s ∙ ap (option_map (λ (v : View T). first_list log v.own)) is

  ready_more : (caller m n : ℕ) (v : View T) → m ≤ n → IsReady log opened caller m v → IsReady log opened caller n v
  ready_more caller m n v le r = record {
    idle = r.idle;
    last = r.last;
    own = r.own;
    none = r.none;
    low = All-weaker (λ (k : ℕ). k < m) (λ (k : ℕ). k < n) (λ k lt. omega arith) (numbers_by caller (log r.last)) r.low;
  }

  -- ---- nothing

  pub new_has_worked : NewHasWorked log opened
  new_has_worked x p n =
      let number = n.number in
      let clock = n.clock in
      let made = n.made in
      record {
        own = [];
        clocks = [];
        did = record {
          asked = refl;
          numbers = sym (ap (range_with_len 0) number);
          there = λ s h is.
              let v = list_there p.seats s h is in
              ap (λ (l : List Entry). map (λ (e : Entry). place s e) (calls_by p.caller l)) (sym v.2 ∙ (n.empty s v.0 v.1).0);
          below = tt;
          climbs = λ small. tt;
          within = tt;
        };
        count = number;
        ready = n.ready;
        shows = λ s v is. record {
          told = λ place some. (let none : times place v.places ≡ 0 = ap (times place) (n.empty s v is).1 in absurd (omega arith));
          sees = subst (λ (l : List Entry). SeesOwnFailsAfter p.caller [] (site_as x.told x.script.shape x.script.nodes s) [] l) (sym (n.empty s v is).0) tt;
        };
        made = λ node kill h. absurd (has_none (node, kill) (subst (Has (node, kill)) made h));
        failed = All-from_recursion (IsKilled x.script.nodes p.board.seen) [] tt;
        real = λ fresh t h. inl (elim (has_cons t p.clock [] h) [ inl is ↦ is ∙ clock | inr none ↦ absurd (has_none t none) ]);
      }

  -- ---- a call

  module _ (x : Course) (seg : SegId) (call : Asked) (position stamp : ℕ) (reply : Reply) (p q : Pass T) (ready : AreReady log opened p) (c : HasCalled log opened x seg.0 call position stamp reply p q) where
    abbrev r : Request
    r = record { caller = p.caller; number = p.number; call = call }

    abbrev e : Entry
    e = entry_of r q.clock reply

    abbrev old : List Entry
    old = log c.made.old

    abbrev now : List Entry
    now = log c.made.now

    calls : calls_by p.caller now ≡ calls_by p.caller old ++ e ∷ []
    calls = let k = c.made.called in k.calls ∙ ap (λ (t : ℕ). calls_by p.caller old ++ entry_of r t reply ∷ []) k.clock

    mine : number_by p.caller e ≡ Some p.number
    mine = ap (λ (b : Bool). cond b (Some p.number) None) (eq-eqb p.caller p.caller refl)

    numbers : numbers_by p.caller now ≡ numbers_by p.caller old ++ p.number ∷ []
    numbers =
        sym (numbers_of_calls p.caller now) ∙ (ap (numbers_by p.caller) calls ∙ (numbers_by-push p.caller (calls_by p.caller old) e
        ∙ (ap (λ (o : Option ℕ). numbers_by p.caller (calls_by p.caller old) ++ cons_option o []) mine ∙ ap (λ (ns : List ℕ). ns ++ p.number ∷ []) (numbers_of_calls p.caller old))))

    low : All (λ m. m < p.number) (numbers_by p.caller old)
    low =
        let rd = ready seg.0 c.before c.seat in
        let m = c.made in
        let same : (p.caller, rd.last) ∷ [] ≡ (p.caller, m.old) ∷ [] = sym rd.own ∙ m.was in
        subst (λ (h : List Entry). All (λ m. m < p.number) (numbers_by p.caller h)) (ap (first_list log) same) rd.low

    ready_now : IsReady log opened p.caller (p.number + 1) c.after
    ready_now = let m = c.made in record {
      idle = c.idle;
      last = m.now;
      own = m.is;
      none = m.none;
      low = subst (All (λ m. m < p.number + 1)) (sym numbers)
          (All-push (λ m. m < p.number + 1) (numbers_by p.caller old) p.number (All-weaker (λ (k : ℕ). k < p.number) (λ (k : ℕ). k < p.number + 1) (λ k lt. omega arith) (numbers_by p.caller old) low) (omega arith));
    }

    -- a seat afterwards is this one, or it was a seat before
    seat_now : (s : ℕ) (v : View T) → slice_get (set p.seats seg.0 c.after) s ≡ Some v → ((s ≡ seg.0) × (v ≡ c.after)) ⊎ ((s ≢ seg.0) × (slice_get p.seats s ≡ Some v))
    seat_now s v is = dite (ℕ_discrete s seg.0)
        (λ same. inl (same, (let t : Some v ≡ Some c.after = sym is ∙ (ap (slice_get (set p.seats seg.0 c.after)) same ∙ slice_get-set_same p.seats seg.0 c.after c.before c.seat) in cc t)))
        (λ other. inr (other, sym (slice_get-set_other p.seats seg.0 s c.after other) ∙ is))

    ready_all : (s : ℕ) (v : View T) → slice_get (set p.seats seg.0 c.after) s ≡ Some v → IsReady log opened p.caller (p.number + 1) v
    ready_all s v is = elim (seat_now s v is) [
      | inl this ↦ subst (IsReady log opened p.caller (p.number + 1)) (sym this.1) ready_now
      | inr other ↦ ready_more p.caller p.number (p.number + 1) v (omega arith) (ready s v other.1)
    ]

    abbrev after : Pass T
    after = record { caller = p.caller; number = p.number + 1; clock = q.clock; seats = set p.seats seg.0 c.after; board = q.board }

    same_pass : after ≡ q
    same_pass =
        let caller = c.caller in
        let number = c.number in
        let seats = c.seats in
        λ i. record { caller = sym caller i; number = sym number i; clock = q.clock; seats = sym seats i; board = q.board }

    module _ (met : Bool) (line : ℕ) (trace : List Line) (w : Worked log opened x met p trace) where
      abbrev l : Line
      l = record { line = line; what = Segment seg call }

      abbrev site : Site
      site = site_as x.told x.script.shape x.script.nodes seg.0

      old_is : first_list log c.before.own ≡ old
      old_is = let m = c.made in ap (first_list log) m.was

      now_is : first_list log c.after.own ≡ now
      now_is = let m = c.made in ap (first_list log) m.is

      ends : now ≡ c.made.called.before ++ e ∷ []
      ends = let k = c.made.called in k.ends ∙ ap (λ (t : ℕ). k.before ++ entry_of r t reply ∷ []) k.clock

      grows : IsPrefix old now
      grows = let k = c.made.called in prefix_trans old k.before now k.begins (e ∷ [], sym ends)

      there : slice_get (lists_of log p.seats) seg.0 ≡ Some old
      there = list_at p.seats seg.0 c.before c.seat ∙ ap (λ (h : List Entry). Some h) old_is

      lists : lists_of log (set p.seats seg.0 c.after) ≡ set (lists_of log p.seats) seg.0 now
      lists = map-set (λ (v : View T). first_list log v.own) p.seats seg.0 c.after ∙ ap (set (lists_of log p.seats) seg.0) now_is

      -- nothing else of the caller came between
      between : calls_by p.caller c.made.called.begins.0 ≡ []
      between =
          let k = c.made.called in
          let mid : List Entry = k.begins.0 in
          let a : calls_by p.caller now ≡ (calls_by p.caller old ++ calls_by p.caller mid) ++ e ∷ [] =
          ap (calls_by p.caller) ends ∙ (calls_by-append p.caller k.before (e ∷ []) ∙ (ap (λ (h : List Entry). h ++ calls_by p.caller (e ∷ [])) (ap (calls_by p.caller) (sym k.begins.1) ∙ calls_by-append p.caller old mid)
          ∙ ap (λ (h : List Entry). (calls_by p.caller old ++ calls_by p.caller mid) ++ h) (entry_alone r q.clock reply))) in
          let s = snoc_same (calls_by p.caller old ++ calls_by p.caller mid) (calls_by p.caller old) e e (sym a ∙ calls) in
          append_cancel_left (calls_by p.caller old) (calls_by p.caller mid) [] (s.0 ∙ sym (append-nil (calls_by p.caller old)))

      -- what failed in the lines before is out at the call
      sees_call : All (IsOut site c.made.called.before) (failed_ahead (trace ++ l ∷ []) p.number)
      sees_call =
          let k = c.made.called in
          let count = w.count in
          let n : p.number ≡ length (asks trace) + 0 = omega (arith, count) in
          let same : failed_ahead (trace ++ l ∷ []) p.number ≡ failed_ahead trace p.number =
          ap (failed_ahead (trace ++ l ∷ [])) n ∙ (ahead_more trace (l ∷ []) 0 ∙ (append-nil (failed_ahead trace (length (asks trace))) ∙ ap (failed_ahead trace) (sym count))) in
          subst (All (IsOut site k.before)) (sym same)
          (All-weaker (IsKilled x.script.nodes p.board.seen) (IsOut site k.before)
          (λ node kd i lt is. k.out i kd.kill lt (subst (λ (n : ℕ). n < x.script.nodes) (sym is) kd.inside) (subst (λ (n : ℕ). known n p.board.seen ≡ Some kd.kill) (sym is) kd.is))
          (failed_ahead trace p.number) w.failed)

      sees_now : SeesOwnFailsAfter p.caller (trace ++ l ∷ []) site [] now
      sees_now =
          let k = c.made.called in
          let mid : List Entry = k.begins.0 in
          let lines : List Line = trace ++ l ∷ [] in
          let shown = w.shows seg.0 c.before c.seat in
          let a : SeesOwnFailsAfter p.caller lines site [] old =
          sees_more p.caller site trace (l ∷ []) old p.number w.count low (subst (SeesOwnFailsAfter p.caller trace site []) old_is shown.sees) in
          let b : SeesOwnFailsAfter p.caller lines site [] k.before =
          subst (SeesOwnFailsAfter p.caller lines site []) k.begins.1 (sees_append p.caller site lines [] old mid a (sees_none p.caller site lines old mid between)) in
          subst (SeesOwnFailsAfter p.caller lines site []) (sym ends) (sees_append p.caller site lines [] k.before (e ∷ []) b ((λ same. sees_call), tt))

      shows_now : Shows log (knowing x (record { caller = p.caller; number = p.number + 1; clock = q.clock; seats = set p.seats seg.0 c.after; board = q.board }) (w.clocks ++ p.clock ∷ [])) (trace ++ l ∷ []) site c.after
      shows_now =
          let shown = w.shows seg.0 c.before c.seat in
          let k : Knowing = knowing x p w.clocks in
          let kills : Kills = kills_at (kills_in x.script.nodes q.board.seen) in
          let m = c.made in
          let lines : List Line = trace ++ l ∷ [] in
          record {
            told = subst (λ (h : List Entry). Accounts (Told (record { caller = p.caller; kills = kills; may = x.may; clocks = w.clocks ++ p.clock ∷ [] })) h [] c.after.places) (sym now_is)
                (accounts_go_on k kills p.clock old now c.before.places c.after.places (knows_more x.script.nodes p.board.seen q.board.seen c.seen) grows
                (subst (λ (h : List Entry). Accounts (Told k) h [] c.before.places) old_is shown.told) m.accounts);
            sees = subst (SeesOwnFailsAfter p.caller lines site []) (sym now_is) sees_now;
          }

      did_now : Did p.caller (p.number + 1) q.clock (lists_of log (set p.seats seg.0 c.after)) (w.own ++ place seg.0 e ∷ []) (trace ++ l ∷ [])
      did_now = subst (λ (hs : List (List Entry)). Did p.caller (p.number + 1) q.clock hs (w.own ++ place seg.0 e ∷ []) (trace ++ l ∷ [])) (sym lists)
          (did_call p.caller p.number p.clock q.clock line seg call reply (lists_of log p.seats) old now w.own trace w.did there c.made.called.rises calls)

      shows_all : (s : ℕ) (v : View T) → slice_get (set p.seats seg.0 c.after) s ≡ Some v
          → Shows log (knowing x after (w.clocks ++ p.clock ∷ [])) (trace ++ l ∷ []) (site_as x.told x.script.shape x.script.nodes s) v
      shows_all s v is = elim (seat_now s v is) [
        | inl this ↦ subst (λ (n : ℕ). Shows log (knowing x after (w.clocks ++ p.clock ∷ [])) (trace ++ l ∷ []) (site_as x.told x.script.shape x.script.nodes n) v) (sym this.0)
            (subst (Shows log (knowing x after (w.clocks ++ p.clock ∷ [])) (trace ++ l ∷ []) site) (sym this.1) shows_now)
        | inr other ↦ shows_still s v other.1
      ] where
        shows_still : (s : ℕ) (v : View T) → slice_get p.seats s ≡ Some v → Shows log (knowing x after (w.clocks ++ p.clock ∷ [])) (trace ++ l ∷ []) (site_as x.told x.script.shape x.script.nodes s) v
        shows_still s v is =
            let shown = w.shows s v is in
            let rd = w.ready s v is in
            let h : first_list log v.own ≡ log rd.last = ap (first_list log) rd.own in
            record {
              told = accounts_stay (knowing x p w.clocks) (kills_at (kills_in x.script.nodes q.board.seen)) (p.clock ∷ []) (first_list log v.own) v.places
                  (knows_more x.script.nodes p.board.seen q.board.seen c.seen) shown.told;
              sees = sees_more p.caller (site_as x.told x.script.shape x.script.nodes s) trace (l ∷ []) (first_list log v.own) p.number w.count
                  (subst (λ (g : List Entry). All (λ m. m < p.number) (numbers_by p.caller g)) (sym h) rd.low) shown.sees;
            }

      made_now : (node : ℕ) (kill : Kill) → Has (node, kill) q.board.made → HasFailed p.caller (w.own ++ place seg.0 e ∷ []) (w.clocks ++ p.clock ∷ []) (trace ++ l ∷ []) node kill
      made_now node kill h =
          let count = w.count in
          failed_still p.caller (w.own ++ place seg.0 e ∷ []) w.clocks trace node kill l (p.clock ∷ [])
          (failed_calls p.caller w.own w.clocks trace node kill (place seg.0 e) p.number mine (omega arith) (w.made node kill (subst (Has (node, kill)) c.kills h)))

      failed_now : All (IsKilled x.script.nodes q.board.seen) (failed_ahead (trace ++ l ∷ []) (p.number + 1))
      failed_now =
          let count = w.count in
          let n : p.number + 1 ≡ length (asks trace) + 1 = omega (arith, count) in
          let same : failed_ahead (trace ++ l ∷ []) (p.number + 1) ≡ failed_ahead trace p.number =
          ap (failed_ahead (trace ++ l ∷ [])) n ∙ (ahead_more trace (l ∷ []) 1 ∙ (append-nil (failed_ahead trace (length (asks trace))) ∙ ap (failed_ahead trace) (sym count))) in
          subst (All (IsKilled x.script.nodes q.board.seen)) (sym same)
          (All-weaker (IsKilled x.script.nodes p.board.seen) (IsKilled x.script.nodes q.board.seen) (λ node k. killed_later x.script.nodes p.board.seen q.board.seen node c.seen k) (failed_ahead trace p.number) w.failed)

      real_now : met ≡ false → (t : ℕ) → Has t (q.clock ∷ (w.clocks ++ p.clock ∷ [])) → IsReal (lists_of log (set p.seats seg.0 c.after)) t
      real_now fresh t h =
          let still : Has t (p.clock ∷ w.clocks) → IsReal (set (lists_of log p.seats) seg.0 now) t = λ has. real_more (lists_of log p.seats) seg.0 old now t there grows (w.real fresh t has) in
          let entry : StampIn now q.clock = (c.made.called.before, e, [], ends, refl) in
          subst (λ (hs : List (List Entry)). IsReal hs t) (sym lists)
          (elim (has_cons t q.clock (w.clocks ++ p.clock ∷ []) h) [
            | inl is ↦ inr (seg.0, now, slice_get-set_same (lists_of log p.seats) seg.0 now old there, subst (StampIn now) (sym is) entry)
            | inr more ↦ elim (has_cases t w.clocks (p.clock ∷ []) more) [
              | inl before ↦ still (suc before.0, before.1)
              | inr this ↦ elim (has_cons t p.clock [] this) [ inl is ↦ still (zero, ap maybe.some (sym is)) | inr none ↦ absurd (has_none t none) ]
            ]
          ])

      worked_call : Worked log opened x met after (trace ++ l ∷ [])
      worked_call =
          let count = w.count in
          let longer : length (asks (trace ++ l ∷ [])) ≡ length (asks trace) + 1 = ap length (asks_push trace line (Segment seg call)) ∙ length-append (asks trace) (record { segment = seg.0; call = call } ∷ []) in
          record {
            own = w.own ++ place seg.0 e ∷ [];
            clocks = w.clocks ++ p.clock ∷ [];
            did = did_now;
            count = omega (arith, count, longer);
            ready = ready_all;
            shows = shows_all;
            made = made_now;
            failed = failed_now;
            real = real_now;
          }

  pub call_leaves_ready : CallLeavesReady log opened
  call_leaves_ready x seg call position stamp reply p q ready c =
      subst (AreReady log opened) (same_pass x seg call position stamp reply p q ready c) (ready_all x seg call position stamp reply p q ready c)

  pub call_is_line : CallIsLine log opened
  unfolding worked_call
  call_is_line x met line seg call position stamp reply p q trace w c =
      subst (λ (z : Pass T). Worked log opened x met z (trace ++ record { line = line; what = Segment seg call } ∷ []))
      (same_pass x seg call position stamp reply p q w.ready c) (worked_call x seg call position stamp reply p q w.ready c met line trace w)

  -- ---- a kill

  module _ (x : Course) (met : Bool) (line : ℕ) (node : NodeId) (p : Pass T) (trace : List Line) (inside : node.0 < x.script.nodes) (w : Worked log opened x met p trace) where
    abbrev kill : Kill
    kill = record { line = line; clock = board_clock p.clock }

    abbrev k : Line
    k = record { line = line; what = Fail node }

    -- with a board seat that has seen a kill of the node, and made at most this one
    killed : (b : BoardView) → IsPrefix p.board.seen b.seen → IsKilled x.script.nodes b.seen node.0
        → ((n : ℕ) (q : Kill) → Has (n, q) b.made → Has (n, q) p.board.made ⊎ ((n ≡ node.0) × (q ≡ kill))) → Worked log opened x met (record p { board = b }) (trace ++ k ∷ [])
    killed b seen known_now made =
        let count = w.count in
        let same : length (asks (trace ++ k ∷ [])) ≡ length (asks trace) = ap length (asks_push trace line (Fail node) ∙ append-nil (asks trace)) in
        let z : p.number ≡ length (asks trace) + 0 = omega (arith, count) in
        let ahead : failed_ahead (trace ++ k ∷ []) p.number ≡ failed_ahead trace p.number ++ node.0 ∷ [] =
        ap (failed_ahead (trace ++ k ∷ [])) z ∙ (ahead_more trace (k ∷ []) 0 ∙ ap (λ (m : ℕ). failed_ahead trace m ++ node.0 ∷ []) (sym count)) in
        record {
          own = w.own;
          clocks = w.clocks ++ p.clock ∷ [];
          did = did_kill p.caller p.number p.clock line node (lists_of log p.seats) w.own trace w.did;
          count = omega (arith, count, same);
          ready = w.ready;
          shows = λ s v is.
              let shown = w.shows s v is in
              let rd = w.ready s v is in
              let h : first_list log v.own ≡ log rd.last = ap (first_list log) rd.own in
              record {
                told = accounts_stay (knowing x p w.clocks) (kills_at (kills_in x.script.nodes b.seen)) (p.clock ∷ []) (first_list log v.own) v.places (knows_more x.script.nodes p.board.seen b.seen seen) shown.told;
                sees = sees_more p.caller (site_as x.told x.script.shape x.script.nodes s) trace (k ∷ []) (first_list log v.own) p.number count
                    (subst (λ (g : List Entry). All (λ m. m < p.number) (numbers_by p.caller g)) (sym h) rd.low) shown.sees;
              };
          made = λ n q has. elim (made n q has) [
            | inl before ↦ failed_still p.caller w.own w.clocks trace n q k (p.clock ∷ []) (w.made n q before)
            | inr this ↦ subst (λ (m : ℕ). HasFailed p.caller w.own (w.clocks ++ p.clock ∷ []) (trace ++ k ∷ []) m q) (sym this.0)
                (subst (HasFailed p.caller w.own (w.clocks ++ p.clock ∷ []) (trace ++ k ∷ []) node.0) (sym this.1)
                (fails_now p.caller p.number p.clock (lists_of log p.seats) w.own w.clocks trace line node w.did))
          ];
          failed = subst (All (IsKilled x.script.nodes b.seen)) (sym ahead)
              (All-push (IsKilled x.script.nodes b.seen) (failed_ahead trace p.number) node.0
              (All-weaker (IsKilled x.script.nodes p.board.seen) (IsKilled x.script.nodes b.seen) (λ n q. killed_later x.script.nodes p.board.seen b.seen n seen q) (failed_ahead trace p.number) w.failed)
              known_now);
          real = λ fresh t has. w.real fresh t (elim (has_cons t p.clock (w.clocks ++ p.clock ∷ []) has) [
            | inl is ↦ (zero, ap maybe.some (sym is))
            | inr more ↦ elim (has_cases t w.clocks (p.clock ∷ []) more) [
              | inl before ↦ (suc before.0, before.1)
              | inr this ↦ elim (has_cons t p.clock [] this) [ inl is ↦ (zero, ap maybe.some (sym is)) | inr none ↦ absurd (has_none t none) ]
            ]
          ]);
        }

    seen_now : (q : Kill) → IsKilled x.script.nodes (p.board.seen ++ (node.0, q) ∷ []) node.0
    seen_now q = let e = known_end node.0 q p.board.seen in record { inside = inside; kill = e.0; is = e.1 }

    by_found : (found : Option Kill) → Worked log opened x met (record p { board = after_kill p.board node.0 kill found }) (trace ++ k ∷ [])
    by_found None = killed (after_kill p.board node.0 kill None) ((node.0, kill) ∷ [], refl) (seen_now kill)
        (λ n q has. elim (has_cases (n, q) p.board.made ((node.0, kill) ∷ []) has) [
          | inl before ↦ inl before
          | inr this ↦ elim (has_cons (n, q) (node.0, kill) [] this) [ inl is ↦ inr (ap (λ (z : ℕ × Kill). z.0) is, ap (λ (z : ℕ × Kill). z.1) is) | inr none ↦ absurd (has_none (n, q) none) ]
        ])
    by_found (Some before) = killed (after_kill p.board node.0 kill (Some before)) ((node.0, before) ∷ [], refl) (seen_now before) (λ n q has. inl has)

  pub kill_is_line : KillIsLine log opened
  unfolding by_found
  kill_is_line x met line node found p q trace inside w is =
      subst (λ (z : Pass T). Worked log opened x met z (trace ++ record { line = line; what = Fail node } ∷ [])) (sym is) (by_found x met line node p trace inside w found)

  -- ---- a stamp that is told

  pub meeting_keeps : MeetingKeeps log opened
  meeting_keeps x met p q trace w m = subst (λ (z : Pass T). Worked log opened x true z trace) (sym m.2) record {
    own = w.own;
    clocks = w.clocks;
    did = did_meet p.caller p.number p.clock m.0 (lists_of log p.seats) w.own trace m.1 w.did;
    count = w.count;
    ready = w.ready;
    shows = w.shows;
    made = w.made;
    failed = w.failed;
    real = λ fresh t h. absurd (cc fresh);
  }
