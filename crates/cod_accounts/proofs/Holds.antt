-- The holds of a call, one after another.
use Rattle.std.proofs.Common.{◌≡◌, ◌⊎◌, ℕ, ◌-◌, ◌<◌, ◌≤◌, Bool, true, false, cond, eq-eqb, List, [], ◌∷◌, ◌++◌, length, Option, Some, None, is_some, refl, sym, ap, ◌∙◌, subst, append_assoc, inl, inr, arith}
use Rattle.std.specs.Prelude.{All, option_map}
use Rattle.std.specs.List.{AllByRecursion}
use Rattle.std.proofs.lemmas.Bool.{cases_lt, false≢true}
use Rattle.std.proofs.lemmas.List.{append-nil}
use mathlib.Core.List.{IsPrefix}
use Rattle.cod_types.specs.declared.call.Call as calls
use Rattle.cod_types.specs.declared.call.Reply.{Reply}
use Rattle.cod_chronicle.specs.declared.entry.Entry.{Entry}
use Rattle.cod_chronicle.specs.declared.entry.Entry.TheVariants.{Call, Down, Up, Move}
use Rattle.cod_chronicle.specs.Event.{Kills, Request, Setting, IsSwept, IsSeenReply, Event}
use Rattle.cod_chronicle.specs.Legal.{IsLegal}
use Rattle.cod_chronicle.specs.Said.{Precedes, last_stamp, calls_by, numbers_by, node_of}
use Rattle.cod_chronicle.specs.Standing.{OpenCalls}
use Rattle.cod_chronicle.specs.Step.{IsMarkEntry}
use Rattle.cod_chronicle.proofs.Stepping.{answered_ends_with_call, unanswered_are_marks, events_rise}
use Rattle.cod_board.specs.declared.kill.Kill.{Kill}
use Rattle.cod_board.specs.Seats.{kills_in}
use Rattle.cod_seats.specs.Totals.{range}
use Rattle.cod_turn.specs.declared.view.View.{View}
use Rattle.cod_turn.specs.Turning.{all_at, callers, firsts, Stays}
use Rattle.cod_turn.proofs.Numbering.{numbers_of_calls}
use Rattle.cod_turn.proofs.Prefixes.{calls_by-append, prefix_self, prefix_trans}
use Rattle.cod_accounts.specs.Accounts.{Accounts, Account, Comes}
use Rattle.cod_accounts.specs.Calling.{Called, Made}
use Rattle.cod_accounts.specs.Holding.{Ground, Answer, Hold, Leaves, kills_at, plain_kill, entry_of, setting}
use Rattle.cod_accounts.proofs.Accounting.{holds_accounts}
use Rattle.cod_accounts.proofs.Kills.{kills_known, known_later, knows_more}

-- two lists that end with one element each
pub snoc_same : {A : Type 0} (xs ys : List A) (a b : A) → xs ++ a ∷ [] ≡ ys ++ b ∷ [] → (xs ≡ ys) × (a ≡ b)
snoc_same [] [] a b e = (refl, cc e)
snoc_same [] (y ∷ []) a b e = absurd (cc e)
snoc_same [] (y ∷ z ∷ ys) a b e = absurd (cc e)
snoc_same (x ∷ []) [] a b e = absurd (cc e)
snoc_same (x ∷ z ∷ xs) [] a b e = absurd (cc e)
snoc_same (x ∷ xs) (y ∷ ys) a b e =
    let head : x ≡ y = cc e in
    let rest = snoc_same xs ys a b (cc e) in (cc (head, rest.0), rest.1)

-- marks have no calls
pub marks_silent : (c : ℕ) (es : List Entry) → AllByRecursion IsMarkEntry es → calls_by c es ≡ []
marks_silent c [] a = refl
marks_silent c ((Call caller number stamp call reply) ∷ es) a = absurd a.0
marks_silent c ((Down stamp col node cause) ∷ es) a = marks_silent c es a.1
marks_silent c ((Up stamp col node) ∷ es) a = marks_silent c es a.1
marks_silent c ((Move stamp col node) ∷ es) a = marks_silent c es a.1

pub entry_alone : (r : Request) (stamp : ℕ) (reply : Reply) → calls_by r.caller (entry_of r stamp reply ∷ []) ≡ entry_of r stamp reply ∷ []
entry_alone r stamp reply = ap (λ (b : Bool). cond (is_some (cond b (Some r.number) None)) (entry_of r stamp reply ∷ []) []) (eq-eqb r.caller r.caller refl)

-- a hold that does not answer leaves the caller's calls
pub calls_stay : (w : Setting) (r : Request) (old now entries : List Entry) (t after : ℕ) → now ≡ old ++ entries → Event w r old t entries after false → calls_by r.caller now ≡ calls_by r.caller old
calls_stay w r old now entries t after g e =
    let m = marks_silent r.caller entries (unanswered_are_marks w r old t entries after e) in
    ap (calls_by r.caller) g ∙ (calls_by-append r.caller old entries ∙ (ap (λ (l : List Entry). calls_by r.caller old ++ l) m ∙ append-nil (calls_by r.caller old)))

module _ {T : Type 0} (name : T → List ℕ) (log : T → List Entry) (opened : T → OpenCalls) where
  -- the caller's one value after some holds in which it was not answered
  pub record Going (r : Request) (t0 t : ℕ) (first : T) (v : View T) : Type 0 where
    pub now : T
    pub own : v.own ≡ (r.caller, now) ∷ []
    pub begins : IsPrefix (log first) (log now)
    pub calls : calls_by r.caller (log now) ≡ calls_by r.caller (log first)
    pub opens : (opened now r.caller ≡ None) ⊎ (opened now r.caller ≡ Some (r.number, r.call))
    pub clock : t0 ≤ t

  -- the value that is taken then
  pub record Taken (r : Request) (t0 t : ℕ) (first x : T) : Type 0 where
    pub begins : IsPrefix (log first) (log x)
    pub calls : calls_by r.caller (log x) ≡ calls_by r.caller (log first)
    pub opens : (opened x r.caller ≡ None) ⊎ (opened x r.caller ≡ Some (r.number, r.call))
    pub clock : t0 ≤ t

  pub at_first : (r : Request) (t : ℕ) (x : T) (v : View T) → v.own ≡ (r.caller, x) ∷ [] → opened x r.caller ≡ None → Going r t t x v
  at_first r t x v own none = record { now = x; own = own; begins = prefix_self (log x); calls = refl; opens = inl none; clock = omega arith }

  pub taken : (r : Request) (t0 t : ℕ) (first x : T) (v : View T) → Going r t0 t first v → Stays name log opened x v.own → Taken r t0 t first x
  taken r t0 t first x v going stays =
      let s = subst (λ (ps : List (ℕ × T)). Stays name log opened x ps) going.own stays in record {
        begins = prefix_trans (log first) (log going.now) (log x) going.begins s.0;
        calls = s.1 ∙ going.calls;
        opens = subst (λ (o : Option (ℕ × calls.Call)). (o ≡ None) ⊎ (o ≡ Some (r.number, r.call))) (sym s.2) going.opens;
        clock = going.clock;
      }

  -- the numbers of the value that is taken
  pub below : (r : Request) (t0 t : ℕ) (first x : T) → Taken r t0 t first x → All (λ m. m < r.number) (numbers_by r.caller (log first)) → All (λ m. m < r.number) (numbers_by r.caller (log x))
  below r t0 t first x t' b =
      let e = t'.calls in
      subst (All (λ m. m < r.number)) (sym (numbers_of_calls r.caller (log first)) ∙ (ap (numbers_by r.caller) (sym e) ∙ numbers_of_calls r.caller (log x))) b

  -- a hold that does not answer
  pub goes_on : (w : Setting) (r : Request) (t0 t after : ℕ) (first x y : T) (v : View T) (answer : Option Answer) → is_some answer ≡ false → callers v ≡ r.caller ∷ [] → Taken r t0 t first x
      → Hold w r t after (log x) (log y) (opened x) (opened y) answer → (u : View T) → u.own ≡ all_at y (callers v) → Going r t0 after first u
  goes_on w r t0 t after first x y v answer no_answer mine k hold u own =
      let g = hold.grown in
      let e : Event w r (log x) t hold.entries after false = subst (Event w r (log x) t hold.entries after) no_answer hold.event in
      let up = events_rise w r (log x) t hold.entries after false hold.range e in
      let low = up.never_falls in
      record {
        now = y;
        own = own ∙ ap (all_at y) mine;
        begins = prefix_trans (log first) (log x) (log y) k.begins (hold.entries, sym g);
        calls = calls_stay w r (log x) (log y) hold.entries t after g e ∙ k.calls;
        opens = open_still answer no_answer hold.leaves;
        clock = let c = k.clock in omega arith;
      } where
        open_still : (answer : Option Answer) → is_some answer ≡ false → Leaves r after (log x) hold.entries (opened x r.caller) (opened y r.caller) answer
            → (opened y r.caller ≡ None) ⊎ (opened y r.caller ≡ Some (r.number, r.call))
        open_still None none (inl c) = subst (λ (o : Option (ℕ × calls.Call)). (o ≡ None) ⊎ (o ≡ Some (r.number, r.call))) (sym c) k.opens
        open_still None none (inr c) = inr c
        open_still (Some a) none c = absurd (false≢true (sym none))

  -- the event that answers
  pub answers : (g : Ground) (r : Request) (t0 t after : ℕ) (first known_now last : List (ℕ × Kill)) (x0 x y : T) (position stamp : ℕ) (reply : Reply) → Taken r t0 t x0 x
      → IsPrefix first known_now
      → Hold (setting g (kills_in g.site.nodes known_now) (kills_in g.site.nodes last)) r t after (log x) (log y) (opened x) (opened y) (Some (record { position = position; stamp = stamp; reply = reply }))
      → IsLegal g.site (log y) → Called g r t0 after first last (log x0) (log y) position stamp reply
  answers g r t0 t after first known_now last x0 x y position stamp reply k more hold legal =
      let w : Setting = setting g (kills_in g.site.nodes known_now) (kills_in g.site.nodes last) in
      let c = hold.leaves in
      let marks : List Entry = c.1 in
      let e = answered_ends_with_call w r (log x) t hold.entries after hold.event in
      let there : Entry = Call e.caller r.number after r.call e.reply in
      let is = snoc_same e.marks marks there (entry_of r stamp reply) (sym e.are ∙ c.2) in
      let same_reply : e.reply ≡ reply = let q = is.1 in cc q in
      let g' = hold.grown in
      let before : List Entry = log x ++ marks in
      let ends : log y ≡ before ++ entry_of r stamp reply ∷ [] = g' ∙ (ap (λ (l : List Entry). log x ++ l) c.2 ∙ sym (append_assoc (log x) marks (entry_of r stamp reply ∷ []))) in
      let silent : calls_by r.caller marks ≡ [] = marks_silent r.caller marks (subst (AllByRecursion IsMarkEntry) is.0 e.only_marks) in
      let calls_before : calls_by r.caller before ≡ calls_by r.caller (log x0) =
      calls_by-append r.caller (log x) marks ∙ (ap (λ (l : List Entry). calls_by r.caller (log x) ++ l) silent ∙ (append-nil (calls_by r.caller (log x)) ∙ k.calls)) in
      let rises = events_rise w r (log x) t hold.entries after true hold.range hold.event in
      record {
        before = before;
        begins = prefix_trans (log x0) (log x) before k.begins (marks, refl);
        ends = ends;
        place = c.3;
        calls = ap (calls_by r.caller) ends ∙ (calls_by-append r.caller before (entry_of r stamp reply ∷ []) ∙ (ap (λ (l : List Entry). l ++ calls_by r.caller (entry_of r stamp reply ∷ [])) calls_before ∙ ap (λ (l : List Entry). calls_by r.caller (log x0) ++ l) (entry_alone r stamp reply)));
        legal = legal;
        clock = c.4;
        rises = elim (rises.answer_rises refl) [ inl lt ↦ inl (let a = k.clock in omega arith) | inr both ↦ rose_end t0 t after k.clock hold.range both ];
        out = λ i kill lt inside e'.
            let known' : kills_at (kills_in g.site.nodes known_now) (node_of g.site before i) ≡ Some (plain_kill kill) = kills_known g.site.nodes (node_of g.site before i) known_now inside ∙ ap (option_map plain_kill) (known_later (node_of g.site before i) first known_now kill more e') in
            let swept : IsSwept w.known g.site (log x ++ e.marks) = e.out in
            subst (IsSwept w.known g.site) (ap (λ (l : List Entry). log x ++ l) is.0) swept i lt (ap is_some known');
        given = subst (IsSeenReply w.seen g.may) same_reply e.seen;
      } where
        rose_end : (t0 t after : ℕ) → t0 ≤ t → t ≤ last_stamp → (t ≡ last_stamp) × (after ≡ last_stamp) → Precedes t0 after
        rose_end t0 t after le small both = elim (cases_lt t0 last_stamp) [ inl lt ↦ inl (let b = both.1 in omega arith) | inr ge ↦ inr (omega (arith, le, small, ge), both.1) ]

  module _ (g : Ground) where
    -- the kills that events know where the board seat has seen these
    abbrev pub kills_by : List (ℕ × Kill) → Kills
    kills_by seen = kills_at (kills_in g.site.nodes seen)

    -- From the start of a call on, where it isn't answered yet: `seen` are the kills that the board seat has seen so far.
    pub record Begun (r : Request) (t0 t : ℕ) (seen : List (ℕ × Kill)) (v0 v : View T) : Type 0 where
      pub first : T
      pub own : v0.own ≡ (r.caller, first) ∷ []
      pub named : v.name ≡ v0.name
      pub none : opened first r.caller ≡ None
      pub low : All (λ m. m < r.number) (numbers_by r.caller (log first))
      pub going : Going r t0 t first v
      pub accounts : Accounts (Account r.caller (kills_by seen) g.may t0) (log going.now) v0.places v.places
      pub comes : Comes (kills_by seen) t0 (log going.now) t

    pub begins : (r : Request) (t : ℕ) (seen : List (ℕ × Kill)) (x : T) (v : View T) → v.own ≡ (r.caller, x) ∷ [] → opened x r.caller ≡ None
        → All (λ m. m < r.number) (numbers_by r.caller (log x)) → Begun r t t seen v v
    begins r t seen x v own none low = record {
      first = x;
      own = own;
      named = refl;
      none = none;
      low = low;
      going = at_first r t x v own none;
      accounts = λ p some. inl some;
      comes = inl refl;
    }

    -- a hold on this ground, whose board seat had seen these kills before it and those after it
    abbrev pub Held : (r : Request) (t after : ℕ) (seen last : List (ℕ × Kill)) (x y : T) → Option Answer → Type 0
    Held r t after seen last x y answer = Hold (setting g (kills_in g.site.nodes seen) (kills_in g.site.nodes last)) r t after (log x) (log y) (opened x) (opened y) answer

    -- what one more hold adds has its account too
    step : (r : Request) (t0 t after : ℕ) (seen last : List (ℕ × Kill)) (x y : T) (v0 v : View T) (answer : Option Answer) (b : Begun r t0 t seen v0 v)
        → Stays name log opened x v.own → IsPrefix seen last → Held r t after seen last x y answer → (u : View T)
        → u.places ≡ v.places ++ range (length (log x)) (length (log y) - length (log x))
        → Accounts (Account r.caller (kills_by last) g.may t0) (log y) v0.places u.places × Comes (kills_by last) t0 (log y) after
    step r t0 t after seen last x y v0 v answer b stays more hold u places =
        let s = subst (λ (ps : List (ℕ × T)). Stays name log opened x ps) b.going.own stays in
        let w : Setting = setting g (kills_in g.site.nodes seen) (kills_in g.site.nodes last) in
        let a = holds_accounts w r (kills_by seen) t0 t after (log b.going.now) (log y) hold.entries (log x) (is_some answer) v0.places v.places
        (knows_more g.site.nodes seen last more) s.0 hold.grown hold.event b.comes b.accounts in
        (subst (λ (ps : List ℕ). Accounts (Account r.caller (kills_by last) g.may t0) (log y) v0.places ps) (sym places) a.0, a.1)

    -- one more hold that doesn't answer
    pub begun_on : (r : Request) (t0 t after : ℕ) (seen last : List (ℕ × Kill)) (x y : T) (v0 v : View T) (b : Begun r t0 t seen v0 v)
        → Stays name log opened x v.own → IsPrefix seen last → Held r t after seen last x y None → (u : View T) → u.own ≡ all_at y (callers v) → u.name ≡ v.name
        → u.places ≡ v.places ++ range (length (log x)) (length (log y) - length (log x)) → Begun r t0 after last v0 u
    unfolding goes_on
    begun_on r t0 t after seen last x y v0 v b stays more hold u own named places =
        let a = step r t0 t after seen last x y v0 v None b stays more hold u places in
        let w : Setting = setting g (kills_in g.site.nodes seen) (kills_in g.site.nodes last) in
        record {
          first = b.first;
          own = b.own;
          named = named ∙ b.named;
          none = b.none;
          low = b.low;
          going = goes_on w r t0 t after b.first x y v None refl (ap firsts b.going.own) (taken r t0 t b.first x v b.going stays) hold u own;
          accounts = a.0;
          comes = a.1;
        }

    -- the hold that answers
    pub begun_ends : (r : Request) (t0 t after : ℕ) (first seen last : List (ℕ × Kill)) (x y : T) (v0 v : View T) (position stamp : ℕ) (reply : Reply)
        → (b : Begun r t0 t seen v0 v) → Stays name log opened x v.own → IsPrefix first seen → IsPrefix seen last
        → Held r t after seen last x y (Some (record { position = position; stamp = stamp; reply = reply })) → IsLegal g.site (log y)
        → (u : View T) → u.own ≡ all_at y (callers v) → u.name ≡ v.name → u.places ≡ v.places ++ range (length (log x)) (length (log y) - length (log x))
        → Made log opened g r t0 after first last v0 u position stamp reply
    begun_ends r t0 t after first seen last x y v0 v position stamp reply b stays before more hold legal u own named places =
        let k = taken r t0 t b.first x v b.going stays in
        let a = step r t0 t after seen last x y v0 v (Some (record { position = position; stamp = stamp; reply = reply })) b stays more hold u places in
        record {
          old = b.first;
          now = y;
          was = b.own;
          is = own ∙ ap (all_at y) (ap firsts b.going.own);
          name = named ∙ b.named;
          none = hold.leaves.0;
          called = answers g r t0 t after first seen last b.first x y position stamp reply k before hold legal;
          accounts = a.0;
          comes = a.1;
        }
