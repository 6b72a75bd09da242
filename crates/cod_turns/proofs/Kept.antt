-- What each turn keeps.
use Rattle.std.proofs.Common.{◌≡◌, ◌≢◌, ◌⊎◌, ℕ, ◌+◌, ◌-◌, ◌<◌, ◌≤◌, ◌^◌, max, Bool, true, false, cond, eqb, Option, Some, None, List, [], ◌∷◌, ◌++◌, length, take, map, set, refl, sym, ap, ◌∙◌}
use Rattle.std.proofs.Common.{subst, inl, inr, arith}
use Rattle.std.specs.Prelude.{slice_get, slice_set, is_some, IsSome}
use Rattle.std.specs.List.{filter, filter_map, AllByRecursion, All, AllPairs, cons_option, range_with_len}
use Rattle.std.proofs.lemmas.Bool.{cases_lt, cases_eq, eq-eqb, ne_eqb}
use Rattle.std.proofs.lemmas.List.{append-nil, append_assoc, length_push}
use Rattle.std.proofs.lemmas.List.Elements.{filter-append, filter_map-append, All-push, filter_agree, All-from_recursion, All-map, All-contains, All-weaker}
use Rattle.std.proofs.lemmas.List.Quantifiers.{all_pairs_push}
use Rattle.cod_types.specs.declared.call.NodeId.{NodeId}
use Rattle.cod_types.specs.declared.call.SegId.{SegId}
use Rattle.cod_types.specs.declared.call.Caller.{Caller}
use Rattle.cod_types.specs.declared.call.Call.{Call as Asked}
use Rattle.cod_types.specs.declared.call.Reply.{Reply}
use Rattle.cod_types.specs.declared.call.Reply.TheVariants.{Bytes, Done, Range, Long, Lost, Whole, Rebuilt, NoSpare, NoMem, Shifted, Clear, Differs}
use Rattle.cod_types.specs.declared.reasons.Why.{Why}
use Rattle.cod_types.specs.declared.reasons.Why.TheVariants as why
use Rattle.cod_chronicle.specs.declared.entry.Entry.{Entry}
use Rattle.cod_chronicle.specs.declared.entry.Entry.TheVariants.{Call, Down, Up, Move}
use Rattle.cod_chronicle.specs.declared.entry.Cause.TheVariants.{Killed, Fault}
use Rattle.cod_chronicle.specs.Said.{site_as, stamp_of, clock_of, next_stamp, last_stamp, RisesFrom, number_by}
use Rattle.cod_chronicle.specs.Order.{Placed, stamp_at, place, placed, by_stamp}
use Rattle.cod_chronicle.specs.Whole.{HasStamp, numbers_of}
use Rattle.cod_chronicle.proofs.Growth.{clock_of-push, rises_push}
use Rattle.cod_chronicle.proofs.Orders.{said_same, said_more, Each-weaker}
use Rattle.cod_script.specs.declared.line.Line.{Line}
use Rattle.cod_script.specs.declared.line.What.TheVariants.{Segment, Fail}
use Rattle.cod_script.specs.Script.{Script, Ask, asks, lines_by}
use Rattle.cod_script.specs.Owed.{FailsBehind, IsFailLine, IsGivenWhy, IsGiven, IsLicensed, ask_by, asked_in, asked_by, IsOut, SeesFails, SeesFailsAfter, failed_ahead}
use Rattle.cod_chronicle.specs.Event.{NodeKill, clock_at, raised, IsKilledBy, IsSeenCause, IsSeenWhy, IsSeenReply}
use Rattle.cod_turns.specs.Turns.{World, IsLineAt, OthersStay}
use Rattle.cod_turns.proofs.Entering.{IsAnswered}
use Rattle.cod_turns.proofs.Lists.{slice_get-set_same, slice_get-set_other, one_at, Each-insert, Each-without, length-insert, take_front, take_front_more, has_more, has_new, sees_push}
use Rattle.cod_turns.proofs.Lists.{range_push, asks_mono, asks_push, ahead}

-- what an entry does to its client's place
abbrev pub MovesOn : Script → (ℕ → Bool) → World → ℕ → ℕ → List Entry → Entry → ℕ → Type 0
MovesOn x may w who s h (Call caller number stamp call reply) next =
    IsAnswered x w.board (w.next who) who s h caller.0 number call × IsSeenReply w.board may reply × (next ≡ w.next who + 1)
MovesOn x may w who s h (Down stamp col node cause) next = IsSeenCause w.board may node.0 cause × (next ≡ w.next who)
MovesOn x may w who s h (Up stamp col node) next = next ≡ w.next who
MovesOn x may w who s h (Move stamp col node) next = next ≡ w.next who

-- a client adds an entry to a segment
pub record Enters (x : Script) (may : ℕ → Bool) (who s : ℕ) (e : Entry) (w v : World) : Type 0 where
  pub h : List Entry
  pub there : slice_get w.chronicles s ≡ Some h
  pub grown : v.chronicles ≡ slice_set w.chronicles s (h ++ e ∷ [])
  pub board : v.board ≡ w.board
  pub stamp : stamp_of e ≡ next_stamp (clock_of h) (raised w.board (w.clock who) e)
  pub clock : v.clock who ≡ stamp_of e
  pub moves : MovesOn x may w who s h e (v.next who)
  pub others : OthersStay who w v

-- a clock is 0 or a stamp
abbrev pub IsClock : List Placed → ℕ → Type 0
IsClock ps t = (t ≡ 0) ⊎ HasStamp ps t

-- a kill on the board was made by a `fail` line, and what its client did before has no later stamp
pub record IsKill (x : Script) (ps : List Placed) (next : ℕ → ℕ) (node : ℕ) (k : NodeKill) : Type 0 where
  pub who : ℕ
  pub front : List Line
  pub behind : FailsBehind x who front k.line node
  pub done : length front < next who
  pub clock : IsClock ps k.clock
  pub covers : AllByRecursion (λ p. stamp_at p < 2 ^ 32) ps → (number : ℕ) → number < length (asks front)
      → AllByRecursion (λ p. number_by who p.entry ≡ Some number → stamp_at p ≤ k.clock) ps

-- a mark of a killed node stands after the kill
abbrev pub IsMark : (ℕ → Option NodeKill) → Entry → Type 0
IsMark board (Down stamp col node (Killed line)) = (k : NodeKill) × (board node.0 ≡ Some k) × (k.line ≡ line) × (k.clock < stamp)
IsMark board (Down stamp col node (Fault count)) = Unit {0}
IsMark board (Call caller number stamp call reply) = Unit {0}
IsMark board (Up stamp col node) = Unit {0}
IsMark board (Move stamp col node) = Unit {0}

-- how many calls a client has done
abbrev pub count : Script → World → ℕ → ℕ
count x w c = length (asks (take (w.next c) (lines_by x c)))

-- numbers below n that rise
abbrev pub IsRanked : ℕ → List ℕ → Type 0
IsRanked n ms = AllPairs (λ i j. i < j) ms × All (λ m. m < n) ms

abbrev pub says : ℕ → Placed → Bool
says c p = is_some (number_by c p.entry)

pub record Kept (x : Script) (may : ℕ → Bool) (w : World) : Type 0 where
  pub rises : (s : ℕ) (h : List Entry) → slice_get w.chronicles s ≡ Some h → RisesFrom 0 h
  pub ends : (s : ℕ) (h : List Entry) → slice_get w.chronicles s ≡ Some h → IsClock (placed w.chronicles) (clock_of h)
  pub asked : (c : ℕ) → asked_by c (by_stamp (placed w.chronicles)) ≡ asks (take (w.next c) (lines_by x c))
  pub numbers : (c : ℕ) → numbers_of c (by_stamp (placed w.chronicles)) ≡ range_with_len 0 (length (asks (take (w.next c) (lines_by x c))))
  pub ranks : (s : ℕ) (h : List Entry) → slice_get w.chronicles s ≡ Some h → (c : ℕ) → IsRanked (count x w c) (filter_map (number_by c) h)
  pub below : (c : ℕ) → AllByRecursion (λ p. stamp_at p ≤ w.clock c) (filter (says c) (placed w.chronicles))
  pub small : AllByRecursion (λ p. stamp_at p ≤ length (placed w.chronicles)) (placed w.chronicles)
  pub gaps : AllByRecursion (λ p. (stamp_at p ≤ 1) ⊎ HasStamp (placed w.chronicles) (stamp_at p - 1)) (placed w.chronicles)
  pub clocks : (c : ℕ) → IsClock (placed w.chronicles) (w.clock c)
  pub kills : (node : ℕ) (k : NodeKill) → w.board node ≡ Some k → IsKill x (placed w.chronicles) w.next node k
  pub done : (c : ℕ) (front : List Line) (line node : ℕ) → FailsBehind x c front line node → length front < w.next c → IsSome (w.board node)
  pub licensed : AllByRecursion (λ p. IsLicensed x may p.entry) (placed w.chronicles)
  pub marks : AllByRecursion (λ p. IsMark w.board p.entry) (placed w.chronicles)
  pub seen : (s : ℕ) (h : List Entry) → slice_get w.chronicles s ≡ Some h → SeesFailsAfter x (site_as true x.shape x.nodes s) [] h

IsClock-max : (ps : List Placed) (a b : ℕ) → IsClock ps a → IsClock ps b → IsClock ps (max a b)
IsClock-max ps a b h k = elim (cases_lt a b) [
  | inl l ↦ let e : max a b ≡ b = omega arith in rw e k
  | inr l ↦ let e : max a b ≡ a = omega arith in rw e h
]

IsClock-more : (xs ys : List Placed) (p : Placed) (t : ℕ) → IsClock (xs ++ ys) t → IsClock (xs ++ p ∷ ys) t
IsClock-more xs ys p t (inl z) = inl z
IsClock-more xs ys p t (inr h) = inr (has_more xs ys p t h)

-- what holds of each stamp holds of a clock, if it holds of 0
pub IsClock-all : (P : ℕ → Type 0) (ps : List Placed) (t : ℕ) → P 0 → AllByRecursion (λ p. P (stamp_at p)) ps → IsClock ps t → P t
IsClock-all P ps t zero_too all (inl z) = rw z zero_too
IsClock-all P ps t zero_too all (inr h) = All-contains P (map stamp_at ps) t (All-map P stamp_at ps (All-from_recursion (λ p. P (stamp_at p)) ps all)) h

-- the client's clock, raised, is still a clock
IsClock-raised : (ps : List Placed) (board : ℕ → Option NodeKill) (t : ℕ) (e : Entry) → IsClock ps t
    → ((node : ℕ) (k : NodeKill) → board node ≡ Some k → IsClock ps k.clock) → IsClock ps (raised board t e)
IsClock-raised ps board t (Call caller number stamp call reply) h k = h
IsClock-raised ps board t (Down stamp col node (Killed line)) h k = IsClock-max ps t (clock_at (board node.0)) h (of (board node.0) refl) where
  of : (o : Option NodeKill) → board node.0 ≡ o → IsClock ps (clock_at o)
  of None e = inl refl
  of (Some kill) e = k node.0 kill e
IsClock-raised ps board t (Down stamp col node (Fault count)) h k = h
IsClock-raised ps board t (Up stamp col node) h k = h
IsClock-raised ps board t (Move stamp col node) h k = h

raised_above : (board : ℕ → Option NodeKill) (t : ℕ) (e : Entry) → t ≤ raised board t e
raised_above board t (Call caller number stamp call reply) = omega arith
raised_above board t (Down stamp col node (Killed line)) = omega arith
raised_above board t (Down stamp col node (Fault count)) = omega arith
raised_above board t (Up stamp col node) = omega arith
raised_above board t (Move stamp col node) = omega arith

-- the next stamp where there are few entries
next_is : (s t n : ℕ) → s ≤ n → t ≤ n → n + 1 < last_stamp → next_stamp s t ≡ max s t + 1
next_is s t n a b c = omega arith

says_same : (c s : ℕ) (p : Placed) → is_some (ask_by c p) ≡ says c p
says_same c s p = by p.entry where
  cases : (b : Bool) (k : Ask) (n : ℕ) → is_some (cond b (Some k) None) ≡ is_some (cond b (Some n) None)
  cases true k n = refl
  cases false k n = refl

  by : (e : Entry) → is_some (asked_in p.segment c e) ≡ is_some (number_by c e)
  by (Call caller number stamp call reply) = cases (eqb caller.0 c) (record { segment = p.segment; call = call }) number
  by (Down stamp col node cause) = refl
  by (Up stamp col node) = refl
  by (Move stamp col node) = refl

-- a mark says nothing of calls
pub record MarkStep (x : Script) (w : World) (who s : ℕ) (h : List Entry) (e : Entry) (next : ℕ) : Type 0 where
  stays : next ≡ w.next who
  numbers : (c : ℕ) → number_by c e ≡ None
  asks : (c : ℕ) → asked_in s c e ≡ None
  sees : SeesFails x (site_as true x.shape x.nodes s) h e

-- a call is that of the client's line
pub record CallStep (x : Script) (w : World) (who s : ℕ) (h : List Entry) (e : Entry) (next : ℕ) : Type 0 where
  line : ℕ
  seg : SegId
  call : Asked
  at : IsLineAt x who (w.next who) (record { line = line; what = Segment seg call })
  segment : seg.0 ≡ s
  rises : next ≡ w.next who + 1
  numbers : number_by who e ≡ Some (length (asks at.front))
  asks_own : asked_in s who e ≡ Some (record { segment = s; call = call })
  others : (c : ℕ) → c ≢ who → (number_by c e ≡ None) × (asked_in s c e ≡ None)
  sees : SeesFails x (site_as true x.shape x.nodes s) h e

call_step : (x : Script) (w : World) (who s : ℕ) (h : List Entry) (caller : Caller) (number stamp : ℕ) (call : Asked) (reply : Reply) (next : ℕ)
    → ((front : List Line) (line node : ℕ) → FailsBehind x who front line node → length front < w.next who → IsSome (w.board node))
    → IsAnswered x w.board (w.next who) who s h caller.0 number call → next ≡ w.next who + 1 → CallStep x w who s h (Call caller number stamp call reply) next
call_step x w who s h caller number stamp call reply next done a n =
    let at = a.at in
    let same : eqb caller.0 who ≡ true = eq-eqb caller.0 who a.caller_is in
    record {
      line = a.line;
      seg = a.seg;
      call = call;
      at = at;
      segment = a.segment;
      rises = n;
      numbers = ap (λ (b : Bool). let o : Option ℕ = cond b (Some number) None in o) same ∙ ap (λ (m : ℕ). let o : Option ℕ = Some m in o) a.number_is;
      asks_own = ap (λ (b : Bool). let o : Option Ask = cond b (Some (record { segment = s; call = call })) None in o) same;
      others = λ c ne.
          let diff : eqb caller.0 c ≡ false = ne_eqb caller.0 c (λ i. ne (sym i ∙ a.caller_is)) in
          (ap (λ (b : Bool). let o : Option ℕ = cond b (Some number) None in o) diff, ap (λ (b : Bool). let o : Option Ask = cond b (Some (record { segment = s; call = call })) None in o) diff);
      sees =
          let out : ℕ → Type 0 = IsOut (site_as true x.shape x.nodes s) h in
          let all : AllByRecursion out (failed_ahead (at.front ++ (record { line = a.line; what = Segment a.seg call }) ∷ at.rest) (length (asks at.front))) =
          ahead out at.front at.rest a.line a.seg call (λ f b l y is i lt on.
          let lines : lines_by x who ≡ f ++ (record { line = l; what = Fail y }) ∷ (b ++ (record { line = a.line; what = Segment a.seg call }) ∷ at.rest) =
          at.lines ∙ ap (λ (k : List Line). k ++ (record { line = a.line; what = Segment a.seg call }) ∷ at.rest) is
          ∙ append_assoc f ((record { line = l; what = Fail y }) ∷ b) ((record { line = a.line; what = Segment a.seg call }) ∷ at.rest) in
          let shorter : length f < length at.front = rw is (let k = length-insert f b (record { line = l; what = Fail y }) in longer f b l y) in
          let some : IsSome (w.board y.0) =
          done f l y.0 (record { rest = b ++ (record { line = a.line; what = Segment a.seg call }) ∷ at.rest; at = y; node_is = refl; lines_are = lines }) (let p = at.place in omega arith) in
          a.out i lt (rw on some)) in
          let e : failed_ahead (lines_by x caller.0) number ≡ failed_ahead (at.front ++ (record { line = a.line; what = Segment a.seg call }) ∷ at.rest) (length (asks at.front)) =
          let c = a.caller_is in let m = a.number_is in let l = at.lines in ap (λ (c : ℕ). failed_ahead (lines_by x c) number) c ∙ ap (failed_ahead (lines_by x who)) m
          ∙ ap (λ (ls : List Line). failed_ahead ls (length (asks at.front))) l in
          rw e (All-from_recursion out (failed_ahead (at.front ++ (record { line = a.line; what = Segment a.seg call }) ∷ at.rest) (length (asks at.front))) all);
    } where
      longer : (f b : List Line) (l : ℕ) (y : NodeId) → length f < length (f ++ (record { line = l; what = Fail y }) ∷ b)
      longer [] b l y = omega arith
      longer (g ∷ f) b l y = let h = longer f b l y in omega arith

kind_of : (x : Script) (may : ℕ → Bool) (w : World) (who s : ℕ) (h : List Entry) (e : Entry) (next : ℕ)
    → ((front : List Line) (line node : ℕ) → FailsBehind x who front line node → length front < w.next who → IsSome (w.board node))
    → MovesOn x may w who s h e next → MarkStep x w who s h e next ⊎ CallStep x w who s h e next
kind_of x may w who s h (Call caller number stamp call reply) next done m = inr (call_step x w who s h caller number stamp call reply next done m.0 m.2)
kind_of x may w who s h (Down stamp col node cause) next done m = inl (record { stays = m.1; numbers = λ c. refl; asks = λ c. refl; sees = tt })
kind_of x may w who s h (Up stamp col node) next done m = inl (record { stays = m; numbers = λ c. refl; asks = λ c. refl; sees = tt })
kind_of x may w who s h (Move stamp col node) next done m = inl (record { stays = m; numbers = λ c. refl; asks = λ c. refl; sees = tt })

-- what the board says is in the scenario
fails_of : (x : Script) (may : ℕ → Bool) (w : World) → Kept x may w → (node line : ℕ) → IsKilledBy w.board node line → IsFailLine x line node
fails_of x may w K node line k =
    let r = K.kills node k.0 k.1 in
    record { who = r.who; front = r.front; behind = subst (λ (l : ℕ). FailsBehind x r.who r.front l node) k.2 r.behind }

licence : (x : Script) (may : ℕ → Bool) (w : World) (K : Kept x may w) (who s : ℕ) (h : List Entry) (e : Entry) (next : ℕ) → MovesOn x may w who s h e next → IsLicensed x may e
licence x may w K who s h (Call caller number stamp call reply) next m = given reply m.1 where
  why_given : (node : ℕ) (y : Why) → IsSeenWhy w.board may node y → IsGivenWhy x may node y
  why_given node (why.Down line) k = fails_of x may w K node line k
  why_given node (why.Free bytes) k = tt
  why_given node (why.Fault count) k = k

  given : (r : Reply) → IsSeenReply w.board may r → IsGiven x may r
  given (NoSpare reasons) g = All-weaker (λ r. IsSeenWhy w.board may r.node.0 r.why) (λ r. IsGivenWhy x may r.node.0 r.why) (λ r k. why_given r.node.0 r.why k) reasons g
  given (Bytes bytes) g = tt
  given (Differs bytes) g = tt
  given Done g = tt
  given Range g = tt
  given Long g = tt
  given Lost g = tt
  given Whole g = tt
  given (Rebuilt col node) g = tt
  given NoMem g = tt
  given (Shifted col node) g = tt
  given Clear g = tt
licence x may w K who s h (Down stamp col node (Killed line)) next m = fails_of x may w K node.0 line m.0
licence x may w K who s h (Down stamp col node (Fault count)) next m = m.0
licence x may w K who s h (Up stamp col node) next m = tt
licence x may w K who s h (Move stamp col node) next m = tt

-- a mark stands after its kill
marked : (x : Script) (may : ℕ → Bool) (w : World) (who s : ℕ) (h : List Entry) (e : Entry) (next : ℕ) → MovesOn x may w who s h e next
    → raised w.board (w.clock who) e < stamp_of e → IsMark w.board e
marked x may w who s h (Call caller number stamp call reply) next m l = tt
marked x may w who s h (Down stamp col node (Killed line)) next m l =
    let k = m.0 in
    let c : clock_at (w.board node.0) ≡ k.0.clock = ap clock_at k.1 in
    (k.0, k.1, k.2, omega arith)
marked x may w who s h (Down stamp col node (Fault count)) next m l = tt
marked x may w who s h (Up stamp col node) next m l = tt
marked x may w who s h (Move stamp col node) next m l = tt

module _ (x : Script) (may : ℕ → Bool) (who s : ℕ) (e : Entry) (w v : World) (E : Enters x may who s e w v) (K : Kept x may w) (few : length (placed w.chronicles) + 1 < last_stamp)
    (xs ys : List Placed) (old : placed w.chronicles ≡ xs ++ ys) (new : placed v.chronicles ≡ xs ++ place s e ∷ ys) where
  one_more : length (placed v.chronicles) ≡ length (placed w.chronicles) + 1
  one_more = ap length new ∙ length-insert xs ys (place s e) ∙ sym (ap (λ (l : List Placed). length l + 1) old)

  base : IsClock (placed w.chronicles) (raised w.board (w.clock who) e)
  base = IsClock-raised (placed w.chronicles) w.board (w.clock who) e (K.clocks who) (λ y k is. (K.kills y k is).clock)

  end : IsClock (placed w.chronicles) (clock_of E.h)
  end = K.ends s E.h E.there

  bound : (t : ℕ) → IsClock (placed w.chronicles) t → t ≤ length (placed w.chronicles)
  bound t h = IsClock-all (λ t. t ≤ length (placed w.chronicles)) (placed w.chronicles) t (omega arith) K.small h

  stamp_is : stamp_of e ≡ max (clock_of E.h) (raised w.board (w.clock who) e) + 1
  stamp_is = E.stamp ∙ next_is (clock_of E.h) (raised w.board (w.clock who) e) (length (placed w.chronicles)) (bound (clock_of E.h) end) (bound (raised w.board (w.clock who) e) base) few

  above : w.clock who < stamp_of e
  above = let r = raised_above w.board (w.clock who) e in let m = stamp_is in omega arith

  more : (t : ℕ) → IsClock (placed w.chronicles) t → IsClock (placed v.chronicles) t
  more t h =
      let o : IsClock (xs ++ ys) t = subst (λ (l : List Placed). IsClock l t) old h in
      subst (λ (l : List Placed). IsClock l t) (sym new) (IsClock-more xs ys (place s e) t o)

  fresh : HasStamp (placed v.chronicles) (stamp_of e)
  fresh = subst (λ (l : List Placed). HasStamp l (stamp_of e)) (sym new) (has_new xs ys (place s e))

  get : (i : ℕ) (h : List Entry) → slice_get v.chronicles i ≡ Some h → ((i ≡ s) × (h ≡ E.h ++ e ∷ [])) ⊎ (slice_get w.chronicles i ≡ Some h)
  get i h is = elim (cases_eq i s) [
    | inl same ↦
        let a = slice_get-set_same w.chronicles s (E.h ++ e ∷ []) E.h E.there in
        let g = E.grown in
        inl (same, (let b : Some h ≡ Some (E.h ++ e ∷ []) = sym is ∙ ap (λ (l : List (List Entry)). slice_get l i) g ∙ ap (slice_get (set w.chronicles s (E.h ++ e ∷ []))) same ∙ a in cc))
    | inr diff ↦
        let g = E.grown in
        inr (sym (slice_get-set_other w.chronicles s i (E.h ++ e ∷ []) diff) ∙ ap (λ (l : List (List Entry)). slice_get l i) (sym g) ∙ is)
  ]

  done_then : (front : List Line) (line node : ℕ) → FailsBehind x who front line node → length front < w.next who → IsSome (w.board node)
  done_then front line node f l = K.done who front line node f l

  kind : MarkStep x w who s E.h e (v.next who) ⊎ CallStep x w who s E.h e (v.next who)
  kind = kind_of x may w who s E.h e (v.next who) done_then E.moves

  -- each of the new list, from each of the old
  each : (P Q : Placed → Type 0) → ((p : Placed) → P p → Q p) → AllByRecursion P (placed w.chronicles) → Q (place s e) → AllByRecursion Q (placed v.chronicles)
  each P Q f all one =
      let o : AllByRecursion P (xs ++ ys) = subst (λ (l : List Placed). AllByRecursion P l) old all in
      subst (λ (l : List Placed). AllByRecursion Q l) (sym new) (Each-insert Q xs ys (place s e) (Each-weaker P Q f (xs ++ ys) o) one)

  rises_then : (i : ℕ) (h : List Entry) → slice_get v.chronicles i ≡ Some h → RisesFrom 0 h
  rises_then i h is = elim (get i h is) [
    | inl here ↦ subst (λ (l : List Entry). RisesFrom 0 l) (sym here.1) (rises_push 0 E.h e (K.rises s E.h E.there) (inl (let m = stamp_is in omega arith)))
    | inr there ↦ K.rises i h there
  ]

  ends_then : (i : ℕ) (h : List Entry) → slice_get v.chronicles i ≡ Some h → IsClock (placed v.chronicles) (clock_of h)
  ends_then i h is = elim (get i h is) [
    | inl here ↦
        let c : clock_of h ≡ stamp_of e = ap clock_of here.1 ∙ clock_of-push E.h e in
        subst (λ (t : ℕ). IsClock (placed v.chronicles) t) (sym c) (inr fresh)
    | inr there ↦ more (clock_of h) (K.ends i h there)
  ]

  seen_then : (i : ℕ) (h : List Entry) → slice_get v.chronicles i ≡ Some h → SeesFailsAfter x (site_as true x.shape x.nodes i) [] h
  seen_then i h is = elim (get i h is) [
    | inl here ↦
        let all : SeesFailsAfter x (site_as true x.shape x.nodes s) [] (E.h ++ e ∷ []) =
        sees_push x (site_as true x.shape x.nodes s) [] E.h e (K.seen s E.h E.there) (elim kind [ inl m ↦ m.sees | inr c ↦ c.sees ]) in
        let a : SeesFailsAfter x (site_as true x.shape x.nodes s) [] h = subst (λ (l : List Entry). SeesFailsAfter x (site_as true x.shape x.nodes s) [] l) (sym here.1) all in
        subst (λ (i : ℕ). SeesFailsAfter x (site_as true x.shape x.nodes i) [] h) (sym here.0) a
    | inr there ↦ K.seen i h there
  ]

  small_then : AllByRecursion (λ p. stamp_at p ≤ length (placed v.chronicles)) (placed v.chronicles)
  small_then =
      let m = one_more in
      let n = stamp_is in
      let a = bound (clock_of E.h) end in
      let b = bound (raised w.board (w.clock who) e) base in
      each (λ p. stamp_at p ≤ length (placed w.chronicles)) (λ p. stamp_at p ≤ length (placed v.chronicles)) (λ p h. omega arith) K.small (omega arith)

  -- the stamp one less
  less : (stamp_of e ≤ 1) ⊎ HasStamp (placed v.chronicles) (stamp_of e - 1)
  less =
      let n = stamp_is in
      let c : IsClock (placed v.chronicles) (stamp_of e - 1) =
      let k : stamp_of e - 1 ≡ max (clock_of E.h) (raised w.board (w.clock who) e) = omega arith in
      rw k (IsClock-max (placed v.chronicles) (clock_of E.h) (raised w.board (w.clock who) e) (more (clock_of E.h) end) (more (raised w.board (w.clock who) e) base)) in
      elim c [ inl z ↦ inl (omega arith) | inr h ↦ inr h ]

  gaps_then : AllByRecursion (λ p. (stamp_at p ≤ 1) ⊎ HasStamp (placed v.chronicles) (stamp_at p - 1)) (placed v.chronicles)
  gaps_then = each (λ p. (stamp_at p ≤ 1) ⊎ HasStamp (placed w.chronicles) (stamp_at p - 1)) (λ p. (stamp_at p ≤ 1) ⊎ HasStamp (placed v.chronicles) (stamp_at p - 1))
      (λ p h. elim h [ inl a ↦ inl a | inr b ↦ elim (more (stamp_at p - 1) (inr b)) [ inl z ↦ inl (omega arith) | inr c ↦ inr c ] ]) K.gaps less

  clocks_then : (c : ℕ) → IsClock (placed v.chronicles) (v.clock c)
  clocks_then c = elim (cases_eq c who) [
    | inl same ↦ let k : v.clock c ≡ stamp_of e = ap v.clock same ∙ E.clock in rw k (inr fresh)
    | inr diff ↦ let k = (E.others c diff).1 in rw k (more (w.clock c) (K.clocks c))
  ]

  licensed_then : AllByRecursion (λ p. IsLicensed x may p.entry) (placed v.chronicles)
  licensed_then = each (λ p. IsLicensed x may p.entry) (λ p. IsLicensed x may p.entry) (λ p h. h) K.licensed (licence x may w K who s E.h e (v.next who) E.moves)

  marks_then : AllByRecursion (λ p. IsMark v.board p.entry) (placed v.chronicles)
  marks_then =
      let b = E.board in
      subst (λ (board : ℕ → Option NodeKill). AllByRecursion (λ p. IsMark board p.entry) (placed v.chronicles)) (sym b)
      (each (λ p. IsMark w.board p.entry) (λ p. IsMark w.board p.entry) (λ p h. h) K.marks (marked x may w who s E.h e (v.next who) E.moves (let m = stamp_is in omega arith)))

  -- a caller that says nothing more
  below_same : (c : ℕ) → number_by c e ≡ None → w.clock c ≤ v.clock c → AllByRecursion (λ p. stamp_at p ≤ v.clock c) (filter (says c) (placed v.chronicles))
  below_same c none le =
      let f : filter (says c) (placed v.chronicles) ≡ filter (says c) (placed w.chronicles) =
      ap (filter (says c)) new ∙ filter-append (says c) xs (place s e ∷ ys)
      ∙ ap (λ (o : Option ℕ). filter (says c) xs ++ cond (is_some o) (place s e ∷ filter (says c) ys) (filter (says c) ys)) none
      ∙ sym (filter-append (says c) xs ys) ∙ sym (ap (filter (says c)) old) in
      rw f (Each-weaker (λ p. stamp_at p ≤ w.clock c) (λ p. stamp_at p ≤ v.clock c) (λ p h. omega arith) (filter (says c) (placed w.chronicles)) (K.below c))

  below_then : (c : ℕ) → AllByRecursion (λ p. stamp_at p ≤ v.clock c) (filter (says c) (placed v.chronicles))
  below_then c = elim (cases_eq c who) [
    | inl same ↦
        let k : v.clock c ≡ stamp_of e = ap v.clock same ∙ E.clock in
        let a = above in
        let wc : w.clock c ≡ w.clock who = ap w.clock same in
        let old_ones : AllByRecursion (λ p. stamp_at p ≤ w.clock c) (filter (says c) xs ++ filter (says c) ys) =
        subst (λ (l : List Placed). AllByRecursion (λ p. stamp_at p ≤ w.clock c) l) (ap (filter (says c)) old ∙ filter-append (says c) xs ys) (K.below c) in
        let weak : AllByRecursion (λ p. stamp_at p ≤ v.clock c) (filter (says c) xs ++ filter (says c) ys) =
        Each-weaker (λ p. stamp_at p ≤ w.clock c) (λ p. stamp_at p ≤ v.clock c) (λ p h. omega arith) (filter (says c) xs ++ filter (says c) ys) old_ones in
        let f : filter (says c) (placed v.chronicles) ≡ filter (says c) xs ++ cond (says c (place s e)) (place s e ∷ filter (says c) ys) (filter (says c) ys) =
        ap (filter (says c)) new ∙ filter-append (says c) xs (place s e ∷ ys) in
        rw f (either (says c (place s e)) (λ p. stamp_at p ≤ v.clock c) (filter (says c) xs) (filter (says c) ys) (place s e) weak (omega arith))
    | inr diff ↦
        let k = (E.others c diff).1 in
        below_same c (elim kind [ inl m ↦ m.numbers c | inr n ↦ (n.others c diff).0 ]) (omega arith)
  ] where
    either : (b : Bool) (P : Placed → Type 0) (xs ys : List Placed) (p : Placed) → AllByRecursion P (xs ++ ys) → P p → AllByRecursion P (xs ++ cond b (p ∷ ys) ys)
    either true P xs ys p a h = Each-insert P xs ys p a h
    either false P xs ys p a h = a

  -- of the caller's calls all have smaller stamps
  low : AllByRecursion (λ q. stamp_at q < stamp_of e) (filter (says who) (xs ++ ys))
  low =
      let a = above in
      let b : AllByRecursion (λ p. stamp_at p ≤ w.clock who) (filter (says who) (xs ++ ys)) =
      subst (λ (l : List Placed). AllByRecursion (λ p. stamp_at p ≤ w.clock who) (filter (says who) l)) old (K.below who) in
      Each-weaker (λ p. stamp_at p ≤ w.clock who) (λ p. stamp_at p < stamp_of e) (λ p h. omega arith) (filter (says who) (xs ++ ys)) b

  next_same : (c : ℕ) → c ≢ who → v.next c ≡ w.next c
  next_same c diff = (E.others c diff).0

  module _ {Y : Type 0} (f : ℕ → Placed → Option Y) (g : List Line → List Y) (held : (c : ℕ) → filter_map (f c) (by_stamp (placed w.chronicles)) ≡ g (take (w.next c) (lines_by x c))) where
    stays_said : (c : ℕ) → f c (place s e) ≡ None → v.next c ≡ w.next c → filter_map (f c) (by_stamp (placed v.chronicles)) ≡ g (take (v.next c) (lines_by x c))
    stays_said c none n =
        ap (λ (l : List Placed). filter_map (f c) (by_stamp l)) new ∙ said_same (f c) (place s e) xs ys none
        ∙ sym (ap (λ (l : List Placed). filter_map (f c) (by_stamp l)) old) ∙ held c ∙ sym (ap (λ (m : ℕ). g (take m (lines_by x c))) n)

    grows_said : (n : CallStep x w who s E.h e (v.next who)) (y : Y) → f who (place s e) ≡ Some y → ((q : Placed) → is_some (f who q) ≡ says who q)
        → g (n.at.front ++ (record { line = n.line; what = Segment n.seg n.call }) ∷ []) ≡ g n.at.front ++ y ∷ []
        → filter_map (f who) (by_stamp (placed v.chronicles)) ≡ g (take (v.next who) (lines_by x who))
    grows_said n y is agree longer =
        let at = n.at in
        let l : Line = record { line = n.line; what = Segment n.seg n.call } in
        let lower : AllByRecursion (λ q. stamp_at q < stamp_of e) (filter (λ q. is_some (f who q)) (xs ++ ys)) =
        rw (filter_agree (λ q. is_some (f who q)) (says who) agree (xs ++ ys)) low in
        let t : take (w.next who) (lines_by x who) ≡ at.front = take_front (lines_by x who) at.front at.rest l (w.next who) at.lines at.place in
        let u : take (v.next who) (lines_by x who) ≡ at.front ++ l ∷ [] =
        (let r = n.rises in ap (λ (m : ℕ). take m (lines_by x who)) r) ∙ take_front_more (lines_by x who) at.front at.rest l (w.next who) at.lines at.place in
        ap (λ (l : List Placed). filter_map (f who) (by_stamp l)) new ∙ said_more (f who) (place s e) xs ys y is lower
        ∙ ap (λ (l : List Placed). filter_map (f who) (by_stamp l) ++ y ∷ []) (sym old)
        ∙ ap (λ (l : List Y). l ++ y ∷ []) (held who ∙ ap g t) ∙ sym longer ∙ sym (ap g u)

  asked_then : (c : ℕ) → asked_by c (by_stamp (placed v.chronicles)) ≡ asks (take (v.next c) (lines_by x c))
  asked_then c = elim (cases_eq c who) [
    | inl same ↦ subst (λ (c : ℕ). asked_by c (by_stamp (placed v.chronicles)) ≡ asks (take (v.next c) (lines_by x c))) (sym same) (elim kind [
      | inl m ↦ stays_said (λ c p. ask_by c p) asks K.asked who (m.asks who) m.stays
      | inr n ↦
          let sg = n.segment in
          grows_said (λ c p. ask_by c p) asks K.asked n (record { segment = s; call = n.call }) n.asks_own (λ q. says_same who s q)
          (asks_push n.at.front n.line (Segment n.seg n.call) ∙ ap (λ (k : ℕ). asks n.at.front ++ (record { segment = k; call = n.call }) ∷ []) sg)
    ])
    | inr diff ↦ stays_said (λ c p. ask_by c p) asks K.asked c (elim kind [ inl m ↦ m.asks c | inr n ↦ (n.others c diff).1 ]) (next_same c diff)
  ]

  numbers_then : (c : ℕ) → numbers_of c (by_stamp (placed v.chronicles)) ≡ range_with_len 0 (length (asks (take (v.next c) (lines_by x c))))
  numbers_then c =
      let f : ℕ → Placed → Option ℕ = λ c p. number_by c p.entry in
      let g : List Line → List ℕ = λ l. range_with_len 0 (length (asks l)) in
      elim (cases_eq c who) [
        | inl same ↦ subst (λ (c : ℕ). numbers_of c (by_stamp (placed v.chronicles)) ≡ range_with_len 0 (length (asks (take (v.next c) (lines_by x c))))) (sym same) (elim kind [
          | inl m ↦ stays_said f g K.numbers who (m.numbers who) m.stays
          | inr n ↦
              let front = n.at.front in
              let l : length (asks (front ++ (record { line = n.line; what = Segment n.seg n.call }) ∷ [])) ≡ length (asks front) + 1 =
              ap length (asks_push front n.line (Segment n.seg n.call)) ∙ length_push (asks front) (record { segment = n.seg.0; call = n.call }) in
              let z : 0 + length (asks front) ≡ length (asks front) = omega arith in
              grows_said f g K.numbers n (length (asks front)) n.numbers (λ q. refl)
              (ap (range_with_len 0) l ∙ range_push 0 (length (asks front)) ∙ ap (λ (k : ℕ). range_with_len 0 (length (asks front)) ++ k ∷ []) z)
        ])
        | inr diff ↦ stays_said f g K.numbers c (elim kind [ inl m ↦ m.numbers c | inr n ↦ (n.others c diff).0 ]) (next_same c diff)
      ]

  next_grows : (c : ℕ) → w.next c ≤ v.next c
  next_grows c = elim (cases_eq c who) [
    | inl same ↦
        let a : v.next c ≡ v.next who = ap v.next same in
        let b : w.next c ≡ w.next who = ap w.next same in
        elim kind [ inl m ↦ (let r = m.stays in omega arith) | inr n ↦ (let r = n.rises in omega arith) ]
    | inr diff ↦ (let n = next_same c diff in omega arith)
  ]

  done_next : (c : ℕ) (front : List Line) (line node : ℕ) → FailsBehind x c front line node → length front < v.next c → IsSome (v.board node)
  done_next c front line node f l =
      let b = E.board in
      subst (λ (board : ℕ → Option NodeKill). IsSome (board node)) (sym b) (elim (cases_lt (length front) (w.next c)) [
        | inl early ↦ K.done c front line node f early
        | inr late ↦ elim (cases_eq c who) [
          | inl same ↦
              let a : v.next c ≡ v.next who = ap v.next same in
              let b : w.next c ≡ w.next who = ap w.next same in
              elim kind [
                | inl m ↦ (let r = m.stays in absurd (omega arith))
                | inr n ↦
                    let r = n.rises in
                    let p = n.at.place in
                    let lines : front ++ (record { line = line; what = Fail f.at }) ∷ f.rest ≡ n.at.front ++ (record { line = n.line; what = Segment n.seg n.call }) ∷ n.at.rest =
                    sym f.lines_are ∙ ap (lines_by x) same ∙ n.at.lines in
                    let k = one_at front f.rest n.at.front n.at.rest (record { line = line; what = Fail f.at }) (record { line = n.line; what = Segment n.seg n.call }) lines (omega arith) in
                    let wrong : Fail f.at ≡ Segment n.seg n.call = ap (λ (l : Line). l.what) k in
                    absurd (cc)
              ]
          | inr diff ↦ (let n = next_same c diff in absurd (omega arith))
        ]
      ])

  kills_then : (node : ℕ) (k : NodeKill) → v.board node ≡ Some k → IsKill x (placed v.chronicles) v.next node k
  kills_then node k is =
      let b = E.board in
      let i = K.kills node k (sym (ap (λ (board : ℕ → Option NodeKill). board node) b) ∙ is) in
      record {
        who = i.who;
        front = i.front;
        behind = i.behind;
        done = (let n = next_grows i.who in let d = i.done in omega arith);
        clock = more k.clock i.clock;
        covers = λ all number l.
            let before : AllByRecursion (λ p. stamp_at p < 2 ^ 32) (placed w.chronicles) =
            subst (λ (l : List Placed). AllByRecursion (λ p. stamp_at p < 2 ^ 32) l) (sym old)
            (Each-without (λ p. stamp_at p < 2 ^ 32) xs ys (place s e) (subst (λ (l : List Placed). AllByRecursion (λ p. stamp_at p < 2 ^ 32) l) new all)) in
            each (λ p. number_by i.who p.entry ≡ Some number → stamp_at p ≤ k.clock) (λ p. number_by i.who p.entry ≡ Some number → stamp_at p ≤ k.clock) (λ p h. h) (i.covers before number l)
            (λ says_it. absurd (elim kind [
              | inl m ↦ (let n = m.numbers i.who in cc)
              | inr n ↦ elim (cases_eq i.who who) [
                | inl same ↦
                    let own = n.numbers in
                    let num : number ≡ length (asks n.at.front) = (let q : Some number ≡ Some (length (asks n.at.front)) = sym says_it ∙ ap (λ (c : ℕ). number_by c e) same ∙ own in cc) in
                    let f = i.behind in
                    let lines : i.front ++ (record { line = k.line; what = Fail f.at }) ∷ f.rest ≡ n.at.front ++ (record { line = n.line; what = Segment n.seg n.call }) ∷ n.at.rest =
                    sym f.lines_are ∙ ap (lines_by x) same ∙ n.at.lines in
                    let wn : w.next i.who ≡ w.next who = ap w.next same in
                    let p = n.at.place in
                    let d = i.done in
                    let m = asks_mono i.front f.rest n.at.front n.at.rest (record { line = k.line; what = Fail f.at }) (record { line = n.line; what = Segment n.seg n.call }) lines (omega arith) in
                    omega arith
                | inr diff ↦ (let o = (n.others i.who diff).0 in cc)
              ]
            ]));
      }

  -- the caller's next number is that of the calls that it has done
  count_then : (n : CallStep x w who s E.h e (v.next who)) → (length (asks n.at.front) ≡ count x w who) × (count x v who ≡ count x w who + 1)
  count_then n =
      let front = n.at.front in
      let l : Line = record { line = n.line; what = Segment n.seg n.call } in
      let t : take (w.next who) (lines_by x who) ≡ front = take_front (lines_by x who) front n.at.rest l (w.next who) n.at.lines n.at.place in
      let u : take (v.next who) (lines_by x who) ≡ front ++ l ∷ [] =
      (let r = n.rises in ap (λ (m : ℕ). take m (lines_by x who)) r) ∙ take_front_more (lines_by x who) front n.at.rest l (w.next who) n.at.lines n.at.place in
      let a : length (asks front) ≡ count x w who = sym (ap (λ (l : List Line). length (asks l)) t) in
      let b : count x v who ≡ length (asks front) + 1 =
      ap (λ (l : List Line). length (asks l)) u ∙ ap length (asks_push front n.line (Segment n.seg n.call)) ∙ length_push (asks front) (record { segment = n.seg.0; call = n.call }) in
      (a, b ∙ ap (λ (m : ℕ). m + 1) a)

  count_grows : (c : ℕ) → count x w c ≤ count x v c
  count_grows c = elim (cases_eq c who) [
    | inl same ↦ subst (λ (c : ℕ). count x w c ≤ count x v c) (sym same) (elim kind [
      | inl m ↦ (let n : count x v who ≡ count x w who = (let r = m.stays in ap (λ (k : ℕ). length (asks (take k (lines_by x who)))) r) in omega arith)
      | inr n ↦ (let k = count_then n in let b = k.1 in omega arith)
    ])
    | inr diff ↦ (let n : count x v c ≡ count x w c = ap (λ (k : ℕ). length (asks (take k (lines_by x c)))) (next_same c diff) in omega arith)
  ]

  ranked_more : (h : List Entry) (c : ℕ) → IsRanked (count x w c) (filter_map (number_by c) h) → IsRanked (count x v c) (filter_map (number_by c) h)
  ranked_more h c r = let g = count_grows c in (r.0, λ k d l. let b = r.1 k d l in omega arith)

  silent : (h : List Entry) (c : ℕ) → number_by c e ≡ None → filter_map (number_by c) (h ++ e ∷ []) ≡ filter_map (number_by c) h
  silent h c none = filter_map-append (number_by c) h (e ∷ []) ∙ ap (λ (o : Option ℕ). filter_map (number_by c) h ++ cons_option o []) none ∙ append-nil (filter_map (number_by c) h)

  ranks_here : (c : ℕ) → IsRanked (count x v c) (filter_map (number_by c) (E.h ++ e ∷ []))
  ranks_here c = elim (cases_eq c who) [
    | inl same ↦ subst (λ (c : ℕ). IsRanked (count x v c) (filter_map (number_by c) (E.h ++ e ∷ []))) (sym same) (elim kind [
      | inl m ↦ rw (silent E.h who (m.numbers who)) (ranked_more E.h who (K.ranks s E.h E.there who))
      | inr n ↦
          let k = count_then n in
          let a = k.0 in
          let b = k.1 in
          let own = n.numbers in
          let r = K.ranks s E.h E.there who in
          let l : filter_map (number_by who) (E.h ++ e ∷ []) ≡ filter_map (number_by who) E.h ++ length (asks n.at.front) ∷ [] =
          filter_map-append (number_by who) E.h (e ∷ []) ∙ ap (λ (o : Option ℕ). filter_map (number_by who) E.h ++ cons_option o []) own in
          rw l (
            all_pairs_push (λ i j. i < j) (filter_map (number_by who) E.h) (length (asks n.at.front)) r.0 (λ k d l. let q = r.1 k d l in omega arith),
            All-push (λ m. m < count x v who) (filter_map (number_by who) E.h) (length (asks n.at.front)) (λ k d l. let q = r.1 k d l in omega arith) (omega arith),
          )
    ])
    | inr diff ↦ rw (silent E.h c (elim kind [ inl m ↦ m.numbers c | inr n ↦ (n.others c diff).0 ])) (ranked_more E.h c (K.ranks s E.h E.there c))
  ]

  ranks_then : (i : ℕ) (h : List Entry) → slice_get v.chronicles i ≡ Some h → (c : ℕ) → IsRanked (count x v c) (filter_map (number_by c) h)
  ranks_then i h is c = elim (get i h is) [
    | inl here ↦ subst (λ (l : List Entry). IsRanked (count x v c) (filter_map (number_by c) l)) (sym here.1) (ranks_here c)
    | inr there ↦ ranked_more h c (K.ranks i h there c)
  ]

  pub kept_then : Kept x may v
  kept_then =
      record {
        rises = rises_then;
        ends = ends_then;
        asked = asked_then;
        numbers = numbers_then;
        ranks = ranks_then;
        below = below_then;
        small = small_then;
        gaps = gaps_then;
        clocks = clocks_then;
        kills = kills_then;
        done = done_next;
        licensed = licensed_then;
        marks = marks_then;
        seen = seen_then;
      }
