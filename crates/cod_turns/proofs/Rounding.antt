-- Rounds end.
use Rattle.std.proofs.Common.{◌≡◌, ◌≢◌, ◌⊎◌, ℕ, zero, suc, ◌+◌, ◌*◌, ◌<◌, ◌≤◌, Option, Some, None, List, [], ◌∷◌, ◌++◌, length, refl, sym, ap, ◌∙◌, subst, inl, inr, arith}
use Rattle.std.specs.List.{range_with_len, AllByRecursion}
use Rattle.std.proofs.Math.Nat.{add-mul}
use Rattle.std.proofs.lemmas.Bool.{cases_lt, cases_eq}
use Rattle.std.proofs.lemmas.List.{length-append, get_or_past}
use Rattle.cod_types.specs.declared.call.SegId.{SegId}
use Rattle.cod_types.specs.declared.call.Call.{Call as Asked}
use Rattle.cod_script.specs.declared.line.Line.{Line}
use Rattle.cod_script.specs.declared.line.What.TheVariants.{Segment, Fail}
use Rattle.cod_script.specs.Script.{Script, Client, lines_by, nobody}
use Rattle.cod_script.specs.Sound.{IsScenario}
use Rattle.cod_turns.specs.declared.turned.Turned.{Turned}
use Rattle.cod_turns.specs.declared.turned.Turned.TheVariants.{Ended, Killed, Held, Moved, Answered}
use Rattle.cod_turns.specs.Turns.{World, Course, start, IsLineAt, OthersStay, Serves, Turn, Turns, AllEnded}
use Rattle.cod_turns.specs.Open.{AreItsCalls}
use Rattle.cod_turns.specs.Rounds.{round, Rounds, IsRunFrom, IsRun, RunLeavesHistory, RunLeavesNothingOpen, IsProgress, Takings, TurnsWork, lines_left, measure, TurnsNeverRaise, RoundsFall}
use Rattle.cod_turns.proofs.Opening.{turns_open, start_is_of_its_lines, none_open, one_segment}
use Rattle.cod_turns.proofs.Running.{turns, history, start_sound, Sound}

-- turns with their work are turns
pub are_turns : (x : Course) (most : ℕ) (cs : List ℕ) (w v : World) (a b : ℕ) → TurnsWork x most cs w v a b → Turns x cs w v
are_turns x most [] w v a b t = t.0
are_turns x most (who ∷ rest) w v a b t = (t.0, t.2, t.3, are_turns x most rest t.0 v t.1 b t.5)

-- ---- how many lines are left

lines_same : (x : Script) (f g : ℕ → ℕ) (n : ℕ) → ((c : ℕ) → c < n → g c ≡ f c) → lines_left x g n ≡ lines_left x f n
lines_same x f g zero h = refl
lines_same x f g (suc n) h =
    let r = lines_same x f g n (λ c l. h c (omega (arith, l))) in
    let e = h n (omega arith) in
    omega (arith, r, e)

lines_fall : (x : Script) (f g : ℕ → ℕ) (who n : ℕ) → who < n → f who < length (lines_by x who) → g who ≡ f who + 1 → ((c : ℕ) → c ≢ who → g c ≡ f c)
    → lines_left x f n ≡ lines_left x g n + 1
lines_fall x f g who zero lt some up others = absurd (omega (arith, lt))
lines_fall x f g who (suc n) lt some up others = elim (cases_eq n who) [
  | inl same ↦
      let r = lines_same x f g n (λ c l. others c (λ e. absurd (omega (arith, l, e, same)))) in
      let a : length (lines_by x n) ≡ length (lines_by x who) = ap (λ (c : ℕ). length (lines_by x c)) same in
      let b : f n ≡ f who = ap f same in
      let c : g n ≡ g who = ap g same in
      omega (arith, r, a, b, c, up, some)
  | inr diff ↦
      let r = lines_fall x f g who n (omega (arith, lt, diff)) some up others in
      let e = others n diff in
      omega (arith, r, e)
]

-- a client that has a line is there
there : (x : Script) (who i : ℕ) (l : Line) → IsLineAt x who i l → (who < length x.clients) × (i < length (lines_by x who))
there x who i l at =
    let n : length (lines_by x who) ≡ length at.front + length (l ∷ at.rest) = ap length at.lines ∙ length-append at.front (l ∷ at.rest) in
    let p = at.place in
    elim (cases_lt who (length x.clients)) [
      | inl lt ↦ (lt, omega (arith, n, p))
      | inr ge ↦ absurd (let e : length (lines_by x who) ≡ 0 = ap (λ (c : Client). length c.lines) (get_or_past x.clients who nobody ge) in omega (arith, e, n))
    ]

-- one line less, whatever comes of the rest
falls : (x : Script) (most who : ℕ) (l : Line) (w v : World) (a b : ℕ) → IsLineAt x who (w.next who) l → v.next who ≡ w.next who + 1 → OthersStay who w v → b ≤ most
    → measure x most v b < measure x most w a
falls x most who l w v a b at up others work =
    let t = there x who (w.next who) l at in
    let f = lines_fall x w.next v.next who (length x.clients) t.0 t.1 up (λ c ne. (others c ne).0) in
    let e : lines_left x w.next (length x.clients) * (most + 1) ≡ lines_left x v.next (length x.clients) * (most + 1) + 1 * (most + 1) =
    ap (λ (n : ℕ). n * (most + 1)) f ∙ add-mul (lines_left x v.next (length x.clients)) 1 (most + 1) in
    omega (arith, e, work)

-- the same lines
lines_all : (x : Script) (w v : World) (most : ℕ) → ((c : ℕ) → v.next c ≡ w.next c)
    → lines_left x v.next (length x.clients) * (most + 1) ≡ lines_left x w.next (length x.clients) * (most + 1)
lines_all x w v most same = ap (λ (n : ℕ). n * (most + 1)) (lines_same x w.next v.next (length x.clients) (λ c l. same c))

next_same : (x : Course) (who : ℕ) (w v : World) → v.next who ≡ w.next who → OthersStay who w v → (c : ℕ) → v.next c ≡ w.next c
next_same x who w v own others c = elim (cases_eq c who) [
  | inl same ↦ ap v.next same ∙ own ∙ ap w.next (sym same)
  | inr diff ↦ (others c diff).0
]

-- ---- turns in which nothing moves

-- a client waits at a line for what another has open, and has nothing open there itself
record Waits (x : Script) (w : World) (who : ℕ) : Type 0 where
  line : ℕ
  seg : SegId
  call : Asked
  at : IsLineAt x who (w.next who) (record { line = line; what = Segment seg call })
  own : w.opened seg.0 who ≡ None
  holder : ℕ
  number : ℕ
  asked : Asked
  holds : w.opened seg.0 holder ≡ Some (number, asked)

abbrev Stuck : Script → World → ℕ → Type 0
Stuck x w who = (length (lines_by x who) ≤ w.next who) ⊎ Waits x w who

record Quiet (x : Script) (cs : List ℕ) (w v : World) (a b : ℕ) : Type 0 where
  next : (c : ℕ) → v.next c ≡ w.next c
  opened : (s c : ℕ) → v.opened s c ≡ w.opened s c
  work : b ≤ a
  stuck : AllByRecursion (Stuck x w) cs

-- where a call is held, nothing that is open changes
held_open : (x : Course) (who : ℕ) (w v : World) (turned : Turned) (T : Serves x who w v turned) → w.opened T.seg.0 who ≡ None → v.opened T.seg.0 who ≡ None
    → (s c : ℕ) → v.opened s c ≡ w.opened s c
held_open x who w v turned T was is s c = elim (cases_eq s T.seg.0) [
  | inl here ↦ elim (cases_eq c who) [
    | inl same ↦
        ap (λ (k : ℕ). v.opened k c) here ∙ ap (v.opened T.seg.0) same ∙ is ∙ sym was ∙ sym (ap (w.opened T.seg.0) same) ∙ sym (ap (λ (k : ℕ). w.opened k c) here)
    | inr diff ↦ ap (λ (k : ℕ). v.opened k c) here ∙ T.others_open.1 c diff ∙ sym (ap (λ (k : ℕ). w.opened k c) here)
  ]
  | inr away ↦ T.others_open.0 s c away
]

turn_or : (x : Course) (most who : ℕ) (w v : World) (a b : ℕ) (turned : Turned) → Turn x who w v turned → IsProgress most turned a b
    → (measure x.script most v b < measure x.script most w a) ⊎ Quiet x.script (who ∷ []) w v a b
turn_or x most who w v a b Ended T p =
    let s = T.same in
    inr (record {
      next = λ c. ap (λ (k : World). k.next c) s;
      opened = λ i c. ap (λ (k : World). k.opened i c) s;
      work = omega (arith, p);
      stuck = (inl T.ended, tt);
    })
turn_or x most who w v a b Killed T p = inl (falls x.script most who (record { line = T.line; what = Fail T.node }) w v a b T.at T.next T.others p)
turn_or x most who w v a b (Held owner number) T p =
    let h = T.comes.2 in
    inr (record {
      next = next_same x who w v T.next T.others;
      opened = held_open x who w v (Held owner number) T T.comes.0 T.comes.1;
      work = p;
      stuck = (
        inr (record { line = T.line; seg = T.seg; call = T.call; at = T.at; own = T.comes.0; holder = owner.0; number = number; asked = h.call; holds = h.holds }),
        tt,
      );
    })
turn_or x most who w v a b Moved T p =
    let e = lines_all x.script w v most (next_same x who w v T.next T.others) in
    inl (omega (arith, e, p))
turn_or x most who w v a b (Answered position stamp) T p =
    inl (falls x.script most who (record { line = T.line; what = Segment T.seg T.call }) w v a b T.at T.next T.others p)

not_raised : (x : Script) (most : ℕ) (cs : List ℕ) (w v : World) (a b : ℕ) → Quiet x cs w v a b → measure x most v b ≤ measure x most w a
not_raised x most cs w v a b q =
    let e = lines_all x w v most q.next in
    let l = q.work in
    omega (arith, e, l)

stuck_too : (x : Script) (w v : World) → ((c : ℕ) → v.next c ≡ w.next c) → ((s c : ℕ) → v.opened s c ≡ w.opened s c) → (cs : List ℕ)
    → AllByRecursion (Stuck x v) cs → AllByRecursion (Stuck x w) cs
stuck_too x w v next opened [] s = tt
stuck_too x w v next opened (c ∷ cs) s = (
  elim (s.0) [
    | inl ended ↦ inl (let n = next c in omega (arith, n, ended))
    | inr k ↦ inr (record {
      line = k.line;
      seg = k.seg;
      call = k.call;
      at = record { front = k.at.front; rest = k.at.rest; lines = k.at.lines; place = k.at.place ∙ next c };
      own = sym (opened k.seg.0 c) ∙ k.own;
      holder = k.holder;
      number = k.number;
      asked = k.asked;
      holds = sym (opened k.seg.0 k.holder) ∙ k.holds;
    })
  ],
  stuck_too x w v next opened cs s.1,
)

all_or : (x : Course) (most : ℕ) (cs : List ℕ) (w v : World) (a b : ℕ) → TurnsWork x most cs w v a b
    → (measure x.script most v b < measure x.script most w a) ⊎ Quiet x.script cs w v a b
all_or x most [] w v a b t =
    inr (record {
      next = λ c. ap (λ (k : World). k.next c) t.0;
      opened = λ i c. ap (λ (k : World). k.opened i c) t.0;
      work = (let e = t.1 in omega (arith, e));
      stuck = tt;
    })
all_or x most (who ∷ rest) w v a b t =
    let one = turn_or x most who w t.0 a t.1 t.2 t.3 t.4 in
    let more = all_or x most rest t.0 v t.1 b t.5 in
    elim one [
      | inl less ↦ inl (elim more [
        | inl less2 ↦ omega (arith, less, less2)
        | inr quiet2 ↦ (let n = not_raised x.script most rest t.0 v t.1 b quiet2 in omega (arith, less, n))
      ])
      | inr quiet ↦ elim more [
        | inl less2 ↦ (let n = not_raised x.script most (who ∷ []) w t.0 a t.1 quiet in inl (omega (arith, less2, n)))
        | inr quiet2 ↦ inr (record {
          next = λ c. quiet2.next c ∙ quiet.next c;
          opened = λ s c. quiet2.opened s c ∙ quiet.opened s c;
          work = (let m = quiet.work in let n = quiet2.work in omega (arith, m, n));
          stuck = (quiet.stuck.0, stuck_too x.script w t.0 quiet.next quiet.opened rest quiet2.stuck);
        })
      ]
    ]

pub turns_never_raise : TurnsNeverRaise
turns_never_raise x most cs w v a b t = elim (all_or x most cs w v a b t) [
  | inl less ↦ omega (arith, less)
  | inr quiet ↦ not_raised x.script most cs w v a b quiet
]

-- each of a round
in_round : (P : ℕ → Type 0) (n a i : ℕ) → a ≤ i → i < a + n → AllByRecursion P (range_with_len a n) → P i
in_round P zero a i l u r = absurd (omega (arith, l, u))
in_round P (suc n) a i l u r = elim (cases_eq a i) [
  | inl same ↦ subst P same r.0
  | inr diff ↦ in_round P n (a + 1) i (omega (arith, l, diff)) (omega (arith, u)) r.1
]

both : {A : Type 0} (o : Option A) (y : A) → o ≡ None → o ≡ Some y → ⊥
both o y a b = cc

-- where nothing moves in a round, all have ended
all_ended : (x : Script) (w : World) → AreItsCalls x w → AllByRecursion (Stuck x w) (round x) → AllEnded x w
all_ended x w calls stuck who = elim (cases_lt who (length x.clients)) [
  | inl lt ↦ elim (in_round (Stuck x w) (length x.clients) 0 who (omega arith) (omega (arith, lt)) stuck) [
    | inl ended ↦ ended
    | inr k ↦ absurd (
        let h = k.holder in
        let c = calls k.seg.0 h k.number k.asked k.holds in
        let t = there x h (w.next h) (record { line = c.line; what = Segment c.seg k.asked }) c.at in
        elim (in_round (Stuck x w) (length x.clients) 0 h (omega arith) (let l = t.0 in omega (arith, l)) stuck) [
          | inl over ↦ (let l = t.1 in omega (arith, l, over))
          | inr m ↦
              let s = one_segment x h (w.next h) m.line c.line m.seg c.seg m.call k.asked m.at c.at in
              let e : m.seg.0 ≡ k.seg.0 = s ∙ c.segment_is in
              both (w.opened m.seg.0 h) (k.number, k.asked) m.own (ap (λ (i : ℕ). w.opened i h) e ∙ k.holds)
        ])
  ]
  | inr ge ↦ (let e : length (lines_by x who) ≡ 0 = ap (λ (c : Client). length c.lines) (get_or_past x.clients who nobody ge) in omega (arith, e))
]

pub rounds_fall : RoundsFall
rounds_fall x most w v a b calls t some = elim (all_or x most (round x.script) w v a b t) [
  | inl less ↦ less
  | inr quiet ↦ absurd (some (all_ended x.script w calls quiet.stuck))
]

-- ---- a run

rounds_sound : (x : Course) → IsScenario x.script → (n : ℕ) (w v : World) → Rounds x n w v → Sound x w → Sound x v × AllEnded x.script v
rounds_sound x X zero w v r s = (subst (Sound x) (sym r.0) s, subst (AllEnded x.script) (sym r.0) r.1)
rounds_sound x X (suc n) w v r s = rounds_sound x X n r.1.0 v r.1.2 (turns x X (round x.script) w r.1.0 r.1.1 s)

pub run_sound : (x : Course) (v : World) → IsScenario x.script → IsRun x v → Sound x v × AllEnded x.script v
run_sound x v X r =
    rounds_sound x X r.count r.scheduled v r.rounds (turns x X x.script.schedule (start (length x.script.segments)) r.scheduled r.schedule (start_sound x))

pub run_leaves_history : RunLeavesHistory
run_leaves_history x v X r = (let e = run_sound x v X r in history x v X e.0 e.1)

rounds_open : (x : Course) (n : ℕ) (w v : World) → Rounds x n w v → AreItsCalls x.script w → AreItsCalls x.script v × AllEnded x.script v
rounds_open x zero w v r s = (subst (AreItsCalls x.script) (sym r.0) s, subst (AllEnded x.script) (sym r.0) r.1)
rounds_open x (suc n) w v r s = rounds_open x n r.1.0 v r.1.2 (turns_open x (round x.script) w r.1.0 r.1.1 s)

pub run_leaves_nothing_open : RunLeavesNothingOpen
run_leaves_nothing_open x v r =
    let s = turns_open x x.script.schedule (start (length x.script.segments)) r.scheduled r.schedule (start_is_of_its_lines x.script (length x.script.segments)) in
    let e = rounds_open x r.count r.scheduled v r.rounds s in
    none_open x.script v e.0 e.1

-- ---- one turn more, one round more

pub turns_push : (x : Course) (most : ℕ) (cs : List ℕ) (who : ℕ) (w u v : World) (a l b : ℕ) (turned : Turned) → TurnsWork x most cs w u a l
    → Turn x who u v turned → IsProgress most turned l b → TurnsWork x most (cs ++ who ∷ []) w v a b
turns_push x most [] who w u v a l b turned h t p =
    (v, b, turned, subst (λ (k : World). Turn x who k v turned) h.0 t, subst (λ (k : ℕ). IsProgress most turned k b) h.1 p, (refl, refl))
turns_push x most (c ∷ cs) who w u v a l b turned h t p = (h.0, h.1, h.2, h.3, h.4, turns_push x most cs who h.0 u v h.1 l b turned h.5 t p)

-- rounds so far
abbrev pub SoFar : Course → ℕ → World → World → Type 0
SoFar x zero w v = v ≡ w
SoFar x (suc n) w v = (¬ (AllEnded x.script w)) × ((u : World) × Turns x (round x.script) w u × SoFar x n u v)

so_far_push : (x : Course) (n : ℕ) (w u v : World) → SoFar x n w u → ¬ (AllEnded x.script u) → Turns x (round x.script) u v → SoFar x (suc n) w v
so_far_push x zero w u v h some t = (subst (λ (k : World). ¬ (AllEnded x.script k)) h some, (v, subst (λ (k : World). Turns x (round x.script) k v) h t, refl))
so_far_push x (suc n) w u v h some t = (h.0, (h.1.0, h.1.1, so_far_push x n h.1.0 u v h.1.2 some t))

so_far_end : (x : Course) (n : ℕ) (w v : World) → SoFar x n w v → AllEnded x.script v → Rounds x n w v
so_far_end x zero w v h e = (h, subst (AllEnded x.script) h e)
so_far_end x (suc n) w v h e = (h.0, (h.1.0, h.1.1, so_far_end x n h.1.0 v h.1.2 e))

-- the schedule, and so many rounds
pub record RunSoFar (x : Course) (count : ℕ) (w v : World) : Type 0 where
  pub scheduled : World
  pub schedule : Turns x x.script.schedule w scheduled
  pub rounds : SoFar x count scheduled v
  pub opened : AreItsCalls x.script v

pub run_begins : (x : Course) (most : ℕ) (w v : World) (a b : ℕ) → AreItsCalls x.script w → TurnsWork x most x.script.schedule w v a b → RunSoFar x 0 w v
run_begins x most w v a b calls t =
    let all = are_turns x most x.script.schedule w v a b t in
    record {
      scheduled = v;
      schedule = all;
      rounds = refl;
      opened = turns_open x x.script.schedule w v all calls;
    }

pub run_goes_on : (x : Course) (most n : ℕ) (first w v : World) (a b : ℕ) → RunSoFar x n first w → ¬ (AllEnded x.script w) → TurnsWork x most (round x.script) w v a b
    → RunSoFar x (suc n) first v
run_goes_on x most n first w v a b r some t =
    let all = are_turns x most (round x.script) w v a b t in
    record {
      scheduled = r.scheduled;
      schedule = r.schedule;
      rounds = so_far_push x n r.scheduled w v r.rounds some all;
      opened = turns_open x (round x.script) w v all r.opened;
    }

-- where all have ended these are all rounds
pub run_is : (x : Course) (n : ℕ) (first w : World) → RunSoFar x n first w → AllEnded x.script w → (run : IsRunFrom x first w) × (n ≡ run.count)
run_is x n first w r e = (record { scheduled = r.scheduled; schedule = r.schedule; count = n; rounds = so_far_end x n r.scheduled w r.rounds e }, refl)

-- what a thing becomes by turns: by one more, and by some more
pub takings_push : {M : Type 0} (takes : ℕ → M → M → Type 0) (cs : List ℕ) (who : ℕ) (a b c : M) → Takings takes cs a b → takes who b c → Takings takes (cs ++ who ∷ []) a c
takings_push takes [] who a b c h t = (c, subst (λ k. takes who k c) h t, refl)
takings_push takes (d ∷ ds) who a b c h t = (h.0, h.1, takings_push takes ds who h.0 b c h.2 t)

pub takings_join : {M : Type 0} (takes : ℕ → M → M → Type 0) (cs ds : List ℕ) (a b c : M) → Takings takes cs a b → Takings takes ds b c → Takings takes (cs ++ ds) a c
takings_join takes [] ds a b c h t = subst (λ k. Takings takes ds k c) h t
takings_join takes (e ∷ es) ds a b c h t = (h.0, h.1, takings_join takes es ds h.0 b c h.2 t)

-- the same course and bound under other names
pub turn_as : (y x : Course) (n m who : ℕ) (u v : World) (l b : ℕ) (turned : Turned) → y ≡ x → n ≡ m → Turn y who u v turned → IsProgress n turned l b
    → Turn x who u v turned × IsProgress m turned l b
turn_as y x n m who u v l b turned p q t w = (subst (λ (k : Course). Turn k who u v turned) p t, subst (λ (k : ℕ). IsProgress k turned l b) q w)

pub round_as : (y x : Course) (n m : ℕ) (u v : World) (l b : ℕ) → y ≡ x → n ≡ m → TurnsWork y n (round y.script) u v l b → TurnsWork x m (round x.script) u v l b
round_as y x n m u v l b p q t =
    subst (λ (k : Course). TurnsWork k m (round k.script) u v l b) p (subst (λ (k : ℕ). TurnsWork y k (round y.script) u v l b) q t)
