-- The lines of callers: what they ask, and that they can be done.
use Rattle.std.proofs.Common.{◌≡◌, inl, inr, ℕ, zero, suc, ◌+◌, ◌-◌, ◌%◌, ◌<◌, ◌≤◌, ◌^◌, Bool, true, false, cond, List, [], ◌∷◌, ◌++◌, length, map, refl, sym, ap, ◌∙◌, subst, arith}
use Rattle.std.specs.Prelude.{slice_index_or, ◌==◌, ◌&&◌, ◌||◌}
use Rattle.std.specs.List.{All, AllByRecursion, list_any, range_with_len}
use Rattle.std.proofs.lemmas.Bool.{cases_lt, lt-ltb, le-ltb}
use Rattle.std.proofs.lemmas.List.{length-map, map-append}
use Rattle.std.proofs.lemmas.List.FromFn.{length-range_with_len}
use Rattle.std.proofs.lemmas.List.Sums.{get_or-le-sum_by}
use Rattle.cod_types.specs.Limits.{Shape}
use Rattle.cod_types.specs.declared.call.Call.{Call}
use Rattle.cod_types.specs.declared.call.Call.TheVariants.{Read, Write, Swap, Put, Merge, Tick, Rebuild, Upgrade, Drain}
use Rattle.cod_script.specs.declared.line.Line.{Line}
use Rattle.cod_script.specs.declared.line.What.{What}
use Rattle.cod_script.specs.declared.line.What.TheVariants as what
use Rattle.cod_script.specs.Owed.{care_ask, has_fail, is_fail}
use Rattle.cod_script.specs.Script.{Ask, Client, Script, asks, lines_by, nobody}
use Rattle.cod_script.specs.Sound.{IsDated, IsDatedCall, IsLine, IsScenario, IsThere}
use Rattle.cod_accounts.specs.Closing.{HasNoFail}
use Rattle.cod_turns.proofs.Running.{fewer_asks}
use Rattle.cod_shell.proofs.Texts.{range_split}
use Rattle.cod_run.specs.Jobs.{AreDated, CanDo, CanDoWhat, IsDatedLine, IsDatedWhat, care_lines, job_of, jobs_of, line_for, lines_due, lines_owed}
use Rattle.cod_run.specs.declared.job.Job.{Job}

-- ---- a client's lines

dated_call : (version : ℕ) (call : Call) → IsDatedCall version call → call ≡ Upgrade → version ≡ 2
dated_call version Upgrade dated is = dated
dated_call version (Read off len) dated is = cc
dated_call version (Write off bytes) dated is = cc
dated_call version (Swap off before after) dated is = cc
dated_call version (Put bytes) dated is = cc
dated_call version Merge dated is = cc
dated_call version Tick dated is = cc
dated_call version Rebuild dated is = cc
dated_call version (Drain node) dated is = cc

dated_what : (g : Shape) (w : What) → IsDated g.version w → IsDatedWhat g w
dated_what g (what.Segment seg call) dated = dated_call g.version call dated
dated_what g (what.Fail node) dated = tt

what_can : (x : Script) (line : ℕ) (w : What) → 1 ≤ line → IsThere x.nodes (length x.segments) w → IsDated x.shape.version w → CanDoWhat x line w
what_can x line (what.Segment seg call) some there dated = (there.0, dated_call x.shape.version call dated)
what_can x line (what.Fail node) some there dated = (there, some)

lines_can : (x : Script) (ls : List Line) → All (IsLine x.nodes (length x.segments)) ls → All (λ (l : Line). IsDated x.shape.version l.what) ls → AllByRecursion (CanDo x) ls
lines_can x [] are dated = tt
lines_can x (l ∷ ls) are dated = (
  what_can x l.line l.what (are 0 l (omega arith)).0 (are 0 l (omega arith)).1 (dated 0 l (omega arith)),
  lines_can x ls (λ k d lt. are (suc k) d (omega (arith, lt))) (λ k d lt. dated (suc k) d (omega (arith, lt))),
)

lines_dated : (g : Shape) (ls : List Line) → All (λ (l : Line). IsDated g.version l.what) ls → AreDated g ls
lines_dated g ls dated k d lt = dated_what g _ (dated k d lt)

-- in a scenario each client's lines are dated
pub client_dated : (x : Script) → IsScenario x → (c : ℕ) → c < length x.clients → AreDated x.shape (lines_by x c)
client_dated x s c lt = lines_dated x.shape (lines_by x c) (s.dated c nobody lt)

-- ---- a care worker's lines

no_upgrade : (o p : Bool) → cond o Merge (cond p Rebuild Tick) ≡ Upgrade → ⊥
no_upgrade true p e = cc
no_upgrade false true e = cc
no_upgrade false false e = cc

-- the call of a round is no upgrade
care_dated : (g : Shape) (worker workers segments : ℕ) (repair : Bool) (round : ℕ) → IsDatedLine g (line_for (care_ask worker workers segments repair round))
care_dated g worker workers segments repair round is = absurd (no_upgrade (round % 2 == 0) (repair && round % 4 == 3) is)

care_can : (x : Script) (worker : ℕ) (repair : Bool) → 1 ≤ length x.segments → (rounds : List ℕ)
    → AllByRecursion (CanDo x) (map (λ round. line_for (care_ask worker x.workers (length x.segments) repair round)) rounds)
care_can x worker repair some [] = tt
care_can x worker repair some (r ∷ rs) =
    ((omega (arith, some), care_dated x.shape worker x.workers (length x.segments) repair r), care_can x worker repair some rs)

asks_care : (worker workers segments : ℕ) (repair : Bool) (rounds : List ℕ)
    → asks (map (λ round. line_for (care_ask worker workers segments repair round)) rounds) ≡ map (care_ask worker workers segments repair) rounds
asks_care worker workers segments repair [] = refl
asks_care worker workers segments repair (r ∷ rs) = ap (λ (l : List Ask). care_ask worker workers segments repair r ∷ l) (asks_care worker workers segments repair rs)

no_fail : (worker workers segments : ℕ) (repair : Bool) (rounds : List ℕ) → HasNoFail (map (λ round. line_for (care_ask worker workers segments repair round)) rounds)
no_fail worker workers segments repair [] = tt
no_fail worker workers segments repair (r ∷ rs) = (refl, no_fail worker workers segments repair rs)

-- a care worker fails no node, and asks what it owes
pub care_fails_none : (worker workers segments : ℕ) (repair : Bool) (rounds : ℕ) → HasNoFail (care_lines worker workers segments repair rounds)
care_fails_none worker workers segments repair rounds = no_fail worker workers segments repair (range_with_len 0 rounds)

pub care_asks : (worker workers segments : ℕ) (repair : Bool) (rounds : ℕ)
    → asks (care_lines worker workers segments repair rounds) ≡ map (care_ask worker workers segments repair) (range_with_len 0 rounds)
care_asks worker workers segments repair rounds = asks_care worker workers segments repair (range_with_len 0 rounds)

-- ---- either's

pub of_client : (x : Script) (repair : Bool) (c : ℕ) → c < length x.clients → lines_due x repair c ≡ lines_by x c
of_client x repair c lt =
    ap (λ (o : Bool). cond o (lines_by x c) (care_lines (c - length x.clients) x.workers (length x.segments) repair x.rounds)) (lt-ltb c (length x.clients) lt)

pub of_worker : (x : Script) (repair : Bool) (c : ℕ) → length x.clients ≤ c → lines_due x repair c ≡ care_lines (c - length x.clients) x.workers (length x.segments) repair x.rounds
of_worker x repair c ge =
    ap (λ (o : Bool). cond o (lines_by x c) (care_lines (c - length x.clients) x.workers (length x.segments) repair x.rounds)) (le-ltb c (length x.clients) ge)

-- all lines of a caller can be done
pub owed_can : (x : Script) → IsScenario x → (c : ℕ) → AllByRecursion (CanDo x) (lines_owed x c)
owed_can x s c = elim (cases_lt c (length x.clients)) [
  | inl lt ↦ subst (λ (l : List Line). AllByRecursion (CanDo x) l) (sym (of_client x (has_fail x) c lt))
      (lines_can x (lines_by x c) (s.clients c nobody lt).1 (s.dated c nobody lt))
  | inr ge ↦ subst (λ (l : List Line). AllByRecursion (CanDo x) l) (sym (of_worker x (has_fail x) c ge))
      (care_can x (c - length x.clients) (has_fail x) s.some_segments (range_with_len 0 x.rounds))
]

-- and they ask for fewer than 2^32 calls
pub owed_few : (x : Script) → IsScenario x → (c : ℕ) → length (asks (lines_owed x c)) < 2 ^ 32
owed_few x s c = elim (cases_lt c (length x.clients)) [
  | inl lt ↦ (
      let is = ap (λ (l : List Line). length (asks l)) (of_client x (has_fail x) c lt) in
      let few = fewer_asks (lines_by x c) in
      let one = get_or-le-sum_by (λ (k : Client). length k.lines) x.clients c nobody lt in
      omega (arith, is, few, one, s.few_lines)
      )
  | inr ge ↦ (
      let is = ap (λ (l : List Line). length (asks l)) (of_worker x (has_fail x) c ge) in
      let same = ap (λ (l : List Ask). length l) (care_asks (c - length x.clients) x.workers (length x.segments) (has_fail x) x.rounds) in
      let size = length-map (range_with_len 0 x.rounds) (care_ask (c - length x.clients) x.workers (length x.segments) (has_fail x)) in
      let count = length-range_with_len 0 x.rounds in
      omega (arith, is, same, size, count, s.most_rounds)
      )
]

-- ---- what is due, job by job

-- one round more
pub care_more : (worker workers segments : ℕ) (repair : Bool) (rounds : ℕ)
    → care_lines worker workers segments repair (rounds + 1) ≡ care_lines worker workers segments repair rounds ++ line_for (care_ask worker workers segments repair rounds) ∷ []
care_more worker workers segments repair rounds =
    let f : ℕ → Line = λ round. line_for (care_ask worker workers segments repair round) in
    let z : 0 + rounds ≡ rounds = omega arith in
    ap (map f) (range_split 0 rounds 1) ∙ map-append f (range_with_len 0 rounds) (range_with_len (0 + rounds) 1)
    ∙ ap (λ (n : ℕ). map f (range_with_len 0 rounds) ++ f n ∷ []) z

pub jobs_and : (g : Shape) (lines : List Line) (line : Line) (jobs : List Job) (one : Job) → jobs ≡ jobs_of g lines → one ≡ job_of g line → jobs ++ one ∷ [] ≡ jobs_of g (lines ++ line ∷ [])
jobs_and g lines line jobs one are is =
    ap (λ (l : List Job). l ++ one ∷ []) are ∙ ap (λ (j : Job). jobs_of g lines ++ j ∷ []) is ∙ sym (map-append (job_of g) lines (line ∷ []))

-- ---- whether a line fails a node

pub none_fails : (cs : List Client) → ((c : ℕ) → c < length cs → list_any is_fail (slice_index_or cs c nobody).lines ≡ false) → list_any (λ (k : Client). list_any is_fail k.lines) cs ≡ false
none_fails [] none = refl
none_fails (k ∷ cs) none = rw (none 0 (omega arith)) (none_fails cs (λ c lt. none (suc c) (omega (arith, lt))))

pub one_fails : (cs : List Client) (c : ℕ) → c < length cs → list_any is_fail (slice_index_or cs c nobody).lines ≡ true → list_any (λ (k : Client). list_any is_fail k.lines) cs ≡ true
one_fails [] c lt some = absurd (omega arith)
one_fails (k ∷ cs) zero lt some = rw some refl
one_fails (k ∷ cs) (suc c) lt some = by (list_any is_fail k.lines) (one_fails cs c (omega arith) some) where
  by : (b : Bool) → list_any (λ (j : Client). list_any is_fail j.lines) cs ≡ true → (b || list_any (λ (j : Client). list_any is_fail j.lines) cs) ≡ true
  by true more = refl
  by false more = more

pub care_jobs : (g : Shape) (worker workers segments : ℕ) (repair : Bool) (round : ℕ) (list : List Job) (one : Job) (line : Line)
    → list ≡ jobs_of g (care_lines worker workers segments repair round) → line ≡ line_for (care_ask worker workers segments repair round) → one ≡ job_of g line
    → list ++ one ∷ [] ≡ jobs_of g (care_lines worker workers segments repair (round + 1))
care_jobs g worker workers segments repair round list one line are line_is is =
    jobs_and g (care_lines worker workers segments repair round) line list one are is
    ∙ ap (λ (l : Line). jobs_of g (care_lines worker workers segments repair round ++ l ∷ [])) line_is
    ∙ ap (jobs_of g) (sym (care_more worker workers segments repair round))
