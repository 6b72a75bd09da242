-- All callers' work together.
use Rattle.std.proofs.Common.{◌≡◌, inl, inr, ℕ, zero, suc, ◌+◌, ◌-◌, ◌<◌, false, List, [], ◌∷◌, ◌++◌, length, map, take, drop, Some, refl, sym, ap, ◌∙◌, subst, append-nil, arith}
use Rattle.std.specs.Prelude.{slice_get, slice_index_or}
use Rattle.std.proofs.lemmas.Bool.{cases_lt}
use Rattle.std.proofs.lemmas.List.{length-append, length-map}
use Rattle.cod_script.specs.declared.line.Line.{Line}
use Rattle.cod_script.specs.Owed.{has_fail, owed_with_care}
use Rattle.cod_script.specs.Script.{Script}
use Rattle.cod_seg.specs.Next.{open_in}
use Rattle.cod_seg.specs.Seg.{Seg}
use Rattle.cod_turn.specs.Seats.{Seated}
use Rattle.cod_accounts.specs.Closing.{Fulfils}
use Rattle.cod_accounts.specs.Working.{Worked}
use Rattle.cod_accounts.proofs.Owing.{client_fulfils, worker_fulfils}
use Rattle.cod_accounts.proofs.Works.{new_has_worked}
use Rattle.cod_closing.specs.Closing.{log_of}
use Rattle.cod_pass.specs.States.{Common, course_on, IsCommonOf, IsPassOf, known_by, PassState, RestState}
use Rattle.cod_run.specs.Jobs.{care_lines, lines_owed}
use Rattle.cod_run.specs.Shifts.{CanWork, HasDone, IsStart, IsWorked}
use Rattle.cod_run.specs.declared.job.Job.{Job}
use Rattle.cod_run.proofs.Dues.{care_asks, care_fails_none, of_client, of_worker, owed_can, owed_few}

-- ---- places of lists

pub get_below : {X : Type 0} (xs : List X) (i : ℕ) → i < length xs → (y : X) × (slice_get xs i ≡ Some y)
get_below [] i lt = absurd (omega arith)
get_below (x ∷ xs) zero lt = (x, refl)
get_below (x ∷ xs) (suc i) lt = get_below xs i (omega arith)

pub get_here : {X : Type 0} (xs : List X) (i : ℕ) (d : X) → i < length xs → slice_get xs i ≡ Some (slice_index_or xs i d)
get_here [] i d lt = absurd (omega arith)
get_here (x ∷ xs) zero d lt = refl
get_here (x ∷ xs) (suc i) d lt = get_here xs i d (omega arith)

pub get_map : {X Y : Type 0} (f : X → Y) (xs : List X) (i : ℕ) (d : X) → i < length xs → slice_get (map f xs) i ≡ Some (f (slice_index_or xs i d))
get_map f [] i d lt = absurd (omega arith)
get_map f (x ∷ xs) zero d lt = refl
get_map f (x ∷ xs) (suc i) d lt = get_map f xs i d (omega arith)

-- what a slice of a whole vector leaves there
pub take_over : {X : Type 0} (len : ℕ) (xs ys : List X) → length xs ≡ length ys → len ≡ length ys → take len (xs ++ drop (length xs) ys) ≡ xs
take_over zero [] [] same is = refl
take_over (suc n) [] [] same is = absurd (omega (arith, is))
take_over len [] (y ∷ ys) same is = absurd (omega (arith, same))
take_over len (x ∷ xs) [] same is = absurd (omega (arith, same))
take_over zero (x ∷ xs) (y ∷ ys) same is = absurd (omega (arith, is))
take_over (suc n) (x ∷ xs) (y ∷ ys) same is = ap (λ (l : List _). x ∷ l) (take_over n xs ys (omega (arith, same)) (omega (arith, is)))

-- of which value a mapped one is
pub record Mapped {X Y : Type 0} (f : X → Y) (xs : List X) (i : ℕ) (y : Y) : Type 0 where
  pub value : X
  pub inside : i < length xs
  pub gets : slice_get xs i ≡ Some value
  pub is : f value ≡ y
  pub here : (d : X) → slice_index_or xs i d ≡ value

pub get_mapped : {X Y : Type 0} (f : X → Y) (xs : List X) (i : ℕ) (y : Y) → slice_get (map f xs) i ≡ Some y → Mapped f xs i y
get_mapped f [] i y is = absurd (cc is)
get_mapped f (x ∷ xs) zero y is = record { value = x; inside = omega arith; gets = refl; is = cc; here = λ d. refl }
get_mapped f (x ∷ xs) (suc i) y is =
    let m = get_mapped f xs i y is in
    record { value = m.value; inside = (let lt = m.inside in omega (arith, lt)); gets = m.gets; is = m.is; here = m.here }

-- ---- before the work

module _ {S : Type 0} (pass : S → PassState) (jobs : S → List Job) (x : Script) (k : Common) (rest : RestState) where
  pub start_as : (a b : List S) → a ≡ b → IsStart x k rest (map pass b) (map jobs b) → IsStart x k rest (map pass a) (map jobs a)
  start_as a b same is = subst (λ (l : List S). IsStart x k rest (map pass l) (map jobs l)) (sym same) is

  pub worked_over : (len : ℕ) (a b : List S) → length a ≡ length b → len ≡ length b → IsWorked x k rest (map pass a)
      → IsWorked x k rest (map pass (take len (a ++ drop (length a) b)))
  worked_over len a b same is w = subst (λ (l : List S). IsWorked x k rest (map pass l)) (sym (take_over len a b same is)) w

  -- each caller's jobs can be done by its pass
  pub can_work : (shifts : List S) → IsStart x k rest (map pass shifts) (map jobs shifts) → (i : ℕ) (d : S) → i < length shifts
      → (w : CanWork x k (pass (slice_index_or shifts i d)) (jobs (slice_index_or shifts i d))) × (w.lines ≡ lines_owed x i)
  can_work shifts r i d lt =
      let p = pass (slice_index_or shifts i d) in
      let at = get_map pass shifts i d lt in
      let due = r.due.each i (jobs (slice_index_or shifts i d)) (get_map jobs shifts i d lt) in (
        record {
          common = r.opened.shared;
          pass = r.opened.passes_are i p at;
          lines = lines_owed x i;
          jobs_are = due;
          can = owed_can x r.scenario i;
          few = (let few = owed_few x r.scenario i in let none = (r.opened.new i p at).number in omega (arith, few, none));
        },
        refl,
      )

  -- so can each caller's
  pub all_can : (shifts : List S) → IsStart x k rest (map pass shifts) (map jobs shifts) → (i : ℕ) (d : S) → i < length shifts
      → (y : Script) × CanWork y k (pass (slice_index_or shifts i d)) (jobs (slice_index_or shifts i d))
  all_can shifts r i d lt = (x, (can_work shifts r i d lt).0)

  -- ---- after it

  -- what a shift's work has come to
  abbrev pub HasWorked : (s t : S) → Type 0
  HasWorked s t = (y : Script) (w : CanWork y k (pass s) (jobs s)) → HasDone y k (pass s) (pass t) w.lines

  -- the pass of a caller that did what it owes
  fulfils_owed : (c : ℕ) (p : PassState) → IsCommonOf x k → IsPassOf x k p → c < length x.clients + x.workers → p.caller ≡ c
      → Worked log_of open_in (course_on x k.regions) false (known_by p) (lines_owed x c)
      → Fulfils log_of open_in (course_on x k.regions) (owed_with_care x) c (known_by p)
  fulfils_owed c p cluster is there own worked =
      let course = course_on x k.regions in
      let seats : length (map (λ (s : Seated Seg). s.knows) p.seats) ≡ length x.segments = length-map p.seats (λ (s : Seated Seg). s.knows) ∙ is.count ∙ cluster.turns in
      elim (cases_lt c (length x.clients)) [
        | inl lt ↦
            client_fulfils log_of open_in course c (known_by p) lt own seats
            (subst (λ (l : List Line). Worked log_of open_in course false (known_by p) l) (of_client x (has_fail x) c lt) worked)
        | inr ge ↦ (
            let worker = c - length x.clients in
            let same : length x.clients + worker ≡ c = omega arith in
            let lines = care_lines worker x.workers (length x.segments) (has_fail x) x.rounds in
            subst (λ (n : ℕ). Fulfils log_of open_in course (owed_with_care x) n (known_by p)) same
            (worker_fulfils log_of open_in course worker (known_by p) lines (omega arith) (own ∙ sym same) seats
            (care_asks worker x.workers (length x.segments) (has_fail x) x.rounds) (care_fails_none worker x.workers (length x.segments) (has_fail x) x.rounds)
            (subst (λ (l : List Line). Worked log_of open_in course false (known_by p) l) (of_worker x (has_fail x) c ge) worked))
            )
      ]

  -- one caller has done what it owes
  caller_fulfils : (shifts done : List S) → IsStart x k rest (map pass shifts) (map jobs shifts) → length done ≡ length shifts
      → ((i : ℕ) (d : S) → i < length shifts → HasWorked (slice_index_or shifts i d) (slice_index_or done i d))
      → (c : ℕ) (p : PassState) → slice_get (map pass done) c ≡ Some p
      → IsPassOf x k p × Fulfils log_of open_in (course_on x k.regions) (owed_with_care x) c (known_by p)
  caller_fulfils shifts done r same worked c p at =
      let course = course_on x k.regions in
      let m = get_mapped pass done c p at in
      let inside : c < length shifts = (let a = m.inside in omega (arith, a, same)) in
      let s = slice_index_or shifts c m.value in
      let at_first = get_map pass shifts c m.value inside in
      let w = can_work shifts r c m.value inside in
      let did : HasDone x k (pass s) (pass (slice_index_or done c m.value)) w.0.lines = worked c m.value inside x w.0 in
      let left : pass (slice_index_or done c m.value) ≡ p = ap pass (m.here m.value) ∙ m.is in
      let has : HasDone x k (pass s) p w.0.lines = subst (λ (q : PassState). HasDone x k (pass s) q w.0.lines) left did in
      let traced : Worked log_of open_in course false (known_by p) w.0.lines = has.worked [] (new_has_worked log_of open_in course (known_by (pass s)) (r.opened.new c (pass s) at_first)) in
      let size = r.opened.count in
      let there : c < length x.clients + x.workers = (let n = length-map shifts pass in omega (arith, inside, size, n)) in (
        has.pass,
        fulfils_owed c p r.opened.shared has.pass there (has.caller ∙ r.opened.callers_are c (pass s) at_first) (subst (λ (l : List Line). Worked log_of open_in course false (known_by p) l) w.1 traced),
      )

  -- all have
  pub all_worked : (shifts done : List S) → IsStart x k rest (map pass shifts) (map jobs shifts) → length done ≡ length shifts
      → ((i : ℕ) (d : S) → i < length shifts → HasWorked (slice_index_or shifts i d) (slice_index_or done i d)) → IsWorked x k rest (map pass done)
  all_worked shifts done r same worked = record {
    scenario = r.scenario;
    common = r.opened.shared;
    first = r.opened.rest;
    count = (let a = length-map done pass in let b = length-map shifts pass in omega (arith, a, b, same, r.opened.count));
    each = λ c p at. caller_fulfils shifts done r same worked c p at;
  }

-- where each of so many passes got its jobs, all jobs were given out
pub all_given : {S Y X : Type 0} (pass : S → X) (jobs : S → Y) (shifts : List S) (passes : List X) (all left : List Y) → map pass shifts ≡ passes → all ≡ map jobs shifts ++ left
    → length passes ≡ length all → map jobs shifts ≡ all
all_given pass jobs shifts passes all [] first both same = sym (append-nil (map jobs shifts)) ∙ sym both
all_given pass jobs shifts passes all (l ∷ ls) first both same = absurd (
    let a = length-map shifts pass in
    let b = length-map shifts jobs in
    let c = ap length first in
    let d = ap length both in
    let e = length-append (map jobs shifts) (l ∷ ls) in
    omega (arith, a, b, c, d, e, same)
    )

-- ---- through a reference

-- what can be worked with a value can be with the same value, seen through a reference
pub can_seen : {S : Type 0} (pass : S → PassState) (jobs : S → List Job) (k : Common) (a s : S) → a ≡ s → (x : Script) × CanWork x k (pass s) (jobs s)
    → (x : Script) × CanWork x k (pass a) (jobs a)
can_seen pass jobs k a s same can = subst (λ t. (x : Script) × CanWork x k (pass t) (jobs t)) (sym same) can

-- and what was worked with it was with the value
pub worked_seen : {S : Type 0} (pass : S → PassState) (jobs : S → List Job) (k : Common) (a b s t : S) → a ≡ s → b ≡ t
    → ((x : Script) (w : CanWork x k (pass a) (jobs a)) → HasDone x k (pass a) (pass b) w.lines)
    → (x : Script) (w : CanWork x k (pass s) (jobs s)) → HasDone x k (pass s) (pass t) w.lines
worked_seen pass jobs k a b s t before after worked =
    let then_ : (x : Script) (w : CanWork x k (pass s) (jobs s)) → HasDone x k (pass s) (pass b) w.lines =
    subst (λ u. (x : Script) (w : CanWork x k (pass u) (jobs u)) → HasDone x k (pass u) (pass b) w.lines) before worked in
    subst (λ u. (x : Script) (w : CanWork x k (pass s) (jobs s)) → HasDone x k (pass s) (pass u) w.lines) after then_
