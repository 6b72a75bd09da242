-- Lines that are moved out of a scenario, caller by caller, and the jobs that they become.
use Rattle.std.proofs.Common.{◌≡◌, ◌⊎◌, inl, inr, ℕ, zero, suc, ◌+◌, ◌-◌, ◌<◌, ◌≤◌, Bool, cond, List, [], ◌∷◌, ◌++◌, length, Result, Ok, Err, Some, refl, sym, ap, ◌∙◌, subst, arith}
use Rattle.std.specs.Prelude.{IfOk, nat_lt, slice_get, slice_index_or}
use Rattle.std.proofs.lemmas.List.{length-append}
use Rattle.cod_types.specs.Limits.{Shape}
use Rattle.cod_script.specs.declared.line.Line.{Line}
use Rattle.cod_script.specs.Owed.{has_fail}
use Rattle.cod_script.specs.Script.{Client, Script, clients_without, lines_by, nobody, without_lines}
use Rattle.cod_script.proofs.Emptied.{same_count}
use Rattle.cod_shell.specs.Lines.{PrintsAs}
use Rattle.cod_run.specs.Jobs.{AreJobs, IsBareSoFar, care_lines, jobs_of, lines_due, lines_owed}
use Rattle.cod_run.specs.declared.job.Job.{Job}

-- ---- the scenario

still_named : (cs : List Client) (who c : ℕ) → (slice_index_or (clients_without cs who) c nobody).name ≡ (slice_index_or cs c nobody).name
still_named [] who c = refl
still_named (k ∷ cs) zero zero = refl
still_named (k ∷ cs) zero (suc c) = refl
still_named (k ∷ cs) (suc who) zero = refl
still_named (k ∷ cs) (suc who) (suc c) = still_named cs who c

still_lines : (cs : List Client) (who c : ℕ) → who < c → (slice_index_or (clients_without cs who) c nobody).lines ≡ (slice_index_or cs c nobody).lines
still_lines [] who c lt = refl
still_lines (k ∷ cs) zero zero lt = absurd (omega arith)
still_lines (k ∷ cs) zero (suc c) lt = refl
still_lines (k ∷ cs) (suc who) zero lt = absurd (omega arith)
still_lines (k ∷ cs) (suc who) (suc c) lt = still_lines cs who c (omega arith)

-- where there is no such client, nothing is moved out
none_without : (cs : List Client) (who : ℕ) → length cs ≤ who → clients_without cs who ≡ cs
none_without [] who ge = refl
none_without (k ∷ cs) zero ge = absurd (omega arith)
none_without (k ∷ cs) (suc who) ge = ap (λ (l : List Client). k ∷ l) (none_without cs who (omega arith))

pub no_client : (x : Script) (who : ℕ) → length x.clients ≤ who → x ≡ without_lines x who
no_client x who ge = ap (λ (l : List Client). record x { clients = l }) (sym (none_without x.clients who ge))

pub bare_none : (x : Script) → IsBareSoFar x x 0
bare_none x = record { same = refl; size = refl; names = λ c. refl; left = λ c ge. refl }

pub bare_more : (whole now later : Script) (count : ℕ) → IsBareSoFar whole now count → later ≡ without_lines now count → IsBareSoFar whole later (count + 1)
bare_more whole now later count b is =
    subst (λ (y : Script). IsBareSoFar whole y (count + 1)) (sym is) (
    record {
      same = ap (λ (y : Script). record y { clients = clients_without now.clients count }) b.same;
      size = same_count now.clients count ∙ b.size;
      names = λ c. still_named now.clients count c ∙ b.names c;
      left = λ c ge. still_lines now.clients count c (omega arith) ∙ b.left c (omega arith);
    }
    )

pub prints_as : (whole now : Script) (count : ℕ) → IsBareSoFar whole now count → PrintsAs whole now
prints_as whole now count b = record { same = b.same; count = b.size; names = b.names }

-- ---- the jobs

-- what is due of a scenario whose lines are moved out so far is due of the whole one
due_same : (whole now : Script) (repair : Bool) (count : ℕ) → IsBareSoFar whole now count → lines_due now repair count ≡ lines_due whole repair count
due_same whole now repair count b =
    let rest : Script → List Line = λ y. care_lines (count - length whole.clients) y.workers (length y.segments) repair y.rounds in
    ap (λ (n : ℕ). cond (nat_lt count n) (lines_by now count) (care_lines (count - n) now.workers (length now.segments) repair now.rounds)) b.size
    ∙ ap (λ (l : List Line). cond (nat_lt count (length whole.clients)) l (rest now)) (b.left count (omega arith))
    ∙ ap (λ (y : Script). cond (nat_lt count (length whole.clients)) (lines_by whole count) (rest y)) b.same

pub jobs_none : (x : Script) → AreJobs x 0 []
jobs_none x = record { size = refl; each = λ c jobs is. cc }

-- the last of a list, or one before it
get_last : {X : Type 0} (xs : List X) (x y : X) (i : ℕ) → slice_get (xs ++ x ∷ []) i ≡ Some y → (slice_get xs i ≡ Some y) ⊎ ((i ≡ length xs) × (y ≡ x))
get_last [] x y zero is = inr (refl, cc)
get_last [] x y (suc i) is = cc
get_last (z ∷ zs) x y zero is = inl is
get_last (z ∷ zs) x y (suc i) is = elim (get_last zs x y i is) [ inl before ↦ inl before | inr last ↦ inr (ap suc last.0, last.1) ]

pub jobs_more : (whole now : Script) (count : ℕ) (all : List (List Job)) (jobs : List Job) → AreJobs whole count all → IsBareSoFar whole now count
    → jobs ≡ jobs_of now.shape (lines_due now (has_fail whole) count) → AreJobs whole (count + 1) (all ++ jobs ∷ [])
jobs_more whole now count all jobs are b is =
    let here : jobs ≡ jobs_of whole.shape (lines_owed whole count) =
    is ∙ ap (λ (g : Shape). jobs_of g (lines_due now (has_fail whole) count)) (ap (λ (y : Script). y.shape) b.same)
    ∙ ap (λ (l : List Line). jobs_of whole.shape l) (due_same whole now (has_fail whole) count b) in
    record {
      size = omega (arith, length-append all (jobs ∷ []), are.size);
      each = λ c these at. elim (get_last all jobs these c at) [
        | inl before ↦ are.each c these before
        | inr last ↦ last.1 ∙ here ∙ ap (λ (i : ℕ). jobs_of whole.shape (lines_owed whole i)) (sym are.size ∙ sym last.0)
      ];
    }

-- what doesn't hang on the value
pub if_ok_const : {T E : Type 0} (r : Result T E) (P : Type 0) → P → IfOk r (λ (x : T). P)
if_ok_const (Ok x) P p = p
if_ok_const (Err e) P p = tt
