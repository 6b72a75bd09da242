-- What a tick does.
use Rattle.std.proofs.Common.{◌≡◌, ℕ, ◌+◌, ◌≤◌, List, length, Result, Ok, Err, sym, ap, ap₂, ◌∙◌, subst, inl, inr, arith}
use Rattle.std.proofs.lemmas.Bool.{cases_lt}
use Rattle.std.specs.List.{filter, flat_map}
use Rattle.std.specs.Result.{MatchResult, OnOk}
use Rattle.cod_types.specs.Limits.{Shape}
use Rattle.cod_predict.specs.Average.{target_size}
use Rattle.cod_parity.specs.Log.{is_past, IsValue, Logged, text}
use Rattle.cod_parity.specs.State.{averaged, cut_to, Means, State}
use Rattle.cod_parity.specs.Calls.{FailsCut, FailsShrink, MergesIfDue, Shrinks}
use Rattle.cod_parity.proofs.Calling.{cut_none, cut_some}
use Rattle.cod_parity.proofs.Meaning.{cut_means}

cut_size : (s : State) (size : ℕ) → size ≤ s.size → (cut_to size s).size ≡ size
cut_size s size le = elim (cases_lt size s.size) [
  | inl less ↦ ap (λ (t : State). t.size) (cut_some s size less)
  | inr more ↦ ap (λ (t : State). t.size) (cut_none s size more) ∙ (omega arith)
]

-- the numbers of a tick's states, of which `mid` follows a merge, and the size that it cuts to
pub record Follows (old begun mid new : State) (size : ℕ) : Type 0 where
  pub begun_is : begun ≡ averaged begun.average old
  pub shape : mid.shape ≡ begun.shape
  pub same_size : mid.size ≡ begun.size
  pub average : mid.average ≡ begun.average
  pub kept : new.average ≡ mid.average
  pub target : size ≡ target_size mid.shape mid.size mid.average

begun_shape : (old begun mid new : State) (size : ℕ) → Follows old begun mid new size → mid.shape ≡ old.shape
begun_shape old begun mid new size f = f.shape ∙ ap (λ (s : State). s.shape) f.begun_is

begun_size : (old begun mid new : State) (size : ℕ) → Follows old begun mid new size → mid.size ≡ old.size
begun_size old begun mid new size f = f.same_size ∙ ap (λ (s : State). s.size) f.begun_is

-- the state that the tick began with, told by the average that it ends with
begun_as : (old begun mid new : State) (size : ℕ) → Follows old begun mid new size → begun ≡ averaged new.average old
begun_as old begun mid new size f = f.begun_is ∙ ap (λ (a : ℕ). averaged a old) (sym (f.kept ∙ f.average))

size_as : (old begun mid new : State) (size : ℕ) → Follows old begun mid new size → size ≡ target_size old.shape old.size new.average
size_as old begun mid new size f =
    f.target ∙ ap (λ (g : Shape). target_size g mid.size mid.average) (begun_shape old begun mid new size f)
    ∙ ap₂ (λ (n a : ℕ). target_size old.shape n a) (begun_size old begun mid new size f) (sym f.kept)

pub shrinks : {E : Type 0} (result : Result ℕ E) (cuts : List ℕ) (old begun mid new : State) (size : ℕ) → Follows old begun mid new size → MergesIfDue cuts begun mid
    → MatchResult result (λ cut. (cut + size ≡ mid.size) × (new ≡ cut_to size mid)) (λ _. FailsCut size mid new)
    → MatchResult result (λ cut. (cut + new.size ≡ old.size) × Shrinks cuts (target_size old.shape old.size new.average) (averaged new.average old) new)
    (λ _. FailsShrink cuts (target_size old.shape old.size new.average) (averaged new.average old) new)
shrinks (Ok n) cuts old begun mid new size f m done =
    let b = begun_as old begun mid new size f in
    let z = size_as old begun mid new size f in
    let long : new.size ≡ size = ap (λ (s : State). s.size) done.1 ∙ cut_size mid size (omega (arith, done.0)) in
    let was = begun_size old begun mid new size f in (
      omega (arith, long, was, done.0),
      subst (λ (s : State). Shrinks cuts (target_size old.shape old.size new.average) s new) b
          (subst (λ (k : ℕ). Shrinks cuts k begun new) z (record { middle = mid; merges = m; is = done.1 })),
    )
shrinks (Err e) cuts old begun mid new size f m done =
    let b = begun_as old begun mid new size f in
    let z = size_as old begun mid new size f in
    subst (λ (s : State). FailsShrink cuts (target_size old.shape old.size new.average) s new) b
    (subst (λ (k : ℕ). FailsShrink cuts k begun new) z (inr (record { middle = mid; merges = m; fails = done })))

pub averaged_means : (old begun : State) (base : List ℕ) (ls : List Logged) → begun ≡ averaged begun.average old → Means old base ls → Means begun base ls
averaged_means old begun base ls is means =
    subst (λ (s : State). Means s base ls) (sym is) (record { rest = means.rest; content = means.content; base_size = means.base_size; used = means.used; each = means.each; noted = means.noted })

-- what a merge has left means the same after the cut
pub shrunk_means : {E : Type 0} (result : Result ℕ E) (cuts : List ℕ) (old mid new : State) (size : ℕ) (base : List ℕ) (ls : List Logged)
    → MatchResult result (λ cut. (cut + size ≡ mid.size) × (new ≡ cut_to size mid)) (λ _. FailsCut size mid new)
    → length (flat_map text (filter (is_past cuts) ls)) ≤ size
    → ((next : List ℕ) × Means mid next (filter (is_past cuts) ls) × IsValue cuts base ls next)
    → OnOk result ((next : List ℕ) × Means new next (filter (is_past cuts) ls) × IsValue cuts base ls next)
shrunk_means (Ok n) cuts old mid new size base ls done room m =
    (m.0, subst (λ (s : State). Means s m.0 (filter (is_past cuts) ls)) (sym done.1) (cut_means mid size m.0 (filter (is_past cuts) ls) (omega (arith, m.1.used, room)) m.1), m.2)
shrunk_means (Err e) cuts old mid new size base ls done room m = tt
