-- New clients, one after another, and the lines that are moved out.
use Rattle.std.proofs.Common.{◌≡◌, ◌≢◌, inl, inr, ℕ, zero, suc, ◌+◌, ◌-◌, ◌<◌, ◌≤◌, List, [], ◌∷◌, ◌++◌, length, get_or, refl, sym, ap, ◌∙◌, subst, length-append, arith}
use Rattle.std.proofs.Math.Seq.{get_or-append_seam}
use Rattle.std.proofs.lemmas.Bool.{cases_eq, cases_lt}
use Rattle.std.proofs.lemmas.List.{get_or_append_left, get_or_past}
use Rattle.cod_script.specs.Script.{Client, clients_without, lines_by, nobody, Script, without_lines}
use Rattle.cod_script.proofs.Emptied.{same_count}
use Rattle.cod_replay.specs.Building.{ArePlays, IsBareSoFar, new_play}
use Rattle.cod_replay.specs.Standing.{IsBareOf}
use Rattle.cod_replay.specs.State.{nobody as nobody_plays, play_at}
use Rattle.cod_replay.specs.Tasks.{Play}

-- ---- clients, one after another

other_client : (cs : List Client) (who c : ℕ) → c ≢ who → get_or (clients_without cs who) c nobody ≡ get_or cs c nobody
other_client [] who c diff = refl
other_client (x ∷ xs) zero zero diff = absurd (diff refl)
other_client (x ∷ xs) zero (suc c) diff = refl
other_client (x ∷ xs) (suc who) zero diff = refl
other_client (x ∷ xs) (suc who) (suc c) diff = other_client xs who c (λ e. diff (ap suc e))

same_name : (cs : List Client) (who c : ℕ) → (get_or (clients_without cs who) c nobody).name ≡ (get_or cs c nobody).name
same_name [] who c = refl
same_name (x ∷ xs) zero zero = refl
same_name (x ∷ xs) zero (suc c) = refl
same_name (x ∷ xs) (suc who) zero = refl
same_name (x ∷ xs) (suc who) (suc c) = same_name xs who c

no_lines : (cs : List Client) (who : ℕ) → (get_or (clients_without cs who) who nobody).lines ≡ []
no_lines [] who = refl
no_lines (x ∷ xs) zero = refl
no_lines (x ∷ xs) (suc who) = no_lines xs who

pub bare_none : (x : Script) → IsBareSoFar x x 0
bare_none x = record { same = refl; size = refl; names = λ c. refl; gone = λ c small. absurd (omega (arith, small)); left = λ c big. refl }

pub bare_more : (whole now later : Script) (count : ℕ) → IsBareSoFar whole now count → later ≡ without_lines now count → IsBareSoFar whole later (count + 1)
bare_more whole now later count bare is = subst (λ (x : Script). IsBareSoFar whole x (count + 1)) (sym is) (record {
  same = ap (λ (x : Script). without_lines x count) bare.same;
  size = same_count now.clients count ∙ bare.size;
  names = λ c. same_name now.clients count c ∙ bare.names c;
  gone = λ c small. elim (cases_eq c count) [
    | inl same ↦ ap (λ (k : ℕ). lines_by (without_lines now count) k) same ∙ no_lines now.clients count
    | inr diff ↦ ap (λ (x : Client). x.lines) (other_client now.clients count c diff) ∙ bare.gone c (omega (arith, small, diff))
  ];
  left = λ c big. ap (λ (x : Client). x.lines) (other_client now.clients count c (λ e. omega (arith, big, e))) ∙ bare.left c (omega (arith, big));
})

pub plays_none : (x : Script) → ArePlays x 0 []
plays_none x = record { size = refl; each = λ i small. absurd (omega (arith, small)) }

pub plays_more : (x : Script) (count : ℕ) (plays : List Play) (p : Play) → ArePlays x count plays → p ≡ new_play x count → ArePlays x (count + 1) (plays ++ p ∷ [])
plays_more x count plays p are is = record {
  size = (let l = length-append plays (p ∷ []) in let z = are.size in omega (arith, l, z));
  each = λ i small. elim (cases_eq i count) [
    | inl same ↦ ap (play_at (plays ++ p ∷ [])) same ∙ subst (λ (j : ℕ). play_at (plays ++ p ∷ []) j ≡ p) are.size (get_or-append_seam plays p [] nobody_plays) ∙ is
        ∙ ap (new_play x) (sym same)
    | inr diff ↦ (let lower : i < count = omega (arith, small, diff) in let z = are.size in
        get_or_append_left plays (p ∷ []) nobody_plays i (omega (arith, lower, z)) ∙ are.each i lower)
  ];
}

-- all lines were moved out
pub bare_all : (whole now : Script) (count : ℕ) → IsBareSoFar whole now count → length whole.clients ≤ count → IsBareOf whole now
bare_all whole now count bare all = record {
  same = bare.same;
  count = bare.size;
  names = bare.names;
  lines = λ c. elim (cases_lt c count) [
    | inl done ↦ bare.gone c done
    | inr past ↦ (let z = bare.size in ap (λ (x : Client). x.lines) (get_or_past now.clients c nobody (omega (arith, all, past, z))))
  ];
}
