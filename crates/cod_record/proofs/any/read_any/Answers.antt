use Rattle.std.proofs.Common.{◌≡◌, ◌∙◌, ◌==◌, true, ℕ, Result, Ok, Err, OnErr, length, take, drop, get_or, refl, sym, subst, arith, inl, inr}
use Rattle.cod_record.specs.Record.{IsRecord}
use Rattle.std.proofs.lemmas.Bool.Decides.{nat_tests}
use Rattle.cod_record.specs.Head.{head_record}
use Rattle.cod_record.specs.Reading.{IsFound}
use Rattle.cod_record.proofs.Reading_back.{found_only, numbers, only_from, version_first}
use Rattle.cod_record.proofs.any.read_any.Goals as goal
use Rattle.cod_record.proofs.any.read_any.Goals.{else-not-is_empty-via-then-not-is_empty+else-from-eq2, else-not-is_empty-via-else-not-is_empty}

empty : (n : ℕ) → true ≡ (n == 0) → n ≡ 0
empty n test = grind (arith, nat_tests)

on_err : {T E : Type 0} (r : Result T E) (P Q : Type 0) → (P → Q) → OnErr r P → OnErr r Q
on_err (Ok x) P Q f h = h
on_err (Err e) P Q f h = f h

pub returns-then-from-eq2-clause-none : goal.returns-then-from-eq2-clause-none
returns-then-from-eq2-clause-none c =
    on_err c.read_sparse.result _ _ (λ none version r n is.
    let two : version ≡ 2 = sym (version_first version n r c.args.from.now is) ∙ c.if-from-eq2.true in
    let P : ℕ → Type 0 = λ v. IsRecord v r (take n c.args.from.now) in
    none r n (subst P two is)) c.read_sparse.ensures.none

pub returns-in-Err-clause-none : goal.returns-in-Err-clause-none
returns-in-Err-clause-none c = λ version r n is. elim is.known [
  | inl one ↦
      let P : ℕ → Type 0 = λ v. IsRecord v r (take n c.args.from.now) in
      c.in-Err.ensures.none r n (subst P one is)
  | inr two ↦
      let P : ℕ → Type 0 = λ v. IsRecord v r (take n c.args.from.now) in
      let room = (numbers c.args.from.now r n (subst P two is)).room in
      let kind : get_or c.args.from.now 0 0 ≡ 2 = version_first version n r c.args.from.now is ∙ two in
      elim c.else-not-is_empty.branch [
        | else-not-is_empty-via-then-not-is_empty+else-from-eq2 w ↦ w.if-from-eq2.false kind
        | else-not-is_empty-via-else-not-is_empty w ↦ omega (arith, room, empty (length c.args.from.now) (w.if-not-is_empty.ensures))
      ]
]

pub returns-then-from-eq2-clause-only : goal.returns-then-from-eq2-clause-only
returns-then-from-eq2-clause-only c = only_from c.args.from.now c.read_sparse.result c.read_sparse.ensures.found (returns-then-from-eq2-clause-none c)

pub returns-in-Err-clause-only : goal.returns-in-Err-clause-only
returns-in-Err-clause-only c = λ version r n is. absurd (returns-in-Err-clause-none c version r n is)

pub returns-in-Ok-clause-only : goal.returns-in-Ok-clause-only
returns-in-Ok-clause-only c = λ version r n is.
    let from = c.args.from.now in
    let head = c.in-Ok.head in
    let found : IsFound (record { block = head.block; number = head.number; version = 1; ranges = 1 }) c.in-Ok.size from = record {
      version = 1;
      whole = head_record head (take head.len (drop 19 from));
      told = refl;
      within = c.in-Ok.ensures.size.1;
      is = c.in-Ok.ensures.found;
    } in
    let same = found_only (record { block = head.block; number = head.number; version = 1; ranges = 1 }) c.in-Ok.size from found version r n is in
    (λ i. Ok (same.0 i, same.1 i))
