-- The words of a code.
use Rattle.std.proofs.Common.{◌≡◌, ◌⊎◌, inl, inr, ℕ, ◌<◌, ◌≤◌, Bool, true, false, cond, Option, Some, None, List, [], ◌∷◌, codes, refl, sym, ap, ◌∙◌, arith}
use Rattle.std.specs.Prelude.{nat_le, ◌&&◌}
use Rattle.std.specs.Str.{bytes_eq}
use Rattle.std.proofs.lemmas.Bool.Decides.{nat_tests}
use Rattle.cod_words.specs.Words.{number_of}
use Rattle.cod_tool.specs.declared.command.Command.{Command}
use Rattle.cod_tool.specs.declared.command.Command.TheVariants as command
use Rattle.cod_tool.specs.declared.command.Purpose.TheVariants as purpose
use Rattle.cod_tool.specs.Commands.{IsCode, code_of, command_of, gen_of, load_of}

pub no_columns : (a b : Option ℕ) → a ≡ None → None ≡ code_of a b
no_columns None None e = refl
no_columns None (Some k) e = refl
no_columns (Some n) b e = cc

pub no_data : (a b : Option ℕ) → b ≡ None → None ≡ code_of a b
no_data None None e = refl
no_data (Some n) None e = refl
no_data a (Some k) e = cc

-- the tests of the two numbers
passes : (n k : ℕ) → 1 ≤ k → k ≤ n → n ≤ 16 → (nat_le 1 k && (nat_le k n && nat_le n 16)) ≡ true
passes n k some within most = grind (arith, nat_tests)

fails : (n k : ℕ) → (k < 1) ⊎ ((n < k) ⊎ (16 < n)) → (nat_le 1 k && (nat_le k n && nat_le n 16)) ≡ false
fails n k (inl none) = grind (arith, nat_tests)
fails n k (inr (inl few)) = grind (arith, nat_tests)
fails n k (inr (inr many)) = grind (arith, nat_tests)

passed : (n k : ℕ) → (nat_le 1 k && (nat_le k n && nat_le n 16)) ≡ true → IsCode n k
passed n k t = record { some_data = grind (arith, nat_tests); within_columns = grind (arith, nat_tests); most = grind (arith, nat_tests) }

pub is_code : (a b : Option ℕ) (n k : ℕ) → a ≡ Some n → b ≡ Some k → 1 ≤ k → k ≤ n → n ≤ 16 → Some (command.Code n k) ≡ code_of a b
is_code a b n k first second some within most =
    let told : code_of (Some n) (Some k) ≡ Some (command.Code n k) = ap (λ (o : Bool). cond o (Some (command.Code n k)) None) (passes n k some within most) in
    sym told ∙ ap (λ (o : Option ℕ). code_of o (Some k)) (sym first) ∙ ap (code_of a) (sym second)

pub is_no_code : (a b : Option ℕ) (n k : ℕ) → a ≡ Some n → b ≡ Some k → (k < 1) ⊎ ((n < k) ⊎ (16 < n)) → None ≡ code_of a b
is_no_code a b n k first second wrong =
    let told : code_of (Some n) (Some k) ≡ None = ap (λ (o : Bool). cond o (Some (command.Code n k)) None) (fails n k wrong) in
    sym told ∙ ap (λ (o : Option ℕ). code_of o (Some k)) (sym first) ∙ ap (code_of a) (sym second)

-- the numbers of a code that was named
of_cond : (o : Bool) (n k m j : ℕ) → (nat_le 1 k && (nat_le k n && nat_le n 16)) ≡ o → cond o (Some (command.Code n k)) None ≡ Some (command.Code m j) → IsCode m j
of_cond true n k m j t e =
    let c : IsCode n k = passed n k t in
    let columns : n ≡ m = cc in
    let of_data : k ≡ j = cc in
    record { some_data = let h = c.some_data in omega arith; within_columns = let h = c.within_columns in omega arith; most = let h = c.most in omega arith }
of_cond false n k m j t e = cc

code_of_limits : (a b : Option ℕ) (m j : ℕ) → code_of a b ≡ Some (command.Code m j) → IsCode m j
code_of_limits (Some n) (Some k) m j e = of_cond (nat_le 1 k && (nat_le k n && nat_le n 16)) n k m j refl e
code_of_limits (Some n) None m j e = cc
code_of_limits None None m j e = cc
code_of_limits None (Some k) m j e = cc

alone_cond : (o s p q : Bool) (m j : ℕ)
    → cond o (Some (command.Scenario purpose.Replay)) (cond s (Some (command.Scenario purpose.Summary)) (cond p (Some (command.Scenario purpose.Check)) (cond q (Some (command.Scenario purpose.Plan)) None)))
    ≡ Some (command.Code m j) → IsCode m j
alone_cond true s p q m j e = cc
alone_cond false true p q m j e = cc
alone_cond false false true q m j e = cc
alone_cond false false false true m j e = cc
alone_cond false false false false m j e = cc

named_cond : (o : Bool) (a b : Option ℕ) (m j : ℕ) → cond o (code_of a b) None ≡ Some (command.Code m j) → IsCode m j
named_cond true a b m j e = code_of_limits a b m j e
named_cond false a b m j e = cc

with_cond : (o p : Bool) (a : Option ℕ) (m j : ℕ) → cond o (gen_of a) (cond p (load_of a) None) ≡ Some (command.Code m j) → IsCode m j
with_cond true p (Some number) m j e = cc
with_cond true p None m j e = cc
with_cond false true (Some number) m j e = cc
with_cond false true None m j e = cc
with_cond false false a m j e = cc

pub limits_of : (words : List (List ℕ)) (m j : ℕ) → command_of words ≡ Some (command.Code m j) → IsCode m j
limits_of [] m j e = cc
limits_of (word ∷ []) m j e = alone_cond (bytes_eq word (codes "replay")) (bytes_eq word (codes "summary")) (bytes_eq word (codes "check")) (bytes_eq word (codes "plan")) m j e
limits_of (word ∷ number ∷ []) m j e = with_cond (bytes_eq word (codes "gen")) (bytes_eq word (codes "load")) (number_of number) m j e
limits_of (word ∷ n ∷ k ∷ []) m j e = named_cond (bytes_eq word (codes "code")) (number_of n) (number_of k) m j e
limits_of (word ∷ n ∷ k ∷ w ∷ ws) m j e = cc

pub code_limits : (r : Option Command) (words : List (List ℕ)) → r ≡ command_of words → (m j : ℕ) → r ≡ Some (command.Code m j) → IsCode m j
code_limits r words is m j e = limits_of words m j (sym is ∙ e)
