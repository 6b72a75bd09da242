-- A column's bytes are replaced.
use Rattle.std.proofs.Common.{◌≡◌, ℕ, List, ◌++◌, ◌+◌, length, drop, Option, Some, None, refl, sym, ap, ◌∙◌, arith}
use Rattle.std.specs.Prelude.{Result, Ok, Err, MatchResult, option_map}
use Rattle.std.proofs.lemmas.List.{append-nil, drop_all}
use Rattle.cod_types.specs.declared.errors.Failed.{Failed}
use Rattle.cod_types.specs.Faults.{bump, HasCause}
use Rattle.cod_types.specs.Limits.{Shape}
use Rattle.cod_types.specs.Overwritten.{overwritten}
use Rattle.cod_region.specs.Device.{Device, Torn}
use Rattle.cod_parity.specs.State.{empty, with_base}
use Rattle.cod_parity.specs.Calls.{FailsWrite}
use Rattle.cod_parity.proofs.Calling.{put_done}
use Rattle.cod_repair.specs.Columns.{IsFull}

overwritten_all : (d b : List ℕ) → length d ≡ length b → overwritten 0 d b ≡ d
overwritten_all d b e =
    let z : 0 + length d ≡ length d = omega arith in
    ap (λ (l : List ℕ). d ++ l) (ap (λ (k : ℕ). drop k b) z ∙ drop_all (length d) b (omega arith)) ∙ append-nil d

all_replaced : (c : Option (List ℕ)) (n : ℕ) (bytes : List ℕ) → ((held : List ℕ) → c ≡ Some held → length held ≡ n) → length bytes ≡ n
    → option_map (λ (held : List ℕ). bytes) c ≡ option_map (overwritten 0 bytes) c
all_replaced None n bytes full long = refl
all_replaced (Some held) n bytes full long = ap Some (sym (overwritten_all bytes held (long ∙ sym (full held refl))))

-- a put of a data column is one of a parity column without reserved space
pub put_data : (r : Result Unit Failed) (g : Shape) (d e : Device) (bytes : List ℕ) → IsFull d → length bytes ≡ d.size
    → MatchResult r (λ x. e.content ≡ option_map (λ (held : List ℕ). bytes) d.content) (λ x. Torn 0 (length bytes) d.content e.content)
    → e ≡ record d { content = e.content; writes = bump d.writes; faults = e.faults } → HasCause d.faults e.faults r
    → MatchResult r (λ x. empty g 0 10000 e ≡ with_base bytes (empty g 0 10000 d)) (λ x. FailsWrite 0 (length bytes) (empty g 0 10000 d) (empty g 0 10000 e))
put_data (Ok x) g d e bytes full long content same cause =
    put_done (empty g 0 10000 d) bytes e same (content ∙ all_replaced d.content d.size bytes full long) cause.kept
put_data (Err x) g d e bytes full long content same cause = record { same = ap (λ (f : Device). empty g 0 10000 f) same; torn = content }
