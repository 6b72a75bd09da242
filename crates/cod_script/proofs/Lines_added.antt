-- A line for the last client, and a client without its lines, are a change at one place.
use Rattle.std.proofs.Common.{◌≡◌, ℕ, zero, suc, ◌+◌, ◌<◌, List, [], ◌∷◌, ◌++◌, length, get_or, set, refl, ap, arith}
use Rattle.cod_script.specs.declared.line.Line.{Line}
use Rattle.cod_script.specs.Script.{Client, onto_last, clients_without}

abbrev pub longer : Client → Line → Client
longer c line = record { name = c.name; lines = c.lines ++ line ∷ [] }

pub onto_last_is : (cs : List Client) (line : Line) (i : ℕ) (d : Client) → i + 1 ≡ length cs → onto_last cs line ≡ set cs i (longer (get_or cs i d) line)
onto_last_is [] line i d e = absurd (omega (arith, e))
onto_last_is (c ∷ []) line i d e = let z : i ≡ 0 = omega (arith, e) in rw z refl
onto_last_is (c ∷ b ∷ more) line zero d e = absurd (omega (arith, e))
onto_last_is (c ∷ b ∷ more) line (suc i) d e = ap (λ l. c ∷ l) (onto_last_is (b ∷ more) line i d (omega (arith, e)))

pub emptied_is : (cs : List Client) (i : ℕ) (d : Client) → i < length cs → clients_without cs i ≡ set cs i (record { name = (get_or cs i d).name; lines = [] })
emptied_is [] i d lt = absurd (omega (arith, lt))
emptied_is (c ∷ cs) zero d lt = refl
emptied_is (c ∷ cs) (suc i) d lt = ap (λ l. c ∷ l) (emptied_is cs i d (omega (arith, lt)))
