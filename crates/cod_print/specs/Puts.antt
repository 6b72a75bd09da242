-- How a text goes to a sink.
use Rattle.std.specs.Prelude.{◌≡◌, List, ◌++◌, ℕ, Option, Result, Ok, Err}
use Rattle.std.specs.Io.KnownBytes.{append_known}

-- a front of the text was taken
abbrev pub TakesFront : Option (List ℕ) → Option (List ℕ) → List ℕ → Type 0
TakesFront old new text = (front rest : List ℕ) × (text ≡ front ++ rest) × (new ≡ append_known old front)

-- At Ok the text was taken, else a front of it.
abbrev pub Puts : {T E : Type 0} → Result T E → Option (List ℕ) → Option (List ℕ) → List ℕ → Type 0
Puts (Ok x) old new text = new ≡ append_known old text
Puts (Err e) old new text = TakesFront old new text
