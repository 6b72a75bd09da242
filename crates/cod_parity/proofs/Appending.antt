-- How an append keeps what a column holds.
use Rattle.std.proofs.Common.{◌≡◌, ℕ, ◌+◌, ◌<◌, ◌≤◌, ◌^◌, List, length, get_or, Option, None, Result, Ok, Err, refl, ap, ◌∙◌}
use Rattle.std.specs.Result.{MatchResult, OnOk}
use Rattle.cod_record.specs.declared.parts.Head.{Head}
use Rattle.cod_parity.specs.Log.{Logged, logged, logged_length}
use Rattle.cod_parity.specs.State.{State, with_record}
use Rattle.cod_parity.specs.Calls.{Appends}
use Rattle.cod_parity.specs.Held.{Holds, IsPiece, Piece, with_piece}
use Rattle.cod_parity.proofs.Holding.{appends_hold}
use Rattle.cod_parity.proofs.Spelled.{length-logged, logged_bytes, logged_most, logged_place}

record_shape : (l : Logged) (s : State) → (with_record l s).shape ≡ s.shape
unfolding with_record
record_shape l s = refl

-- what `append` is given of a record
pub record IsGiven (s : State) (version : ℕ) (h : Head) (bytes : List ℕ) : Type 0 where
  pub first : 1 ≤ version
  pub last : version ≤ 2
  pub second : version ≡ 2 → s.shape.version ≡ 2
  pub inside : h.off + length bytes < 2 ^ 32

abbrev pub piece_of : (version : ℕ) → Head → List ℕ → Piece
piece_of version h bytes = record { off = h.off; bytes = bytes; length = logged_length version h bytes }

pub is_piece : (s : State) (version n : ℕ) (h : Head) (bytes : List ℕ) → IsGiven s version h bytes → h.number ≡ n
    → IsPiece s.shape h.block n (piece_of version h bytes) (logged version h bytes)
is_piece s version n h bytes given number =
    let place = logged_place version h bytes given.first given.last in
    let len = length-logged version h bytes given.first given.last in
    let most = logged_most s.shape version h bytes given.second in
    record {
      in_block = place.0;
      numbered = place.1 ∙ number;
      bytes = logged_bytes version h bytes given.first given.last given.inside;
      long = len;
      most = most;
    }

pub append_holds : {E T : Type 0} (result : Result T E) (Q : E → Type 0) (cuts : List ℕ) (version : ℕ) (h : Head) (bytes : List ℕ) (s t : State) (v : ℕ → ℕ) (p : ℕ → Option Piece)
    → IsGiven s version h bytes → MatchResult result (λ x. Appends (logged version h bytes) s t) Q
    → h.number ≡ get_or cuts h.block 0 + 1 → p h.block ≡ None → Holds s cuts v p
    → OnOk result (Holds t cuts v (with_piece p h.block (piece_of version h bytes)))
append_holds (Ok u) Q cuts version h bytes s t v p given a number none held =
    let shape : t.shape ≡ s.shape = ap (λ (r : State). r.shape) a.is ∙ record_shape (logged version h bytes) s in
    appends_hold cuts (logged version h bytes) h.block (piece_of version h bytes) s t v p a shape (is_piece s version _ h bytes given number) none held
append_holds (Err e) Q cuts version h bytes s t v p given a number none held = tt
