-- All entries of all segments in one order.
use Rattle.std.specs.Prelude.{ℕ, ◌+◌, nat_lt, if◌then◌else◌, List, [], ◌∷◌, ◌++◌, map}
use Rattle.cod_chronicle.specs.declared.entry.Entry.{Entry}
use Rattle.cod_chronicle.specs.Said.{stamp_of}

-- an entry of a segment
pub record Placed : Type 0 where
  pub segment : ℕ
  pub entry : Entry

abbrev pub stamp_at : Placed → ℕ
stamp_at p = stamp_of p.entry

abbrev pub place : ℕ → Entry → Placed
place s e = record { segment = s; entry = e }

-- segment by segment
abbrev pub placed_from : ℕ → List (List Entry) → List Placed
placed_from s [] = []
placed_from s (h ∷ hs) = map (λ e. place s e) h ++ placed_from (s + 1) hs

abbrev pub placed : List (List Entry) → List Placed
placed hs = placed_from 0 hs

-- ahead of the first entry whose stamp is no smaller
abbrev pub put : Placed → List Placed → List Placed
put p [] = p ∷ []
put p (q ∷ qs) = if nat_lt (stamp_at q) (stamp_at p) then q ∷ put p qs else p ∷ q ∷ qs

-- by stamps; entries of one stamp stay in their order
abbrev pub by_stamp : List Placed → List Placed
by_stamp [] = []
by_stamp (p ∷ ps) = put p (by_stamp ps)

-- by stamp, segment and place
abbrev pub order : List (List Entry) → List Placed
order hs = by_stamp (placed hs)
