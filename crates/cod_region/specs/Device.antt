-- What there is to say of a region, whatever its type.
use Rattle.std.specs.Prelude.{◌≡◌, ℕ, Bool, List, length, take, drop, replicate, Option, Some, None, ⊤}
use Rattle.cod_types.specs.Overwritten.{ChangesWithin}
use Rattle.cod_types.specs.declared.call.NodeId.{NodeId}

-- A region: how many bytes it has, which, where it tells them, how many reads, writes and faults there were, each up to
-- the end of its type, and whether it never fails.
pub record Device : Type 0 where
  pub size : ℕ
  pub content : Option (List ℕ)
  pub reads : ℕ
  pub writes : ℕ
  pub faults : ℕ
  pub never_fails : Bool

-- What holds of every region of a shelf: whether it tells what it holds, and on which nodes it never fails.
pub record AllRegions : Type 0 where
  pub tell : Bool
  pub never_fail : NodeId → Bool

-- where the content is told, these are its bytes from off on
abbrev pub Reads : (content : Option (List ℕ)) (off : ℕ) (bytes : List ℕ) → Type 0
Reads None off bytes = ⊤
Reads (Some held) off bytes = bytes ≡ take (length bytes) (drop off held)

-- n bytes from off on may be any, and no other byte has changed, where the content is told
abbrev pub Torn : (off n : ℕ) (old new : Option (List ℕ)) → Type 0
Torn off n None None = ⊤
Torn off n (Some old) (Some new) = ChangesWithin off n old new
Torn off n None (Some new) = ⊥
Torn off n (Some old) None = ⊥

-- so many zeros, where the content is told
abbrev pub Zeros : (content : Option (List ℕ)) (n : ℕ) → Type 0
Zeros None n = ⊤
Zeros (Some held) n = held ≡ replicate n 0
