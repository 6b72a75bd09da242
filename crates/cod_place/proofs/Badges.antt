-- The badge of a room.
use Rattle.std.proofs.Common.{◌≡◌, ◌<◌, ◌-◌, ℕ, List, [], ◌∷◌, Option, Some, None, refl, sym, ap, ◌∙◌, subst, arith}
use Rattle.std.proofs.Common.{MatchOption}
use Rattle.std.specs.Prelude.{IfSome}
use Rattle.std.proofs.lemmas.List.Elements.{All-head, All-tail, All-cons}
use Rattle.atomic_table.specs.Seated.{TableId}
use Rattle.cod_place.specs.declared.view.View.{View}
use Rattle.cod_place.specs.Room.{Room, owner, IsBadge, room_view}
use Rattle.cod_place.specs.Free.{AreOf}

pub room_in : (of : TableId) (room : Room) → AreOf of (room ∷ []) → (room.of ≡ Some of) × (room.node.0 < of.words)
room_in of room are = All-head (λ (r : Room). (r.of ≡ Some of) × (r.node.0 < of.words)) room [] are

-- a room with an owner has a badge
pub badge_views : (node bytes : ℕ) (views : List View) (id of : TableId) → IsBadge node bytes views → owner views id ≡ Some of → (views ≡ room_view node bytes ∷ []) × (id ≡ of)
badge_views node bytes [] id of badge own = absurd (cc own)
badge_views node bytes (v ∷ vs) id of badge own = ((λ i. badge.0 i ∷ badge.1 i), cc own)

pub one_of : (v w : View) → v ∷ [] ≡ w ∷ [] → v ≡ w
one_of v w e = cc

pub owner_is : (views : List View) (v : View) (id of : TableId) → views ≡ v ∷ [] → id ≡ of → owner views id ≡ Some of
owner_is views v id of one same = ap (λ (vs : List View). owner vs id) one ∙ ap Some same

abbrev IsOf : TableId → Room → Type 0
IsOf of room = (room.of ≡ Some of) × (room.node.0 < of.words)

pub rest_of : (of : TableId) (room : Room) (rooms : List Room) → AreOf of (room ∷ rooms) → AreOf of rooms
rest_of of room rooms are = All-tail (IsOf of) room rooms are

pub trimmed_of : (of : TableId) (room now : Room) (bytes : ℕ) (rooms : List Room) → now ≡ record room { bytes = room.bytes - bytes } → AreOf of (room ∷ rooms) → AreOf of (now ∷ rooms)
trimmed_of of room now bytes rooms is are =
    subst (λ (r : Room). AreOf of (r ∷ rooms)) (sym is) (All-cons (IsOf of) (record room { bytes = room.bytes - bytes }) rooms (All-head (IsOf of) room rooms are) (All-tail (IsOf of) room rooms are))

-- a room that was found came from these pools
pub found_of : (A : Type 0) (o : Option Room) (of : TableId) → MatchOption o A (λ r. AreOf of (r ∷ [])) → IfSome o (λ r. r.of ≡ Some of)
found_of A None of c = tt
found_of A (Some room) of c = (All-head (λ (r : Room). (r.of ≡ Some of) × (r.node.0 < of.words)) room [] c).0
