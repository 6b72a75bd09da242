-- Laws of seats of shared pools, and of rooms with a badge.
use Rattle.std.specs.Prelude.{◌≡◌, ℕ, suc, ◌<◌, List, [], ◌∷◌, ◌++◌, length, IsPermutation, Some, All}
use Rattle.std.proofs.Common.{arith, refl, sym, ap, ◌∙◌, subst, inl, length-append, append-nil, append_assoc}
use Rattle.std.proofs.lemmas.List.{get_or_append_left}
use Rattle.std.proofs.lemmas.List.Elements.{All-nil}
use Rattle.std.proofs.lemmas.List.Sorted.{All-permutation}
use Rattle.atomic_table.specs.Seated.{TableId}
use Rattle.cod_place.specs.Room.{Room}
use Rattle.cod_place.specs.Free.{Seated, After, AreOf, HasSeen}
use Rattle.cod_seats.proofs.Found.{has_right}

abbrev IsOf : TableId → Room → Type 0
IsOf of room = (room.of ≡ Some of) × (room.node.0 < of.words)

pub of_none_lem : (of : TableId) → AreOf of []
of_none_lem of = All-nil _

pub of_order_lem : (of : TableId) (rooms others : List Room) → IsPermutation rooms others → AreOf of rooms → AreOf of others
of_order_lem of rooms others order came = All-permutation (IsOf of) rooms others order came

pub of_front_lem : (of : TableId) (rooms others : List Room) → AreOf of (rooms ++ others) → AreOf of rooms
of_front_lem of rooms others came k d small = subst (IsOf of) (get_or_append_left rooms others d k small)
    (came k d (let l = length-append rooms others in omega arith))

pub of_owner_lem : (of : TableId) (room other : Room) → AreOf of (room ∷ other ∷ []) → room.of ≡ other.of
of_owner_lem of room other came = (came 0 room (omega arith)).0 ∙ sym (came 1 room (omega arith)).0

pub after_self_lem : (s : Seated) → After s s
after_self_lem s = record { of = refl; bytes = refl; looks = ([], append-nil s.looks) }

pub after_later_lem : (a b c : Seated) → After a b → After b c → After a c
after_later_lem a b c p q = record {
  of = q.of ∙ p.of;
  bytes = q.bytes ∙ p.bytes;
  looks = (p.looks.0 ++ q.looks.0, sym (append_assoc a.looks p.looks.0 q.looks.0) ∙ (ap (λ (w : List (ℕ × ℕ)). w ++ q.looks.0) p.looks.1 ∙ q.looks.1));
}

pub seen_earlier_lem : (a b c : Seated) (node bytes : ℕ) → After a b → HasSeen b c node bytes → HasSeen a c node bytes
seen_earlier_lem a b c node bytes p s = (
  p.looks.0 ++ s.0,
  sym (append_assoc a.looks p.looks.0 s.0) ∙ (ap (λ (w : List (ℕ × ℕ)). w ++ s.0) p.looks.1 ∙ s.1),
  has_right (node, bytes) p.looks.0 s.0 s.2,
)
