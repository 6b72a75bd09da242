-- Replies whose free bytes were seen.
use Rattle.std.proofs.Common.{◌≡◌, ℕ, Option, Some, None, List, refl, subst, sym}
use Rattle.std.specs.Prelude.{All}
use Rattle.std.proofs.lemmas.List.Elements.{All-weaker}
use Rattle.cod_types.specs.declared.call.Reply.{Reply}
use Rattle.cod_types.specs.declared.call.Reply.TheVariants.{Bytes, Done, Range, Long, Lost, Whole, Rebuilt, NoSpare, NoMem, Shifted, Clear, Differs}
use Rattle.cod_types.specs.declared.reasons.Reason.{Reason}
use Rattle.cod_types.specs.declared.reasons.Why.{Why}
use Rattle.cod_types.specs.declared.reasons.Why.TheVariants as why
use Rattle.cod_segment.specs.Looks.{AreLooked, HasLooked, IsLooked}

-- a reply that is not NoSpare tells of no free bytes
pub looked_of : (Seen : ℕ → ℕ → Type 0) (reply : Reply) → ((reasons : List Reason) → reply ≡ NoSpare reasons → ⊥) → AreLooked Seen reply
looked_of Seen (NoSpare reasons) not = absurd (not reasons refl)
looked_of Seen (Bytes bytes) not = tt
looked_of Seen (Differs bytes) not = tt
looked_of Seen Done not = tt
looked_of Seen Range not = tt
looked_of Seen Long not = tt
looked_of Seen Lost not = tt
looked_of Seen Whole not = tt
looked_of Seen (Rebuilt col node) not = tt
looked_of Seen NoMem not = tt
looked_of Seen (Shifted col node) not = tt
looked_of Seen Clear not = tt

-- where no reply is there, nothing is told
pub looked_none : (Seen : ℕ → ℕ → Type 0) (reply : Option Reply) → reply ≡ None → HasLooked Seen reply
looked_none Seen reply none = subst (HasLooked Seen) (sym none) tt

-- and where it is a reply whose free bytes were seen
pub looked_some : (Seen : ℕ → ℕ → Type 0) (reply : Option Reply) (told : Reply) → reply ≡ Some told → AreLooked Seen told → HasLooked Seen reply
looked_some Seen reply told is looked = subst (HasLooked Seen) (sym is) looked

-- what was seen in a part of the time was seen in all of it
module _ (Seen Later : ℕ → ℕ → Type 0) (wider : (node bytes : ℕ) → Seen node bytes → Later node bytes) where
  pub wide : (node : ℕ) (y : Why) → IsLooked Seen node y → IsLooked Later node y
  wide node (why.Free bytes) s = wider node bytes s
  wide node (why.Down line) s = tt
  wide node (why.Fault count) s = tt

  pub reasons_later : (reasons : List Reason) → All (λ (q : Reason). IsLooked Seen q.node.0 q.why) reasons → All (λ (q : Reason). IsLooked Later q.node.0 q.why) reasons
  reasons_later reasons a = All-weaker (λ (q : Reason). IsLooked Seen q.node.0 q.why) (λ (q : Reason). IsLooked Later q.node.0 q.why) (λ q s. wide q.node.0 q.why s) reasons a

  pub looked_later : (reply : Reply) → AreLooked Seen reply → AreLooked Later reply
  looked_later (NoSpare reasons) a = reasons_later reasons a
  looked_later (Bytes bytes) a = tt
  looked_later (Differs bytes) a = tt
  looked_later Done a = tt
  looked_later Range a = tt
  looked_later Long a = tt
  looked_later Lost a = tt
  looked_later Whole a = tt
  looked_later (Rebuilt col node) a = tt
  looked_later NoMem a = tt
  looked_later (Shifted col node) a = tt
  looked_later Clear a = tt

  pub has_looked_later : (reply : Option Reply) → HasLooked Seen reply → HasLooked Later reply
  has_looked_later None a = tt
  has_looked_later (Some reply) a = looked_later reply a
