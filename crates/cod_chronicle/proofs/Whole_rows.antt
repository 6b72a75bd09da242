-- Worked chronicles of several segments, and of their stamps and numbers.
use Rattle.std.proofs.Common.{true, ◌≡◌, ◌⊎◌, ℕ, zero, suc, ◌-◌, ◌<◌, ◌≤◌, Some, List, [], ◌∷◌, length, refl, subst, inl, inr, arith}
use Rattle.std.specs.Prelude.{slice_get, slice_index_or}
use Rattle.std.specs.List.{range_with_len}
use Rattle.std.proofs.lemmas.List.Elements.{All-from_recursion}
use Rattle.std.proofs.lemmas.Bool.{ne_eqb}
use Rattle.cod_types.specs.Limits.{shape}
use Rattle.cod_types.specs.declared.call.Call.TheVariants.{Read, Write, Put, Merge}
use Rattle.cod_types.specs.declared.call.Reply.TheVariants.{Bytes, Done}
use Rattle.cod_chronicle.specs.declared.entry.Entry.{Entry}
use Rattle.cod_chronicle.specs.declared.entry.Entry.TheVariants.{Call, Down}
use Rattle.cod_chronicle.specs.declared.entry.Cause.TheVariants.{Killed}
use Rattle.cod_chronicle.specs.Said.{site_as, IsChronicle, last_stamp}
use Rattle.cod_chronicle.specs.Legal.{IsLegal, node_id}
use Rattle.cod_chronicle.specs.Order.{place, stamp_at, order, placed}
use Rattle.cod_chronicle.specs.Whole.{HasStamp, LeavesNoGap, IsWholeLegal, numbers_of}
use Rattle.cod_chronicle.proofs.Growth.{chronicle-nil, chronicle-push}
use Rattle.cod_chronicle.proofs.Answering.{answer_served}
use Rattle.cod_chronicle.proofs.Rows.{a, b}

-- a caller on one segment, and another on a second
abbrev first : List Entry
first = Call a 0 1 (Put (1 ∷ 2 ∷ [])) Done ∷ Call a 1 2 (Write 0 (5 ∷ [])) Done ∷ Call a 2 3 (Read 0 2) (Bytes (5 ∷ 2 ∷ [])) ∷ []

abbrev second : List Entry
second = Call b 0 1 (Put (3 ∷ 4 ∷ [])) Done ∷ Call b 1 2 (Read 0 2) (Bytes (3 ∷ 4 ∷ [])) ∷ []

-- by stamps; of one stamp the first segment's entry comes first
in_order : order (first ∷ second ∷ [])
    ≡ place 0 (Call a 0 1 (Put (1 ∷ 2 ∷ [])) Done) ∷ place 1 (Call b 0 1 (Put (3 ∷ 4 ∷ [])) Done) ∷ place 0 (Call a 1 2 (Write 0 (5 ∷ [])) Done)
    ∷ place 1 (Call b 1 2 (Read 0 2) (Bytes (3 ∷ 4 ∷ []))) ∷ place 0 (Call a 2 3 (Read 0 2) (Bytes (5 ∷ 2 ∷ []))) ∷ []
in_order = refl

-- entries of one segment and one stamp stay as they are
same_stamps_stay : order ((Down last_stamp 1 (node_id 1) (Killed 12) ∷ Down last_stamp 0 (node_id 0) (Killed 13) ∷ []) ∷ [])
    ≡ place 0 (Down last_stamp 1 (node_id 1) (Killed 12)) ∷ place 0 (Down last_stamp 0 (node_id 0) (Killed 13)) ∷ []
same_stamps_stay = refl

-- each stamp is greater, but at the last
up_to_the_last_stamp : IsChronicle (Down 7 1 (node_id 1) (Killed 12) ∷ Down last_stamp 0 (node_id 0) (Killed 13) ∷ Call a 3 last_stamp Merge Done ∷ [])
up_to_the_last_stamp =
    chronicle-push (Down 7 1 (node_id 1) (Killed 12) ∷ Down last_stamp 0 (node_id 0) (Killed 13) ∷ []) (Call a 3 last_stamp Merge Done)
    (chronicle-push (Down 7 1 (node_id 1) (Killed 12) ∷ []) (Down last_stamp 0 (node_id 0) (Killed 13))
    (chronicle-push [] (Down 7 1 (node_id 1) (Killed 12)) chronicle-nil tt tt) (inl (omega arith)) tt)
    (inr (refl, refl)) (All-from_recursion (λ m. m < 3) [] tt)

-- two entries of one stamp below the last
stamp_twice : ¬ (IsChronicle (Down 7 1 (node_id 1) (Killed 12) ∷ Down 7 0 (node_id 0) (Killed 13) ∷ []))
stamp_twice c = elim c.stamps.0 [ inl e ↦ absurd (omega arith) | inr e ↦ (let x = e.0 in absurd (omega arith)) ]

-- a caller's number that comes again
number_twice : ¬ (IsChronicle (Call a 4 1 Merge Done ∷ Call b 4 2 Merge Done ∷ Call a 4 3 Merge Done ∷ []))
number_twice c = (let h = c.numbers 0 0 1 0 (omega arith) (omega arith) in absurd (omega arith))

first_is_chronicle : IsChronicle first
first_is_chronicle =
    chronicle-push _ (Call a 2 3 (Read 0 2) (Bytes (5 ∷ 2 ∷ [])))
    (chronicle-push _ (Call a 1 2 (Write 0 (5 ∷ [])) Done)
    (chronicle-push [] (Call a 0 1 (Put (1 ∷ 2 ∷ [])) Done) chronicle-nil tt (All-from_recursion (λ m. m < 0) [] tt)) (inl (omega arith)) (All-from_recursion (λ m. m < 1) (0 ∷ []) (omega arith, tt)))
    (inl (omega arith)) (All-from_recursion (λ m. m < 2) (0 ∷ 1 ∷ []) (omega arith, (omega arith, tt)))

second_is_chronicle : IsChronicle second
second_is_chronicle =
    chronicle-push _ (Call b 1 2 (Read 0 2) (Bytes (3 ∷ 4 ∷ [])))
    (chronicle-push [] (Call b 0 1 (Put (3 ∷ 4 ∷ [])) Done) chronicle-nil tt (All-from_recursion (λ m. m < 0) [] tt)) (inl (omega arith)) (All-from_recursion (λ m. m < 1) (0 ∷ []) (omega arith, tt))

-- the two segments' chronicles are one legal history
both_are_whole_legal : IsWholeLegal (shape 1 4 2 1 1 40 1 5000) 5 (first ∷ second ∷ [])
both_are_whole_legal = record {
  each = each;
  numbers = numbers;
  stamps = All-from_recursion (λ p. (stamp_at p ≤ 1) ⊎ HasStamp (placed (first ∷ second ∷ [])) (stamp_at p - 1)) (placed (first ∷ second ∷ []))
      (inl (omega arith), (inr (0, omega arith, refl), (inr (1, omega arith, refl), (inl (omega arith), (inr (0, omega arith, refl), tt)))));
} where
  each : (s : ℕ) (h : List Entry) → slice_get (first ∷ second ∷ []) s ≡ Some h → IsChronicle h × IsLegal (site_as true (shape 1 4 2 1 1 40 1 5000) 5 s) h
  each zero h is = (let e : first ≡ h = cc in subst (λ (k : List Entry). IsChronicle k × IsLegal (site_as true (shape 1 4 2 1 1 40 1 5000) 5 0) k) e
      (first_is_chronicle, (answer_served _ _ _ _ refl refl refl, (answer_served _ _ _ _ refl refl refl, (answer_served _ _ _ _ refl refl refl, tt)))))
  each (suc zero) h is = (let e : second ≡ h = cc in subst (λ (k : List Entry). IsChronicle k × IsLegal (site_as true (shape 1 4 2 1 1 40 1 5000) 5 1) k) e
      (second_is_chronicle, (answer_served _ _ _ _ refl refl refl, (answer_served _ _ _ _ refl refl refl, tt))))
  each (suc (suc s)) h is = cc

  numbers : (who : ℕ) → numbers_of who (order (first ∷ second ∷ [])) ≡ range_with_len 0 (length (numbers_of who (order (first ∷ second ∷ []))))
  numbers zero = refl
  numbers (suc zero) = refl
  numbers (suc (suc who)) = rw (ne_eqb 0 (suc (suc who)) (λ e. absurd (omega arith)), ne_eqb 1 (suc (suc who)) (λ e. absurd (omega arith))) refl

-- a stamp is left out where none of the others is one less
stamp_left_out : ¬ (LeavesNoGap (placed ((Call a 0 1 Merge Done ∷ []) ∷ (Call b 0 3 Merge Done ∷ []) ∷ [])))
stamp_left_out g = elim (g 1 (place 1 (Call b 0 3 Merge Done)) (omega arith)) [
  | inl low ↦ absurd (omega arith)
  | inr has ↦ none has.0 has.1 has.2
] where
  none : (k : ℕ) → k < 2 → ◌≡◌ {A = ℕ} (slice_index_or (1 ∷ 3 ∷ []) k 2) 2 → ⊥
  none zero l e = absurd (omega arith)
  none (suc zero) l e = absurd (omega arith)
  none (suc (suc k)) l e = absurd (omega arith)
