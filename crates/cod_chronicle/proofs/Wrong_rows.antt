-- Worked chronicles that are not legal.
use Rattle.std.proofs.Common.{◌≡◌, ℕ, Bool, true, false, cond, List, [], ◌∷◌, length, get_or, refl, sym, ap, inl, inr, arith}
use Rattle.std.proofs.lemmas.Bool.{cases_eq, ne_eqb, both_ways}
use Rattle.cod_types.specs.Limits.{shape}
use Rattle.cod_types.specs.declared.call.NodeId.{NodeId}
use Rattle.cod_types.specs.declared.call.Call.TheVariants.{Read, Write, Swap, Put, Rebuild, Drain}
use Rattle.cod_types.specs.declared.call.Reply.TheVariants.{Bytes, Done, Long, Lost, Whole, Rebuilt, NoSpare, NoMem, Differs, Shifted, Clear}
use Rattle.cod_types.specs.declared.reasons.Why.TheVariants as why
use Rattle.cod_chronicle.specs.declared.entry.Entry.TheVariants.{Call, Down, Up, Move}
use Rattle.cod_chronicle.specs.declared.entry.Cause.{Cause}
use Rattle.cod_chronicle.specs.declared.entry.Cause.TheVariants.{Killed, Fault}
use Rattle.cod_chronicle.specs.Said.{Site, site_as, is_down}
use Rattle.cod_chronicle.specs.Legal.{IsLegal, node_id}
use Rattle.cod_chronicle.proofs.Rows.{site, a, b, reason}

-- a read that tells the bytes before the write
old_bytes_after_a_write : ¬ (IsLegal (site 40 5) (Call a 0 1 (Put (1 ∷ 2 ∷ [])) Done ∷ Call a 1 2 (Write 0 (5 ∷ [])) Done ∷ Call a 2 3 (Read 0 2) (Bytes (1 ∷ 2 ∷ [])) ∷ []))
old_bytes_after_a_write l = (let s = l.1.1.0.served refl refl in absurd (cc))

-- a read that tells the bytes of a write to come
new_bytes_before_a_write : ¬ (IsLegal (site 40 5) (Call a 0 1 (Put (1 ∷ 2 ∷ [])) Done ∷ Call b 0 2 (Read 0 1) (Bytes (5 ∷ [])) ∷ Call a 1 3 (Write 0 (5 ∷ [])) Done ∷ []))
new_bytes_before_a_write l = (let s = l.1.0.served refl refl in absurd (cc))

-- a call that was refused leaves the bytes
refused_write_is_done : ¬ (IsLegal (site 40 5) (Call a 0 1 (Write 0 (1 ∷ 2 ∷ [])) Long ∷ Call a 1 2 (Read 0 2) (Bytes (1 ∷ 2 ∷ [])) ∷ []))
refused_write_is_done l = (let s = l.1.0.served refl refl in absurd (cc))

-- too many bytes past the end: the range comes first
long_before_range : ¬ (IsLegal (site 40 5) (Call a 0 1 (Write 1 (1 ∷ 2 ∷ [])) Long ∷ []))
long_before_range l = (let s = l.0.refused in absurd (cc))

-- lost, with two columns down
lost_too_soon : ¬ (IsLegal (site 40 5) (Down 1 0 (node_id 0) (Killed 12) ∷ Down 2 1 (node_id 1) (Killed 13) ∷ Call a 0 3 (Read 0 2) Lost ∷ []))
lost_too_soon l = (let o = (l.1.1.0.lost refl).0 refl in absurd (cc))

-- served, with three columns down
served_too_late : ¬ (IsLegal (site 40 5)
    (Down 1 0 (node_id 0) (Killed 12) ∷ Down 2 1 (node_id 1) (Killed 13) ∷ Down 3 2 (node_id 2) (Killed 14) ∷ Call a 0 4 (Read 0 2) (Bytes (0 ∷ 0 ∷ [])) ∷ []))
served_too_late l = (let e = (l.1.1.1.0.lost refl).1 refl in absurd (cc))

-- a column that is down goes down
down_twice : ¬ (IsLegal (site 40 5) (Down 1 0 (node_id 0) (Killed 12) ∷ Down 2 0 (node_id 0) (Killed 12) ∷ []))
down_twice l = (let e = l.1.0.live in absurd (cc))

-- a column goes down where it isn't
down_elsewhere : ¬ (IsLegal (site 40 5) (Down 1 0 (node_id 1) (Killed 12) ∷ []))
down_elsewhere l = (let e = l.0.there in absurd (omega arith))

-- a column that the segment hasn't
down_past_the_columns : ¬ (IsLegal (site 40 5) (Down 1 4 (node_id 4) (Killed 12) ∷ []))
down_past_the_columns l = (let e = l.0.column in absurd (omega arith))

-- an Up with nothing behind it
up_alone : ¬ (IsLegal (site 40 5) (Down 1 0 (node_id 0) (Killed 12) ∷ Up 2 0 (node_id 4) ∷ []))
up_alone l = l.1.0.rebuild

-- an Up with another call behind it
up_before_a_read : ¬ (IsLegal (site 40 5) (Down 1 0 (node_id 0) (Killed 12) ∷ Up 2 0 (node_id 4) ∷ Call a 0 3 (Read 0 0) (Bytes []) ∷ []))
up_before_a_read l = (let e = l.1.0.rebuild.0 in absurd (cc))

-- an Up, and a rebuild that tells another node
up_and_another_node : ¬ (IsLegal (site 40 6) (Down 1 0 (node_id 0) (Killed 12) ∷ Up 2 0 (node_id 4) ∷ Call a 0 3 Rebuild (Rebuilt 0 (node_id 5)) ∷ []))
up_and_another_node l = (let e = l.1.0.rebuild.1 in let n : node_id 5 ≡ node_id 4 = cc in let x : ◌≡◌ {A = ℕ} 5 4 = ap (λ (m : NodeId). m.0) n in absurd (omega arith))

-- a rebuild that tells of an Up that isn't there
rebuilt_with_no_up : ¬ (IsLegal (site 40 5) (Down 1 0 (node_id 0) (Killed 12) ∷ Call a 0 2 Rebuild (Rebuilt 0 (node_id 4)) ∷ []))
rebuilt_with_no_up l = l.1.0.served refl refl

-- a column comes up on a node that has another
up_on_a_taken_node : ¬ (IsLegal (site 40 5) (Down 1 0 (node_id 0) (Killed 12) ∷ Up 2 0 (node_id 1) ∷ Call a 0 3 Rebuild (Rebuilt 0 (node_id 1)) ∷ []))
up_on_a_taken_node l = (let e = l.1.0.arrives.free in absurd (cc))

-- a column comes up past the nodes
up_past_the_nodes : ¬ (IsLegal (site 40 5) (Down 1 0 (node_id 0) (Killed 12) ∷ Up 2 0 (node_id 5) ∷ Call a 0 3 Rebuild (Rebuilt 0 (node_id 5)) ∷ []))
up_past_the_nodes l = (let e = l.1.0.arrives.there in absurd (omega arith))

-- a live column comes up
up_while_live : ¬ (IsLegal (site 40 5) (Up 1 0 (node_id 4) ∷ Call a 0 2 Rebuild (Rebuilt 0 (node_id 4)) ∷ []))
up_while_live l = (let e = l.0.down in absurd (cc))

-- whole, with a column down
whole_too_soon : ¬ (IsLegal (site 40 5) (Down 1 0 (node_id 0) (Killed 12) ∷ Call a 0 2 Rebuild Whole ∷ []))
whole_too_soon l = (let e = l.1.0.served refl refl in absurd (cc))

-- no memory, with no column down
no_memory_for_nothing : ¬ (IsLegal (site 40 5) (Call a 0 1 Rebuild NoMem ∷ []))
no_memory_for_nothing l = l.0.served refl refl refl

-- the nodes 3, 4 and 0 are outside, and 2 was the column's
abbrev three_outside : Site
three_outside = record { shape = shape 1 2 1 1 1 20 1 5000; segment = 1; nodes = 5; told = true }

-- where one column went down, no other is down
only_down : (stamp i c : ℕ) (node : NodeId) (cause : Cause) → is_down (Down stamp i node cause ∷ []) c ≡ true → c ≡ i
only_down stamp i c node cause d = elim (cases_eq i c) [
  | inl same ↦ sym same
  | inr other ↦ absurd (both_ways (is_down (Down stamp i node cause ∷ []) c) (ap (λ (b : Bool). cond b true false) (ne_eqb i c other)) d)
]

-- reasons that begin at node 0
reasons_from_0_on : ¬ (IsLegal three_outside (Down 1 1 (node_id 2) (Fault 3) ∷ Call a 0 2 Rebuild (NoSpare (reason 0 (why.Down 11) ∷ reason 3 (why.Down 12) ∷ reason 4 (why.Down 13) ∷ [])) ∷ []))
reasons_from_0_on l =
    let s = l.1.0.served refl refl in
    let r = rw (only_down 1 1 s.0 (node_id 2) (Fault 3) s.1) at s.2 in
    let n : ◌≡◌ {A = List ℕ} (0 ∷ 3 ∷ 4 ∷ []) (3 ∷ 4 ∷ 0 ∷ []) = r.nodes in
    let x : ◌≡◌ {A = ℕ} 0 3 = ap (λ (xs : List ℕ). get_or xs 0 0) n in
    absurd (omega arith)

-- a node outside without its reason
reason_left_out : ¬ (IsLegal three_outside (Down 1 1 (node_id 2) (Fault 3) ∷ Call a 0 2 Rebuild (NoSpare (reason 3 (why.Down 12) ∷ reason 4 (why.Down 13) ∷ [])) ∷ []))
reason_left_out l =
    let s = l.1.0.served refl refl in
    let r = rw (only_down 1 1 s.0 (node_id 2) (Fault 3) s.1) at s.2 in
    let n : ◌≡◌ {A = List ℕ} (3 ∷ 4 ∷ []) (3 ∷ 4 ∷ 0 ∷ []) = r.nodes in
    let x : ◌≡◌ {A = ℕ} 2 3 = ap (λ (xs : List ℕ). length xs) n in
    absurd (omega arith)

-- a node with room enough is no reason
reason_with_room : ¬ (IsLegal (site 40 5) (Down 1 2 (node_id 2) (Fault 1) ∷ Call a 0 2 Rebuild (NoSpare (reason 4 (why.Free 41) ∷ [])) ∷ []))
reason_with_room l =
    let s = l.1.0.served refl refl in
    let r = rw (only_down 1 2 s.0 (node_id 2) (Fault 1) s.1) at s.2 in
    let w = r.whys 0 (reason 4 (why.Free 41)) (omega arith) in
    absurd (omega arith)

-- a drain that tells of a Move that isn't there
shifted_with_no_move : ¬ (IsLegal (site 40 5) (Call a 0 1 (Drain (node_id 2)) (Shifted 2 (node_id 4)) ∷ []))
shifted_with_no_move l = l.0.served refl refl

-- a Move, and a drain of another node
move_off_another_node : ¬ (IsLegal (site 40 5) (Move 1 2 (node_id 4) ∷ Call a 0 2 (Drain (node_id 1)) (Shifted 2 (node_id 4)) ∷ []))
move_off_another_node l = (let e = l.0.drain.0 in let n : node_id 1 ≡ node_id 2 = cc in let x : ◌≡◌ {A = ℕ} 1 2 = ap (λ (m : NodeId). m.0) n in absurd (omega arith))

-- a column that is down moves
move_of_a_column_that_is_down : ¬ (IsLegal (site 40 5) (Down 1 2 (node_id 2) (Killed 12) ∷ Move 2 2 (node_id 4) ∷ Call a 0 3 (Drain (node_id 2)) (Shifted 2 (node_id 4)) ∷ []))
move_of_a_column_that_is_down l = (let e = l.1.0.live in absurd (cc))

-- clear, with a live column on the node
clear_too_soon : ¬ (IsLegal (site 40 5) (Call a 0 1 (Drain (node_id 2)) Clear ∷ []))
clear_too_soon l = l.0.served refl refl 2 (record { column = omega arith; live = refl; there = refl })

-- a swap that is done where the bytes are others
swap_that_does_not_compare : ¬ (IsLegal (site 40 5) (Call a 0 1 (Put (1 ∷ 2 ∷ [])) Done ∷ Call a 1 2 (Swap 0 (7 ∷ []) (5 ∷ [])) Done ∷ []))
swap_that_does_not_compare l = (let s = l.1.0.served refl refl in absurd (cc))

-- a swap that found other bytes leaves them
swap_that_writes_anyway : ¬ (IsLegal (site 40 5)
    (Call a 0 1 (Put (1 ∷ 2 ∷ [])) Done ∷ Call a 1 2 (Swap 0 (7 ∷ []) (5 ∷ [])) (Differs (1 ∷ [])) ∷ Call a 2 3 (Read 0 1) (Bytes (5 ∷ [])) ∷ []))
swap_that_writes_anyway l = (let s = l.1.1.0.served refl refl in absurd (cc))

-- regions that don't tell leave nothing else open
long_where_bytes_are_open : ¬ (IsLegal (site_as false (shape 1 4 2 1 1 40 1 5000) 5 0) (Call a 0 1 (Write 0 (1 ∷ [])) Long ∷ []))
long_where_bytes_are_open l = (let s = l.0.served refl refl in absurd (cc))
