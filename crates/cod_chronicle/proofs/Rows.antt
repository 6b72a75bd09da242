-- Worked chronicles that are legal.
use Rattle.std.proofs.Common.{true, false, inl, inr, ℕ, zero, suc, List, [], ◌∷◌, ◌++◌, refl, arith}
use Rattle.std.proofs.lemmas.List.Elements.{All-from_recursion}
use Rattle.cod_types.specs.Limits.{shape}
use Rattle.cod_types.specs.declared.call.Caller.{Caller}
use Rattle.cod_types.specs.declared.call.Call.TheVariants.{Read, Write, Swap, Put, Rebuild, Upgrade, Drain}
use Rattle.cod_types.specs.declared.call.Reply.TheVariants.{Bytes, Done, Range, Long, Lost, Whole, Rebuilt, NoSpare, NoMem, Differs, Shifted, Clear}
use Rattle.cod_types.specs.declared.reasons.Reason.{Reason}
use Rattle.cod_types.specs.declared.reasons.Why.{Why}
use Rattle.cod_types.specs.declared.reasons.Why.TheVariants as why
use Rattle.cod_chronicle.specs.declared.entry.Entry.{Entry}
use Rattle.cod_chronicle.specs.declared.entry.Entry.TheVariants.{Call, Down, Up, Move}
use Rattle.cod_chronicle.specs.declared.entry.Cause.TheVariants.{Killed, Fault}
use Rattle.cod_chronicle.specs.Said.{Site, site_as}
use Rattle.cod_chronicle.specs.Legal.{IsWhy, IsLiveOn, IsLegal, node_id}
use Rattle.cod_chronicle.proofs.Answering.{answer_refused, answer_lost, answer_served}

-- four columns, two of data, with blocks of one byte
abbrev pub site : (reserve nodes : ℕ) → Site
site reserve nodes = record { shape = shape 1 4 2 1 1 reserve 1 5000; segment = 0; nodes = nodes; told = true }

abbrev pub a : Caller
a = record { 0 = 0 }

abbrev pub b : Caller
b = record { 0 = 1 }

abbrev pub reason : ℕ → Why → Reason
reason x w = record { node = node_id x; why = w }

-- bytes are put, some are overwritten, all are read
read_all : IsLegal (record { shape = shape 1 2 2 4 4 46 1 5000; segment = 0; nodes = 2; told = true })
    (Call a 0 1 (Put (1 ∷ 2 ∷ 3 ∷ 4 ∷ 5 ∷ 6 ∷ 7 ∷ 8 ∷ [])) Done ∷ Call a 1 2 (Write 2 (170 ∷ 187 ∷ [])) Done
    ∷ Call a 2 3 (Read 0 8) (Bytes (1 ∷ 2 ∷ 170 ∷ 187 ∷ 5 ∷ 6 ∷ 7 ∷ 8 ∷ [])) ∷ [])
read_all = (answer_served _ _ _ _ refl refl refl, (answer_served _ _ _ _ refl refl refl, (answer_served _ _ _ _ refl refl refl, tt)))

-- a segment that nobody wrote is zero
read_zeros : IsLegal (site 40 5) (Call a 0 1 (Read 0 2) (Bytes (0 ∷ 0 ∷ [])) ∷ [])
read_zeros = (answer_served _ _ _ _ refl refl refl, tt)

-- no bytes, no room, too many bytes: the range comes first
refused : IsLegal (site 40 5)
    (Call a 0 1 (Read 0 0) (Bytes []) ∷ Call a 1 2 (Read 2 0) (Bytes []) ∷ Call a 2 3 (Write 2 []) Done ∷ Call a 3 4 (Read 2 1) Range ∷ Call a 4 5 (Write 3 []) Range
    ∷ Call a 5 6 (Write 0 (1 ∷ 2 ∷ [])) Long ∷ Call a 6 7 (Write 1 (1 ∷ 2 ∷ [])) Range ∷ Call a 7 8 (Put (1 ∷ [])) Long ∷ [])
refused = (
  answer_served _ _ _ _ refl refl refl,
  (
    answer_served _ _ _ _ refl refl refl,
    (
      answer_served _ _ _ _ refl refl refl,
      (
        answer_refused _ _ _ _ refl,
        (answer_refused _ _ _ _ refl, (answer_refused _ _ _ _ refl, (answer_refused _ _ _ _ refl, (answer_refused _ _ _ _ refl, tt)))),
      ),
    ),
  ),
)

-- a write is done where its entry stands, and not before
old_bytes_before_a_write : IsLegal (site 40 5)
    (Call a 0 1 (Put (1 ∷ 2 ∷ [])) Done ∷ Call b 0 2 (Read 0 1) (Bytes (1 ∷ [])) ∷ Call b 1 3 (Read 0 1) (Bytes (1 ∷ [])) ∷ Call a 1 4 (Write 0 (5 ∷ [])) Done ∷ [])
old_bytes_before_a_write =
    (answer_served _ _ _ _ refl refl refl, (answer_served _ _ _ _ refl refl refl, (answer_served _ _ _ _ refl refl refl, (answer_served _ _ _ _ refl refl refl, tt))))

-- a node fails, and nothing is lost
read_with_one_down : IsLegal (site 40 5)
    (Call a 0 1 (Put (1 ∷ 2 ∷ [])) Done ∷ Down 2 0 (node_id 0) (Killed 14) ∷ Call b 0 3 (Read 0 1) (Bytes (1 ∷ [])) ∷ Call a 1 4 (Write 0 (5 ∷ [])) Done
    ∷ Call b 1 5 (Read 0 1) (Bytes (5 ∷ [])) ∷ [])
read_with_one_down = (
  answer_served _ _ _ _ refl refl refl,
  (
    record { column = omega arith; live = refl; there = refl },
    (
      answer_served _ _ _ _ refl refl refl,
      (answer_served _ _ _ _ refl refl refl, (answer_served _ _ _ _ refl refl refl, tt)),
    ),
  ),
)

-- copies: the last of three columns is enough
read_the_last_copy : IsLegal (record { shape = shape 1 3 1 1 1 20 1 5000; segment = 0; nodes = 3; told = true })
    (Call a 0 1 (Put (7 ∷ [])) Done ∷ Down 2 0 (node_id 0) (Killed 12) ∷ Down 3 1 (node_id 1) (Fault 1) ∷ Call a 1 4 (Read 0 1) (Bytes (7 ∷ [])) ∷ [])
read_the_last_copy = (
  answer_served _ _ _ _ refl refl refl,
  (
    record { column = omega arith; live = refl; there = refl },
    (
      record { column = omega arith; live = refl; there = refl },
      (answer_served _ _ _ _ refl refl refl, tt),
    ),
  ),
)

-- two columns may be down; with a third each call is lost
lost_with_three_down : IsLegal (site 40 5)
    (Call a 0 1 (Put (1 ∷ 2 ∷ [])) Done ∷ Down 2 2 (node_id 2) (Killed 12) ∷ Down 3 3 (node_id 3) (Killed 13) ∷ Call a 1 4 (Read 0 2) (Bytes (1 ∷ 2 ∷ []))
    ∷ Down 5 1 (node_id 1) (Killed 15) ∷ Call a 2 6 (Read 0 2) Lost ∷ Call a 3 7 Rebuild Lost ∷ Call a 4 8 (Read 2 1) Range ∷ [])
lost_with_three_down = (
  answer_served _ _ _ _ refl refl refl,
  (
    record { column = omega arith; live = refl; there = refl },
    (
      record { column = omega arith; live = refl; there = refl },
      (
        answer_served _ _ _ _ refl refl refl,
        (
          record { column = omega arith; live = refl; there = refl },
          (
            answer_lost _ _ _ refl refl,
            (
              answer_lost _ _ _ refl refl,
              (answer_refused _ _ _ _ refl, tt),
            ),
          ),
        ),
      ),
    ),
  ),
)

-- two nodes fail, both columns are rebuilt, and a third node fails
rebuilt_twice : IsLegal (site 40 8)
    (Call a 0 1 (Put (1 ∷ 2 ∷ [])) Done ∷ Down 2 0 (node_id 0) (Killed 12) ∷ Down 3 1 (node_id 1) (Killed 13) ∷ Up 4 0 (node_id 4) ∷ Call a 1 5 Rebuild (Rebuilt 0 (node_id 4))
    ∷ Up 6 1 (node_id 5) ∷ Call a 2 7 Rebuild (Rebuilt 1 (node_id 5)) ∷ Down 8 0 (node_id 4) (Killed 16) ∷ Call a 3 9 (Read 0 2) (Bytes (1 ∷ 2 ∷ [])) ∷ [])
rebuilt_twice = (
  answer_served _ _ _ _ refl refl refl,
  (
    record { column = omega arith; live = refl; there = refl },
    (
      record { column = omega arith; live = refl; there = refl },
      (
        record { down = refl; arrives = record { enough = refl; there = omega arith; free = refl }; rebuild = (refl, refl) },
        (
          answer_served _ _ _ _ refl refl refl,
          (
            record { down = refl; arrives = record { enough = refl; there = omega arith; free = refl }; rebuild = (refl, refl) },
            (
              answer_served _ _ _ _ refl refl refl,
              (record { column = omega arith; live = refl; there = refl }, (answer_served _ _ _ _ refl refl refl, tt)),
            ),
          ),
        ),
      ),
    ),
  ),
)

-- all bytes are replaced while a column is rebuilt
put_amid_a_rebuild : IsLegal (site 40 5)
    (Call a 0 1 (Put (1 ∷ 1 ∷ [])) Done ∷ Down 2 0 (node_id 0) (Killed 12) ∷ Call b 0 3 (Put (2 ∷ 2 ∷ [])) Done ∷ Up 4 0 (node_id 4) ∷ Call a 1 5 Rebuild (Rebuilt 0 (node_id 4))
    ∷ Call b 1 6 (Read 0 2) (Bytes (2 ∷ 2 ∷ [])) ∷ [])
put_amid_a_rebuild = (
  answer_served _ _ _ _ refl refl refl,
  (
    record { column = omega arith; live = refl; there = refl },
    (
      answer_served _ _ _ _ refl refl refl,
      (
        record { down = refl; arrives = record { enough = refl; there = omega arith; free = refl }; rebuild = (refl, refl) },
        (
          answer_served _ _ _ _ refl refl refl,
          (answer_served _ _ _ _ refl refl refl, tt),
        ),
      ),
    ),
  ),
)

-- nothing is down
rebuild_of_a_whole_segment : IsLegal (site 40 5) (Call a 0 1 Rebuild Whole ∷ [])
rebuild_of_a_whole_segment = (answer_served _ _ _ _ refl refl refl, tt)

-- the one node outside is down
no_spare_that_is_up : IsLegal (site 40 5) (Down 1 0 (node_id 0) (Killed 12) ∷ Call a 0 2 Rebuild (NoSpare (reason 4 (why.Down 11) ∷ [])) ∷ [])
no_spare_that_is_up = (
  record { column = omega arith; live = refl; there = refl },
  (answer_served _ _ _ _ refl refl (0, refl, record { nodes = refl; whys = All-from_recursion (λ r. IsWhy (shape 1 4 2 1 1 40 1 5000) 0 r.why) (reason 4 (why.Down 11) ∷ []) (omega arith, tt) }), tt),
)

-- no node is outside
no_node_outside : IsLegal (site 40 4) (Down 1 0 (node_id 0) (Killed 12) ∷ Call a 0 2 Rebuild (NoSpare []) ∷ [])
no_node_outside = (
  record { column = omega arith; live = refl; there = refl },
  (answer_served _ _ _ _ refl refl (0, refl, record { nodes = refl; whys = All-from_recursion (λ r. IsWhy (shape 1 4 2 1 1 40 1 5000) 0 r.why) [] tt }), tt),
)

-- the one node outside has one byte of the 41 that a parity column needs
no_spare_with_room : IsLegal (site 40 5) (Down 1 2 (node_id 2) (Killed 13) ∷ Call a 0 2 Rebuild (NoSpare (reason 4 (why.Free 1) ∷ [])) ∷ [])
no_spare_with_room = (
  record { column = omega arith; live = refl; there = refl },
  (answer_served _ _ _ _ refl refl (2, refl, record { nodes = refl; whys = All-from_recursion (λ r. IsWhy (shape 1 4 2 1 1 40 1 5000) 2 r.why) (reason 4 (why.Free 1) ∷ []) (omega arith, tt) }), tt),
)

-- the reasons of several nodes come in cyclic order after node 2, which the column had: 3, 4 and 0
reasons_in_cyclic_order : IsLegal (record { shape = shape 1 2 1 1 1 20 1 5000; segment = 1; nodes = 5; told = true })
    (Down 1 1 (node_id 2) (Fault 3) ∷ Call a 0 2 Rebuild (NoSpare (reason 3 (why.Down 11) ∷ reason 4 (why.Fault 1) ∷ reason 0 (why.Free 20) ∷ [])) ∷ [])
reasons_in_cyclic_order = (
  record { column = omega arith; live = refl; there = refl },
  (
    answer_served _ _ _ _ refl refl (
      1,
      refl,
      record {
        nodes = refl;
        whys = All-from_recursion (λ r. IsWhy (shape 1 2 1 1 1 20 1 5000) 1 r.why) (reason 3 (why.Down 11) ∷ reason 4 (why.Fault 1) ∷ reason 0 (why.Free 20) ∷ [])
            (omega arith, (omega arith, (omega arith, tt)));
      },
    ),
    tt,
  ),
)

-- a swap compares: done where the bytes are the old ones, and otherwise it tells them
swapped : IsLegal (site 40 5)
    (Call a 0 1 (Put (1 ∷ 2 ∷ [])) Done ∷ Call a 1 2 (Swap 0 (1 ∷ []) (5 ∷ [])) Done ∷ Call a 2 3 (Swap 0 (1 ∷ []) (6 ∷ [])) (Differs (5 ∷ [])) ∷ Call a 3 4 (Read 0 2) (Bytes (5 ∷ 2 ∷ []))
    ∷ Call a 4 5 (Swap 0 (5 ∷ []) []) Long ∷ Call a 5 6 (Swap 2 (5 ∷ []) (6 ∷ [])) Range ∷ Call a 6 7 Upgrade Done ∷ [])
swapped = (
  answer_served _ _ _ _ refl refl refl,
  (
    answer_served _ _ _ _ refl refl refl,
    (
      answer_served _ _ _ _ refl refl refl,
      (
        answer_served _ _ _ _ refl refl refl,
        (answer_refused _ _ _ _ refl, (answer_refused _ _ _ _ refl, (answer_served _ _ _ _ refl refl refl, tt))),
      ),
    ),
  ),
)

-- what stands before the second drain of the next chronicle
abbrev pub moved_off_2 : List Entry
moved_off_2 = Call a 0 1 (Put (1 ∷ 2 ∷ [])) Done ∷ Call a 1 2 (Write 0 (5 ∷ [])) Done ∷ Move 3 2 (node_id 4) ∷ Call a 2 4 (Drain (node_id 2)) (Shifted 2 (node_id 4)) ∷ []

none_on_2 : (c : ℕ) → ¬ (IsLiveOn (site 100 8) moved_off_2 2 c)
none_on_2 zero l = (let e = l.there in absurd (omega arith))
none_on_2 (suc zero) l = (let e = l.there in absurd (omega arith))
none_on_2 (suc (suc zero)) l = (let e = l.there in absurd (omega arith))
none_on_2 (suc (suc (suc zero))) l = (let e = l.there in absurd (omega arith))
none_on_2 (suc (suc (suc (suc c)))) l = (let e = l.column in absurd (omega arith))

-- a column is moved off a node, and then nothing is there
drained : IsLegal (site 100 8) (moved_off_2 ++ (Call a 3 5 (Drain (node_id 2)) Clear ∷ Call a 4 6 (Read 0 2) (Bytes (5 ∷ 2 ∷ [])) ∷ []))
drained = (
  answer_served _ _ _ _ refl refl refl,
  (
    answer_served _ _ _ _ refl refl refl,
    (
      record { column = omega arith; live = refl; arrives = record { enough = refl; there = omega arith; free = refl }; drain = (refl, refl) },
      (
        answer_served _ _ _ _ refl refl refl,
        (answer_served _ _ _ _ refl refl none_on_2, (answer_served _ _ _ _ refl refl refl, tt)),
      ),
    ),
  ),
)

-- no node takes the column that is drained
no_spare_for_a_drain : IsLegal (site 40 5) (Call a 0 1 (Drain (node_id 2)) (NoSpare (reason 4 (why.Free 40) ∷ [])) ∷ Call a 1 2 (Drain (node_id 2)) NoMem ∷ [])
no_spare_for_a_drain = (
  answer_served _ _ _ _ refl refl (
    2,
    record { column = omega arith; live = refl; there = refl },
    record { nodes = refl; whys = All-from_recursion (λ r. IsWhy (shape 1 4 2 1 1 40 1 5000) 2 r.why) (reason 4 (why.Free 40) ∷ []) (omega arith, tt) },
  ),
  (answer_served _ _ _ _ refl refl (2, record { column = omega arith; live = refl; there = refl }), tt),
)

-- regions that don't tell leave the bytes of replies open, and whether a swap found what it was to find
any_bytes : IsLegal (site_as false (shape 1 4 2 1 1 40 1 5000) 5 0)
    (Call a 0 1 (Put (1 ∷ 2 ∷ [])) Done ∷ Call a 1 2 (Read 0 2) (Bytes (8 ∷ 9 ∷ [])) ∷ Call a 2 3 (Swap 0 (7 ∷ []) (6 ∷ [])) Done ∷ Call a 3 4 (Swap 0 (7 ∷ []) (6 ∷ [])) (Differs (7 ∷ [])) ∷ [])
any_bytes = (
  answer_served _ _ _ _ refl refl refl,
  (
    answer_served _ _ _ _ refl refl (8 ∷ 9 ∷ [], refl, refl),
    (
      answer_served _ _ _ _ refl refl (inl refl),
      (answer_served _ _ _ _ refl refl (inr (7 ∷ [], refl, refl)), tt),
    ),
  ),
)
