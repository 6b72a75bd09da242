-- Worked runs. First one of one client: a read, its node's failure, and a read that is lost.
use Rattle.std.proofs.Common.{◌≡◌, ◌≢◌, ℕ, zero, suc, ◌<◌, ◌≤◌, Bool, true, false, cond, eqb, Some, None, List, [], ◌∷◌, refl, sym, inl, inr, arith}
use Rattle.std.proofs.lemmas.Bool.{ne_eqb, false≢true}
use Rattle.cod_types.specs.Limits.{shape}
use Rattle.cod_types.specs.declared.call.SegId.{SegId}
use Rattle.cod_types.specs.declared.call.Caller.{Caller}
use Rattle.cod_types.specs.declared.call.Call.TheVariants.{Read, Write, Swap, Put, Drain}
use Rattle.cod_types.specs.declared.call.Reply.TheVariants.{Bytes, Done, Differs, Lost, Shifted}
use Rattle.cod_chronicle.specs.declared.entry.Entry.{Entry}
use Rattle.cod_chronicle.specs.declared.entry.Entry.TheVariants.{Call, Down, Move}
use Rattle.cod_chronicle.specs.declared.entry.Cause.TheVariants.{Killed}
use Rattle.cod_chronicle.specs.Said.{Site}
use Rattle.cod_chronicle.specs.Legal.{node_id}
use Rattle.cod_chronicle.specs.Sweep.{Proceeds}
use Rattle.cod_chronicle.proofs.Answering.{answer_served, answer_lost}
use Rattle.cod_script.specs.declared.line.Line.{Line}
use Rattle.cod_script.specs.declared.line.What.TheVariants.{Segment, Fail}
use Rattle.cod_script.specs.Script.{Script}
use Rattle.cod_chronicle.specs.Event.{NodeKill, Kills as Killings, Request}
use Rattle.cod_chronicle.specs.Standing.{OpenCalls}
use Rattle.cod_turns.specs.declared.turned.Turned.TheVariants.{Killed as NodeKilled, Held, Moved, Answered}
use Rattle.cod_turns.specs.Turns.{World, Course, start, setting, Serves, Kills, Turns, killed, AllEnded}
use Rattle.cod_turns.specs.Rounds.{IsRun}

abbrev a : Caller
a = record { 0 = 0 }

abbrev s0 : SegId
s0 = record { 0 = 0 }

abbrev first_line : Line
first_line = record { line = 10; what = Segment s0 (Read 0 1) }

abbrev fail_line : Line
fail_line = record { line = 11; what = Fail (node_id 0) }

abbrev last_line : Line
last_line = record { line = 12; what = Segment s0 (Read 0 1) }

abbrev alone : Script
alone = record {
  shape = shape 1 1 1 1 1 20 1 5000;
  nodes = 2;
  capacity = 100;
  segments = (115 ∷ []) ∷ [];
  clients = (record { name = 97 ∷ []; lines = first_line ∷ fail_line ∷ last_line ∷ [] }) ∷ [];
  schedule = [];
  workers = 0;
  rounds = 0;
}

abbrev course : Course
course = record { script = alone; may = λ x. false; told = true }

abbrev only : ℕ → ℕ → ℕ
only n c = cond (eqb c 0) n 0

only_other : (n m c : ℕ) → c ≢ 0 → only n c ≡ only m c
only_other n m c ne = (let e = ne_eqb c 0 ne in rw e refl)

only_first : (n c : ℕ) → c ≢ 0 → only n c ≡ 0
only_first n c ne = (let e = ne_eqb c 0 ne in rw e refl)

abbrev read_one : Entry
read_one = Call a 0 1 (Read 0 1) (Bytes (0 ∷ []))

abbrev marked : Entry
marked = Down 2 0 (node_id 0) (Killed 11)

abbrev read_two : Entry
read_two = Call a 1 3 (Read 0 1) Lost

abbrev no_kill : Killings
no_kill = λ x. None

abbrev none_open : ℕ → OpenCalls
none_open = λ s c. None

abbrev kill : NodeKill
kill = record { line = 11; clock = 1 }

abbrev w1 : World
w1 = record { chronicles = (read_one ∷ []) ∷ []; opened = none_open; board = no_kill; next = only 1; clock = only 1 }

abbrev w2 : World
w2 = record { chronicles = (read_one ∷ []) ∷ []; opened = none_open; board = killed no_kill 0 kill; next = only 2; clock = only 1 }

abbrev w3 : World
w3 = record { chronicles = (read_one ∷ marked ∷ read_two ∷ []) ∷ []; opened = none_open; board = killed no_kill 0 kill; next = only 3; clock = only 3 }

not_ended : (w : World) → w.next 0 < 3 → ¬ (AllEnded alone w)
not_ended w lt ended = (let e : 3 ≤ w.next 0 = ended 0 in omega (arith, e, lt))

all_ended : AllEnded alone w3
all_ended zero = omega arith
all_ended (suc who) = omega arith

first : Serves course 0 (start 1) w1 (Answered 0 1)
first = record {
  line = 10;
  seg = s0;
  call = Read 0 1;
  at = record { front = []; rest = fail_line ∷ last_line ∷ []; lines = refl; place = refl };
  h = [];
  entries = read_one ∷ [];
  there = refl;
  event = record {
    swept = [];
    clock = 0;
    rest = read_one ∷ [];
    are = refl;
    sweeps = inl (inr refl, (refl, refl));
    waits = λ held. absurd (false≢true held);
    tells = (refl, refl, refl, tt, refl, refl);
    stamped = (refl, refl);
    legal = (answer_served _ _ _ _ refl refl refl, tt);
    off = (tt, tt);
  };
  grown = refl;
  comes = (refl, refl, refl);
  next = refl;
  board = refl;
  others = λ c ne. (only_first 1 c ne, only_first 1 c ne);
  others_open = (λ s c ne. refl, λ c ne. refl);
}

second : Kills course.script 0 w1 w2
second = record {
  line = 11;
  node = node_id 0;
  at = record { front = first_line ∷ []; rest = last_line ∷ []; lines = refl; place = refl };
  board = λ y. refl;
  next = refl;
  clock = refl;
  same = refl;
  others = λ c ne. (only_other 2 1 c ne, refl);
  opened = refl;
}

third : Serves course 0 w2 w3 (Answered 2 3)
third = record {
  line = 12;
  seg = s0;
  call = Read 0 1;
  at = record { front = first_line ∷ fail_line ∷ []; rest = []; lines = refl; place = refl };
  h = read_one ∷ [];
  entries = marked ∷ read_two ∷ [];
  there = refl;
  event = record {
    swept = marked ∷ [];
    clock = 2;
    rest = read_two ∷ [];
    are = refl;
    sweeps = inr (2, 11, node_id 0, [], record { live = refl; there = refl; seen = (kill, refl, refl); stamp_is = refl }, refl, (refl, refl));
    waits = λ held. absurd (false≢true held);
    tells = (refl, refl, refl, tt, refl, refl);
    stamped = (refl, refl);
    legal = (answer_lost _ _ _ refl refl, tt);
    off = (tt, tt);
  };
  grown = refl;
  comes = (refl, refl, refl);
  next = refl;
  board = refl;
  others = λ c ne. (only_other 3 2 c ne, only_other 3 1 c ne);
  others_open = (λ s c ne. refl, λ c ne. refl);
}

pub run : IsRun course w3
run = record {
  scheduled = start 1;
  schedule = refl;
  count = 3;
  rounds = (
    not_ended (start 1) (omega arith),
    (
      w1,
      (w1, Answered 0 1, first, refl),
      (
        not_ended w1 (omega arith),
        (w2, (w2, NodeKilled, second, refl), (not_ended w2 (omega arith), (w3, (w3, Answered 2 3, third, refl), (refl, all_ended)))),
      ),
    ),
  );
}

-- ---- turns of two clients that write the same block: one call goes on, the other waits for it, and the first is answered

abbrev ours : Script
ours = record {
  shape = shape 1 1 1 1 1 20 1 5000;
  nodes = 2;
  capacity = 100;
  segments = (115 ∷ []) ∷ [];
  clients =
      (record { name = 97 ∷ []; lines = (record { line = 10; what = Segment s0 (Write 0 (5 ∷ [])) }) ∷ [] })
      ∷ (record { name = 98 ∷ []; lines = (record { line = 12; what = Segment s0 (Write 0 (6 ∷ [])) }) ∷ [] })
      ∷ [];
  schedule = [];
  workers = 0;
  rounds = 0;
}

abbrev both : Course
both = record { script = ours; may = λ x. false; told = true }

abbrev begun : ℕ → OpenCalls
begun s c = cond (eqb s 0) (cond (eqb c 0) (Some (0, Write 0 (5 ∷ []))) None) None

abbrev u1 : World
u1 = record { chronicles = [] ∷ []; opened = begun; board = no_kill; next = λ c. 0; clock = λ c. 0 }

abbrev written : Entry
written = Call a 0 1 (Write 0 (5 ∷ [])) Done

abbrev u3 : World
u3 = record { chronicles = (written ∷ []) ∷ []; opened = none_open; board = no_kill; next = only 1; clock = only 1 }

begun_away : (s c : ℕ) → s ≢ 0 → begun s c ≡ None
begun_away s c ne = (let e = ne_eqb s 0 ne in rw e refl)

begun_other : (c : ℕ) → c ≢ 0 → begun 0 c ≡ None
begun_other c ne = (let e = ne_eqb c 0 ne in rw e refl)

quiet : (held : Bool) (r : Request) → Proceeds (setting both (start 1) 0) r [] 0 [] 0 held false
quiet held r = record {
  swept = [];
  clock = 0;
  rest = [];
  are = refl;
  sweeps = inl (inr refl, (refl, refl));
  waits = λ h. refl;
  tells = refl;
  stamped = refl;
  legal = tt;
  off = tt;
}

goes_on : Serves both 0 (start 1) u1 Moved
goes_on = record {
  line = 10;
  seg = s0;
  call = Write 0 (5 ∷ []);
  at = record { front = []; rest = []; lines = refl; place = refl };
  h = [];
  entries = [];
  there = refl;
  event = quiet false (record { caller = 0; number = 0; call = Write 0 (5 ∷ []) });
  grown = refl;
  comes = refl;
  next = refl;
  board = refl;
  others = λ c ne. (refl, refl);
  others_open = (λ s c ne. begun_away s c ne, λ c ne. begun_other c ne);
}

waits : Serves both 1 u1 u1 (Held a 0)
waits = record {
  line = 12;
  seg = s0;
  call = Write 0 (6 ∷ []);
  at = record { front = []; rest = []; lines = refl; place = refl };
  h = [];
  entries = [];
  there = refl;
  event = quiet true (record { caller = 1; number = 0; call = Write 0 (6 ∷ []) });
  grown = refl;
  comes = (refl, refl, record { other = λ e. absurd (omega (arith, e)); call = Write 0 (5 ∷ []); holds = refl });
  next = refl;
  board = refl;
  others = λ c ne. (refl, refl);
  others_open = (λ s c ne. refl, λ c ne. refl);
}

ends : Serves both 0 u1 u3 (Answered 0 1)
ends = record {
  line = 10;
  seg = s0;
  call = Write 0 (5 ∷ []);
  at = record { front = []; rest = []; lines = refl; place = refl };
  h = [];
  entries = written ∷ [];
  there = refl;
  event = record {
    swept = [];
    clock = 0;
    rest = written ∷ [];
    are = refl;
    sweeps = inl (inr refl, (refl, refl));
    waits = λ held. absurd (false≢true held);
    tells = (refl, refl, refl, tt, refl, refl);
    stamped = (refl, refl);
    legal = (answer_served _ _ _ _ refl refl refl, tt);
    off = (tt, tt);
  };
  grown = refl;
  comes = (refl, refl, refl);
  next = refl;
  board = refl;
  others = λ c ne. (only_first 1 c ne, only_first 1 c ne);
  others_open = (λ s c ne. sym (begun_away s c ne), λ c ne. sym (begun_other c ne));
}

pub writers : Turns both (0 ∷ 1 ∷ 0 ∷ []) (start 1) u3
writers = (u1, Moved, goes_on, (u1, Held a 0, waits, (u3, Answered 0 1, ends, refl)))

-- ---- one event alone: a live column moves off node 2 to node 4, beside four columns on eight nodes

abbrev wide : Site
wide = record { shape = shape 1 4 2 1 1 100 1 5000; segment = 0; nodes = 8; told = true }

abbrev before : List Entry
before = Call a 0 1 (Put (1 ∷ 2 ∷ [])) Done ∷ Call a 1 2 (Write 0 (5 ∷ [])) Done ∷ []

pub drained : Proceeds (record { site = wide; known = no_kill; seen = no_kill; may = λ x. false }) (record { caller = 0; number = 2; call = Drain (node_id 2) }) before 2
    (Move 3 2 (node_id 4) ∷ Call a 2 4 (Drain (node_id 2)) (Shifted 2 (node_id 4)) ∷ []) 4 false true
drained = record {
  swept = [];
  clock = 2;
  rest = Move 3 2 (node_id 4) ∷ Call a 2 4 (Drain (node_id 2)) (Shifted 2 (node_id 4)) ∷ [];
  are = refl;
  sweeps = inl (inr refl, inl (inr refl, inl (inr refl, inl (inr refl, (refl, refl)))));
  waits = λ held. absurd (false≢true held);
  tells = (refl, refl, refl, tt, refl, refl);
  stamped = (refl, (refl, refl));
  legal = (
    record { column = omega arith; live = refl; arrives = record { enough = refl; there = omega arith; free = refl }; drain = (refl, refl) },
    (answer_served _ _ _ _ refl refl refl, tt),
  );
  off = (refl, (tt, tt));
}

-- and a swap that finds other bytes
pub swapped : Proceeds (record { site = wide; known = no_kill; seen = no_kill; may = λ x. false }) (record { caller = 0; number = 2; call = Swap 0 (1 ∷ []) (6 ∷ []) }) before 2
    (Call a 2 3 (Swap 0 (1 ∷ []) (6 ∷ [])) (Differs (5 ∷ [])) ∷ []) 3 false true
swapped = record {
  swept = [];
  clock = 2;
  rest = Call a 2 3 (Swap 0 (1 ∷ []) (6 ∷ [])) (Differs (5 ∷ [])) ∷ [];
  are = refl;
  sweeps = inl (inr refl, inl (inr refl, inl (inr refl, inl (inr refl, (refl, refl)))));
  waits = λ held. absurd (false≢true held);
  tells = (refl, refl, refl, tt, refl, refl);
  stamped = (refl, refl);
  legal = (answer_served _ _ _ _ refl refl refl, tt);
  off = (tt, tt);
}
