-- What a number gives is a scenario.
use Rattle.std.proofs.Common.{◌≡◌, ℕ, zero, suc, ◌+◌, ◌*◌, ◌%◌, ◌<◌, ◌≤◌, ◌^◌, Bool, true, false, cond, nat_eq, List, [], ◌∷◌, ◌++◌, length, map, get_or, replicate, refl, sym, ap, ◌∙◌}
use Rattle.std.proofs.Common.{subst, arith}
use Rattle.std.specs.Prelude.{nat_le, ◌&&◌, ◌||◌}
use Rattle.std.specs.List.{All, AllByRecursion, flat_map, range_with_len, sum_by}
use Rattle.std.proofs.lemmas.List.Elements.{All-from_recursion}
use Rattle.std.proofs.lemmas.List.Sums.{sum_by-cons, sum_by-append}
use Rattle.std.proofs.lemmas.List.{length-map}
use Rattle.std.proofs.lemmas.List.FromFn.{length-range_with_len}
use Rattle.hex.specs.Hex.{IsBytes}
use Rattle.cod_types.specs.Limits.{Shape, shape, IsWithin}
use Rattle.cod_types.specs.declared.call.Call.{Call}
use Rattle.cod_types.specs.declared.call.Call.TheVariants.{Merge, Tick, Rebuild}
use Rattle.cod_words.specs.Words.{is_name}
use Rattle.cod_script.specs.declared.line.Line.{Line}
use Rattle.cod_script.specs.declared.line.What.{What}
use Rattle.cod_script.specs.declared.line.What.TheVariants.{Fail}
use Rattle.cod_script.specs.Room.{column_on, taken_by, taken_on, has_room}
use Rattle.cod_script.specs.Script.{Client}
use Rattle.cod_script.specs.Sound.{IsThere, IsLine, IsClient, IsDated, IsDatedClient, line_count, AllDiffer, NumbersRise, line_numbers, IsScenario}
use Rattle.cod_script.specs.Weight.{call_weight, what_weight, lines_weight, clients_weight, weight}
use Rattle.cod_script.proofs.RoomSums.{room_at}
use Rattle.cod_gen.specs.Drawn.{after, drawn}
use Rattle.cod_gen.specs.Generated.{on_segment, on_each, fail_and_rebuild, care_lines, reads_lines, read_line, write_line, round_lines, draws_ahead, client_lines, numbered, line_ahead, name_of}
use Rattle.cod_gen.specs.Generated.{client_of, all_segments, all_clients, generated}
use Rattle.cod_gen.proofs.Naming.{segment_name, client_name, one_name}
use Rattle.cod_gen.proofs.Rounds_drawn.{client_length}
use Rattle.cod_gen.proofs.Clients.{line_next}

abbrev form : Shape
form = shape 1 6 4 65536 4096 65536 4096 5000

within : IsWithin form
within = record {
  first_version = omega arith;
  last_version = omega arith;
  some_data = omega arith;
  data_among_columns = omega arith;
  most_columns = omega arith;
  some_bytes = omega arith;
  most_bytes = omega arith;
  some_update = omega arith;
  update_in_segment = omega arith;
  most_update = omega arith;
  least_reserve = omega arith;
  most_reserve = omega arith;
  some_unit = omega arith;
  unit_in_reserve = omega arith;
  most_alpha = omega arith;
}

-- ---- names

range-get : (a n i : ℕ) → i < n → get_or (range_with_len a n) i 0 ≡ a + i
range-get a zero i h = absurd (omega (arith, h))
range-get a (suc n) zero h = omega arith
range-get a (suc n) (suc i) h = let e = range-get (a + 1) n i (omega (arith, h)) in omega (arith, e)

module _ {A : Type 0} (f : ℕ → A) where
  table-get : (a n i : ℕ) (d : A) → i < n → get_or (map f (range_with_len a n)) i d ≡ f (a + i)
  table-get a zero i d h = absurd (omega (arith, h))
  table-get a (suc n) zero d h = let z : a ≡ a + 0 = omega arith in ap f z
  table-get a (suc n) (suc i) d h = let z : a + 1 + i ≡ a + suc i = omega arith in table-get (a + 1) n i d (omega (arith, h)) ∙ ap f z

  table-length : (a n : ℕ) → length (map f (range_with_len a n)) ≡ n
  table-length a n = length-map (range_with_len a n) f ∙ length-range_with_len a n

  table-all : (P : A → Type 0) (a n : ℕ) → ((i : ℕ) → a ≤ i → i < a + n → P (f i)) → AllByRecursion P (map f (range_with_len a n))
  table-all P a zero h = tt
  table-all P a (suc n) h = (h a (omega arith) (omega arith), table-all P (a + 1) n (λ i l u. h i (omega (arith, l)) (omega (arith, u))))

names_differ : (letter n : ℕ) → n < 2 ^ 64 → AllDiffer (map (name_of letter) (range_with_len 0 n))
names_differ letter n most i j li lj e =
    let l = table-length (name_of letter) 0 n in
    let a : i < n = omega (arith, li, l) in
    let b : j < n = omega (arith, lj, l) in
    let x = table-get (name_of letter) 0 n i [] a in
    let y = table-get (name_of letter) 0 n j [] b in
    let same : name_of letter (0 + i) ≡ name_of letter (0 + j) = sym x ∙ e ∙ y in
    let r = one_name letter (0 + i) (0 + j) (omega (arith, a, most)) (omega (arith, b, most)) same in
    omega (arith, r)

-- ---- the lines name what is there, and none asks for an upgrade

abbrev There : What → Type 0
There what = IsThere 12 40 what × IsDated 1 what

each-append : {A : Type 0} (P : A → Type 0) (xs ys : List A) → AllByRecursion P xs → AllByRecursion P ys → AllByRecursion P (xs ++ ys)
each-append P [] ys a b = b
each-append P (x ∷ xs) ys a b = (a.0, each-append P xs ys a.1 b)

each-flat : (P : What → Type 0) (f : ℕ → List What) (xs : List ℕ) → ((x : ℕ) → AllByRecursion P (f x)) → AllByRecursion P (flat_map f xs)
each-flat P f [] h = tt
each-flat P f (x ∷ xs) h = each-append P (f x) (flat_map f xs) (h x) (each-flat P f xs h)

bytes_of : (n b : ℕ) → b < 256 → IsBytes (replicate n b)
bytes_of zero b lt i = omega arith
bytes_of (suc n) b lt zero = lt
bytes_of (suc n) b lt (suc i) = bytes_of n b lt i

each_there : (call : Call) → ((s : ℕ) → s < 40 → There (on_segment s call)) → AllByRecursion There (on_each call)
unfolding on_each
each_there call h = table-all (λ s. on_segment s call) There 0 40 (λ i l u. h i (omega (arith, u)))

care_there : (client round : ℕ) → AllByRecursion There (care_lines client round)
care_there client round =
    by (nat_eq client 0 && nat_eq round 99) (nat_eq client 0 && nat_eq round 199) (nat_eq client 1 && nat_eq round 49) (nat_eq client 1 && nat_eq round 149) where
      by : (a b c d : Bool) → AllByRecursion There (cond a (fail_and_rebuild 3) (cond b (fail_and_rebuild 7) (cond c (on_each Merge) (cond d (on_each Tick) []))))
      by true b c d = ((omega arith, tt), each_there Rebuild (λ s lt. ((lt, tt, tt), tt)))
      by false true c d = ((omega arith, tt), each_there Rebuild (λ s lt. ((lt, tt, tt), tt)))
      by false false true d = each_there Merge (λ s lt. ((lt, tt, tt), tt))
      by false false false true = each_there Tick (λ s lt. ((lt, tt, tt), tt))
      by false false false false = tt

write_there : (x : ℕ) → There (write_line x)
write_there x = ((omega arith, tt, bytes_of 64 (drawn 256 (after 2 x)) (omega arith)), tt)

reads_there : (round x : ℕ) → AllByRecursion There (reads_lines round x)
reads_there round x = by (nat_eq (round % 10) 9) where
  by : (b : Bool) → AllByRecursion There (cond b (read_line x ∷ []) [])
  by true = (((omega arith, tt, tt), tt), tt)
  by false = tt

round_there : (client round x : ℕ) → AllByRecursion There (round_lines client round x)
round_there client round x = (write_there x, each-append There (reads_lines round (after 3 x)) (care_lines client round) (reads_there round (after 3 x)) (care_there client round))

client_there : (number client : ℕ) → AllByRecursion There (client_lines number client)
unfolding client_lines
client_there number client = each-flat There (λ round. round_lines client round (after (draws_ahead client round) number)) (range_with_len 0 200)
    (λ round. round_there client round (after (draws_ahead client round) number))

numbered_there : (n : ℕ) (ws : List What) → 1 ≤ n → AllByRecursion There ws → AllByRecursion (IsLine 12 40) (numbered n ws)
numbered_there n [] le a = tt
numbered_there n (w ∷ ws) le a = ((le, a.0.0), numbered_there (n + 1) ws (omega (arith, le)) a.1)

numbered_dated : (n : ℕ) (ws : List What) → AllByRecursion There ws → AllByRecursion (λ (l : Line). IsDated 1 l.what) (numbered n ws)
numbered_dated n [] a = tt
numbered_dated n (w ∷ ws) a = (a.0.1, numbered_dated (n + 1) ws a.1)

numbered_length : (n : ℕ) (ws : List What) → length (numbered n ws) ≡ length ws
numbered_length n [] = refl
numbered_length n (w ∷ ws) = ap suc (numbered_length (n + 1) ws)

client_sound : (number c : ℕ) → c < 8 → IsClient 12 40 (client_of number c)
client_sound number c lt = (
  client_name c lt,
  All-from_recursion (IsLine 12 40) (numbered (line_ahead number c + 1) (client_lines number c))
      (numbered_there (line_ahead number c + 1) (client_lines number c) (omega arith) (client_there number c)),
)

client_dated : (number c : ℕ) → IsDatedClient 1 (client_of number c)
client_dated number c =
    All-from_recursion (λ (l : Line). IsDated 1 l.what) (numbered (line_ahead number c + 1) (client_lines number c))
    (numbered_dated (line_ahead number c + 1) (client_lines number c) (client_there number c))

-- ---- few lines

sum-most : {A : Type 0} (f : A → ℕ) (g : ℕ → A) (m : ℕ) → ((i : ℕ) → f (g i) ≤ m) → (a n : ℕ) → sum_by f (map g (range_with_len a n)) ≤ n * m
sum-most f g m h a zero = omega arith
sum-most f g m h a (suc n) =
    let r = sum-most f g m h (a + 1) n in
    let o = h a in
    let e = sum_by-cons f (g a) (map g (range_with_len (a + 1) n)) in
    let p : suc n * m ≡ n * m + m = omega arith in
    omega (arith, r, o, e, p)

few : (number : ℕ) → line_count (all_clients number) < 2 ^ 32
unfolding all_clients
few number =
    let h = sum-most (λ (c : Client). length c.lines) (client_of number) 8600
    (λ c. let a = numbered_length (line_ahead number c + 1) (client_lines number c) in let b = client_length number c in omega (arith, a, b)) 0 8 in
    omega (arith, h)

-- ---- line numbers rise

numbers : List Line → List ℕ
numbers ls = map (λ l. l.line) ls

rise_numbered : (t n : ℕ) (ws : List What) (rest : List ℕ) → t < n → ((s : ℕ) → s < n + length ws → NumbersRise s rest) → NumbersRise t (map (λ l. l.line) (numbered n ws) ++ rest)
rise_numbered t n [] rest lt h = h t (omega (arith, lt))
rise_numbered t n (w ∷ ws) rest lt h = (lt, rise_numbered n (n + 1) ws rest (omega arith) (λ s l. h s (omega (arith, l))))

rise_clients : (number a n t : ℕ) → t < line_ahead number a + 1 → NumbersRise t (line_numbers (map (client_of number) (range_with_len a n)))
rise_clients number a zero t lt = tt
rise_clients number a (suc n) t lt =
    rise_numbered t (line_ahead number a + 1) (client_lines number a) (line_numbers (map (client_of number) (range_with_len (a + 1) n))) lt
    (λ s l. let e = line_next number a in rise_clients number (a + 1) n s (omega (arith, l, e)))

rise : (number : ℕ) → NumbersRise 0 (line_numbers (all_clients number))
unfolding all_clients
rise number = rise_clients number 0 8 0 (omega arith)

-- ---- room, and the weight

room_test : has_room form 12 16777216 40 ≡ true
unfolding has_room taken_on taken_by column_on
room_test = refl

each_weighs : (call : Call) (n : ℕ) → call_weight form call ≡ n → (a k : ℕ) → sum_by (what_weight form) (map (λ s. on_segment s call) (range_with_len a k)) ≡ k * n
unfolding what_weight
each_weighs call n e a zero = omega arith
each_weighs call n e a (suc k) =
    let h = each_weighs call n e (a + 1) k in
    let s = sum_by-cons (what_weight form) (on_segment a call) (map (λ s. on_segment s call) (range_with_len (a + 1) k)) in
    let p : suc k * n ≡ k * n + n = omega arith in
    omega (arith, h, s, p, e)

on_each_weighs : (call : Call) (n : ℕ) → call_weight form call ≡ n → sum_by (what_weight form) (on_each call) ≡ 40 * n
unfolding on_each
on_each_weighs call n e = each_weighs call n e 0 40

rebuild_weighs : call_weight form Rebuild ≡ 131072
unfolding call_weight
rebuild_weighs = refl

merge_weighs : call_weight form Merge ≡ 0
unfolding call_weight
merge_weighs = refl

tick_weighs : call_weight form Tick ≡ 0
unfolding call_weight
tick_weighs = refl

fail_weighs : (node : ℕ) → sum_by (what_weight form) (fail_and_rebuild node) ≡ 5242880
unfolding what_weight
fail_weighs node =
    let h = on_each_weighs Rebuild 131072 rebuild_weighs in
    let s = sum_by-cons (what_weight form) (Fail (record { 0 = node })) (on_each Rebuild) in
    omega (arith, h, s)

-- a bound of what a client's care weighs in a round
most_care : ℕ → ℕ
most_care round = cond (nat_eq round 99 || nat_eq round 199) 5242880 0

care_weighs : (client round : ℕ) → sum_by (what_weight form) (care_lines client round) ≤ most_care round
unfolding most_care
care_weighs client round = by (nat_eq client 0) (nat_eq client 1) (nat_eq round 99) (nat_eq round 199) (nat_eq round 49) (nat_eq round 149) where
  tick : (b : Bool) → sum_by (what_weight form) (cond b (on_each Tick) []) ≡ 0
  tick true = on_each_weighs Tick 0 tick_weighs
  tick false = refl

  merge : (a b : Bool) → sum_by (what_weight form) (cond a (on_each Merge) (cond b (on_each Tick) [])) ≡ 0
  merge true b = on_each_weighs Merge 0 merge_weighs
  merge false b = tick b

  by : (zeroth first a b c d : Bool)
      → sum_by (what_weight form) (cond (zeroth && a) (fail_and_rebuild 3) (cond (zeroth && b) (fail_and_rebuild 7) (cond (first && c) (on_each Merge) (cond (first && d) (on_each Tick) []))))
      ≤ cond (a || b) 5242880 0
  by true first true b c d = let h = fail_weighs 3 in omega (arith, h)
  by true first false true c d = let h = fail_weighs 7 in omega (arith, h)
  by true first false false c d = let h = merge (first && c) (first && d) in omega (arith, h)
  by false first a b c d = let h = merge (first && c) (first && d) in omega (arith, h)

read_weighs : (x : ℕ) → what_weight form (read_line x) ≤ 64
unfolding what_weight call_weight
read_weighs x = by (nat_le (drawn 262081 (after 1 x) + 64) 262144) where
  by : (b : Bool) → cond b 64 0 ≤ 64
  by true = omega arith
  by false = omega arith

replicate-length : (n b : ℕ) → length (replicate n b) ≡ n
replicate-length zero b = refl
replicate-length (suc n) b = ap suc (replicate-length n b)

write_weighs : (x : ℕ) → what_weight form (write_line x) ≡ 64
unfolding what_weight call_weight
write_weighs x = replicate-length 64 (drawn 256 (after 2 x))

reads_weigh : (round x : ℕ) → sum_by (what_weight form) (reads_lines round x) ≤ 64
reads_weigh round x = by (nat_eq (round % 10) 9) where
  by : (b : Bool) → sum_by (what_weight form) (cond b (read_line x ∷ []) []) ≤ 64
  by true = let s = sum_by-cons (what_weight form) (read_line x) [] in let r = read_weighs x in omega (arith, s, r)
  by false = omega arith

round_weighs : (client round x : ℕ) → sum_by (what_weight form) (round_lines client round x) ≤ 128 + most_care round
round_weighs client round x =
    let ws = reads_lines round (after 3 x) ++ care_lines client round in
    let a = sum_by-cons (what_weight form) (write_line x) ws in
    let b = sum_by-append (what_weight form) (reads_lines round (after 3 x)) (care_lines client round) in
    let c = write_weighs x in
    let d = reads_weigh round (after 3 x) in
    let e = care_weighs client round in
    omega (arith, a, b, c, d, e)

flat-weighs : (f : ℕ → List What) (g : ℕ → ℕ) → ((i : ℕ) → sum_by (what_weight form) (f i) ≤ g i) → (xs : List ℕ) → sum_by (what_weight form) (flat_map f xs) ≤ sum_by g xs
flat-weighs f g h [] = omega arith
flat-weighs f g h (x ∷ xs) =
    let a = sum_by-append (what_weight form) (f x) (flat_map f xs) in
    let b = sum_by-cons g x xs in
    let c = flat-weighs f g h xs in
    let d = h x in
    omega (arith, a, b, c, d)

most_rounds : sum_by (λ round. 128 + most_care round) (range_with_len 0 200) ≡ 10511360
unfolding most_care
most_rounds = refl

client_weighs : (number client : ℕ) → sum_by (what_weight form) (client_lines number client) ≤ 10511360
unfolding client_lines
client_weighs number client =
    let h = flat-weighs (λ round. round_lines client round (after (draws_ahead client round) number)) (λ round. 128 + most_care round)
    (λ round. round_weighs client round (after (draws_ahead client round) number)) (range_with_len 0 200) in
    let e = most_rounds in
    omega (arith, h, e)

numbered_weighs : (n : ℕ) (ws : List What) → sum_by (λ l. what_weight form l.what) (numbered n ws) ≡ sum_by (what_weight form) ws
numbered_weighs n [] = refl
numbered_weighs n (w ∷ ws) =
    let a = sum_by-cons (λ (l : Line). what_weight form l.what) (record { line = n; what = w }) (numbered (n + 1) ws) in
    let b = sum_by-cons (what_weight form) w ws in
    let h = numbered_weighs (n + 1) ws in
    omega (arith, a, b, h)

lines_weigh : (number c : ℕ) → lines_weight form ((client_of number c).lines) ≤ 10511360
unfolding lines_weight
lines_weigh number c =
    let a = numbered_weighs (line_ahead number c + 1) (client_lines number c) in
    let b = client_weighs number c in
    omega (arith, a, b)

clients_weigh : (number : ℕ) → clients_weight form (all_clients number) ≤ 84090880
unfolding clients_weight all_clients
clients_weigh number = sum-most (λ (c : Client). lines_weight form c.lines) (client_of number) 10511360 (lines_weigh number) 0 8

segment_count : length all_segments ≡ 40
unfolding all_segments
segment_count = table-length (name_of 115) 0 40

light : (number : ℕ) → weight (generated number) ≤ 268435456
unfolding weight
light number = let h = clients_weigh number in let c = segment_count in omega (arith, h, c)

-- ---- the whole

segments_sound : All (λ name. is_name name ≡ true) all_segments
unfolding all_segments
segments_sound = All-from_recursion (λ name. is_name name ≡ true) all_segments (table-all (name_of 115) (λ name. is_name name ≡ true) 0 40 (λ i l u. segment_name i (omega (arith, u))))

segments_differ : AllDiffer all_segments
unfolding all_segments
segments_differ = names_differ 115 40 (omega arith)

client_count : (number : ℕ) → length (all_clients number) ≡ 8
unfolding all_clients
client_count number = table-length (client_of number) 0 8

clients_sound : (number : ℕ) → All (IsClient 12 40) (all_clients number)
unfolding all_clients
clients_sound number = All-from_recursion (IsClient 12 40) (all_clients number) (table-all (client_of number) (IsClient 12 40) 0 8 (λ i l u. client_sound number i (omega (arith, u))))

clients_dated : (number : ℕ) → All (IsDatedClient 1) (all_clients number)
unfolding all_clients
clients_dated number = All-from_recursion (IsDatedClient 1) (all_clients number) (table-all (client_of number) (IsDatedClient 1) 0 8 (λ i l u. client_dated number i))

clients_differ : (number : ℕ) → AllDiffer (map (λ c. c.name) (all_clients number))
unfolding all_clients
clients_differ number = subst AllDiffer (sym (names 0 8)) (names_differ 99 8 (omega arith)) where
  names : (a n : ℕ) → map (λ (c : Client). c.name) (map (client_of number) (range_with_len a n)) ≡ map (name_of 99) (range_with_len a n)
  names a zero = refl
  names a (suc n) = ap (λ (l : List (List ℕ)). name_of 99 a ∷ l) (names (a + 1) n)

pub generated_is_scenario : (number : ℕ) → IsScenario (generated number)
generated_is_scenario number =
    let s = segment_count in
    let c = client_count number in
    record {
      shape = within;
      some_nodes = omega arith;
      most_nodes = omega arith;
      columns = omega arith;
      some_capacity = omega arith;
      some_segments = omega (arith, s);
      most_segments = omega (arith, s);
      segment_names = segments_sound;
      segments_differ = segments_differ;
      some_clients = omega (arith, c);
      most_clients = omega (arith, c);
      clients = subst (λ (n : ℕ). All (IsClient 12 n) (all_clients number)) (sym s) (clients_sound number);
      dated = clients_dated number;
      clients_differ = clients_differ number;
      few_lines = few number;
      lines_rise = rise number;
      turns = λ k d l. absurd (omega (arith, l));
      most_workers = omega arith;
      most_rounds = omega arith;
      room = λ x lt. subst (λ (n : ℕ). taken_on form 12 n x ≤ 16777216) (sym s) (room_at form 12 16777216 40 x lt room_test);
      light = light number;
    }
