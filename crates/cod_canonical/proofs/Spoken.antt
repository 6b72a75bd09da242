-- The numbers and the bytes that the words of an accepted line give.
use Rattle.std.proofs.Common.{◌≡◌, ℕ, ◌<◌, ◌≤◌, ◌^◌, Bool, true, false, List, [], ◌∷◌, length, drop, take, replicate, refl, arith, cond, Result, Ok, Err, Option, Some, None, min, not}
use Rattle.std.specs.Prelude.{nat_le, nat_lt, ◌&&◌, IfOk}
use Rattle.std.specs.List.{list_all}
use Rattle.std.specs.Str.Parse.{digits_value}
use Rattle.std.proofs.lemmas.Bool.{leb-true, and_parts}
use Rattle.std.proofs.lemmas.Bool.Decides.{nat_tests}
use Rattle.std.proofs.lemmas.List.{length-replicate}
use Rattle.hex.specs.Hex.{decode_of}
use Rattle.hex.specs.declared.error.FromHexError.{FromHexError}
use Rattle.cod_types.specs.declared.call.Call.{Call}
use Rattle.cod_types.specs.declared.call.Call.TheVariants as calls
use Rattle.cod_words.specs.Words.{is_number, is_digit, number_of, data_of, repeated_data, plain_data}
use Rattle.cod_words.specs.declared.data.DataError.{DataError}
use Rattle.cod_words.specs.declared.data.DataError.TheVariants as data_errors
use Rattle.cod_scenario.specs.declared.refusal.Refusal.TheVariants as why
use Rattle.cod_scenario.specs.declared.said.Header.{Header}
use Rattle.cod_scenario.specs.declared.said.Said.{Said}
use Rattle.cod_scenario.specs.declared.said.Said.TheVariants as said
use Rattle.cod_scenario.specs.declared.said.Keyword.{Keyword}
use Rattle.cod_scenario.specs.declared.said.Keyword.TheVariants as key
use Rattle.cod_scenario.specs.declared.said.Verb.{Verb}
use Rattle.cod_scenario.specs.declared.said.Verb.TheVariants as verb
use Rattle.cod_scenario.specs.Judge.{wants, found, number, field, known, each_known, node, data_word, data_or, word, counted, codfs_line, nodes_line, code_line, only_field, field_line, added_name}
use Rattle.cod_scenario.specs.Judge.{segment_line, client_line, read_line, write_line, swap_line, put_line, plain_line, drain_line, fail_line, care_line, schedule_line, end_line, what_says, does_line}
use Rattle.cod_scenario.specs.Judge.{rest_says, words_mean, may_follow, last_of, is_end, keyword_of}
use Rattle.cod_scenario.specs.Lines.{header_of, segments_of, clients_of, bytes_of, floor_of}
use Rattle.cod_scenario.proofs.Accepting.{bind, Any, any}
use Rattle.cod_scenario.proofs.DataBytes.{IsDecoded, decoded, bytes_many}
use Rattle.cod_canonical.proofs.Datas.{IsData}
use Rattle.cod_canonical.proofs.ClientLines.{IsSpoken, IsSpokenCall}

-- what is known of a line beyond its limits
abbrev pub IsSaid : Said → Type 0
IsSaid (said.Nodes nodes capacity) = capacity < 2 ^ 32
IsSaid (said.Does line what) = IsSpoken what
IsSaid _ = Unit {0}

-- words no longer than a text can be
abbrev pub AreShort : List (List ℕ) → Type 0
AreShort ws = (i : ℕ) → length (word ws i) ≤ 16777216

-- ---- numbers

digits_small : (b : Bool) (w : List ℕ) → is_number w ≡ b → IfOk (found (cond b (Some (digits_value 10 w)) None) why.Number) (λ v. v < 2 ^ 32)
digits_small true w e =
    let p = and_parts (nat_le 1 (length w) && nat_le (length w) 10 && list_all is_digit w) (nat_le (digits_value 10 w) 4294967295) e in
    let small = leb-true (digits_value 10 w) 4294967295 p.1 in
    omega (arith, small)
digits_small false w e = tt

number_small : (w : List ℕ) → IfOk (number w) (λ v. v < 2 ^ 32)
unfolding number
number_small w = digits_small (is_number w) w refl

field_small : (low high : ℕ) (w : List ℕ) → IfOk (field low high w) (λ v. v < 2 ^ 32)
unfolding field
field_small low high w =
    bind (number w) _ (λ v. v < 2 ^ 32) (λ v. v < 2 ^ 32) (number_small w) (λ v small.
    bind (wants (nat_le low v && nat_le v high) why.Field) _ Any (λ v. v < 2 ^ 32) (any (wants (nat_le low v && nat_le v high) why.Field)) (λ u _. small))

-- ---- bytes

plain_good : (w : List ℕ) (r : Result (List ℕ) FromHexError) → length w ≤ 16777216 → IfOk r (IsDecoded w) → IfOk (plain_data r) IsData
plain_good w (Ok []) short h = tt
plain_good w (Ok (b ∷ bs)) short h = let l = h.1 in record { each = h.0; few = omega (arith, l, short) }
plain_good w (Err e) short h = tt

counted_good : (many : Bool) (n b : ℕ) → nat_lt 16777216 n ≡ many → b < 256 → IfOk (cond many (Err data_errors.Field) (Ok (replicate n b))) IsData
counted_good true n b e small = tt
counted_good false n b e small =
    let l = length-replicate n b in
    let few : n ≤ 16777216 = grind (arith, nat_tests, e) in
    record { each = bytes_many n b small; few = omega (arith, l, few) }

repeated_good : (w : List ℕ) (r : Result (List ℕ) FromHexError) (o : Option ℕ) → IfOk r (IsDecoded w) → IfOk (repeated_data r o) IsData
repeated_good w (Ok (b ∷ [])) (Some n) h = counted_good _ n b refl (h.0 0)
repeated_good w _ _ h = tt

either_good : (dash star : Bool) (w : List ℕ) → length w ≤ 16777216
    → IfOk (cond dash (Ok []) (cond star (repeated_data (decode_of (take 2 w)) (number_of (drop 3 w))) (plain_data (decode_of w)))) IsData
either_good true star w short = record { each = λ i. omega arith; few = omega arith }
either_good false true w short = repeated_good (take 2 w) (decode_of (take 2 w)) (number_of (drop 3 w)) (decoded (take 2 w))
either_good false false w short = plain_good w (decode_of w) short (decoded w)

named_reason : (r : Result (List ℕ) DataError) → IfOk r IsData → IfOk (data_or r) IsData
named_reason (Ok bytes) h = h
named_reason (Err data_errors.Field) h = tt
named_reason (Err e) h = tt

data_good : (w : List ℕ) → length w ≤ 16777216 → IfOk (data_word w) IsData
unfolding data_word
data_good w short = named_reason (data_of w) (either_good _ _ w short)

-- ---- the lines

codfs_good : (ws : List (List ℕ)) → IfOk (codfs_line ws) IsSaid
unfolding codfs_line
codfs_good ws = bind (counted ws 1) _ Any IsSaid (any (counted ws 1)) (λ u _. bind (field 1 2 (word ws 0)) _ Any IsSaid (any (field 1 2 (word ws 0))) (λ v _. tt))

nodes_good : (ws : List (List ℕ)) → IfOk (nodes_line ws) IsSaid
unfolding nodes_line
nodes_good ws =
    bind (counted ws 2) _ Any IsSaid (any (counted ws 2)) (λ u _.
    bind (field 1 64 (word ws 0)) _ Any IsSaid (any (field 1 64 (word ws 0))) (λ x _.
    bind (field 1 4294967295 (word ws 1)) _ (λ v. v < 2 ^ 32) IsSaid (field_small 1 4294967295 (word ws 1)) (λ capacity small. small)))

code_good : (h : Header) (ws : List (List ℕ)) → IfOk (code_line h ws) IsSaid
unfolding code_line
code_good h ws =
    bind (counted ws 2) _ Any IsSaid (any (counted ws 2)) (λ u _.
    bind (field 1 (min 16 h.nodes) (word ws 0)) _ Any IsSaid (any (field 1 (min 16 h.nodes) (word ws 0))) (λ n _.
    bind (field 1 n (word ws 1)) _ Any IsSaid (any (field 1 n (word ws 1))) (λ k _. tt)))

one_good : (low high : ℕ) (is : ℕ → Said) (ws : List (List ℕ)) → ((v : ℕ) → IsSaid (is v)) → IfOk (field_line low high is ws) IsSaid
unfolding field_line
one_good low high is ws f = bind (only_field low high ws) _ Any IsSaid (any (only_field low high ws)) (λ v _. f v)

segment_good : (names ws : List (List ℕ)) → IfOk (segment_line names ws) IsSaid
unfolding segment_line
segment_good names ws = bind (added_name 1024 names ws) _ Any IsSaid (any (added_name 1024 names ws)) (λ u _. tt)

client_good : (names ws : List (List ℕ)) → IfOk (client_line names ws) IsSaid
unfolding client_line
client_good names ws = bind (added_name 64 names ws) _ Any IsSaid (any (added_name 64 names ws)) (λ u _. tt)

care_good : (ws : List (List ℕ)) → IfOk (care_line ws) IsSaid
unfolding care_line
care_good ws =
    bind (counted ws 2) _ Any IsSaid (any (counted ws 2)) (λ u _.
    bind (field 0 16 (word ws 0)) _ Any IsSaid (any (field 0 16 (word ws 0))) (λ a _. bind (field 0 65536 (word ws 1)) _ Any IsSaid (any (field 0 65536 (word ws 1))) (λ b _. tt)))

schedule_good : (names ws : List (List ℕ)) → IfOk (schedule_line names ws) IsSaid
unfolding schedule_line
schedule_good names ws =
    bind (wants (nat_le 1 (length ws)) why.Count) _ Any IsSaid (any (wants (nat_le 1 (length ws)) why.Count)) (λ u _.
    bind (each_known names ws) _ Any IsSaid (any (each_known names ws)) (λ turns _. tt))

end_good : (ws : List (List ℕ)) → IfOk (end_line ws) IsSaid
unfolding end_line
end_good ws = bind (counted ws 0) _ Any IsSaid (any (counted ws 0)) (λ u _. tt)

read_good : (names ws : List (List ℕ)) → IfOk (read_line names ws) IsSpoken
unfolding read_line
read_good names ws =
    bind (counted ws 3) _ Any IsSpoken (any (counted ws 3)) (λ u _.
    bind (known names (word ws 0)) _ Any IsSpoken (any (known names (word ws 0))) (λ seg _.
    bind (number (word ws 1)) _ (λ v. v < 2 ^ 32) IsSpoken (number_small (word ws 1)) (λ off a.
    bind (number (word ws 2)) _ (λ v. v < 2 ^ 32) IsSpoken (number_small (word ws 2)) (λ len b. (a, b)))))

write_good : (names ws : List (List ℕ)) → AreShort ws → IfOk (write_line names ws) IsSpoken
unfolding write_line
write_good names ws short =
    bind (counted ws 3) _ Any IsSpoken (any (counted ws 3)) (λ u _.
    bind (known names (word ws 0)) _ Any IsSpoken (any (known names (word ws 0))) (λ seg _.
    bind (number (word ws 1)) _ (λ v. v < 2 ^ 32) IsSpoken (number_small (word ws 1)) (λ off a.
    bind (data_word (word ws 2)) _ IsData IsSpoken (data_good (word ws 2) (short 2)) (λ bytes b. (a, b)))))

swap_good : (names ws : List (List ℕ)) → AreShort ws → IfOk (swap_line names ws) IsSpoken
unfolding swap_line
swap_good names ws short =
    bind (counted ws 4) _ Any IsSpoken (any (counted ws 4)) (λ u _.
    bind (known names (word ws 0)) _ Any IsSpoken (any (known names (word ws 0))) (λ seg _.
    bind (number (word ws 1)) _ (λ v. v < 2 ^ 32) IsSpoken (number_small (word ws 1)) (λ off a.
    bind (data_word (word ws 2)) _ IsData IsSpoken (data_good (word ws 2) (short 2)) (λ old b.
    bind (data_word (word ws 3)) _ IsData IsSpoken (data_good (word ws 3) (short 3)) (λ new c. (a, b, c))))))

put_good : (names ws : List (List ℕ)) → AreShort ws → IfOk (put_line names ws) IsSpoken
unfolding put_line
put_good names ws short =
    bind (counted ws 2) _ Any IsSpoken (any (counted ws 2)) (λ u _.
    bind (known names (word ws 0)) _ Any IsSpoken (any (known names (word ws 0))) (λ seg _.
    bind (data_word (word ws 1)) _ IsData IsSpoken (data_good (word ws 1) (short 1)) (λ bytes b. b)))

plain_line_good : (call : Call) (names ws : List (List ℕ)) → IsSpokenCall call → IfOk (plain_line call names ws) IsSpoken
unfolding plain_line
plain_line_good call names ws good =
    bind (counted ws 1) _ Any IsSpoken (any (counted ws 1)) (λ u _. bind (known names (word ws 0)) _ Any IsSpoken (any (known names (word ws 0))) (λ seg _. good))

drain_good : (nodes : ℕ) (names ws : List (List ℕ)) → IfOk (drain_line nodes names ws) IsSpoken
unfolding drain_line
drain_good nodes names ws =
    bind (counted ws 2) _ Any IsSpoken (any (counted ws 2)) (λ u _.
    bind (known names (word ws 0)) _ Any IsSpoken (any (known names (word ws 0))) (λ seg _. bind (node nodes (word ws 1)) _ Any IsSpoken (any (node nodes (word ws 1))) (λ x _. tt)))

fail_good : (nodes : ℕ) (ws : List (List ℕ)) → IfOk (fail_line nodes ws) IsSpoken
unfolding fail_line
fail_good nodes ws = bind (counted ws 1) _ Any IsSpoken (any (counted ws 1)) (λ u _. bind (node nodes (word ws 0)) _ Any IsSpoken (any (node nodes (word ws 0))) (λ x _. tt))

what_good : (h : Header) (names : List (List ℕ)) (v : Verb) (ws : List (List ℕ)) → AreShort ws → IfOk (what_says h names v ws) IsSpoken
unfolding what_says
what_good h names verb.Read ws short = read_good names ws
what_good h names verb.Write ws short = write_good names ws short
what_good h names verb.Swap ws short = swap_good names ws short
what_good h names verb.Put ws short = put_good names ws short
what_good h names verb.Merge ws short = plain_line_good calls.Merge names ws tt
what_good h names verb.Tick ws short = plain_line_good calls.Tick names ws tt
what_good h names verb.Rebuild ws short = plain_line_good calls.Rebuild names ws tt
what_good h names verb.Upgrade ws short = plain_line_good calls.Upgrade names ws tt
what_good h names verb.Drain ws short = drain_good h.nodes names ws
what_good h names verb.Fail ws short = fail_good h.nodes ws

does_good : (h : Header) (names : List (List ℕ)) (n : ℕ) (v : Verb) (ws : List (List ℕ)) → AreShort ws → IfOk (does_line h names n v ws) IsSaid
unfolding does_line
does_good h names n v ws short = bind (what_says h names v ws) _ IsSpoken IsSaid (what_good h names v ws short) (λ what g. g)

rest_good : (h : Header) (segments clients : List (List ℕ)) (n : ℕ) (k : Keyword) (ws : List (List ℕ)) → AreShort ws → IfOk (rest_says h segments clients n k ws) IsSaid
unfolding rest_says
rest_good h segments clients n key.Codfs ws short = codfs_good ws
rest_good h segments clients n key.Nodes ws short = nodes_good ws
rest_good h segments clients n key.Code ws short = code_good h ws
rest_good h segments clients n key.Block ws short = one_good 1 1048576 said.Block ws (λ v. tt)
rest_good h segments clients n key.Update ws short = one_good 1 (min (bytes_of h) 65536) said.Update ws (λ v. tt)
rest_good h segments clients n key.Reserve ws short = one_good (floor_of h) 4194304 said.Reserve ws (λ v. tt)
rest_good h segments clients n key.Unit ws short = one_good 1 h.reserve said.Unit ws (λ v. tt)
rest_good h segments clients n key.Alpha ws short = one_good 0 10000 said.Alpha ws (λ v. tt)
rest_good h segments clients n key.Segment ws short = segment_good segments ws
rest_good h segments clients n key.Client ws short = client_good clients ws
rest_good h segments clients n (key.Does v) ws short = does_good h segments n v ws short
rest_good h segments clients n key.Care ws short = care_good ws
rest_good h segments clients n key.Schedule ws short = schedule_good clients ws
rest_good h segments clients n key.End ws short = end_good ws

pub words_good : (before : List Said) (n : ℕ) (first : List ℕ) (ws : List (List ℕ)) → AreShort ws → IfOk (words_mean before n first ws) IsSaid
unfolding words_mean
words_good before n first ws short =
    bind (wants (not (is_end (last_of before))) why.AfterEnd) _ Any IsSaid (any (wants (not (is_end (last_of before))) why.AfterEnd)) (λ u _.
    bind (found (keyword_of first) why.Word) _ Any IsSaid (any (found (keyword_of first) why.Word)) (λ k _.
    bind (wants (may_follow (header_of before).version (last_of before) k) why.Order) _ Any IsSaid (any (wants (may_follow (header_of before).version (last_of before) k) why.Order)) (λ v _.
    rest_good (header_of before) (segments_of before) (clients_of before) n k ws short)))
