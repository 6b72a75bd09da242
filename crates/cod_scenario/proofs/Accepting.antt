-- What the words of an accepted line give.
use Rattle.std.proofs.Common.{◌≡◌, ℕ, ◌<◌, ◌≤◌, Bool, true, false, List, [], ◌∷◌, length, refl, arith, Result, Ok, Err, Option, Some, None, not, min}
use Rattle.std.specs.Prelude.{nat_le, nat_lt, ◌&&◌, IfOk}
use Rattle.std.specs.List.{All, list_any, position}
use Rattle.std.specs.Str.{bytes_eq}
use Rattle.std.proofs.lemmas.Bool.{leb-true, ltb-true, eqb-true, false≢true}
use Rattle.std.proofs.lemmas.List.Elements.{All-nil, All-cons}
use Rattle.std.proofs.lemmas.List.Quantifiers.{position-Some}
use Rattle.cod_words.specs.Words.{is_name}
use Rattle.cod_types.specs.declared.call.Call.{Call}
use Rattle.cod_types.specs.declared.call.Call.TheVariants as calls
use Rattle.cod_script.specs.declared.line.What.{What}
use Rattle.cod_scenario.specs.declared.refusal.Refusal.{Refusal}
use Rattle.cod_scenario.specs.declared.refusal.Refusal.TheVariants as why
use Rattle.cod_scenario.specs.declared.said.Header.{Header}
use Rattle.cod_scenario.specs.declared.said.Said.{Said}
use Rattle.cod_scenario.specs.declared.said.Said.TheVariants as said
use Rattle.cod_scenario.specs.declared.said.Keyword.{Keyword}
use Rattle.cod_scenario.specs.declared.said.Keyword.TheVariants as key
use Rattle.cod_scenario.specs.declared.said.Verb.{Verb}
use Rattle.cod_scenario.specs.declared.said.Verb.TheVariants as verb
use Rattle.cod_scenario.specs.Judge.{◌>>=◌, wants, found, number, field, known, each_known, node, data_word, word, counted, codfs_line, nodes_line, code_line, only_field, field_line, new_name}
use Rattle.cod_scenario.specs.Judge.{added_name, segment_line, client_line, read_line, write_line, swap_line, put_line, plain_line, drain_line, fail_line, care_line, schedule_line, end_line}
use Rattle.cod_scenario.specs.Judge.{what_says, does_line, rest_says, words_mean, may_follow, last_of, is_end, keyword_of}
use Rattle.hex.specs.Hex.{IsBytes}
use Rattle.cod_script.specs.Sound.{HasBytes, IsThere, IsDated, IsDatedCall, NamesNode}
use Rattle.cod_scenario.specs.Lines.{header_of, body_of, segments_of, clients_of, bytes_of, floor_of}
use Rattle.cod_script.specs.Script.{Body}
use Rattle.cod_scenario.specs.Reading.{AreBefore, HasSome, IsSaidAt, place_of}
use Rattle.cod_scenario.proofs.DataBytes.{data_in}

-- ---- sequences

pub bind : {A B : Type 0} (r : Result A Refusal) (f : A → Result B Refusal) (Q : A → Type 0) (P : B → Type 0)
    → IfOk r Q → ((x : A) → Q x → IfOk (f x) P) → IfOk (r >>= f) P
bind (Ok x) f Q P q h = h x q
bind (Err w) f Q P q h = tt

-- whatever it gives
abbrev pub Any : {A : Type 0} → A → Type 0
Any x = Unit {0}

pub any : {A : Type 0} (r : Result A Refusal) → IfOk r Any
any (Ok x) = tt
any (Err w) = tt

pub wanted : (b : Bool) (w : Refusal) → IfOk (wants b w) (λ _. b ≡ true)
wanted true w = refl
wanted false w = tt

and_left : (a b : Bool) → (a && b) ≡ true → a ≡ true
and_left true b e = refl
and_left false b e = e

and_right : (a b : Bool) → (a && b) ≡ true → b ≡ true
and_right true b e = e
and_right false b e = absurd (false≢true e)

-- ---- words

pub field_in : (low high : ℕ) (w : List ℕ) → IfOk (field low high w) (λ v. (low ≤ v) × (v ≤ high))
unfolding field
field_in low high w =
    bind (number w) _ Any (λ v. (low ≤ v) × (v ≤ high)) (any (number w)) (λ v _.
    bind (wants (nat_le low v && nat_le v high) why.Field) _ (λ _. (nat_le low v && nat_le v high) ≡ true) (λ v. (low ≤ v) × (v ≤ high))
    (wanted _ why.Field) (λ u e. (leb-true low v (and_left _ _ e), leb-true v high (and_right _ _ e))))

found_at : {A : Type 0} (o : Option A) (w : Refusal) (P : A → Type 0) → ((x : A) → o ≡ Some x → P x) → IfOk (found o w) P
found_at (Some x) w P h = h x refl
found_at None w P h = tt

position_in : (p : List ℕ → Bool) (names : List (List ℕ)) (i : ℕ) → position p names ≡ Some i → i < length names
position_in p names i e = (position-Some p names i [] e).0

pub known_in : (names : List (List ℕ)) (w : List ℕ) → IfOk (known names w) (λ i. i < length names)
unfolding known
known_in names w =
    bind (wants (is_name w) why.Name) _ Any (λ i. i < length names) (any (wants (is_name w) why.Name)) (λ u _.
    found_at (position (bytes_eq w) names) why.Unknown (λ i. i < length names) (position_in (bytes_eq w) names))

pub each_in : (names ws : List (List ℕ)) → IfOk (each_known names ws) (All (λ i. i < length names))
unfolding each_known
each_in names [] = All-nil (λ i. i < length names)
each_in names (w ∷ ws) =
    bind (known names w) _ (λ i. i < length names) (All (λ i. i < length names)) (known_in names w) (λ i lt.
    bind (each_known names ws) _ (All (λ i. i < length names)) (All (λ i. i < length names)) (each_in names ws) (λ is all. All-cons (λ i. i < length names) i is lt all))

pub node_in : (nodes : ℕ) (w : List ℕ) → IfOk (node nodes w) (λ x. x < nodes)
unfolding node
node_in nodes w =
    bind (number w) _ Any (λ x. x < nodes) (any (number w)) (λ v _.
    bind (wants (nat_lt v nodes) why.Node) _ (λ _. nat_lt v nodes ≡ true) (λ x. x < nodes) (wanted _ why.Node) (λ u e. ltb-true v nodes e))

-- ---- the order of the lines

abbrev pub place_of_key : Keyword → ℕ
place_of_key key.Codfs = 0
place_of_key key.Nodes = 1
place_of_key key.Code = 2
place_of_key key.Block = 3
place_of_key key.Update = 4
place_of_key key.Reserve = 5
place_of_key key.Unit = 6
place_of_key key.Alpha = 7
place_of_key _ = 8

pub follows_place : (version : ℕ) (last : Option Said) (w : Keyword) → may_follow version last w ≡ true → place_of last ≡ place_of_key w
unfolding may_follow
follows_place version None key.Codfs e = refl
follows_place version (Some (said.Codfs v)) key.Nodes e = refl
follows_place version (Some (said.Nodes n cap)) key.Code e = refl
follows_place version (Some (said.Code n k)) key.Block e = refl
follows_place version (Some (said.Block b)) key.Update e = refl
follows_place version (Some (said.Update u)) key.Reserve e = refl
follows_place version (Some (said.Reserve r)) key.Unit e = refl
follows_place version (Some (said.Unit x)) key.Alpha e = refl
follows_place version (Some (said.Alpha a)) key.Segment e = refl
follows_place version (Some (said.Segment name)) key.Segment e = refl
follows_place version (Some (said.Segment name)) key.Client e = refl
follows_place version (Some (said.Client name)) key.Client e = refl
follows_place version (Some (said.Client name)) (key.Does v) e = refl
follows_place version (Some (said.Client name)) key.Care e = refl
follows_place version (Some (said.Client name)) key.Schedule e = refl
follows_place version (Some (said.Client name)) key.End e = refl
follows_place version (Some (said.Does line what)) key.Client e = refl
follows_place version (Some (said.Does line what)) (key.Does v) e = refl
follows_place version (Some (said.Does line what)) key.Care e = refl
follows_place version (Some (said.Does line what)) key.Schedule e = refl
follows_place version (Some (said.Does line what)) key.End e = refl
follows_place version (Some (said.Care w r)) key.Schedule e = refl
follows_place version (Some (said.Care w r)) key.End e = refl
follows_place version (Some (said.Schedule t)) key.Schedule e = refl
follows_place version (Some (said.Schedule t)) key.End e = refl
follows_place version _ _ e = absurd (false≢true e)

abbrev pub NeedsKey : Keyword → Body → Type 0
NeedsKey key.Client p = 1 ≤ length p.segments
NeedsKey (key.Does v) p = (1 ≤ length p.segments) × (1 ≤ length p.clients)
NeedsKey key.Care p = (1 ≤ length p.segments) × (1 ≤ length p.clients)
NeedsKey key.Schedule p = (1 ≤ length p.segments) × (1 ≤ length p.clients)
NeedsKey key.End p = (1 ≤ length p.segments) × (1 ≤ length p.clients)
NeedsKey _ p = Unit {0}

pub follows_needs : (version : ℕ) (last : Option Said) (w : Keyword) (p : Body) → may_follow version last w ≡ true → HasSome last p → NeedsKey w p
unfolding may_follow
follows_needs version (Some (said.Segment name)) key.Client p e h = h
follows_needs version (Some (said.Client name)) key.Client p e h = h.0
follows_needs version (Some (said.Client name)) (key.Does v) p e h = h
follows_needs version (Some (said.Client name)) key.Care p e h = h
follows_needs version (Some (said.Client name)) key.Schedule p e h = h
follows_needs version (Some (said.Client name)) key.End p e h = h
follows_needs version (Some (said.Does line what)) key.Client p e h = h.0
follows_needs version (Some (said.Does line what)) (key.Does v) p e h = h
follows_needs version (Some (said.Does line what)) key.Care p e h = h
follows_needs version (Some (said.Does line what)) key.Schedule p e h = h
follows_needs version (Some (said.Does line what)) key.End p e h = h
follows_needs version (Some (said.Care w r)) key.Schedule p e h = h
follows_needs version (Some (said.Care w r)) key.End p e h = h
follows_needs version (Some (said.Schedule t)) key.Schedule p e h = h
follows_needs version (Some (said.Schedule t)) key.End p e h = h
follows_needs version last key.Codfs p e h = tt
follows_needs version last key.Nodes p e h = tt
follows_needs version last key.Code p e h = tt
follows_needs version last key.Block p e h = tt
follows_needs version last key.Update p e h = tt
follows_needs version last key.Reserve p e h = tt
follows_needs version last key.Unit p e h = tt
follows_needs version last key.Alpha p e h = tt
follows_needs version last key.Segment p e h = tt
follows_needs version _ _ p e h = absurd (false≢true e)

-- ---- the lines

-- the one number of a line
only_in : (low high : ℕ) (ws : List (List ℕ)) → IfOk (only_field low high ws) (λ v. (low ≤ v) × (v ≤ high))
unfolding only_field
only_in low high ws =
    bind (counted ws 1) _ Any (λ v. (low ≤ v) × (v ≤ high)) (any (counted ws 1)) (λ u _. field_in low high (word ws 0))

field_line_in : (low high : ℕ) (is : ℕ → Said) (ws : List (List ℕ)) (P : Said → Type 0) → ((v : ℕ) → low ≤ v → v ≤ high → P (is v)) → IfOk (field_line low high is ws) P
unfolding field_line
field_line_in low high is ws P h = bind (only_field low high ws) _ (λ v. (low ≤ v) × (v ≤ high)) P (only_in low high ws) (λ v q. h v q.0 q.1)

codfs_in : (ws : List (List ℕ)) (P : Said → Type 0) → ((v : ℕ) → 1 ≤ v → v ≤ 2 → P (said.Codfs v)) → IfOk (codfs_line ws) P
unfolding codfs_line
codfs_in ws P h =
    bind (counted ws 1) _ Any P (any (counted ws 1)) (λ u _.
    bind (field 1 2 (word ws 0)) _ (λ v. (1 ≤ v) × (v ≤ 2)) P (field_in 1 2 (word ws 0)) (λ v q. h v q.0 q.1))

nodes_in : (ws : List (List ℕ)) (P : Said → Type 0) → ((nodes cap : ℕ) → 1 ≤ nodes → nodes ≤ 64 → 1 ≤ cap → P (said.Nodes nodes cap)) → IfOk (nodes_line ws) P
unfolding nodes_line
nodes_in ws P h =
    bind (counted ws 2) _ Any P (any (counted ws 2)) (λ u _.
    bind (field 1 64 (word ws 0)) _ (λ v. (1 ≤ v) × (v ≤ 64)) P (field_in 1 64 (word ws 0)) (λ nodes q.
    bind (field 1 4294967295 (word ws 1)) _ (λ v. (1 ≤ v) × (v ≤ 4294967295)) P (field_in 1 4294967295 (word ws 1)) (λ cap r. h nodes cap q.0 q.1 r.0)))

code_in : (hd : Header) (ws : List (List ℕ)) (P : Said → Type 0) → ((n k : ℕ) → 1 ≤ n → n ≤ 16 → n ≤ hd.nodes → 1 ≤ k → k ≤ n → P (said.Code n k)) → IfOk (code_line hd ws) P
unfolding code_line
code_in hd ws P h =
    bind (counted ws 2) _ Any P (any (counted ws 2)) (λ u _.
    bind (field 1 (min 16 hd.nodes) (word ws 0)) _ (λ v. (1 ≤ v) × (v ≤ min 16 hd.nodes)) P (field_in 1 (min 16 hd.nodes) (word ws 0)) (λ n q.
    bind (field 1 n (word ws 1)) _ (λ v. (1 ≤ v) × (v ≤ n)) P (field_in 1 n (word ws 1)) (λ k r.
    let most = q.1 in h n k q.0 (omega (arith, most)) (omega (arith, most)) r.0 r.1)))

not_there : (b : Bool) → not b ≡ true → b ≡ false
not_there true e = absurd (false≢true e)
not_there false e = refl

-- a new name
abbrev IsNew : List (List ℕ) → List ℕ → Type 0
IsNew names w = (is_name w ≡ true) × (list_any (bytes_eq w) names ≡ false)

stronger : {A : Type 0} (r : Result A Refusal) (Q P : A → Type 0) → IfOk r Q → ((x : A) → Q x → P x) → IfOk r P
stronger (Ok x) Q P q f = f x q
stronger (Err e) Q P q f = tt

new_in : (names : List (List ℕ)) (w : List ℕ) → IfOk (new_name names w) (λ _. IsNew names w)
unfolding new_name
new_in names w =
    bind (wants (is_name w) why.Name) _ (λ _. is_name w ≡ true) (λ _. IsNew names w) (wanted _ why.Name) (λ u n.
    stronger (wants (not (list_any (bytes_eq w) names)) why.Twice) (λ _. not (list_any (bytes_eq w) names) ≡ true) (λ _. IsNew names w) (wanted _ why.Twice)
    (λ v e. (n, not_there _ e)))

-- a new name for which there is place
abbrev IsAdded : ℕ → List (List ℕ) → List ℕ → Type 0
IsAdded most names w = (is_name w ≡ true) × (list_any (bytes_eq w) names ≡ false) × (length names < most)

added_in : (most : ℕ) (names ws : List (List ℕ)) → IfOk (added_name most names ws) (λ _. IsAdded most names (word ws 0))
unfolding added_name
added_in most names ws =
    bind (counted ws 1) _ Any (λ _. IsAdded most names (word ws 0)) (any (counted ws 1)) (λ u _.
    bind (new_name names (word ws 0)) _ (λ _. IsNew names (word ws 0)) (λ _. IsAdded most names (word ws 0)) (new_in names (word ws 0)) (λ v n.
    stronger (wants (nat_lt (length names) most) why.Field) (λ _. nat_lt (length names) most ≡ true) (λ _. IsAdded most names (word ws 0)) (wanted _ why.Field)
    (λ x e. (n.0, n.1, ltb-true (length names) most e))))

segment_in : (names ws : List (List ℕ)) (P : Said → Type 0) → ((name : List ℕ) → IsAdded 1024 names name → P (said.Segment name)) → IfOk (segment_line names ws) P
unfolding segment_line
segment_in names ws P h = bind (added_name 1024 names ws) _ (λ _. IsAdded 1024 names (word ws 0)) P (added_in 1024 names ws) (λ u a. h (word ws 0) a)

client_in : (names ws : List (List ℕ)) (P : Said → Type 0) → ((name : List ℕ) → IsAdded 64 names name → P (said.Client name)) → IfOk (client_line names ws) P
unfolding client_line
client_in names ws P h = bind (added_name 64 names ws) _ (λ _. IsAdded 64 names (word ws 0)) P (added_in 64 names ws) (λ u a. h (word ws 0) a)

-- what a line of a client asks, where the version has it
abbrev IsAsked : (version nodes segments : ℕ) → What → Type 0
IsAsked version nodes segments what = IsThere nodes segments what × IsDated version what

upgrade_version : (version : ℕ) (last : Option Said) → may_follow version last (key.Does verb.Upgrade) ≡ true → version ≡ 2
unfolding may_follow
upgrade_version version (Some (said.Client name)) e = eqb-true version 2 e
upgrade_version version (Some (said.Does line what)) e = eqb-true version 2 e
upgrade_version version _ e = absurd (false≢true e)

read_in : (version nodes : ℕ) (names ws : List (List ℕ)) → IfOk (read_line names ws) (IsAsked version nodes (length names))
unfolding read_line
read_in version nodes names ws =
    bind (counted ws 3) _ Any (IsAsked version nodes (length names)) (any (counted ws 3)) (λ u _.
    bind (known names (word ws 0)) _ (λ i. i < length names) (IsAsked version nodes (length names)) (known_in names (word ws 0)) (λ seg lt.
    bind (number (word ws 1)) _ Any (IsAsked version nodes (length names)) (any (number (word ws 1))) (λ off _.
    bind (number (word ws 2)) _ Any (IsAsked version nodes (length names)) (any (number (word ws 2))) (λ len _. ((lt, tt, tt), tt)))))

write_in : (version nodes : ℕ) (names ws : List (List ℕ)) → IfOk (write_line names ws) (IsAsked version nodes (length names))
unfolding write_line
write_in version nodes names ws =
    bind (counted ws 3) _ Any (IsAsked version nodes (length names)) (any (counted ws 3)) (λ u _.
    bind (known names (word ws 0)) _ (λ i. i < length names) (IsAsked version nodes (length names)) (known_in names (word ws 0)) (λ seg lt.
    bind (number (word ws 1)) _ Any (IsAsked version nodes (length names)) (any (number (word ws 1))) (λ off _.
    bind (data_word (word ws 2)) _ IsBytes (IsAsked version nodes (length names)) (data_in (word ws 2)) (λ bytes b. ((lt, tt, b), tt)))))

swap_in : (version nodes : ℕ) (names ws : List (List ℕ)) → IfOk (swap_line names ws) (IsAsked version nodes (length names))
unfolding swap_line
swap_in version nodes names ws =
    bind (counted ws 4) _ Any (IsAsked version nodes (length names)) (any (counted ws 4)) (λ u _.
    bind (known names (word ws 0)) _ (λ i. i < length names) (IsAsked version nodes (length names)) (known_in names (word ws 0)) (λ seg lt.
    bind (number (word ws 1)) _ Any (IsAsked version nodes (length names)) (any (number (word ws 1))) (λ off _.
    bind (data_word (word ws 2)) _ IsBytes (IsAsked version nodes (length names)) (data_in (word ws 2)) (λ before b.
    bind (data_word (word ws 3)) _ IsBytes (IsAsked version nodes (length names)) (data_in (word ws 3)) (λ after a. ((lt, tt, (b, a)), tt))))))

put_in : (version nodes : ℕ) (names ws : List (List ℕ)) → IfOk (put_line names ws) (IsAsked version nodes (length names))
unfolding put_line
put_in version nodes names ws =
    bind (counted ws 2) _ Any (IsAsked version nodes (length names)) (any (counted ws 2)) (λ u _.
    bind (known names (word ws 0)) _ (λ i. i < length names) (IsAsked version nodes (length names)) (known_in names (word ws 0)) (λ seg lt.
    bind (data_word (word ws 1)) _ IsBytes (IsAsked version nodes (length names)) (data_in (word ws 1)) (λ bytes b. ((lt, tt, b), tt))))

plain_in : (version nodes : ℕ) (call : Call) (names ws : List (List ℕ)) → NamesNode nodes call → HasBytes call → IsDatedCall version call → IfOk (plain_line call names ws) (IsAsked version nodes (length names))
unfolding plain_line
plain_in version nodes call names ws n b d =
    bind (counted ws 1) _ Any (IsAsked version nodes (length names)) (any (counted ws 1)) (λ u _.
    bind (known names (word ws 0)) _ (λ i. i < length names) (IsAsked version nodes (length names)) (known_in names (word ws 0)) (λ seg lt. ((lt, n, b), d)))

drain_in : (version nodes : ℕ) (names ws : List (List ℕ)) → IfOk (drain_line nodes names ws) (IsAsked version nodes (length names))
unfolding drain_line
drain_in version nodes names ws =
    bind (counted ws 2) _ Any (IsAsked version nodes (length names)) (any (counted ws 2)) (λ u _.
    bind (known names (word ws 0)) _ (λ i. i < length names) (IsAsked version nodes (length names)) (known_in names (word ws 0)) (λ seg lt.
    bind (node nodes (word ws 1)) _ (λ x. x < nodes) (IsAsked version nodes (length names)) (node_in nodes (word ws 1)) (λ x below. ((lt, below, tt), tt))))

fail_in : (version nodes segments : ℕ) (ws : List (List ℕ)) → IfOk (fail_line nodes ws) (IsAsked version nodes segments)
unfolding fail_line
fail_in version nodes segments ws =
    bind (counted ws 1) _ Any (IsAsked version nodes segments) (any (counted ws 1)) (λ u _.
    bind (node nodes (word ws 0)) _ (λ x. x < nodes) (IsAsked version nodes segments) (node_in nodes (word ws 0)) (λ x below. (below, tt)))

what_in : (hd : Header) (last : Option Said) (names : List (List ℕ)) (v : Verb) (ws : List (List ℕ)) → may_follow hd.version last (key.Does v) ≡ true
    → IfOk (what_says hd names v ws) (IsAsked hd.version hd.nodes (length names))
unfolding what_says
what_in hd last names verb.Read ws e = read_in hd.version hd.nodes names ws
what_in hd last names verb.Write ws e = write_in hd.version hd.nodes names ws
what_in hd last names verb.Swap ws e = swap_in hd.version hd.nodes names ws
what_in hd last names verb.Put ws e = put_in hd.version hd.nodes names ws
what_in hd last names verb.Merge ws e = plain_in hd.version hd.nodes calls.Merge names ws tt tt tt
what_in hd last names verb.Tick ws e = plain_in hd.version hd.nodes calls.Tick names ws tt tt tt
what_in hd last names verb.Rebuild ws e = plain_in hd.version hd.nodes calls.Rebuild names ws tt tt tt
what_in hd last names verb.Upgrade ws e = plain_in hd.version hd.nodes calls.Upgrade names ws tt tt (upgrade_version hd.version last e)
what_in hd last names verb.Drain ws e = drain_in hd.version hd.nodes names ws
what_in hd last names verb.Fail ws e = fail_in hd.version hd.nodes (length names) ws

does_in : (hd : Header) (last : Option Said) (names : List (List ℕ)) (line : ℕ) (v : Verb) (ws : List (List ℕ)) (P : Said → Type 0) → may_follow hd.version last (key.Does v) ≡ true
    → ((what : What) → IsAsked hd.version hd.nodes (length names) what → P (said.Does line what)) → IfOk (does_line hd names line v ws) P
unfolding does_line
does_in hd last names line v ws P e h =
    bind (what_says hd names v ws) _ (IsAsked hd.version hd.nodes (length names)) P (what_in hd last names v ws e) (λ what t. h what t)

care_in : (ws : List (List ℕ)) (P : Said → Type 0) → ((workers rounds : ℕ) → workers ≤ 16 → rounds ≤ 65536 → P (said.Care workers rounds)) → IfOk (care_line ws) P
unfolding care_line
care_in ws P h =
    bind (counted ws 2) _ Any P (any (counted ws 2)) (λ u _.
    bind (field 0 16 (word ws 0)) _ (λ v. (0 ≤ v) × (v ≤ 16)) P (field_in 0 16 (word ws 0)) (λ workers q.
    bind (field 0 65536 (word ws 1)) _ (λ v. (0 ≤ v) × (v ≤ 65536)) P (field_in 0 65536 (word ws 1)) (λ rounds r. h workers rounds q.1 r.1)))

schedule_in : (names ws : List (List ℕ)) (P : Said → Type 0) → ((turns : List ℕ) → All (λ i. i < length names) turns → P (said.Schedule turns)) → IfOk (schedule_line names ws) P
unfolding schedule_line
schedule_in names ws P h =
    bind (wants (nat_le 1 (length ws)) why.Count) _ Any P (any (wants (nat_le 1 (length ws)) why.Count)) (λ u _.
    bind (each_known names ws) _ (All (λ i. i < length names)) P (each_in names ws) (λ turns all. h turns all))

end_in : (ws : List (List ℕ)) (P : Said → Type 0) → P said.End → IfOk (end_line ws) P
unfolding end_line
end_in ws P h = bind (counted ws 0) _ Any P (any (counted ws 0)) (λ u _. h)

pub rest_accepts : (before : List Said) (line : ℕ) (w : Keyword) (ws : List (List ℕ)) → 1 ≤ line → AreBefore line (body_of before).clients
    → may_follow (header_of before).version (last_of before) w ≡ true
    → IfOk (rest_says (header_of before) (segments_of before) (clients_of before) line w ws) (IsSaidAt line before)
unfolding rest_says
rest_accepts before line key.Codfs ws le smaller e =
    codfs_in ws (IsSaidAt line before) (λ v a b. record { accepts = record { order = follows_place _ _ _ e; needs = λ _. tt; fresh = tt; good = (a, b); later = tt }; numbered = tt })
rest_accepts before line key.Nodes ws le smaller e =
    nodes_in ws (IsSaidAt line before) (λ x cap a b c. record { accepts = record { order = follows_place _ _ _ e; needs = λ _. tt; fresh = tt; good = (a, b, c); later = tt }; numbered = tt })
rest_accepts before line key.Code ws le smaller e =
    code_in (header_of before) ws (IsSaidAt line before)
    (λ n k a b c d f. record { accepts = record { order = follows_place _ _ _ e; needs = λ _. tt; fresh = tt; good = (a, b, c, d, f); later = tt }; numbered = tt })
rest_accepts before line key.Block ws le smaller e =
    field_line_in 1 1048576 said.Block ws (IsSaidAt line before)
    (λ v a b. record { accepts = record { order = follows_place _ _ _ e; needs = λ _. tt; fresh = tt; good = (a, b); later = tt }; numbered = tt })
rest_accepts before line key.Update ws le smaller e =
    field_line_in 1 (min (bytes_of (header_of before)) 65536) said.Update ws (IsSaidAt line before)
    (λ v a b. record { accepts = record { order = follows_place _ _ _ e; needs = λ _. tt; fresh = tt; good = (a, omega (arith, b), omega (arith, b)); later = tt }; numbered = tt })
rest_accepts before line key.Reserve ws le smaller e =
    field_line_in (floor_of (header_of before)) 4194304 said.Reserve ws (IsSaidAt line before)
    (λ v a b. record { accepts = record { order = follows_place _ _ _ e; needs = λ _. tt; fresh = tt; good = (a, b); later = tt }; numbered = tt })
rest_accepts before line key.Unit ws le smaller e =
    field_line_in 1 (header_of before).reserve said.Unit ws (IsSaidAt line before)
    (λ v a b. record { accepts = record { order = follows_place _ _ _ e; needs = λ _. tt; fresh = tt; good = (a, b); later = tt }; numbered = tt })
rest_accepts before line key.Alpha ws le smaller e =
    field_line_in 0 10000 said.Alpha ws (IsSaidAt line before)
    (λ v a b. record { accepts = record { order = follows_place _ _ _ e; needs = λ _. tt; fresh = tt; good = b; later = tt }; numbered = tt })
rest_accepts before line key.Segment ws le smaller e =
    segment_in (segments_of before) ws (IsSaidAt line before)
    (λ name a. record { accepts = record { order = follows_place _ _ _ e; needs = λ _. tt; fresh = (a.1, a.2); good = a.0; later = tt }; numbered = tt })
rest_accepts before line key.Client ws le smaller e =
    client_in (clients_of before) ws (IsSaidAt line before)
    (λ name a. record { accepts = record { order = follows_place _ _ _ e; needs = λ h. follows_needs _ _ _ (body_of before) e h; fresh = (a.1, a.2); good = a.0; later = tt }; numbered = tt })
rest_accepts before line (key.Does v) ws le smaller e =
    does_in (header_of before) (last_of before) (segments_of before) line v ws (IsSaidAt line before) e
    (λ what t. record { accepts = record { order = follows_place _ _ _ e; needs = λ h. follows_needs _ _ _ (body_of before) e h; fresh = tt; good = (le, t.0, t.1); later = smaller }; numbered = refl })
rest_accepts before line key.Care ws le smaller e =
    care_in ws (IsSaidAt line before)
    (λ workers rounds a b. record { accepts = record { order = follows_place _ _ _ e; needs = λ h. follows_needs _ _ _ (body_of before) e h; fresh = tt; good = (a, b); later = tt }; numbered = tt })
rest_accepts before line key.Schedule ws le smaller e =
    schedule_in (clients_of before) ws (IsSaidAt line before)
    (λ turns all. record { accepts = record { order = follows_place _ _ _ e; needs = λ h. follows_needs _ _ _ (body_of before) e h; fresh = tt; good = all; later = tt }; numbered = tt })
rest_accepts before line key.End ws le smaller e =
    end_in ws (IsSaidAt line before) (record {
      accepts = record {
        order = follows_place _ _ _ e;
        needs = λ h. follows_needs _ _ _
            (body_of before) e h;
        fresh = tt;
        good = tt;
        later = tt;
      };
      numbered = tt;
    })

pub words_in : (before : List Said) (line : ℕ) (first : List ℕ) (ws : List (List ℕ)) → 1 ≤ line → AreBefore line (body_of before).clients
    → IfOk (words_mean before line first ws) (IsSaidAt line before)
unfolding words_mean
words_in before line first ws le smaller =
    bind (wants (not (is_end (last_of before))) why.AfterEnd) _ Any (IsSaidAt line before) (any (wants (not (is_end (last_of before))) why.AfterEnd)) (λ u _.
    bind (found (keyword_of first) why.Word) _ Any (IsSaidAt line before) (any (found (keyword_of first) why.Word)) (λ w _.
    bind (wants (may_follow (header_of before).version (last_of before) w) why.Order) _ (λ _. may_follow (header_of before).version (last_of before) w ≡ true) (IsSaidAt line before)
    (wanted _ why.Order) (λ v e. rest_accepts before line w ws le smaller e)))

pub words_accept : (before : List Said) (line : ℕ) (first : List ℕ) (ws : List (List ℕ)) (s : Said) → 1 ≤ line → AreBefore line (body_of before).clients
    → words_mean before line first ws ≡ Ok s → IsSaidAt line before s
words_accept before line first ws s le smaller e = let h = words_in before line first ws le smaller in rw e at h
