-- The lines of a round, and of a client's rounds.
use Rattle.std.proofs.Common.{◌≡◌, ◌≢◌, ℕ, zero, suc, ◌+◌, ◌*◌, ◌/◌, ◌%◌, ◌≤◌, Bool, true, false, cond, nat_eq, List, [], ◌∷◌, ◌++◌, length, map, refl, sym, ap, ◌∙◌, arith}
use Rattle.std.specs.Prelude.{◌&&◌}
use Rattle.std.specs.List.{flat_map, range_with_len}
use Rattle.std.proofs.lemmas.Bool.{eqb-true, eqb-false}
use Rattle.std.proofs.lemmas.List.{length-append, length-map}
use Rattle.std.proofs.lemmas.List.FromFn.{length-range_with_len}
use Rattle.cod_types.specs.declared.call.Call.{Call}
use Rattle.cod_types.specs.declared.call.Call.TheVariants.{Merge, Tick, Rebuild}
use Rattle.cod_script.specs.declared.line.What.{What}
use Rattle.cod_script.proofs.RoomSums.{range_more}
use Rattle.cod_gen.specs.Drawn.{after}
use Rattle.cod_gen.specs.Drafting.{Draft, with_line, with_lines, with_state, draws_in}
use Rattle.cod_gen.specs.Generated.{on_segment, on_each, fail_and_rebuild, care_lines, reads_lines, read_line, write_line, round_lines, draws_ahead, client_lines}
use Rattle.cod_gen.proofs.Lining.{lines-append, lines-state, after-add, flat-push}

-- one call more
pub each_next : (call : Call) (d : Draft) (n : ℕ)
    → with_line (with_lines d (map (λ s. on_segment s call) (range_with_len 0 n))) (on_segment n call) ≡ with_lines d (map (λ s. on_segment s call) (range_with_len 0 (n + 1)))
each_next call d n =
    let e : map (λ s. on_segment s call) (range_with_len 0 (n + 1)) ≡ map (λ s. on_segment s call) (range_with_len 0 n) ++ on_segment n call ∷ [] =
    ap (map (λ s. on_segment s call)) (range_more n) ∙ push (range_with_len 0 n) in
    sym (ap (with_lines d) e ∙ lines-append d (map (λ s. on_segment s call) (range_with_len 0 n)) (on_segment n call ∷ [])) where
      push : (xs : List ℕ) → map (λ s. on_segment s call) (xs ++ n ∷ []) ≡ map (λ s. on_segment s call) xs ++ on_segment n call ∷ []
      push [] = refl
      push (x ∷ xs) = ap (λ (l : List What). on_segment x call ∷ l) (push xs)

pub each_is : (call : Call) (n : ℕ) → n ≡ 40 → map (λ s. on_segment s call) (range_with_len 0 n) ≡ on_each call
unfolding on_each
each_is call n e = ap (λ (m : ℕ). map (λ s. on_segment s call) (range_with_len 0 m)) e

pub each_length : (call : Call) → length (on_each call) ≡ 40
unfolding on_each
each_length call = length-map (range_with_len 0 40) (λ s. on_segment s call) ∙ length-range_with_len 0 40

-- at most 41 lines of care
pub care_length : (client round : ℕ) → length (care_lines client round) ≤ 41
care_length client round =
    by (nat_eq client 0 && nat_eq round 99) (nat_eq client 0 && nat_eq round 199) (nat_eq client 1 && nat_eq round 49) (nat_eq client 1 && nat_eq round 149) where
      by : (a b c d : Bool) → length (cond a (fail_and_rebuild 3) (cond b (fail_and_rebuild 7) (cond c (on_each Merge) (cond d (on_each Tick) [])))) ≤ 41
      by true b c d = let e = each_length Rebuild in omega (arith, e)
      by false true c d = let e = each_length Rebuild in omega (arith, e)
      by false false true d = let e = each_length Merge in omega (arith, e)
      by false false false true = let e = each_length Tick in omega (arith, e)
      by false false false false = omega arith

pub reads_length : (round x : ℕ) → length (reads_lines round x) ≤ 1
reads_length round x = by (nat_eq (round % 10) 9) where
  by : (b : Bool) → length (cond b (read_line x ∷ []) []) ≤ 1
  by true = omega arith
  by false = omega arith

pub round_length : (client round x : ℕ) → length (round_lines client round x) ≤ 43
round_length client round x =
    let a = reads_length round (after 3 x) in
    let b = care_length client round in
    let c = length-append (reads_lines round (after 3 x)) (care_lines client round) in
    omega (arith, a, b, c)

-- ---- a client's rounds

abbrev pub some_rounds : (number client n : ℕ) → List What
some_rounds number client n = flat_map (λ round. round_lines client round (after (draws_ahead client round) number)) (range_with_len 0 n)

-- one round more
pub rounds_next : (number client n : ℕ) → some_rounds number client (n + 1) ≡ some_rounds number client n ++ round_lines client n (after (draws_ahead client n) number)
rounds_next number client n =
    let f : ℕ → List What = λ round. round_lines client round (after (draws_ahead client round) number) in
    ap (flat_map f) (range_more n) ∙ flat-push f (range_with_len 0 n) n

pub rounds_length : (number client n : ℕ) → length (some_rounds number client n) ≤ n * 43
rounds_length number client zero = omega arith
rounds_length number client (suc n) =
    let o : suc n ≡ n + 1 = omega arith in
    let e = ap length (ap (some_rounds number client) o ∙ rounds_next number client n) in
    let l = length-append (some_rounds number client n) (round_lines client n (after (draws_ahead client n) number)) in
    let h = rounds_length number client n in
    let r = round_length client n (after (draws_ahead client n) number) in
    omega (arith, e, l, h, r)

pub all_rounds : (number client n : ℕ) → n ≡ 200 → some_rounds number client n ≡ client_lines number client
unfolding client_lines
all_rounds number client n e = ap (some_rounds number client) e

pub client_length : (number client : ℕ) → length (client_lines number client) ≤ 8600
client_length number client =
    let e = ap length (sym (all_rounds number client 200 refl)) in
    let h = rounds_length number client 200 in
    omega (arith, e, h)

-- ---- a round of a draft

draws_read : (round : ℕ) → nat_eq (round % 10) 9 ≡ true → draws_in round ≡ 5
draws_read round e = ap (λ (b : Bool). cond b 5 3) e

draws_write : (round : ℕ) → nat_eq (round % 10) 9 ≡ false → draws_in round ≡ 3
draws_write round e = ap (λ (b : Bool). cond b 5 3) e

-- with a read
pub round_reads : (client round : ℕ) (d : Draft) → nat_eq (round % 10) 9 ≡ true
    → with_lines (with_state (with_line (with_state (with_line d (write_line d.state)) (after 3 d.state)) (read_line (after 3 d.state))) (after 2 (after 3 d.state))) (care_lines client round)
    ≡ with_state (with_lines d (round_lines client round d.state)) (after (draws_in round) d.state)
round_reads client round d e =
    let one : Draft = with_line d (write_line d.state) in
    let two : Draft = with_line one (read_line (after 3 d.state)) in
    let r : reads_lines round (after 3 d.state) ≡ read_line (after 3 d.state) ∷ [] = ap (λ (b : Bool). let l : List What = cond b (read_line (after 3 d.state) ∷ []) [] in l) e in
    let s : after 2 (after 3 d.state) ≡ after (draws_in round) d.state = sym (after-add 3 2 d.state) ∙ sym (ap (λ (n : ℕ). after n d.state) (draws_read round e)) in
    let l : with_lines two (care_lines client round) ≡ with_lines d (round_lines client round d.state) =
    sym (ap (λ (rs : List What). with_lines one (rs ++ care_lines client round)) r) in
    lines-state two (after 2 (after 3 d.state)) (care_lines client round) ∙ ap (λ (x : ℕ). with_state (with_lines two (care_lines client round)) x) s
    ∙ ap (λ (k : Draft). with_state k (after (draws_in round) d.state)) l

-- and without
pub round_writes : (client round : ℕ) (d : Draft) → nat_eq (round % 10) 9 ≡ false
    → with_lines (with_state (with_line d (write_line d.state)) (after 3 d.state)) (care_lines client round)
    ≡ with_state (with_lines d (round_lines client round d.state)) (after (draws_in round) d.state)
round_writes client round d e =
    let one : Draft = with_line d (write_line d.state) in
    let r : reads_lines round (after 3 d.state) ≡ [] = ap (λ (b : Bool). let l : List What = cond b (read_line (after 3 d.state) ∷ []) [] in l) e in
    let s : after 3 d.state ≡ after (draws_in round) d.state = sym (ap (λ (n : ℕ). after n d.state) (draws_write round e)) in
    let l : with_lines one (care_lines client round) ≡ with_lines d (round_lines client round d.state) =
    sym (ap (λ (rs : List What). with_lines one (rs ++ care_lines client round)) r) in
    lines-state one (after 3 d.state) (care_lines client round) ∙ ap (λ (x : ℕ). with_state (with_lines one (care_lines client round)) x) s
    ∙ ap (λ (k : Draft). with_state k (after (draws_in round) d.state)) l

-- ---- round by round

ahead_next : (client n : ℕ) → draws_ahead client n + draws_in n ≡ draws_ahead client (n + 1)
ahead_next client n = by (nat_eq (n % 10) 9) refl where
  by : (b : Bool) → nat_eq (n % 10) 9 ≡ b → draws_ahead client n + draws_in n ≡ draws_ahead client (n + 1)
  by true e =
      let m : n % 10 ≡ 9 = eqb-true (n % 10) 9 e in
      let d = draws_read n e in
      let q : (n + 1) / 10 ≡ n / 10 + 1 = omega (arith, m) in
      omega (arith, d, q)
  by false e =
      let m : n % 10 ≢ 9 = eqb-false (n % 10) 9 e in
      let d = draws_write n e in
      let q : (n + 1) / 10 ≡ n / 10 = omega (arith, m) in
      omega (arith, d, q)

-- so far the draft has these rounds
abbrev pub RoundsSoFar : (client n : ℕ) → Draft → Draft → Type 0
RoundsSoFar client n old now = (number : ℕ) → old.state ≡ after (draws_ahead client 0) number
    → now ≡ with_state (with_lines old (some_rounds number client n)) (after (draws_ahead client n) number)

pub rounds_begin : (client : ℕ) (d : Draft) → RoundsSoFar client 0 d d
rounds_begin client d number e = ap (λ (x : ℕ). with_state d x) e

pub rounds_go_on : (client n : ℕ) (old now new : Draft) → RoundsSoFar client n old now
    → new ≡ with_state (with_lines now (round_lines client n now.state)) (after (draws_in n) now.state) → RoundsSoFar client (n + 1) old new
rounds_go_on client n old now new so_far step number first =
    let x : ℕ = after (draws_ahead client n) number in
    let is = so_far number first in
    let ws = round_lines client n x in
    step
    ∙ ap (λ (d : Draft). with_state (with_lines d (round_lines client n d.state)) (after (draws_in n) d.state)) is
    ∙ ap (λ (d : Draft). with_state d (after (draws_in n) x)) (lines-state (with_lines old (some_rounds number client n)) x ws)
    ∙ ap (λ (d : Draft). with_state d (after (draws_in n) x)) (sym (lines-append old (some_rounds number client n) ws))
    ∙ ap (λ (l : List What). with_state (with_lines old l) (after (draws_in n) x)) (sym (rounds_next number client n))
    ∙ ap (λ (y : ℕ). with_state (with_lines old (some_rounds number client (n + 1))) y) (sym (after-add (draws_ahead client n) (draws_in n) number)
    ∙ ap (λ (m : ℕ). after m number) (ahead_next client n))

pub rounds_end : (client n : ℕ) (old now : Draft) → n ≡ 200 → RoundsSoFar client n old now → (number : ℕ) → old.state ≡ after (draws_ahead client 0) number
    → now ≡ with_state (with_lines old (client_lines number client)) (after (draws_ahead client 200) number)
rounds_end client n old now e so_far number first =
    so_far number first ∙ ap (λ (l : List What). with_state (with_lines old l) (after (draws_ahead client n) number)) (all_rounds number client n e)
    ∙ ap (λ (m : ℕ). with_state (with_lines old (client_lines number client)) (after (draws_ahead client m) number)) e
