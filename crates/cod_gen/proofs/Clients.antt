-- Clients, one after another.
use Rattle.std.proofs.Common.{◌≡◌, ℕ, zero, suc, ◌+◌, ◌*◌, ◌≤◌, List, [], ◌∷◌, ◌++◌, length, map, refl, sym, ap, ◌∙◌, arith}
use Rattle.std.specs.List.{range_with_len}
use Rattle.cod_script.specs.Script.{Client, Body}
use Rattle.cod_script.proofs.RoomSums.{range_more, sum_more}
use Rattle.cod_gen.specs.Drawn.{after}
use Rattle.cod_gen.specs.Drafting.{Draft, with_lines, with_state, with_client}
use Rattle.cod_gen.specs.Generated.{draws_ahead, client_lines, line_ahead, name_of, client_of, all_segments, all_clients}
use Rattle.cod_gen.proofs.Lining.{lines_are}
use Rattle.cod_gen.proofs.Rounds_drawn.{client_length}

-- the segments, and so many clients
abbrev pub body_with : (number n : ℕ) → Body
body_with number n = record { segments = all_segments; clients = map (client_of number) (range_with_len 0 n); schedule = []; workers = 0; rounds = 0 }

abbrev pub draft_with : (number n : ℕ) → Draft
draft_with number n = record { body = body_with number n; line = line_ahead number n; state = after (draws_ahead n 0) number }

map-push : {A B : Type 0} (f : A → B) (xs : List A) (y : A) → map f (xs ++ y ∷ []) ≡ map f xs ++ f y ∷ []
map-push f [] y = refl
map-push f (x ∷ xs) y = ap (λ l. f x ∷ l) (map-push f xs y)

clients_next : (number n : ℕ) → map (client_of number) (range_with_len 0 (n + 1)) ≡ map (client_of number) (range_with_len 0 n) ++ client_of number n ∷ []
clients_next number n = ap (map (client_of number)) (range_more n) ∙ map-push (client_of number) (range_with_len 0 n) n

pub line_next : (number n : ℕ) → line_ahead number (n + 1) ≡ line_ahead number n + 1 + length (client_lines number n)
line_next number n = let e = sum_more (λ c. length (client_lines number c) + 1) n in omega (arith, e)

pub line_bound : (number n : ℕ) → line_ahead number n ≤ 49 + n * 8601
line_bound number zero = omega arith
line_bound number (suc n) =
    let o : suc n ≡ n + 1 = omega arith in
    let e = ap (line_ahead number) o ∙ line_next number n in
    let h = line_bound number n in
    let l = client_length number n in
    omega (arith, e, h, l)

pub clients_begin : (b : Body) (number : ℕ) → b ≡ record { segments = all_segments; clients = []; schedule = []; workers = 0; rounds = 0 }
    → (record { body = b; line = 48 + 1; state = number }) ≡ draft_with number 0
unfolding after
clients_begin b number e = ap (λ (k : Body). let d : Draft = record { body = k; line = 49; state = number } in d) e

pub clients_go_on : (number c : ℕ) (d d1 d2 : Draft) (name : List ℕ) → d ≡ draft_with number c → name ≡ name_of 99 c → d1 ≡ with_client d name
    → ((n : ℕ) → d1.state ≡ after (draws_ahead c 0) n → d2 ≡ with_state (with_lines d1 (client_lines n c)) (after (draws_ahead c 200) n)) → d2 ≡ draft_with number (c + 1)
clients_go_on number c d d1 d2 name is named one rounds =
    let b = body_with number c in
    let cs = map (client_of number) (range_with_len 0 c) in
    let c0 : Client = record { name = name_of 99 c; lines = [] } in
    let n = line_ahead number c + 1 in
    let x = after (draws_ahead c 0) number in
    let ws = client_lines number c in
    let y = after (draws_ahead c 200) number in
    let first : d1 ≡ with_client (draft_with number c) (name_of 99 c) = one ∙ ap (λ (k : Draft). with_client k name) is ∙ ap (with_client (draft_with number c)) named in
    let s : d1.state ≡ after (draws_ahead c 0) number = ap (λ (k : Draft). k.state) first in
    let line : n + length ws ≡ line_ahead number (c + 1) = sym (line_next number c) in
    let drawn : draws_ahead c 200 ≡ draws_ahead (c + 1) 0 = omega arith in
    rounds number s
    ∙ ap (λ (k : Draft). with_state (with_lines k ws) y) first
    ∙ ap (λ (k : Draft). with_state k y) (lines_are b cs c0 n x ws)
    ∙ ap (λ (k : List Client). let e : Draft = record { body = record b { clients = k }; line = n + length ws; state = y } in e) (sym (clients_next number c))
    ∙ ap (λ (l : ℕ). let e : Draft = record { body = body_with number (c + 1); line = l; state = y } in e) line
    ∙ ap (λ (m : ℕ). let e : Draft = record { body = body_with number (c + 1); line = line_ahead number (c + 1); state = after m number } in e) drawn

pub clients_end : (number c : ℕ) (d : Draft) → c ≡ 8 → d ≡ draft_with number c
    → d.body ≡ record { segments = all_segments; clients = all_clients number; schedule = []; workers = 0; rounds = 0 }
unfolding all_clients
clients_end number c d e is = ap (λ (k : Draft). k.body) is ∙ ap (body_with number) e

-- ---- the segments

pub segments_next : (n : ℕ) → map (name_of 115) (range_with_len 0 (n + 1)) ≡ map (name_of 115) (range_with_len 0 n) ++ name_of 115 n ∷ []
segments_next n = ap (map (name_of 115)) (range_more n) ∙ map-push (name_of 115) (range_with_len 0 n) n

pub segments_end : (n : ℕ) → n ≡ 40 → map (name_of 115) (range_with_len 0 n) ≡ all_segments
unfolding all_segments
segments_end n e = ap (λ (m : ℕ). map (name_of 115) (range_with_len 0 m)) e
