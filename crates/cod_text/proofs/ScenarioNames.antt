-- Every scenario has names.
use Rattle.std.proofs.Common.{◌≡◌, ℕ, ◌≤◌, true, List, [], ◌∷◌, length, sym, ◌∙◌, arith}
use Rattle.std.specs.Prelude.{◌&&◌, nat_le}
use Rattle.std.specs.List.{All, AllByRecursion, list_all}
use Rattle.std.proofs.lemmas.Bool.{and_parts}
use Rattle.std.proofs.lemmas.Bool.Decides.{nat_tests}
use Rattle.std.proofs.lemmas.List.{get_or-map, length-map}
use Rattle.std.proofs.lemmas.List.Elements.{All-tail}
use Rattle.cod_words.specs.Words.{is_name, is_name_byte, is_letter}
use Rattle.cod_script.specs.Script.{Client, nobody}
use Rattle.cod_script.specs.Sound.{IsClient}
use Rattle.cod_text.specs.Unique.{IsWord, IsName, ScenarioHasNames}

seen : (c : ℕ) → is_name_byte c ≡ true → 33 ≤ c
seen c e = grind (arith, nat_tests, e)

from_a : (c : ℕ) → is_letter c ≡ true → 97 ≤ c
from_a c e = grind (arith, nat_tests, e)

to_z : (c : ℕ) → is_letter c ≡ true → c ≤ 122
to_z c e = grind (arith, nat_tests, e)

all_seen : (w : List ℕ) → list_all is_name_byte w ≡ true → IsWord w
all_seen [] e = tt
all_seen (c ∷ w) e = let b = and_parts (is_name_byte c) (list_all is_name_byte w) e in (seen c b.0, all_seen w b.1)

named : (w : List ℕ) → is_name w ≡ true → IsName w
named [] e = cc
named (c ∷ w) e =
    let a = and_parts (nat_le 1 (length (c ∷ w)) && nat_le (length (c ∷ w)) 16 && is_letter c) (list_all is_name_byte (c ∷ w)) e in
    let b = and_parts (nat_le 1 (length (c ∷ w)) && nat_le (length (c ∷ w)) 16) (is_letter c) a.0 in
    (from_a c b.1, (to_z c b.1, (all_seen (c ∷ w) a.1).1))

all_named : (ws : List (List ℕ)) → All (λ name. is_name name ≡ true) ws → AllByRecursion IsName ws
all_named [] good = tt
all_named (w ∷ ws) good = (named w (good 0 [] (omega arith)), all_named ws (All-tail (λ name. is_name name ≡ true) w ws good))

clients_named : (nodes segments : ℕ) (cs : List Client) → All (IsClient nodes segments) cs → AllByRecursion (λ c. IsName c.name) cs
clients_named nodes segments [] good = tt
clients_named nodes segments (c ∷ cs) good =
    (named c.name (good 0 c (omega arith)).0, clients_named nodes segments cs (All-tail (IsClient nodes segments) c cs good))

pub scenario_has_names : ScenarioHasNames
scenario_has_names x i = record {
  segments = all_named x.segments i.segment_names;
  segments_differ = i.segments_differ;
  clients = clients_named x.nodes (length x.segments) x.clients i.clients;
  clients_differ = λ c d l m e.
      let n = length-map x.clients (λ k. k.name) in
      let p = get_or-map (λ k. k.name) x.clients c nobody [] l in
      let q = get_or-map (λ k. k.name) x.clients d nobody [] m in
      i.clients_differ c d (omega (arith, l, n)) (omega (arith, m, n)) (p ∙ e ∙ sym q);
}
