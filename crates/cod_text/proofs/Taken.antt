-- What is printed needs no line of a client.
use Rattle.std.proofs.Common.{◌≡◌, ℕ, zero, suc, List, [], ◌∷◌, ◌++◌, refl, ap}
use Rattle.std.specs.Prelude.{slice_index_or, codes, decimal}
use Rattle.std.specs.List.{flat_map}
use Rattle.cod_chronicle.specs.declared.entry.Entry.{Entry}
use Rattle.cod_chronicle.specs.declared.entry.Entry.TheVariants.{Call, Down, Up, Move}
use Rattle.cod_chronicle.specs.Said.{stamp_of}
use Rattle.cod_chronicle.specs.Order.{Placed, order}
use Rattle.cod_script.specs.Script.{Script, Client, nobody, clients_without, without_lines}
use Rattle.cod_script.proofs.Emptied.{same_count}
use Rattle.cod_text.specs.Printed.{line_of, call_words, reply_words, caller_word, segment_word, what_words, line_text}
use Rattle.cod_text.specs.Alone.{NeedsNoLines}

same_name : (cs : List Client) (client who : ℕ) → (slice_index_or (clients_without cs client) who nobody).name ≡ (slice_index_or cs who nobody).name
same_name [] client who = refl
same_name (c ∷ cs) zero zero = refl
same_name (c ∷ cs) zero (suc who) = refl
same_name (c ∷ cs) (suc client) zero = refl
same_name (c ∷ cs) (suc client) (suc who) = same_name cs client who

same_caller : (x : Script) (client who : ℕ) → caller_word (without_lines x client) who ≡ caller_word x who
same_caller x client who = rw (same_count x.clients client, same_name x.clients client who) refl

same_what : (x : Script) (client : ℕ) (e : Entry) → what_words (without_lines x client) e ≡ what_words x e
same_what x client (Call caller number stamp call reply) =
    ap (λ (w : List ℕ). w ∷ decimal number ∷ (call_words call ++ codes "->" ∷ reply_words reply)) (same_caller x client caller.0)
same_what x client (Down stamp col node cause) = refl
same_what x client (Up stamp col node) = refl
same_what x client (Move stamp col node) = refl

same_line : (x : Script) (client : ℕ) (p : Placed) → line_text (without_lines x client) p ≡ line_text x p
same_line x client p = ap (λ (ws : List (List ℕ)). line_of (decimal (stamp_of p.entry) ∷ segment_word x p.segment ∷ ws)) (same_what x client p.entry)

same_lines : (x : Script) (client : ℕ) (ps : List Placed) → flat_map (λ p. line_text (without_lines x client) p) ps ≡ flat_map (λ p. line_text x p) ps
same_lines x client [] = refl
same_lines x client (p ∷ ps) = rw (same_line x client p, same_lines x client ps) refl

pub needs_no_lines : NeedsNoLines
needs_no_lines x client hs = same_lines x client (order hs)
