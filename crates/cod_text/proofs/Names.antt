-- The words of segments and callers, from their names.
use Rattle.std.proofs.Common.{◌≡◌, ◌≢◌, ℕ, zero, suc, ◌-◌, ◌<◌, ◌≤◌, ◌^◌, Bool, cond, List, [], ◌∷◌, length, get_or, sym, ap, ◌∙◌, subst, inl, inr, arith}
use Rattle.std.specs.Prelude.{decimal}
use Rattle.std.specs.List.{AllByRecursion}
use Rattle.std.proofs.lemmas.Bool.{lt-ltb, le-ltb, cases_lt}
use Rattle.std.proofs.lemmas.Fmt.{decimal_injective}
use Rattle.cod_script.specs.Script.{Script, nobody}
use Rattle.cod_text.specs.Printed.{segment_word, caller_word}
use Rattle.cod_text.specs.Unique.{IsWord, IsName, HasNames}
use Rattle.cod_text.proofs.Splits.{IsWord-decimal}

-- The words of segments and callers are words, all different, and none is `=`.
pub record HasWords (x : Script) : Type 0 where
  pub segment : (s : ℕ) → IsWord (segment_word x s)
  pub caller : (c : ℕ) → c < 2 ^ 64 → IsWord (caller_word x c)
  pub segments : (s t : ℕ) → s < length x.segments → t < length x.segments → segment_word x s ≡ segment_word x t → s ≡ t
  pub callers : (c d : ℕ) → c < 2 ^ 64 → d < 2 ^ 64 → caller_word x c ≡ caller_word x d → c ≡ d
  pub no_mark : (c : ℕ) → caller_word x c ≢ 61 ∷ []

each_at : {X : Type 0} (P : X → Type 0) (xs : List X) (i : ℕ) (d : X) → AllByRecursion P xs → i < length xs → P (get_or xs i d)
each_at P [] i d a l = absurd (omega arith)
each_at P (x ∷ xs) zero d a l = a.0
each_at P (x ∷ xs) (suc i) d a l = each_at P xs i d a.1 (omega arith)

name_is_word : (w : List ℕ) → IsName w → IsWord w
name_is_word [] h = tt
name_is_word (c ∷ w) h = (let l = h.0 in omega arith, h.1.1)

-- a name begins with no other byte
begins : (w v : List ℕ) (c : ℕ) → c < 97 → IsName w → w ≢ c ∷ v
begins [] v c l h e = absurd h
begins (d ∷ w) v c l h e = (let s : d ≡ c = cc in let m = h.0 in absurd (omega arith))

client_name : (x : Script) (c : ℕ) → c < length x.clients → caller_word x c ≡ (get_or x.clients c nobody).name
client_name x c l = ap (λ (b : Bool). cond b (get_or x.clients c nobody).name (43 ∷ decimal (c - length x.clients))) (lt-ltb c (length x.clients) l)

worker_name : (x : Script) (c : ℕ) → length x.clients ≤ c → caller_word x c ≡ 43 ∷ decimal (c - length x.clients)
worker_name x c l = ap (λ (b : Bool). cond b (get_or x.clients c nobody).name (43 ∷ decimal (c - length x.clients))) (le-ltb c (length x.clients) l)

segment_is_word : (ws : List (List ℕ)) (s : ℕ) → AllByRecursion IsName ws → IsWord (get_or ws s [])
segment_is_word [] s a = tt
segment_is_word (w ∷ ws) zero a = name_is_word w a.0
segment_is_word (w ∷ ws) (suc s) a = segment_is_word ws s a.1

module _ (x : Script) (N : HasNames x) where
  name_at : (c : ℕ) → c < length x.clients → IsName (get_or x.clients c nobody).name
  name_at c l = each_at (λ k. IsName k.name) x.clients c nobody N.clients l

  caller_is_word : (c : ℕ) → c < 2 ^ 64 → IsWord (caller_word x c)
  caller_is_word c f =
      elim (cases_lt c (length x.clients)) [
        | inl l ↦ subst IsWord (sym (client_name x c l)) (name_is_word _ (name_at c l))
        | inr l ↦ subst IsWord (sym (worker_name x c l)) (omega arith, IsWord-decimal (c - length x.clients) (omega arith))
      ]

  callers_differ : (c d : ℕ) → c < 2 ^ 64 → d < 2 ^ 64 → caller_word x c ≡ caller_word x d → c ≡ d
  callers_differ c d f g e =
      elim (cases_lt c (length x.clients)) [
        | inl l ↦ elim (cases_lt d (length x.clients)) [
          | inl m ↦ N.clients_differ c d l m (sym (client_name x c l) ∙ e ∙ client_name x d m)
          | inr m ↦ absurd (begins _ (decimal (d - length x.clients)) 43 (omega arith) (name_at c l) (sym (client_name x c l) ∙ e ∙ worker_name x d m))
        ]
        | inr l ↦ elim (cases_lt d (length x.clients)) [
          | inl m ↦ absurd (begins _ (decimal (c - length x.clients)) 43 (omega arith) (name_at d m) (sym (client_name x d m) ∙ sym e ∙ worker_name x c l))
          | inr m ↦ (
              let t : 43 ∷ decimal (c - length x.clients) ≡ 43 ∷ decimal (d - length x.clients) = sym (worker_name x c l) ∙ e ∙ worker_name x d m in
              let u : decimal (c - length x.clients) ≡ decimal (d - length x.clients) = cc in
              let v = decimal_injective (c - length x.clients) (d - length x.clients) (omega arith) (omega arith) u in
              omega arith)
        ]
      ]

  never_mark : (c : ℕ) → caller_word x c ≢ 61 ∷ []
  never_mark c e =
      elim (cases_lt c (length x.clients)) [
        | inl l ↦ begins _ [] 61 (omega arith) (name_at c l) (sym (client_name x c l) ∙ e)
        | inr l ↦ (let t : 43 ∷ decimal (c - length x.clients) ≡ 61 ∷ [] = sym (worker_name x c l) ∙ e in cc)
      ]

  pub has_words : HasWords x
  has_words = record { segment = λ s. segment_is_word x.segments s N.segments; caller = caller_is_word; segments = N.segments_differ; callers = callers_differ; no_mark = never_mark }
