-- What a sink took, one piece after another.
use Rattle.std.proofs.Common.{subst, ◌≡◌, ◌++◌, List, [], ◌∷◌, ℕ, Option, Some, None, Result, Ok, Err, refl, sym, ap, ◌∙◌, append_assoc, ◌+◌, ◌<◌, length, take, drop, get_or, ◌/◌, ◌%◌}
use Rattle.std.specs.Io.KnownBytes.{append_known}
use Rattle.std.specs.Prelude.{slice_index, codes, decimal, true, false}
use Rattle.std.specs.List.{flat_map}
use Rattle.std.proofs.lemmas.List.{append-nil, take-append-drop, drop_more}
use Rattle.std.proofs.lemmas.List.Concat.{flat_map-append}
use Rattle.hex.specs.Hex.{encode_lower, encode_with, lower_digits}
use Rattle.cod_print.specs.Puts.{Puts, TakesFront}
use Rattle.cod_print.specs.Pieces.{is_repeated, data_word, hex_word}

-- two pieces
pub append_known-append : (k : Option (List ℕ)) (a b : List ℕ) → append_known (append_known k a) b ≡ append_known k (a ++ b)
append_known-append None a b = refl
append_known-append (Some xs) a b = ap Some (append_assoc xs a b)

-- no piece
pub append_known-nil : (k : Option (List ℕ)) → k ≡ append_known k []
append_known-nil None = refl
append_known-nil (Some xs) = ap Some (sym (append-nil xs))

-- one more piece was taken
pub took_more : (old mid new : Option (List ℕ)) (a b : List ℕ) → mid ≡ append_known old a → new ≡ append_known mid b → new ≡ append_known old (a ++ b)
took_more old mid new a b h k = k ∙ ap (λ (o : Option (List ℕ)). append_known o b) h ∙ append_known-append old a b

-- a piece failed: a front of the whole was taken
pub took_front : (old mid new : Option (List ℕ)) (whole a b c : List ℕ) → mid ≡ append_known old a → TakesFront mid new b
    → whole ≡ a ++ (b ++ c) → TakesFront old new whole
took_front old mid new whole a b c h t is =
    (a ++ t.0, t.1 ++ c, is ∙ ap (λ (l : List ℕ). a ++ (l ++ c)) t.2 ∙ ap (λ (l : List ℕ). a ++ l) (append_assoc t.0 t.1 c) ∙ sym (append_assoc a t.0 (t.1 ++ c)), took_more old mid new a t.0 h t.3)

-- the text of a list, split at an element
pub flat_map_split : {X : Type 0} (f : X → List ℕ) (xs : List X) (i : ℕ) (d : X) → i < length xs
    → flat_map f xs ≡ flat_map f (take i xs) ++ (f (get_or xs i d) ++ flat_map f (drop (i + 1) xs))
flat_map_split f xs i d lt =
    ap (flat_map f) (sym (take-append-drop i xs)) ∙ flat_map-append f (take i xs) (drop i xs)
    ∙ ap (λ (l : List _). flat_map f (take i xs) ++ flat_map f l) (drop_more xs i d lt)

-- the digits of two parts
pub encode-append : (xs ys : List ℕ) → encode_lower (xs ++ ys) ≡ encode_lower xs ++ encode_lower ys
unfolding encode_with
encode-append [] ys = refl
encode-append (x ∷ xs) ys = ap (λ (l : List ℕ). slice_index lower_digits (x / 16) ∷ slice_index lower_digits (x % 16) ∷ l) (encode-append xs ys)

pub encode-nil : encode_lower [] ≡ []
unfolding encode_with
encode-nil = refl

-- the first of two pieces failed
pub took_first : (old new : Option (List ℕ)) (a b : List ℕ) → TakesFront old new a → TakesFront old new (a ++ b)
took_first old new a b t = (t.0, t.1 ++ b, ap (λ (l : List ℕ). l ++ b) t.2 ∙ append_assoc t.0 t.1 b, t.3)

-- a piece was taken, and what is behind it failed
pub took_behind : (old mid new : Option (List ℕ)) (a b : List ℕ) → mid ≡ append_known old a → TakesFront mid new b → TakesFront old new (a ++ b)
took_behind old mid new a b h t = (a ++ t.0, t.1, ap (λ (l : List ℕ). a ++ l) t.2 ∙ sym (append_assoc a t.0 t.1), took_more old mid new a t.0 h t.3)

-- a piece was taken, and the next goes or fails
pub puts_behind : {T E : Type 0} (r : Result T E) (old mid new : Option (List ℕ)) (a b : List ℕ) → mid ≡ append_known old a
    → Puts r mid new b → Puts r old new (a ++ b)
puts_behind (Ok x) old mid new a b h m = took_more old mid new a b h m
puts_behind (Err e) old mid new a b h m = took_behind old mid new a b h m

-- equal bytes as one of them and how many they are
pub repeated_word : (bytes : List ℕ) → is_repeated bytes ≡ true → data_word bytes ≡ encode_lower (slice_index bytes 0 ∷ []) ++ (codes "*" ++ decimal (length bytes))
repeated_word bytes e = rw e refl

pub plain_word : (bytes : List ℕ) → is_repeated bytes ≡ false → data_word bytes ≡ hex_word bytes
plain_word bytes e = rw e refl

-- a text in two parts, of which the first failed, or the second
pub front_of : (old new : Option (List ℕ)) (whole a b : List ℕ) → whole ≡ a ++ b → TakesFront old new a → TakesFront old new whole
front_of old new whole a b e t = rw e (took_first old new a b t)

pub front_behind : (old mid new : Option (List ℕ)) (whole a b : List ℕ) → whole ≡ a ++ b → mid ≡ append_known old a → TakesFront mid new b → TakesFront old new whole
front_behind old mid new whole a b e h t = rw e (took_behind old mid new a b h t)

-- the same text in other words
pub puts_same : {T E : Type 0} (r : Result T E) (old new : Option (List ℕ)) (a b : List ℕ) → a ≡ b → Puts r old new a → Puts r old new b
puts_same r old new a b e = subst (λ (l : List ℕ). Puts r old new l) e

-- a list of texts of which one more element was taken
pub flat_map_next : {X : Type 0} (f : X → List ℕ) (all done rest more : List X) (e : X) → all ≡ done ++ rest → rest ≡ e ∷ more
    → flat_map f all ≡ flat_map f done ++ (f e ++ flat_map f more)
flat_map_next f all done rest more e h k = ap (flat_map f) (h ∙ ap (λ (l : List _). done ++ l) k) ∙ flat_map-append f done (e ∷ more)

-- the list after one more element of it
pub one_done : {X : Type 0} (all done rest more : List X) (e : X) → all ≡ done ++ rest → rest ≡ e ∷ more → all ≡ (done ++ e ∷ []) ++ more
one_done all done rest more e h k = h ∙ ap (λ (l : List _). done ++ l) k ∙ sym (append_assoc done (e ∷ []) more)

-- and its text
pub text_more : {X : Type 0} (f : X → List ℕ) (done : List X) (e : X) → flat_map f (done ++ e ∷ []) ≡ flat_map f done ++ f e
text_more f done e = flat_map-append f done (e ∷ []) ∙ ap (λ (l : List ℕ). flat_map f done ++ l) (append-nil (f e))
