-- An entry read back from its words.
use Rattle.std.proofs.Common.{◌≡◌, ◌≢◌, ℕ, suc, ◌+◌, ◌%◌, ◌<◌, ◌≤◌, ◌^◌, Bool, true, false, cond, eqb, Some, Result, Ok, Err, List, [], ◌∷◌, ◌++◌, length, map, drop, get_or, refl, sym, ap, ◌∙◌, inl}
use Rattle.std.proofs.Common.{inr, arith}
use Rattle.std.specs.Prelude.{codes, decimal, slice_get}
use Rattle.std.specs.List.{AllByRecursion}
use Rattle.std.specs.Str.Parse.{digits_value}
use Rattle.std.proofs.lemmas.Bool.{cases_Bool, eq-eqb, ne_eqb, eqb-true}
use Rattle.std.proofs.lemmas.Fmt.{decimal_is_IsNumeral, decimal_injective, decimal_by_steps}
use Rattle.hex.specs.declared.error.FromHexError.{FromHexError}
use Rattle.hex.specs.Hex.{encode_with, decode_of, IsBytes}
use Rattle.hex.proofs.HexLemmas.{decode_of-encode_lower}
use Rattle.cod_types.specs.declared.call.NodeId.{NodeId}
use Rattle.cod_types.specs.declared.call.Call.{Call as Asked}
use Rattle.cod_types.specs.declared.call.Call.TheVariants.{Read, Write, Swap, Put, Merge, Tick, Rebuild, Upgrade, Drain}
use Rattle.cod_types.specs.declared.call.Reply.{Reply}
use Rattle.cod_types.specs.declared.call.Reply.TheVariants.{Bytes, Done, Range, Long, Lost, Whole, Rebuilt, NoSpare, NoMem, Differs, Shifted, Clear}
use Rattle.cod_types.specs.declared.reasons.Reason.{Reason}
use Rattle.cod_types.specs.declared.reasons.Why.{Why}
use Rattle.cod_types.specs.declared.reasons.Why.TheVariants as why
use Rattle.cod_chronicle.specs.declared.entry.Entry.{Entry}
use Rattle.cod_chronicle.specs.declared.entry.Entry.TheVariants.{Call, Down, Up, Move}
use Rattle.cod_chronicle.specs.declared.entry.Cause.{Cause}
use Rattle.cod_chronicle.specs.declared.entry.Cause.TheVariants.{Killed, Fault}
use Rattle.cod_chronicle.specs.Said.{stamp_of}
use Rattle.cod_chronicle.specs.Order.{Placed, place, placed, placed_from, order}
use Rattle.cod_chronicle.proofs.Orders.{Each-append, Each-weaker, Each-by_stamp}
use Rattle.cod_chronicle.proofs.Merging.{same_chronicles}
use Rattle.cod_script.specs.Script.{Script}
use Rattle.cod_print.specs.Pieces.{hex_word}
use Rattle.cod_text.specs.Printed.{call_words, why_text, reason_word, reply_words, cause_words, segment_word, caller_word, what_words, entry_words}
use Rattle.cod_text.specs.Unique.{IsWord, Fits, CallFits, WhyFits, ReplyFits, CauseFits, EntryFits, IsReadOneWay}
use Rattle.cod_text.proofs.Names.{HasWords, has_words}
use Rattle.cod_text.proofs.Splits.{Without, lines_same, IsWord-decimal, IsWord-hex, word_from}

value : List ℕ → ℕ
value w = digits_value 10 w

value_back : (n : ℕ) → n < 2 ^ 64 → value (decimal n) ≡ n
unfolding value
value_back n h = (decimal_is_IsNumeral n h).1

-- texts compared
abbrev same : List ℕ → List ℕ → Bool
same [] [] = true
same [] (y ∷ ys) = false
same (x ∷ xs) [] = false
same (x ∷ xs) (y ∷ ys) = cond (eqb x y) (same xs ys) false

ok_or_nil : Result (List ℕ) FromHexError → List ℕ
ok_or_nil (Ok bs) = bs
ok_or_nil (Err e) = []

bytes_of : List ℕ → List ℕ
bytes_of [] = []
bytes_of (c ∷ []) = []
bytes_of (c ∷ d ∷ cs) = ok_or_nil (decode_of (c ∷ d ∷ cs))

bytes_back : (bs : List ℕ) → IsBytes bs → bytes_of (hex_word bs) ≡ bs
unfolding encode_with bytes_of ok_or_nil
bytes_back [] h = refl
bytes_back (b ∷ bs) h = ap ok_or_nil (decode_of-encode_lower (b ∷ bs) h)

abbrev number_at : List (List ℕ) → ℕ → ℕ
number_at ws i = value (get_or ws i [])

abbrev node_at : List (List ℕ) → ℕ → NodeId
node_at ws i = record { 0 = number_at ws i }

abbrev Heard : Type 0
Heard = Asked × List (List ℕ)

abbrev call_from : List (List ℕ) → Heard
call_from [] = (Merge, [])
call_from (w ∷ ws) =
    cond (same w (codes "read")) (Read (number_at ws 0) (number_at ws 1), drop 2 ws)
    (cond (same w (codes "write")) (Write (number_at ws 0) (bytes_of (get_or ws 1 [])), drop 2 ws)
    (cond (same w (codes "swap")) (Swap (number_at ws 0) (bytes_of (get_or ws 1 [])) (bytes_of (get_or ws 2 [])), drop 3 ws)
    (cond (same w (codes "put")) (Put (bytes_of (get_or ws 0 [])), drop 1 ws)
    (cond (same w (codes "merge")) (Merge, ws)
    (cond (same w (codes "tick")) (Tick, ws)
    (cond (same w (codes "rebuild")) (Rebuild, ws)
    (cond (same w (codes "upgrade")) (Upgrade, ws) (Drain (node_at ws 0), drop 1 ws))))))))

call_back : (c : Asked) (more : List (List ℕ)) → CallFits c → call_from (call_words c ++ more) ≡ (c, more)
call_back (Read off len) more h = rw (value_back off h.0, value_back len h.1) refl
call_back (Write off bytes) more h = rw (value_back off h.0, bytes_back bytes h.1) refl
call_back (Swap off before after) more h = rw (value_back off h.0, bytes_back before h.1.0, bytes_back after h.1.1) refl
call_back (Put bytes) more h = rw (bytes_back bytes h) refl
call_back Merge more h = refl
call_back Tick more h = refl
call_back Rebuild more h = refl
call_back Upgrade more h = refl
call_back (Drain node) more h = rw (value_back node.0 h) refl

abbrev front : ℕ → List ℕ → List ℕ
front c [] = []
front c (x ∷ xs) = cond (eqb x c) [] (x ∷ front c xs)

abbrev back : ℕ → List ℕ → List ℕ
back c [] = []
back c (x ∷ xs) = cond (eqb x c) xs (back c xs)

front_at : (c : ℕ) (a b : List ℕ) → Without c a → front c (a ++ c ∷ b) ≡ a
front_at c [] b h = rw (eq-eqb c c refl) refl
front_at c (x ∷ a) b h = rw (ne_eqb x c h.0) (ap (λ (l : List ℕ). x ∷ l) (front_at c a b h.1))

back_at : (c : ℕ) (a b : List ℕ) → Without c a → back c (a ++ c ∷ b) ≡ b
back_at c [] b h = rw (eq-eqb c c refl) refl
back_at c (x ∷ a) b h = rw (ne_eqb x c h.0) (back_at c a b h.1)

abbrev why_from : List ℕ → Why
why_from t =
    cond (eqb (get_or t 0 0) 100) (why.Down (value (drop 5 t))) (cond (eqb (get_or t 1 0) 114) (why.Free (value (drop 5 t))) (why.Fault (value (drop 6 t))))

why_back : (y : Why) → WhyFits y → why_from (why_text y) ≡ y
why_back (why.Down line) h = rw (value_back line h) refl
why_back (why.Free bytes) h = rw (value_back bytes h) refl
why_back (why.Fault count) h = rw (value_back count h) refl

reason_from : List ℕ → Reason
reason_from w = record { node = record { 0 = value (front 58 w) }; why = why_from (back 58 w) }

no_colon : (n : ℕ) → n < 2 ^ 64 → Without 58 (decimal n)
no_colon n h = decimal_by_steps (λ n ds. Without 58 ds) (λ n l. (λ e. absurd (omega arith), tt)) (λ n ds l w. Each-append (λ x. x ≢ 58) ds ((48 + n % 10) ∷ []) w (λ e. absurd (omega arith), tt)) n h

reason_back : (r : Reason) → Fits r.node.0 × WhyFits r.why → reason_from (reason_word r) ≡ r
unfolding reason_from
reason_back r h =
    let w = no_colon r.node.0 h.0 in
    rw (front_at 58 (decimal r.node.0) (why_text r.why) w, back_at 58 (decimal r.node.0) (why_text r.why) w, value_back r.node.0 h.0, why_back r.why h.1) refl

reasons_back : (rs : List Reason) → AllByRecursion (λ r. Fits r.node.0 × WhyFits r.why) rs → map reason_from (map (λ r. reason_word r) rs) ≡ rs
reasons_back [] h = refl
reasons_back (r ∷ rs) h = ap (λ (k : Reason). k ∷ map reason_from (map (λ r. reason_word r) rs)) (reason_back r h.0) ∙ ap (λ (l : List Reason). r ∷ l) (reasons_back rs h.1)

abbrev reply_from : List (List ℕ) → Reply
reply_from [] = Done
reply_from (w ∷ ws) =
    cond (same w (codes "bytes")) (Bytes (bytes_of (get_or ws 0 [])))
    (cond (same w (codes "done")) Done
    (cond (same w (codes "range")) Range
    (cond (same w (codes "long")) Long
    (cond (same w (codes "lost")) Lost
    (cond (same w (codes "whole")) Whole
    (cond (same w (codes "rebuilt")) (Rebuilt (number_at ws 0) (node_at ws 1))
    (cond (same w (codes "nospare")) (NoSpare (map reason_from ws))
    (cond (same w (codes "nomem")) NoMem
    (cond (same w (codes "differs")) (Differs (bytes_of (get_or ws 0 [])))
    (cond (same w (codes "shifted")) (Shifted (number_at ws 0) (node_at ws 1)) Clear))))))))))

reply_back : (r : Reply) → ReplyFits r → reply_from (reply_words r) ≡ r
reply_back (Bytes bytes) h = rw (bytes_back bytes h) refl
reply_back Done h = refl
reply_back Range h = refl
reply_back Long h = refl
reply_back Lost h = refl
reply_back Whole h = refl
reply_back (Rebuilt col node) h = rw (value_back col h.0, value_back node.0 h.1) refl
reply_back (NoSpare reasons) h = rw (reasons_back reasons h) refl
reply_back NoMem h = refl
reply_back (Differs bytes) h = rw (bytes_back bytes h) refl
reply_back (Shifted col node) h = rw (value_back col h.0, value_back node.0 h.1) refl
reply_back Clear h = refl

abbrev cause_from : List (List ℕ) → Cause
cause_from [] = Killed 0
cause_from (w ∷ ws) = cond (same w (codes "killed")) (Killed (number_at ws 0)) (Fault (number_at ws 0))

cause_back : (c : Cause) → CauseFits c → cause_from (cause_words c) ≡ c
cause_back (Killed line) h = rw (value_back line h) refl
cause_back (Fault count) h = rw (value_back count h) refl

abbrev caller_of : Entry → ℕ
caller_of (Call caller number stamp call reply) = caller.0
caller_of (Down stamp col node cause) = 0
caller_of (Up stamp col node) = 0
caller_of (Move stamp col node) = 0

-- a mark from the words behind its `=`
abbrev mark_from : ℕ → List (List ℕ) → Entry
mark_from t [] = Up t 0 (record { 0 = 0 })
mark_from t (w ∷ ws) =
    cond (same w (codes "down")) (Down t (number_at ws 0) (node_at ws 1) (cause_from (drop 2 ws)))
    (cond (same w (codes "up")) (Up t (number_at ws 0) (node_at ws 1)) (Move t (number_at ws 0) (node_at ws 1)))

-- a call from the words behind its caller
abbrev call_entry : ℕ → ℕ → List (List ℕ) → Entry
call_entry t c ws = Call (record { 0 = c }) (number_at ws 0) t (call_from (drop 1 ws)).0 (reply_from (drop 1 (call_from (drop 1 ws)).1))

abbrev what_from : ℕ → ℕ → List (List ℕ) → Entry
what_from t c [] = call_entry t c []
what_from t c (w ∷ ws) = cond (same w (codes "=")) (mark_from t ws) (call_entry t c ws)

same_from : (x y : ℕ) (w v : List ℕ) → (same w v ≡ true → w ≡ v) → (b : Bool) → eqb x y ≡ b → cond b (same w v) false ≡ true → x ∷ w ≡ y ∷ v
same_from x y w v r true d e = (let h = eqb-true x y d in let t = r e in cc)
same_from x y w v r false d e = cc

same_word : (w v : List ℕ) → same w v ≡ true → w ≡ v
same_word [] [] e = refl
same_word [] (y ∷ v) e = cc
same_word (x ∷ w) [] e = cc
same_word (x ∷ w) (y ∷ v) e = same_from x y w v (same_word w v) (eqb x y) refl e

entry_back : (x : Script) (e : Entry) → HasWords x → EntryFits e → what_from (stamp_of e) (caller_of e) (what_words x e) ≡ e
entry_back x (Call caller number stamp call reply) N h =
    let f : same (caller_word x caller.0) (61 ∷ []) ≡ false =
    elim (cases_Bool (same (caller_word x caller.0) (61 ∷ []))) [ inl t ↦ absurd (N.no_mark caller.0 (same_word (caller_word x caller.0) (61 ∷ []) t)) | inr g ↦ g ] in
    let c = call_back call (codes "->" ∷ reply_words reply) h.1.1.1.0 in
    let r = reply_back reply h.1.1.1.1 in
    let n = value_back number h.1.1.0 in
    rw (f, n, c, r) refl
entry_back x (Down stamp col node cause) N h = rw (value_back col h.1.0, value_back node.0 h.1.1.0, cause_back cause h.1.1.1) refl
entry_back x (Up stamp col node) N h = rw (value_back col h.1.0, value_back node.0 h.1.1) refl
entry_back x (Move stamp col node) N h = rw (value_back col h.1.0, value_back node.0 h.1.1) refl

stamp_fits : (e : Entry) → EntryFits e → stamp_of e < 2 ^ 64
stamp_fits (Call caller number stamp call reply) h = h.0
stamp_fits (Down stamp col node cause) h = h.0
stamp_fits (Up stamp col node) h = h.0
stamp_fits (Move stamp col node) h = h.0

callers_same : (x : Script) (e f : Entry) → HasWords x → EntryFits e → EntryFits f → what_words x e ≡ what_words x f → caller_of e ≡ caller_of f
callers_same x (Call caller number stamp call reply) (Call caller' number' stamp' call' reply') N h g e =
    (let w : caller_word x caller.0 ≡ caller_word x caller'.0 = cc in N.callers caller.0 caller'.0 h.1.0 g.1.0 w)
callers_same x (Call caller number stamp call reply) (Down stamp' col' node' cause') N h g e = (let w : caller_word x caller.0 ≡ 61 ∷ [] = cc in absurd (N.no_mark caller.0 w))
callers_same x (Call caller number stamp call reply) (Up stamp' col' node') N h g e = (let w : caller_word x caller.0 ≡ 61 ∷ [] = cc in absurd (N.no_mark caller.0 w))
callers_same x (Call caller number stamp call reply) (Move stamp' col' node') N h g e = (let w : caller_word x caller.0 ≡ 61 ∷ [] = cc in absurd (N.no_mark caller.0 w))
callers_same x (Down stamp col node cause) (Call caller' number' stamp' call' reply') N h g e = (let w : caller_word x caller'.0 ≡ 61 ∷ [] = cc in absurd (N.no_mark caller'.0 w))
callers_same x (Down stamp col node cause) (Down stamp' col' node' cause') N h g e = refl
callers_same x (Down stamp col node cause) (Up stamp' col' node') N h g e = refl
callers_same x (Down stamp col node cause) (Move stamp' col' node') N h g e = refl
callers_same x (Up stamp col node) (Call caller' number' stamp' call' reply') N h g e = (let w : caller_word x caller'.0 ≡ 61 ∷ [] = cc in absurd (N.no_mark caller'.0 w))
callers_same x (Up stamp col node) (Down stamp' col' node' cause') N h g e = refl
callers_same x (Up stamp col node) (Up stamp' col' node') N h g e = refl
callers_same x (Up stamp col node) (Move stamp' col' node') N h g e = refl
callers_same x (Move stamp col node) (Call caller' number' stamp' call' reply') N h g e = (let w : caller_word x caller'.0 ≡ 61 ∷ [] = cc in absurd (N.no_mark caller'.0 w))
callers_same x (Move stamp col node) (Down stamp' col' node' cause') N h g e = refl
callers_same x (Move stamp col node) (Up stamp' col' node') N h g e = refl
callers_same x (Move stamp col node) (Move stamp' col' node') N h g e = refl

-- equal words are of equal entries
placed_same : (x : Script) (n : ℕ) → n ≡ length x.segments → HasWords x → (p q : Placed) → (p.segment < n) × EntryFits p.entry → (q.segment < n) × EntryFits q.entry
    → entry_words x p ≡ entry_words x q → p ≡ q
placed_same x n len N p q h g e =
    let stamps : decimal (stamp_of p.entry) ≡ decimal (stamp_of q.entry) = cc in
    let segments : segment_word x p.segment ≡ segment_word x q.segment = cc in
    let what : what_words x p.entry ≡ what_words x q.entry = cc in
    let t : stamp_of p.entry ≡ stamp_of q.entry = decimal_injective (stamp_of p.entry) (stamp_of q.entry) (stamp_fits p.entry h.1) (stamp_fits q.entry g.1) stamps in
    let s : p.segment ≡ q.segment = N.segments p.segment q.segment (omega arith) (omega arith) segments in
    let c = callers_same x p.entry q.entry N h.1 g.1 what in
    let same_entry : p.entry ≡ q.entry =
    sym (entry_back x p.entry N h.1) ∙ ap (λ (m : ℕ). what_from m (caller_of p.entry) (what_words x p.entry)) t ∙ ap (λ (m : ℕ). what_from (stamp_of q.entry) m (what_words x p.entry)) c
    ∙ ap (what_from (stamp_of q.entry) (caller_of q.entry)) what ∙ entry_back x q.entry N g.1 in
    ap (λ (i : ℕ). let r : Placed = record { segment = i; entry = p.entry } in r) s ∙ ap (λ (f : Entry). let r : Placed = record { segment = q.segment; entry = f } in r) same_entry

map_same : {X Y : Type 0} (f : X → Y) (P : X → Type 0) → ((p q : X) → P p → P q → f p ≡ f q → p ≡ q) → (xs ys : List X) → AllByRecursion P xs → AllByRecursion P ys → map f xs ≡ map f ys → xs ≡ ys
map_same f P inj [] [] a b e = refl
map_same f P inj [] (y ∷ ys) a b e = cc
map_same f P inj (x ∷ xs) [] a b e = cc
map_same f P inj (x ∷ xs) (y ∷ ys) a b e =
    let h : f x ≡ f y = cc in
    let t : map f xs ≡ map f ys = cc in
    let p = inj x y a.0 b.0 h in
    let q = map_same f P inj xs ys a.1 b.1 t in
    cc

-- all that is printed is words
call_is_words : (c : Asked) → CallFits c → AllByRecursion IsWord (call_words c)
call_is_words (Read off len) h = (word_from (codes "read") refl, (IsWord-decimal off h.0, (IsWord-decimal len h.1, tt)))
call_is_words (Write off bytes) h = (word_from (codes "write") refl, (IsWord-decimal off h.0, (IsWord-hex bytes h.1, tt)))
call_is_words (Swap off before after) h = (word_from (codes "swap") refl, (IsWord-decimal off h.0, (IsWord-hex before h.1.0, (IsWord-hex after h.1.1, tt))))
call_is_words (Put bytes) h = (word_from (codes "put") refl, (IsWord-hex bytes h, tt))
call_is_words Merge h = (word_from (codes "merge") refl, tt)
call_is_words Tick h = (word_from (codes "tick") refl, tt)
call_is_words Rebuild h = (word_from (codes "rebuild") refl, tt)
call_is_words Upgrade h = (word_from (codes "upgrade") refl, tt)
call_is_words (Drain node) h = (word_from (codes "drain") refl, (IsWord-decimal node.0 h, tt))

why_is_word : (y : Why) → WhyFits y → IsWord (why_text y)
why_is_word (why.Down line) h = Each-append (λ c. 33 ≤ c) (codes "down:") (decimal line) (word_from (codes "down:") refl) (IsWord-decimal line h)
why_is_word (why.Free bytes) h = Each-append (λ c. 33 ≤ c) (codes "free:") (decimal bytes) (word_from (codes "free:") refl) (IsWord-decimal bytes h)
why_is_word (why.Fault count) h = Each-append (λ c. 33 ≤ c) (codes "fault:") (decimal count) (word_from (codes "fault:") refl) (IsWord-decimal count h)

reasons_are_words : (rs : List Reason) → AllByRecursion (λ r. Fits r.node.0 × WhyFits r.why) rs → AllByRecursion IsWord (map (λ r. reason_word r) rs)
reasons_are_words [] h = tt
reasons_are_words (r ∷ rs) h =
    (Each-append (λ c. 33 ≤ c) (decimal r.node.0) (58 ∷ why_text r.why) (IsWord-decimal r.node.0 h.0.0) (omega arith, why_is_word r.why h.0.1), reasons_are_words rs h.1)

reply_is_words : (r : Reply) → ReplyFits r → AllByRecursion IsWord (reply_words r)
reply_is_words (Bytes bytes) h = (word_from (codes "bytes") refl, (IsWord-hex bytes h, tt))
reply_is_words Done h = (word_from (codes "done") refl, tt)
reply_is_words Range h = (word_from (codes "range") refl, tt)
reply_is_words Long h = (word_from (codes "long") refl, tt)
reply_is_words Lost h = (word_from (codes "lost") refl, tt)
reply_is_words Whole h = (word_from (codes "whole") refl, tt)
reply_is_words (Rebuilt col node) h = (word_from (codes "rebuilt") refl, (IsWord-decimal col h.0, (IsWord-decimal node.0 h.1, tt)))
reply_is_words (NoSpare reasons) h = (word_from (codes "nospare") refl, reasons_are_words reasons h)
reply_is_words NoMem h = (word_from (codes "nomem") refl, tt)
reply_is_words (Differs bytes) h = (word_from (codes "differs") refl, (IsWord-hex bytes h, tt))
reply_is_words (Shifted col node) h = (word_from (codes "shifted") refl, (IsWord-decimal col h.0, (IsWord-decimal node.0 h.1, tt)))
reply_is_words Clear h = (word_from (codes "clear") refl, tt)

cause_is_words : (c : Cause) → CauseFits c → AllByRecursion IsWord (cause_words c)
cause_is_words (Killed line) h = (word_from (codes "killed") refl, (IsWord-decimal line h, tt))
cause_is_words (Fault count) h = (word_from (codes "fault") refl, (IsWord-decimal count h, tt))

what_is_words : (x : Script) (e : Entry) → HasWords x → EntryFits e → AllByRecursion IsWord (what_words x e)
what_is_words x (Call caller number stamp call reply) N h = (
  N.caller caller.0 h.1.0,
  (
    IsWord-decimal number h.1.1.0,
    Each-append IsWord (call_words call) (codes "->" ∷ reply_words reply) (call_is_words call h.1.1.1.0) (
      word_from
          (codes "->") refl,
      reply_is_words reply h.1.1.1.1,
    ),
  ),
)
what_is_words x (Down stamp col node cause) N h =
    (word_from (codes "=") refl, (word_from (codes "down") refl, (IsWord-decimal col h.1.0, (IsWord-decimal node.0 h.1.1.0, cause_is_words cause h.1.1.1))))
what_is_words x (Up stamp col node) N h = (word_from (codes "=") refl, (word_from (codes "up") refl, (IsWord-decimal col h.1.0, (IsWord-decimal node.0 h.1.1, tt))))
what_is_words x (Move stamp col node) N h = (word_from (codes "=") refl, (word_from (codes "move") refl, (IsWord-decimal col h.1.0, (IsWord-decimal node.0 h.1.1, tt))))

entry_is_words : (x : Script) (p : Placed) → HasWords x → EntryFits p.entry → AllByRecursion IsWord (entry_words x p)
entry_is_words x p N h = (IsWord-decimal (stamp_of p.entry) (stamp_fits p.entry h), (N.segment p.segment, what_is_words x p.entry N h))

-- the segment numbers
within : (i n : ℕ) (hs : List (List Entry)) → i + length hs ≤ n → AllByRecursion (λ p. p.segment < n) (placed_from i hs)
within i n [] l = tt
within i n (h ∷ hs) l = Each-append (λ p. p.segment < n) (map (λ e. place i e) h) (placed_from (i + 1) hs) (one i n h (omega arith)) (within (i + 1) n hs (omega arith)) where
  one : (i n : ℕ) (h : List Entry) → i < n → AllByRecursion (λ p. p.segment < n) (map (λ e. place i e) h)
  one i n [] l = tt
  one i n (e ∷ h) l = (l, one i n h l)

both : (P Q : Placed → Type 0) (ps : List Placed) → AllByRecursion P ps → AllByRecursion Q ps → AllByRecursion (λ p. P p × Q p) ps
both P Q [] a b = tt
both P Q (p ∷ ps) a b = ((a.0, b.0), both P Q ps a.1 b.1)

lists_same : (hs ks : List (List Entry)) → length hs ≡ length ks → ((s : ℕ) (h k : List Entry) → slice_get hs s ≡ Some h → slice_get ks s ≡ Some k → h ≡ k) → hs ≡ ks
lists_same [] [] l f = refl
lists_same [] (k ∷ ks) l f = absurd (omega arith)
lists_same (h ∷ hs) [] l f = absurd (omega arith)
lists_same (h ∷ hs) (k ∷ ks) l f =
    let a : h ≡ k = f 0 h k refl refl in
    let b = lists_same hs ks (omega arith) (λ s g j x y. f (suc s) g j x y) in
    cc

pub read_one_way : IsReadOneWay
read_one_way x hs ks names H K e =
    let N = has_words x names in
    let n = length x.segments in
    let hc = H.count in
    let kc = K.count in
    let P : Placed → Type 0 = λ p. (p.segment < n) × EntryFits p.entry in
    let a : AllByRecursion P (order hs) = Each-by_stamp P (placed hs) (both (λ p. p.segment < n) (λ p. EntryFits p.entry) (placed hs) (within 0 n hs (omega arith)) H.fit) in
    let b : AllByRecursion P (order ks) = Each-by_stamp P (placed ks) (both (λ p. p.segment < n) (λ p. EntryFits p.entry) (placed ks) (within 0 n ks (omega arith)) K.fit) in
    let w : (ps : List Placed) → AllByRecursion P ps → AllByRecursion (λ p. AllByRecursion IsWord (entry_words x p)) ps = λ ps h. Each-weaker P (λ p. AllByRecursion IsWord (entry_words x p))
    (λ p f. entry_is_words x p N f.1) ps h in
    let m = lines_same (λ p. decimal (stamp_of p.entry)) (λ p. segment_word x p.segment ∷ what_words x p.entry) (order hs) (order ks) (w (order hs) a) (w (order ks) b) e in
    let o = map_same (λ p. entry_words x p) P (placed_same x n refl N) (order hs) (order ks) a b m in
    lists_same hs ks (omega arith) (same_chronicles hs ks (omega arith) H.rise K.rise o)
