-- Each line of a client is read again.
use Rattle.std.proofs.Common.{◌≡◌, ℕ, ◌+◌, ◌<◌, ◌≤◌, ◌^◌, true, false, List, [], ◌∷◌, length, refl, ◌∙◌, arith, Ok, Option, Some}
use Rattle.std.specs.Prelude.{nat_eq, slice_index, slice_index_or, codes, decimal}
use Rattle.std.specs.List.{All, AllByRecursion}
use Rattle.std.proofs.lemmas.Bool.{eq-eqb}
use Rattle.cod_types.specs.declared.call.Call.{Call}
use Rattle.cod_types.specs.declared.call.Call.TheVariants as calls
use Rattle.cod_words.specs.Words.{is_name}
use Rattle.cod_print.specs.Pieces.{data_word}
use Rattle.cod_script.specs.declared.line.What.{What}
use Rattle.cod_script.specs.declared.line.What.TheVariants.{Segment, Fail}
use Rattle.cod_scenario.specs.declared.said.Header.{Header}
use Rattle.cod_scenario.specs.declared.said.Keyword.TheVariants as key
use Rattle.cod_scenario.specs.declared.said.Keyword.{Keyword}
use Rattle.cod_scenario.specs.declared.said.Verb.{Verb}
use Rattle.cod_scenario.specs.declared.said.Verb.TheVariants as verb
use Rattle.cod_scenario.specs.declared.said.Said.{Said}
use Rattle.cod_scenario.specs.declared.said.Said.TheVariants as said
use Rattle.cod_scenario.specs.Judge.{keyword_of, may_follow, among_clients, rest_says, what_says, does_line, known, read_line, write_line, swap_line, put_line, plain_line, drain_line, fail_line}
use Rattle.cod_scenario.specs.Judge.{is_end, last_of}
use Rattle.cod_scenario.specs.Lines.{client_names, line_weight, with_line}
use Rattle.cod_script.specs.Script.{Body}
use Rattle.cod_script.specs.Sound.{AllDiffer, IsThere, IsDated}
use Rattle.cod_script.specs.Text.{line_text, what_text}
use Rattle.cod_canonical.proofs.Texts.{IsClear}
use Rattle.cod_canonical.proofs.Fields.{decimal_is_clear, number_back, node_back, name_is_clear, known_back}
use Rattle.cod_canonical.proofs.Datas.{IsData, data_back, data_is_clear}
use Rattle.cod_canonical.proofs.Steps.{Reaches, Stands, there_reaches}

-- ---- what a line of a client can hold

abbrev pub IsSpokenCall : Call → Type 0
IsSpokenCall (calls.Read off len) = (off < 2 ^ 32) × (len < 2 ^ 32)
IsSpokenCall (calls.Write off bytes) = (off < 2 ^ 32) × IsData bytes
IsSpokenCall (calls.Swap off old new) = (off < 2 ^ 32) × IsData old × IsData new
IsSpokenCall (calls.Put bytes) = IsData bytes
IsSpokenCall calls.Merge = Unit {0}
IsSpokenCall calls.Tick = Unit {0}
IsSpokenCall calls.Rebuild = Unit {0}
IsSpokenCall calls.Upgrade = Unit {0}
IsSpokenCall (calls.Drain node) = Unit {0}

abbrev pub IsSpoken : What → Type 0
IsSpoken (Segment seg call) = IsSpokenCall call
IsSpoken (Fail node) = Unit {0}

-- names, no two of them one
pub record AreNames (names : List (List ℕ)) : Type 0 where
  pub differ : AllDiffer names
  pub good : All (λ name. is_name name ≡ true) names

-- a line after which lines of clients may come
pub record IsAmong (version : ℕ) (last : Option Said) : Type 0 where
  pub goes_on : is_end last ≡ false
  pub among : (k : Keyword) → may_follow version last k ≡ among_clients version k

pub after_client : (version : ℕ) (name : List ℕ) → IsAmong version (Some (said.Client name))
unfolding may_follow
after_client version name = record { goes_on = refl; among = λ k. refl }

pub after_does : (version n : ℕ) (what : What) → IsAmong version (Some (said.Does n what))
unfolding may_follow
after_does version n what = record { goes_on = refl; among = λ k. refl }

pub weight_unnumbered : (h : Header) (n : ℕ) (what : What) → line_weight h (said.Does n what) ≡ line_weight h (said.Does 0 what)
unfolding line_weight
weight_unnumbered h n what = refl

does_read : (h : Header) (segments clients : List (List ℕ)) (n : ℕ) (v : Verb) (ws : List (List ℕ)) (what : What)
    → what_says h segments v ws ≡ Ok what → rest_says h segments clients n (key.Does v) ws ≡ Ok (said.Does n what)
unfolding rest_says does_line
does_read h segments clients n v ws what e = rw e refl

-- the words of a line of a client
record Speaks (h : Header) (names : List (List ℕ)) (first : List ℕ) (ws : List (List ℕ)) (v : Verb) (what : What) : Type 0 where
  pub clear : IsClear first
  pub no_comment : nat_eq (slice_index first 0) 35 ≡ false
  pub words : AllByRecursion IsClear ws
  pub keyword : keyword_of first ≡ Some (key.Does v)
  pub stands : among_clients h.version (key.Does v) ≡ true
  pub read : what_says h names v ws ≡ Ok what

module _ (h : Header) (names : List (List ℕ)) (good : AreNames names) (few : h.nodes ≤ 64) where
  word_clear : (i : ℕ) → i < length names → IsClear (slice_index_or names i [])
  word_clear i lt = name_is_clear (slice_index_or names i []) (good.good i [] lt)

  seg_known : (i : ℕ) → i < length names → known names (slice_index_or names i []) ≡ Ok i
  seg_known i lt = known_back names i good.differ good.good lt

  read_speaks : (seg off len : ℕ) → seg < length names → off < 2 ^ 32 → len < 2 ^ 32
      → Speaks h names (codes "read") (slice_index_or names seg [] ∷ decimal off ∷ decimal len ∷ []) verb.Read (Segment (record { 0 = seg }) (calls.Read off len))
  unfolding what_says read_line
  read_speaks seg off len lt a b = record {
    clear = record { some = refl; clear = refl };
    no_comment = refl;
    words = (word_clear seg lt, (decimal_is_clear off a, (decimal_is_clear len b, tt)));
    keyword = refl;
    stands = refl;
    read = rw (seg_known seg lt, number_back off a, number_back len b) refl;
  }

  write_speaks : (seg off : ℕ) (bytes : List ℕ) → seg < length names → off < 2 ^ 32 → IsData bytes
      → Speaks h names (codes "write") (slice_index_or names seg [] ∷ decimal off ∷ data_word bytes ∷ []) verb.Write (Segment (record { 0 = seg }) (calls.Write off bytes))
  unfolding what_says write_line
  write_speaks seg off bytes lt a b = record {
    clear = record { some = refl; clear = refl };
    no_comment = refl;
    words = (word_clear seg lt, (decimal_is_clear off a, (data_is_clear bytes b, tt)));
    keyword = refl;
    stands = refl;
    read = rw (seg_known seg lt, number_back off a, data_back bytes b) refl;
  }

  swap_speaks : (seg off : ℕ) (old new : List ℕ) → seg < length names → off < 2 ^ 32 → IsData old → IsData new
      → Speaks h names (codes "swap") (slice_index_or names seg [] ∷ decimal off ∷ data_word old ∷ data_word new ∷ []) verb.Swap (Segment (record { 0 = seg }) (calls.Swap off old new))
  unfolding what_says swap_line
  swap_speaks seg off old new lt a b c = record {
    clear = record { some = refl; clear = refl };
    no_comment = refl;
    words = (word_clear seg lt, (decimal_is_clear off a, (data_is_clear old b, (data_is_clear new c, tt))));
    keyword = refl;
    stands = refl;
    read = rw (seg_known seg lt, number_back off a, data_back old b, data_back new c) refl;
  }

  put_speaks : (seg : ℕ) (bytes : List ℕ) → seg < length names → IsData bytes
      → Speaks h names (codes "put") (slice_index_or names seg [] ∷ data_word bytes ∷ []) verb.Put (Segment (record { 0 = seg }) (calls.Put bytes))
  unfolding what_says put_line
  put_speaks seg bytes lt b = record {
    clear = record { some = refl; clear = refl };
    no_comment = refl;
    words = (word_clear seg lt, (data_is_clear bytes b, tt));
    keyword = refl;
    stands = refl;
    read = rw (seg_known seg lt, data_back bytes b) refl;
  }

  plain_read : (seg : ℕ) (call : Call) → seg < length names → plain_line call names (slice_index_or names seg [] ∷ []) ≡ Ok (Segment (record { 0 = seg }) call)
  unfolding plain_line
  plain_read seg call lt = rw (seg_known seg lt) refl

  merge_speaks : (seg : ℕ) → seg < length names → Speaks h names (codes "merge") (slice_index_or names seg [] ∷ []) verb.Merge (Segment (record { 0 = seg }) calls.Merge)
  unfolding what_says
  merge_speaks seg lt =
      record { clear = record { some = refl; clear = refl }; no_comment = refl; words = (word_clear seg lt, tt); keyword = refl; stands = refl; read = plain_read seg calls.Merge lt }

  tick_speaks : (seg : ℕ) → seg < length names → Speaks h names (codes "tick") (slice_index_or names seg [] ∷ []) verb.Tick (Segment (record { 0 = seg }) calls.Tick)
  unfolding what_says
  tick_speaks seg lt =
      record { clear = record { some = refl; clear = refl }; no_comment = refl; words = (word_clear seg lt, tt); keyword = refl; stands = refl; read = plain_read seg calls.Tick lt }

  rebuild_speaks : (seg : ℕ) → seg < length names → Speaks h names (codes "rebuild") (slice_index_or names seg [] ∷ []) verb.Rebuild (Segment (record { 0 = seg }) calls.Rebuild)
  unfolding what_says
  rebuild_speaks seg lt =
      record { clear = record { some = refl; clear = refl }; no_comment = refl; words = (word_clear seg lt, tt); keyword = refl; stands = refl; read = plain_read seg calls.Rebuild lt }

  upgrade_speaks : (seg : ℕ) → seg < length names → h.version ≡ 2
      → Speaks h names (codes "upgrade") (slice_index_or names seg [] ∷ []) verb.Upgrade (Segment (record { 0 = seg }) calls.Upgrade)
  unfolding what_says
  upgrade_speaks seg lt two =
      record { clear = record { some = refl; clear = refl }; no_comment = refl; words = (word_clear seg lt, tt); keyword = refl; stands = eq-eqb h.version 2 two; read = plain_read seg calls.Upgrade lt }

  drain_speaks : (seg x : ℕ) → seg < length names → x < h.nodes
      → Speaks h names (codes "drain") (slice_index_or names seg [] ∷ decimal x ∷ []) verb.Drain (Segment (record { 0 = seg }) (calls.Drain (record { 0 = x })))
  unfolding what_says drain_line
  drain_speaks seg x lt there =
      let small : x < 2 ^ 32 = omega (arith, there, few) in
      record {
        clear = record { some = refl; clear = refl };
        no_comment = refl;
        words = (word_clear seg lt, (decimal_is_clear x small, tt));
        keyword = refl;
        stands = refl;
        read = rw (seg_known seg lt, node_back h.nodes x there small) refl;
      }

  fail_speaks : (x : ℕ) → x < h.nodes → Speaks h names (codes "fail") (decimal x ∷ []) verb.Fail (Fail (record { 0 = x }))
  unfolding what_says fail_line
  fail_speaks x there =
      let small : x < 2 ^ 32 = omega (arith, there, few) in
      record {
        clear = record { some = refl; clear = refl };
        no_comment = refl;
        words = (decimal_is_clear x small, tt);
        keyword = refl;
        stands = refl;
        read = rw (node_back h.nodes x there small) refl;
      }

module _ (before : List Said) (n : ℕ) (h : Header) (q : Body) (left : ℕ) (last : Option Said) (good : AreNames q.segments) (few : h.nodes ≤ 64) (l : last_of before ≡ last)
    (among : IsAmong h.version last) where
  speaks_reaches : (first : List ℕ) (ws : List (List ℕ)) (v : Verb) (what : What) → Stands h q (line_weight h (said.Does 0 what) + left) before → Speaks h q.segments first ws v what
      → Reaches before n (line_text first ws) (λ now. Stands h (with_line q (said.Does 0 what)) left now × (last_of now ≡ Some (said.Does n what)))
  speaks_reaches first ws v what i p =
      there_reaches before n h q left last first ws (key.Does v) (said.Does n what) (rw (weight_unnumbered h n what) i) l
      (record {
        clear = p.clear;
        no_comment = p.no_comment;
        words = p.words;
        goes_on = among.goes_on;
        keyword = p.keyword;
        stands = among.among (key.Does v) ∙ p.stands;
        read = does_read h q.segments (client_names q) n v ws what p.read;
        placed = refl;
      })

  pub what_reaches : (what : What) → Stands h q (line_weight h (said.Does 0 what) + left) before → IsThere h.nodes (length q.segments) what → IsDated h.version what
      → IsSpoken what → Reaches before n (what_text q.segments what) (λ now. Stands h (with_line q (said.Does 0 what)) left now × (last_of now ≡ Some (said.Does n what)))
  what_reaches (Segment seg (calls.Read off len)) i t d s = speaks_reaches _ _ verb.Read _ i (read_speaks h q.segments good few seg.0 off len t.0 s.0 s.1)
  what_reaches (Segment seg (calls.Write off bytes)) i t d s = speaks_reaches _ _ verb.Write _ i (write_speaks h q.segments good few seg.0 off bytes t.0 s.0 s.1)
  what_reaches (Segment seg (calls.Swap off old new)) i t d s = speaks_reaches _ _ verb.Swap _ i (swap_speaks h q.segments good few seg.0 off old new t.0 s.0 s.1 s.2)
  what_reaches (Segment seg (calls.Put bytes)) i t d s = speaks_reaches _ _ verb.Put _ i (put_speaks h q.segments good few seg.0 bytes t.0 s)
  what_reaches (Segment seg calls.Merge) i t d s = speaks_reaches _ _ verb.Merge _ i (merge_speaks h q.segments good few seg.0 t.0)
  what_reaches (Segment seg calls.Tick) i t d s = speaks_reaches _ _ verb.Tick _ i (tick_speaks h q.segments good few seg.0 t.0)
  what_reaches (Segment seg calls.Rebuild) i t d s = speaks_reaches _ _ verb.Rebuild _ i (rebuild_speaks h q.segments good few seg.0 t.0)
  what_reaches (Segment seg calls.Upgrade) i t d s = speaks_reaches _ _ verb.Upgrade _ i (upgrade_speaks h q.segments good few seg.0 t.0 d)
  what_reaches (Segment seg (calls.Drain node)) i t d s = speaks_reaches _ _ verb.Drain _ i (drain_speaks h q.segments good few seg.0 node.0 t.0 t.1)
  what_reaches (Fail node) i t d s = speaks_reaches _ _ verb.Fail _ i (fail_speaks h q.segments good few node.0 t)
