-- The texts of a scenario whose lines were moved out are those of the whole scenario.
use Rattle.std.proofs.Common.{◌≡◌, ℕ, ◌+◌, ◌-◌, Bool, not, List, [], ◌∷◌, ◌++◌, length, map, codes, decimal, refl, ap, ◌∙◌, arith}
use Rattle.std.specs.Prelude.{is_some, nat_lt, if◌then◌else◌, slice_index_or, Option}
use Rattle.std.specs.List.{flat_map, range_with_len}
use Rattle.cod_chronicle.specs.Said.{stamp_of}
use Rattle.cod_chronicle.specs.declared.entry.Entry.{Entry}
use Rattle.cod_chronicle.specs.declared.entry.Entry.TheVariants.{Call, Down, Up, Move}
use Rattle.cod_chronicle.specs.Order.{Placed, order}
use Rattle.cod_board.specs.declared.kill.Kill.{Kill}
use Rattle.cod_board.specs.Kills.{kill_of}
use Rattle.cod_script.specs.Script.{Script, nobody}
use Rattle.cod_seg.specs.Seg.{Seg}
use Rattle.cod_text.specs.Printed.{caller_word, call_words, chronicle_text, line_of, line_text, node_text, reply_words, segment_word, what_words}
use Rattle.cod_shell.specs.Lines.{columns_text, column_text, node_line, node_lines, end_lines, run_lines, taken_on, PrintsAs}

-- ---- the chronicles

callers_same : (whole bare : Script) → PrintsAs whole bare → (who : ℕ) → caller_word bare who ≡ caller_word whole who
callers_same whole bare b who =
    ap (λ (n : ℕ). if nat_lt who n then (slice_index_or bare.clients who nobody).name else 43 ∷ decimal (who - n)) b.count
    ∙ ap (λ (name : List ℕ). if nat_lt who (length whole.clients) then name else 43 ∷ decimal (who - length whole.clients)) (b.names who)

pub names_same : (whole bare : Script) → PrintsAs whole bare → bare.segments ≡ whole.segments
names_same whole bare b = ap (λ (x : Script). x.segments) b.same

whats_same : (whole bare : Script) → PrintsAs whole bare → (e : Entry) → what_words bare e ≡ what_words whole e
whats_same whole bare b (Call caller number stamp call reply) =
    ap (λ (w : List ℕ). w ∷ decimal number ∷ (call_words call ++ codes "->" ∷ reply_words reply)) (callers_same whole bare b caller.0)
whats_same whole bare b (Down stamp col node cause) = refl
whats_same whole bare b (Up stamp col node) = refl
whats_same whole bare b (Move stamp col node) = refl

lines_same : (whole bare : Script) → PrintsAs whole bare → (p : Placed) → line_text bare p ≡ line_text whole p
lines_same whole bare b p =
    ap (λ (g : List (List ℕ)). line_of (decimal (stamp_of p.entry) ∷ slice_index_or g p.segment [] ∷ what_words bare p.entry)) (names_same whole bare b)
    ∙ ap (λ (w : List (List ℕ)). line_of (decimal (stamp_of p.entry) ∷ segment_word whole p.segment ∷ w)) (whats_same whole bare b p.entry)

texts_same : {X : Type 0} (f k : X → List ℕ) → ((x : X) → f x ≡ k x) → (xs : List X) → flat_map f xs ≡ flat_map k xs
texts_same f k same [] = refl
texts_same f k same (x ∷ xs) = ap (λ (l : List ℕ). l ++ flat_map f xs) (same x) ∙ ap (λ (l : List ℕ). k x ++ l) (texts_same f k same xs)

pub chronicle_same : (whole bare : Script) → PrintsAs whole bare → (hs : List (List Entry)) → chronicle_text bare hs ≡ chronicle_text whole hs
chronicle_same whole bare b hs = texts_same (line_text bare) (line_text whole) (lines_same whole bare b) (order hs)

-- ---- the columns

columns_same : (whole bare : Script) → PrintsAs whole bare → (s : Seg) → columns_text bare s ≡ columns_text whole s
unfolding column_text
columns_same whole bare b s = ap (λ (x : Script). columns_text x s) b.same

pub layouts_same : (whole bare : Script) → PrintsAs whole bare → (segs : List Seg) → flat_map (columns_text bare) segs ≡ flat_map (columns_text whole) segs
layouts_same whole bare b segs = texts_same (columns_text bare) (columns_text whole) (columns_same whole bare b) segs

-- ---- the nodes

-- the line of a node by what was asked of it
pub node_is : (x : Script) (kills : List (Option Kill)) (segs : List Seg) (node : ℕ) (killed : Bool) (capacity free : ℕ) → killed ≡ is_some (kill_of kills node)
    → free + taken_on segs node ≡ x.capacity → capacity ≡ x.capacity → node_text node (not killed) (capacity - free) free ≡ node_line x kills segs node
unfolding node_line
node_is x kills segs node killed capacity free k sums c =
    let taken : capacity - free ≡ taken_on segs node = omega (arith, sums, c) in
    let left : free ≡ x.capacity - taken_on segs node = omega (arith, sums) in
    ap (λ (b : Bool). node_text node (not b) (capacity - free) free) k
    ∙ ap (λ (n : ℕ). node_text node (not (is_some (kill_of kills node))) n free) taken
    ∙ ap (λ (n : ℕ). node_text node (not (is_some (kill_of kills node))) (taken_on segs node) n) left

pub node_same : (whole bare : Script) → PrintsAs whole bare → (kills : List (Option Kill)) (segs : List Seg) (node : ℕ) → node_line bare kills segs node ≡ node_line whole kills segs node
unfolding node_line
node_same whole bare b kills segs node = ap (λ (x : Script). node_line x kills segs node) b.same

pub nodes_same : (whole bare : Script) → PrintsAs whole bare → (kills : List (Option Kill)) (segs : List Seg) → node_lines bare kills segs ≡ node_lines whole kills segs
unfolding node_line
nodes_same whole bare b kills segs = ap (λ (x : Script). node_lines x kills segs) b.same

-- ---- the whole

pub ends_same : (whole bare : Script) → PrintsAs whole bare → (kills : List (Option Kill)) (segs : List Seg) → end_lines bare kills segs ≡ end_lines whole kills segs
ends_same whole bare b kills segs =
    ap (λ (l : List ℕ). l ++ node_lines bare kills segs) (layouts_same whole bare b segs) ∙ ap (λ (l : List ℕ). flat_map (columns_text whole) segs ++ l) (nodes_same whole bare b kills segs)

pub run_same : (whole bare : Script) → PrintsAs whole bare → (kills : List (Option Kill)) (segs : List Seg) → run_lines bare kills segs ≡ run_lines whole kills segs
run_same whole bare b kills segs =
    ap (λ (l : List ℕ). l ++ end_lines bare kills segs) (chronicle_same whole bare b (map (λ (s : Seg). s.log) segs))
    ∙ ap (λ (l : List ℕ). chronicle_text whole (map (λ (s : Seg). s.log) segs) ++ l) (ends_same whole bare b kills segs)
