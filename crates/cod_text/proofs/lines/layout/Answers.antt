use Rattle.std.proofs.Common.{◌≡◌, ◌++◌, [], ◌∷◌, codes, decimal, List, ℕ, ap, sym, append_assoc, ◌∙◌}
use Rattle.std.proofs.lemmas.List.{append-nil}
use Rattle.std.proofs.lemmas.Result.{err_from_is_err_and}
use Rattle.cod_types.specs.declared.layout.LayoutLine.{LayoutLine}
use Rattle.cod_script.specs.Script.{Script}
use Rattle.cod_print.specs.Pieces.{spaced}
use Rattle.cod_text.specs.Printed.{layout_text, parity_words, segment_word, state_word}
use Rattle.cod_print.proofs.Fronts.{front_of, took_front, puts_behind, puts_same}
use Rattle.cod_text.proofs.Spacing.{line_parts}
use Rattle.cod_text.proofs.lines.layout.Goals as goal

-- what every column's line begins with, and what it ends with
abbrev place_words : Script → LayoutLine → List (List ℕ)
place_words x l = segment_word x l.seg.0 ∷ decimal l.col ∷ decimal l.node.0 ∷ state_word l.up ∷ codes "len" ∷ decimal l.len ∷ []

abbrev count_words : LayoutLine → List (List ℕ)
count_words l = codes "reads" ∷ decimal l.reads ∷ codes "writes" ∷ decimal l.writes ∷ []

parts : (x : Script) (l : LayoutLine) → layout_text x l ≡ (codes "layout" ++ spaced (place_words x l)) ++ (spaced (parity_words l.parity) ++ (spaced (count_words l) ++ 10 ∷ []))
parts x l = line_parts (codes "layout") (place_words x l) (parity_words l.parity) (count_words l)

-- the end of the line, in one piece
counts_end : (reads writes : List ℕ) → spaced (codes "reads" ∷ reads ∷ codes "writes" ∷ writes ∷ []) ++ 10 ∷ [] ≡ codes " reads " ++ (reads ++ (codes " writes " ++ (writes ++ 10 ∷ [])))
counts_end reads writes =
    ap (λ (l : List ℕ). codes " reads " ++ l)
    (append_assoc reads (codes " writes " ++ (writes ++ [])) (10 ∷ []) ∙ ap (λ (l : List ℕ). reads ++ (codes " writes " ++ (l ++ 10 ∷ []))) (append-nil writes))

pub returns-in_err-pieces-clause-text : goal.returns-in_err-pieces-clause-text
returns-in_err-pieces-clause-text g c =
    let p = err_from_is_err_and c.from_residual.result c.from_residual.ensures.1 in
    let n = c.segment_name.ensures in
    let b = c.as_bytes-name.ensures.value in
    let s = c.state.ensures in
    let h = c.in_err-pieces.ensures.text in
    rw (p.1) (front_of _ _ _ (codes "layout" ++ spaced (place_words c.args.names.now c.args.line)) _ (parts c.args.names.now c.args.line) (rw (b, n, s) at h))

pub returns-in_err-parity-clause-text : goal.returns-in_err-parity-clause-text
returns-in_err-parity-clause-text g c =
    let p = err_from_is_err_and c.from_residual-in_err-parity.result c.from_residual-in_err-parity.ensures.1 in
    let n = c.segment_name.ensures in
    let b = c.as_bytes-name.ensures.value in
    let s = c.state.ensures in
    let h = c.in_ok-pieces.ensures.text in
    rw (p.1) (took_front _ _ _ _ (codes "layout" ++ spaced (place_words c.args.names.now c.args.line)) _ _ (rw (b, n, s) at h) c.in_err-parity.ensures.text (parts c.args.names.now c.args.line))

pub returns-clause-text : goal.returns-clause-text
returns-clause-text g c =
    let n = c.segment_name.ensures in
    let b = c.as_bytes-name.ensures.value in
    let s = c.state.ensures in
    let h = c.in_ok-pieces.ensures.text in
    rw (parts c.args.names.now c.args.line)
    (puts_behind _ _ _ _ (codes "layout" ++ spaced (place_words c.args.names.now c.args.line)) _ (rw (b, n, s) at h)
    (puts_behind _ _ _ _ (spaced (parity_words c.args.line.parity)) (spaced (count_words c.args.line) ++ 10 ∷ []) c.in_ok-parity.ensures.text
    (puts_same _ _ _ _ _ (sym (counts_end (decimal c.args.line.reads) (decimal c.args.line.writes))) c.pieces-2.ensures.text)))
