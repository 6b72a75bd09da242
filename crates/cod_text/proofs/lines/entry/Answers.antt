use Rattle.std.proofs.Common.{◌≡◌, ◌++◌, [], ◌∷◌, codes, decimal, List, ℕ, refl, sym}
use Rattle.std.proofs.lemmas.Result.{err_from_is_err_and}
use Rattle.cod_types.specs.declared.call.Call.{Call}
use Rattle.cod_types.specs.declared.call.Reply.{Reply}
use Rattle.cod_script.specs.Script.{Script}
use Rattle.cod_print.specs.Pieces.{spaced}
use Rattle.cod_text.specs.Printed.{call_words, caller_word, cause_words, line_of, reply_words, segment_word}
use Rattle.cod_print.proofs.Fronts.{front_of, front_behind, took_front, puts_behind, puts_same}
use Rattle.cod_text.proofs.Spacing.{line_parts, line_spaced}
use Rattle.cod_text.proofs.lines.entry.Goals as goal

-- what stands before the call, without the stamp
abbrev who_words : Script → (segment caller number : ℕ) → List (List ℕ)
who_words x segment caller number = segment_word x segment ∷ caller_word x caller ∷ decimal number ∷ []

abbrev head_text : Script → (segment caller number stamp : ℕ) → List ℕ
head_text x segment caller number stamp = decimal stamp ++ spaced (who_words x segment caller number)

abbrev told_words : Reply → List (List ℕ)
told_words told = codes "->" ∷ reply_words told

-- a call's line in four parts
parts : (x : Script) (segment caller number stamp : ℕ) (asked : Call) (told : Reply)
    → line_of (decimal stamp ∷ segment_word x segment ∷ caller_word x caller ∷ decimal number ∷ (call_words asked ++ told_words told))
    ≡ head_text x segment caller number stamp ++ (spaced (call_words asked) ++ (spaced (told_words told) ++ 10 ∷ []))
parts x segment caller number stamp asked told = line_parts (decimal stamp) (who_words x segment caller number) (call_words asked) (told_words told)

pub returns-in_err-head-in-Call-clause-text : goal.returns-in_err-head-in-Call-clause-text
returns-in_err-head-in-Call-clause-text g c =
    let p = err_from_is_err_and c.from_residual.result c.from_residual.ensures.1 in
    let i = c.in-Call in
    rw (p.1, i.is) (front_of _ _ _ _ _ (parts c.args.names.now c.args.seg.0 i.who.0 i.number i.stamp i.asked i.told) c.in_err-head-in-Call.ensures.text)

pub returns-in_err-call-in-Call-clause-text : goal.returns-in_err-call-in-Call-clause-text
returns-in_err-call-in-Call-clause-text g c =
    let p = err_from_is_err_and c.from_residual-in_err-call-in-Call.result c.from_residual-in_err-call-in-Call.ensures.1 in
    let i = c.in-Call in
    rw (p.1, i.is) (took_front _ _ _ _ _ _ _ c.in_ok-head-in-Call.ensures.text c.in_err-call-in-Call.ensures.text (parts c.args.names.now c.args.seg.0 i.who.0 i.number i.stamp i.asked i.told))

pub returns-in_err-reply-in-Call-clause-text : goal.returns-in_err-reply-in-Call-clause-text
returns-in_err-reply-in-Call-clause-text g c =
    let p = err_from_is_err_and c.from_residual-in_err-reply-in-Call.result c.from_residual-in_err-reply-in-Call.ensures.1 in
    let i = c.in-Call in
    let x = c.args.names.now in
    let s = c.args.seg.0 in
    rw (p.1, i.is)
    (front_behind _ _ _ _ _ _ (parts x s i.who.0 i.number i.stamp i.asked i.told) c.in_ok-head-in-Call.ensures.text
    (took_front _ _ _ (spaced (call_words i.asked) ++ (spaced (told_words i.told) ++ 10 ∷ [])) (spaced (call_words i.asked)) (spaced (told_words i.told))
    (10 ∷ []) c.in_ok-call-in-Call.ensures.text c.in_err-reply-in-Call.ensures.text refl))

pub returns-in_ok-reply-in-Call-clause-text : goal.returns-in_ok-reply-in-Call-clause-text
returns-in_ok-reply-in-Call-clause-text g c =
    let i = c.in-Call in
    let x = c.args.names.now in
    let s = c.args.seg.0 in
    rw (i.is, parts x s i.who.0 i.number i.stamp i.asked i.told)
    (puts_behind _ _ _ _ (head_text x s i.who.0 i.number i.stamp) _ c.in_ok-head-in-Call.ensures.text
    (puts_behind _ _ _ _ (spaced (call_words i.asked)) _ c.in_ok-call-in-Call.ensures.text
    (puts_behind _ _ _ _ (spaced (told_words i.told)) (10 ∷ []) c.in_ok-reply-in-Call.ensures.text c.text.ensures.text)))

pub returns-in-Down-clause-text : goal.returns-in-Down-clause-text
returns-in-Down-clause-text g c =
    let i = c.in-Down in
    let n = c.segment_name.ensures in
    let b = c.as_bytes-name.ensures.value in
    let h = c.departure.ensures.text in
    let ws = segment_word c.args.names.now c.args.seg.0 ∷ codes "=" ∷ codes "down" ∷ decimal i.col ∷ decimal i.node.0 ∷ cause_words i.by in
    rw i.is (puts_same _ _ _ _ _ (sym (line_spaced (decimal i.stamp) ws)) (rw (b, n) at h))
