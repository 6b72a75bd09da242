use Rattle.std.proofs.Common.{◌≡◌, ◌++◌, ◌∙◌, [], ap, sym, refl, List, ℕ, take, drop, append_assoc}
use Rattle.std.proofs.lemmas.Result.{err_from_is_err_and}
use Rattle.std.proofs.lemmas.List.{take-append-drop}
use Rattle.hex.specs.Hex.{encode_lower}
use Rattle.cod_print.proofs.Fronts.{took_front, took_more, append_known-nil, encode-append, encode-nil}
use Rattle.cod_print.proofs.put.digits.Goals as goal

-- the digits of three parts
parts : (whole front few more : List ℕ) → whole ≡ front ++ (few ++ more) → encode_lower whole ≡ encode_lower front ++ (encode_lower few ++ encode_lower more)
parts whole front few more e = ap encode_lower e ∙ encode-append front (few ++ more) ∙ ap (λ (l : List ℕ). encode_lower front ++ l) (encode-append few more)

-- a list whose end was split
split : (whole front rest few more : List ℕ) (n : ℕ) → whole ≡ front ++ rest → few ≡ take n rest → more ≡ drop n rest → whole ≡ front ++ (few ++ more)
split whole front rest few more n w f m = rw (f, m, take-append-drop n rest) w

pub rest-init : goal.rest-init
rest-init g c = ([], refl, rw encode-nil (append_known-nil _), refl)

pub returns-in_err-text-clause-text : goal.returns-in_err-text-clause-text
returns-in_err-text-clause-text g c =
    let p = err_from_is_err_and c.from_residual.result c.from_residual.ensures.1 in
    let h = c.in_err-text.ensures.text in
    let w = c.in-Ok.ensures.written in
    let i = c.rest.invariant in
    let few = c.split_at.result.0.now in
    let more = c.split_at.result.1.now in
    rw (p.1) (took_front _ _ _ _ (encode_lower i.0) _ (encode_lower more) i.2 (rw w at h)
    (parts _ i.0 few more (split _ i.0 c.rest.rest.now few more c.min.result i.1 c.split_at.ensures.front c.split_at.ensures.back)))

pub rest-preserved : goal.rest-preserved
rest-preserved g c =
    let h = c.in_ok-text.ensures.text in
    let w = c.in-Ok.ensures.written in
    let i = c.rest.invariant in
    let few = c.split_at.result.0.now in
    let more = c.split_at.result.1.now in (
      i.0 ++ few,
      split _ i.0 c.rest.rest.now few more c.min.result i.1 c.split_at.ensures.front c.split_at.ensures.back ∙ sym (append_assoc i.0 few more),
      rw encode-append (took_more _ _ _ _ _ i.2 (rw w at h)),
      c.in_ok-text.ensures.cause.kept ∙ i.3,
    )
