use Rattle.std.proofs.Common.{◌≡◌, ◌+◌, ap, arith, rules, ◌∙◌, length, ◌++◌, ◌∷◌, [], refl, true}
use Rattle.std.proofs.lemmas.Grind.{common_steps}
use Rattle.cod_scenario.specs.Judge.{is_segment}
use Rattle.cod_scenario.specs.Lines.{header_of, segments_of, body_of, weight_of}
use Rattle.cod_scenario.specs.Reading.{Accepts, IsCarried, IsNumbered, Takes, with_header, with_segment, with_client}
use Rattle.cod_scenario.proofs.Totals.{has_place, was_carried}
use Rattle.cod_scenario.proofs.Keeping.{keeps_more}
use Rattle.cod_scenario.proofs.reader.Reader.keep.Goals as goal

pub keep_room-requires-clause-room : goal.keep_room-requires-clause-room
keep_room-requires-clause-room c = λ is.
    let v : c.self.inside.said.items ≡ c.args.self.now.said = ap (λ h. h.said) c.self.view_is in
    let h : c.self.inside.header ≡ header_of c.args.self.now.said = c.self.invariant.header_is ∙ ap header_of v in
    let s : c.self.inside.segments ≡ segments_of c.args.self.now.said = c.self.invariant.segments_are ∙ ap (λ l. (body_of l).segments) v in
    let n : c.len-count.result ≡ length (segments_of c.args.self.now.said) = c.len-count.ensures.value ∙ ap length s in
    rw (h, n) (has_place c.args.self.now.said c.args.said is c.requires.carried)

pub invariant_of-self-2 : goal.invariant_of-self-2
invariant_of-self-2 c =
    let lines = c.self.inside.said.items in
    let v : lines ≡ c.args.self.now.said = ap (λ h. h.said) c.self.view_is in
    let w : c.self.inside.lines ≡ c.args.self.now.lines = ap (λ h. h.lines) c.self.view_is in
    let items : c.push_reserved.new.self.items ≡ lines ++ c.args.said ∷ [] = search rules in
    let count : c.len.result ≡ length lines = grind (arith, common_steps) in
    let header : c.keep_header.new.header ≡ with_header (length lines) c.self.inside.header c.args.said = rw (← count) c.keep_header.ensures in
    let segments : c.keep_names.new.segments ≡ with_segment c.self.inside.segments c.args.said = c.in_ok-keep_names.ensures.0 in
    let clients : c.keep_names.new.clients ≡ with_client c.self.inside.clients c.args.said = c.in_ok-keep_names.ensures.1 in
    let few = c.requires.line in
    let accepts : Accepts lines c.args.said = rw v c.requires.accepts in
    let weight : c.args.weight ≡ weight_of (lines ++ c.args.said ∷ []) = rw v c.requires.weight.0 in
    let grown : is_segment c.args.said ≡ true → Takes c.keep_room.new.taken c.self.inside.header (length c.self.inside.segments + 1) = λ is. rw c.len-count.ensures.value at
    (c.keep_room.ensures.grown is) in
    let carried : IsCarried lines c.args.said = rw v (was_carried c.args.self.now.said c.args.said c.requires.carried) in
    let number : IsNumbered (c.self.inside.lines + 1) c.args.said = rw w c.requires.number in
    rw (items, header, segments, clients) (keeps_more c.self.inside.lines lines c.args.said c.self.inside.header c.self.inside.segments c.self.inside.clients c.self.inside.weight c.args.weight
    c.self.inside.taken c.keep_room.new.taken c.self.invariant (omega (arith, few, w)) accepts number carried weight grown c.keep_room.ensures.kept c.keep_room.ensures.len)

pub returns : goal.returns
returns c =
    let v : c.self.inside.said.items ≡ c.args.self.now.said = ap (λ h. h.said) c.self.view_is in
    let n : c.self.inside.lines ≡ c.args.self.now.lines = ap (λ h. h.lines) c.self.view_is in
    let items : c.push_reserved.new.self.items ≡ c.self.inside.said.items ++ c.args.said ∷ [] = search rules in
    rw (items, v, n) refl
