use Rattle.std.proofs.Common.{◌≡◌, length, ap, sym, ◌∙◌, arith}
use Rattle.cod_scenario.specs.Lines.{header_of, body_of, segments_of}
use Rattle.cod_scenario.specs.Reading.{Accepts}
use Rattle.cod_scenario.specs.declared.said.Header.{Header}
use Rattle.cod_scenario.proofs.Keeping.{few_nodes}
use Rattle.cod_scenario.proofs.Totals.{placed_at, placed_other}
use Rattle.cod_scenario.proofs.reader.Reader.has_room_for.Goals as goal

pub fits-requires : goal.fits-requires
fits-requires c =
    let v : c.self.inside.said.items ≡ c.args.self.now.said = ap (λ h. h.said) c.self.view_is in
    let a : Accepts c.self.inside.said.items c.args.said.now = rw v c.requires in
    let few = few_nodes c.self.inside.said.items c.args.said.now c.self.invariant.sound a (sym c.is_segment.ensures ∙ c.if-not-is_segment.false) in
    let h : c.self.inside.header.nodes ≡ (header_of c.self.inside.said.items).nodes = ap (λ (x : Header). x.nodes) c.self.invariant.header_is in
    let places = c.self.invariant.places in
    record { nodes = omega (arith, few, h, places); so_far = rw c.len.ensures.value c.self.invariant.room }

pub returns-then-not-is_segment : goal.returns-then-not-is_segment
returns-then-not-is_segment c = rw c.if-not-is_segment.true (sym (placed_other c.args.self.now.said c.args.said.now (sym c.is_segment.ensures ∙ c.if-not-is_segment.true)))

pub returns-else-not-is_segment : goal.returns-else-not-is_segment
returns-else-not-is_segment c =
    let v : c.self.inside.said.items ≡ c.args.self.now.said = ap (λ h. h.said) c.self.view_is in
    let h : c.self.inside.header ≡ header_of c.args.self.now.said = c.self.invariant.header_is ∙ ap header_of v in
    let s : c.self.inside.segments ≡ segments_of c.args.self.now.said = c.self.invariant.segments_are ∙ ap (λ l. (body_of l).segments) v in
    let n : c.len.result ≡ length (segments_of c.args.self.now.said) = c.len.ensures.value ∙ ap length s in
    c.fits.ensures ∙ (rw (h, n) (sym (placed_at c.args.self.now.said c.args.said.now (sym c.is_segment.ensures ∙ c.if-not-is_segment.false))))
