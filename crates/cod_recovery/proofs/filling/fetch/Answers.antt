use Rattle.std.proofs.Common.{◌≡◌, ◌≤◌, length, sym, subst}
use Rattle.std.specs.Prelude.{OnOk}
use Rattle.cod_types.specs.Limits.{Shape}
use Rattle.cod_types.specs.Plain.{bytes_at}
use Rattle.cod_code.specs.Segments.{column}
use Rattle.cod_repair.specs.Pieces.{AreOf}
use Rattle.cod_seg.specs.Laws.{up_below}
use Rattle.cod_seg.specs.Seg.{Seg}
use Rattle.cod_seg.proofs.Living.{enough_are_up}
use Rattle.cod_chronicle.specs.Said.{bytes_of}
use Rattle.cod_recovery.proofs.Sourcing.{bytes_made, reads_given, sources_hold}
use Rattle.cod_recovery.proofs.filling.fetch.Goals as goal

pub piece-requires-clause-live : goal.piece-requires-clause-live
piece-requires-clause-live g c =
    rw c.requires.bench (subst (λ (s : Seg). c.args.segment.now.site.shape.k ≤ up_below c.args.segment.now.site.shape.n s.cols) (sym c.segment.view_is)
    (enough_are_up c.args.segment.now c.requires.sound c.requires.few))

pub returns-clause-bytes : goal.returns-clause-bytes
returns-clause-bytes g c = λ told.
    let s = c.args.segment.now in
    let hold = sources_hold s c.requires.sound told c.requires.few in
    let made = c.piece.ensures.bytes (bytes_of s.site s.log) c.requires.sound.history.plain
    (subst (λ (x : Seg). AreOf c.args.bench.now.k c.args.bench.now.block (bytes_of s.site s.log) x.claims x.cuts x.cols) (sym c.segment.view_is)
    (subst (λ (b : Shape). AreOf b.k b.block (bytes_of s.site s.log) s.claims s.cuts s.cols) (sym c.requires.bench) hold)) in
    bytes_made s c.args.col c.args.done (length c.args.into.now) c.piece.new.into c.piece.result c.requires.inside c.piece.auto.into
    (subst (λ (b : Shape). OnOk c.piece.result (c.piece.new.into ≡ bytes_at (column b.k b.block c.args.col (bytes_of s.site s.log)) c.args.done (length c.args.into.now)))
    c.requires.bench made)

pub returns-clause-reads : goal.returns-clause-reads
returns-clause-reads g c =
    reads_given c.args.segment.now _ c.args.bench.now c.piece.new.columns c.piece.result c.segment.view_is c.requires.bench c.requires.sound
    c.piece.ensures.reads c.piece.ensures.cause
