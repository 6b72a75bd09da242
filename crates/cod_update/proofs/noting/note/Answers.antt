use Rattle.std.proofs.Common.{refl, sym, subst, arith, ◌≡◌}
use Rattle.cod_seg.specs.Seg.{Seg}
use Rattle.cod_update.specs.Noting.{LacksRecord}
use Rattle.cod_update.proofs.OnParity.{among_blocks, asks, has_record, next_number, range_inside, record_fits, record_has_room, second_version, short_bytes}
use Rattle.cod_update.proofs.noting.note.Goals as goal

pub overflow_add-head : goal.overflow_add-head
overflow_add-head g c =
    let l = subst (λ (x : Seg). LacksRecord x c.args.block c.args.col) (sym c.segment.view_is) c.requires.lacks in
    let n = next_number l in
    let e = c.get.ensures in
    omega (arith, n, e)

pub overflow_cast-head-2 : goal.overflow_cast-head-2
overflow_cast-head-2 g c =
    let l = subst (λ (x : Seg). LacksRecord x c.args.block c.args.col) (sym c.segment.view_is) c.requires.lacks in
    let bench = subst (λ (x : Seg). c.args.bench.now ≡ x.site.shape) (sym c.segment.view_is) c.requires.bench in
    let a = asks c.args.bench.now l bench c.in-Some.ensures.delta c.get.ensures in
    let short = short_bytes a in
    omega (arith, short)

pub append-requires-clause-second : goal.append-requires-clause-second
append-requires-clause-second g c =
    let l = subst (λ (x : Seg). LacksRecord x c.args.block c.args.col) (sym c.segment.view_is) c.requires.lacks in
    let bench = subst (λ (x : Seg). c.args.bench.now ≡ x.site.shape) (sym c.segment.view_is) c.requires.bench in
    let a = asks c.args.bench.now l bench c.in-Some.ensures.delta c.get.ensures in
    second_version a

pub append-requires-clause-inside : goal.append-requires-clause-inside
append-requires-clause-inside g c =
    let l = subst (λ (x : Seg). LacksRecord x c.args.block c.args.col) (sym c.segment.view_is) c.requires.lacks in
    let bench = subst (λ (x : Seg). c.args.bench.now ≡ x.site.shape) (sym c.segment.view_is) c.requires.bench in
    let a = asks c.args.bench.now l bench c.in-Some.ensures.delta c.get.ensures in
    range_inside a

pub append-requires-clause-block : goal.append-requires-clause-block
append-requires-clause-block g c =
    let l = subst (λ (x : Seg). LacksRecord x c.args.block c.args.col) (sym c.segment.view_is) c.requires.lacks in
    let bench = subst (λ (x : Seg). c.args.bench.now ≡ x.site.shape) (sym c.segment.view_is) c.requires.bench in
    let a = asks c.args.bench.now l bench c.in-Some.ensures.delta c.get.ensures in
    among_blocks a

pub append-requires-clause-fits : goal.append-requires-clause-fits
append-requires-clause-fits g c =
    let l = subst (λ (x : Seg). LacksRecord x c.args.block c.args.col) (sym c.segment.view_is) c.requires.lacks in
    let bench = subst (λ (x : Seg). c.args.bench.now ≡ x.site.shape) (sym c.segment.view_is) c.requires.bench in
    let a = asks c.args.bench.now l bench c.in-Some.ensures.delta c.get.ensures in
    record_fits a

pub append-requires-clause-room : goal.append-requires-clause-room
append-requires-clause-room g c =
    let l = subst (λ (x : Seg). LacksRecord x c.args.block c.args.col) (sym c.segment.view_is) c.requires.lacks in
    let bench = subst (λ (x : Seg). c.args.bench.now ≡ x.site.shape) (sym c.segment.view_is) c.requires.bench in
    let a = asks c.args.bench.now l bench c.in-Some.ensures.delta c.get.ensures in
    λ over. record_has_room a

pub returns-clause-noted : goal.returns-clause-noted
returns-clause-noted g c =
    let l = subst (λ (x : Seg). LacksRecord x c.args.block c.args.col) (sym c.segment.view_is) c.requires.lacks in
    let bench = subst (λ (x : Seg). c.args.bench.now ≡ x.site.shape) (sym c.segment.view_is) c.requires.bench in
    let a = asks c.args.bench.now l bench c.in-Some.ensures.delta c.get.ensures in
    let e = c.in_ok-len.ensures in
    rw (c.note.ensures, ← c.segment.view_is)
    (has_record c.in_ok-len.len c.append.new.self a refl refl e.one e.length e.adds e.merges e.holds e.same e.kept e.full e.told.cause.kept)
