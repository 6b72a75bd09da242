use Rattle.cod_parity.proofs.Buffers.{buffered}
use Rattle.cod_parity.proofs.log.fold_buffer.Goals as goal

pub returns-clause-meaning : goal.returns-clause-meaning
returns-clause-meaning c = λ g base records few block len each is.
    buffered g c.args.cuts.now c.args.buffer.now _ _ c.fold.new.base c.fold.new.log c.args.block c.fold.result.0
    c.split_at_mut-base.ensures.front c.split_at_mut-base.ensures.back c.split_at_mut-base.ensures.front_len c.fold.auto.base
    (λ rs. c.fold.ensures.kept g rs few) (λ rs. c.fold.ensures.sum g rs few) base records block len each is
