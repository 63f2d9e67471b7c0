use lib.ListN.{replicate, length-replicate}
use Rattle.signature.specs.Bits.{bit_string}
use Rattle.signature.proofs.Strings.{run_more, store-more}
use Rattle.signature.proofs.bits.put_run.Goals as goal

pub loop-k-preserved : goal.loop-k-preserved
loop-k-preserved c =
    let k = c.loop-k.k in
    let b = c.args.b in
    rw run_more (store-more (bit_string 8 c.args.buf.now) c.args.at (replicate k b) k _ (length-replicate k b) _ _ c.loop-k.invariant c.put_bit.ensures)
