use borrow.Author.Rules.{rules}
use Rattle.signature.specs.Bits.{bits_of, bit_string}
use Rattle.signature.proofs.Strings.{length-bits, bits-more, store-more}
use Rattle.signature.proofs.bits.put_slow.Goals as goal

pub loop-k-init : goal.loop-k-init
unfolding bits_of
loop-k-init c = search rules

pub loop-k-preserved : goal.loop-k-preserved
loop-k-preserved c =
    let k = c.loop-k.k in
    let v = c.args.v in
    rw bits-more (store-more (bit_string 8 c.args.buf.now) c.args.at (bits_of k v) k _ (length-bits k v) _ _ c.loop-k.invariant c.put_bit.ensures)
