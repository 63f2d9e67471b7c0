use Prim.Native.Nat.{◌*◌}
use mathlib.Core.Path.{refl}
use lib.ListN.{length}
use Rattle.signature.specs.Bits.{repack}
use Rattle.signature.proofs.Packing.{length-repack}
use Rattle.signature.proofs.KeyBytes.{four}
use Rattle.signature.proofs.keyform.write_key.Goals as goal

pub returns : goal.returns
returns c =
    let a = c.args in
    let k = a.k * 448 in
    let l = a.l * 3136 in
    four a.seed.now (repack 7 8 k a.t.now) a.share_seeds.now (repack 49 8 l a.x.now) a.out.now (length a.seed.now) k (length a.share_seeds.now) l
    refl (length-repack 7 8 k a.t.now) refl c.requires.out_len.0
    _ _ _ _ c.bytes_at.ensures c.words_at.ensures c.bytes_at-2.ensures c.words_at-2.ensures
