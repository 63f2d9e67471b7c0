use mathlib.Core.Path.{◌≡◌, ◌∙◌}
use Prim.Native.Nat.{◌*◌, ◌≤◌}
use native.Mathlib.Omega.{arith}
use lib.ListN.{replicate}
use Rattle.sharing.specs.Noise.{width, sample_u}
use Rattle.sharing.proofs.Samples.{sample_u-words}
use Rattle.sharing.proofs.Small.{stream-is}
use Rattle.sharing.proofs.noise.sample_u.Goals as goal

pub returns : goal.returns
unfolding sample_u
returns c =
    let u = c.args.u in
    let h : width c.args.u * 512 ≤ 3072 = omega arith in
    let f = stream-is (replicate 3072 0) c.squeeze.new.out (width u * 512) c.begin.result h c.squeeze.ensures.0 in
    let e : c.samples.result ≡ sample_u c.args.header.now c.args.seed.now u = c.samples.ensures ∙ rw (f, c.begin.ensures) in
    (e, rw e (sample_u-words c.args.header.now c.args.seed.now u (omega arith)))
