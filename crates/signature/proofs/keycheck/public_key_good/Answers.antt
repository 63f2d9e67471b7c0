use mathlib.Core.Path.{◌≡◌, ap, ◌∙◌}
use Prim.Native.Nat.{ℕ, ◌+◌, ◌-◌, ◌*◌}
use native.Mathlib.Omega.{arith}
use lib.ListN.{take, drop, replicate}
use Rattle.ring.specs.Words.{all_below}
use Rattle.signature.specs.Bits.{repack}
use Rattle.signature.proofs.Fronts.{unpacked-in, unpacked-is}
use Rattle.signature.proofs.keycheck.public_key_good.Goals as goal

pub slice_bounds-all_below-end : goal.slice_bounds-all_below-end
slice_bounds-all_below-end c =
    let a = c.args in
    unpacked-in 7 (a.k * 512) (replicate 4608 0) c.unpack.new.out _ (omega (arith, c.requires)) c.unpack.ensures

pub returns : goal.returns
returns c =
    let a = c.args in
    let m : a.n + a.k * 448 - a.n ≡ a.k * 448 = omega arith in
    let f = unpacked-is 7 (a.k * 512) (replicate 4608 0) c.unpack.new.out _ (omega (arith, c.requires)) c.unpack.ensures in
    c.all_below.ensures ∙ ap (all_below 125) (f ∙ ap (λ (j : ℕ). repack 8 7 (a.k * 512) (take j (drop a.n a.key.now))) m)
