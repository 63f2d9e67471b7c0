use Prim.Native.Nat.{ℕ, ◌+◌, ◌-◌}
use mathlib.Core.Path.{◌≡◌, ap, ◌∙◌}
use native.Mathlib.Omega.{arith}
use lib.ListN.{length}
use Rattle.sharing.specs.Region.{span}
use Rattle.sharing.proofs.Regions.{length-span, put_back}
use Rattle.signature.specs.Bits.{repack}
use Rattle.signature.proofs.keyform.words_at.Goals as goal

pub returns : goal.returns
returns c =
    let o = c.args.out.now in
    let at = c.args.at in
    let n = c.args.n in
    let w = c.args.w in
    let xs = c.args.words.now in
    let k : at + n - at ≡ n = omega arith in
    let e : c.pack.new.out ≡ repack w 8 (length (span o at n)) xs = rw k at c.pack.ensures in
    put_back o at k (e ∙ ap (λ (m : ℕ). repack w 8 m xs) (length-span o at n c.requires.n_in_bounds.0))
