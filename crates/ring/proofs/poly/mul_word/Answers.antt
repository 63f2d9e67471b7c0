use mathlib.Core.Path.{◌∙◌}
use Rattle.ring.specs.declared.prime.Prime.{Prime}
use Rattle.ring.specs.Residue.{prime}
use Rattle.ring.proofs.Barrett.{of-product}
use Rattle.ring.proofs.Theorems.{pointwise-rests}
use Rattle.ring.proofs.poly.mul_word.Goals as goal

pub returns : goal.returns
returns c =
    let s = c.args in
    let u = of-product (prime Prime.Second) _ c.mul-r2.result c.reduce.ensures c.reduce-2.ensures c.mul-r2.ensures in
    let v = of-product (prime Prime.First) _ c.mul-r1.result c.reduce-3.ensures c.reduce-4.ensures c.mul-r1.ensures in
    c.combine.ensures.0 ∙ pointwise-rests s.x s.y _ _ u.same (c.narrow.ensures ∙ v.same)
