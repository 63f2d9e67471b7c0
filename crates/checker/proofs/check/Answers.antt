use Rattle.std.proofs.Common.{◌≡◌, min, ◌-◌, length, take, drop, ap, ◌∙◌, arith}
use Rattle.hash.specs.declared.params.Edition.{Edition}
use Rattle.signature.specs.Verify.{verify_call}
use Rattle.checker.specs.Input.{checked_of}
use Rattle.checker.proofs.Parts.{first, last-part, middle}
use Rattle.checker.proofs.check.Goals as goal

pub returns : goal.returns
unfolding checked_of
returns c =
    let s = c.args.input.now in
    let a = c.min-k.result in
    let b = c.min-m.result in
    let k : a ≡ min 2256 (length s) = omega (arith, c.min-k.ensures) in
    let m : b ≡ min 13780 (length s) = omega (arith, c.min-m.ensures) in
    let v = verify_call Edition.Printed 128 in
    c.status.ensures ∙ c.verify.ensures ∙ ap (λ x. v x (take (length s - b) (drop b s)) (take (b - a) (drop a s))) (first s a 2256 k)
    ∙ ap (λ x. v (take 2256 s) x (take (b - a) (drop a s))) (last-part s b 13780 m)
    ∙ ap (v (take 2256 s) (drop 13780 s)) (middle s a b 2256 13780 (omega arith) k m)
