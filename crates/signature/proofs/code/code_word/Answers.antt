use mathlib.Core.Path.{ap, ◌∙◌}
use native.Mathlib.Omega.{arith}
use lib.IntN.{nat_abs}
use Rattle.signature.specs.Code.{neg_of}
use Rattle.signature.proofs.Signs.{same}
use Rattle.signature.proofs.CodeWords.{run-short, ones-fit, unsigned-fits, signed-fits, number-is}
use Rattle.signature.proofs.code.code_word.Goals as goal

pub overflow_shl-ones : goal.overflow_shl-ones
overflow_shl-ones c =
    let m = c.unsigned_abs-m.ensures.value ∙ ap nat_abs (same c.args.z c.ranges.z) in
    omega (arith, run-short c.args.w c.args.z _ m c.requires.w_bound c.requires.z_bound)

pub overflow_sub-ones : goal.overflow_sub-ones
overflow_sub-ones c =
    let m = c.unsigned_abs-m.ensures.value ∙ ap nat_abs (same c.args.z c.ranges.z) in
    ones-fit c.args.w c.args.z _ m c.requires.w_bound c.requires.z_bound

pub overflow_add-result : goal.overflow_add-result
overflow_add-result c =
    let m = c.unsigned_abs-m.ensures.value ∙ ap nat_abs (same c.args.z c.ranges.z) in
    record { fits = unsigned-fits c.args.w c.args.z _ m c.requires.w_bound c.requires.z_bound _ c.low.ensures }

pub overflow_add-result-2 : goal.overflow_add-result-2
overflow_add-result-2 c =
    let m = c.unsigned_abs-m.ensures.value ∙ ap nat_abs (same c.args.z c.ranges.z) in
    omega (arith, run-short c.args.w c.args.z _ m c.requires.w_bound c.requires.z_bound)

pub overflow_add-result-3 : goal.overflow_add-result-3
overflow_add-result-3 c =
    let m = c.unsigned_abs-m.ensures.value ∙ ap nat_abs (same c.args.z c.ranges.z) in
    omega (arith, run-short c.args.w c.args.z _ m c.requires.w_bound c.requires.z_bound)

pub overflow_shl-result-2 : goal.overflow_shl-result-2
overflow_shl-result-2 c =
    let m = c.unsigned_abs-m.ensures.value ∙ ap nat_abs (same c.args.z c.ranges.z) in
    omega (arith, run-short c.args.w c.args.z _ m c.requires.w_bound c.requires.z_bound)

pub overflow_add-result-4 : goal.overflow_add-result-4
overflow_add-result-4 c =
    let m = c.unsigned_abs-m.ensures.value ∙ ap nat_abs (same c.args.z c.ranges.z) in
    let s = c.sign.ensures ∙ ap neg_of (same c.args.z c.ranges.z) in
    record { fits = signed-fits c.args.w c.args.z _ m c.requires.w_bound c.requires.z_bound _ c.low.ensures _ s }

pub returns : goal.returns
returns c =
    let m = c.unsigned_abs-m.ensures.value ∙ ap nat_abs (same c.args.z c.ranges.z) in
    let s = c.sign.ensures ∙ ap neg_of (same c.args.z c.ranges.z) in
    number-is c.args.w c.args.z _ m c.requires.w_bound c.requires.z_bound _ c.low.ensures _ s
