use mathlib.Core.Path.{◌≡◌, sym, ap, ◌∙◌}
use Prim.Native.Nat.{ℕ, ◌+◌, ◌-◌, ◌*◌}
use native.Mathlib.Omega.{arith}
use Rattle.sharing.proofs.Lists.{inside}
use Rattle.sharing.proofs.Built.{block-is}
use Rattle.signature.specs.Compress.{share_header, seeded_share_of}
use Rattle.ring.specs.UniformSteps.{option_of}
use Rattle.sharing.specs.Region.{span}
use Rattle.ring.specs.Uniform.{sample_q}
use mathlib.Core.List.{List}
use Rattle.signature.proofs.compress.seeded_share.Goals as goal

pub overflow_mul-a : goal.overflow_mul-a
overflow_mul-a c =
    let b = c.args in
    let p = c.requires in
    let m = inside (b.i - 1) b.i b.n (omega (arith, p.0)) in
    omega (arith, p.3, m)

pub overflow_add-e : goal.overflow_add-e
overflow_add-e c =
    let b = c.args in
    let p = c.requires in
    let m = inside (b.i - 1) b.i b.n (omega (arith, p.0)) in
    omega (arith, p.3, m)

pub slice_bounds-sample_q-end : goal.slice_bounds-sample_q-end
slice_bounds-sample_q-end c =
    let b = c.args in
    let p = c.requires in
    let m = inside (b.i - 1) b.i b.n (omega (arith, p.0)) in
    omega (arith, p.3, m)

pub returns : goal.returns
unfolding seeded_share_of
returns c =
    let b = c.args in
    let a = (b.i - 1) * b.n in
    let k : a + b.n - a ≡ b.n = omega arith in
    (c.sample_q.ensures.value ∙ ap (λ (m : ℕ). option_of (sample_q c.share_header-header.result (span b.seeds.now a m))) k ∙ ap (λ (t : List ℕ). option_of (sample_q t (span b.seeds.now a b.n))) c.share_header-header.ensures ∙ ap (λ (t : List ℕ). option_of (sample_q (share_header b.edition b.i b.j) t)) (sym (block-is b.n (b.i - 1) b.seeds.now)), c.sample_q.ensures.words)
