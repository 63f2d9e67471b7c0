use Rattle.ring.proofs.Sums.{words-add}
use Rattle.sharing.specs.Noise.{noise_header, sample_u}
use mathlib.Core.Path.{◌≡◌, ap, ◌∙◌}
use Prim.Native.Nat.{◌+◌, ◌*◌, ◌/◌}
use native.Mathlib.Omega.{arith}
use Rattle.ring.specs.Words.{add_w}
use Rattle.sharing.specs.Blocks.{block}
use Rattle.sharing.specs.Region.{span}
use Rattle.sharing.proofs.Added.{seed-small, seed-inside}
use Rattle.sharing.proofs.Built.{part-block}
use Rattle.sharing.proofs.Regions.{span-words, wrote-put, wrote_value}
use Rattle.sharing.proofs.repeat.add_sample_at.Goals as goal

pub overflow_mul-k : goal.overflow_mul-k
overflow_mul-k c =
    let p = c.requires.t_lt_rep in
    let h = seed-small c.args.i _ _ _ _ p.0 p.1 p.3 p.2 p.4 in
    omega (arith, h.0)

pub overflow_add-k : goal.overflow_add-k
overflow_add-k c =
    let p = c.requires.t_lt_rep in
    let h = seed-small c.args.i _ _ _ _ p.0 p.1 p.3 p.2 p.4 in
    omega (arith, h.0)

pub overflow_mul-k-2 : goal.overflow_mul-k-2
overflow_mul-k-2 c =
    let p = c.requires.t_lt_rep in
    let h = seed-small c.args.i _ _ _ _ p.0 p.1 p.3 p.2 p.4 in
    omega (arith, h.1)

pub overflow_add-k-2 : goal.overflow_add-k-2
overflow_add-k-2 c =
    let p = c.requires.t_lt_rep in
    let h = seed-small c.args.i _ _ _ _ p.0 p.1 p.3 p.2 p.4 in
    omega (arith, h.1)

pub overflow_mul-a : goal.overflow_mul-a
overflow_mul-a c =
    let p = c.requires.t_lt_rep in
    omega (arith, seed-inside c.args.i _ _ _ _ p.0 p.1 (c.args.p.kappa / 8), c.requires.at_in_bounds.2)

pub overflow_add-e : goal.overflow_add-e
overflow_add-e c =
    let p = c.requires.t_lt_rep in
    omega (arith, seed-inside c.args.i _ _ _ _ p.0 p.1 (c.args.p.kappa / 8), c.requires.at_in_bounds.2)

pub slice_bounds-sample_u-end : goal.slice_bounds-sample_u-end
slice_bounds-sample_u-end c =
    let p = c.requires.t_lt_rep in
    omega (arith, seed-inside c.args.i _ _ _ _ p.0 p.1 (c.args.p.kappa / 8), c.requires.at_in_bounds.2)

pub add_at-requires : goal.add_at-requires
add_at-requires c =
    (c.requires.at_in_bounds.0, c.requires.at_in_bounds.1, c.sample_u-x.ensures.1.low)

pub returns : goal.returns
returns c =
    let b = c.args in
    let s = b.s.now in
    let p = c.sample_u-x in
    let x = span s b.at 512 in
    let w = words-add x p.result (span-words s b.at 512 c.requires.at_in_bounds.0 c.requires.at_in_bounds.1) in
    let n = b.p.kappa / 8 in
    let m = (b.i * b.p.rep + b.t) * b.p.shares + b.j in
    let e : p.result ≡ sample_u (noise_header b.t b.i b.j) (block n m b.seeds.now) b.u =
    p.ensures.0 ∙ ap (λ l. sample_u (noise_header b.t b.i b.j) l b.u) (part-block n m b.seeds.now) in
    wrote_value (ap (λ l. add_w x l) e) (wrote-put b.at 512 (add_w x p.result) s _ c.requires.at_in_bounds.0 w.long c.requires.at_in_bounds.1 w.low
    c.add_at.ensures)
