use Rattle.std.proofs.Common.{refl, sym, ◌∙◌}
use Rattle.ring.specs.Uniform.{sample_q}
use Rattle.ring.specs.Checks.{filled}
use Rattle.ring.specs.UniformSteps.{poly_of}
use Rattle.ring.proofs.Filled.{held-some, held-none}
use Rattle.bench.proofs.bench_sample_q.Goals as goal

pub returns-in-Some : goal.returns-in-Some
unfolding filled poly_of
returns-in-Some c =
    let e = held-some (sample_q c.args.header.now c.args.seed.now) c.in-Some.f (sym c.in-Some.is ∙ c.sample_q.ensures.value) in
    rw e (refl, refl)

pub returns-in-None : goal.returns-in-None
unfolding filled poly_of
returns-in-None c =
    let e = held-none (sample_q c.args.header.now c.args.seed.now) (sym c.in-None.is ∙ c.sample_q.ensures.value) in
    rw e (refl, refl)
