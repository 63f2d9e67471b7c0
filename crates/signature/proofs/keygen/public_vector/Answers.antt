use Rattle.ring.specs.Words.{q}
use native.Mathlib.Omega.{arith}
use Rattle.ring.specs.Round.{round_t}
use Rattle.signature.proofs.Rounded.{wrote-rounded, below_up}
use Rattle.signature.proofs.KeySteps.{rounded-made}
use Rattle.signature.proofs.keygen.public_vector.Goals as goal

pub image-x-requires : goal.image-x-requires
image-x-requires c =
    let p = c.requires.shares_bound in record {
      noise_for = ((c.requires.seeds_len, omega (arith, c.args.a.row.tabled.rep-low), omega (arith, c.args.a.row.tabled.rows-low), c.args.a.row.tabled.ut-pos, omega (arith, c.args.a.row.tabled.ut-low)));
      shares_bound = (omega arith, omega (arith, p.0), p.1, p.2, p.3);
    }

pub map_vector-requires-clause-bounds : goal.map_vector-requires-clause-bounds
map_vector-requires-clause-bounds c =
    let z = c.image-x.ensures.0.sums in
    let n = z.long in
    (omega (arith, n, c.requires.shares_bound.2), z.low)

pub map_vector-requires-clause-words : goal.map_vector-requires-clause-words
map_vector-requires-clause-words c = λ x y w h. record { long = h.1.1.long; low = below_up 125 q y (omega arith) h.1.1.low }

pub returns : goal.returns
returns c =
    let b = c.args in
    let o = c.requires.shares_bound in
    let z = c.image-x.ensures in
    let n = z.0.sums.long in
    let t = wrote-rounded 42 125 b.a.row.p.k b.to _ _ (omega (arith, n, o.2)) (c.map_vector.ensures round_t (λ x y w h. h.1.0)) in
    (rounded-made b.a.row.p b.to _ b.s.now _ _ (omega (arith, o.0, o.1)) z.0 t, z.1)
