use native.Mathlib.Omega.{arith}
use Rattle.signature.proofs.Expanded.{seed-in}
use Rattle.signature.proofs.keys.seeded_at.Goals as goal

pub seeded_share-requires : goal.seeded_share-requires
seeded_share-requires c =
    let h = c.args.part.row.tabled in
    (c.requires.1, omega (arith, h.shares-low, c.requires.2), omega (arith, h.columns-low, c.requires.0), omega (arith, seed-in c.args.part.row.p c.args.i c.requires.2, c.args.part.sized))
