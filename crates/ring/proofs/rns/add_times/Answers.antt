use mathlib.Core.Path.{sym, ap, ap₂, ◌∙◌}
use Prim.Native.Nat.{ℕ, ◌+◌, ◌*◌, ◌<◌}
use native.Mathlib.Omega.{arith}
use lib.ListN.{length, get_or}
use lib.Dec.{lit<}
use Rattle.ring.specs.Rns.{times_in}
use Rattle.ring.proofs.Pairs.{each-low, each_more, each-end}
use Rattle.ring.proofs.Places.{map2_at}
use Rattle.ring.proofs.Recombined.{times-low, times_long}
use Rattle.ring.proofs.Sums.{below_at}
use Rattle.ring.proofs.rns.add_times.Goals as goal

pub residue_in-requires : goal.residue_in-requires
residue_in-requires c = below_at _ (lit< tt) c.args.a.now c.requires.1.low c.loop-i.i

pub residue_in-requires-in-loop-i : goal.residue_in-requires-in-loop-i
residue_in-requires-in-loop-i c = below_at _ (lit< tt) c.args.x.now c.requires.2.low c.loop-i.i

pub overflow_add-s : goal.overflow_add-s
overflow_add-s c =
    let l = c.loop-i in
    record {
      fits = omega (arith, times-low _ _ c.residue_in.ensures.1 c.residue_in-in-loop-i.ensures.1, each-low _ _ _ l.i l.s l.invariant _ (lit< tt) c.requires.0.low);
    }

pub loop-i-preserved : goal.loop-i-preserved
loop-i-preserved c =
    let l = c.loop-i in
    let h : l.i < length l.s = omega arith in
    let ha : l.i < length c.args.a.now = omega (arith, h, l.invariant.long, c.requires.0.long, c.requires.1.long) in
    let hx : l.i < length c.args.x.now = omega (arith, h, l.invariant.long, c.requires.0.long, c.requires.2.long) in
    each_more _ _ _ l.i l.s l.invariant _ h (c.requires.0.long ∙ sym (times_long c.args.which c.args.a.now c.args.x.now c.requires.1 c.requires.2))
    (ap (λ (t : ℕ). get_or l.s l.i 0 + t) (ap₂ ◌*◌ c.residue_in.ensures.0 c.residue_in-in-loop-i.ensures.0 ∙ sym (map2_at (times_in c.args.which) c.args.a.now c.args.x.now l.i ha hx)))

pub returns : goal.returns
returns c =
    let l = c.loop-i in
    each-end _ _ _ l.i l.s l.invariant (omega arith) (c.requires.0.long ∙ sym (times_long c.args.which c.args.a.now c.args.x.now c.requires.1 c.requires.2))
