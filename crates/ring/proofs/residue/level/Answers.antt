use mathlib.Core.Path.{◌∙◌}
use Rattle.ring.specs.Residue.{prime}
use Rattle.ring.proofs.Bounds.{one-lt}
use Rattle.ring.proofs.Places.{scale-rests}
use Rattle.ring.proofs.Tables.{prime-pos}
use Rattle.ring.proofs.LevelRanges.{back_low, merged-low, back_more, back-five}
use Rattle.ring.proofs.residue.level.Goals as goal

pub merge-requires : goal.merge-requires
merge-requires c =
    (c.requires.0, c.requires.1, back_low (prime c.args.which) c.args.d c.requires.2 c.requires.3 c.args.a.now c.requires.4)

pub scaled-requires : goal.scaled-requires
scaled-requires c =
    let r = c.merge in
    (one-lt c.args.which, merged-low (prime c.args.which) c.args.d c.requires.2 c.requires.3 c.args.a.now c.requires.4 _ r.new.a r.ensures)

pub returns-then-d-eq5 : goal.returns-then-d-eq5
returns-then-d-eq5 c =
    let r = c.merge in
    let s = c.scaled in
    record {
      low = back-five (prime c.args.which) c.args.d s.new.a c.if-d-eq5.true s.ensures.low;
      same = s.ensures.same ∙ scale-rests (prime-pos c.args.which) r.new.a ∙ r.ensures.same;
    }

pub returns-else-d-eq5 : goal.returns-else-d-eq5
returns-else-d-eq5 c =
    let r = c.merge in
    record {
      low = back_more (prime c.args.which) c.args.d c.requires.2 c.requires.3 c.args.a.now c.requires.4 _ r.new.a r.ensures c.if-d-eq5.false;
      same = r.ensures.same;
    }
