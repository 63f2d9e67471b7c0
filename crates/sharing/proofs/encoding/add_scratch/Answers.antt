use native.Mathlib.Omega.{arith}
use Rattle.sharing.proofs.Regions.{wrote-start}
use Rattle.sharing.proofs.Turns.{scratched, scratch-turn, scratch-end}
use borrow.Author.Rules.{rules}
use Rattle.sharing.proofs.encoding.add_scratch.Goals as goal

pub loop-j-init : goal.loop-j-init
loop-j-init c =
    (search rules, wrote-start 512 (scratched c.args.d c.args.at c.args.s.now) 0 c.args.at c.args.s.now c.requires.2)

pub loop-j-preserved : goal.loop-j-preserved
loop-j-preserved c = (
  search rules,
  scratch-turn c.args.d c.args.at c.args.s.now c.requires.0 c.requires.1 c.loop-j.j c.loop-j.s _ _
      (omega arith) c.loop-j.invariant.1 c.load-p.ensures.0 c.add_at.ensures,
)

pub returns : goal.returns
returns c =
    scratch-end c.args.d c.args.at c.args.s.now c.requires.0 c.requires.1 c.loop-j.j c.loop-j.s (omega arith) c.requires.2
    c.loop-j.invariant.1
