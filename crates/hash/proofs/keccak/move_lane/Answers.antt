use mathlib.Core.Path.{refl, ap, ◌∙◌}
use borrow.Author.Rules.{rules}
use Rattle.hash.specs.Keccak.{set_lane}
use Rattle.hash.specs.Moves.{ahead}
use Rattle.hash.proofs.Moves.{one-move}
use Rattle.hash.proofs.keccak.move_lane.Goals as goal

pub returns : goal.returns
returns c =
    let S = c.args.s in
    let x = c.args.x in
    let y = c.args.y in
    let e = ap (set_lane S y (ahead x y)) c.rotl-moved.ensures in record { value = (e, refl); moving = λ A i n m. let o = one-move A S x y i c.args.spare.now (search rules) (search rules) n m in (e ∙ o.0, o.1) }
