use mathlib.Core.Path.{refl}
use Rattle.hash.specs.Params.{rows}
use Rattle.hash.proofs.params.row_at.Goals as goal

-- the constant of the source is the table of specs/, by computation
pub returns : goal.returns
unfolding rows
returns c = refl
