use mathlib.Core.Path.{◌≡◌, ap, ◌∙◌}
use Rattle.ring.specs.Words.{Words}
use Rattle.ring.specs.Transform.{ntt, intt}
use Rattle.ring.proofs.Theorems.{ntt-intt}
use Rattle.ring.proofs.poly.intt.Goals as goal

pub returns : goal.returns
unfolding intt
returns c =
    let x = c.args.x in
    let e : _ ≡ intt x = c.backward_both.ensures.0 in
    (e, c.backward_both.ensures.1, λ (h : Words 512 x). ap ntt e ∙ ntt-intt x h)
