use Prim.Native.Nat.{ℕ, ◌+◌, ◌-◌}
use mathlib.Core.Path.{sym, ap, ◌∙◌}
use native.Mathlib.Omega.{arith}
use lib.ListN.{length, get_or, length-drop}
use Rattle.hash.proofs.Word.{le_low}
use Rattle.slip.proofs.Parsed.{byte-number, split-found, verdict-parts, told_at}
use Rattle.slip.proofs.read.verdict_at.Goals as goal

pub overflow_cast-result : goal.overflow_cast-result
overflow_cast-result c =
    let b = c.args.slip.now in
    let l = le_low (λ (j : ℕ). get_or b (5 + j) 0) 2 (λ j _. (c.type_inv.slip (5 + j)).fits) in
    omega (arith, l, c.load.ensures)

pub returns : goal.returns
returns c =
    let a = c.args in
    let b = a.slip.now in
    let vk = a.public_key.now in
    let i = split-found b a.at a.set c.requires.0 in
    told_at vk b a.at a.set i _ _ _ (c.status.ensures ∙ c.verify-verdict.ensures ∙ verdict-parts vk b a.at a.set i)
    c.load.ensures (byte-number b 7) _ _ (omega (arith, i.place))
    (ap (λ (n : ℕ). length b - n) (sym i.place) ∙ sym (length-drop _ b))
