use mathlib.Core.Path.{◌≡◌, ap, sym, ◌∙◌, subst}
use Prim.Native.Nat.{◌<◌}
use native.Mathlib.Omega.{arith}
use lib.IntN.{pos}
use lib.ListN.{length, get_or, length-set}
use Rattle.ring.specs.Words.{q, Below}
use Rattle.ring.specs.Round.{residue, residues}
use Rattle.ring.proofs.Signs.{byte-is, below-residues}
use Rattle.ring.proofs.Reduced.{length-residues, residues-at}
use Rattle.ring.proofs.Pairs.{take-turn, take-end}
use Rattle.ring.proofs.poly.from_signed.Goals as goal

pub loop-i-preserved : goal.loop-i-preserved
loop-i-preserved c =
    let l = c.loop-i in
    let cs = c.args.c in
    let n : l.i < length cs = omega (arith, l.invariant.1, c.loop-i-test.true) in
    let v : c.signed.result ≡ get_or (residues q cs) l.i 0 =
    c.signed.ensures ∙ ap (residue q) (byte-is (get_or cs l.i (pos 0)) (record { sfits = c.signed-arg-1.given })) ∙ sym (residues-at q cs (pos 0) l.i n) in (
      omega arith,
      l.invariant.1,
      length-set l.x-items l.i c.signed.result ∙ l.invariant.2,
      take-turn l.x-items (residues q cs) l.i c.signed.result (omega (arith, n, l.invariant.2, l.invariant.1)) (omega (arith, n, length-residues q cs)) l.invariant.3 v,
    )

pub returns : goal.returns
returns c =
    let l = c.loop-i in
    let cs = c.args.c in
    let e : l.x-items ≡ residues q cs =
    take-end l.x-items (residues q cs) l.i (omega (arith, l.invariant.2)) (omega (arith, l.invariant.1, length-residues q cs)) l.invariant.3 in
    (e, record { long = l.invariant.2; low = subst (Below q) (sym e) (below-residues cs) })
