use mathlib.Core.Path.{refl, ◌∙◌}
use native.Mathlib.Omega.{arith}
use Rattle.signature.proofs.Expanded.{expand-start, expand-turn, expand-end}
use Rattle.signature.proofs.keys.decompress_all.Goals as goal

pub loop-j-init : goal.loop-j-init
loop-j-init c =
    let b = c.args in
    let z = c.clear in
    (omega arith, refl, z.auto.s ∙ c.requires.full_value.2, expand-start b.part.row.p b.part.bytes.now z.new.s b.out.now z.ensures)

pub decompress_polynomial-requires : goal.decompress_polynomial-requires
decompress_polynomial-requires c =
    let l = c.loop-j in record { place = c.loop-j-test.true; full_value = (c.requires.full_value.0, c.requires.full_value.1, record { long = l.invariant.2; low = l.invariant.3.low }) }

pub loop-j-preserved : goal.loop-j-preserved
loop-j-preserved c =
    let b = c.args in
    let l = c.loop-j in
    let w = c.decompress_polynomial.ensures in
    (omega arith, refl, w.long ∙ l.invariant.2, expand-turn b.part.row.p b.part.bytes.now l.j _ l.out _ l.invariant.3 w)

pub returns : goal.returns
returns c =
    let b = c.args in
    let l = c.loop-j in
    expand-end b.part.row.p b.part.bytes.now l.j _ l.out (omega arith) l.invariant.2 l.invariant.3
