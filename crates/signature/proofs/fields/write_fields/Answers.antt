use mathlib.Core.Path.{◌≡◌, refl, sym, ap, ◌∙◌}
use mathlib.Core.List.{◌++◌}
use Prim.Native.Nat.{ℕ, ◌-◌, ◌*◌}
use native.Mathlib.Omega.{arith}
use lib.ListN.{replicate}
use borrow.Author.Tests.{not-true, not-false}
use Rattle.signature.specs.AnswerSteps.{fields_of}
use Rattle.signature.specs.Bits.{chop}
use Rattle.signature.specs.Form.{form_bits, bit_count}
use Rattle.signature.specs.Bounds.{check_bounds}
use Rattle.signature.proofs.Canonical.{count-is}
use Rattle.signature.proofs.Decision.{decided-passed}
use Rattle.signature.proofs.Finished.{ends-over, ends-long, ends-made}
use Rattle.signature.proofs.fields.write_fields.Goals as goal

pub returns-then-not-bounds : goal.returns-then-not-bounds
returns-then-not-bounds c =
    -- the answer is that of Algorithm 4
    let bounds-are : let b = c.args in
    c.check_bounds-bounds.result.passed ≡ check_bounds b.row.p (fields_of b.hash.now b.hint.now b.z.now) = let p = c.args.row.p in
    decided-passed p.hint_limit p.binf p.b22 c.check_bounds-bounds.result c.check_bounds-bounds.ensures refl refl in
    let b = c.args in
    let f = fields_of b.hash.now b.hint.now b.z.now in
    ends-over b.row.p f b.out.now (sym bounds-are ∙ not-true _ c.if-not-bounds.true)

pub returns-then-out-bit_count : goal.returns-then-out-bit_count
returns-then-out-bit_count c =
    -- the answer is that of Algorithm 4
    let bounds-are : let b = c.args in
    c.check_bounds-bounds.result.passed ≡ check_bounds b.row.p (fields_of b.hash.now b.hint.now b.z.now) = let p = c.args.row.p in
    decided-passed p.hint_limit p.binf p.b22 c.check_bounds-bounds.result c.check_bounds-bounds.ensures refl refl in
    let b = c.args in
    let f = fields_of b.hash.now b.hint.now b.z.now in
    let e : c.bit_count.result ≡ bit_count f = c.bit_count.ensures ∙ count-is b.hash.now b.hint.now b.z.now in
    ends-long b.row.p f b.out.now (sym bounds-are ∙ not-false _ c.if-not-bounds.false) (omega (arith, e, c.if-out-bit_count.true, c.requires.hash_len.3))

pub write-requires : goal.write-requires
write-requires c = let b = c.args in
    let e : c.bit_count.result ≡ bit_count (fields_of b.hash.now b.hint.now b.z.now) = c.bit_count.ensures ∙ count-is b.hash.now b.hint.now b.z.now in record { response_bound = omega (arith, e, c.if-out-bit_count.false); out_len_bound = omega (arith, c.requires.hash_len.3, c.args.row.tabled.sig-low) }

pub returns : goal.returns
returns c =
    -- the answer is that of Algorithm 4
    let bounds-are : let b = c.args in
    c.check_bounds-bounds.result.passed ≡ check_bounds b.row.p (fields_of b.hash.now b.hint.now b.z.now) = let p = c.args.row.p in
    decided-passed p.hint_limit p.binf p.b22 c.check_bounds-bounds.result c.check_bounds-bounds.ensures refl refl in
    let b = c.args in
    let f = fields_of b.hash.now b.hint.now b.z.now in
    let e : c.bit_count.result ≡ bit_count f = c.bit_count.ensures ∙ count-is b.hash.now b.hint.now b.z.now in
    ends-made b.row.p f b.out.now _ (sym bounds-are ∙ not-false _ c.if-not-bounds.false) (omega (arith, e, c.if-out-bit_count.false, c.requires.hash_len.3))
    (c.write.ensures ∙ ap (λ (m : ℕ). chop 8 m (form_bits f ++ replicate (8 * m - bit_count f) 0)) c.requires.hash_len.3)
