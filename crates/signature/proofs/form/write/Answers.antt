use Prim.Native.Nat.{ℕ}
use mathlib.Core.Path.{ap, ◌∙◌}
use native.Mathlib.Omega.{arith}
use lib.ListN.{length}
use lib.Seq.{sets}
use Rattle.signature.specs.Bits.{bit_string}
use Rattle.signature.specs.Code.{codes}
use Rattle.signature.proofs.Filled.{form-room, written}
use Rattle.signature.proofs.form.write.Goals as goal

pub begin-requires : goal.begin-requires
begin-requires c = omega (arith, form-room c.args.hash.now c.args.hint.now c.args.response.now (length c.args.out.now) c.requires.response_bound)

pub put_codes-at-requires-clause-zs_in_bounds : goal.put_codes-at-requires-clause-zs_in_bounds
put_codes-at-requires-clause-zs_in_bounds c =
    omega (arith, form-room c.args.hash.now c.args.hint.now c.args.response.now (length c.args.out.now) c.requires.response_bound)

pub put_codes-requires-clause-zs_in_bounds : goal.put_codes-requires-clause-zs_in_bounds
put_codes-requires-clause-zs_in_bounds c =
    omega (arith, form-room c.args.hash.now c.args.hint.now c.args.response.now (length c.args.out.now) c.requires.response_bound)

pub returns : goal.returns
returns c =
    let a = c.args in
    let p = c.put_codes-at in
    written a.hash.now a.hint.now a.response.now _ _ _ (length a.out.now) (c.put_codes.auto.buf ∙ p.auto.buf ∙ c.begin.auto.out)
    (λ i. (c.type_inv.out i).fits) c.requires.response_bound c.begin.ensures p.ensures.buf_after
    (c.put_codes.ensures.buf_after ∙ ap (λ (n : ℕ). sets (bit_string 8 p.new.buf) n (codes 40 a.response.now)) p.ensures.value)
