-- The largest number of bits that `signature_bits` tells is met: set 256, every hint -128, every response -2^63 (02, #103).
use mathlib.Core.Path.{◌≡◌, refl, sym, ◌∙◌}
use mathlib.Core.List.{List}
use native.Mathlib.Omega.{arith}
use borrow.Author.Tests.{eq-eqb}
use lib.IntN.{ℤ, negsuc}
use lib.ListN.{length, replicate, length-replicate}
use Rattle.hash.specs.Params.{rows, row_at, params_of, lookup_of}
use Rattle.hash.specs.declared.params.Edition.{Edition}
use Rattle.hash.specs.declared.params.Params.{Params}
use Rattle.std.specs.Prelude.{Ok}
use Rattle.ring.proofs.Checks.{both_yes}
use Rattle.signature.specs.Code.{code_bits}
use Rattle.signature.proofs.Counts.{codes_same}
use Rattle.sizes.specs.Count.{signature_bits_call}
use Rattle.sizes.proofs.Told.{bits-all, bits-found}

abbrev smallest-hint : ℤ
smallest-hint = negsuc 127

abbrev smallest-response : ℤ
smallest-response = negsuc 9223372036854775807

hint-takes : code_bits 0 smallest-hint ≡ 130
unfolding code_bits
hint-takes = refl

response-takes : code_bits 40 smallest-response ≡ 8388650
unfolding code_bits
response-takes = refl

row-256 : lookup_of 256 1 Edition.Printed ≡ Ok (params_of (row_at 12) Edition.Printed)
unfolding lookup_of
row-256 = refl

pub largest-met : signature_bits_call 256 (replicate 4608 smallest-hint) (replicate 3584 smallest-response) ≡ record { status = 0; bits = 30065521152 }
unfolding rows
largest-met =
    let p : Params = params_of (row_at 12) Edition.Printed in
    let h : List ℤ = replicate 4608 smallest-hint in
    let z : List ℤ = replicate 3584 smallest-response in
    let a : length h ≡ 4608 = length-replicate 4608 smallest-hint in
    let b : length z ≡ 3584 = length-replicate 3584 smallest-response in
    sym (bits-all p h z 30065521152 (both_yes (eq-eqb (length h) 4608 a) (eq-eqb (length z) 3584 b))
    (omega (arith, codes_same 0 4608 smallest-hint, codes_same 40 3584 smallest-response, hint-takes, response-takes))
    ∙ bits-found 256 h z p row-256)
