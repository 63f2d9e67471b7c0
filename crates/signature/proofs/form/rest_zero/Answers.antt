use Prim.Native.Nat.{◌-◌}
use mathlib.Core.Path.{◌≡◌}
use native.Mathlib.Omega.{arith}
use borrow.Author.Rules.{rules}
use borrow.Author.Tests.{tests}
use lib.ListN.{length, get_or}
use Rattle.signature.specs.Bits.{bit_string}
use Rattle.signature.proofs.Strings.{length_fields}
use Rattle.signature.proofs.Ranged.{all_from_range, decided, zeros-from, one-from}
use Rattle.signature.proofs.form.rest_zero.Goals as goal

pub returns : goal.returns
returns c =
    let F = bit_string 8 c.args.buf.now in
    let n = length_fields 8 c.args.buf.now in
    decided c.all.result _
    (all_from_range _ _ _ c.all.result (λ k. get_or F k 0 ≡ 0) (λ k. get_or F k 0 ≡ 0 → ⊥) c.all.ensures.ran (λ x q k. search (rules, tests)) (λ x q k. search (rules, tests)))
    (λ h. zeros-from (length F) F c.args.at (omega arith) (λ j a l. h j a (omega (arith, n))))
    (λ h. one-from (h.0 - c.args.at) F c.args.at h.0 (omega (arith, h.1)) (omega (arith, n, h.2)) h.3)
