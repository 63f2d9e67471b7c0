use mathlib.Core.Path.{◌≡◌}
use mathlib.Core.Bool.{true, false}
use Prim.Native.Nat.{ℕ}
use native.Mathlib.Omega.{arith}
use borrow.Author.Rules.{rules}
use borrow.Author.Tests.{tests}
use Rattle.signature.specs.Matrix.{build_all, filled}
use Rattle.signature.specs.Keys.{share_at, decompressed}
use Rattle.signature.proofs.Entries.{all-not}
use Rattle.signature.proofs.Ranged.{all_from_range, decided, all-there}
use Rattle.signature.proofs.keys.shares_fill.Goals as goal

pub returns : goal.returns
unfolding decompressed
returns c =
    let p = c.args.part.row.p in
    let f = λ (k : ℕ). build_all p.shares (share_at p c.args.part.bytes.now k) in
    decided c.all.result _
    (all_from_range _ _ _ c.all.result (λ j. filled (f j) ≡ true) (λ j. filled (f j) ≡ false) c.all.ensures.ran (λ x q k. search (rules, tests)) (λ x q k. search (rules, tests)))
    (λ h. all-there p.l f (λ k l. h k (omega arith) l))
    (λ h. all-not p.l h.0 f h.2 h.3)
