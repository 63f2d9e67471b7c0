use mathlib.Core.Path.{◌≡◌, refl, ◌∙◌}
use mathlib.Core.Bool.{true, false}
use Prim.Native.Nat.{ℕ}
use borrow.Author.Rules.{rules}
use borrow.Author.Tests.{tests}
use Rattle.std.specs.Prelude.{is_some}
use Rattle.ring.specs.UniformSteps.{option_of}
use Rattle.signature.specs.Keys.{share_at, seeded_share}
use Rattle.signature.proofs.Entries.{all-not}
use Rattle.signature.proofs.Expanded.{shares-there, share-fills}
use Rattle.signature.proofs.Ranged.{all_from_range, decided}
use Rattle.signature.proofs.keys.polynomial_fills.Goals as goal

pub returns : goal.returns
returns c =
    let p = c.args.part.row.p in
    let t = c.args.part.bytes.now in
    let j = c.args.j in
    let o = λ (i : ℕ). option_of (seeded_share p t j i) in
    decided c.all.result _
    (all_from_range _ _ _ c.all.result (λ i. is_some (o i) ≡ true) (λ i. is_some (o i) ≡ false) c.all.ensures.ran (λ x q k. search (rules, tests)) (λ x q k. search (rules, tests)))
    (λ h. shares-there p t j h)
    (λ h. all-not p.shares h.0 (share_at p t j) h.2 (share-fills p t j h.0 (o h.0) h.1 refl ∙ h.3))
