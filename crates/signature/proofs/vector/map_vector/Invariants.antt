use mathlib.Core.Path.{◌≡◌}
use mathlib.Core.List.{List}
use Prim.Native.Nat.{ℕ, ◌*◌}
use Rattle.ring.specs.Words.{q, Below, Words}
use Rattle.sharing.specs.Blocks.{block, build}
use Rattle.sharing.specs.Region.{span, Wrote}
use Rattle.signature.proofs.vector.map_vector.Given as goal

abbrev pub invariant-loop-i : goal.invariant-loop-i
invariant-loop-i g l = record {
  low : Below q l.s;
  mapped : (φ : List ℕ → List ℕ) → ((x y : List ℕ) → Words 512 x → goal.F-post g l.f x y → y ≡ φ x)
      → Wrote 0 l.at (l.i * 512) (build l.i (λ j. φ (block 512 j (span l.initial.s l.at (l.n * 512))))) l.initial.s l.s;
}
