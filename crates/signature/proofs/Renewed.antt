-- Refreshing in place (000, Algorithm 11): the turns and the end of the loop over the sharings of a whole buffer.
use mathlib.Core.Path.{◌≡◌, sym, ap, subst, ◌∙◌}
use mathlib.Core.List.{List}
use Prim.Native.Nat.{ℕ, ◌+◌, ◌*◌, ◌<◌}
use native.Mathlib.Omega.{arith}
use lib.ListN.{length}
use lib.Seq.{take_all}
use Rattle.ring.specs.Words.{add_w}
use Rattle.sharing.specs.Blocks.{build}
use Rattle.sharing.specs.Region.{span, Wrote}
use Rattle.sharing.specs.Encoding.{skip, zero_at, refreshed}
use Rattle.sharing.specs.Masks.{masks}
use Rattle.sharing.specs.declared.masks.MaskGen.{MaskGen}
use Rattle.sharing.proofs.Regions.{wrote_value}
use Rattle.sharing.proofs.Turns.{renewed, refresh-turn, refresh-end}

module _ (d m i : ℕ) (g : MaskGen) where
  -- z begins with a zero encoding, which is added to sharing i
  pub refresh-laid : (x : MaskGen) (s₀ s z t : List ℕ) → i < m → x ≡ skip masks d i g
      → Wrote 0 0 (i * (d * 512)) (build i (renewed masks d g (span s₀ 0 (m * (d * 512))))) s₀ s
      → span z 0 (d * 512) ≡ zero_at masks d 0 x
      → Wrote 0 (i * (d * 512)) (d * 512) (add_w (span s (i * (d * 512)) (d * 512)) (span z 0 (d * 512))) s t
      → Wrote 0 0 ((i + 1) * (d * 512)) (build (i + 1) (renewed masks d g (span s₀ 0 (m * (d * 512))))) s₀ t
  refresh-laid x s₀ s z t l e u n v =
      let k : i * (d * 512) ≡ 0 + i * (d * 512) = omega arith in
      let w : Wrote 0 (i * (d * 512)) (d * 512) (add_w (span s (i * (d * 512)) (d * 512)) (zero_at masks d 0 x)) s t =
      wrote_value (ap (λ (y : List ℕ). add_w (span s (i * (d * 512)) (d * 512)) y) n) v in
      refresh-turn masks d 0 m 0 i g x s₀ s (omega arith) t l e u
      (subst (λ (a : ℕ). Wrote 0 a (d * 512) (add_w (span s a (d * 512)) (zero_at masks d 0 x)) s t) k w)

  pub refresh-all : (s₀ s : List ℕ) → i ≡ m → length s₀ ≡ m * (d * 512)
      → Wrote 0 0 (i * (d * 512)) (build i (renewed masks d g (span s₀ 0 (m * (d * 512))))) s₀ s → s ≡ refreshed masks d g m s₀
  refresh-all s₀ s e n u =
      let w = refresh-end masks d 0 m 0 i g g s₀ s (omega arith) e u in
      let k : length s ≡ m * (d * 512) = w.long ∙ n in
      sym (take_all (m * (d * 512)) s (omega arith)) ∙ w.new ∙ ap (refreshed masks d g m) (take_all (m * (d * 512)) s₀ (omega arith))
