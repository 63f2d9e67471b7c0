-- Steps (what the code leaves on its way; no call's contract reaches these): zero encodings drawn on a work buffer whose front is scratch.
use Rattle.std.specs.Prelude.{◌≡◌, List, ℕ, zero, suc, ◌*◌}
use Rattle.sharing.specs.Encoding.{Generator, skip, zero_at}
use Rattle.sharing.specs.Masks.{masks}
use Rattle.sharing.specs.Region.{span, Wrote}
use Rattle.sharing.specs.declared.masks.MaskGen.{MaskGen}

-- what the scratch holds behind n zero encodings, xs before them: the last one, or xs where there is none
unfoldable pub last_zero : (G : Generator) → ℕ → G.State → ℕ → List ℕ → List ℕ
last_zero G d g zero xs = xs
last_zero G d g (suc n) xs = zero_at G d n g

-- m zero encodings of d shares were drawn from g on: X in the n words from a on, the last of them in the scratch; h is the generator behind them
abbrev pub WroteMasked : ℕ → ℕ → MaskGen → MaskGen → ℕ → ℕ → List ℕ → List ℕ → List ℕ → Type 0
WroteMasked d m g h a n X xs ys =
    Wrote (d * 512) a n X xs ys × (h ≡ skip masks d m g) × (span ys 0 (d * 512) ≡ last_zero masks d g m (span xs 0 (d * 512)))
