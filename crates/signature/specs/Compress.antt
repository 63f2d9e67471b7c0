-- Share seeds and MaskCompress (000, Algorithms 14 and 15) over numbers, as the code has them: an edition e, seeds of n bytes, d shares, l
-- polynomials. Keys.antt states them for a record of the table.
use Rattle.std.specs.Prelude.{List, [], ◌∷◌, ℕ, zero, suc, ◌-◌, ◌*◌}
use Rattle.std.proofs.Math.Option.{Option, some, none}
use Rattle.hash.specs.declared.params.Edition.{Edition}
use Rattle.ring.specs.Words.{add_w, sub_w}
use Rattle.ring.specs.Uniform.{sample_q}
use Rattle.sharing.specs.Blocks.{block}
use Rattle.signature.specs.Matrix.{build_all}

-- the header of share i of polynomial j: as printed, and in the response files
abbrev pub share_header : Edition → ℕ → ℕ → List ℕ
share_header Edition.Printed i j = 75 ∷ i ∷ j ∷ 0 ∷ 0 ∷ 0 ∷ 0 ∷ 0 ∷ []
share_header Edition.Kat i j = 75 ∷ j ∷ i ∷ 0 ∷ 0 ∷ 0 ∷ 0 ∷ 0 ∷ []

-- share i, from 1, of polynomial j, expanded from its seed
unfoldable pub seeded_share_of : Edition → ℕ → List ℕ → ℕ → ℕ → Option (List ℕ)
seeded_share_of e n seeds j i = sample_q (share_header e i j) (block n (i - 1) seeds)

-- Algorithm 14 at polynomial j, of the sharing xs: x := s_0, then x - r + s_i for the shares i from 1
abbrev pub exchanged : List ℕ → Option (List ℕ) → Option (List ℕ) → Option (List ℕ)
exchanged s none r = none
exchanged s (some x) none = none
exchanged s (some x) (some r) = some (add_w (sub_w x r) s)

unfoldable pub collected_of : Edition → ℕ → List ℕ → List ℕ → ℕ → ℕ → Option (List ℕ)
collected_of e n seeds xs j zero = some (block 512 0 xs)
collected_of e n seeds xs j (suc i) = exchanged (block 512 (suc i) xs) (collected_of e n seeds xs j i) (seeded_share_of e n seeds j (suc i))

-- polynomial j of the vector of sharings s
abbrev pub collected_at : Edition → ℕ → List ℕ → ℕ → List ℕ → ℕ → Option (List ℕ)
collected_at e n seeds d s j = collected_of e n seeds (block (d * 512) j s) j (d - 1)

unfoldable pub compressed_of : Edition → ℕ → List ℕ → ℕ → ℕ → List ℕ → Option (List ℕ)
compressed_of e n seeds l d s = build_all l (collected_at e n seeds d s)
