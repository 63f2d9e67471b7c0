-- Worked examples: the sum of two shares (P10), and the bytes of one attempt's noise seeds (P12).
use mathlib.Core.Path.{◌≡◌, refl, ap, ◌∙◌}
use mathlib.Core.List.{List, [], ◌∷◌}
use Prim.Native.Nat.{ℕ, ◌+◌, ◌-◌, ◌*◌, ◌/◌, ◌%◌, ◌<◌}
use lib.ListN.{get_or}
use Rattle.hash.specs.declared.params.Edition.{Edition}
use Rattle.hash.specs.declared.params.Params.{Params}
use Rattle.std.specs.Prelude.{Ok}
use Rattle.hash.specs.Params.{lookup_of}
use Rattle.hash.proofs.Worked.{Counts, counts-1, counts-2, counts-32}
use Rattle.ring.specs.Words.{q, addq, Words}
use Rattle.ring.proofs.Sums.{addq-rest}
use Rattle.sharing.specs.Blocks.{block, sum_n, total}
use Rattle.sharing.specs.Noise.{noise_bytes}
use Rattle.sharing.proofs.Decode.{total-at}

-- the shares 5 and q - 2 are a sharing of 3
pub p10 : addq (addq 0 5) (q - 2) ≡ 3
p10 = ap (λ (n : ℕ). addq n (q - 2)) (addq-rest 0 5) ∙ addq-rest 5 (q - 2)

pub p10-sum : sum_n 2 (λ (j : ℕ). get_or (5 ∷ (q - 2) ∷ []) j 0) % q ≡ 3
unfolding sum_n
p10-sum = refl

-- .. at any place of two shares
pub p10-total : (xs : List ℕ) → Words (2 * 512) xs → (x : ℕ) → x < 512 → get_or (block 512 0 xs) x 0 ≡ 5 → get_or (block 512 1 xs) x 0 ≡ q - 2
    → get_or (total 2 xs) x 0 ≡ 3
unfolding sum_n
p10-total xs h x l a b =
    total-at 2 xs h x l ∙ ap (λ (n : ℕ). (0 + n + get_or (block 512 1 xs) x 0) % q) a ∙ ap (λ (n : ℕ). (0 + 5 + n) % q) b

-- a seed of kappa bits for each polynomial, share and repetition
noise-counts : (κ d k l r : ℕ) (p : Params) → Counts κ d k l r p → noise_bytes p ≡ (l + k) * d * r * (κ / 8)
unfolding noise_bytes
noise-counts κ d k l r p h = rw (h.kappa-is, h.shares-is, h.k-is, h.l-is, h.rep-is)

-- those of 128-1, 128-2 and 128-32, in either edition
pub p12-1 : (e : Edition) → (p : Params) × ((lookup_of 128 1 e ≡ Ok p) × (noise_bytes p ≡ 1152))
p12-1 e = let c = counts-1 e in (c.0, (c.1.0, noise-counts 128 1 5 4 8 c.0 c.1.1))

pub p12-2 : (e : Edition) → (p : Params) × ((lookup_of 128 2 e ≡ Ok p) × (noise_bytes p ≡ 1152))
p12-2 e = let c = counts-2 e in (c.0, (c.1.0, noise-counts 128 2 5 4 4 c.0 c.1.1))

pub p12-32 : (e : Edition) → (p : Params) × ((lookup_of 128 32 e ≡ Ok p) × (noise_bytes p ≡ 18432))
p12-32 e = let c = counts-32 e in (c.0, (c.1.0, noise-counts 128 32 5 4 4 c.0 c.1.1))
