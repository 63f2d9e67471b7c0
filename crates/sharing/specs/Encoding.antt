-- Zero encodings and refreshing (000, Algorithms 11 and 12), over any generator of masking polynomials.
use Rattle.std.specs.Prelude.{List, ◌++◌, ℕ, zero, suc, ◌*◌, ◌^◌}
use Rattle.hash.specs.Params.{order_index}
use Rattle.ring.specs.Words.{add_w, sub_w}
use Rattle.hash.specs.Lists.{zeros}
use Rattle.sharing.specs.Blocks.{block, build}

-- a generator: the next polynomial of 512 masking words, and the state behind it (01: masking generator)
pub record Generator : Type 1 where
  pub State : Type 0
  pub poly : State → List ℕ
  pub next : State → State

-- two halves, one masking word for each pair: added on the left, subtracted on the right
unfoldable pub pairs : List ℕ → List ℕ → List ℕ → List ℕ
pairs l r m = add_w l m ++ sub_w r m

module _ (G : Generator) where
  -- the state n polynomials on, and the n polynomials from here
  unfoldable pub later : ℕ → G.State → G.State
  later zero g = g
  later (suc n) g = G.next (later n g)

  unfoldable pub polys : ℕ → G.State → List ℕ
  polys n g = build n (λ (j : ℕ). G.poly (later j g))

  -- Algorithm 12 with 2 ^ h shares: both halves, the left before the right, then the pairs (01: zero sharing)
  unfoldable pub zero_after : ℕ → G.State → G.State
  zero_after zero g = g
  zero_after (suc h) g = later (2 ^ h) (zero_after h (zero_after h g))

  unfoldable pub zero_encoding : ℕ → G.State → List ℕ
  zero_encoding zero g = zeros 512
  zero_encoding (suc h) g =
      pairs (zero_encoding h g) (zero_encoding h (zero_after h g)) (polys (2 ^ h) (zero_after h (zero_after h g)))

  -- the state after n zero encodings of d shares, and zero encoding number n from here; d = 2 ^ order_index d for the six share counts
  unfoldable pub skip : ℕ → ℕ → G.State → G.State
  skip d zero g = g
  skip d (suc n) g = zero_after (order_index d) (skip d n g)

  unfoldable pub zero_at : ℕ → ℕ → G.State → List ℕ
  zero_at d n g = zero_encoding (order_index d) (skip d n g)

  -- Algorithm 8 at one polynomial, r repetitions: f t is the noise of repetition t for all shares; a refresh after each
  unfoldable pub add_rep : ℕ → G.State → ℕ → (ℕ → List ℕ) → List ℕ → List ℕ
  add_rep d g zero f xs = xs
  add_rep d g (suc t) f xs = add_w (add_w (add_rep d g t f xs) (f t)) (zero_at d t g)

  -- and at m polynomials
  unfoldable pub add_noise : ℕ → G.State → ℕ → ℕ → (ℕ → ℕ → List ℕ) → List ℕ → List ℕ
  add_noise d g m r f xs = build m (λ (i : ℕ). add_rep d (skip d (i * r) g) r (f i) (block (d * 512) i xs))

  -- m zero encodings; m sharings refreshed (Algorithm 11)
  unfoldable pub zero_vector : ℕ → G.State → ℕ → List ℕ
  zero_vector d g m = build m (λ (i : ℕ). zero_at d i g)

  unfoldable pub refreshed : ℕ → G.State → ℕ → List ℕ → List ℕ
  refreshed d g m xs = build m (λ (i : ℕ). add_w (block (d * 512) i xs) (zero_at d i g))
