-- The transform modulo p gives the values at the leaves of the tree of halves; the values of a product are the products of the values.
use mathlib.Core.Path.{◌≡◌, refl, ap, sym, ◌∙◌}
use mathlib.Core.List.{List, [], ◌∷◌, ◌++◌}
use Prim.Native.Nat.{ℕ, zero, suc, ◌+◌, ◌*◌, ◌%◌, ◌^◌, ◌<◌, ◌≤◌}
use native.Mathlib.Nat.{pow-suc, pow-zero, mod-eq_of_lt, mul-le-mul_left}
use native.Mathlib.Omega.{arith}
use lib.Pow.{pow-add, pow_pos}
use lib.ListN.{length, take, drop, take-append-drop}
use Rattle.hash.specs.Lists.{table}
use Rattle.hash.proofs.Table.{table_none, table-next}
use Rattle.ring.specs.Words.{Residues}
use Rattle.ring.specs.Poly.{eval, map2, prod}
use Rattle.ring.specs.Residue.{up, down, timesp, fwd}
use Rattle.ring.proofs.Cong.{Eqv, ≈sym, ≈trans, ≈eq, ≈mod, ≈kit, square-neg}
use Rattle.ring.proofs.Eval.{eval-append, eval-map2, eval-prod, residues-prod}
use Rattle.ring.proofs.Butterfly.{both_halves, lower, same-halves, half-made, up-low, down-low, up_is, down_is}

-- what the tables have to meet: x^(size of k) = c k at node k; n nodes above the leaves; m k is the node that mirrors k
pub record Roots (p n : ℕ) (z c m : ℕ → ℕ) : Type 0 where
  pub pos : 0 < p
  pub square : (k : ℕ) → 0 < k → k < n → Eqv p (z k * z k) (c k)
  pub left : (k : ℕ) → 0 < k → k < n → Eqv p (c (2 * k)) (z k)
  pub right : (k : ℕ) → 0 < k → k < n → Eqv p (c (2 * k + 1) + z k) 0
  pub mirror : (k : ℕ) → 0 < k → k < n → Eqv p (z k * z (m k) + 1) 0
  pub mirror-left : (k : ℕ) → 0 < k → k < n → m (2 * k) ≡ 2 * m k + 1
  pub mirror-right : (k : ℕ) → 0 < k → k < n → m (2 * k + 1) ≡ 2 * m k

-- the points of the leaves below node k, d levels down
unfoldable pub pts : (ℕ → ℕ) → ℕ → ℕ → List ℕ
pts c zero k = c k ∷ []
pts c (suc d) k = pts c d (2 * k) ++ pts c d (2 * k + 1)

-- the values of f at points
abbrev pub evals : ℕ → List ℕ → List ℕ → List ℕ
evals p f [] = []
evals p f (r ∷ rs) = eval f r % p ∷ evals p f rs

evals-append : (p : ℕ) (f rs ss : List ℕ) → evals p f (rs ++ ss) ≡ evals p f rs ++ evals p f ss
evals-append p f [] ss = refl
evals-append p f (r ∷ rs) ss = ap (λ (l : List ℕ). eval f r % p ∷ l) (evals-append p f rs ss)

pub evals-table : (p : ℕ) (f : List ℕ) (h : ℕ → ℕ) (n : ℕ) → evals p f (table h n) ≡ table (λ (i : ℕ). eval f (h i) % p) n
evals-table p f h zero = ap (evals p f) (table_none h) ∙ sym (table_none (λ (i : ℕ). eval f (h i) % p))
evals-table p f h (suc n) =
    ap (evals p f) (table-next h n)
    ∙ evals-append p f (table h n) (h n ∷ [])
    ∙ ap (λ (l : List ℕ). l ++ (eval f (h n) % p ∷ [])) (evals-table p f h n)
    ∙ sym (table-next (λ (i : ℕ). eval f (h i) % p) n)

-- P at each entry
abbrev All : (ℕ → Type 0) → List ℕ → Type 0
All P [] = Unit {0}
All P (x ∷ xs) = P x × All P xs

all_map : (P Q : ℕ → Type 0) → ((x : ℕ) → P x → Q x) → (xs : List ℕ) → All P xs → All Q xs
all_map P Q f [] a = tt
all_map P Q f (x ∷ xs) a = (f x a.0, all_map P Q f xs a.1)

all_append : (P : ℕ → Type 0) (xs ys : List ℕ) → All P xs → All P ys → All P (xs ++ ys)
all_append P [] ys a b = b
all_append P (x ∷ xs) ys a b = (a.0, all_append P xs ys a.1 b)

-- equal values where the values are congruent at each point
evals-same : (p : ℕ) (f g rs : List ℕ) → All (λ (r : ℕ). Eqv p (eval f r) (eval g r)) rs → evals p f rs ≡ evals p g rs
evals-same p f g [] a = refl
evals-same p f g (r ∷ rs) a = cc (a.0.same, evals-same p f g rs a.1)

double : (r d : ℕ) → r ^ (2 ^ suc d) ≡ r ^ (2 ^ d) * r ^ (2 ^ d)
double r d = ap (λ (x : ℕ). r ^ x) (omega arith) ∙ pow-add r (2 ^ d) (2 ^ d)

-- the halves put together by a + w b have the value of the whole where x^(2^d) = w
eval-half : {p : ℕ} (d : ℕ) (f : List ℕ) → Residues p (2 ^ suc d) f → (h : ℕ → ℕ → ℕ) (w : ℕ)
    → ((a b : ℕ) → Eqv p (h a b) (1 * a + w * b)) → (r : ℕ) → Eqv p (r ^ (2 ^ d)) w
    → Eqv p (eval (map2 h (take (2 ^ d) f) (drop (2 ^ d) f)) r) (eval f r)
eval-half d f e h w l r g =
    ≈trans (eval-map2 h 1 w l (take (2 ^ d) f) (drop (2 ^ d) f) (same-halves d f e) r)
    (≈trans {b = eval (take (2 ^ d) f) r + r ^ (2 ^ d) * eval (drop (2 ^ d) f) r}
    (≈sym (grw (≈kit, g) (≈eq (omega arith))))
    (≈eq
    (ap (λ (x : ℕ). eval (take (2 ^ d) f) r + r ^ x * eval (drop (2 ^ d) f) r) (sym (lower d f e).long)
    ∙ sym (eval-append (take (2 ^ d) f) (drop (2 ^ d) f) r)
    ∙ ap (λ (l : List ℕ). eval l r) (take-append-drop (2 ^ d) f))))

pub residues-fwd : {p : ℕ} → 0 < p → (z : ℕ → ℕ) (d k : ℕ) (f : List ℕ) → Residues p (2 ^ d) f → Residues p (2 ^ d) (fwd p z d k f)
unfolding fwd
residues-fwd pos z zero k f r = r
residues-fwd {p} pos z (suc d) k f r =
    let u : List ℕ = map2 (up p (z k)) (take (2 ^ d) f) (drop (2 ^ d) f) in
    let v : List ℕ = map2 (down p (z k)) (take (2 ^ d) f) (drop (2 ^ d) f) in
    both_halves d (fwd p z d (2 * k) u) (fwd p z d (2 * k + 1) v)
    (residues-fwd pos z d (2 * k) u (half-made d f r (up p (z k)) (up-low pos (z k))))
    (residues-fwd pos z d (2 * k + 1) v (half-made d f r (down p (z k)) (down-low pos (z k))))

module _ {p n : ℕ} {z c m : ℕ → ℕ} (R : Roots p n z c m) where
  -- node k with d levels below it is in the tree
  pub node-half : (d k : ℕ) → suc k * 2 ^ suc d ≤ 2 * n → suc k * (2 * 2 ^ d) ≤ 2 * n
  node-half d k h =
      let e : 2 ^ suc d ≡ 2 * 2 ^ d = omega arith in
      rw e at h

  pub inner : (d k : ℕ) → suc k * 2 ^ suc d ≤ 2 * n → k < n
  inner d k h = omega (arith, node-half d k h, mul-le-mul_left (suc k) (pow_pos d))

  roots : (d k : ℕ) → 0 < k → suc k * 2 ^ d ≤ 2 * n → All (λ (r : ℕ). Eqv p (r ^ (2 ^ d)) (c k)) (pts c d k)
  unfolding pts
  roots zero k l h = (≈eq (pow-suc (c k) 0 ∙ rw pow-zero (omega arith)), tt)
  roots (suc d) k l h =
      let i : k < n = inner d k h in
      let g : suc k * (2 * 2 ^ d) ≤ 2 * n = node-half d k h in
      all_append _ (pts c d (2 * k)) (pts c d (2 * k + 1))
      (all_map _ _
      (λ r (e : Eqv p (r ^ (2 ^ d)) (c (2 * k))).
      rw (double r d) (grw (≈kit, e, e, R.left k l i, R.left k l i) (R.square k l i)))
      (pts c d (2 * k)) (roots d (2 * k) (omega arith) (omega arith)))
      (all_map _ _
      (λ r (e : Eqv p (r ^ (2 ^ d)) (c (2 * k + 1))).
      rw (double r d) (grw (≈kit, e, e) (≈trans (square-neg (c (2 * k + 1)) (z k) (R.right k l i)) (R.square k l i))))
      (pts c d (2 * k + 1)) (roots d (2 * k + 1) (omega arith) (omega arith)))

  pub fwd-eval : (d k : ℕ) (f : List ℕ) → Residues p (2 ^ d) f → 0 < k → suc k * 2 ^ d ≤ 2 * n
      → fwd p z d k f ≡ evals p f (pts c d k)
  unfolding fwd pts
  fwd-eval zero k [] s l h = absurd (omega (arith, s.long))
  fwd-eval zero k (a ∷ []) s l h =
      ap (λ (x : ℕ). x ∷ []) (sym (mod-eq_of_lt s.low.0) ∙ ap (λ (x : ℕ). x % p) (omega arith))
  fwd-eval zero k (a ∷ b ∷ f) s l h = absurd (omega (arith, s.long))
  fwd-eval (suc d) k f s l h =
      let i : k < n = inner d k h in
      let g : suc k * (2 * 2 ^ d) ≤ 2 * n = node-half d k h in
      let u : List ℕ = map2 (up p (z k)) (take (2 ^ d) f) (drop (2 ^ d) f) in
      let v : List ℕ = map2 (down p (z k)) (take (2 ^ d) f) (drop (2 ^ d) f) in
      let at-u : fwd p z d (2 * k) u ≡ evals p f (pts c d (2 * k)) =
      fwd-eval d (2 * k) u (half-made d f s (up p (z k)) (up-low R.pos (z k))) (omega arith) (omega arith)
      ∙ evals-same p u f (pts c d (2 * k))
      (all_map _ _
      (λ r (e : Eqv p (r ^ (2 ^ d)) (c (2 * k))).
      eval-half d f s (up p (z k)) (z k) (up_is R.pos (z k)) r (≈trans e (R.left k l i)))
      (pts c d (2 * k)) (roots d (2 * k) (omega arith) (omega arith))) in
      let at-v : fwd p z d (2 * k + 1) v ≡ evals p f (pts c d (2 * k + 1)) =
      fwd-eval d (2 * k + 1) v (half-made d f s (down p (z k)) (down-low R.pos (z k))) (omega arith) (omega arith)
      ∙ evals-same p v f (pts c d (2 * k + 1))
      (all_map _ _
      (λ r (e : Eqv p (r ^ (2 ^ d)) (c (2 * k + 1))).
      eval-half d f s (down p (z k)) (c (2 * k + 1)) (λ a b. down_is R.pos (z k) (c (2 * k + 1)) a b (R.right k l i)) r e)
      (pts c d (2 * k + 1)) (roots d (2 * k + 1) (omega arith) (omega arith))) in
      cc (at-u, at-v, evals-append p f (pts c d (2 * k)) (pts c d (2 * k + 1)))

  evals-prod : (f g rs : List ℕ) → All (λ (r : ℕ). Eqv p (r ^ length g + 1) 0) rs
      → map2 (timesp p) (evals p f rs) (evals p g rs) ≡ evals p (prod p f g) rs
  evals-prod f g [] a = refl
  evals-prod f g (r ∷ rs) a =
      let h : Eqv p ((eval f r % p) * (eval g r % p)) (eval (prod p f g) r) =
      grw (≈kit, ≈mod {p = p} (eval f r), ≈mod {p = p} (eval g r)) (≈sym (eval-prod R.pos f g r a.0)) in
      cc (h.same, evals-prod f g rs a.1)

  -- the transform of a product
  pub fwd-prod : (d : ℕ) (f g : List ℕ) → Residues p (2 ^ d) f → Residues p (2 ^ d) g → 2 ^ d ≤ n → Eqv p (c 1 + 1) 0
      → fwd p z d 1 (prod p f g) ≡ map2 (timesp p) (fwd p z d 1 f) (fwd p z d 1 g)
  fwd-prod d f g rf rg le top =
      let r : suc 1 * 2 ^ d ≤ 2 * n = omega arith in
      let o : 0 < 1 = omega arith in
      let lg : length g ≡ 2 ^ d = rg.long in
      let tops : All (λ (r : ℕ). Eqv p (r ^ length g + 1) 0) (pts c d 1) =
      all_map _ _ (λ r (e : Eqv p (r ^ (2 ^ d)) (c 1)). rw lg (grw (≈kit, e) top)) (pts c d 1) (roots d 1 o r) in
      cc (
        fwd-eval d 1 f rf o r,
        fwd-eval d 1 g rg o r,
        fwd-eval d 1 (prod p f g) (residues-prod R.pos f g lg) o r,
        evals-prod f g (pts c d 1) tops,
      )
