-- One step of the transform and one of its inverse: on two residues, and on the two halves of a list.
use mathlib.Core.Path.{◌≡◌, refl, sym, ◌∙◌}
use mathlib.Core.List.{List, [], ◌∷◌, ◌++◌}
use Prim.Native.Nat.{ℕ, suc, ◌+◌, ◌*◌, ◌-◌, ◌%◌, ◌^◌, ◌<◌}
use native.Mathlib.Nat.{mod-lt}
use native.Mathlib.Omega.{arith}
use lib.ListN.{length, take, drop}
use Rattle.ring.specs.Words.{Below, Residues}
use Rattle.ring.specs.Poly.{map_n, map2, neg}
use Rattle.ring.specs.Residue.{up, down, join, part, scale}
use Rattle.ring.proofs.Cong.{Eqv, ≈refl, ≈sym, ≈trans, ≈eq, ≈mod, ≈same, ≈kit, ≈unique, neg1, neg-add, neg1-mul, neg1-one, neg1-square, neg_is, minus_is}
use Rattle.ring.proofs.Sums.{residues-append, residues-take, residues-drop}
use Rattle.ring.proofs.Places.{residues-map2}

-- ---- halves of 2^(d + 1) residues

module _ {p : ℕ} (d : ℕ) where
  pub both_halves : (xs ys : List ℕ) → Residues p (2 ^ d) xs → Residues p (2 ^ d) ys → Residues p (2 ^ suc d) (xs ++ ys)
  both_halves xs ys h g =
      let r : Residues p (2 ^ d + 2 ^ d) (xs ++ ys) = residues-append xs ys h g in
      record { long = r.long ∙ omega arith; low = r.low }

  module _ (f : List ℕ) (r : Residues p (2 ^ suc d) f) where
    twice : Residues p (2 ^ d + 2 ^ d) f
    twice = record { long = r.long ∙ omega arith; low = r.low }

    pub lower : Residues p (2 ^ d) (take (2 ^ d) f)
    lower = residues-take (2 ^ d) (2 ^ d) f twice

    pub upper : Residues p (2 ^ d) (drop (2 ^ d) f)
    upper = residues-drop (2 ^ d) (2 ^ d) f twice

    pub same-halves : length (take (2 ^ d) f) ≡ length (drop (2 ^ d) f)
    same-halves = lower.long ∙ sym upper.long

    -- a list made of them
    pub half-made : (h : ℕ → ℕ → ℕ) → ((a b : ℕ) → h a b < p) → Residues p (2 ^ d) (map2 h (take (2 ^ d) f) (drop (2 ^ d) f))
    half-made h l = residues-map2 h l (take (2 ^ d) f) (drop (2 ^ d) f) lower.long upper.long

-- ---- on two residues

module _ {p : ℕ} (pos : 0 < p) where
  pub up-low : (w a b : ℕ) → up p w a b < p
  up-low w a b = mod-lt _ pos

  pub down-low : (w a b : ℕ) → down p w a b < p
  down-low w a b = mod-lt _ pos

  pub join-low : (a b : ℕ) → join p a b < p
  join-low a b = mod-lt _ pos

  pub part_low : (w a b : ℕ) → part p w a b < p
  part_low w a b = mod-lt _ pos

  pub up_is : (w a b : ℕ) → Eqv p (up p w a b) (1 * a + w * b)
  up_is w a b = ≈trans (≈mod _) (grw (≈kit, ≈mod {p = p} (w * b)) (≈eq (omega arith)))

  -- v is -w
  pub down_is : (w v a b : ℕ) → Eqv p (v + w) 0 → Eqv p (down p w a b) (1 * a + v * b)
  down_is w v a b h =
      let g : Eqv p (neg p (w * b)) (v * b) =
      ≈unique (neg p (w * b)) (v * b) (w * b) (neg-add pos (w * b))
      (≈trans {b = (v + w) * b} (≈eq (omega arith)) (grw (≈kit, h) (≈eq (omega arith)))) in
      ≈trans (≈mod _) (grw (≈kit, g) (≈eq (omega arith)))

  down-neg : (w a b : ℕ) → Eqv p (down p w a b) (1 * a + neg1 p * w * b)
  down-neg w a b = down_is w (neg1 p * w) a b (neg1-mul pos w)

  part-is : (v a b : ℕ) → a < p → Eqv p (part p v a b) (v * (b + neg1 p * a))
  part-is v a b h = ≈trans (≈mod _) (grw (≈kit, ≈mod {p = p} (b + (p - a)), minus_is pos a h) ≈refl)

  -- w v = -1
  mirrored : (w v : ℕ) → Eqv p (w * v + 1) 0 → Eqv p (w * v) (neg1 p)
  mirrored w v g = ≈unique (w * v) (neg1 p) 1 g (neg1-one pos)

  -- the step back after the step forward, with a factor s between them
  joined : (s w a b : ℕ) → join p ((s * up p w a b) % p) ((s * down p w a b) % p) ≡ (2 * s * a) % p
  joined s w a b =
      let h : Eqv p ((s * up p w a b) % p + (s * down p w a b) % p) (2 * s * a) =
      grw (≈kit, ≈mod {p = p} (s * up p w a b), ≈mod {p = p} (s * down p w a b), up_is w a b, down-neg w a b)
      (≈trans {b = 2 * s * a + (s * w * b) * (neg1 p + 1)} (≈eq (omega arith)) (grw (≈kit, neg1-one pos) (≈eq (omega arith)))) in
      h.same

  parted : (s w v a b : ℕ) → Eqv p (w * v + 1) 0
      → part p v ((s * up p w a b) % p) ((s * down p w a b) % p) ≡ (2 * s * b) % p
  parted s w v a b g =
      let U : ℕ = (s * up p w a b) % p in
      let W : ℕ = (s * down p w a b) % p in
      let h : Eqv p (v * ((W + (p - U)) % p)) (2 * s * b) =
      grw (
        ≈kit,
        ≈mod {p = p} (W + (p - U)),
        neg_is pos (s * up p w a b),
        ≈mod {p = p} (s * down p w a b),
        up_is w a b,
        down-neg w a b,
      )
      (≈trans {b = (s * v * a) * (neg1 p + 1) + (2 * s * b) * (neg1 p * (w * v))} (≈eq (omega arith))
      (grw (≈kit, neg1-one pos, mirrored w v g, neg1-square pos) (≈eq (omega arith)))) in
      h.same

  -- the step forward after the step back
  uped : (w v a b : ℕ) → a < p → Eqv p (w * v + 1) 0 → up p w (join p a b) (part p v a b) ≡ (2 * a) % p
  uped w v a b h g =
      let e : Eqv p (up p w (join p a b) (part p v a b)) (2 * a) =
      ≈trans (up_is w (join p a b) (part p v a b))
      (grw (≈kit, ≈mod {p = p} (a + b), part-is v a b h)
      (≈trans {b = a + b + (w * v) * (b + neg1 p * a)} (≈eq (omega arith))
      (grw (≈kit, mirrored w v g)
      (≈trans {b = a + b * (neg1 p + 1) + (neg1 p * neg1 p) * a} (≈eq (omega arith))
      (grw (≈kit, neg1-one pos, neg1-square pos) (≈eq (omega arith))))))) in
      ≈same (up-low w (join p a b) (part p v a b)) (mod-lt (2 * a) pos) (≈trans e (≈sym (≈mod (2 * a))))

  downed : (w v a b : ℕ) → a < p → Eqv p (w * v + 1) 0 → down p w (join p a b) (part p v a b) ≡ (2 * b) % p
  downed w v a b h g =
      let e : Eqv p (down p w (join p a b) (part p v a b)) (2 * b) =
      ≈trans (down-neg w (join p a b) (part p v a b))
      (grw (≈kit, ≈mod {p = p} (a + b), part-is v a b h)
      (≈trans {b = a + b + neg1 p * (w * v) * (b + neg1 p * a)} (≈eq (omega arith))
      (grw (≈kit, mirrored w v g)
      (≈trans {b = a + b + (neg1 p * neg1 p) * (b + neg1 p * a)} (≈eq (omega arith))
      (grw (≈kit, neg1-square pos)
      (≈trans {b = 2 * b + a * (neg1 p + 1)} (≈eq (omega arith)) (grw (≈kit, neg1-one pos) (≈eq (omega arith))))))))) in
      ≈same (down-low w (join p a b) (part p v a b)) (mod-lt (2 * b) pos) (≈trans e (≈sym (≈mod (2 * b))))

  -- a step forward keeps a factor
  pub up-scale : (s w a b : ℕ) → up p w ((s * a) % p) ((s * b) % p) ≡ (s * up p w a b) % p
  up-scale s w a b =
      ≈same (up-low w ((s * a) % p) ((s * b) % p)) (mod-lt (s * up p w a b) pos)
      (≈trans (up_is w ((s * a) % p) ((s * b) % p))
      (≈trans {b = s * (1 * a + w * b)} (grw (≈kit, ≈mod {p = p} (s * a), ≈mod {p = p} (s * b)) (≈eq (omega arith)))
      (≈sym (≈trans (≈mod (s * up p w a b)) (grw (≈kit, up_is w a b) ≈refl)))))

  pub down-scale : (s w a b : ℕ) → down p w ((s * a) % p) ((s * b) % p) ≡ (s * down p w a b) % p
  down-scale s w a b =
      ≈same (down-low w ((s * a) % p) ((s * b) % p)) (mod-lt (s * down p w a b) pos)
      (≈trans (down-neg w ((s * a) % p) ((s * b) % p))
      (≈trans {b = s * (1 * a + neg1 p * w * b)} (grw (≈kit, ≈mod {p = p} (s * a), ≈mod {p = p} (s * b)) (≈eq (omega arith)))
      (≈sym (≈trans (≈mod (s * down p w a b)) (grw (≈kit, down-neg w a b) ≈refl)))))

  -- ---- at each place of two lists

  pub joined-all : (s w : ℕ) (xs ys : List ℕ) → length xs ≡ length ys
      → map2 (join p) (scale p s (map2 (up p w) xs ys)) (scale p s (map2 (down p w) xs ys)) ≡ scale p (2 * s) xs
  unfolding map_n
  joined-all s w [] ys e = refl
  joined-all s w (x ∷ xs) [] e = absurd (omega arith)
  joined-all s w (x ∷ xs) (y ∷ ys) e = cc (joined s w x y, joined-all s w xs ys (omega arith))

  pub parted-all : (s w v : ℕ) → Eqv p (w * v + 1) 0 → (xs ys : List ℕ) → length xs ≡ length ys
      → map2 (part p v) (scale p s (map2 (up p w) xs ys)) (scale p s (map2 (down p w) xs ys)) ≡ scale p (2 * s) ys
  unfolding map_n
  parted-all s w v g [] [] e = refl
  parted-all s w v g [] (y ∷ ys) e = absurd (omega arith)
  parted-all s w v g (x ∷ xs) [] e = absurd (omega arith)
  parted-all s w v g (x ∷ xs) (y ∷ ys) e = cc (parted s w v x y g, parted-all s w v g xs ys (omega arith))

  pub uped-all : (w v : ℕ) → Eqv p (w * v + 1) 0 → (xs ys : List ℕ) → length xs ≡ length ys → Below p xs
      → map2 (up p w) (map2 (join p) xs ys) (map2 (part p v) xs ys) ≡ scale p 2 xs
  unfolding map_n
  uped-all w v g [] ys e s = refl
  uped-all w v g (x ∷ xs) [] e s = absurd (omega arith)
  uped-all w v g (x ∷ xs) (y ∷ ys) e s = cc (uped w v x y s.0 g, uped-all w v g xs ys (omega arith) s.1)

  pub downed-all : (w v : ℕ) → Eqv p (w * v + 1) 0 → (xs ys : List ℕ) → length xs ≡ length ys → Below p xs
      → map2 (down p w) (map2 (join p) xs ys) (map2 (part p v) xs ys) ≡ scale p 2 ys
  unfolding map_n
  downed-all w v g [] [] e s = refl
  downed-all w v g [] (y ∷ ys) e s = absurd (omega arith)
  downed-all w v g (x ∷ xs) [] e s = absurd (omega arith)
  downed-all w v g (x ∷ xs) (y ∷ ys) e s = cc (downed w v x y s.0 g, downed-all w v g xs ys (omega arith) s.1)
