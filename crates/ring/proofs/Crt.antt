-- A number below q is known by its rests modulo the two primes: 520194 * 16515073 = 1 + 258049 * 33292289. So are lists, and products of polynomials.
use mathlib.Core.Path.{◌≡◌, refl, ap, sym, ◌∙◌}
use mathlib.Core.List.{List, [], ◌∷◌}
use Prim.Native.Nat.{ℕ, zero, suc, ◌+◌, ◌*◌, ◌-◌, ◌%◌, ◌/◌, ◌<◌}
use native.Mathlib.Nat.{mod-lt, mod-eq_of_lt}
use native.Mathlib.Omega.{arith}
use lib.Dec.{lit<}
use lib.ListN.{length}
use Rattle.hash.specs.Lists.{zeros}
use Rattle.ring.specs.declared.prime.Prime.{Prime}
use Rattle.ring.specs.Words.{q, Below}
use Rattle.ring.specs.Poly.{map_n, map2, neg, last_of, shift, mulx, prod}
use Rattle.ring.specs.Residue.{prime, mods, timesp, crt_of}
use Rattle.ring.proofs.Cong.{Eqv, ≈refl, ≈sym, ≈trans, ≈by, ≈mult, ≈mod, ≈same, ≈kit, ≈cancel, coarser, neg-add}
use Rattle.ring.proofs.Places.{maps, length-mods, mods-mods}
use Rattle.ring.proofs.Tables.{prime-pos}

-- ---- one number

-- q is the one prime times the other
abbrev other : Prime → ℕ
other Prime.First = 33292289
other Prime.Second = 16515073

q-is : (s : Prime) → q ≡ other s * prime s
q-is Prime.First = refl
q-is Prime.Second = refl

-- what is congruent modulo q is congruent modulo each prime
pub each-prime : (s : Prime) {x y : ℕ} → Eqv q x y → Eqv (prime s) x y
each-prime s h = coarser (prime s) q (other s) (q-is s) h

both-moduli : (m n u v : ℕ) → u * m ≡ 1 + v * n → {x y : ℕ} → Eqv m x y → Eqv n x y → Eqv (m * n) x y
both-moduli m n u v bez {x} {y} h k =
    ≈by (y / n * u + x / m * v) (x / n * u + y / m * v)
    (omega (
      arith,
      ap (λ (t : ℕ). v * n * t) (≈mult h),
      ap (λ (t : ℕ). u * m * t) (≈mult k),
      ap (λ (t : ℕ). t * x) bez,
      ap (λ (t : ℕ). t * y) bez,
    ))

crt-one : (a b : ℕ) → Eqv 16515073 (crt_of a b) b
crt-one a b = ≈by 0 (((a + (33292289 - b)) * 520194) % 33292289) (omega arith)

crt-two : (a b : ℕ) → b < 16515073 → Eqv 33292289 (crt_of a b) a
crt-two a b h = ≈by (16515073 * (((a + (33292289 - b)) * 520194) / 33292289)) (1 + 258049 * (a + (33292289 - b))) (omega arith)

crt-low : (a b : ℕ) → b < 16515073 → crt_of a b < q
crt-low a b h = omega (arith, mod-lt ((a + (33292289 - b)) * 520194) (prime-pos Prime.Second))

-- the number below q with the rests of x
pub crt-is : (x a b : ℕ) → b < 16515073 → Eqv 33292289 a x → Eqv 16515073 b x → crt_of a b ≡ x % q
crt-is x a b h e g =
    ≈same (crt-low a b h) (mod-lt x (lit< tt))
    (≈trans
    (both-moduli 16515073 33292289 520194 258049 refl (≈trans (crt-one a b) g) (≈trans (crt-two a b h) e))
    (≈sym (≈mod x)))

-- it takes any residue modulo q2
pub crt-rest : (a b : ℕ) → crt_of a b ≡ crt_of (a % 33292289) b
crt-rest a b =
    let k : Eqv 33292289 ((a + (33292289 - b)) * 520194) ((a % 33292289 + (33292289 - b)) * 520194) =
    ≈sym (grw (≈kit, ≈mod {p = 33292289} a) ≈refl) in
    ap (λ (x : ℕ). b + 16515073 * x) k.same

-- ---- lists

pub below-crt : (xs ys : List ℕ) → Below 16515073 ys → Below q (map2 crt_of xs ys)
below-crt [] ys l = tt
below-crt (x ∷ xs) [] l = tt
below-crt (x ∷ xs) (y ∷ ys) l = (crt-low x y l.0, below-crt xs ys l.1)

pub map2-rests : (xs ys : List ℕ) → map2 (λ (x : ℕ) (y : ℕ). crt_of (x % 33292289) (y % 16515073)) xs ys ≡ map2 crt_of (mods 33292289 xs) (mods 16515073 ys)
unfolding map_n
map2-rests [] ys = refl
map2-rests (x ∷ xs) [] = refl
map2-rests (x ∷ xs) (y ∷ ys) = ap (λ (l : List ℕ). crt_of (x % 33292289) (y % 16515073) ∷ l) (map2-rests xs ys)

-- a list below q from its rests
pub crt-mods : (xs : List ℕ) → Below q xs → map2 crt_of (mods (prime Prime.Second) xs) (mods (prime Prime.First) xs) ≡ xs
unfolding map_n
crt-mods [] l = refl
crt-mods (x ∷ xs) l =
    cc (
      crt-is x (x % 33292289) (x % 16515073) (mod-lt x (prime-pos Prime.First)) (≈mod x) (≈mod x),
      mod-eq_of_lt l.0,
      crt-mods xs l.1,
    )

pub lists-by-rests : (xs ys : List ℕ) → Below q xs → Below q ys → ((s : Prime) → mods (prime s) xs ≡ mods (prime s) ys) → xs ≡ ys
lists-by-rests xs ys hx hy e = sym (crt-mods xs hx) ∙ maps crt_of (e Prime.Second) (e Prime.First) ∙ crt-mods ys hy

-- the rests of a list made of its rests
pub mods-crt-first : (xs ys : List ℕ) → length xs ≡ length ys → Below 16515073 ys → mods (prime Prime.First) (map2 crt_of xs ys) ≡ ys
unfolding map_n
mods-crt-first [] [] e l = refl
mods-crt-first [] (y ∷ ys) e l = absurd (omega arith)
mods-crt-first (x ∷ xs) [] e l = absurd (omega arith)
mods-crt-first (x ∷ xs) (y ∷ ys) e l =
    cc ((crt-one x y).same, mod-eq_of_lt l.0, mods-crt-first xs ys (omega arith) l.1)

pub mods-crt-second : (xs ys : List ℕ) → length xs ≡ length ys → Below 33292289 xs → Below 16515073 ys → mods (prime Prime.Second) (map2 crt_of xs ys) ≡ xs
unfolding map_n
mods-crt-second [] [] e k l = refl
mods-crt-second [] (y ∷ ys) e k l = absurd (omega arith)
mods-crt-second (x ∷ xs) [] e k l = absurd (omega arith)
mods-crt-second (x ∷ xs) (y ∷ ys) e k l =
    cc ((crt-two x y l.0).same, mod-eq_of_lt k.0, mods-crt-second xs ys (omega arith) k.1 l.1)

-- ---- rests of products

-- the rests of a list made by the rule h, where k is that rule on rests
mods-map2 : (p : ℕ) (h k : ℕ → ℕ → ℕ) → ((x y z : ℕ) → Eqv p y z → h x y % p ≡ k (x % p) z)
    → (xs ys zs : List ℕ) → mods p ys ≡ mods p zs → mods p (map2 h xs ys) ≡ map2 k (mods p xs) zs
unfolding map_n
mods-map2 p h k l [] ys zs e = refl
mods-map2 p h k l (x ∷ xs) [] [] e = refl
mods-map2 p h k l (x ∷ xs) [] (z ∷ zs) e = absurd (omega (arith, ap length e))
mods-map2 p h k l (x ∷ xs) (y ∷ ys) [] e = absurd (omega (arith, ap length e))
mods-map2 p h k l (x ∷ xs) (y ∷ ys) (z ∷ zs) e =
    let yz : Eqv p y z = record { same = cc } in
    let t : mods p ys ≡ mods p zs = cc in
    cc (l x y z yz, mods-map2 p h k l xs ys zs t)

pub mods-times : (s : Prime) (xs ys : List ℕ) → mods (prime s) (map2 (timesp q) xs ys) ≡ map2 (timesp (prime s)) (mods (prime s) xs) (mods (prime s) ys)
mods-times s xs ys =
    mods-map2 (prime s) (timesp q) (timesp (prime s)) one xs ys (mods (prime s) ys) (sym (mods-mods (prime s) ys))
  where
    one : (x y z : ℕ) → Eqv (prime s) y z → (x * y) % q % prime s ≡ (x % prime s * z) % prime s
    one x y z e =
        let k : Eqv (prime s) ((x * y) % q) (x % prime s * z) =
        ≈trans (each-prime s (≈mod (x * y))) (≈sym (grw (≈kit, ≈mod {p = prime s} x, ≈sym e) ≈refl)) in
        k.same

mods-shift : (p c d : ℕ) (h : List ℕ) → Eqv p c d → mods p (shift c h) ≡ mods p (shift d (mods p h))
unfolding map_n
mods-shift p c d [] k = refl
mods-shift p c d (a ∷ h) k = cc (k.same, mods-shift p a (a % p) h (≈sym (≈mod a)))

mods-last : (p c d : ℕ) (h : List ℕ) → Eqv p c d → Eqv p (last_of c h) (last_of d (mods p h))
unfolding map_n
mods-last p c d [] k = k
mods-last p c d (a ∷ h) k = mods-last p a (a % p) h (≈sym (≈mod a))

mods-zeros : {p : ℕ} → 0 < p → (n : ℕ) → mods p (zeros n) ≡ zeros n
unfolding map_n
mods-zeros pos zero = refl
mods-zeros pos (suc n) = cc (mod-eq_of_lt pos, mods-zeros pos n)

module _ (s : Prime) where
  neg-rest : (x y : ℕ) → Eqv (prime s) x y → Eqv (prime s) (neg q x) (neg (prime s) y)
  neg-rest x y k =
      ≈cancel y
      (≈trans {b = neg q x + x} (grw (≈kit, ≈sym k)) (≈trans (each-prime s (neg-add (lit< tt) x)) (≈sym (neg-add (prime-pos s) y))))

  mods-mulx : (h : List ℕ) → mods (prime s) (mulx q h) ≡ mods (prime s) (mulx (prime s) (mods (prime s) h))
  mods-mulx h =
      mods-shift (prime s) _ _ h (neg-rest (last_of 0 h) (last_of 0 (mods (prime s) h)) (mods-last (prime s) 0 0 h ≈refl))

  -- the rests of the product are the product of the rests
  pub mods-prod : (f g : List ℕ) → mods (prime s) (prod q f g) ≡ prod (prime s) (mods (prime s) f) (mods (prime s) g)
  unfolding map_n
  mods-prod [] g =
      mods-zeros (prime-pos s) (length g) ∙ ap zeros (sym (length-mods (prime s) g))
  mods-prod (a ∷ f) g =
      mods-map2 (prime s) (λ (x : ℕ) (y : ℕ). (a * x + y) % q) (λ (x : ℕ) (y : ℕ). ((a % prime s) * x + y) % prime s) one
      g (mulx q (prod q f g)) (mulx (prime s) (prod (prime s) (mods (prime s) f) (mods (prime s) g)))
      (mods-mulx (prod q f g) ∙ ap (λ (t : List ℕ). mods (prime s) (mulx (prime s) t)) (mods-prod f g))
    where
      one : (x y z : ℕ) → Eqv (prime s) y z → (a * x + y) % q % prime s ≡ ((a % prime s) * (x % prime s) + z) % prime s
      one x y z e =
          let k : Eqv (prime s) ((a * x + y) % q) ((a % prime s) * (x % prime s) + z) =
          ≈trans (each-prime s (≈mod (a * x + y)))
          (≈sym (grw (≈kit, ≈mod {p = prime s} a, ≈mod {p = prime s} x, ≈sym e) ≈refl)) in
          k.same
