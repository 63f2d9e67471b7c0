-- Residues kept apart and what they stand for: rests, words of two, and products added to unreduced sums.
use mathlib.Core.Path.{◌≡◌, refl, ap, sym, ◌∙◌, subst}
use mathlib.Core.List.{List, [], ◌∷◌, ◌++◌}
use Prim.Native.Nat.{ℕ, zero, suc, ◌+◌, ◌*◌, ◌-◌, ◌%◌, ◌^◌, ◌<◌, ◌≤◌}
use native.Mathlib.Nat.{mul-le-mul}
use native.Mathlib.Omega.{arith}
use lib.Dec.{lit<, lit≤}
use lib.ListN.{length, take, drop}
use Rattle.hash.specs.Lists.{zeros}
use Rattle.ring.specs.declared.prime.Prime.{Prime}
use Rattle.ring.specs.Words.{q, addq, subq, add_w, sub_w, zip_to, Below, Residues, Words}
use Rattle.ring.specs.Poly.{map_n, map2}
use Rattle.ring.specs.Residue.{prime, zeta, mods, timesp, fwd, back_one, crt_of}
use Rattle.ring.specs.Transform.{intt, pointwise}
use Rattle.ring.specs.Loose.{LooseList}
use Rattle.ring.specs.Rns.{residue_in, words_of, recombined, times_in, multiple, Accrued}
use Rattle.ring.proofs.Cong.{Eqv, ≈refl, ≈sym, ≈trans, ≈eq, ≈by, ≈mod, ≈kit, ≈cancel}
use Rattle.ring.proofs.Crt.{each-prime, below-crt, mods-crt-first, mods-crt-second, lists-by-rests}
use Rattle.ring.proofs.Mapped.{length-map, map-append, map-take, map-drop}
use Rattle.ring.proofs.Rests.{pointwise-rest}
use Rattle.ring.proofs.Places.{length-map2, map2-low, length-mods, below-mods, residues-mods, maps}
use Rattle.ring.proofs.Values.{residues-fwd}
use Rattle.ring.proofs.Sums.{addq-lt, subq-lt, below_wider, below-zip}
use Rattle.ring.proofs.Tables.{prime-pos}
use Rattle.ring.proofs.Theorems.{pointwise-words}

-- ---- what residues stand for

-- the residues modulo a prime, of both lists
abbrev side : Prime → List ℕ → List ℕ → List ℕ
side Prime.Second hi lo = hi
side Prime.First hi lo = lo

module _ (hi lo : List ℕ) (e : length hi ≡ 512) (g : length lo ≡ 512) where
  same-long : length (mods (prime Prime.Second) hi) ≡ length (mods (prime Prime.First) lo)
  same-long = length-mods (prime Prime.Second) hi ∙ e ∙ sym (length-mods (prime Prime.First) lo ∙ g)

  recombined-words : Words 512 (recombined hi lo)
  unfolding recombined
  recombined-words =
      record {
        long = length-map2 crt_of (mods (prime Prime.Second) hi) (mods (prime Prime.First) lo) same-long ∙ length-mods (prime Prime.Second) hi ∙ e;
        low = below-crt (mods (prime Prime.Second) hi) (mods (prime Prime.First) lo) (below-mods (prime-pos Prime.First) lo);
      }

  recombined-rest : (s : Prime) → mods (prime s) (recombined hi lo) ≡ mods (prime s) (side s hi lo)
  unfolding recombined
  recombined-rest Prime.Second =
      mods-crt-second (mods (prime Prime.Second) hi) (mods (prime Prime.First) lo) same-long (below-mods (prime-pos Prime.Second) hi) (below-mods (prime-pos Prime.First) lo)
  recombined-rest Prime.First =
      mods-crt-first (mods (prime Prime.Second) hi) (mods (prime Prime.First) lo) same-long (below-mods (prime-pos Prime.First) lo)

  -- the inverse of the transform from the sums modulo each prime
  pub intt-recombined : map2 crt_of (back_one Prime.Second (mods (prime Prime.Second) hi)) (back_one Prime.First (mods (prime Prime.First) lo)) ≡ intt (recombined hi lo)
  unfolding intt
  intt-recombined = maps crt_of (ap (back_one Prime.Second) (sym (recombined-rest Prime.Second))) (ap (back_one Prime.First) (sym (recombined-rest Prime.First)))

pub recombined-zeros : (n : ℕ) → recombined (zeros n) (zeros n) ≡ zeros n
unfolding recombined map_n
recombined-zeros zero = refl
recombined-zeros (suc n) = ap (λ (t : List ℕ). 0 ∷ t) (recombined-zeros n)

-- from residues whose least ones are known
pub recombined-is : (hi lo : List ℕ) {u v : List ℕ} → mods (prime Prime.Second) hi ≡ u → mods (prime Prime.First) lo ≡ v → recombined hi lo ≡ map2 crt_of u v
unfolding recombined
recombined-is hi lo e g = maps crt_of e g

-- residues below n primes, n at most 32, have 30 bits
pub loose-residues : (s : Prime) (n : ℕ) → n ≤ 32 → (xs rs : List ℕ) → length xs ≡ 512 → LooseList (prime s) n xs rs → Residues (2 ^ 30) 512 rs
loose-residues s n h xs rs e l =
    record {
      long = sym (length-mods (prime s) rs) ∙ ap length l.same ∙ e;
      low = below_wider (n * prime s) (2 ^ 30) (bits s) rs l.low;
    }
  where
    bits : (s : Prime) → n * prime s ≤ 2 ^ 30
    bits Prime.Second = omega (arith, h)
    bits Prime.First = omega (arith, h)

-- .. at the end of a transform
pub forth-residues : (s : Prime) (f rs : List ℕ) → length f ≡ 512 → LooseList (prime s) 32 (fwd (prime s) (zeta s) 9 1 (mods (prime s) f)) rs → Residues (2 ^ 30) 512 rs
forth-residues s f rs e l =
    loose-residues s 32 (lit≤ tt) (fwd (prime s) (zeta s) 9 1 (mods (prime s) f)) rs
    (residues-fwd (prime-pos s) (zeta s) 9 1 (mods (prime s) f) (residues-mods (prime-pos s) f e)).long l

-- ---- words of two residues

-- what they stand for, word by word
abbrev word_of : ℕ → ℕ
word_of x = crt_of (residue_in Prime.Second x % prime Prime.Second) (residue_in Prime.First x % prime Prime.First)

words-each : (xs : List ℕ) → words_of xs ≡ map_n word_of xs
unfolding words_of recombined map_n
words-each [] = refl
words-each (x ∷ xs) = ap (λ (t : List ℕ). word_of x ∷ t) (words-each xs)

pub length-words : (xs : List ℕ) → length (words_of xs) ≡ length xs
length-words xs = ap length (words-each xs) ∙ length-map word_of xs

pub below-words : (xs : List ℕ) → Below q (words_of xs)
unfolding words_of recombined
below-words xs =
    below-crt (mods (prime Prime.Second) (map_n (residue_in Prime.Second) xs)) (mods (prime Prime.First) (map_n (residue_in Prime.First) xs)) (below-mods (prime-pos Prime.First) (map_n (residue_in Prime.First) xs))

-- a part of them, and a part put in its place
pub words-part : (xs : List ℕ) (a k : ℕ) → words_of (take k (drop a xs)) ≡ take k (drop a (words_of xs))
words-part xs a k =
    words-each (take k (drop a xs)) ∙ sym (ap (λ (l : List ℕ). take k (drop a l)) (words-each xs) ∙ ap (take k) (map-drop word_of a xs) ∙ map-take word_of k (drop a xs))

pub words-put : (xs ys : List ℕ) (a k : ℕ)
    → words_of (take a xs ++ (ys ++ drop k (drop a xs))) ≡ take a (words_of xs) ++ (words_of ys ++ drop k (drop a (words_of xs)))
words-put xs ys a k =
    words-each (take a xs ++ (ys ++ drop k (drop a xs))) ∙ map-append word_of (take a xs) (ys ++ drop k (drop a xs))
    ∙ cc (map-append word_of ys (drop k (drop a xs)), map-take word_of a xs, map-drop word_of k (drop a xs), map-drop word_of a xs, words-each xs, words-each ys)

words-rest : (s : Prime) (xs : List ℕ) → length xs ≡ 512 → mods (prime s) (words_of xs) ≡ mods (prime s) (map_n (residue_in s) xs)
unfolding words_of
words-rest Prime.Second xs e =
    recombined-rest (map_n (residue_in Prime.Second) xs) (map_n (residue_in Prime.First) xs) (length-map (residue_in Prime.Second) xs ∙ e) (length-map (residue_in Prime.First) xs ∙ e) Prime.Second
words-rest Prime.First xs e =
    recombined-rest (map_n (residue_in Prime.Second) xs) (map_n (residue_in Prime.First) xs) (length-map (residue_in Prime.Second) xs ∙ e) (length-map (residue_in Prime.First) xs ∙ e) Prime.First

-- two residues to a word
pub two-words : (a b : List ℕ) → Below (2 ^ 30) b → words_of (map2 (λ (x y : ℕ). x * 2 ^ 30 + y) a b) ≡ recombined a b
unfolding words_of recombined map_n
two-words [] b h = refl
two-words (x ∷ a) [] h = refl
two-words (x ∷ a) (y ∷ b) h =
    let e : residue_in Prime.Second (x * 2 ^ 30 + y) ≡ x = omega (arith, h.0) in
    let g : residue_in Prime.First (x * 2 ^ 30 + y) ≡ y = omega (arith, h.0) in
    cc (e, g, two-words a b h.1)

pub below_two : (a b : List ℕ) → Below (2 ^ 30) a → Below (2 ^ 30) b → Below (2 ^ 60) (map2 (λ (x y : ℕ). x * 2 ^ 30 + y) a b)
below_two = map2-low (2 ^ 60) (2 ^ 30) (2 ^ 30) (λ (x y : ℕ). x * 2 ^ 30 + y) (λ x y h g. omega arith)

-- ---- products and sums

residue-in-low : (s : Prime) (x : ℕ) → x < 2 ^ 60 → residue_in s x < 2 ^ 30
residue-in-low Prime.Second x h = omega arith
residue-in-low Prime.First x h = omega arith

-- a product of two residues
pub times-low : (y z : ℕ) → y < 2 ^ 30 → z < 2 ^ 30 → y * z < 2 ^ 60
times-low y z h g =
    let a : y ≤ 1073741823 = omega arith in
    let b : z ≤ 1073741823 = omega arith in
    omega (arith, mul-le-mul a b)

below-times : (s : Prime) (a x : List ℕ) → Below (2 ^ 60) a → Below (2 ^ 60) x → Below (2 ^ 60) (map2 (times_in s) a x)
below-times s =
    map2-low (2 ^ 60) (2 ^ 60) (2 ^ 60) (times_in s) (λ y z h g. times-low (residue_in s y) (residue_in s z) (residue-in-low s y h) (residue-in-low s z g))

pub multiple-above : (s : Prime) → 2 ^ 60 ≤ multiple s
multiple-above Prime.Second = lit≤ tt
multiple-above Prime.First = lit≤ tt

multiple-rest : (s : Prime) → Eqv (prime s) (multiple s) 0
multiple-rest Prime.Second = ≈by 0 34630286449 refl
multiple-rest Prime.First = ≈by 0 69810257854 refl

pub times_long : (s : Prime) (a x : List ℕ) → Residues (2 ^ 60) 512 a → Residues (2 ^ 60) 512 x → length (map2 (times_in s) a x) ≡ 512
times_long s a x ra rx = length-map2 (times_in s) a x (ra.long ∙ sym rx.long) ∙ ra.long

-- the rests of the product are those of the products of residues
module _ (s : Prime) where
  times-rests : (a x : List ℕ)
      → map2 (timesp (prime s)) (mods (prime s) (map_n (residue_in s) a)) (mods (prime s) (map_n (residue_in s) x)) ≡ mods (prime s) (map2 (times_in s) a x)
  unfolding map_n
  times-rests [] x = refl
  times-rests (y ∷ a) [] = refl
  times-rests (y ∷ a) (z ∷ x) = cc (k.same, times-rests a x)
    where
      k : Eqv (prime s) (residue_in s y % prime s * (residue_in s z % prime s)) (times_in s y z)
      k = grw (≈kit, ≈mod {p = prime s} (residue_in s y), ≈mod {p = prime s} (residue_in s z)) ≈refl

  product-rest : (a x : List ℕ) → length a ≡ 512 → length x ≡ 512
      → mods (prime s) (pointwise (words_of a) (words_of x)) ≡ mods (prime s) (map2 (times_in s) a x)
  product-rest a x e g =
      pointwise-rest s (words_of a) (words_of x) ∙ maps (timesp (prime s)) (words-rest s a e) (words-rest s x g) ∙ times-rests a x

  -- modulo one prime: f of two lists, and g of what has their rests
  module _ (f g : ℕ → ℕ → ℕ) (h : (x y u v : ℕ) → Eqv (prime s) x u → Eqv (prime s) y v → y < q → v < 2 ^ 60 → f x y % prime s ≡ g u v % prime s) where
    zip-rest : (X Y U W : List ℕ) → mods (prime s) X ≡ mods (prime s) U → mods (prime s) Y ≡ mods (prime s) W → length X ≡ length Y
        → Below q Y → Below (2 ^ 60) W → mods (prime s) (zip_to f X Y) ≡ mods (prime s) (map2 g U W)
    unfolding zip_to map_n
    zip-rest [] Y [] W ex ey l c b = refl
    zip-rest [] Y (u ∷ U) W ex ey l c b = absurd (omega (arith, ap length ex))
    zip-rest (x ∷ X) Y [] W ex ey l c b = absurd (omega (arith, ap length ex))
    zip-rest (x ∷ X) [] (u ∷ U) W ex ey l c b = absurd (omega arith)
    zip-rest (x ∷ X) (y ∷ Y) (u ∷ U) [] ex ey l c b = absurd (omega (arith, ap length ey))
    zip-rest (x ∷ X) (y ∷ Y) (u ∷ U) (v ∷ W) ex ey l c b =
        let xu : Eqv (prime s) x u = record { same = cc } in
        let yv : Eqv (prime s) y v = record { same = cc } in
        let tx : mods (prime s) X ≡ mods (prime s) U = cc in
        let ty : mods (prime s) Y ≡ mods (prime s) W = cc in
        cc (h x y u v xu yv c.0 b.0, zip-rest X Y U W tx ty (omega arith) c.1 b.1)

  rest-added : (x y u v : ℕ) → Eqv (prime s) x u → Eqv (prime s) y v → y < q → v < 2 ^ 60 → addq x y % prime s ≡ (u + v) % prime s
  unfolding addq
  rest-added x y u v e g h b =
      let k : Eqv (prime s) ((x + y) % q) (u + v) = ≈trans (each-prime s (≈mod (x + y))) (grw (≈kit, e, g) ≈refl) in
      k.same

  rest-taken : (x y u v : ℕ) → Eqv (prime s) x u → Eqv (prime s) y v → y < q → v < 2 ^ 60 → subq x y % prime s ≡ (u + (multiple s - v)) % prime s
  unfolding subq
  rest-taken x y u v e g h b =
      let l : Eqv (prime s) ((x + (q - y)) % q + v) x =
      ≈trans {b = x + (q - y) + y} (grw (≈kit, each-prime s (≈mod (x + (q - y))), ≈sym g) ≈refl) (each-prime s (≈by 0 1 (omega arith))) in
      let r : Eqv (prime s) (u + (multiple s - v) + v) u =
      ≈trans {b = u + multiple s} (≈eq (omega (arith, multiple-above s))) (grw (≈kit, multiple-rest s) (≈eq (omega arith))) in
      let k : Eqv (prime s) ((x + (q - y)) % q) (u + (multiple s - v)) = ≈cancel v (≈trans l (≈trans e (≈sym r))) in
      k.same

-- ---- a step on the sums

-- by f modulo q where it goes by g s modulo each prime
module _ (n : ℕ) (f : ℕ → ℕ → ℕ) (g : Prime → ℕ → ℕ → ℕ)
    (h : (s : Prime) (x y u v : ℕ) → Eqv (prime s) x u → Eqv (prime s) y v → y < q → v < 2 ^ 60 → f x y % prime s ≡ g s u v % prime s)
    (f-low : (x y : ℕ) → f x y < q) (g-low : (s : Prime) (m u v : ℕ) → u < m → v < 2 ^ 60 → g s u v < m + n)
    (a x hi lo hi' lo' : List ℕ) (ra : Residues (2 ^ 60) 512 a) (rx : Residues (2 ^ 60) 512 x) (eh : length hi ≡ 512) (el : length lo ≡ 512) where
  step-residues : (s : Prime) (m : ℕ) (U : List ℕ) → Residues m 512 U → Residues (m + n) 512 (map2 (g s) U (map2 (times_in s) a x))
  step-residues s m U r =
      let e = times_long s a x ra rx in
      record {
        long = length-map2 (g s) U (map2 (times_in s) a x) (r.long ∙ sym e) ∙ r.long;
        low = map2-low (m + n) m (2 ^ 60) (g s) (g-low s m) U (map2 (times_in s) a x) r.low (below-times s a x ra.low rx.low);
      }

  both-accrued : hi' ≡ map2 (g Prime.Second) hi (map2 (times_in Prime.Second) a x) → lo' ≡ map2 (g Prime.First) lo (map2 (times_in Prime.First) a x)
      → Accrued (zip_to f) n a x hi lo hi' lo'
  both-accrued e k =
      let P = pointwise (words_of a) (words_of x) in
      let wp : Words 512 P = pointwise-words (words_of a) (words_of x) (length-words a ∙ ra.long) (length-words x ∙ rx.long) in
      let wr : Words 512 (recombined hi lo) = recombined-words hi lo eh el in
      let lh : length hi' ≡ 512 = ap length e ∙ length-map2 (g Prime.Second) hi (map2 (times_in Prime.Second) a x) (eh ∙ sym (times_long Prime.Second a x ra rx)) ∙ eh in
      let ll : length lo' ≡ 512 = ap length k ∙ length-map2 (g Prime.First) lo (map2 (times_in Prime.First) a x) (el ∙ sym (times_long Prime.First a x ra rx)) ∙ el in
      let rest : (s : Prime) → mods (prime s) (side s hi' lo') ≡ mods (prime s) (map2 (g s) (side s hi lo) (map2 (times_in s) a x)) = sides in
      record {
        same =
            lists-by-rests (recombined hi' lo') (zip_to f (recombined hi lo) P) (recombined-words hi' lo' lh ll).low (below-zip q f f-low (recombined hi lo) P wr.low)
            (λ (s : Prime).
            recombined-rest hi' lo' lh ll s ∙ rest s
            ∙ sym (zip-rest s f (g s) (h s) (recombined hi lo) P (side s hi lo) (map2 (times_in s) a x) (recombined-rest hi lo eh el s)
            (product-rest s a x ra.long rx.long) (wr.long ∙ sym wp.long) wp.low (below-times s a x ra.low rx.low)));
        low = λ (m : ℕ) u v. (subst (Residues (m + n) 512) (sym e) (step-residues Prime.Second m hi u), subst (Residues (m + n) 512) (sym k) (step-residues Prime.First m lo v));
      }
    where
      sides : (s : Prime) → mods (prime s) (side s hi' lo') ≡ mods (prime s) (map2 (g s) (side s hi lo) (map2 (times_in s) a x))
      sides Prime.Second = ap (mods (prime Prime.Second)) e
      sides Prime.First = ap (mods (prime Prime.First)) k

pub add-accrued : (a x hi lo hi' lo' : List ℕ) → Residues (2 ^ 60) 512 a → Residues (2 ^ 60) 512 x → length hi ≡ 512 → length lo ≡ 512
    → hi' ≡ map2 (λ (y z : ℕ). y + z) hi (map2 (times_in Prime.Second) a x) → lo' ≡ map2 (λ (y z : ℕ). y + z) lo (map2 (times_in Prime.First) a x)
    → Accrued add_w (2 ^ 60) a x hi lo hi' lo'
add-accrued a x hi lo hi' lo' ra rx eh el =
    both-accrued (2 ^ 60) addq (λ (s : Prime) (y z : ℕ). y + z) rest-added addq-lt (λ s m u v l b. omega arith) a x hi lo hi' lo' ra rx eh el

pub multiple-low : (s : Prime) → multiple s < 2 ^ 61
multiple-low Prime.Second = lit< tt
multiple-low Prime.First = lit< tt

pub sub-accrued : (a x hi lo hi' lo' : List ℕ) → Residues (2 ^ 60) 512 a → Residues (2 ^ 60) 512 x → length hi ≡ 512 → length lo ≡ 512
    → hi' ≡ map2 (λ (y z : ℕ). y + (multiple Prime.Second - z)) hi (map2 (times_in Prime.Second) a x)
    → lo' ≡ map2 (λ (y z : ℕ). y + (multiple Prime.First - z)) lo (map2 (times_in Prime.First) a x) → Accrued sub_w (2 ^ 61) a x hi lo hi' lo'
sub-accrued a x hi lo hi' lo' ra rx eh el =
    both-accrued (2 ^ 61) subq (λ (s : Prime) (y z : ℕ). y + (multiple s - z)) rest-taken subq-lt (λ s m u v l b. omega (arith, multiple-low s)) a x hi lo hi' lo' ra rx eh el
