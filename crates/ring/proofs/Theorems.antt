-- The theorems about the definitions of specs/Transform: what the layers above cite.
use mathlib.Core.Path.{◌≡◌, ap, sym, ◌∙◌, subst}
use mathlib.Core.List.{List}
use Prim.Native.Nat.{ℕ, ◌+◌, ◌*◌, ◌%◌, ◌<◌}
use native.Mathlib.Nat.{mod-lt}
use lib.Dec.{lit<}
use lib.ListN.{length}
use Rattle.hash.proofs.Paste.{table_same}
use Rattle.ring.specs.declared.prime.Prime.{Prime}
use Rattle.ring.specs.Words.{q, addq, add_w, sub_w, Words, Linear}
use Rattle.ring.specs.Poly.{eval, map2}
use Rattle.ring.specs.Residue.{prime, zeta, mods, timesp, fwd, back_one, crt_of}
use Rattle.ring.specs.Transform.{root, ntt, intt, pointwise, mul}
use Rattle.ring.proofs.Cong.{Eqv, ≈refl, ≈sym, ≈trans, ≈eq, ≈mod, ≈kit}
use Rattle.ring.proofs.Sums.{words-add, words-sub, add-sub, sub_w-add_w}
use Rattle.ring.proofs.Places.{length-map2, residues-map2, residues-mods, residues-table, maps}
use Rattle.ring.proofs.Eval.{residues-prod}
use Rattle.ring.proofs.Tables.{prime-pos}
use Rattle.ring.proofs.Crt.{crt-is, below-crt, crt-mods, lists-by-rests}
use Rattle.ring.proofs.Rests.{back-forth, forth-back, forth-prod, back-rest, ntt-rest, intt-rest, pointwise-rest, mul-rest}
use Rattle.ring.proofs.Additive.{eval-sum, zip-table, prod-sum}

-- ---- words

pub ntt-words : (f : List ℕ) → Words 512 (ntt f)
unfolding ntt
ntt-words f = residues-table (λ (i : ℕ). eval f (root i) % q) (λ (i : ℕ). mod-lt (eval f (root i)) (lit< tt)) 512

pub intt-words : (x : List ℕ) → Words 512 x → Words 512 (intt x)
unfolding intt
intt-words x h =
    let a = back-rest Prime.Second x h.long in
    let b = back-rest Prime.First x h.long in
    record {
      long = length-map2 crt_of (back_one Prime.Second (mods (prime Prime.Second) x)) (back_one Prime.First (mods (prime Prime.First) x)) (a.long ∙ sym b.long) ∙ a.long;
      low = below-crt (back_one Prime.Second (mods (prime Prime.Second) x)) (back_one Prime.First (mods (prime Prime.First) x)) b.low;
    }

pub mul_words : (f h : List ℕ) → length h ≡ 512 → Words 512 (mul f h)
unfolding mul
mul_words f h e = residues-prod (lit< tt) f h e

pub pointwise-words : (a b : List ℕ) → length a ≡ 512 → length b ≡ 512 → Words 512 (pointwise a b)
unfolding pointwise
pointwise-words a b ha hb = residues-map2 (timesp q) (λ (x : ℕ) (y : ℕ). mod-lt (x * y) (lit< tt)) a b ha hb

-- ---- by the two primes

-- the transform from those modulo the primes
pub ntt-by-rests : (f : List ℕ) → length f ≡ 512
    → map2 crt_of (fwd (prime Prime.Second) (zeta Prime.Second) 9 1 (mods (prime Prime.Second) f)) (fwd (prime Prime.First) (zeta Prime.First) 9 1 (mods (prime Prime.First) f)) ≡ ntt f
ntt-by-rests f e =
    maps crt_of (sym (ntt-rest Prime.Second f e)) (sym (ntt-rest Prime.First f e)) ∙ crt-mods (ntt f) (ntt-words f).low

-- a product modulo q from those modulo the primes: r1 the least residue, r2 any
pub pointwise-rests : (a b r2 r1 : ℕ) → r2 % 33292289 ≡ (a % 33292289) * (b % 33292289) % 33292289
    → r1 ≡ (a % 16515073) * (b % 16515073) % 16515073 → crt_of r2 r1 ≡ (a * b) % q
pointwise-rests a b r2 r1 e g =
    crt-is (a * b) r2 r1 (subst (λ (x : ℕ). x < 16515073) (sym g) (mod-lt ((a % 16515073) * (b % 16515073)) (prime-pos Prime.First)))
    (≈trans {b = (a % 33292289) * (b % 33292289)} (record { same = e }) (rests 33292289))
    (≈trans (≈eq g) (≈trans (≈mod ((a % 16515073) * (b % 16515073))) (rests 16515073)))
  where
    rests : (p : ℕ) → Eqv p ((a % p) * (b % p)) (a * b)
    rests p = grw (≈kit, ≈mod {p = p} a, ≈mod {p = p} b) ≈refl

-- ---- the transform and its inverse

pub intt-ntt : (f : List ℕ) → Words 512 f → intt (ntt f) ≡ f
intt-ntt f h =
    lists-by-rests (intt (ntt f)) f (intt-words (ntt f) (ntt-words f)).low h.low
    (λ (s : Prime).
    intt-rest s (ntt f) (ntt-words f).long ∙ ap (back_one s) (ntt-rest s f h.long)
    ∙ back-forth s (mods (prime s) f) (residues-mods (prime-pos s) f h.long))

pub ntt-intt : (x : List ℕ) → Words 512 x → ntt (intt x) ≡ x
ntt-intt x h =
    lists-by-rests (ntt (intt x)) x (ntt-words (intt x)).low h.low
    (λ (s : Prime).
    ntt-rest s (intt x) (intt-words x h).long ∙ ap (fwd (prime s) (zeta s) 9 1) (intt-rest s x h.long)
    ∙ forth-back s (mods (prime s) x) (residues-mods (prime-pos s) x h.long))

-- ---- products

pub ntt-mul : (f h : List ℕ) → Words 512 f → Words 512 h → ntt (mul f h) ≡ pointwise (ntt f) (ntt h)
ntt-mul f h wf wh =
    lists-by-rests (ntt (mul f h)) (pointwise (ntt f) (ntt h)) (ntt-words (mul f h)).low
    (pointwise-words (ntt f) (ntt h) (ntt-words f).long (ntt-words h).long).low
    (λ (s : Prime).
    ntt-rest s (mul f h) (mul_words f h wh.long).long ∙ ap (fwd (prime s) (zeta s) 9 1) (mul-rest s f h)
    ∙ forth-prod s (mods (prime s) f) (residues-mods (prime-pos s) f wf.long) (mods (prime s) h) (residues-mods (prime-pos s) h wh.long)
    ∙ sym (pointwise-rest s (ntt f) (ntt h) ∙ maps (timesp (prime s)) (ntt-rest s f wf.long) (ntt-rest s h wh.long)))

pub product : (f h : List ℕ) → Words 512 f → Words 512 h → intt (pointwise (ntt f) (ntt h)) ≡ mul f h
product f h wf wh = ap intt (sym (ntt-mul f h wf wh)) ∙ intt-ntt (mul f h) (mul_words f h wh.long)

-- x is any list of words, as every such list is a transform
pub times-back : (f x : List ℕ) → Words 512 f → Words 512 x → intt (pointwise (ntt f) x) ≡ mul f (intt x)
times-back f x wf wx =
    ap (λ (t : List ℕ). intt (pointwise (ntt f) t)) (sym (ntt-intt x wx)) ∙ product f (intt x) wf (intt-words x wx)

-- ---- sums

ntt-sum : (f h : List ℕ) → Words 512 f → Words 512 h → ntt (add_w f h) ≡ add_w (ntt f) (ntt h)
unfolding ntt addq
ntt-sum f h wf wh =
    table_same (λ (i : ℕ). eval (add_w f h) (root i) % q) (λ (i : ℕ). addq (eval f (root i) % q) (eval h (root i) % q)) 512
    (λ (i : ℕ) (l : i < 512). (value (root i)).same)
    ∙ zip-table addq (λ (i : ℕ). eval f (root i) % q) (λ (i : ℕ). eval h (root i) % q) 512
  where
    value : (r : ℕ) → Eqv q (eval (add_w f h) r) (eval f r % q + eval h r % q)
    value r =
        ≈trans (eval-sum f h r (wf.long ∙ sym wh.long))
        (≈sym (grw (≈kit, ≈mod {p = q} (eval f r), ≈mod {p = q} (eval h r)) ≈refl))

-- the inverse of a map that keeps sums keeps them
intt-sum : (x y : List ℕ) → Words 512 x → Words 512 y → intt (add_w x y) ≡ add_w (intt x) (intt y)
intt-sum x y wx wy =
    let vx : Words 512 (intt x) = intt-words x wx in
    let vy : Words 512 (intt y) = intt-words y wy in
    let e : ntt (add_w (intt x) (intt y)) ≡ add_w x y =
    ntt-sum (intt x) (intt y) vx vy ∙ cc (ntt-intt x wx, ntt-intt y wy) in
    ap intt (sym e) ∙ intt-ntt (add_w (intt x) (intt y)) (words-add (intt x) (intt y) vx)

pub intt-linear : Linear 512 512 intt
intt-linear = record { words = intt-words; adds = intt-sum }

-- .. and differences
pub intt-sub : (x y : List ℕ) → Words 512 x → Words 512 y → intt (sub_w x y) ≡ sub_w (intt x) (intt y)
intt-sub x y wx wy =
    let d : Words 512 (sub_w x y) = words-sub x y wx in
    let e : add_w (intt (sub_w x y)) (intt y) ≡ intt x = sym (intt-sum (sub_w x y) y d wy) ∙ ap intt (add-sub x y wx wy) in
    sym (sub_w-add_w (intt (sub_w x y)) (intt y) (intt-words (sub_w x y) d).low (intt-words y wy).low) ∙ ap (λ (t : List ℕ). sub_w t (intt y)) e

pub mul-linear : (a : List ℕ) → Linear 512 512 (mul a)
unfolding mul
mul-linear a =
    record {
      words = λ (x : List ℕ) (w : Words 512 x). mul_words a x w.long;
      adds = λ (x : List ℕ) (y : List ℕ) (w : Words 512 x) (v : Words 512 y). prod-sum a x y (w.long ∙ sym v.long);
    }
