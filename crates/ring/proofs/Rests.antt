-- The transform, its inverse and both products modulo q have the rests that those modulo the primes give.
use mathlib.Core.Path.{◌≡◌, refl, ap, sym, ◌∙◌}
use mathlib.Core.List.{List}
use Prim.Native.Nat.{ℕ, ◌+◌, ◌*◌, ◌%◌, ◌^◌, ◌<◌}
use lib.Dec.{lit<, lit≤}
use lib.ListN.{length}
use Rattle.hash.specs.Lists.{table}
use Rattle.hash.proofs.Paste.{table_same}
use Rattle.ring.specs.declared.prime.Prime.{Prime}
use Rattle.ring.specs.Words.{q, Residues}
use Rattle.ring.specs.Poly.{eval, map2, prod}
use Rattle.ring.specs.Residue.{rev, prime, gen, over512, zeta, timesp, mods, fwd, bwd, back_one}
use Rattle.ring.specs.Transform.{g, root, ntt, intt, pointwise, mul}
use Rattle.ring.proofs.Cong.{Eqv, ≈sym, ≈trans, ≈mod, ≈pow}
use Rattle.ring.proofs.Eval.{eval-rests}
use Rattle.ring.proofs.Mapped.{map-table}
use Rattle.ring.proofs.Places.{residues-mods, residues-scale}
use Rattle.ring.proofs.Values.{evals, evals-table, fwd-eval, fwd-prod}
use Rattle.ring.proofs.Inverse.{residues-bwd, undone, onto}
use Rattle.ring.proofs.Tables.{prime-pos, roots-at, top-at, mirror-top, over-at, point, leaves}
use Rattle.ring.proofs.Crt.{each-prime, mods-times, mods-prod, mods-crt-first, mods-crt-second}

-- ---- modulo one prime, 512 residues

module _ (s : Prime) (f : List ℕ) (r : Residues (prime s) 512 f) where
  pub back-residues : Residues (prime s) 512 (back_one s f)
  unfolding back_one
  back-residues =
      residues-scale (prime-pos s) (over512 s) (bwd (prime s) (zeta s) 9 1 f) (residues-bwd (prime-pos s) (zeta s) 9 1 f r).long

  pub back-forth : back_one s (fwd (prime s) (zeta s) 9 1 f) ≡ f
  unfolding back_one
  back-forth = undone (roots-at s) 9 f r (lit≤ tt) mirror-top (over512 s) (over-at s)

  pub forth-back : fwd (prime s) (zeta s) 9 1 (back_one s f) ≡ f
  unfolding back_one
  forth-back = onto (roots-at s) 9 f r (lit≤ tt) mirror-top (over512 s) (over-at s)

  -- the values at the points
  forth-values : fwd (prime s) (zeta s) 9 1 f ≡ table (λ (i : ℕ). eval f (point s i) % prime s) 512
  forth-values =
      fwd-eval (roots-at s) 9 1 f r (lit< tt) (lit≤ tt) ∙ ap (evals (prime s) f) (leaves s) ∙ evals-table (prime s) f (point s) 512

  pub forth-prod : (h : List ℕ) → Residues (prime s) 512 h
      → fwd (prime s) (zeta s) 9 1 (prod (prime s) f h) ≡ map2 (timesp (prime s)) (fwd (prime s) (zeta s) 9 1 f) (fwd (prime s) (zeta s) 9 1 h)
  forth-prod h t = fwd-prod (roots-at s) 9 f h r t (lit≤ tt) (top-at s)

-- ---- rests of those modulo q

g-rest : (s : Prime) → Eqv (prime s) g (gen s)
g-rest Prime.First = record { same = refl }
g-rest Prime.Second = record { same = refl }

root-rest : (s : Prime) (i : ℕ) → Eqv (prime s) (root i) (point s i)
unfolding root point
root-rest s i =
    ≈trans (each-prime s (≈mod (g ^ (2 * rev 9 i + 1)))) (≈trans (≈pow (g-rest s) (2 * rev 9 i + 1)) (≈sym (≈mod (gen s ^ (2 * rev 9 i + 1)))))

pub ntt-rest : (s : Prime) (f : List ℕ) → length f ≡ 512 → mods (prime s) (ntt f) ≡ fwd (prime s) (zeta s) 9 1 (mods (prime s) f)
unfolding ntt
ntt-rest s f e =
    map-table (λ (x : ℕ). x % prime s) (λ (i : ℕ). eval f (root i) % q) 512
    ∙ table_same (λ (i : ℕ). eval f (root i) % q % prime s) (λ (i : ℕ). eval (mods (prime s) f) (point s i) % prime s) 512
    (λ (i : ℕ) (l : i < 512). (value i).same)
    ∙ sym (forth-values s (mods (prime s) f) (residues-mods (prime-pos s) f e))
  where
    value : (i : ℕ) → Eqv (prime s) (eval f (root i) % q) (eval (mods (prime s) f) (point s i))
    value i = ≈trans (each-prime s (≈mod (eval f (root i)))) (eval-rests f (root i) (point s i) (root-rest s i))

-- the inverse modulo each prime
pub back-rest : (s : Prime) (x : List ℕ) → length x ≡ 512 → Residues (prime s) 512 (back_one s (mods (prime s) x))
back-rest s x e = back-residues s (mods (prime s) x) (residues-mods (prime-pos s) x e)

pub intt-rest : (s : Prime) (x : List ℕ) → length x ≡ 512 → mods (prime s) (intt x) ≡ back_one s (mods (prime s) x)
unfolding intt
intt-rest Prime.First x e =
    mods-crt-first (back_one Prime.Second (mods (prime Prime.Second) x)) (back_one Prime.First (mods (prime Prime.First) x))
    ((back-rest Prime.Second x e).long ∙ sym (back-rest Prime.First x e).long) (back-rest Prime.First x e).low
intt-rest Prime.Second x e =
    mods-crt-second (back_one Prime.Second (mods (prime Prime.Second) x)) (back_one Prime.First (mods (prime Prime.First) x))
    ((back-rest Prime.Second x e).long ∙ sym (back-rest Prime.First x e).long) (back-rest Prime.Second x e).low (back-rest Prime.First x e).low

pub pointwise-rest : (s : Prime) (a b : List ℕ) → mods (prime s) (pointwise a b) ≡ map2 (timesp (prime s)) (mods (prime s) a) (mods (prime s) b)
unfolding pointwise
pointwise-rest s a b = mods-times s a b

pub mul-rest : (s : Prime) (f h : List ℕ) → mods (prime s) (mul f h) ≡ prod (prime s) (mods (prime s) f) (mods (prime s) h)
unfolding mul
mul-rest s f h = mods-prod s f h
