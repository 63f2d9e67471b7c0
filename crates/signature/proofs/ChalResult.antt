-- Laws of what Algorithms 9 and 10 give: the polynomial's length, weight and coefficients, the hash's length and bytes, and the sampler's answers.
use mathlib.Core.Path.{◌≡◌, refl, sym, ap, ◌∙◌}
use mathlib.Core.Bool.{Bool, true, false}
use mathlib.Core.List.{List, [], ◌∷◌, ◌++◌}
use mathlib.Core.Option.{some, none}
use Prim.Native.Nat.{ℕ, zero, suc, ◌/◌, ◌%◌, ◌≤◌}
use native.Mathlib.Omega.{arith}
use borrow.Author.Tests.{eq-eqb, ne_eqb, eqb-true}
use lib.Dec.{eqb}
use lib.IntN.{ℤ, pos, negsuc, nat_abs}
use lib.ListN.{length, get_or, set, replicate, length-set, length-replicate}
use Rattle.hash.specs.Lists.{Bytes, pick}
use Rattle.hash.specs.Params.{lookup_of, refusal_of}
use Rattle.hash.specs.Refusal.{number_of}
use Rattle.signature.proofs.Verified.{never-shares}
use Rattle.hash.specs.Shake.{shake256}
use Rattle.hash.specs.declared.params.Edition.{Edition}
use Rattle.hash.specs.declared.params.Params.{Params}
use Rattle.std.specs.Prelude.{Result, Ok, Err, Some, None}
use Rattle.hash.specs.declared.params.Unknown.{Unknown}
use Rattle.hash.proofs.Output.{output-length, output-bytes}
use Rattle.hash.proofs.Rows.{found}
use Rattle.ring.proofs.Filled.{some-filled, none_filled, held-some, held-none}
use Rattle.signature.specs.Challenge.{chal_draw, place, minus_bit, sign, nz, weight, step, run, chal_draws, challenge, chal_poly, ordered, chal_hash, sampled_challenge, headed}
use Rattle.ring.specs.UniformSteps.{option_of}

-- ---- the polynomial

step-length : (e : Edition) (c : List ℤ) (d : ℕ) → length (step e c d) ≡ length c
unfolding step
step-length e c d = go (eqb (nz (get_or c (place d) (pos 0))) 0)
  where
    go : (b : Bool) → length (pick b (set c (place d) (sign e d)) c) ≡ length c
    go true = length-set c (place d) (sign e d)
    go false = refl

pub run_length : (e : Edition) (s : List ℕ) (w n : ℕ) → length (run e s w n) ≡ 512
unfolding run
run_length e s w zero = length-replicate 512 (pos 0)
run_length e s w (suc n) = go (eqb (weight (run e s w n)) w) (run_length e s w n)
  where
    go : (b : Bool) → length (run e s w n) ≡ 512 → length (pick b (run e s w n) (step e (run e s w n) (chal_draw s n))) ≡ 512
    go true h = h
    go false h = step-length e (run e s w n) (chal_draw s n) ∙ h

-- coefficients -1, 0 and 1
abbrev Small : List ℤ → Type 0
Small c = (i : ℕ) → nat_abs (get_or c i (pos 0)) ≤ 1

none-small : (n : ℕ) → Small (replicate n (pos 0))
none-small zero i = omega arith
none-small (suc n) zero = omega arith
none-small (suc n) (suc i) = none-small n i

set-small : (c : List ℤ) (p : ℕ) (z : ℤ) → nat_abs z ≤ 1 → Small c → Small (set c p z)
set-small [] p z h f i = f i
set-small (x ∷ c) zero z h f zero = h
set-small (x ∷ c) zero z h f (suc i) = f (suc i)
set-small (x ∷ c) (suc p) z h f zero = f zero
set-small (x ∷ c) (suc p) z h f (suc i) = set-small c p z h (λ j. f (suc j)) i

sign_small : (e : Edition) (d : ℕ) → nat_abs (sign e d) ≤ 1
sign_small e d = go (eqb (d % 2) (minus_bit e))
  where
    go : (b : Bool) → nat_abs (pick b (negsuc 0) (pos 1)) ≤ 1
    go true = omega arith
    go false = omega arith

step_small : (e : Edition) (c : List ℤ) (d : ℕ) → Small c → Small (step e c d)
unfolding step
step_small e c d h = go (eqb (nz (get_or c (place d) (pos 0))) 0)
  where
    go : (b : Bool) → Small (pick b (set c (place d) (sign e d)) c)
    go true = set-small c (place d) (sign e d) (sign_small e d) h
    go false = h

pub run_small : (e : Edition) (s : List ℕ) (w n i : ℕ) → nat_abs (get_or (run e s w n) i (pos 0)) ≤ 1
unfolding run
run_small e s w zero = none-small 512
run_small e s w (suc n) = go (eqb (weight (run e s w n)) w) (run_small e s w n)
  where
    go : (b : Bool) → Small (run e s w n) → Small (pick b (run e s w n) (step e (run e s w n) (chal_draw s n)))
    go true h = h
    go false h = step_small e (run e s w n) (chal_draw s n) h

-- the run that a challenge is
pub challenge-run : (e : Edition) (w : ℕ) (s : List ℕ) (c : List ℤ) → challenge e w s ≡ some c
    → (c ≡ run e s w (chal_draws (length s))) × (weight c ≡ w)
unfolding challenge
challenge-run e w s c = go (eqb (weight (run e s w (chal_draws (length s)))) w) (eqb-true (weight (run e s w (chal_draws (length s)))) w)
  where
    go : (b : Bool) → (b ≡ true → weight (run e s w (chal_draws (length s))) ≡ w) → pick b (some (run e s w (chal_draws (length s)))) none ≡ some c
        → (c ≡ run e s w (chal_draws (length s))) × (weight c ≡ w)
    go true f h = let x : c ≡ run e s w (chal_draws (length s)) = cc in (x, ap weight x ∙ f refl)
    go false f h = let z : ◌≡◌ {A = ℕ} 0 1 = cc in absurd (omega arith)

module _ (e : Edition) (w : ℕ) (s : List ℕ) (c : List ℤ) (is : challenge e w s ≡ some c) where
  pub challenge-weight : weight c ≡ w
  challenge-weight = (challenge-run e w s c is).1

  pub challenge-length : length c ≡ 512
  challenge-length = ap length (challenge-run e w s c is).0 ∙ run_length e s w (chal_draws (length s))

  pub challenge-small : (i : ℕ) → nat_abs (get_or c i (pos 0)) ≤ 1
  challenge-small i = rw (challenge-run e w s c is).0 (run_small e s w (chal_draws (length s)) i)

-- ---- of a record's edition and weight

pub chal_poly-is : (p : Params) (hash : List ℕ) → challenge p.edition p.omega (shake256 (headed 99 p.omega ++ hash) 2176) ≡ chal_poly p hash
unfolding chal_poly
chal_poly-is p hash = refl

module _ (p : Params) (hash : List ℕ) (c : List ℤ) (is : chal_poly p hash ≡ some c) where
  pub chal_poly-weight : weight c ≡ p.omega
  chal_poly-weight = challenge-weight p.edition p.omega (shake256 (headed 99 p.omega ++ hash) 2176) c (chal_poly-is p hash ∙ is)

  pub chal_poly-length : length c ≡ 512
  chal_poly-length = challenge-length p.edition p.omega (shake256 (headed 99 p.omega ++ hash) 2176) c (chal_poly-is p hash ∙ is)

  pub chal_poly-small : (i : ℕ) → nat_abs (get_or c i (pos 0)) ≤ 1
  chal_poly-small = challenge-small p.edition p.omega (shake256 (headed 99 p.omega ++ hash) 2176) c (chal_poly-is p hash ∙ is)

module _ (p : Params) (w mu : List ℕ) where
  pub chal_hash-length : length (chal_hash p w mu) ≡ p.kappa / 4
  unfolding chal_hash
  chal_hash-length = output-length (headed 104 p.k ++ ordered p.edition w mu) (p.kappa / 4)

  pub chal_hash-bytes : Bytes (chal_hash p w mu)
  unfolding chal_hash
  chal_hash-bytes = output-bytes (headed 104 p.k ++ ordered p.edition w mu) (p.kappa / 4)

-- ---- the answers

module _ (set : ℕ) (s : List ℕ) (out : List ℤ) (x : Result Params Unknown) (is : x ≡ lookup_of set 1 Edition.Printed) where
  pub no-set : (u : Unknown) → x ≡ Err u → (number_of (refusal_of u), out) ≡ sampled_challenge set s out
  unfolding sampled_challenge
  no-set Unknown.Set h = rw (← is, h)
  no-set Unknown.Shares h = absurd (never-shares Edition.Printed set (sym is ∙ h))

  module _ (p : Params) (known : x ≡ Ok p) where
    pub omega-low : p.omega ≤ 44
    omega-low = (found set 1 Edition.Printed p (sym is ∙ known)).rule.weight-low

    pub no_room : (length out ≡ 512 → ⊥) → (8, out) ≡ sampled_challenge set s out
    unfolding sampled_challenge
    no_room h = rw (← is, known, ne_eqb _ _ h)

    module _ (room : length out ≡ 512) where
      pub sampled-none : None ≡ option_of (challenge p.edition p.omega s) → (11, out) ≡ sampled_challenge set s out
      unfolding sampled_challenge
      sampled-none h = rw (← is, known, eq-eqb _ _ room, held-none _ h, none_filled {A = ℤ} none refl)

      module _ (c : List ℤ) (h : Some c ≡ option_of (challenge p.edition p.omega s)) where
        pub sampled-some : (0, c) ≡ sampled_challenge set s out
        unfolding sampled_challenge
        sampled-some = rw (← is, known, eq-eqb _ _ room, held-some _ c h, some-filled (some c) c refl)

        pub sampled-length : length out ≡ length c
        sampled-length = room ∙ sym (challenge-length p.edition p.omega s c (held-some _ c h))
