-- The worked instances P1 to P12 of paper 01 as one theorem, and its limits as another.
use mathlib.Core.Path.{◌≡◌, refl, ap}
use mathlib.Core.Bool.{Bool}
use mathlib.Core.List.{List, ◌∷◌}
use Prim.Native.Nat.{ℕ, ◌-◌, ◌≤◌, ◌<◌}
use native.Mathlib.Omega.{arith}
use borrow.Author.Tests.{le-leb, lt-leb}
use lib.Dec.{lit<}
use lib.ListN.{length, get_or, drop}
use Rattle.hash.specs.declared.params.Params.{Params}
use Rattle.hash.proofs.Worked.{p11-small, p11-large}
use Rattle.ring.specs.Words.{q, all_below}
use Rattle.ring.proofs.Worked.{p1, p2, p3, p4, p5-below, p5-from, p6-below, p6-from, p7-below, p7-from, p8-below, p8-from, p9}
use Rattle.sharing.proofs.Worked.{p10-total, p12-1, p12-2, p12-32}
use Rattle.signature.specs.Checks.{first_no}
use Rattle.signature.specs.Keys.{vk_vector, full_share}
use Rattle.theorems.specs.Instances.{Instances, Limits}
use Rattle.ring.proofs.Checks.{entries-yes, entry-no}

pub instances : Instances
instances =
    record {
      p1 = p1;
      p2 = p2;
      p3 = p3;
      p4 = p4;
      p5 = (p5-below, p5-from);
      p6 = (p6-below, p6-from);
      p7 = (p7-below, p7-from);
      p8 = (p8-below, p8-from);
      p9 = p9;
      p10 = p10-total;
      p11-128 = p11-small;
      p11-256 = p11-large;
      p12-1 = p12-1;
      p12-2 = p12-2;
      p12-32 = p12-32;
    }

-- check n of a list of numbers below m
low : (n m : ℕ) (xs : List ℕ) (rest : List (ℕ × Bool)) → 0 < m → ((i : ℕ) → get_or xs i 0 ≤ m - 1) → first_no ((n, all_below m xs) ∷ rest) ≡ first_no rest
low n m xs rest z h = ap (λ (b : Bool). first_no ((n, b) ∷ rest)) (entries-yes m xs (λ (i : ℕ). omega (arith, h i)))

not_low : (n m : ℕ) (xs : List ℕ) (i : ℕ) (rest : List (ℕ × Bool)) → 0 < m → get_or xs i 0 ≡ m → first_no ((n, all_below m xs) ∷ rest) ≡ n
not_low n m xs i rest z e = ap (λ (b : Bool). first_no ((n, b) ∷ rest)) (entry-no m xs i z e)

pub limits : Limits
limits =
    record {
      message-4096 = λ (m : List ℕ) (rest : List (ℕ × Bool)) (e : length m ≡ 4096).
          ap (λ (b : Bool). first_no ((9, b) ∷ rest)) (le-leb (length m) 4096 (omega (arith, e)));
      message-4097 = λ (m : List ℕ) (rest : List (ℕ × Bool)) (e : length m ≡ 4097).
          ap (λ (b : Bool). first_no ((9, b) ∷ rest)) (lt-leb (length m) 4096 (omega (arith, e)));
      attempts-0 = λ (rest : List (ℕ × Bool)). refl;
      attempts-17 = λ (rest : List (ℕ × Bool)). refl;
      coefficient-124 = λ (p : Params) (key : List ℕ) (rest : List (ℕ × Bool)) h. low 4 125 (vk_vector p key) rest (lit< tt) h;
      coefficient-125 = λ (p : Params) (key : List ℕ) (i : ℕ) (rest : List (ℕ × Bool)) e. not_low 4 125 (vk_vector p key) i rest (lit< tt) e;
      word_below = λ (words : List ℕ) (rest : List (ℕ × Bool)) h. low 5 q words rest (lit< tt) h;
      word-q = λ (words : List ℕ) (i : ℕ) (rest : List (ℕ × Bool)) e. not_low 5 q words i rest (lit< tt) e;
      full-below = λ (p : Params) (key : List ℕ) (rest : List (ℕ × Bool)) h. low 5 q (full_share p (drop p.vk_bytes key)) rest (lit< tt) h;
      full-q = λ (p : Params) (key : List ℕ) (i : ℕ) (rest : List (ℕ × Bool)) e. not_low 5 q (full_share p (drop p.vk_bytes key)) i rest (lit< tt) e;
    }
