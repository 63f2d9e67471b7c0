-- CheckBounds settled early answers what Algorithm 4 answers by full sums, and reads the least that decides (02, #112). For any whole numbers.
use Prim.Native.Nat.{ℕ, suc, ◌+◌, ◌-◌, ◌*◌, ◌^◌, ◌≤◌, ◌<◌}
use mathlib.Core.Path.{◌≡◌, refl, sym, ap, subst, ◌∙◌}
use mathlib.Core.Bool.{Bool, true, false}
use mathlib.Core.List.{List, []}
use native.Mathlib.Omega.{arith}
use lib.Dec.{leb}
use lib.IntN.{ℤ}
use lib.ListN.{length, take}
use lib.Seq.{take_all}
use borrow.Author.Tests.{leb-true, leb-false}
use Rattle.hash.specs.declared.params.Params.{Params}
use Rattle.ring.proofs.Checks.{absurd-bool}
use Rattle.signature.specs.Bounds.{within, squares, bounds_of}
use Rattle.signature.specs.Decision.{standing_of, measured, decided, bounds_of_first}
use Rattle.signature.specs.declared.bounds.Decision.{Decision}
use Rattle.signature.specs.declared.bounds.Standing.{Standing}
use Rattle.signature.proofs.Norms.{InBounds, squares-take, bounds-yes, bounds-no, in-bounds-take}
use Rattle.signature.proofs.Measured.{measured-stays, Fit, Stopped, measured-yes, measured-no}

-- the answer is that of the full sums, and the number the least that decides
pub record Least (limit most all : ℕ) (h z : List ℤ) (d : Decision) : Type 0 where
  pub full : d.passed ≡ bounds_of limit most all h z
  pub before : (n : ℕ) → n < d.coefficients → bounds_of_first n limit most all h z ≡ true
  pub no : d.passed ≡ false → bounds_of_first d.coefficients limit most all h z ≡ false
  pub yes : d.passed ≡ true → d.coefficients ≡ length h + length z

module _ (limit most all : ℕ) (h z : List ℤ) where
  -- the first n coefficients, n up to those of the hint, and behind it
  in-hint : (n : ℕ) → n ≤ length h → bounds_of_first n limit most all h z ≡ bounds_of limit most all (take n h) []
  in-hint n k = let e : n - length h ≡ 0 = omega arith in
      ap (λ (m : ℕ). bounds_of limit most all (take n h) (take m z)) e

  in-response : (m : ℕ) → bounds_of_first (length h + m) limit most all h z ≡ bounds_of limit most all h (take m z)
  in-response m = let e : length h + m - length h ≡ m = omega arith in
      ap (λ (n : ℕ). bounds_of limit most all (take (length h + m) h) (take n z)) e
      ∙ ap (λ (g : List ℤ). bounds_of limit most all g (take m z)) (take_all (length h + m) h (omega arith))

  hint-in-bounds : (g : List ℤ) → Fit limit (2 ^ 24) 0 all 0 g → InBounds limit most all g []
  unfolding within squares
  hint-in-bounds g f = (f.0, refl, omega (arith, f.1))

  in-bounds-hint : (g y : List ℤ) → InBounds limit most all g y → Fit limit (2 ^ 24) 0 all 0 g
  in-bounds-hint g y b = (b.0, omega (arith, b.2))

  decided-in-hint : (r : Standing) → Stopped limit (2 ^ 24) 0 all h 0 0 r → Least limit most all h z (record { passed = false; coefficients = r.coefficients })
  decided-in-hint r t =
      record {
        full = sym (bounds-no limit most all h z (λ b. t.over (in-bounds-hint _ _ (in-bounds-take limit most all h z (suc t.place) 0 b))));
        before =
            λ n k.
            in-hint n (omega (arith, k, t.count, t.inside))
            ∙ bounds-yes limit most all (take n h) [] (hint-in-bounds (take n h) (t.before n (omega (arith, k, t.count))));
        no =
            λ e. let c : r.coefficients ≡ suc t.place = omega (arith, t.count) in
            ap (λ (n : ℕ). bounds_of_first n limit most all h z) c ∙ in-hint (suc t.place) t.inside
            ∙ bounds-no limit most all (take (suc t.place) h) [] (λ b. t.over (in-bounds-hint _ _ b));
        yes = λ e. absurd-bool (sym e);
      }

  module _ (f : Fit limit (2 ^ 24) 0 all 0 h) where
    response-in-bounds : (y : List ℤ) → Fit most 1 32 all (2 ^ 24 * squares 0 h) y → InBounds limit most all h y
    response-in-bounds y g = (f.0, g.0, omega (arith, g.1))

    in-bounds-response : (y : List ℤ) → InBounds limit most all h y → Fit most 1 32 all (2 ^ 24 * squares 0 h) y
    in-bounds-response y b = (b.1, omega (arith, b.2))

    decided-in-response : (r : Standing) → Stopped most 1 32 all z (length h) (2 ^ 24 * squares 0 h) r
        → Least limit most all h z (record { passed = false; coefficients = r.coefficients })
    decided-in-response r t =
        record {
          full = sym (bounds-no limit most all h z (λ b. t.over (in-bounds-response _ (in-bounds-later b))));
          before = λ n k. go n (leb n (length h)) refl k;
          no =
              λ e.
              ap (λ (n : ℕ). bounds_of_first n limit most all h z) t.count ∙ in-response (suc t.place)
              ∙ bounds-no limit most all h (take (suc t.place) z) (λ b. t.over (in-bounds-response _ b));
          yes = λ e. absurd-bool (sym e);
        }
      where
        in-bounds-later : InBounds limit most all h z → InBounds limit most all h (take (suc t.place) z)
        in-bounds-later b = (b.0, (in-bounds-take limit most all h z 0 (suc t.place) b).1, omega (arith, b.2, squares-take 32 z (suc t.place)))

        go : (n : ℕ) (b : Bool) → leb n (length h) ≡ b → n < r.coefficients → bounds_of_first n limit most all h z ≡ true
        go n true e k = in-hint n (leb-true n (length h) e) ∙ bounds-yes limit most all (take n h) [] (in-bounds-take limit most all h [] n 0 (hint-in-bounds h f))
        go n false e k =
            let l = leb-false n (length h) e in
            let g : n ≡ length h + (n - length h) = omega arith in
            ap (λ (m : ℕ). bounds_of_first m limit most all h z) g ∙ in-response (n - length h)
            ∙ bounds-yes limit most all h (take (n - length h) z) (response-in-bounds _ (t.before (n - length h) (omega (arith, k, t.count))))

    none-decided : Fit most 1 32 all (2 ^ 24 * squares 0 h) z → (n : ℕ) → n ≡ length h + length z → Least limit most all h z (record { passed = true; coefficients = n })
    none-decided g n e =
        record {
          full = sym (bounds-yes limit most all h z (response-in-bounds z g));
          before = λ m k. bounds-yes limit most all (take m h) (take (m - length h) z) (in-bounds-take limit most all h z m (m - length h) (response-in-bounds z g));
          no = λ y. absurd-bool y;
          yes = λ y. e;
        }

  -- what a standing tells is the least
  abbrev LeastOf : Standing → Type 0
  LeastOf t = Least limit most all h z (record { passed = t.passed; coefficients = t.coefficients })

  by-passed : (t : Standing) (b : Bool) → t.passed ≡ b → Least limit most all h z (record { passed = b; coefficients = t.coefficients }) → LeastOf t
  by-passed t b e k = subst (λ (c : Bool). Least limit most all h z (record { passed = c; coefficients = t.coefficients })) (sym e) k

  least-response : Fit limit (2 ^ 24) 0 all 0 h → (t : Standing) → t ≡ measured most 1 32 all (standing_of true (length h) (2 ^ 24 * squares 0 h)) z → LeastOf t
  least-response f t e = go t.passed refl
    where
      low : 2 ^ 24 * squares 0 h ≤ all
      low = omega (arith, f.1)

      go : (b : Bool) → t.passed ≡ b → LeastOf t
      go true y = let g = measured-yes most 1 32 all z (length h) (2 ^ 24 * squares 0 h) low t e y in
          by-passed t true y (none-decided f g.2 t.coefficients g.0)
      go false y = by-passed t false y (decided-in-response f t (measured-no most 1 32 all z (length h) (2 ^ 24 * squares 0 h) low t e y))

  least-hint : (t : Standing) → t ≡ measured limit (2 ^ 24) 0 all (standing_of true 0 0) h → LeastOf (measured most 1 32 all t z)
  least-hint t e = go t.passed refl
    where
      go : (b : Bool) → t.passed ≡ b → LeastOf (measured most 1 32 all t z)
      go true y = let g = measured-yes limit (2 ^ 24) 0 all h 0 0 (omega arith) t e y in
          let count : t.coefficients ≡ length h = omega (arith, g.0) in
          let sum : t.sum ≡ 2 ^ 24 * squares 0 h = omega (arith, g.1) in
          let whole : t ≡ standing_of true (length h) (2 ^ 24 * squares 0 h) =
          ap (λ (b : Bool). standing_of b t.coefficients t.sum) y ∙ ap (λ (n : ℕ). standing_of true n t.sum) count ∙ ap (standing_of true (length h)) sum in
          least-response g.2 (measured most 1 32 all t z) (ap (λ (x : Standing). measured most 1 32 all x z) whole)
      go false y = subst LeastOf (sym (measured-stays most 1 32 all t z y)) (by-passed t false y (decided-in-hint t (measured-no limit (2 ^ 24) 0 all h 0 0 (omega arith) t e y)))

  pub decided-least : Least limit most all h z (decided limit most all h z)
  unfolding decided
  decided-least = least-hint (measured limit (2 ^ 24) 0 all (standing_of true 0 0) h) refl

-- with the limits of a set and fields of its sizes, a yes has read all
pub all_read : (p : Params) (h z : List ℤ) → length h ≡ p.k * 512 → length z ≡ p.l * 512
    → (decided p.hint_limit p.binf p.b22 h z).passed ≡ true
    → (decided p.hint_limit p.binf p.b22 h z).coefficients ≡ (p.k + p.l) * 512
all_read p h z a b e = omega (arith, a, b, (decided-least p.hint_limit p.binf p.b22 h z).yes e)

-- what a caller needs: the yes or no, of equal lists too
pub decided-passed : {h h' z z' : List ℤ} (limit most all : ℕ) (d : Decision) → d ≡ decided limit most all h z → h ≡ h' → z ≡ z'
    → d.passed ≡ bounds_of limit most all h' z'
decided-passed {h} {h'} {z} {z'} limit most all d e a b =
    ap (λ (x : Decision). x.passed) e ∙ (decided-least limit most all h z).full ∙ cc (a, b)
