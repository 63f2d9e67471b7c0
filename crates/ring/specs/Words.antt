-- Residues in lists: the coefficients of polynomials, words below q, and their sums place by place.
use Rattle.std.specs.Prelude.{◌≡◌, Bool, true, false, List, [], ◌∷◌, ℕ, ◌+◌, ◌-◌, ◌%◌, ◌<◌, ltb, length}
use Rattle.hash.specs.Lists.{pick}

-- 000, Tables 2 to 4: the modulus, 16515073 * 33292289
abbrev pub q : ℕ
q = 549824583172097

-- sum and difference modulo q
unfoldable pub addq : ℕ → ℕ → ℕ
addq a b = (a + b) % q

unfoldable pub subq : ℕ → ℕ → ℕ
subq a b = (a + (q - b)) % q

-- each element of xs that has a partner in ys becomes f of the two; the others stay, so that the length is that of xs
unfoldable pub zip_to : (ℕ → ℕ → ℕ) → List ℕ → List ℕ → List ℕ
zip_to f [] ys = []
zip_to f (x ∷ xs) [] = x ∷ xs
zip_to f (x ∷ xs) (y ∷ ys) = f x y ∷ zip_to f xs ys

-- sum and difference of polynomials, of sharings, of any two lists of words
abbrev pub add_w : List ℕ → List ℕ → List ℕ
add_w xs ys = zip_to addq xs ys

abbrev pub sub_w : List ℕ → List ℕ → List ℕ
sub_w xs ys = zip_to subq xs ys

-- each element is below p
abbrev pub Below : ℕ → List ℕ → Type 0
Below p [] = Unit {0}
Below p (x ∷ xs) = (x < p) × Below p xs

-- .. as a test
unfoldable pub all_below : ℕ → List ℕ → Bool
all_below p [] = true
all_below p (x ∷ xs) = pick (ltb x p) (all_below p xs) false

-- n residues modulo p; n words below q
pub record Residues (p n : ℕ) (xs : List ℕ) : Type 0 where
  pub long : length xs ≡ n
  pub low : Below p xs

abbrev pub Words : ℕ → List ℕ → Type 0
Words n xs = Residues q n xs

-- a map of lists of w words to lists of v words that keeps sums
pub record Linear (w v : ℕ) (F : List ℕ → List ℕ) : Type 0 where
  pub words : (xs : List ℕ) → Words w xs → Words v (F xs)
  pub adds : (xs ys : List ℕ) → Words w xs → Words w ys → F (add_w xs ys) ≡ add_w (F xs) (F ys)
