-- Polynomials as lists of their coefficients, the lowest first; the product in Z_p[x] / (x^n + 1) (000, 2.2).
use Rattle.std.specs.Prelude.{List, [], ◌∷◌, ℕ, ◌+◌, ◌*◌, ◌-◌, ◌%◌, length}
use Rattle.hash.specs.Lists.{zeros}

-- the value at z, not reduced
abbrev pub eval : List ℕ → ℕ → ℕ
eval [] z = 0
eval (a ∷ f) z = a + z * eval f z

-- f at each element
unfoldable pub map_n : (ℕ → ℕ) → List ℕ → List ℕ
map_n f [] = []
map_n f (x ∷ xs) = f x ∷ map_n f xs

-- h at the two entries of each place, as far as both lists go
abbrev pub map2 : (ℕ → ℕ → ℕ) → List ℕ → List ℕ → List ℕ
map2 h [] ys = []
map2 h (x ∷ xs) [] = []
map2 h (x ∷ xs) (y ∷ ys) = h x y ∷ map2 h xs ys

-- minus x modulo p
abbrev pub neg : ℕ → ℕ → ℕ
neg p x = p - x % p

-- the last of c ∷ h; the list moved one place up, with c at its front and its last entry left out
abbrev pub last_of : ℕ → List ℕ → ℕ
last_of c [] = c
last_of c (a ∷ h) = last_of a h

abbrev pub shift : ℕ → List ℕ → List ℕ
shift c [] = []
shift c (a ∷ h) = c ∷ shift a h

-- x times h, where x^n = -1
abbrev pub mulx : ℕ → List ℕ → List ℕ
mulx p h = shift (neg p (last_of 0 h)) h

-- the product of f and g modulo p and x^n + 1, n the length of g: a g + x (f g) for a + x f
abbrev pub prod : ℕ → List ℕ → List ℕ → List ℕ
prod p [] g = zeros (length g)
prod p (a ∷ f) g = map2 (λ (x : ℕ) (y : ℕ). (a * x + y) % p) g (mulx p (prod p f g))
