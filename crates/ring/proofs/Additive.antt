-- Products and values modulo q keep sums.
use mathlib.Core.Path.{◌≡◌, refl, ap, sym, ◌∙◌}
use mathlib.Core.List.{List, [], ◌∷◌, ◌++◌}
use Prim.Native.Nat.{ℕ, zero, suc, ◌+◌, ◌*◌, ◌%◌, ◌<◌}
use native.Mathlib.Omega.{arith}
use lib.Dec.{lit<}
use lib.ListN.{length}
use Rattle.hash.specs.Lists.{table, zeros}
use Rattle.hash.proofs.Table.{table_none, table-next, length-table}
use Rattle.ring.specs.Words.{q, addq, zip_to, add_w}
use Rattle.ring.specs.Poly.{eval, map2, neg, last_of, shift, mulx, prod}
use Rattle.ring.proofs.Cong.{Eqv, ≈refl, ≈sym, ≈trans, ≈eq, ≈mod, ≈kit, ≈unique, neg-add}
use Rattle.ring.proofs.Sums.{zip-append, length-zip, words-zeros, add-zero-left}
use Rattle.ring.proofs.Eval.{length-prod}

-- ---- values

pub eval-sum : (f h : List ℕ) (r : ℕ) → length f ≡ length h → Eqv q (eval (add_w f h) r) (eval f r + eval h r)
unfolding zip_to addq
eval-sum [] [] r e = ≈refl
eval-sum [] (y ∷ h) r e = absurd (omega arith)
eval-sum (x ∷ f) [] r e = absurd (omega arith)
eval-sum (x ∷ f) (y ∷ h) r e = grw (≈kit, ≈mod {p = q} (x + y), eval-sum f h r (omega arith)) (≈eq (omega arith))

pub zip-table : (k : ℕ → ℕ → ℕ) (f h : ℕ → ℕ) (n : ℕ) → table (λ (i : ℕ). k (f i) (h i)) n ≡ zip_to k (table f n) (table h n)
unfolding zip_to
zip-table k f h zero = rw (table_none, table_none)
zip-table k f h (suc n) =
    table-next (λ (i : ℕ). k (f i) (h i)) n
    ∙ ap (λ (t : List ℕ). t ++ (k (f n) (h n) ∷ [])) (zip-table k f h n)
    ∙ sym (zip-append k (table f n) (f n ∷ []) (table h n) (h n ∷ []) (length-table f n ∙ sym (length-table h n)))
    ∙ cc (table-next f n, table-next h n)

-- ---- the product of the ring

-- one place of it
place-sum : (a x y c c1 c2 : ℕ) → Eqv q c (c1 + c2) → (a * addq x y + c) % q ≡ addq ((a * x + c1) % q) ((a * y + c2) % q)
unfolding addq
place-sum a x y c c1 c2 e =
    let h : Eqv q (a * ((x + y) % q) + c) ((a * x + c1) % q + (a * y + c2) % q) =
    grw (≈kit, ≈mod {p = q} (x + y), e) (≈sym (grw (≈kit, ≈mod {p = q} (a * x + c1), ≈mod {p = q} (a * y + c2)) (≈eq (omega arith)))) in
    h.same

sum_is : (x y : ℕ) → Eqv q (addq x y) (x + y)
unfolding addq
sum_is x y = ≈mod (x + y)

last_sum : (c c1 c2 : ℕ) (u w : List ℕ) → length u ≡ length w → Eqv q c (c1 + c2) → Eqv q (last_of c (add_w u w)) (last_of c1 u + last_of c2 w)
unfolding zip_to
last_sum c c1 c2 [] [] l e = e
last_sum c c1 c2 [] (y ∷ ys) l e = absurd (omega arith)
last_sum c c1 c2 (x ∷ xs) [] l e = absurd (omega arith)
last_sum c c1 c2 (x ∷ xs) (y ∷ ys) l e = last_sum (addq x y) x y xs ys (omega arith) (sum_is x y)

neg_sum : (c c1 c2 : ℕ) → Eqv q c (c1 + c2) → Eqv q (neg q c) (neg q c1 + neg q c2)
neg_sum c c1 c2 e =
    let pos : 0 < q = lit< tt in
    let h : Eqv q (neg q c1 + neg q c2 + (c1 + c2)) 0 =
    ≈trans {b = (neg q c1 + c1) + (neg q c2 + c2)} (≈eq (omega arith)) (grw (≈kit, neg-add pos c1, neg-add pos c2) ≈refl) in
    ≈unique (neg q c) (neg q c1 + neg q c2) c (neg-add pos c)
    (≈trans {b = neg q c1 + neg q c2 + (c1 + c2)} (grw (≈kit, e) ≈refl) h)

step_sum : (a c c1 c2 : ℕ) (x y u w : List ℕ) → length x ≡ length y → length u ≡ length x → length w ≡ length x → Eqv q c (c1 + c2)
    → map2 (λ (x : ℕ) (y : ℕ). (a * x + y) % q) (add_w x y) (shift c (add_w u w))
    ≡ add_w (map2 (λ (x : ℕ) (y : ℕ). (a * x + y) % q) x (shift c1 u)) (map2 (λ (x : ℕ) (y : ℕ). (a * x + y) % q) y (shift c2 w))
unfolding zip_to
step_sum a c c1 c2 [] y u w l m n e = refl
step_sum a c c1 c2 (x ∷ xs) [] u w l m n e = absurd (omega arith)
step_sum a c c1 c2 (x ∷ xs) (y ∷ ys) [] w l m n e = absurd (omega arith)
step_sum a c c1 c2 (x ∷ xs) (y ∷ ys) (r ∷ rs) [] l m n e = absurd (omega arith)
step_sum a c c1 c2 (x ∷ xs) (y ∷ ys) (r ∷ rs) (s ∷ ss) l m n e =
    cc (place-sum a x y c c1 c2 e, step_sum a (addq r s) r s xs ys rs ss (omega arith) (omega arith) (omega arith) (sum_is r s))

pub prod-sum : (f x y : List ℕ) → length x ≡ length y → prod q f (add_w x y) ≡ add_w (prod q f x) (prod q f y)
prod-sum [] x y l =
    ap zeros (length-zip addq x y)
    ∙ sym (add-zero-left (zeros (length x)) (words-zeros (length x)))
    ∙ ap (λ (n : ℕ). add_w (zeros (length x)) (zeros n)) l
prod-sum (a ∷ f) x y l =
    let u : List ℕ = prod q f x in
    let w : List ℕ = prod q f y in
    let lu : length u ≡ length x = length-prod q f x in
    let lw : length w ≡ length x = length-prod q f y ∙ sym l in
    ap (λ (t : List ℕ). map2 (λ (x : ℕ) (y : ℕ). (a * x + y) % q) (add_w x y) (mulx q t)) (prod-sum f x y l)
    ∙ step_sum a (neg q (last_of 0 (add_w u w))) (neg q (last_of 0 u)) (neg q (last_of 0 w)) x y u w l lu lw
    (neg_sum (last_of 0 (add_w u w)) (last_of 0 u) (last_of 0 w) (last_sum 0 0 0 u w (lu ∙ sym lw) ≈refl))
