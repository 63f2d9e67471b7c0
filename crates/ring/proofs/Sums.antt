-- Lists of residues, and the sums and differences of words below q, place by place.
use mathlib.Core.Path.{◌≡◌, refl, sym, ap, ◌∙◌}
use mathlib.Core.Bool.{Bool, true, false}
use mathlib.Core.List.{List, [], ◌∷◌, ◌++◌}
use Prim.Native.Nat.{ℕ, zero, suc, ◌+◌, ◌-◌, ◌%◌, ◌≤◌, ◌<◌}
use native.Mathlib.Nat.{le_of_suc-le-suc, not-suc-le-zero, mod-lt, mod-eq_of_lt}
use native.Mathlib.Decide.{dec_lt}
use native.Mathlib.Omega.{arith}
use borrow.Author.Tests.{ltb-true, lt-ltb}
use lib.Dec.{ltb, lit<}
use lib.ListN.{length, take, drop, get_or, set, length-append, length-drop, length-replicate}
use lib.Seq.{ext_get_or, length-take-le}
use Rattle.std.specs.Prelude.{EachIndex, IsTrue, ◌↔◌}
use Rattle.hash.specs.Lists.{pick, zeros}
use Rattle.ring.specs.Words.{q, addq, subq, zip_to, add_w, sub_w, Below, all_below, Residues, Words, Linear}

-- ---- one word

pub addq-lt : (a b : ℕ) → addq a b < q
unfolding addq
addq-lt a b = mod-lt (a + b) (lit< tt)

pub subq-lt : (a b : ℕ) → subq a b < q
unfolding subq
subq-lt a b = mod-lt (a + (q - b)) (lit< tt)

pub addq-comm : (a b : ℕ) → addq a b ≡ addq b a
unfolding addq
addq-comm a b = omega arith

pub addq-assoc : (a b c : ℕ) → addq (addq a b) c ≡ addq a (addq b c)
unfolding addq
addq-assoc a b c = omega arith

-- a sum before it is reduced, and one more
pub addq-rest : (a b : ℕ) → addq (a % q) b ≡ (a + b) % q
unfolding addq
addq-rest a b = omega arith

pub addq-zero : (a : ℕ) → a < q → addq 0 a ≡ a
unfolding addq
addq-zero a h = omega arith

pub sub-addq : (a b : ℕ) → a < q → b < q → addq (subq a b) b ≡ a
unfolding addq subq
sub-addq a b h g = omega arith

add-subq : (a b : ℕ) → a < q → b < q → subq (addq a b) b ≡ a
unfolding addq subq
add-subq a b h g = omega arith

pub addq-twice : (a : ℕ) → a < q → a ≡ addq a a → a ≡ 0
unfolding addq
addq-twice a h e = go (dec_lt (a + a) q)
  where
    go : Dec (a + a < q) → a ≡ 0
    go (yes l) = let m : (a + a) % q ≡ a + a = mod-eq_of_lt l in omega arith
    go (no l) = let m : (a + a) % q ≡ a + a - q = omega arith in omega arith

-- ---- lists below p

module _ (p : ℕ) where
  pub below_at : 0 < p → (xs : List ℕ) → Below p xs → (i : ℕ) → get_or xs i 0 < p
  below_at pos [] h i = pos
  below_at pos (x ∷ xs) h zero = h.0
  below_at pos (x ∷ xs) h (suc i) = below_at pos xs h.1 i

  pub below-take : (n : ℕ) (xs : List ℕ) → Below p xs → Below p (take n xs)
  below-take zero xs h = tt
  below-take (suc n) [] h = tt
  below-take (suc n) (x ∷ xs) h = (h.0, below-take n xs h.1)

  pub below-drop : (n : ℕ) (xs : List ℕ) → Below p xs → Below p (drop n xs)
  below-drop zero xs h = h
  below-drop (suc n) [] h = tt
  below-drop (suc n) (x ∷ xs) h = below-drop n xs h.1

  pub below-append : (xs ys : List ℕ) → Below p xs → Below p ys → Below p (xs ++ ys)
  below-append [] ys h g = g
  below-append (x ∷ xs) ys h g = (h.0, below-append xs ys h.1 g)

  pub below_set : (xs : List ℕ) (i v : ℕ) → Below p xs → v < p → Below p (set xs i v)
  below_set [] i v h l = tt
  below_set (x ∷ xs) zero v h l = (l, h.1)
  below_set (x ∷ xs) (suc i) v h l = (h.0, below_set xs i v h.1 l)

  pub below_wider : (m : ℕ) → p ≤ m → (xs : List ℕ) → Below p xs → Below m xs
  below_wider m l [] h = tt
  below_wider m l (x ∷ xs) h = (omega (arith, l, h.0), below_wider m l xs h.1)

  pub below-zeros : 0 < p → (n : ℕ) → Below p (zeros n)
  below-zeros pos zero = tt
  below-zeros pos (suc n) = (pos, below-zeros pos n)

  -- the test, and what it tells
  pub all-below : (xs : List ℕ) → all_below p xs ≡ true → Below p xs
  unfolding all_below
  all-below [] e = tt
  all-below (x ∷ xs) e = go (ltb x p) refl e (all-below xs)
    where
      go : (b : Bool) → ltb x p ≡ b → pick b (all_below p xs) false ≡ true → (all_below p xs ≡ true → Below p xs) → Below p (x ∷ xs)
      go true h k r = (ltb-true x p h, r k)
      go false h k r = let z : ◌≡◌ {A = ℕ} 0 1 = cc in absurd (omega arith)

  each-below : (xs : List ℕ) → EachIndex xs (λ k. get_or xs k 0 < p) → all_below p xs ≡ true
  unfolding all_below
  each-below [] h = refl
  each-below (x ∷ xs) h = simp (lt-ltb x p (h 0 (omega arith))) (each-below xs (λ k l. h (suc k) (omega arith)))

  below-each : (xs : List ℕ) → Below p xs → EachIndex xs (λ k. get_or xs k 0 < p)
  below-each [] h k l = absurd (omega arith)
  below-each (x ∷ xs) h zero l = h.0
  below-each (x ∷ xs) h (suc k) l = below-each xs h.1 k (omega arith)

  pub below-tested : (xs : List ℕ) (b : Bool) → (IsTrue b ↔ EachIndex xs (λ k. get_or xs k 0 < p)) → b ≡ all_below p xs
  below-tested xs true h = sym (each-below xs (h.0 refl))
  below-tested xs false h = go (all_below p xs) refl
    where
      go : (t : Bool) → all_below p xs ≡ t → false ≡ t
      go false e = refl
      go true e = h.1 (below-each xs (all-below xs e))

  pub below-zip : (f : ℕ → ℕ → ℕ) → ((a b : ℕ) → f a b < p) → (xs ys : List ℕ) → Below p xs → Below p (zip_to f xs ys)
  unfolding zip_to
  below-zip f r [] ys h = tt
  below-zip f r (x ∷ xs) [] h = h
  below-zip f r (x ∷ xs) (y ∷ ys) h = (r x y, below-zip f r xs ys h.1)

module _ {p : ℕ} where
  pub residues-append : {n m : ℕ} (xs ys : List ℕ) → Residues p n xs → Residues p m ys → Residues p (n + m) (xs ++ ys)
  residues-append xs ys h g =
      record { long = length-append xs ys ∙ cc (h.long, g.long); low = below-append p xs ys h.low g.low }

  pub residues-wider : {n : ℕ} (m : ℕ) → p ≤ m → (xs : List ℕ) → Residues p n xs → Residues m n xs
  residues-wider m l xs h = record { long = h.long; low = below_wider p m l xs h.low }

  -- the first n, and those behind them
  pub residues-take : (n m : ℕ) (xs : List ℕ) → Residues p (n + m) xs → Residues p n (take n xs)
  residues-take n m xs h =
      record { long = length-take-le n xs (omega (arith, h.long)); low = below-take p n xs h.low }

  pub residues-drop : (n m : ℕ) (xs : List ℕ) → Residues p (n + m) xs → Residues p m (drop n xs)
  residues-drop n m xs h = record { long = length-drop n xs ∙ omega (arith, h.long); low = below-drop p n xs h.low }

  -- lists of one length that are equal at every place
  pub same-residues : {n : ℕ} (xs ys : List ℕ) → Residues p n xs → Residues p n ys
      → ((i : ℕ) → i < n → get_or xs i 0 ≡ get_or ys i 0) → xs ≡ ys
  same-residues xs ys h g e =
      ext_get_or 0 xs ys (h.long ∙ sym g.long) (λ (i : ℕ) (l : i < length xs). e i (omega (arith, h.long)))

-- ---- place by place

module _ (f : ℕ → ℕ → ℕ) where
  pub zip-none : (xs : List ℕ) → zip_to f xs [] ≡ xs
  unfolding zip_to
  zip-none [] = refl
  zip-none (x ∷ xs) = refl

  pub length-zip : (xs ys : List ℕ) → length (zip_to f xs ys) ≡ length xs
  unfolding zip_to
  length-zip [] ys = refl
  length-zip (x ∷ xs) [] = refl
  length-zip (x ∷ xs) (y ∷ ys) = ap suc (length-zip xs ys)

  pub zip-at : (xs ys : List ℕ) (i : ℕ) → i < length xs → i < length ys → get_or (zip_to f xs ys) i 0 ≡ f (get_or xs i 0) (get_or ys i 0)
  unfolding zip_to
  zip-at [] ys i h g = absurd (not-suc-le-zero h)
  zip-at (x ∷ xs) [] i h g = absurd (not-suc-le-zero g)
  zip-at (x ∷ xs) (y ∷ ys) zero h g = refl
  zip-at (x ∷ xs) (y ∷ ys) (suc i) h g = zip-at xs ys i (le_of_suc-le-suc h) (le_of_suc-le-suc g)

  pub zip-drop : (n : ℕ) (xs ys : List ℕ) → drop n (zip_to f xs ys) ≡ zip_to f (drop n xs) (drop n ys)
  unfolding zip_to
  zip-drop zero xs ys = refl
  zip-drop (suc n) [] ys = refl
  zip-drop (suc n) (x ∷ xs) [] = sym (zip-none (drop n xs))
  zip-drop (suc n) (x ∷ xs) (y ∷ ys) = zip-drop n xs ys

  pub zip-take : (n : ℕ) (xs ys : List ℕ) → take n (zip_to f xs ys) ≡ zip_to f (take n xs) (take n ys)
  unfolding zip_to
  zip-take zero xs ys = refl
  zip-take (suc n) [] ys = refl
  zip-take (suc n) (x ∷ xs) [] = refl
  zip-take (suc n) (x ∷ xs) (y ∷ ys) = ap (λ (l : List ℕ). f x y ∷ l) (zip-take n xs ys)

  pub zip-append : (a b c d : List ℕ) → length a ≡ length c → zip_to f (a ++ b) (c ++ d) ≡ zip_to f a c ++ zip_to f b d
  unfolding zip_to
  zip-append [] b [] d e = refl
  zip-append [] b (y ∷ c) d e = absurd (omega arith)
  zip-append (x ∷ a) b [] d e = absurd (omega arith)
  zip-append (x ∷ a) b (y ∷ c) d e = ap (λ (l : List ℕ). f x y ∷ l) (zip-append a b c d (omega arith))

-- ---- sums and differences of words

pub words-add : {n : ℕ} (xs ys : List ℕ) → Words n xs → Words n (add_w xs ys)
words-add xs ys h = record { long = length-zip addq xs ys ∙ h.long; low = below-zip q addq addq-lt xs ys h.low }

pub words-sub : {n : ℕ} (xs ys : List ℕ) → Words n xs → Words n (sub_w xs ys)
words-sub xs ys h = record { long = length-zip subq xs ys ∙ h.long; low = below-zip q subq subq-lt xs ys h.low }

pub words-zeros : (n : ℕ) → Words n (zeros n)
words-zeros n = record { long = length-replicate {A = ℕ} n 0; low = below-zeros q (lit< tt) n }

pub add_w-comm : (xs ys : List ℕ) → length xs ≡ length ys → add_w xs ys ≡ add_w ys xs
unfolding zip_to
add_w-comm [] [] e = refl
add_w-comm [] (y ∷ ys) e = absurd (omega arith)
add_w-comm (x ∷ xs) [] e = absurd (omega arith)
add_w-comm (x ∷ xs) (y ∷ ys) e = cc (addq-comm x y, add_w-comm xs ys (omega arith))

pub add_w-assoc : (xs ys zs : List ℕ) → length xs ≡ length ys → length ys ≡ length zs → add_w (add_w xs ys) zs ≡ add_w xs (add_w ys zs)
unfolding zip_to
add_w-assoc [] ys zs e g = refl
add_w-assoc (x ∷ xs) [] zs e g = absurd (omega arith)
add_w-assoc (x ∷ xs) (y ∷ ys) [] e g = absurd (omega arith)
add_w-assoc (x ∷ xs) (y ∷ ys) (z ∷ zs) e g = cc (addq-assoc x y z, add_w-assoc xs ys zs (omega arith) (omega arith))

pub add_w-zero : (xs : List ℕ) → Below q xs → add_w (zeros (length xs)) xs ≡ xs
unfolding zip_to
add_w-zero [] h = refl
add_w-zero (x ∷ xs) h = cc (addq-zero x h.0, add_w-zero xs h.1)

pub add_w-sub_w : (xs ys : List ℕ) → Below q xs → Below q ys → add_w (sub_w xs ys) ys ≡ xs
unfolding zip_to
add_w-sub_w [] ys h g = refl
add_w-sub_w (x ∷ xs) [] h g = refl
add_w-sub_w (x ∷ xs) (y ∷ ys) h g = cc (sub-addq x y h.0 g.0, add_w-sub_w xs ys h.1 g.1)

pub sub_w-add_w : (xs ys : List ℕ) → Below q xs → Below q ys → sub_w (add_w xs ys) ys ≡ xs
unfolding zip_to
sub_w-add_w [] ys h g = refl
sub_w-add_w (x ∷ xs) [] h g = refl
sub_w-add_w (x ∷ xs) (y ∷ ys) h g = cc (add-subq x y h.0 g.0, sub_w-add_w xs ys h.1 g.1)

pub add_w-twice : (xs : List ℕ) → Below q xs → xs ≡ add_w xs xs → xs ≡ zeros (length xs)
unfolding zip_to
add_w-twice [] h e = refl
add_w-twice (x ∷ xs) h e =
    let a : x ≡ addq x x = cc in
    let b : xs ≡ add_w xs xs = cc in
    cc (addq-twice x h.0 a, add_w-twice xs h.1 b)

module _ {n : ℕ} where
  pub add_comm : (xs ys : List ℕ) → Words n xs → Words n ys → add_w xs ys ≡ add_w ys xs
  add_comm xs ys h g = add_w-comm xs ys (h.long ∙ sym g.long)

  pub add_assoc : (xs ys zs : List ℕ) → Words n xs → Words n ys → Words n zs → add_w (add_w xs ys) zs ≡ add_w xs (add_w ys zs)
  add_assoc xs ys zs h g k = add_w-assoc xs ys zs (h.long ∙ sym g.long) (g.long ∙ sym k.long)

  pub add-zero-left : (xs : List ℕ) → Words n xs → add_w (zeros n) xs ≡ xs
  add-zero-left xs h = ap (λ (m : ℕ). add_w (zeros m) xs) (sym h.long) ∙ add_w-zero xs h.low

  pub add-zero-right : (xs : List ℕ) → Words n xs → add_w xs (zeros n) ≡ xs
  add-zero-right xs h = add_comm xs (zeros n) h (words-zeros n) ∙ add-zero-left xs h

  pub add-sub : (xs ys : List ℕ) → Words n xs → Words n ys → add_w (sub_w xs ys) ys ≡ xs
  add-sub xs ys h g = add_w-sub_w xs ys h.low g.low

  pub twice-zero : (xs : List ℕ) → Words n xs → xs ≡ add_w xs xs → xs ≡ zeros n
  twice-zero xs h e = add_w-twice xs h.low e ∙ ap (λ (m : ℕ). zeros m) h.long

  -- (a + b) + (c + d) = (a + c) + (b + d)
  pub add-swap : (a b c d : List ℕ) → Words n a → Words n b → Words n c → Words n d
      → add_w (add_w a b) (add_w c d) ≡ add_w (add_w a c) (add_w b d)
  add-swap a b c d ha hb hc hd =
      let e1 : add_w (add_w a b) (add_w c d) ≡ add_w a (add_w b (add_w c d)) = add_assoc a b (add_w c d) ha hb (words-add c d hc) in
      let e2 : add_w (add_w b c) d ≡ add_w b (add_w c d) = add_assoc b c d hb hc hd in
      let e3 : add_w b c ≡ add_w c b = add_comm b c hb hc in
      let e4 : add_w (add_w c b) d ≡ add_w c (add_w b d) = add_assoc c b d hc hb hd in
      let e5 : add_w (add_w a c) (add_w b d) ≡ add_w a (add_w c (add_w b d)) = add_assoc a c (add_w b d) ha hc (words-add b d hb) in
      cc

-- a linear map of 0
pub linear-zero : {w v : ℕ} {F : List ℕ → List ℕ} → Linear w v F → F (zeros w) ≡ zeros v
linear-zero {w} {v} {F} L =
    let z : Words w (zeros w) = words-zeros w in
    twice-zero (F (zeros w)) (L.words (zeros w) z)
    (ap F (sym (add-zero-left (zeros w) z)) ∙ L.adds (zeros w) (zeros w) z z)
