-- A list that is filled from the front by f at each place.
use mathlib.Core.Path.{◌≡◌, refl, sym, ap, ◌∙◌}
use mathlib.Core.List.{List, [], ◌∷◌, ◌++◌, append_assoc}
use Prim.Native.Nat.{ℕ, zero, suc, ◌+◌, ◌<◌}
use mathlib.Core.Logic.{⊎_elim}
use native.Mathlib.Nat.{not-suc-le-zero, le_of_suc-le-suc, eq-or-lt_of_le}
use native.Mathlib.Numerals.{add-one}
use native.Mathlib.Omega.{arith}
use lib.ListN.{length, drop, set, get_or, length-append, get_or-append}
use lib.Seq.{drop-cons, set_at, get_or_at, ext_get_or}
use Rattle.hash.specs.Lists.{table}

-- with no element, and with one more
pub table_none : (f : ℕ → ℕ) → table f 0 ≡ []
unfolding table
table_none f = refl

pub table-next : (f : ℕ → ℕ) (n : ℕ) → table f (suc n) ≡ table f n ++ (f n ∷ [])
unfolding table
table-next f n = refl

pub length-table : (f : ℕ → ℕ) (n : ℕ) → length (table f n) ≡ n
unfolding table
length-table f zero = refl
length-table f (suc n) = length-append (table f n) (f n ∷ []) ∙ add-one (length (table f n)) ∙ ap suc (length-table f n)

pub filled_more : (f : ℕ → ℕ) (n : ℕ) (l : List ℕ) → n < length l → set (table f n ++ drop n l) n (f n) ≡ table f (n + 1) ++ drop (n + 1) l
unfolding table
filled_more f n l h =
    rw (add-one, drop-cons l n 0, set_at (table f n) (get_or l n 0) (drop (suc n) l) (f n) n (length-table f n), append_assoc)

pub filled_none : (f : ℕ → ℕ) (l : List ℕ) → l ≡ table f 0 ++ drop 0 l
unfolding table
filled_none f l = refl

pub get_d-table : (f : ℕ → ℕ) (n i : ℕ) → i < n → get_or (table f n) i 0 ≡ f i
unfolding table
get_d-table f zero i h = absurd (not-suc-le-zero h)
get_d-table f (suc n) i h =
    ⊎_elim
    (λ (e : i ≡ n). rw e (get_or_at (table f n) (f n) [] 0 n (length-table f n)))
    (λ (l : i < n). get_or-append (table f n) (f n ∷ []) 0 i (rw length-table l) ∙ get_d-table f n i l)
    (eq-or-lt_of_le (le_of_suc-le-suc h))

-- a list as the table of its elements
pub listed : (n : ℕ) (l : List ℕ) → length l ≡ n → l ≡ table (λ j. get_or l j 0) n
listed n l e =
    ext_get_or 0 l (table (λ j. get_or l j 0) n) (e ∙ sym (length-table (λ j. get_or l j 0) n))
    (λ i h. let k : i < n = omega arith in sym (get_d-table (λ j. get_or l j 0) n i k))
