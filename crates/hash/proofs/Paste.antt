-- Values laid into a list from a place on, one by one and in runs.
use mathlib.Core.Path.{◌≡◌, refl, ap, sym, ◌∙◌}
use mathlib.Core.List.{List, ◌++◌, append_assoc, append-nil}
use Prim.Native.Nat.{ℕ, zero, suc, ◌+◌, ◌≤◌, ◌<◌}
use native.Mathlib.Nat.{add-zero, add-suc, add_assoc}
use native.Mathlib.Omega.{arith}
use lib.ListN.{length, take, drop, length-append, take-append-drop}
use lib.Seq.{take_at, drop-append-add, drop-drop, length-take-le}
use Rattle.hash.proofs.Table.{length-table}
use Rattle.hash.specs.Lists.{table}
use Rattle.hash.specs.ShakeSteps.{pasted}

-- a table in two parts
pub table_more : (f g : ℕ → ℕ) (n m : ℕ) → ((j : ℕ) → j < m → g j ≡ f (n + j)) → table f (n + m) ≡ table f n ++ table g m
unfolding table
table_more f g n zero h = rw (add-zero, append-nil)
table_more f g n (suc m) h =
    let e : table f (n + m) ≡ table f n ++ table g m = table_more f g n m (λ j l. h j (omega arith)) in
    let d : f (n + m) ≡ g m = sym (h m (omega arith)) in
    rw (add-suc, e, d, append_assoc)

module _ (f : ℕ → ℕ) (l : List ℕ) (at : ℕ) where
  front : (n : ℕ) → at + n ≤ length l → length (take at l ++ table f n) ≡ at + n
  front n h =
      let k : at ≤ length l = omega arith in
      rw (length-append, length-take-le at l k, length-table)

  pub pasted-none : l ≡ pasted f l at 0
  unfolding table
  pasted-none = rw (add-zero, take-append-drop)

  pub pasted-two : (g : ℕ → ℕ) (n m : ℕ) → at + n + m ≤ length l → ((j : ℕ) → j < m → g j ≡ f (n + j))
      → pasted g (pasted f l at n) (at + n) m ≡ pasted f l at (n + m)
  pasted-two g n m h e =
      let k : at + n ≤ length l = omega arith in
      let r = front n k in
      let w : drop (at + n + m) ((take at l ++ table f n) ++ drop (at + n) l) ≡ drop (at + n + m) l =
      ap (λ (z : ℕ). drop (z + m) ((take at l ++ table f n) ++ drop (at + n) l)) (sym r)
      ∙ drop-append-add (take at l ++ table f n) (drop (at + n) l) m ∙ drop-drop m (at + n) l in
      rw (
        ← append_assoc (take at l) (table f n) (drop (at + n) l),
        take_at (take at l ++ table f n) (drop (at + n) l) (at + n) r,
        w,
        table_more f g n m e,
        append_assoc,
        append_assoc,
        ← add_assoc,
      )

-- equal values give equal tables
pub table_same : (f g : ℕ → ℕ) (m : ℕ) → ((j : ℕ) → j < m → f j ≡ g j) → table f m ≡ table g m
unfolding table
table_same f g zero h = refl
table_same f g (suc m) h =
    let e : table f m ≡ table g m = table_same f g m (λ j l. h j (omega arith)) in
    let d : f m ≡ g m = h m (omega arith) in
    rw (e, d)
