-- Steps (what the code leaves on its way; no call's contract reaches these): regions of a work buffer, and what a step does to them.
use Rattle.std.specs.Prelude.{◌≡◌, List, ◌++◌, ℕ, ◌+◌, ◌≤◌, length, take, drop}
use Rattle.ring.specs.Words.{q, Below}

-- the k words from a on; xs with those k replaced by ys, as a part lent as `&mut s[a..a + k]` comes back
abbrev pub span : List ℕ → ℕ → ℕ → List ℕ
span xs a k = take k (drop a xs)

abbrev pub put : List ℕ → ℕ → ℕ → List ℕ → List ℕ
put xs a k ys = take a xs ++ (ys ++ drop k (drop a xs))

-- ys is xs with X in the m words from a on; of the first n words, which are scratch, nothing is said
pub record Wrote (n a m : ℕ) (X xs ys : List ℕ) : Type 0 where
  pub new : span ys a m ≡ X
  pub front : (b j : ℕ) → n ≤ b → b + j ≤ a → span ys b j ≡ span xs b j
  pub behind : (b j : ℕ) → n ≤ b → a + m ≤ b → span ys b j ≡ span xs b j
  pub long : length ys ≡ length xs
  pub low : Below q ys
