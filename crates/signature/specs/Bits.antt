-- Bit strings as lists of 0 and 1, the lowest bit first (000, 2.4.1), and numbers of w bits packed into them.
use Rattle.std.specs.Prelude.{List, [], ◌∷◌, ◌++◌, ℕ, zero, suc, ◌+◌, ◌*◌, ◌/◌, ◌%◌, take, drop}

-- the w lowest bits of x, and the number that bits stand for
unfoldable pub bits_of : ℕ → ℕ → List ℕ
bits_of zero x = []
bits_of (suc w) x = x % 2 ∷ bits_of w (x / 2)

unfoldable pub val_of : List ℕ → ℕ
val_of [] = 0
val_of (b ∷ bs) = b + 2 * val_of bs

-- the bit string of numbers of w bits each; that of a byte string is `bit_string 8`
unfoldable pub bit_string : ℕ → List ℕ → List ℕ
bit_string w [] = []
bit_string w (x ∷ xs) = bits_of w x ++ bit_string w xs

-- the first n numbers of w bits each in a bit string
unfoldable pub chop : ℕ → ℕ → List ℕ → List ℕ
chop w zero l = []
chop w (suc n) l = val_of (take w l) ∷ chop w n (drop w l)

-- numbers of v bits each as n numbers of w bits each: packed into bytes with w = 8, unpacked from bytes with v = 8
unfoldable pub repack : ℕ → ℕ → ℕ → List ℕ → List ℕ
repack v w n xs = chop w n (bit_string v xs)
