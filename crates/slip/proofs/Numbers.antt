-- Numbers in the bytes of a slip.
use mathlib.Core.Path.{◌≡◌, sym, ◌∙◌}
use mathlib.Core.List.{List, ◌++◌}
use Prim.Native.Nat.{ℕ, ◌+◌, ◌*◌, ◌^◌, ◌≤◌, ◌<◌}
use native.Mathlib.Omega.{arith}
use lib.ListN.{length, get_or, take, drop, length-drop, get_or-append}
use lib.Seq.{length-take-le, get_or-take, get_or-drop, get_or-append-add}
use Rattle.hash.specs.Endian.{le, le_bytes, byte_of}
use Rattle.hash.proofs.Paste.{table_same}
use Rattle.hash.proofs.Table.{length-table, get_d-table, listed}
use Rattle.hash.proofs.Word.{le_same, le-back, byte-of-le}
use Rattle.slip.specs.Format.{number_at}

-- the number whose bytes were put behind us
pub number-there : (us vs : List ℕ) (x n : ℕ) → x < 2 ^ (8 * n) → number_at (us ++ (le_bytes n x ++ vs)) (length us) n ≡ x
number-there us vs x n h =
    le_same (λ (j : ℕ). get_or (us ++ (le_bytes n x ++ vs)) (length us + j) 0) (byte_of x) n
    (λ j l. get_or-append-add us (le_bytes n x ++ vs) j 0 ∙ get_or-append (le_bytes n x) vs 0 j (rw (length-table (byte_of x) n) l) ∙ get_d-table (byte_of x) n j l)
    ∙ le-back x n h

-- the bytes of the number that was read
pub bytes-there : (b : List ℕ) (i n : ℕ) → ((j : ℕ) → get_or b j 0 < 256) → i + n ≤ length b → le_bytes n (number_at b i n) ≡ take n (drop i b)
bytes-there b i n h l =
    let f : ℕ → ℕ = λ j. get_or b (i + j) 0 in
    let g : ℕ → ℕ = λ j. get_or (take n (drop i b)) j 0 in
    table_same (byte_of (le f n)) g n (λ j k. byte-of-le f n j (λ m o. h (i + m)) k ∙ sym (get_or-take n (drop i b) j 0 k ∙ get_or-drop i b j 0))
    ∙ sym (listed n (take n (drop i b)) (length-take-le n (drop i b) (omega (arith, length-drop i b))))
