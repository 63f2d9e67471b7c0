-- What the layers above use of SHAKE256's output: its length, its bytes, shorter outputs, blocks, and messages in parts.
use mathlib.Core.Path.{◌≡◌, refl, sym, ap, ◌∙◌}
use mathlib.Core.List.{List, [], ◌∷◌, ◌++◌}
use Prim.Native.Nat.{ℕ, zero, suc, ◌+◌, ◌-◌, ◌*◌, ◌/◌, ◌%◌, ◌≤◌, ◌<◌}
use native.Mathlib.Nat.{zero-add, suc-add, mod-lt}
use native.Mathlib.Omega.{arith}
use lib.Dec.{lit<}
use lib.ListN.{length, get_or, take, drop}
use lib.Seq.{take_at, drop_at}
use Rattle.hash.specs.Lists.{table, Bytes}
use Rattle.hash.specs.Keccak.{State, keccak_f}
use Rattle.hash.specs.Shake.{zero_state, absorbed, absorb_from, xor_bytes, padding, finish, byte_at, after, rate, stream, shake256}
use Rattle.hash.proofs.Table.{length-table, get_d-table}
use Rattle.hash.proofs.Paste.{table_more, table_same}
use Rattle.hash.proofs.Sponge.{absorb-append, finish-absorbed, stream_at}

-- ---- tables in two parts

pub table-take : (f : ℕ → ℕ) (n m : ℕ) → take n (table f (n + m)) ≡ table f n
table-take f n m = ap (take n) (table_more f (λ (j : ℕ). f (n + j)) n m (λ j h. refl)) ∙ take_at (table f n) (table (λ (j : ℕ). f (n + j)) m) n (length-table f n)

pub table-drop : (f : ℕ → ℕ) (n m : ℕ) → drop n (table f (n + m)) ≡ table (λ (j : ℕ). f (n + j)) m
table-drop f n m = ap (drop n) (table_more f (λ (j : ℕ). f (n + j)) n m (λ j h. refl)) ∙ drop_at (table f n) (table (λ (j : ℕ). f (n + j)) m) n (length-table f n)

bytes-append : (xs ys : List ℕ) → Bytes xs → Bytes ys → Bytes (xs ++ ys)
bytes-append [] ys h k = k
bytes-append (x ∷ xs) ys h k = (h.0, bytes-append xs ys h.1 k)

pub bytes-table : (f : ℕ → ℕ) → ((i : ℕ) → f i < 256) → (n : ℕ) → Bytes (table f n)
unfolding table
bytes-table f h zero = tt
bytes-table f h (suc n) = bytes-append (table f n) (f n ∷ []) (bytes-table f h n) (h n, tt)

-- ---- the output

pub output-length : (m : List ℕ) (n : ℕ) → length (shake256 m n) ≡ n
output-length m n = length-table (stream (absorbed m)) n

pub stream-low : (S : State) (i : ℕ) → stream S i < 256
stream-low S i = mod-lt _ (lit< tt)

pub output-bytes : (m : List ℕ) (n : ℕ) → Bytes (shake256 m n)
output-bytes m n = bytes-table (stream (absorbed m)) (stream-low (absorbed m)) n

-- byte i of the output is byte i of the stream: byte i % 136 of block i / 136
pub output-at : (m : List ℕ) (n i : ℕ) → i < n → get_or (shake256 m n) i 0 ≡ stream (absorbed m) i
output-at m n i h = get_d-table (stream (absorbed m)) n i h

-- a longer output begins with the shorter
pub output-prefix : (m : List ℕ) (n k : ℕ) → n ≤ k → take n (shake256 m k) ≡ shake256 m n
output-prefix m n k h =
    let e : n + (k - n) ≡ k = omega arith in
    rw e at (table-take (stream (absorbed m)) n (k - n))

-- block i of the output
pub output-block : (m : List ℕ) (i k : ℕ) → 136 * i + 136 ≤ k → take 136 (drop (136 * i) (shake256 m k)) ≡ rate (after i (absorbed m))
output-block m i k h =
    let S = absorbed m in
    let e : 136 * i + (136 + (k - (136 * i + 136))) ≡ k = omega arith in
    let d : drop (136 * i) (shake256 m (136 * i + (136 + (k - (136 * i + 136))))) ≡ table (λ (j : ℕ). stream (absorbed m) (136 * i + j)) (136 + (k - (136 * i + 136))) =
    table-drop (stream (absorbed m)) (136 * i) (136 + (k - (136 * i + 136))) in
    ap (λ (n : ℕ). take 136 (drop (136 * i) (shake256 m n))) (sym e)
    ∙ ap (take 136) d
    ∙ table-take (λ (j : ℕ). stream (absorbed m) (136 * i + j)) 136 (k - (136 * i + 136))
    ∙ table_same (λ (j : ℕ). stream (absorbed m) (136 * i + j)) (byte_at (after i (absorbed m))) 136 (λ j l. stream_at (absorbed m) i j l)

-- ---- the state i blocks on

pub after_none : (S : State) → after 0 S ≡ S
unfolding after
after_none S = refl

pub after_next : (i : ℕ) (S : State) → after (suc i) S ≡ keccak_f (after i S)
unfolding after
after_next i S = refl

pub after-add : (m n : ℕ) (S : State) → after m (after n S) ≡ after (m + n) S
unfolding after
after-add zero n S = rw zero-add
after-add (suc m) n S = rw suc-add (ap keccak_f (after-add m n S))

-- it gives the stream from there on
pub stream-after : (S : State) (n j : ℕ) → stream (after n S) j ≡ stream S (136 * n + j)
stream-after S n j =
    let d : (136 * n + j) / 136 ≡ j / 136 + n = omega arith in
    let m : (136 * n + j) % 136 ≡ j % 136 = omega arith in
    rw (d, m, after-add)

-- ---- a message in any number of parts

-- the parts one after another, after n bytes; their length
unfoldable pub absorb_parts : State → ℕ → List (List ℕ) → State
absorb_parts A n [] = A
absorb_parts A n (m ∷ ms) = absorb_parts (absorb_from A n m) (n + length m) ms

unfoldable pub join_parts : List (List ℕ) → List ℕ
join_parts [] = []
join_parts (m ∷ ms) = m ++ join_parts ms

parts_are : (ms : List (List ℕ)) (A : State) (n : ℕ) → absorb_parts A n ms ≡ absorb_from A n (join_parts ms)
unfolding absorb_parts join_parts absorb_from
parts_are [] A n = refl
parts_are (m ∷ ms) A n = parts_are ms (absorb_from A n m) (n + length m) ∙ sym (absorb-append A n m (join_parts ms))

pub finish-parts : (ms : List (List ℕ)) → finish (absorb_parts zero_state 0 ms) (length (join_parts ms)) ≡ absorbed (join_parts ms)
finish-parts ms = ap (λ (S : State). finish S (length (join_parts ms))) (parts_are ms zero_state 0) ∙ finish-absorbed (join_parts ms)

-- the end of a message: only the place in the block counts
pub finish-mod : (A : State) (n k : ℕ) → n % 136 ≡ k % 136 → finish A n ≡ finish A k
unfolding finish
finish-mod A n k e = ap (λ (i : ℕ). keccak_f (xor_bytes A i (padding (136 - i)))) e
