-- Laws of the challenge's bytes: the blocks of the stream and of lent bytes, and the two hashes.
use mathlib.Core.Path.{◌≡◌, refl, sym, ap, ap₂, ◌∙◌}
use mathlib.Core.List.{List, ◌++◌, append-nil}
use Prim.Native.Nat.{ℕ, ◌+◌, ◌*◌, ◌%◌, ◌≤◌, ◌<◌}
use native.Mathlib.Numerals.{add-one}
use native.Mathlib.Omega.{arith}
use lib.ListN.{length, get_or, set, drop, length-append}
use lib.Seq.{drop-length}
use Rattle.hash.specs.Lists.{table}
use Rattle.hash.specs.Keccak.{State}
use Rattle.hash.specs.Shake.{zero_state, absorb_from, finish, after, stream, shake256}
use Rattle.hash.specs.declared.params.Edition.{Edition}
use Rattle.hash.proofs.Lanes.{absorb-mod}
use Rattle.hash.proofs.Output.{after_none, after_next, finish-mod}
use Rattle.hash.proofs.Table.{length-table, get_d-table, filled_more}
use Rattle.hash.proofs.Sponge.{absorb-append, finish-two, stream-block}
use Rattle.signature.specs.Challenge.{chal_draw, chal_draws, ordered}
use Rattle.signature.specs.declared.challenge.Source.{Source}
use Rattle.signature.specs.ChallengeSteps.{bytes_of, draws_of, block_of, next_of, behind}

-- ---- blocks

-- the source that gives block i
abbrev pub source_at : ℕ → Source → Source
source_at i (Source.Stream S) = Source.Stream (after i S)
source_at i (Source.Lent bytes) = Source.Lent bytes

pub source-first : (x : Source) → x ≡ source_at 0 x
source-first (Source.Stream S) = ap Source.Stream (sym (after_none S))
source-first (Source.Lent bytes) = refl

pub source-next : (i : ℕ) (x : Source) → next_of (source_at i x) ≡ source_at (i + 1) x
source-next i (Source.Stream S) = ap Source.Stream (sym (ap (λ (n : ℕ). after n S) (add-one i) ∙ after_next i S))
source-next i (Source.Lent bytes) = refl

pub draws-are : (x : Source) → chal_draws (length (bytes_of x)) ≡ draws_of x
draws-are (Source.Stream S) = rw length-table
draws-are (Source.Lent bytes) = refl

pub draws-low : (x : Source) → draws_of x ≤ 1088
draws-low (Source.Stream S) = omega arith
draws-low (Source.Lent bytes) = omega arith

get_or-block_of : (x : Source) (i j : ℕ) → i < 16 → j < 136 → get_or (block_of (source_at i x) i) j 0 ≡ get_or (bytes_of x) (i * 136 + j) 0
get_or-block_of (Source.Stream S) i j h l =
    let e : 136 * i + j ≡ i * 136 + j = omega arith in
    sym (stream-block S i j l) ∙ ap (stream S) e ∙ sym (get_d-table (stream S) 2176 (i * 136 + j) (omega arith))
get_or-block_of (Source.Lent bytes) i j h l = get_d-table (λ (k : ℕ). get_or bytes.now (i * 136 + k) 0) 136 j l

pub draw-of : (x : Source) (i j : ℕ) → i < 16 → j < 68 → chal_draw (block_of (source_at i x) i) j ≡ chal_draw (bytes_of x) (i * 68 + j)
draw-of x i j h l =
    let e : i * 136 + j * 2 ≡ (i * 68 + j) * 2 = omega arith in
    let f : i * 136 + (j * 2 + 1) ≡ (i * 68 + j) * 2 + 1 = omega arith in
    let y : get_or (block_of (source_at i x) i) (j * 2) 0 ≡ get_or (bytes_of x) ((i * 68 + j) * 2) 0 =
    get_or-block_of x i (j * 2) h (omega arith) ∙ ap (λ (k : ℕ). get_or (bytes_of x) k 0) e in
    let z : get_or (block_of (source_at i x) i) (j * 2 + 1) 0 ≡ get_or (bytes_of x) ((i * 68 + j) * 2 + 1) 0 =
    get_or-block_of x i (j * 2 + 1) h (omega arith) ∙ ap (λ (k : ℕ). get_or (bytes_of x) k 0) f in
    ap₂ (λ (u v : ℕ). u + v * 256) y z

pub block-draws : (x y : Source) (bytes : List ℕ) (i m : ℕ) → y ≡ source_at i x → bytes ≡ block_of y i → i < 16 → m ≤ 68
    → (j : ℕ) → j < m → chal_draw bytes j ≡ chal_draw (bytes_of x) (i * 68 + j)
block-draws x y bytes i m e f h l j g = rw (f, e) (draw-of x i j h (omega arith))

-- a block filled byte by byte
pub byte_more : (f : ℕ → ℕ) (l₀ l : List ℕ) (j v : ℕ) → l ≡ table f j ++ drop j l₀ → j < length l₀ → v ≡ f j → set l j v ≡ table f (j + 1) ++ drop (j + 1) l₀
byte_more f l₀ l j v e h g = rw (e, g) (filled_more f j l₀ h)

pub byte-all : (f : ℕ → ℕ) (l₀ l : List ℕ) (j n : ℕ) → l ≡ table f j ++ drop j l₀ → j ≡ n → length l₀ ≡ n → l ≡ table f n
byte-all f l₀ l j n e h g = e ∙ rw (h, ← g, drop-length, append-nil)

-- ---- hashes of parts

-- only the place in the block counts
add-rest : (x y : ℕ) → (x + y % 136) % 136 ≡ (x + y) % 136
add-rest x y = omega arith

add-rests : (n k x y : ℕ) → k ≡ n + x % 136 → (k + y % 136) % 136 ≡ (n + x + y) % 136
add-rests n k x y h =
    let e : n + x % 136 + y ≡ n + y + x % 136 = omega arith in
    let f : n + y + x ≡ n + x + y = omega arith in
    add-rest k y ∙ ap (λ (i : ℕ). (i + y) % 136) h ∙ ap (λ (i : ℕ). i % 136) e ∙ add-rest (n + y) x ∙ ap (λ (i : ℕ). i % 136) f

module _ (S A B C : State) (n k : ℕ) (a b : List ℕ) where
  pub behind-is : A ≡ absorb_from S n a → k ≡ n + length a % 136 → B ≡ absorb_from A k b → C ≡ finish B (k + length b % 136)
      → C ≡ behind S n a b
  behind-is e h f g =
      let x = add-rests n k (length a) (length b) h in
      let y : k % 136 ≡ (n + length a) % 136 = ap (λ (i : ℕ). i % 136) h ∙ add-rest n (length a) in
      let z : B ≡ absorb_from (absorb_from S n a) (n + length a) b =
      f ∙ absorb-mod b A k (n + length a) y ∙ ap (λ (X : State). absorb_from X (n + length a) b) e in
      g ∙ finish-mod B (k + length b % 136) (n + length a + length b) x ∙ ap (λ (X : State). finish X (n + length a + length b)) z

-- two parts, and two behind a header
pub two-parts : (S : State) (a b out : List ℕ) (n : ℕ) → S ≡ zero_state
    → out ≡ table (stream (behind S 0 a b)) n → out ≡ shake256 (a ++ b) n
two-parts S a b out n e h =
    let x : 0 + length a ≡ length a = omega arith in
    h ∙ rw (e, x, finish-two a b)

module _ (S Z : State) (h a b out : List ℕ) (n : ℕ) (e : Z ≡ zero_state) (f : S ≡ absorb_from Z 0 h) (g : length h ≡ 8)
    (is : out ≡ table (stream (behind S 8 a b)) n) where
  three-parts : out ≡ shake256 (h ++ (a ++ b)) n
  three-parts =
      let x : 8 + length a + length b ≡ length h + length (a ++ b) = rw length-append (omega arith) in
      let y : absorb_from (absorb_from S 8 a) (8 + length a) b ≡ absorb_from (absorb_from zero_state 0 h) (length h) (a ++ b) =
      rw (f, e, ← g) (sym (absorb-append (absorb_from zero_state 0 h) (length h) a b)) in
      is ∙ rw (x, y, finish-two h (a ++ b))

  pub printed-parts : (k : Edition) → k ≡ Edition.Printed → out ≡ shake256 (h ++ ordered k a b) n
  printed-parts k x = rw x three-parts

  pub kat-parts : (k : Edition) → k ≡ Edition.Kat → out ≡ shake256 (h ++ ordered k b a) n
  kat-parts k x = rw x three-parts
