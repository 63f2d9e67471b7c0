-- A stream laid out block by block.
use mathlib.Core.Path.{◌≡◌, sym}
use mathlib.Core.List.{List, ◌++◌, append-nil}
use Prim.Native.Nat.{ℕ, ◌+◌, ◌-◌, ◌*◌, ◌≤◌, ◌<◌}
use native.Mathlib.Nat.{zero-add}
use native.Mathlib.Omega.{arith}
use lib.ListN.{length, take, drop}
use lib.Seq.{drop-drop, drop-length}
use borrow.Rule.Slice.PartMut.{put_mid}
use Rattle.hash.specs.Lists.{table}
use Rattle.hash.specs.ShakeSteps.{pasted}
use Rattle.hash.specs.Keccak.{State}
use Rattle.hash.specs.Shake.{byte_at, stream, rate, after}
use Rattle.hash.proofs.Sponge.{stream_at}
use Rattle.hash.proofs.Output.{table-take}
use Rattle.hash.proofs.Paste.{pasted-two}

module _ (S A : State) (l : List ℕ) (k : ℕ) (q : A ≡ after k S) where
  along : (j : ℕ) → j < 136 → byte_at A j ≡ stream S (136 * k + j)
  along j h = rw q (sym (stream_at S k j h))

  more : (n : ℕ) → n ≤ 136 → 136 * k + n ≤ length l
      → pasted (byte_at A) (table (stream S) (136 * k) ++ drop (136 * k) l) (136 * k) n ≡ table (stream S) (136 * k + n) ++ drop (136 * k + n) l
  more n m h =
      let f : 0 + 136 * k + n ≤ length l = omega arith in
      rw (zero-add (136 * k), zero-add (136 * k + n)) at (pasted-two (stream S) l 0 (byte_at A) (136 * k) n f (λ j i. along j (omega arith)))

  pub one_block : 136 * k + 136 ≤ length l
      → pasted (byte_at A) (table (stream S) (136 * k) ++ drop (136 * k) l) (136 * k) 136 ≡ table (stream S) (136 * (k + 1)) ++ drop (136 * (k + 1)) l
  one_block h = let e : 136 * (k + 1) ≡ 136 * k + 136 = omega arith in rw e (more 136 (omega arith) h)

  pub last_block : (n : ℕ) → n ≤ 136 → 136 * k + n ≡ length l
      → put_mid (136 * k) n (table (stream S) (136 * k) ++ drop (136 * k) l) (take n (rate A)) ≡ table (stream S) (length l)
  last_block n m e =
      let p : n + (136 - n) ≡ 136 = omega arith in
      let t : take n (rate A) ≡ table (byte_at A) n = rw p at (table-take (byte_at A) n (136 - n)) in
      rw (t, drop-drop n (136 * k), more n m (omega arith), e, drop-length, append-nil)
