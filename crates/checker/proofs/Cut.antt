-- The buffer has room for 17877 bytes, a message of 4097 among them: what is behind its end does not change the status.
use mathlib.Core.Path.{◌≡◌, sym, ap, ◌∙◌}
use mathlib.Core.List.{List, ◌++◌}
use Prim.Native.Nat.{ℕ, ◌<◌, ◌≤◌}
use native.Mathlib.Decide.{dec_lt}
use native.Mathlib.Omega.{arith}
use lib.ListN.{length, take, drop, length-take, length-drop}
use lib.Seq.{take_all, take-take}
use Rattle.std.proofs.Common.{Option, None, Some, IfSome, append-nil, take_at}
use Rattle.std.specs.Io.KnownBytes.{Consumes, IsAtEnd}
use Rattle.hash.specs.declared.params.Edition.{Edition}
use Rattle.checker.specs.Input.{checked_of}
use Rattle.signature.proofs.Verified.{long-message}

long : (s : List ℕ) (a : ℕ) → 17876 < a → 17876 < length s → 4096 < length (drop 13780 (take a s))
long s a h l = omega (arith, length-drop 13780 (take a s), length-take a s)

pub cut : (s : List ℕ) → checked_of (take 17877 s) ≡ checked_of s
unfolding checked_of
cut s = go (dec_lt 17876 (length s))
  where
    go : Dec (17876 < length s) → checked_of (take 17877 s) ≡ checked_of s
    go (yes l) =
        let a : 4096 < length (drop 13780 s) = omega (arith, length-drop 13780 s) in
        rw (take-take 2256 17877 s (omega arith)) (long-message Edition.Printed 128 (take 2256 s) (drop 13780 (take 17877 s)) (drop 13780 s)
        (take 11524 (drop 2256 (take 17877 s))) (take 11524 (drop 2256 s)) (long s 17877 (omega arith) l) a)
    go (no l) = ap checked_of (take_all 17877 s (omega arith))

-- what fills the buffer, or is all that the reader had, has the status of all that it had
pub status-read : (a b : Option (List ℕ)) (bs : List ℕ) (status : ℕ) → Consumes a b bs → length bs ≤ 17877 → (length bs < 17877 → IsAtEnd b)
    → status ≡ checked_of bs → IfSome a (λ s. status ≡ checked_of s)
status-read None b bs status consumed most end h = tt
status-read (Some s) None bs status consumed most end h = absurd consumed
status-read (Some s) (Some rest) bs status consumed most end h = h ∙ go (dec_lt (length bs) 17877)
  where
    go : Dec (length bs < 17877) → checked_of bs ≡ checked_of s
    go (yes l) = ap checked_of (sym (consumed ∙ ap (λ (x : List ℕ). bs ++ x) (end l) ∙ append-nil bs))
    go (no l) = ap checked_of (sym (ap (take 17877) consumed ∙ take_at bs rest 17877 (omega arith))) ∙ cut s
