-- The buffers before are absorbed, and what left the reader is they and this buffer's first n bytes.
use Rattle.std.proofs.Common.{◌≡◌, ℕ, ◌*◌, ◌<◌, ◌≤◌, List, ◌++◌, length, take}
use Rattle.std.specs.Io.KnownBytes.{Consumes, IsAtEnd}
use Rattle.hash.specs.Shake.{absorb_from, zero_state}
use Rattle.shakesum.proofs.digest_of.Given as goal

abbrev pub invariant-loop : goal.invariant-loop
invariant-loop g l =
    (l.n ≤ 4080)
    × (l.n < 4080 → IsAtEnd (g.R.Read.remaining l.from))
    × (done : List ℕ) × (length done ≡ 4080 * l.counter)
    × (l.s ≡ absorb_from zero_state 0 done)
    × Consumes (g.R.Read.remaining l.fn.from) (g.R.Read.remaining l.from) (done ++ take l.n l.buf)
