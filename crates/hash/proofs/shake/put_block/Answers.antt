use mathlib.Core.Path.{◌≡◌, refl}
use Prim.Native.Nat.{ℕ, ◌+◌, ◌*◌, ◌/◌, ◌%◌, ◌≤◌, ◌<◌}
use native.Mathlib.Omega.{arith}
use lib.ListN.{length}
use Rattle.hash.specs.Keccak.{State, lane}
use Rattle.hash.specs.Shake.{byte_at}
use Rattle.hash.specs.Endian.{byte_of}
use Rattle.hash.proofs.Paste.{pasted-none, pasted-two}
use borrow.Author.Rules.{rules}
use Rattle.hash.proofs.shake.put_block.Goals as goal

of_word : (A : State) (i j : ℕ) → j < 8 → byte_of (lane A (i % 5) (i / 5)) j ≡ byte_at A (8 * i + j)
of_word A i j h =
    let d : (8 * i + j) / 8 ≡ i = omega arith in
    let m : (8 * i + j) % 8 ≡ j = omega arith in
    rw (d, m)

pub loop-i-init : goal.loop-i-init
loop-i-init c = (refl, pasted-none (byte_at c.args.a) c.args.out.now c.args.at)

pub loop-i-preserved : goal.loop-i-preserved
loop-i-preserved c =
    let A = c.args.a in
    let i = c.loop-i.i in
    let h : c.args.at + 8 * c.loop-i.i + 8 ≤ length c.args.out.now = omega arith in
    let e : 8 * (c.loop-i.i + 1) ≡ 8 * c.loop-i.i + 8 = omega arith in (
      search rules,
      rw (e, c.put_word.ensures, c.loop-i.invariant.1)
          (pasted-two (byte_at A) c.args.out.now c.args.at (byte_of (lane A (i % 5) (i / 5))) (8 * i) 8 h (of_word A i)),
    )
