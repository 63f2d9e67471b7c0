use Prim.Native.Nat.{ℕ, ◌*◌}
use mathlib.Core.Path.{sym, ap}
use native.Mathlib.Omega.{arith}
use Rattle.sharing.proofs.NoisePlaces.{noise-bytes}
use Rattle.signature.proofs.Sizes.{coins-low}
use Rattle.signature.proofs.Coins.{fits-mid, seeds-size}
use Rattle.signature.proofs.lengths.noise_seed_bytes.Goals as goal

pub overflow_mul-c : goal.overflow_mul-c
overflow_mul-c c = let s = c in let m = (coins-low s.args.p s.requires.0).0 in fits-mid _ (omega (arith, m))

pub overflow_mul-result : goal.overflow_mul-result
overflow_mul-result c = let s = c in let m = (coins-low s.args.p s.requires.0).1 in fits-mid _ (omega (arith, m))

pub overflow_mul-result-2 : goal.overflow_mul-result-2
overflow_mul-result-2 c =
    let s = c in
    let m = seeds-size s.args.p s.requires.0 s.args.n s.requires.1 in
    fits-mid _ (omega (arith, m.0))

pub overflow_mul-result-3 : goal.overflow_mul-result-3
overflow_mul-result-3 c =
    let s = c in
    let m = seeds-size s.args.p s.requires.0 s.args.n s.requires.1 in
    fits-mid _ (omega (arith, m.1))

pub returns : goal.returns
returns c = let a = c.args in ap (λ (x : ℕ). a.n * x) (sym (noise-bytes a.p))
