use mathlib.Core.Path.{sym, ap, subst, ◌∙◌}
use mathlib.Core.List.{List, ◌++◌}
use Prim.Native.Nat.{ℕ, ◌*◌, ◌≤◌}
use native.Mathlib.Omega.{arith}
use lib.ListN.{length, replicate}
use Rattle.hash.specs.Shake.{shake256}
use Rattle.ring.specs.Words.{Below}
use Rattle.sharing.specs.Region.{span}
use Rattle.signature.specs.Challenge.{headed, ordered}
use Rattle.signature.proofs.Fronts.{front-in, front-is, copied-from, copied-long, copied-room}
use Rattle.signature.proofs.Rounded.{below_up}
use Rattle.signature.proofs.attempt.hash_at.Goals as goal

pub to_bytes-requires : goal.to_bytes-requires
to_bytes-requires c =
    let a = c in
    let b = a.args in
    let n = b.k * 512 in
    let h : n ≤ length (replicate {A = ℕ} 4608 0) = omega (arith, a.requires.1) in
    let e = copied-from n b.at (replicate 4608 0) b.s.now h a.requires.0 in
    (copied-room n b.at (replicate 4608 0) b.s.now h a.requires.0, subst (Below 256) (sym e) (below_up 31 256 (span b.s.now b.at n) (omega arith) a.requires.2))

pub slice_bounds-chal_hash-end : goal.slice_bounds-chal_hash-end
slice_bounds-chal_hash-end c =
    let a = c in
    let b = a.args in
    let n = b.k * 512 in
    let h : n ≤ length (replicate {A = ℕ} 4608 0) = omega (arith, a.requires.1) in
    let f = c.to_bytes in
    front-in n (replicate 4608 0) f.new.out h (ap (λ (l : List ℕ). length l) f.ensures ∙ copied-long n b.at (replicate 4608 0) b.s.now h a.requires.0)

pub returns : goal.returns
returns c =
    let a = c in
    let b = a.args in
    let n = b.k * 512 in
    let h : n ≤ length (replicate {A = ℕ} 4608 0) = omega (arith, a.requires.1) in
    let f = c.to_bytes in
    let e = front-is n (replicate 4608 0) f.new.out h (ap (λ (l : List ℕ). length l) f.ensures ∙ copied-long n b.at (replicate 4608 0) b.s.now h a.requires.0) in
    c.chal_hash.ensures ∙ ap (λ (x : List ℕ). shake256 (headed 104 b.k ++ ordered b.edition x b.mu.now) (length b.hash.now)) (e ∙ f.ensures ∙ copied-from n b.at (replicate 4608 0) b.s.now h a.requires.0)
