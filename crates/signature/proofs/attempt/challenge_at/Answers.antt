use mathlib.Core.Path.{sym, ap, subst, ◌∙◌}
use mathlib.Core.List.{List, ◌++◌}
use Prim.Native.Nat.{ℕ, ◌*◌}
use native.Mathlib.Omega.{arith}
use lib.ListN.{length}
use Rattle.hash.specs.Shake.{shake256}
use Rattle.ring.specs.Words.{q, Below}
use Rattle.sharing.specs.Region.{span}
use Rattle.sharing.proofs.Regions.{length-span}
use Rattle.signature.specs.Challenge.{headed, ordered}
use Rattle.ring.specs.Round.{round_w}
use Rattle.ring.proofs.Mapped.{rounded-residues}
use Rattle.signature.proofs.Rounded.{wrote-rounded, below_up}
use Rattle.signature.proofs.attempt.challenge_at.Goals as goal

pub hash_at-requires : goal.hash_at-requires
hash_at-requires c =
    let b = c.args in
    let u = wrote-rounded 44 31 b.k b.at b.s.now _ c.requires.0 (c.map_vector.ensures (round_w) (λ x y w h. h.1.0)) in
    let n = u.long in
    (omega (arith, n, c.requires.0), c.requires.2, subst (Below 31) (sym u.new) (rounded-residues 44 31 (b.k * 512) (omega arith) (span b.s.now b.at (b.k * 512)) (length-span b.s.now b.at (b.k * 512) c.requires.0)).low)

pub map_vector-requires-clause-words : goal.map_vector-requires-clause-words
map_vector-requires-clause-words c = λ x y w h. record { long = h.1.1.long; low = below_up 31 q y (omega arith) h.1.1.low }

pub returns : goal.returns
returns c =
    let b = c.args in
    let u = wrote-rounded 44 31 b.k b.at b.s.now _ c.requires.0 (c.map_vector.ensures (round_w) (λ x y w h. h.1.0)) in
    (u, c.hash_at.ensures ∙ ap (λ (x : List ℕ). shake256 (headed 104 b.k ++ ordered b.edition x b.mu.now) (length b.hash.now)) u.new, c.chal_poly.ensures)
