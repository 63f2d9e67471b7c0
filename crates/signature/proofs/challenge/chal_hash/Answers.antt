use mathlib.Core.Path.{refl}
use Rattle.signature.proofs.ChalBytes.{printed-parts, kat-parts}
use Rattle.signature.proofs.challenge.chal_hash.Goals as goal

pub returns-in-Printed : goal.returns-in-Printed
returns-in-Printed c =
    let e = c in
    let a = e in
    printed-parts _ _ _ _ _ _ _ a.start.ensures a.absorb-s.ensures refl c.hash_behind.ensures _ e.in-Printed.is

pub returns-in-Kat : goal.returns-in-Kat
returns-in-Kat c =
    let e = c in
    let a = e in
    kat-parts _ _ _ _ _ _ _ a.start.ensures a.absorb-s.ensures refl c.hash_behind-in-Kat.ensures _ e.in-Kat.is
