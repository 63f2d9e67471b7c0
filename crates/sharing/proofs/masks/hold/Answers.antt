use mathlib.Core.Path.{sym}
use Rattle.hash.proofs.Flat.{flat-is}
use Rattle.sharing.proofs.masks.hold.Goals as goal

pub returns : goal.returns
returns c =
    let a = c.args in
    λ i. record { lanes = sym (flat-is a.s) i; at = a.at; ok = a.ok }
