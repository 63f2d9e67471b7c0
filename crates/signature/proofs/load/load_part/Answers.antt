use mathlib.Core.Path.{◌≡◌, refl, sym, ap, ◌∙◌}
use Prim.Native.Nat.{◌+◌, ◌-◌, ◌*◌}
use native.Mathlib.Omega.{arith}
use lib.ListN.{length}
use Rattle.sharing.specs.Region.{span}
use Rattle.sharing.proofs.Regions.{length-span, wrote_value}
use Rattle.signature.proofs.Loads.{part-loaded, part-value}
use Rattle.ring.proofs.Checks.{absurd-bool}
use Rattle.hash.proofs.Refusals.{unless-is}
use Rattle.ring.proofs.Filled.{some-filled}
use Rattle.signature.proofs.load.load_part.Goals as goal

pub returns-then-not-shares_fill : goal.returns-then-not-shares_fill
returns-then-not-shares_fill c =
    let no = sym c.shares_fill.ensures ∙ c.if-not-shares_fill.true in record { value = (rw no refl, refl, c.requires.shares_in_bounds.1); by_index = λ X e. absurd-bool (sym (some-filled _ X e) ∙ no) }

pub decompress_shares-requires : goal.decompress_shares-requires
decompress_shares-requires c =
    let b = c.args in
    let n = b.part.row.p.l * (b.part.row.p.shares * 512) in
    let k : b.at + n - b.at ≡ n = omega arith in record { out_len = (ap (λ m. length (span b.s.now b.at m)) k ∙ length-span b.s.now b.at n c.requires.shares_in_bounds.0, c.requires.words_low) }

pub returns : goal.returns
returns c =
    let b = c.args in
    let r = c.shares_fill in
    let yes = sym c.if-not-shares_fill.false ∙ r.ensures in
    let w = part-loaded b.part.row.p b.part.bytes.now b.at b.s.now _ c.requires.words_low c.requires.shares_in_bounds.0 c.requires.shares_in_bounds.1 c.decompress_shares.ensures in record { value = (unless-is _ (sym yes), w.long, w.low); by_index = λ X e. wrote_value (part-value b.part.row.p b.part.bytes.now X (sym yes) e) w }
