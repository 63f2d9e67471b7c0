use mathlib.Core.Path.{sym, ap, subst, ◌∙◌}
use Prim.Native.Nat.{◌*◌}
use native.Mathlib.Omega.{arith}
use Rattle.ring.specs.Words.{Words}
use Rattle.sharing.specs.Encoding.{refreshed}
use Rattle.sharing.specs.Masks.{masks}
use Rattle.sharing.specs.declared.masks.MaskGen.{MaskGen}
use Rattle.signature.proofs.Digests.{bytes-again}
use Rattle.signature.proofs.keys.renew.Goals as goal

pub put_bytes-requires : goal.put_bytes-requires
put_bytes-requires c =
    record { bytes_held = omega (arith, c.requires.bytes_len.0); out_len = c.requires.bytes_len.1 }

pub refresh_words-requires : goal.refresh_words-requires
refresh_words-requires c =
    subst (Words (c.args.row.p.l * (c.args.row.p.shares * 512))) (sym c.copy_into.ensures) c.requires.words_value

pub returns : goal.returns
returns c =
    let a = c.args in
    let g = ap (λ (h : MaskGen). refreshed masks a.row.p.shares h a.row.p.l a.words.now) c.start.ensures in (
      c.put_bytes.ensures ∙ bytes-again a.row.p a.bytes.now a.words.now,
      c.refresh_words.ensures.0 ∙ ap (refreshed masks a.row.p.shares c.start.result a.row.p.l) c.copy_into.ensures ∙ g,
    )
