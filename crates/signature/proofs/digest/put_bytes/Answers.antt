use mathlib.Core.List.{List, ◌++◌}
use mathlib.Core.Path.{sym, ap, ◌∙◌}
use Prim.Native.Nat.{◌/◌}
use native.Mathlib.Omega.{arith}
use lib.ListN.{take}
use Rattle.signature.specs.AttemptSteps.{key_lent, key_bytes}
use Rattle.signature.specs.Keys.{digest_of}
use Rattle.signature.proofs.Digests.{public-is, public-held, behind-long, put-behind}
use Rattle.signature.proofs.digest.put_bytes.Goals as goal

pub overflow_add-n : goal.overflow_add-n
overflow_add-n c =
    omega (arith, c.args.row.tabled.vk, c.args.row.tabled.seed-low, c.args.row.tabled.rows-low, c.args.row.tabled.hash-low)

pub slice_bounds-copy_into-end : goal.slice_bounds-copy_into-end
slice_bounds-copy_into-end c = omega (arith, c.requires.out_len)

pub digest_into-requires : goal.digest_into-requires
digest_into-requires c =
    let b = c.args in
    let x = rw c.key_bytes-bytes.ensures at c.copy_into.ensures in
    let h = public-held b.row.p b.key c.requires.bytes_held in
    (c.requires.bytes_held, behind-long (key_bytes b.key) b.out.now _ b.row.p.vk_bytes (b.row.p.kappa / 4) x h c.requires.out_len)

pub returns : goal.returns
returns c =
    let b = c.args in
    let x = rw c.key_bytes-bytes.ensures at c.copy_into.ensures in
    let h = public-held b.row.p b.key c.requires.bytes_held in
    put-behind (key_bytes b.key) b.out.now _ b.row.p.vk_bytes (b.row.p.kappa / 4) x h c.requires.out_len _
    ∙ ap (λ (d : List _). take b.row.p.vk_bytes (key_bytes b.key) ++ d) c.digest_into.ensures
    ∙ ap (λ (v : List _). v ++ digest_of b.row.p (key_lent b.key)) (sym (public-is b.row.p b.key))
