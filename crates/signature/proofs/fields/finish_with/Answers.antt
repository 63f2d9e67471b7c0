use mathlib.Core.Path.{◌≡◌, sym, ap, subst, ◌∙◌}
use mathlib.Core.List.{List}
use Prim.Native.Nat.{ℕ, ◌+◌, ◌-◌, ◌*◌}
use native.Mathlib.Omega.{arith}
use lib.Dec.{lit<}
use lib.ListN.{length, take, drop}
use Rattle.ring.specs.Words.{q}
use Rattle.ring.specs.Rns.{words_of}
use Rattle.ring.specs.Round.{residues}
use Rattle.sharing.specs.Region.{span}
use Rattle.sharing.proofs.Regions.{length-span, span-words}
use Rattle.signature.specs.AnswerSteps.{FinishedAs}
use Rattle.signature.specs.Form.{Fields}
use Rattle.signature.specs.Keys.{vk_vector}
use Rattle.signature.specs.Layout.{at_t, at_x}
use Rattle.signature.specs.MaskedSteps.{matrix_in}
use Rattle.signature.specs.Recover.{centred_all, recovered}
use Rattle.signature.specs.Sign.{finished}
use Rattle.signature.proofs.Finished.{hint-small, hint-length, response-small, response-length, fields-are}
use Rattle.signature.proofs.Sizes.{room}
use Rattle.signature.proofs.fields.finish_with.Goals as goal

pub centred_into-requires : goal.centred_into-requires
centred_into-requires c =
    let b = c.args in
    let p = b.a.row.p in
    let x = at_x p.k p.l p.shares in
    let e : p.l * 512 ≡ x + p.l * 512 - x = omega arith in
    let w = span-words b.work.now x (p.l * 512) (room p c.args.a.row.tabled (length b.work.now) c.requires.work_len.0).2 c.requires.work_len.1 in
    rw (c.at_x-b.ensures, ← e)
    (c.requires.hint_len.1 ∙ sym w.long, w.low, lit< tt, lit< tt)

pub write_fields-requires : goal.write_fields-requires
write_fields-requires c =
    let b = c.args in
    let p = b.a.row.p in
    let R = room p c.args.a.row.tabled (length b.work.now) c.requires.work_len.0 in
    let x = at_x p.k p.l p.shares in
    let z = span-words b.work.now x (p.l * 512) R.2 c.requires.work_len.1 in
    let e : x + p.l * 512 - x ≡ p.l * 512 = omega arith in
    let f = rw c.at_x-b.ensures at c.centred_into.ensures ∙ ap (λ (j : ℕ). centred_all q (take j (drop x b.work.now))) e in
    let v = span b.work.now x (p.l * 512) in
    let y = recovered p (matrix_in p (words_of b.a.words.now)) v (residues q b.c) (vk_vector p b.vk.now) in
    let w = span b.work.now (at_t p.l p.shares) (p.k * 512) in
    let h = c.make_hint.ensures in record { hash_len = (c.requires.vk_len.2, omega (arith, hint-length w y h, length-span b.work.now (at_t p.l p.shares) (p.k * 512) R.1, c.args.a.row.tabled.rows-low), omega (arith, response-length v f, z.long, c.args.a.row.tabled.columns-low), c.requires.hint_len.2); by_index = hint-small w y h c.requires.work_len.2; by_index_2 = response-small v f z.low }

pub returns : goal.returns
returns c =
    let b = c.args in
    let p = b.a.row.p in
    let x = at_x p.k p.l p.shares in
    let e : x + p.l * 512 - x ≡ p.l * 512 = omega arith in
    let f = rw c.at_x-b.ensures at c.centred_into.ensures ∙ ap (λ (j : ℕ). centred_all q (take j (drop x b.work.now))) e in
    let m = c.make_hint.ensures in
    let w = c.write_fields in
    λ (mu : List ℕ).
    subst (λ (y : Fields). FinishedAs (finished p y) w.result b.out.now w.new.out)
    (fields-are p (record { matrix = matrix_in p (words_of b.a.words.now); vector = vk_vector p b.vk.now; mu = mu }) (span b.work.now (at_t p.l p.shares) (p.k * 512)) b.hash.now (span b.work.now x (p.l * 512)) b.c _ _ m f)
    w.ensures
