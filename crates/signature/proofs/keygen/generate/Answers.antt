use mathlib.Core.Path.{sym, ◌∙◌}
use Rattle.hash.proofs.Refusals.{ok-told, not-ok}
use Rattle.signature.proofs.KeyDone.{keygen-none, keygen-some}
use Rattle.signature.proofs.keygen.generate.Goals as goal
use Rattle.signature.proofs.keygen.generate.Goals.{then-is_ok, else-is_ok}

pub write_made-requires : goal.write_made-requires
write_made-requires c =
    record { work_len = (c.make_key-made.ensures.value.1 ∙ c.requires.work_len.0, c.requires.work_len.1); out_len = c.requires.out_len }

pub returns : goal.returns
returns c =
    let b = c.args in
    let m = c.make_key-made in
    let e = m.ensures in
    elim c.if-is_ok.branch [
      | then-is_ok w ↦
          let yes = ok-told m.result (sym c.is_ok.ensures.value ∙ w.if-is_ok.true) in
          rw (yes, w.out-is, c.clear.ensures)
          (keygen-some b.row.p b.seeds.now b.mask_seed.now b.out.now b.work.now _ e.value.0 _ m.new.work yes e.by_index w.write_made.ensures e.value.1)
      | else-is_ok w ↦
          let no = not-ok m.result (sym c.is_ok.ensures.value ∙ w.if-is_ok.false) in
          rw (w.out-is, c.clear.ensures)
          (keygen-none b.row.p b.seeds.now b.mask_seed.now b.out.now b.work.now _ e.value.0 m.new.work no e.value.1)
    ]
