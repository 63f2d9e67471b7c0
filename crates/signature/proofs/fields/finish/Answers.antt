use Prim.Native.Nat.{◌*◌}
use native.Mathlib.Omega.{arith}
use lib.IntN.{pos}
use Rattle.signature.proofs.Fronts.{front_long}
use Rattle.signature.proofs.fields.finish.Goals as goal

pub finish_with-requires : goal.finish_with-requires
finish_with-requires c =
    record { work_len = c.requires.work_len; vk_len = (c.requires.vk_len.0, c.requires.vk_len.1, c.requires.vk_len.2); hint_len = (front_long (pos 0) (c.args.a.row.p.k * 512) 4608 (omega (arith, c.args.a.row.tabled.rows-low)), front_long (pos 0) (c.args.a.row.p.l * 512) 3584 (omega (arith, c.args.a.row.tabled.columns-low)), c.requires.vk_len.3) }
