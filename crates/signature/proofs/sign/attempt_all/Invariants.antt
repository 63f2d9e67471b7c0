use Rattle.signature.specs.AttemptSteps.{coins_lent, key_in}
use Rattle.signature.specs.MaskedSteps.{matrix_in}
use mathlib.Core.Path.{◌≡◌}
use Prim.Native.Nat.{◌-◌, ◌≤◌}
use lib.ListN.{length}
use Rattle.ring.specs.Words.{q, Below}
use Rattle.signature.specs.Sign.{public_by, sign_from}
use Rattle.ring.specs.Rns.{words_of}
use Rattle.signature.proofs.sign.attempt_all.Given as goal

abbrev pub invariant-loop-i : goal.invariant-loop-i
invariant-loop-i l =
    (l.i ≤ l.n) × (length l.work ≡ length l.initial.work) × Below q l.work × (l.out ≡ l.initial.out)
    × (sign_from l.a.row.p (public_by l.a.row.p l.vk l.mu (matrix_in l.a.row.p (words_of l.a.words.now))) (coins_lent l.coins) l.n 0 (key_in l.a.row.p l.initial.work)
    ≡ sign_from l.a.row.p (public_by l.a.row.p l.vk l.mu (matrix_in l.a.row.p (words_of l.a.words.now))) (coins_lent l.coins) (l.n - l.i) l.i (key_in l.a.row.p l.work))
