use Rattle.std.proofs.Common.{rules, ◌≡◌, true, length, sym, ◌∙◌, arith}
use Rattle.hash.proofs.Rows.{count_low}
use Rattle.ring.proofs.Sums.{all-below}
use Rattle.ring.specs.Words.{q, all_below}
use Rattle.sharing_vectors.proofs.refreshed.Goals as goal

pub refresh_at-requires : goal.refresh_at-requires
refresh_at-requires g c =
    let size : length c.loop-i.s ≡ 32768 = search rules in
    let below : all_below q c.loop-i.s ≡ true = sym c.all_below.ensures ∙ c.if-all_below.true in
    (c.requires, omega arith, omega (arith, count_low c.args.p.shares c.requires, size), all-below q c.loop-i.s below)
