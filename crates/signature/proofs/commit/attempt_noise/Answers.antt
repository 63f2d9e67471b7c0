use native.Mathlib.Omega.{arith}
use Rattle.signature.proofs.Coins.{fits-mid, seeds-size, seeds-inside, words-taken, seeds-taken}
use Rattle.signature.proofs.commit.attempt_noise.Goals as goal

pub overflow_mul-from : goal.overflow_mul-from
overflow_mul-from c =
    let s = seeds-size c.args.row.p c.args.row.tabled c.args.i c.requires.few in
    fits-mid _ (omega (arith, s.1))

pub overflow_add-end : goal.overflow_add-end
overflow_add-end c =
    let s = seeds-size c.args.row.p c.args.row.tabled c.args.i c.requires.few in
    fits-mid _ (omega (arith, s.0, s.1))

pub slice_bounds-result-end : goal.slice_bounds-result-end
slice_bounds-result-end c =
    let b = c.args in
    let w = rw c.in-Seeds.is at c.requires in
    omega (arith, seeds-inside b.row.p c.args.row.tabled b.i b.coins.masks.now c.in-Seeds.seeds.now w)

pub returns-in-Seeds : goal.returns-in-Seeds
returns-in-Seeds c =
    let b = c.args in
    let w = rw c.in-Seeds.is at c.requires in
    rw c.in-Seeds.is (seeds-taken b.row.p c.args.row.tabled b.i b.coins.masks.now c.in-Seeds.seeds.now w)

pub returns-in-Words : goal.returns-in-Words
returns-in-Words c =
    let b = c.args in
    let w = rw c.in-Words.is at c.requires in
    rw c.in-Words.is (words-taken b.row.p c.args.row.tabled b.i b.coins.masks.now c.in-Words.words.now w)
