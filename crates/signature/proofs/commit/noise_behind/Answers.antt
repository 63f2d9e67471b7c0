use lib.ListN.{length}
use Rattle.signature.proofs.Commits.{seeds-behind, words-behind}
use Rattle.signature.proofs.Sizes.{coins-first}
use Rattle.signature.proofs.commit.noise_behind.Goals as goal

pub slice_bounds-result-count : goal.slice_bounds-result-count
slice_bounds-result-count c =
    let w = rw c.in-Seeds.is at c.requires in
    coins-first c.args.row.p c.args.row.tabled (length c.in-Seeds.seeds.now) w.0

pub slice_bounds-result-start : goal.slice_bounds-result-start
slice_bounds-result-start c =
    let w = rw c.in-Seeds.is at c.requires in
    coins-first c.args.row.p c.args.row.tabled (length c.in-Seeds.seeds.now) w.0

pub returns-in-Seeds : goal.returns-in-Seeds
returns-in-Seeds c =
    let w = rw c.in-Seeds.is at c.requires in
    rw c.in-Seeds.is (seeds-behind c.args.row.p c.args.row.tabled c.in-Seeds.u c.in-Seeds.seeds.now w)

pub returns-in-Words : goal.returns-in-Words
returns-in-Words c =
    let w = rw c.in-Words.is at c.requires in
    rw c.in-Words.is (words-behind c.args.row.p c.args.row.tabled c.in-Words.words.now w)
