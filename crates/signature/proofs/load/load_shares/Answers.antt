use mathlib.Core.Path.{refl, ap, ◌∙◌}
use native.Mathlib.Omega.{arith}
use Rattle.hash.specs.Refusal.{unless}
use Rattle.hash.specs.declared.refusal.Refusal.{Refusal}
use Rattle.hash.proofs.Refusals.{unless-is}
use Rattle.ring.proofs.Filled.{some_same, some-filled}
use Rattle.signature.specs.Matrix.{filled}
use Rattle.signature.proofs.Expanded.{vk-in, key-part-long, key-part-low}
use Rattle.signature.proofs.Loads.{packed-long, packed-low, packed-shares, expanded-long, expanded-low}
use Rattle.signature.proofs.Sizes.{cleared}
use Rattle.signature.proofs.load.load_shares.Goals as goal

pub slice_bounds-bytes-count : goal.slice_bounds-bytes-count
slice_bounds-bytes-count c =
    let k = rw c.in-Signing.is at c.requires.words_value in
    vk-in c.args.row.p c.args.row.tabled c.in-Signing.bytes.now (packed-long c.args.row.p c.in-Signing.bytes.now k.0)

pub slice_bounds-bytes-start : goal.slice_bounds-bytes-start
slice_bounds-bytes-start c =
    let k = rw c.in-Signing.is at c.requires.words_value in
    vk-in c.args.row.p c.args.row.tabled c.in-Signing.bytes.now (packed-long c.args.row.p c.in-Signing.bytes.now k.0)

pub invariant_of-load_part : goal.invariant_of-load_part
invariant_of-load_part c =
    let k = rw c.in-Signing.is at c.requires.words_value in
    record { sized = key-part-long c.args.row.p c.args.row.tabled c.in-Signing.bytes.now (packed-long c.args.row.p c.in-Signing.bytes.now k.0) }

pub load_part-requires : goal.load_part-requires
load_part-requires c =
    let p = c.args.row.p in
    let key = c.in-Signing.bytes.now in
    let k = rw c.in-Signing.is at c.requires.words_value in
    let n = packed-long p key k.0 in
    let w = cleared c.args.work.now _ c.clear.ensures in
    let m = w.long ∙ c.requires.work_len in record {
      words_low = key-part-low p c.args.row.tabled key n (packed-low p key k.1);
      shares_in_bounds = (omega (arith, m, c.at_s-at.ensures), w.low);
    }

pub returns-in-Signing : goal.returns-in-Signing
returns-in-Signing c =
    let w = cleared c.args.work.now _ c.clear.ensures in
    let z = c.load_part.ensures in
    let e = packed-shares c.args.row.p c.in-Signing.bytes.now in
    rw c.in-Signing.is record {
      value = (z.value.0 ∙ ap (λ o. unless Refusal.UniformNotFilled (filled o)) e, z.value.1 ∙ w.long, z.value.2);
      by_index = λ X f. rw (← c.at_s-at.ensures) (z.by_index X (e ∙ f)).new;
    }

pub load_words-requires : goal.load_words-requires
load_words-requires c =
    let p = c.args.row.p in
    let E = c.in-Expanded in
    let k = rw E.is at c.requires.words_value in
    let n = (expanded-long p E.bytes.now E.words.now k.0).1 in
    let w = cleared c.args.work.now _ c.clear.ensures in
    let m = w.long ∙ c.requires.work_len in
    (omega (arith, m, n, c.at_s-at.ensures), w.low, expanded-low p E.bytes.now E.words.now k.1)

pub returns-in-Expanded : goal.returns-in-Expanded
returns-in-Expanded c =
    let p = c.args.row.p in
    let E = c.in-Expanded in
    let k = rw E.is at c.requires.words_value in
    let n = (expanded-long p E.bytes.now E.words.now k.0).1 in
    let w = cleared c.args.work.now _ c.clear.ensures in
    let u = c.load_words.ensures in
    rw E.is record {
      value = (unless-is _ (some-filled _ E.words.now refl), u.long ∙ w.long, u.low);
      by_index = λ X f. rw (← c.at_s-at.ensures, ← n) (u.new ∙ some_same E.words.now X f);
    }
