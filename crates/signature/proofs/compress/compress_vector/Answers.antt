use Rattle.std.proofs.lemmas.Result.{err_from_is_err_and}
use mathlib.Core.Path.{◌≡◌, refl, sym, ap, ◌∙◌}
use mathlib.Core.Bool.{false}
use Prim.Native.Nat.{◌*◌, ◌<◌}
use native.Mathlib.Omega.{arith}
use Rattle.ring.specs.Words.{Words}
use Rattle.sharing.specs.Region.{span}
use Rattle.sharing.proofs.Regions.{wrote-start}
use Rattle.signature.specs.Compress.{collected_at, compressed_of}
use Rattle.signature.proofs.Held.{ok-some, err-none, held-if}
use Rattle.signature.proofs.Collected.{full_at, full-here, full-turn, full-end}
use Rattle.hash.proofs.Refusals.{unless-is}
use Rattle.ring.proofs.Filled.{not_there, none_filled, some-filled, held-none, held-some}
use Rattle.signature.proofs.Entries.{all_none, all_more, all-not}
use Rattle.signature.specs.Matrix.{build_all, filled}
use Rattle.sharing.proofs.Lists.{inside}
use Rattle.signature.proofs.compress.compress_vector.Goals as goal

pub loop-j-init : goal.loop-j-init
loop-j-init c =
    let b = c.args in
    let X = span b.s.now b.at (b.l * (b.d * 512)) in
    (omega arith, all_none (collected_at b.edition b.n b.seeds.now b.d X), wrote-start 512 (full_at b.edition b.n b.seeds.now b.d X) 0 b.to b.s.now c.requires.5)

pub overflow_mul-d : goal.overflow_mul-d
overflow_mul-d c =
    let a = c in
    let n = inside c.loop-j.j a.args.l (a.args.d * 512) c.loop-j-test.true in
    omega (arith, n, c.requires.3, c.requires.4)

pub overflow_mul-j : goal.overflow_mul-j
overflow_mul-j c =
    let a = c in
    let n = inside c.loop-j.j a.args.l (a.args.d * 512) c.loop-j-test.true in
    omega (arith, n, c.requires.3, c.requires.4)

pub overflow_add-at : goal.overflow_add-at
overflow_add-at c =
    let a = c in
    let n = inside c.loop-j.j a.args.l (a.args.d * 512) c.loop-j-test.true in
    omega (arith, n, c.requires.3, c.requires.4)

pub collect-requires : goal.collect-requires
collect-requires c =
    let a = c in
    let l = c.loop-j in
    let t : l.j < a.args.l = c.loop-j-test.true in
    let n = inside l.j a.args.l (a.args.d * 512) t in
    let k = l.invariant.2.long in
    (c.requires.0, c.requires.1, omega (arith, t, c.requires.2), omega (arith, n, k, c.requires.3, c.requires.4), l.invariant.2.low, c.requires.6)

pub returns-in_err-x : goal.returns-in_err-x
unfolding compressed_of
returns-in_err-x c =
    let b = c.args in
    let l = c.loop-j in
    let t : l.j < b.l = c.loop-j-test.true in
    let X = span b.s.now b.at (b.l * (b.d * 512)) in
    let r = err_from_is_err_and c.from_residual.result c.from_residual.ensures.1 in
    let n = err-none _ _ _ _ c.ok_or.ensures.value c.in_err-x.was in
    let e = full-here b.edition b.n b.seeds.now b.at b.to b.l b.d b.s.now c.requires.3 l.j l.s t l.invariant.2 in
    let lost = none_filled _ (sym e ∙ held-none _ (n.0 ∙ c.collect.ensures.0)) in
    let no : filled (compressed_of b.edition b.n b.seeds.now b.l b.d X) ≡ false = all-not b.l l.j (collected_at b.edition b.n b.seeds.now b.d X) t lost in
    record { value = (rw (r.1, r.2, n.1, no) refl, l.invariant.2.long, l.invariant.2.low); by_index = λ Y m. not_there _ Y m no }

pub store_at-requires : goal.store_at-requires
store_at-requires c =
    let l = c.loop-j in
    let t : l.j < c.args.l = c.loop-j-test.true in
    let k = l.invariant.2.long in
    let w = held-if (λ f. Words 512 f) _ _ (ok-some _ _ _ _ c.ok_or.ensures.value c.in_ok-x.was) c.collect.ensures.1 in
    (omega (arith, t, k, c.requires.4), l.invariant.2.low, w.low)

pub loop-j-preserved : goal.loop-j-preserved
loop-j-preserved c =
    let b = c.args in
    let l = c.loop-j in
    let t : l.j < b.l = c.loop-j-test.true in
    let X = span b.s.now b.at (b.l * (b.d * 512)) in
    let h = c.requires.3 in
    let e = sym (full-here b.edition b.n b.seeds.now b.at b.to b.l b.d b.s.now h l.j l.s t l.invariant.2) ∙ held-some _ _ (ok-some _ _ _ _ c.ok_or.ensures.value c.in_ok-x.was ∙ c.collect.ensures.0) in (
      omega (arith, t),
      all_more l.j (collected_at b.edition b.n b.seeds.now b.d X) l.invariant.1 (some-filled _ _ e),
      full-turn b.edition b.n b.seeds.now b.at b.to b.l b.d b.s.now h l.j l.s t l.invariant.2 _ _ e c.store_at.ensures,
    )

pub returns : goal.returns
unfolding compressed_of
returns c =
    let b = c.args in
    let l = c.loop-j in
    let e : l.j ≡ b.l = omega arith in
    let X = span b.s.now b.at (b.l * (b.d * 512)) in record { value = (unless-is _ (sym (ap (λ n. filled (build_all n (collected_at b.edition b.n b.seeds.now b.d X))) e) ∙ l.invariant.1), l.invariant.2.long, l.invariant.2.low); by_index = λ Y m. full-end b.edition b.n b.seeds.now b.at b.to b.l b.d b.s.now c.requires.3 l.j l.s Y e l.invariant.2 m }
