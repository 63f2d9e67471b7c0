use mathlib.Core.Path.{◌≡◌, sym, ap, ◌∙◌}
use Prim.Native.Nat.{ℕ, ◌*◌}
use native.Mathlib.Omega.{arith}
use lib.Dec.{lit<}
use lib.ListN.{length-replicate}
use Rattle.hash.proofs.Rows.{count_low}
use Rattle.ring.proofs.Sums.{below-zeros}
use Rattle.signature.proofs.Renewed.{refresh-laid, refresh-all}
use Rattle.ring.specs.Words.{q}
use Rattle.sharing.specs.Region.{span}
use Rattle.sharing.specs.Encoding.{skip}
use Rattle.sharing.specs.Masks.{masks}
use Rattle.sharing.proofs.Lists.{inside}
use Rattle.sharing.proofs.Regions.{wrote-start}
use Rattle.sharing.proofs.Totals.{skip-none, skip-next}
use Rattle.sharing.proofs.Turns.{renewed}
use borrow.Author.Rules.{rules}
use Rattle.signature.proofs.keys.refresh_words.Goals as goal

pub loop-i-init : goal.loop-i-init
loop-i-init c =
    let d = c.args.row.p.shares in
    let s = c.args.s.now in (
      search rules,
      wrote-start (d * 512) (renewed masks d c.args.g (span s 0 (c.args.row.p.l * (d * 512)))) 0 0 s c.requires.low,
      sym (skip-none masks d c.args.g),
      length-replicate {A = ℕ} 16384 0,
      below-zeros q (lit< tt) 16384,
    )

pub overflow_mul-a : goal.overflow_mul-a
overflow_mul-a c = omega (arith, (count_low c.args.row.p.shares c.args.row.tabled.count).1)

pub overflow_mul-a-in-loop-i : goal.overflow_mul-a-in-loop-i
overflow_mul-a-in-loop-i c = omega (arith, inside c.loop-i.i c.args.row.p.l (c.args.row.p.shares * 512) c.loop-i-test.true, c.requires.long)

pub zero_encoding_at-x-requires : goal.zero_encoding_at-x-requires
zero_encoding_at-x-requires c =
    let l = c.loop-i.invariant in
    (c.args.row.tabled.count, omega (arith, (count_low c.args.row.p.shares c.args.row.tabled.count).1, l.3), l.4)

pub add_shares_at-requires : goal.add_shares_at-requires
add_shares_at-requires c =
    let l = c.loop-i in
    let z = c.zero_encoding_at-x.ensures.0 in (
      omega (arith, inside l.i c.args.row.p.l (c.args.row.p.shares * 512) c.loop-i-test.true, c.requires.long, l.invariant.1.long),
      omega (arith, (count_low c.args.row.p.shares c.args.row.tabled.count).1, z.long, l.invariant.3),
      l.invariant.1.low,
      z.low,
    )

pub loop-i-preserved : goal.loop-i-preserved
loop-i-preserved c =
    let l = c.loop-i in
    let d = c.args.row.p.shares in
    let g = c.args.g in
    let z = c.zero_encoding_at-x.ensures in (
      omega arith,
      refresh-laid d c.args.row.p.l l.i g l.x c.args.s.now l.s _ _ c.loop-i-test.true l.invariant.2 l.invariant.1 z.0.new c.add_shares_at.ensures,
      skip-next masks d l.i g l.x _ l.invariant.2 z.1,
      z.0.long ∙ l.invariant.3,
      z.0.low,
    )

pub returns : goal.returns
returns c =
    let l = c.loop-i in
    let e : l.i ≡ c.args.row.p.l = omega arith in
    (refresh-all c.args.row.p.shares c.args.row.p.l l.i c.args.g c.args.s.now l.s e c.requires.long l.invariant.1, l.invariant.2 ∙ ap (λ n. skip masks c.args.row.p.shares n c.args.g) e)
