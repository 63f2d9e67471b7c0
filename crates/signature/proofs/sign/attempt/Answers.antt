use mathlib.Core.Path.{◌≡◌, ◌∙◌}
use native.Mathlib.Omega.{arith}
use Prim.Native.Nat.{◌-◌, ◌/◌}
use lib.ListN.{replicate}
use borrow.Author.Tests.{not-true, not-false}
use borrow.Rule.Slice.PartMut.{mid_len}
use Rattle.signature.proofs.AttemptEnds.{hash-in, hash-read, hash-read-long, commitment-low, masks-filled, ended-dry-before, ended_stuck, ended-dry-behind, ended-made, ended-over}
use Rattle.signature.proofs.sign.attempt.Goals as goal

pub returns-then-not-g : goal.returns-then-not-g
returns-then-not-g c =
    let z = c.commit-g.ensures in record {
      work_len_unchanged = (z.0, z.1);
      ended_at = ended-dry-before z.2 (not-true _ c.if-not-g.true) c.args.out.now;
    }

pub slice_bounds-hash-end : goal.slice_bounds-hash-end
slice_bounds-hash-end c = omega (arith, c.args.a.row.tabled.hash-low)

pub answer-r-requires : goal.answer-r-requires
answer-r-requires c =
    let z = c.commit-g.ensures in
    let n = c.args.a.row.p.kappa / 4 in
    let o : n - 0 ≡ n = omega arith in
    (z.0 ∙ c.requires.work_len.0, z.1, mid_len 0 n (replicate 64 0) c.args.a.row.tabled.hash-low ∙ o)

pub returns-in_default : goal.returns-in_default
returns-in_default c =
    let z = c.commit-g.ensures in
    let v = c.answer-r.ensures in record {
      work_len_unchanged = (v.work_len_unchanged.0 ∙ z.0, v.work_len_unchanged.1);
      ended_at = ended_stuck _ (v.answered _ _ _ _ z.2) (masks-filled z.2 (not-false _ c.if-not-g.false)) c.in_default.is c.args.out.now;
    }

pub returns-then-not-r : goal.returns-then-not-r
returns-then-not-r c =
    let z = c.commit-g.ensures in
    let v = c.answer-r.ensures in record {
      work_len_unchanged = (v.work_len_unchanged.0 ∙ z.0, v.work_len_unchanged.1);
      ended_at = ended-dry-behind _ (v.answered _ _ _ _ z.2) (masks-filled z.2 (not-false _ c.if-not-g.false)) c.in-Some.is
          (not-true _ c.if-not-r.true) c.args.out.now;
    }

pub slice_bounds-finish-end : goal.slice_bounds-finish-end
slice_bounds-finish-end c = hash-in (c.answer-r.ensures.answered _ _ _ _ c.commit-g.ensures.2) c.args.a.row.tabled.hash-low

pub finish-requires : goal.finish-requires
finish-requires c =
    let z = c.commit-g.ensures in
    let v = c.answer-r.ensures in
    let u = v.answered _ _ _ _ z.2 in record {
      work_len = (v.work_len_unchanged.0 ∙ z.0 ∙ c.requires.work_len.0, v.work_len_unchanged.1, commitment-low u);
      vk_len = (c.requires.vk_len.0, c.requires.vk_len.1, hash-read-long u c.args.a.row.tabled.hash-low, c.requires.vk_len.2);
    }

pub returns-then-finish : goal.returns-then-finish
returns-then-finish c =
    let z = c.commit-g.ensures in
    let v = c.answer-r.ensures in
    let u = v.answered _ _ _ _ z.2 in record {
      work_len_unchanged = (v.work_len_unchanged.0 ∙ z.0, v.work_len_unchanged.1);
      ended_at = ended-made _ u (masks-filled z.2 (not-false _ c.if-not-g.false)) c.in-Some.is (not-false _ c.if-not-r.false)
          _ (hash-read u c.args.a.row.tabled.hash-low) _ _ _ (c.finish.ensures c.args.mu.now) c.if-finish.true;
    }

pub returns : goal.returns
returns c =
    let z = c.commit-g.ensures in
    let v = c.answer-r.ensures in
    let u = v.answered _ _ _ _ z.2 in record {
      work_len_unchanged = (v.work_len_unchanged.0 ∙ z.0, v.work_len_unchanged.1);
      ended_at = ended-over _ u (masks-filled z.2 (not-false _ c.if-not-g.false)) c.in-Some.is (not-false _ c.if-not-r.false)
          _ (hash-read u c.args.a.row.tabled.hash-low) _ _ _ (c.finish.ensures c.args.mu.now) c.if-finish.false;
    }
