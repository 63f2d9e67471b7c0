use Rattle.signature.specs.AttemptSteps.{coins_lent, key_in}
use Rattle.signature.specs.MaskedSteps.{matrix_in}
use mathlib.Core.List.{List}
use mathlib.Core.Path.{◌≡◌, refl, ap, ◌∙◌}
use Prim.Native.Nat.{ℕ, ◌-◌}
use native.Mathlib.Omega.{arith}
use lib.ListN.{length}
use Rattle.signature.specs.Sign.{public_by, sign_from}
use Rattle.signature.proofs.AttemptEnds.{told-as, all-over, all_pass, all-stuck, all-dry, all-next}
use Rattle.signature.proofs.Coins.{coins-within}
use Rattle.ring.specs.Rns.{words_of}
use Rattle.signature.proofs.sign.attempt_all.Goals as goal

pub loop-i-init : goal.loop-i-init
loop-i-init c =
    let b = c.args in
    let e : b.n ≡ b.n - 0 = omega arith in (
      omega arith,
      refl,
      c.requires.work_len.1,
      refl,
      ap (λ m. sign_from b.a.row.p (public_by b.a.row.p b.vk.now b.mu.now (matrix_in b.a.row.p (words_of b.a.words.now))) (coins_lent b.coins) m 0 (key_in b.a.row.p b.work.now)) e,
    )

pub attempt-requires : goal.attempt-requires
attempt-requires c =
    let i = c.loop-i.invariant in record {
      work_len = (i.1 ∙ c.requires.work_len.0, i.2);
      vk_len = (c.requires.vk_len.0, c.requires.vk_len.1, ap (λ (l : List ℕ). length l) i.3 ∙ c.requires.vk_len.2);
      within = coins-within c.args.a.row.p c.args.n c.loop-i.i c.loop-i-test.true c.requires.n_bound.0 (coins_lent c.args.coins) c.requires.n_bound.1;
    }

pub overflow_add-i : goal.overflow_add-i
overflow_add-i c = omega (arith, c.loop-i-test.true, c.requires.n_bound.0)

pub made-requires : goal.made-requires
made-requires c = omega (arith, c.loop-i-test.true, c.requires.n_bound.0)

pub shape_of-out-in-Made : goal.shape_of-out-in-Made
shape_of-out-in-Made c = c.attempt.auto.out ∙ ap (λ (l : List ℕ). length l) c.loop-i.invariant.3

pub returns-in-Made : goal.returns-in-Made
returns-in-Made c =
    let i = c.loop-i.invariant in
    let v = c.attempt.ensures in
    let r = c.made.ensures in record {
      work_len_unchanged = v.work_len_unchanged.0 ∙ i.1;
      out_after = told-as _ r.0 r.1 (all_pass _ _ _ _ _ _ _ i.4 c.loop-i-test.true i.3 v.ended_at c.in-Made.is);
    }

pub loop-i-preserved : goal.loop-i-preserved
loop-i-preserved c =
    let i = c.loop-i.invariant in
    let v = c.attempt.ensures in
    let n = all-next _ _ _ _ _ _ _ i.4 c.loop-i-test.true i.3 v.ended_at c.in-Over.is in
    (omega (arith, c.loop-i-test.true), v.work_len_unchanged.0 ∙ i.1, v.work_len_unchanged.1, n.0, n.1)

pub overflow_add-i-in-Stuck : goal.overflow_add-i-in-Stuck
overflow_add-i-in-Stuck c = omega (arith, c.loop-i-test.true, c.requires.n_bound.0)

pub refused-requires : goal.refused-requires
refused-requires c = omega (arith, c.loop-i-test.true, c.requires.n_bound.0)

pub shape_of-out-in-Stuck : goal.shape_of-out-in-Stuck
shape_of-out-in-Stuck c = c.attempt.auto.out ∙ ap (λ (l : List ℕ). length l) c.loop-i.invariant.3

pub returns-in-Stuck : goal.returns-in-Stuck
returns-in-Stuck c =
    let i = c.loop-i.invariant in
    let v = c.attempt.ensures in
    let r = c.refused.ensures in record {
      work_len_unchanged = v.work_len_unchanged.0 ∙ i.1;
      out_after = told-as _ r.0 r.1 (all-stuck _ _ _ _ _ _ _ i.4 c.loop-i-test.true i.3 v.ended_at c.in-Stuck.is);
    }

pub overflow_add-i-in-Dry : goal.overflow_add-i-in-Dry
overflow_add-i-in-Dry c =
    omega (arith, c.loop-i-test.true, c.requires.n_bound.0)

pub refused-requires-in-Dry : goal.refused-requires-in-Dry
refused-requires-in-Dry c =
    omega (arith, c.loop-i-test.true, c.requires.n_bound.0)

pub shape_of-out-in-Dry : goal.shape_of-out-in-Dry
shape_of-out-in-Dry c =
    c.attempt.auto.out ∙ ap (λ (l : List ℕ). length l) c.loop-i.invariant.3

pub returns-in-Dry : goal.returns-in-Dry
returns-in-Dry c =
    let i = c.loop-i.invariant in
    let v = c.attempt.ensures in
    let r = c.refused-in-Dry.ensures in record {
      work_len_unchanged = v.work_len_unchanged.0 ∙ i.1;
      out_after = told-as _ r.0 r.1 (all-dry _ _ _ _ _ _ _ i.4 c.loop-i-test.true i.3 v.ended_at c.in-Dry.is);
    }

pub refused-requires-2 : goal.refused-requires-2
refused-requires-2 c = omega (arith, c.loop-i.invariant.0, c.requires.n_bound.0)

pub shape_of-out : goal.shape_of-out
shape_of-out c = ap (λ (l : List ℕ). length l) c.loop-i.invariant.3

pub returns : goal.returns
returns c =
    let i = c.loop-i.invariant in
    let e : c.args.n ≡ c.loop-i.i = omega (arith, c.loop-i.invariant.0, c.loop-i-test.false) in
    let r = c.refused-2.ensures in record { work_len_unchanged = i.1; out_after = told-as _ r.0 (r.1 ∙ e) (all-over _ _ _ _ _ _ _ i.4 i.3 (omega (arith, e))) }
