use Rattle.hash.specs.Refusal.{number_of}
use Rattle.hash.proofs.Refusals.{unless-yes, unless-no}
use mathlib.Core.Path.{refl, sym, ap, ◌∙◌}
use mathlib.Core.List.{List, ◌++◌}
use Prim.Native.Nat.{ℕ, ◌/◌}
use native.Mathlib.Omega.{arith}
use lib.ListN.{replicate}
use Rattle.signature.specs.AttemptSteps.{coins_lent, key_in}
use Rattle.signature.specs.Digest.{bound_to}
use Rattle.signature.specs.Keys.{vk_seed}
use Rattle.signature.specs.Matrix.{matrix, filled}
use Rattle.signature.proofs.AttemptEnds.{told-as, matrix-none, matrix-made}
use Rattle.signature.proofs.Fronts.{digest-in, digest-is}
use Rattle.signature.proofs.SignEnds.{seed-front}
use Rattle.signature.proofs.Sizes.{matrix-held, matrix-new}
use Rattle.signature.proofs.sign.sign_loaded.Goals as goal

pub slice_bounds-expand_matrix-end-2 : goal.slice_bounds-expand_matrix-end-2
slice_bounds-expand_matrix-end-2 c = omega (arith, c.requires.vk_len.0, c.args.row.tabled.vk)

pub expand_matrix-requires : goal.expand_matrix-requires
expand_matrix-requires c = matrix-new c.args.row.p c.args.row.tabled

pub returns-in-Err : goal.returns-in-Err
returns-in-Err c =
    let p = c.args.row.p in
    let vk = c.args.vk.now in
    let r = c.refused.ensures in
    let u = unless-no _ _ (sym c.in-Err.is ∙ c.expand_matrix.ensures.value.0) in
    let no = ap (λ (l : List ℕ). filled (matrix p l)) (sym (seed-front p vk)) ∙ u.0 in
    record { work_len_unchanged = refl; out_after = told-as _ (r.0 ∙ ap number_of u.1) r.1 (matrix-none _ _ _ _ _ _ _ _ (matrix p (vk_seed p vk)) no) }

pub slice_bounds-mu-end : goal.slice_bounds-mu-end
slice_bounds-mu-end c = omega (arith, c.args.row.tabled.hash-low)

pub slice_bounds-m-end : goal.slice_bounds-m-end
slice_bounds-m-end c =
    let b = c.args in
    digest-in (b.row.p.kappa / 4) (replicate 64 0) c.hash_two.new.out (b.digest.now ++ b.msg.now) c.args.row.tabled.hash-low c.hash_two.ensures

pub invariant_of-attempt_all : goal.invariant_of-attempt_all
invariant_of-attempt_all c =
    let z = c.expand_matrix.ensures.value in
    record { held = matrix-held c.args.row.p c.args.row.tabled _ z.1 z.2 }

pub attempt_all-requires : goal.attempt_all-requires
attempt_all-requires c =
    record { work_len = c.requires.work_len; vk_len = c.requires.vk_len; n_bound = c.requires.n_bound }

pub returns : goal.returns
unfolding bound_to
returns c =
    let b = c.args in
    let p = b.row.p in
    let x = c.expand_matrix.ensures in
    let m = c.hash_two in
    let r = c.attempt_all.ensures in
    let e = seed-front p b.vk.now in
    let mu = digest-is (p.kappa / 4) (replicate 64 0) m.new.out (b.digest.now ++ b.msg.now) c.args.row.tabled.hash-low m.ensures in
    let yes = ap (λ (l : List ℕ). filled (matrix p l)) (sym e) ∙ unless-yes _ _ (sym c.in_default.is ∙ x.value.0) in record {
      work_len_unchanged = r.work_len_unchanged;
      out_after = matrix-made p b.vk.now b.digest.now b.msg.now (coins_lent b.coins) b.n (key_in p b.work.now) b.out.now (matrix p (vk_seed p b.vk.now))
          _ _ _ yes (λ (A : List ℕ) h. x.by_index A (ap (matrix p) e ∙ h)) mu r.out_after;
    }
