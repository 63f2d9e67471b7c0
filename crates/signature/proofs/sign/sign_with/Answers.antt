use Rattle.hash.specs.Refusal.{number_of}
use Rattle.hash.proofs.Refusals.{unless-yes, unless-no}
use mathlib.Core.List.{List}
use mathlib.Core.Option.{some}
use mathlib.Core.Path.{sym, ap, subst, ◌∙◌}
use Prim.Native.Nat.{ℕ, ◌/◌}
use native.Mathlib.Omega.{arith}
use lib.ListN.{length}
use Rattle.ring.specs.UniformSteps.{poly_of}
use Rattle.ring.specs.Words.{Below}
use Rattle.ring.proofs.Filled.{filled-some}
use Rattle.ring.proofs.Sums.{all-below}
use Rattle.signature.specs.AttemptSteps.{key_lent, coins_lent, key_in}
use Rattle.signature.specs.Keys.{vk_vector, digest_of, shares_of}
use Rattle.signature.specs.Outcome.{signing}
use Rattle.signature.proofs.Digests.{public-front, front-digest-in, front-digest-is}
use Rattle.signature.proofs.Fronts.{front_long}
use Rattle.signature.proofs.SignChecks.{signable}
use Rattle.signature.proofs.SignEnds.{bytes-held, public-in, public-long, end-unfilled, end-made}
use Rattle.signature.proofs.sign.sign_with.Goals as goal

pub load_shares-requires : goal.load_shares-requires
load_shares-requires c =
    let g = signable _ _ _ _ _ _ _ c.requires.work_value in
    record { work_len = g.work-long; words_value = (g.sized, g.low) }

pub returns-in-Err : goal.returns-in-Err
returns-in-Err c =
    let b = c.args in
    let z = c.load_shares.ensures in
    let r = c.refused.ensures in
    let u = unless-no _ _ (sym c.in-Err.is ∙ z.value.0) in
    ap (signing _ _ b.out.now) c.clear.ensures
    ∙ end-unfilled b.row.p (key_lent b.key) b.msg.now (coins_lent b.coins) b.n b.out.now b.work.now
    c.load_shares.new.work z.value.1 u.0 _ _ (r.0 ∙ ap number_of u.1) r.1

pub slice_bounds-digest-end : goal.slice_bounds-digest-end
slice_bounds-digest-end c = omega (arith, c.args.row.tabled.hash-low)

pub digest_into-requires : goal.digest_into-requires
digest_into-requires c =
    let b = c.args in
    let g = signable _ _ _ _ _ _ _ c.requires.work_value in
    (bytes-held b.row.p c.args.row.tabled b.key g.sized, front_long 0 (b.row.p.kappa / 4) 64 c.args.row.tabled.hash-low)

pub slice_bounds-h-end : goal.slice_bounds-h-end
slice_bounds-h-end c =
    let d = c.digest_into in
    front-digest-in c.args.row.p c.args.row.tabled.hash-low d.new.out d.auto.out

pub slice_bounds-sign_loaded-end : goal.slice_bounds-sign_loaded-end
slice_bounds-sign_loaded-end c =
    let b = c.args in
    let g = signable _ _ _ _ _ _ _ c.requires.work_value in
    rw c.key_bytes-bytes.ensures (public-in b.row.p c.args.row.tabled b.key g.sized)

pub sign_loaded-r-requires : goal.sign_loaded-r-requires
sign_loaded-r-requires c =
    let b = c.args in
    let g = signable _ _ _ _ _ _ _ c.requires.work_value in
    let z = c.load_shares.ensures in
    let e = rw (← c.key_bytes-bytes.ensures) at (public-front b.row.p b.key) in
    let n = public-long b.row.p c.args.row.tabled b.key g.sized in
    let v = all-below 125 _ g.good in record {
      work_len = (z.value.1 ∙ g.work-long, z.value.2);
      vk_len = (ap (λ (l : List ℕ). length l) e ∙ n, subst (λ (l : List ℕ). Below 125 (vk_vector b.row.p l)) (sym e) v, g.out-long);
      n_bound = (g.most, g.coins);
    }

pub returns : goal.returns
returns c =
    let b = c.args in
    let p = b.row.p in
    let K = key_lent b.key in
    let T = coins_lent b.coins in
    let w = c.load_shares in
    let z = w.ensures in
    let f = filled-some (shares_of p K) (unless-yes _ _ (sym c.in_default.is ∙ z.value.0)) in
    let x = z.by_index (poly_of (shares_of p K)) f in
    let e = rw (← c.key_bytes-bytes.ensures) at (public-front p b.key) in
    let d = c.digest_into in
    let r = c.sign_loaded-r in
    ap (signing _ _ _) c.clear-2.ensures
    ∙ end-made p K b.msg.now T b.n b.out.now b.work.now r.new.work (r.ensures.work_len_unchanged ∙ z.value.1)
    _ _ (key_in p w.new.work) e (front-digest-is p c.args.row.tabled.hash-low d.new.out d.auto.out (digest_of p K) d.ensures) (f ∙ ap (λ (l : List ℕ). some l) (sym x)) _ _ _ r.ensures.out_after
