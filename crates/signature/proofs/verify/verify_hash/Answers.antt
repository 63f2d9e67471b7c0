use Rattle.std.proofs.lemmas.Result.{err_from_is_err_and}
use Rattle.hash.proofs.Refusals.{unless-yes, unless-no}
use mathlib.Core.Path.{◌≡◌, sym, ap, ◌∙◌}
use mathlib.Core.Bool.{Bool, false}
use mathlib.Core.List.{List, []}
use mathlib.Core.Option.{some}
use Prim.Native.Nat.{ℕ, ◌-◌, ◌*◌, ◌/◌, ◌≤◌}
use native.Mathlib.Omega.{arith}
use lib.ListN.{length, replicate}
use lib.IntN.{pos}
use borrow.Rule.Slice.PartMut.{mid_len}
use Rattle.hash.specs.Lists.{pick}
use Rattle.ring.specs.UniformSteps.{poly_of}
use Rattle.signature.specs.AnswerSteps.{fields_of}
use Rattle.signature.specs.Challenge.{chal_poly}
use Rattle.signature.specs.Checks.{same_bytes}
use Rattle.signature.specs.Keys.{vk_seed, vk_vector}
use Rattle.signature.specs.Matrix.{matrix}
use Rattle.signature.specs.Digest.{key_hash, bound_to}
use Rattle.signature.specs.Verify.{recomputed}
use Rattle.signature.proofs.Adjusted.{adjusted-long}
use Rattle.signature.proofs.Fronts.{front-in, front-is, digest-in, digest-is, bound-in, bound-is}
use Rattle.signature.proofs.Verdict.{verdict-matrix, verdict-challenge, verdict-hash, hash-parts}
use Rattle.std.specs.Option.{is_some, unwrap_or}
use Rattle.signature.specs.Matrix.{filled}
use Rattle.signature.specs.Outcome.{held_or}
use Rattle.ring.proofs.Filled.{filled-some, filled-held, not-filled, held-filled, held-unwrapped}
use Rattle.signature.proofs.verify.verify_hash.Goals as goal

pub recompute-requires : goal.recompute-requires
recompute-requires c =
    let n = c.args.row.p.k * 512 in
    let h : n ≤ 4608 = omega (arith, c.args.row.tabled.rows-low) in
    let o : n - 0 ≡ n = omega arith in record { vk_len = (c.requires.vk_len.0, c.requires.vk_len.1); hint_len = (c.requires.hint_len.0, c.requires.hint_len.1, mid_len 0 n (replicate 4608 0) h ∙ o); by_index = c.requires.by_index; by_index_2 = c.requires.by_index_2 }

pub returns-in_err-recompute : goal.returns-in_err-recompute
returns-in_err-recompute c =
    let a = c.args in
    let r = err_from_is_err_and c.from_residual.result c.from_residual.ensures.1 in
    let u = unless-no _ _ (sym c.in_err-recompute.was ∙ c.recompute.ensures.value) in
    rw (r.1, r.2, u.1) (sym (verdict-matrix a.row.p a.vk.now a.msg.now (fields_of a.hash.now a.hint.now a.z.now) u.0))

pub returns-then-is_none : goal.returns-then-is_none
unfolding chal_poly
returns-then-is_none c =
    let a = c.args in
    let f = fields_of a.hash.now a.hint.now a.z.now in
    let no : filled (chal_poly a.row.p a.hash.now) ≡ false = sym (ap is_some c.chal_poly-c.ensures ∙ held-filled _) ∙ c.if-is_none.ensures in
    sym (verdict-challenge a.row.p a.vk.now a.msg.now f (unless-yes _ _ (sym c.in_ok-recompute.was ∙ c.recompute.ensures.value)) (not-filled _ no))

pub slice_bounds-chal_hash-end : goal.slice_bounds-chal_hash-end
slice_bounds-chal_hash-end c =
    let b = c.args in
    let M = matrix b.row.p (vk_seed b.row.p b.vk.now) in
    let m = filled-some M (unless-yes _ _ (sym c.in_ok-recompute.was ∙ c.recompute.ensures.value)) in
    let l = ap (λ (l : List ℕ). length l) (c.recompute.ensures.by_index_3 (poly_of M) m) ∙ adjusted-long b.row.p (poly_of M) _ _ _ b.hint.now in
    front-in (b.row.p.k * 512) (replicate 4608 0) c.recompute.new.w (omega (arith, c.args.row.tabled.rows-low)) l

pub slice_bounds-chal_hash-end-2 : goal.slice_bounds-chal_hash-end-2
slice_bounds-chal_hash-end-2 c =
    bound-in (c.args.row.p.kappa / 4) (replicate 64 0) c.bind.new.out c.args.vk.now c.args.msg.now c.args.row.tabled.hash-low c.bind.ensures

pub slice_bounds-same_bytes-end : goal.slice_bounds-same_bytes-end
slice_bounds-same_bytes-end c =
    digest-in (c.args.row.p.kappa / 4) (replicate 64 0) c.chal_hash.new.out _ c.args.row.tabled.hash-low c.chal_hash.ensures

pub returns-then-not-same_bytes : goal.returns-then-not-same_bytes
unfolding recomputed chal_poly
returns-then-not-same_bytes c =
    let b = c.args in
    let p = b.row.p in
    let n = p.kappa / 4 in
    let f = fields_of b.hash.now b.hint.now b.z.now in
    let M = matrix p (vk_seed p b.vk.now) in
    let A = poly_of M in
    let C = chal_poly p b.hash.now in
    -- matrix and challenge are there
    let m = filled-some M (unless-yes _ _ (sym c.in_ok-recompute.was ∙ c.recompute.ensures.value)) in
    let g : C ≡ some (held_or C []) = filled-held C (sym (ap is_some c.chal_poly-c.ensures ∙ held-filled _) ∙ c.if-is_none.ensures) in
    let x : c.unwrap_or.result ≡ held_or C [] =
    c.unwrap_or.ensures ∙ ap (λ o. unwrap_or o (replicate 512 (pos 0))) c.chal_poly-c.ensures ∙ held-unwrapped _ (held_or C []) _ g in
    -- the parts that are hashed, and the hash
    let r = c.recompute.ensures.by_index_3 A m in
    let l = ap (λ (l : List ℕ). length l) r ∙ adjusted-long p A _ _ _ b.hint.now in
    let w = front-is (p.k * 512) (replicate 4608 0) c.recompute.new.w (omega (arith, c.args.row.tabled.rows-low)) l ∙ r in
    let u = bound-is n (replicate 64 0) c.bind.new.out b.vk.now b.msg.now c.args.row.tabled.hash-low c.bind.ensures in
    let d = digest-is n (replicate 64 0) c.chal_hash.new.out _ c.args.row.tabled.hash-low c.chal_hash.ensures ∙ hash-parts p w u in
    let e = d ∙ ap (λ y. recomputed p A (vk_vector p b.vk.now) (bound_to n (key_hash n b.vk.now) b.msg.now) f y) x in
    let v = verdict-hash p b.vk.now b.msg.now f A _ c.same_bytes.result m g (c.same_bytes.ensures ∙ ap (same_bytes b.hash.now) e) in
    sym (v ∙ ap (λ (b : Bool). pick b 0 16) c.if-not-same_bytes.true)

pub returns : goal.returns
unfolding recomputed chal_poly
returns c =
    let b = c.args in
    let p = b.row.p in
    let n = p.kappa / 4 in
    let f = fields_of b.hash.now b.hint.now b.z.now in
    let M = matrix p (vk_seed p b.vk.now) in
    let A = poly_of M in
    let C = chal_poly p b.hash.now in
    -- matrix and challenge are there
    let m = filled-some M (unless-yes _ _ (sym c.in_ok-recompute.was ∙ c.recompute.ensures.value)) in
    let g : C ≡ some (held_or C []) = filled-held C (sym (ap is_some c.chal_poly-c.ensures ∙ held-filled _) ∙ c.if-is_none.ensures) in
    let x : c.unwrap_or.result ≡ held_or C [] =
    c.unwrap_or.ensures ∙ ap (λ o. unwrap_or o (replicate 512 (pos 0))) c.chal_poly-c.ensures ∙ held-unwrapped _ (held_or C []) _ g in
    -- the parts that are hashed, and the hash
    let r = c.recompute.ensures.by_index_3 A m in
    let l = ap (λ (l : List ℕ). length l) r ∙ adjusted-long p A _ _ _ b.hint.now in
    let w = front-is (p.k * 512) (replicate 4608 0) c.recompute.new.w (omega (arith, c.args.row.tabled.rows-low)) l ∙ r in
    let u = bound-is n (replicate 64 0) c.bind.new.out b.vk.now b.msg.now c.args.row.tabled.hash-low c.bind.ensures in
    let d = digest-is n (replicate 64 0) c.chal_hash.new.out _ c.args.row.tabled.hash-low c.chal_hash.ensures ∙ hash-parts p w u in
    let e = d ∙ ap (λ y. recomputed p A (vk_vector p b.vk.now) (bound_to n (key_hash n b.vk.now) b.msg.now) f y) x in
    let v = verdict-hash p b.vk.now b.msg.now f A _ c.same_bytes.result m g (c.same_bytes.ensures ∙ ap (same_bytes b.hash.now) e) in
    sym (v ∙ ap (λ (b : Bool). pick b 0 16) c.if-not-same_bytes.false)
