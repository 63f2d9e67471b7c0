-- The inverse transform modulo p undoes the transform, and the transform undoes its inverse: every list of residues is a transform.
use mathlib.Core.Path.{◌≡◌, refl, sym, ◌∙◌}
use mathlib.Core.List.{List, ◌++◌}
use Prim.Native.Nat.{ℕ, zero, suc, ◌+◌, ◌*◌, ◌^◌, ◌<◌, ◌≤◌}
use native.Mathlib.Omega.{arith}
use lib.ListN.{length, take, drop, take-append-drop}
use lib.Seq.{take_at, drop_at}
use Rattle.ring.specs.Words.{Residues}
use Rattle.ring.specs.Poly.{map2}
use Rattle.ring.specs.Residue.{up, down, join, part, fwd, bwd, scale}
use Rattle.ring.proofs.Cong.{Eqv, ≈refl}
use Rattle.ring.proofs.Places.{residues-map2, scale-append, scale-take, scale-drop, scale-map2, scale_one, scale-scale, maps}
use Rattle.ring.proofs.Butterfly.{both_halves, lower, upper, same-halves, half-made, up-low, down-low, join-low, part_low, up-scale, down-scale, joined-all, parted-all, uped-all, downed-all}
use Rattle.ring.proofs.Values.{Roots, node-half, inner, residues-fwd}

-- 2^(d + 1) as omega and cc want it
pub pow-two : (d : ℕ) → 2 ^ suc d ≡ 2 * 2 ^ d
pow-two d = omega arith

pub residues-bwd : {p : ℕ} → 0 < p → (z : ℕ → ℕ) (d j : ℕ) (f : List ℕ) → Residues p (2 ^ d) f → Residues p (2 ^ d) (bwd p z d j f)
unfolding bwd
residues-bwd pos z zero j f r = r
residues-bwd {p} pos z (suc d) j f r =
    let u : List ℕ = bwd p z d (2 * j + 1) (take (2 ^ d) f) in
    let v : List ℕ = bwd p z d (2 * j) (drop (2 ^ d) f) in
    let lu : length u ≡ 2 ^ d = (residues-bwd pos z d (2 * j + 1) (take (2 ^ d) f) (lower d f r)).long in
    let lv : length v ≡ 2 ^ d = (residues-bwd pos z d (2 * j) (drop (2 ^ d) f) (upper d f r)).long in
    both_halves d (map2 (join p) u v) (map2 (part p (z j)) u v)
    (residues-map2 (join p) (join-low pos) u v lu lv) (residues-map2 (part p (z j)) (part_low pos (z j)) u v lu lv)

-- the transform keeps a factor
fwd-scale : {p : ℕ} → 0 < p → (z : ℕ → ℕ) (s d k : ℕ) (f : List ℕ) → fwd p z d k (scale p s f) ≡ scale p s (fwd p z d k f)
unfolding fwd
fwd-scale pos z s zero k f = refl
fwd-scale {p} pos z s (suc d) k f =
    let lo : List ℕ = take (2 ^ d) f in
    let hi : List ℕ = drop (2 ^ d) f in
    let U : map2 (up p (z k)) (take (2 ^ d) (scale p s f)) (drop (2 ^ d) (scale p s f)) ≡ scale p s (map2 (up p (z k)) lo hi) =
    maps (up p (z k)) (scale-take pos s (2 ^ d) f) (scale-drop pos s (2 ^ d) f)
    ∙ scale-map2 pos s (up p (z k)) (up-scale pos s (z k)) lo hi in
    let W : map2 (down p (z k)) (take (2 ^ d) (scale p s f)) (drop (2 ^ d) (scale p s f)) ≡ scale p s (map2 (down p (z k)) lo hi) =
    maps (down p (z k)) (scale-take pos s (2 ^ d) f) (scale-drop pos s (2 ^ d) f)
    ∙ scale-map2 pos s (down p (z k)) (down-scale pos s (z k)) lo hi in
    cc (
      U,
      W,
      fwd-scale pos z s d (2 * k) (map2 (up p (z k)) lo hi),
      fwd-scale pos z s d (2 * k + 1) (map2 (down p (z k)) lo hi),
      scale-append pos s (fwd p z d (2 * k) (map2 (up p (z k)) lo hi)) (fwd p z d (2 * k + 1) (map2 (down p (z k)) lo hi)),
    )

module _ {p n : ℕ} {z c m : ℕ → ℕ} (R : Roots p n z c m) where
  -- the inverse undoes the transform, times 2^d
  bwd-fwd : (d k : ℕ) (f : List ℕ) → Residues p (2 ^ d) f → 0 < k → suc k * 2 ^ d ≤ 2 * n
      → bwd p z d (m k) (fwd p z d k f) ≡ scale p (2 ^ d) f
  unfolding fwd bwd
  bwd-fwd zero k f s l h = sym (scale_one R.pos 1 ≈refl f s.low)
  bwd-fwd (suc d) k f s l h =
      let i : k < n = inner R d k h in
      let g : suc k * (2 * 2 ^ d) ≤ 2 * n = node-half R d k h in
      let lo : List ℕ = take (2 ^ d) f in
      let hi : List ℕ = drop (2 ^ d) f in
      let u : List ℕ = map2 (up p (z k)) (take (2 ^ d) f) (drop (2 ^ d) f) in
      let v : List ℕ = map2 (down p (z k)) (take (2 ^ d) f) (drop (2 ^ d) f) in
      let su : Residues p (2 ^ d) u = half-made d f s (up p (z k)) (up-low R.pos (z k)) in
      let sv : Residues p (2 ^ d) v = half-made d f s (down p (z k)) (down-low R.pos (z k)) in
      let X : List ℕ = fwd p z d (2 * k) u in
      let Y : List ℕ = fwd p z d (2 * k + 1) v in
      let lx : length X ≡ 2 ^ d = (residues-fwd R.pos z d (2 * k) u su).long in
      let U : bwd p z d (2 * m k + 1) (take (2 ^ d) (X ++ Y)) ≡ scale p (2 ^ d) u =
      cc (take_at X Y (2 ^ d) lx, R.mirror-left k l i, bwd-fwd d (2 * k) u su (omega arith) (omega arith)) in
      let W : bwd p z d (2 * m k) (drop (2 ^ d) (X ++ Y)) ≡ scale p (2 ^ d) v =
      cc (drop_at X Y (2 ^ d) lx, R.mirror-right k l i, bwd-fwd d (2 * k + 1) v sv (omega arith) (omega arith)) in
      cc (
        U,
        W,
        joined-all R.pos (2 ^ d) (z k) lo hi (same-halves d f s),
        parted-all R.pos (2 ^ d) (z k) (z (m k)) (R.mirror k l i) lo hi (same-halves d f s),
        pow-two d,
        scale-append R.pos (2 * 2 ^ d) lo hi,
        take-append-drop (2 ^ d) f,
      )

  -- the transform undoes its inverse, times 2^d
  fwd-bwd : (d k : ℕ) (f : List ℕ) → Residues p (2 ^ d) f → 0 < k → suc k * 2 ^ d ≤ 2 * n
      → fwd p z d k (bwd p z d (m k) f) ≡ scale p (2 ^ d) f
  unfolding fwd bwd
  fwd-bwd zero k f s l h = sym (scale_one R.pos 1 ≈refl f s.low)
  fwd-bwd (suc d) k f s l h =
      let i : k < n = inner R d k h in
      let g : suc k * (2 * 2 ^ d) ≤ 2 * n = node-half R d k h in
      let lo : List ℕ = take (2 ^ d) f in
      let hi : List ℕ = drop (2 ^ d) f in
      let u : List ℕ = bwd p z d (2 * m k + 1) (take (2 ^ d) f) in
      let v : List ℕ = bwd p z d (2 * m k) (drop (2 ^ d) f) in
      let ru : Residues p (2 ^ d) (bwd p z d (2 * m k + 1) (take (2 ^ d) f)) = residues-bwd R.pos z d (2 * m k + 1) (take (2 ^ d) f) (lower d f s) in
      let rv : Residues p (2 ^ d) (bwd p z d (2 * m k) (drop (2 ^ d) f)) = residues-bwd R.pos z d (2 * m k) (drop (2 ^ d) f) (upper d f s) in
      let luv : length u ≡ length v = ru.long ∙ sym rv.long in
      let X : List ℕ = map2 (join p) u v in
      let Y : List ℕ = map2 (part p (z (m k))) u v in
      let lx : length X ≡ 2 ^ d = (residues-map2 (join p) (join-low R.pos) u v ru.long rv.long).long in
      let A : fwd p z d (2 * k) (bwd p z d (m (2 * k)) (take (2 ^ d) f)) ≡ scale p (2 ^ d) (take (2 ^ d) f) =
      fwd-bwd d (2 * k) (take (2 ^ d) f) (lower d f s) (omega arith) (omega arith) in
      let B : fwd p z d (2 * k + 1) (bwd p z d (m (2 * k + 1)) (drop (2 ^ d) f)) ≡ scale p (2 ^ d) (drop (2 ^ d) f) =
      fwd-bwd d (2 * k + 1) (drop (2 ^ d) f) (upper d f s) (omega arith) (omega arith) in
      cc (
        take_at X Y (2 ^ d) lx,
        drop_at X Y (2 ^ d) lx,
        uped-all R.pos (z k) (z (m k)) (R.mirror k l i) u v luv ru.low,
        downed-all R.pos (z k) (z (m k)) (R.mirror k l i) u v luv ru.low,
        A,
        B,
        R.mirror-left k l i,
        R.mirror-right k l i,
        fwd-scale R.pos z 2 d (2 * k) u,
        fwd-scale R.pos z 2 d (2 * k + 1) v,
        scale-scale R.pos 2 (2 ^ d) lo,
        scale-scale R.pos 2 (2 ^ d) hi,
        pow-two d,
        scale-append R.pos (2 * 2 ^ d) lo hi,
        take-append-drop (2 ^ d) f,
      )

  module _ (d : ℕ) (f : List ℕ) (r : Residues p (2 ^ d) f) (le : 2 ^ d ≤ n) (m1 : m 1 ≡ 1) (s : ℕ) (one : Eqv p (s * 2 ^ d) 1) where
    pub undone : scale p s (bwd p z d 1 (fwd p z d 1 f)) ≡ f
    undone =
        let e : bwd p z d (m 1) (fwd p z d 1 f) ≡ scale p (2 ^ d) f = bwd-fwd d 1 f r (omega arith) (omega arith) in
        cc (e, m1, scale-scale R.pos s (2 ^ d) f, scale_one R.pos (s * 2 ^ d) one f r.low)

    pub onto : fwd p z d 1 (scale p s (bwd p z d 1 f)) ≡ f
    onto =
        let e : fwd p z d 1 (bwd p z d (m 1) f) ≡ scale p (2 ^ d) f = fwd-bwd d 1 f r (omega arith) (omega arith) in
        cc (
          fwd-scale R.pos z s d 1 (bwd p z d 1 f),
          e,
          m1,
          scale-scale R.pos s (2 ^ d) f,
          scale_one R.pos (s * 2 ^ d) one f r.low,
        )
