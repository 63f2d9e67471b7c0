-- What does not depend on the share count: of two records of one set and edition, all but shares, bytes of the signing key, rep, u_t and u_w are
-- the same, by one computed test of the table.
use mathlib.Core.Path.{◌≡◌, refl, sym, ap, ◌∙◌, subst}
use mathlib.Core.Bool.{Bool, true, false}
use mathlib.Core.List.{List, [], ◌∷◌}
use Prim.Native.Nat.{ℕ, ◌+◌, ◌*◌, ◌/◌, ◌<◌}
use native.Mathlib.Omega.{arith}
use borrow.Author.Tests.{eqb-false, eqb-true}
use lib.Dec.{T, eqb, eqb→eq}
use lib.ListN.{get_or}
use Rattle.hash.specs.Lists.{pick}
use Rattle.hash.specs.Params.{rows, set_index, order_index, ShareCount, row_at, params_of, lookup_of}
use Rattle.hash.specs.declared.params.Edition.{Edition}
use Rattle.hash.specs.declared.params.Params.{Params}
use Rattle.std.specs.Prelude.{Ok, Err}
use Rattle.hash.specs.declared.params.Unknown.{Unknown}
use Rattle.hash.proofs.Computed.{below, at, all_of, pass}
use Rattle.hash.proofs.Rows.{set-le, order_le, count-order, order-count}

-- the record with 0 for what depends on the share count
abbrev pub set_of : Params → Params
set_of p =
    record {
      kappa = p.kappa;
      shares = 0;
      k = p.k;
      l = p.l;
      omega = p.omega;
      b22 = p.b22;
      binf = p.binf;
      hint_limit = p.hint_limit;
      vk_bytes = p.vk_bytes;
      sk_bytes = 0;
      sig_bytes = p.sig_bytes;
      rep = 0;
      ut = 0;
      uw = 0;
      edition = p.edition;
    }

-- ---- the table

abbrev alike : List ℕ → List ℕ → List Bool
alike r s =
    eqb (get_or r 0 0) (get_or s 0 0)
    ∷ eqb (get_or r 2 0) (get_or s 2 0)
    ∷ eqb (get_or r 3 0) (get_or s 3 0)
    ∷ eqb (get_or r 4 0) (get_or s 4 0)
    ∷ eqb (get_or r 5 0) (get_or s 5 0)
    ∷ eqb (get_or r 6 0) (get_or s 6 0)
    ∷ eqb (get_or r 7 0) (get_or s 7 0)
    ∷ eqb (get_or r 8 0) (get_or s 8 0)
    ∷ eqb (get_or r 10 0) (get_or s 10 0)
    ∷ []

-- each row and the first row of its set
all_alike : T (below (λ (i : ℕ). all_of (alike (row_at i) (row_at (6 * (i / 6))))) 18)
unfolding rows below
all_alike = tt

alike_set : (r s : List ℕ) (e : Edition) → T (all_of (alike r s)) → set_of (params_of r e) ≡ set_of (params_of s e)
alike_set r s e t =
    let c0 : get_or r 0 0 ≡ get_or s 0 0 = eqb→eq _ _ (pass (alike r s) t 0) in
    let c2 : get_or r 2 0 ≡ get_or s 2 0 = eqb→eq _ _ (pass (alike r s) t 1) in
    let c3 : get_or r 3 0 ≡ get_or s 3 0 = eqb→eq _ _ (pass (alike r s) t 2) in
    let c4 : get_or r 4 0 ≡ get_or s 4 0 = eqb→eq _ _ (pass (alike r s) t 3) in
    let c5 : get_or r 5 0 ≡ get_or s 5 0 = eqb→eq _ _ (pass (alike r s) t 4) in
    let c6 : get_or r 6 0 ≡ get_or s 6 0 = eqb→eq _ _ (pass (alike r s) t 5) in
    let c7 : get_or r 7 0 ≡ get_or s 7 0 = eqb→eq _ _ (pass (alike r s) t 6) in
    let c8 : get_or r 8 0 ≡ get_or s 8 0 = eqb→eq _ _ (pass (alike r s) t 7) in
    let c10 : get_or r 10 0 ≡ get_or s 10 0 = eqb→eq _ _ (pass (alike r s) t 8) in
    rw (c0, c2, c3, c4, c5, c6, c7, c8, c10) refl

row-set : (s o : ℕ) (e : Edition) → s < 3 → o < 6 → set_of (params_of (row_at (6 * s + o)) e) ≡ set_of (params_of (row_at (6 * s)) e)
row-set s o e hs ho =
    let i : 6 * s + o < 18 = omega arith in
    let dv : (6 * s + o) / 6 ≡ s = omega arith in
    alike_set (row_at (6 * s + o)) (row_at (6 * s)) e
    (subst (λ (x : ℕ). T (all_of (alike (row_at (6 * s + o)) (row_at (6 * x))))) dv
    (at (λ (i : ℕ). all_of (alike (row_at i) (row_at (6 * (i / 6))))) 18 all_alike (6 * s + o) i))

-- ---- the look_up, by cases of the set and of the share count

-- a record that was found: the set is known, the share count is one of the six, and the rest is that of the first row of its set
pub record OfSet (set d : ℕ) (e : Edition) (p : Params) : Type 0 where
  pub known : eqb (set_index set) 3 ≡ false
  pub count : ShareCount d
  pub first-row : set_of p ≡ set_of (params_of (row_at (6 * set_index set)) e)

pub found-set : (set d : ℕ) (e : Edition) (p : Params) → lookup_of set d e ≡ Ok p → OfSet set d e p
unfolding lookup_of
found-set set d e p h =
    let g = go (eqb (set_index set) 3) (eqb (order_index d) 6) (eqb-false (set_index set) 3) (eqb-false (order_index d) 6) h in
    record { known = g.0; count = order-count d g.1.0; first-row = g.1.1 }
  where
    go : (a b : Bool) → (a ≡ false → set_index set ≡ 3 → ⊥) → (b ≡ false → order_index d ≡ 6 → ⊥)
        → pick a (Err Unknown.Set) (pick b (Err Unknown.Shares) (Ok (params_of (row_at (6 * set_index set + order_index d)) e))) ≡ Ok p
        → (a ≡ false) × ((order_index d < 6) × (set_of p ≡ set_of (params_of (row_at (6 * set_index set)) e)))
    go true b f g x = let z : ◌≡◌ {A = ℕ} 0 1 = cc in absurd (omega arith)
    go false true f g x = let z : ◌≡◌ {A = ℕ} 0 1 = cc in absurd (omega arith)
    go false false f g x =
        let y : params_of (row_at (6 * set_index set + order_index d)) e ≡ p = cc in
        let ls : set_index set < 3 = omega (arith, set-le set, f refl) in
        let lo : order_index d < 6 = omega (arith, order_le d, g refl) in
        (refl, (lo, ap set_of (sym y) ∙ row-set (set_index set) (order_index d) e ls lo))

-- what a look_up with one of the six share counts gives: 1 where the set is unknown, whatever the count
pub look_up : (set d : ℕ) (e : Edition) → ShareCount d
    → lookup_of set d e ≡ pick (eqb (set_index set) 3) (Err Unknown.Set) (Ok (params_of (row_at (6 * set_index set + order_index d)) e))
unfolding lookup_of
look_up set d e c = go (eqb (order_index d) 6) (eqb-true (order_index d) 6)
  where
    go : (b : Bool) → (b ≡ true → order_index d ≡ 6)
        → pick (eqb (set_index set) 3) (Err Unknown.Set) (pick b (Err Unknown.Shares) (Ok (params_of (row_at (6 * set_index set + order_index d)) e)))
        ≡ pick (eqb (set_index set) 3) (Err Unknown.Set) (Ok (params_of (row_at (6 * set_index set + order_index d)) e))
    go true f = let z = f refl in absurd (omega (arith, count-order d c))
    go false f = refl

-- a set that is found with one share count is found with each of the six
pub record Beside (set b : ℕ) (e : Edition) (p : Params) : Type 0 where
  pub other : Params
  pub is : lookup_of set b e ≡ Ok other
  pub same : set_of p ≡ set_of other

pub beside : (set d b : ℕ) (e : Edition) (p : Params) → lookup_of set d e ≡ Ok p → ShareCount b → Beside set b e p
beside set d b e p h c =
    let a = found-set set d e p h in
    let r : Params = params_of (row_at (6 * set_index set + order_index b)) e in
    let i : lookup_of set b e ≡ Ok (params_of (row_at (6 * set_index set + order_index b)) e) =
    look_up set b e c ∙ ap (λ (t : Bool). pick t (Err Unknown.Set) (Ok (params_of (row_at (6 * set_index set + order_index b)) e))) a.known in
    record { other = r; is = i; same = a.first-row ∙ sym (found-set set b e r i).first-row }
