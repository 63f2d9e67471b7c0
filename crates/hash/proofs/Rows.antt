-- The rule of the parameter table: lengths as formulas, the hint's limit and the ranges of the columns, by one computed test of all rows.
use mathlib.Core.Path.{◌≡◌, refl, sym, ap, subst, ◌∙◌}
use mathlib.Core.Bool.{Bool, true, false}
use mathlib.Core.List.{List, [], ◌∷◌}
use mathlib.Core.Logic.{◌⊎◌, inl, inr}
use Prim.Native.Nat.{ℕ, ◌+◌, ◌-◌, ◌*◌, ◌/◌, ◌%◌, ◌^◌, ◌≤◌, ◌<◌}
use native.Mathlib.Omega.{arith}
use borrow.Author.Tests.{eqb-true, eqb-false}
use lib.Dec.{T, eqb, eqb→eq, leb, leb→le}
use lib.ListN.{get_or}
use Rattle.hash.specs.Lists.{pick}
use Rattle.hash.specs.declared.params.Edition.{Edition}
use Rattle.hash.specs.declared.params.Params.{Params}
use Rattle.std.specs.Prelude.{Result, Ok, Err}
use Rattle.hash.specs.declared.params.Unknown.{Unknown}
use Rattle.hash.specs.Params.{rows, set_index, order_index, ShareCount, row_at, params_of, lookup_of}
use Rattle.hash.proofs.Computed.{below, at, all_of, pass}

-- ---- the places of a set and of a share count

pick-le : (b : Bool) (n x y : ℕ) → x ≤ n → y ≤ n → pick b x y ≤ n
pick-le true n x y h g = h
pick-le false n x y h g = g

pub set-le : (set : ℕ) → set_index set ≤ 3
set-le set =
    pick-le (eqb set 128) 3 0 _ (omega arith) (pick-le (eqb set 192) 3 1 _ (omega arith)
    (pick-le (eqb set 256) 3 2 3 (omega arith) (omega arith)))

pub order_le : (d : ℕ) → order_index d ≤ 6
order_le d =
    pick-le (eqb d 1) 6 0 _ (omega arith) (pick-le (eqb d 2) 6 1 _ (omega arith) (pick-le (eqb d 4) 6 2 _ (omega arith)
    (pick-le (eqb d 8) 6 3 _ (omega arith) (pick-le (eqb d 16) 6 4 _ (omega arith) (pick-le (eqb d 32) 6 5 6 (omega arith) (omega arith))))))

abbrev set_no : ℕ → ℕ
set_no i = 128 + 64 * i

abbrev set_by : Bool → Bool → Bool → ℕ
set_by a b c = pick a 0 (pick b 1 (pick c 2 3))

set_known_lem : (set : ℕ) → (set_index set ≡ 3 → ⊥) → set ≡ set_no (set_index set)
set_known_lem set = go (eqb set 128) (eqb set 192) (eqb set 256) (eqb-true set 128) (eqb-true set 192) (eqb-true set 256)
  where
    go : (a b c : Bool) → (a ≡ true → set ≡ 128) → (b ≡ true → set ≡ 192) → (c ≡ true → set ≡ 256)
        → (set_by a b c ≡ 3 → ⊥) → set ≡ set_no (set_by a b c)
    go true b c f g h n = f refl
    go false true c f g h n = g refl
    go false false true f g h n = h refl
    go false false false f g h n = absurd (n refl)

abbrev order_by : Bool → Bool → Bool → Bool → Bool → Bool → ℕ
order_by a b c e f g = pick a 0 (pick b 1 (pick c 2 (pick e 3 (pick f 4 (pick g 5 6)))))

order-known : (d : ℕ) → (order_index d ≡ 6 → ⊥) → d ≡ 2 ^ order_index d
order-known d =
    go (eqb d 1) (eqb d 2) (eqb d 4) (eqb d 8) (eqb d 16) (eqb d 32) (eqb-true d 1) (eqb-true d 2) (eqb-true d 4) (eqb-true d 8)
    (eqb-true d 16) (eqb-true d 32)
  where
    go : (a b c e f g : Bool) → (a ≡ true → d ≡ 1) → (b ≡ true → d ≡ 2) → (c ≡ true → d ≡ 4) → (e ≡ true → d ≡ 8) → (f ≡ true → d ≡ 16)
        → (g ≡ true → d ≡ 32) → (order_by a b c e f g ≡ 6 → ⊥) → d ≡ 2 ^ order_by a b c e f g
    go true b c e f g h1 h2 h3 h4 h5 h6 n = h1 refl
    go false true c e f g h1 h2 h3 h4 h5 h6 n = h2 refl
    go false false true e f g h1 h2 h3 h4 h5 h6 n = h3 refl
    go false false false true f g h1 h2 h3 h4 h5 h6 n = h4 refl
    go false false false false true g h1 h2 h3 h4 h5 h6 n = h5 refl
    go false false false false false true h1 h2 h3 h4 h5 h6 n = h6 refl
    go false false false false false false h1 h2 h3 h4 h5 h6 n = absurd (n refl)

-- ---- the six share counts

-- what holds of each of them holds of a share count
by_count : (P : ℕ → Type 0) (d : ℕ) → P 1 → P 2 → P 4 → P 8 → P 16 → P 32 → ShareCount d → P d
by_count P d p1 p2 p4 p8 p16 p32 c = go c.six
  where
    go : (d ≡ 1) ⊎ (d ≡ 2) ⊎ (d ≡ 4) ⊎ (d ≡ 8) ⊎ (d ≡ 16) ⊎ (d ≡ 32) → P d
    go (inl e) = subst P (sym e) p1
    go (inr (inl e)) = subst P (sym e) p2
    go (inr (inr (inl e))) = subst P (sym e) p4
    go (inr (inr (inr (inl e)))) = subst P (sym e) p8
    go (inr (inr (inr (inr (inl e))))) = subst P (sym e) p16
    go (inr (inr (inr (inr (inr e))))) = subst P (sym e) p32

pub count-power : (d : ℕ) → ShareCount d → d ≡ 2 ^ order_index d
count-power d c = by_count (λ (n : ℕ). n ≡ 2 ^ order_index n) d refl refl refl refl refl refl c

pub count_low : (d : ℕ) → ShareCount d → (1 ≤ d) × (d ≤ 32)
count_low d c =
    let h : (n : ℕ) → T (leb 1 n) → T (leb n 32) → (1 ≤ n) × (n ≤ 32) = λ (n : ℕ) a b. (leb→le 1 n a, leb→le n 32 b) in
    by_count (λ (n : ℕ). (1 ≤ n) × (n ≤ 32)) d (h 1 tt tt) (h 2 tt tt) (h 4 tt tt) (h 8 tt tt) (h 16 tt tt) (h 32 tt tt) c

pub count-order : (d : ℕ) → ShareCount d → order_index d < 6
count-order d c =
    let h : (n : ℕ) → T (leb (order_index n + 1) 6) → order_index n < 6 =
    λ (n : ℕ) a. (let l : order_index n + 1 ≤ 6 = leb→le (order_index n + 1) 6 a in omega arith) in
    by_count (λ (n : ℕ). order_index n < 6) d (h 1 tt) (h 2 tt) (h 4 tt) (h 8 tt) (h 16 tt) (h 32 tt) c

pub order-count : (d : ℕ) → order_index d < 6 → ShareCount d
order-count d =
    go (eqb d 1) (eqb d 2) (eqb d 4) (eqb d 8) (eqb d 16) (eqb d 32) (eqb-true d 1) (eqb-true d 2) (eqb-true d 4) (eqb-true d 8)
    (eqb-true d 16) (eqb-true d 32)
  where
    go : (a b c e f g : Bool) → (a ≡ true → d ≡ 1) → (b ≡ true → d ≡ 2) → (c ≡ true → d ≡ 4) → (e ≡ true → d ≡ 8) → (f ≡ true → d ≡ 16)
        → (g ≡ true → d ≡ 32) → order_by a b c e f g < 6 → ShareCount d
    go true b c e f g h1 h2 h3 h4 h5 h6 l = record { six = inl (h1 refl) }
    go false true c e f g h1 h2 h3 h4 h5 h6 l = record { six = inr (inl (h2 refl)) }
    go false false true e f g h1 h2 h3 h4 h5 h6 l = record { six = inr (inr (inl (h3 refl))) }
    go false false false true f g h1 h2 h3 h4 h5 h6 l = record { six = inr (inr (inr (inl (h4 refl)))) }
    go false false false false true g h1 h2 h3 h4 h5 h6 l = record { six = inr (inr (inr (inr (inl (h5 refl))))) }
    go false false false false false true h1 h2 h3 h4 h5 h6 l = record { six = inr (inr (inr (inr (inr (h6 refl))))) }
    go false false false false false false h1 h2 h3 h4 h5 h6 l = absurd (omega arith)

-- half of one that is not 1
pub count-half : (d : ℕ) → ShareCount d → (d ≡ 1 → ⊥) → ShareCount (d / 2)
count-half d c n = go c.six
  where
    go : (d ≡ 1) ⊎ (d ≡ 2) ⊎ (d ≡ 4) ⊎ (d ≡ 8) ⊎ (d ≡ 16) ⊎ (d ≡ 32) → ShareCount (d / 2)
    go (inl e) = absurd (n e)
    go (inr (inl e)) = record { six = inl (ap (λ (x : ℕ). x / 2) e) }
    go (inr (inr (inl e))) = record { six = inr (inl (ap (λ (x : ℕ). x / 2) e)) }
    go (inr (inr (inr (inl e)))) = record { six = inr (inr (inl (ap (λ (x : ℕ). x / 2) e))) }
    go (inr (inr (inr (inr (inl e))))) = record { six = inr (inr (inr (inl (ap (λ (x : ℕ). x / 2) e)))) }
    go (inr (inr (inr (inr (inr e))))) = record { six = inr (inr (inr (inr (inl (ap (λ (x : ℕ). x / 2) e))))) }

-- ---- the rule

-- of the record of a set and a share count
pub record Rule (p : Params) : Type 0 where
  -- 2.5.2: kappa + 7 k n bits; 2.5.3: (d - 1) kappa + 49 l n bits more
  pub vk : p.vk_bytes ≡ p.kappa / 8 + p.k * 448
  pub sk : p.sk_bytes ≡ p.vk_bytes + (p.shares - 1) * (p.kappa / 8) + p.l * 3136
  pub hint : p.hint_limit ≡ (p.binf + 2 ^ 43) / 2 ^ 44
  pub rows-low : p.k ≤ 9
  pub columns-low : p.l ≤ 7
  pub columns-rows : p.l ≤ p.k
  pub weight-low : p.omega ≤ 44
  pub rep_pos : 1 ≤ p.rep
  pub rep-low : p.rep ≤ 8
  pub ut-pos : 1 ≤ p.ut
  pub ut-low : p.ut ≤ 7
  pub uw-pos : 1 ≤ p.uw
  pub uw-low : p.uw ≤ 41
  pub kappa-low : p.kappa ≤ 256
  pub hash-fits : p.kappa / 4 ≤ p.sig_bytes
  pub sig-low : p.sig_bytes ≤ 20330
  pub binf-low : p.binf < 2 ^ 50
  pub hint-low : p.hint_limit ≤ 3

abbrev tests : Params → List Bool
tests p =
    eqb p.vk_bytes (p.kappa / 8 + p.k * 448)
    ∷ eqb p.sk_bytes (p.vk_bytes + (p.shares - 1) * (p.kappa / 8) + p.l * 3136)
    ∷ eqb p.hint_limit ((p.binf + 2 ^ 43) / 2 ^ 44)
    ∷ leb p.k 9
    ∷ leb p.l 7
    ∷ leb p.omega 44
    ∷ leb 1 p.rep
    ∷ leb p.rep 8
    ∷ leb 1 p.ut
    ∷ leb p.ut 7
    ∷ leb 1 p.uw
    ∷ leb p.uw 41
    ∷ leb p.kappa 256
    ∷ leb (p.kappa / 4) p.sig_bytes
    ∷ leb p.sig_bytes 20330
    ∷ leb (p.binf + 1) (2 ^ 50)
    ∷ leb p.hint_limit 3
    ∷ leb p.l p.k
    ∷ []

ruled : (p : Params) → T (all_of (tests p)) → Rule p
ruled p t =
    record {
      vk = eqb→eq _ _ (pass (tests p) t 0);
      sk = eqb→eq _ _ (pass (tests p) t 1);
      hint = eqb→eq _ _ (pass (tests p) t 2);
      rows-low = leb→le _ _ (pass (tests p) t 3);
      columns-low = leb→le _ _ (pass (tests p) t 4);
      weight-low = leb→le _ _ (pass (tests p) t 5);
      rep_pos = leb→le _ _ (pass (tests p) t 6);
      rep-low = leb→le _ _ (pass (tests p) t 7);
      ut-pos = leb→le _ _ (pass (tests p) t 8);
      ut-low = leb→le _ _ (pass (tests p) t 9);
      uw-pos = leb→le _ _ (pass (tests p) t 10);
      uw-low = leb→le _ _ (pass (tests p) t 11);
      kappa-low = leb→le _ _ (pass (tests p) t 12);
      hash-fits = leb→le _ _ (pass (tests p) t 13);
      sig-low = leb→le _ _ (pass (tests p) t 14);
      binf-low = let h : p.binf + 1 ≤ 2 ^ 50 = leb→le _ _ (pass (tests p) t 15) in omega arith;
      hint-low = leb→le _ _ (pass (tests p) t 16);
      columns-rows = leb→le _ _ (pass (tests p) t 17);
    }

-- the test of the whole table, for any edition; and that row i is of set i / 6 and order i % 6
all_pass : (e : Edition) → T (below (λ (i : ℕ). all_of (tests (params_of (row_at i) e))) 18)
unfolding rows below
all_pass e = tt

abbrev named : List ℕ → ℕ → List Bool
named r i = eqb (get_or r 0 0) (set_no (i / 6)) ∷ eqb (get_or r 1 0) (2 ^ (i % 6)) ∷ []

all_named : T (below (λ (i : ℕ). all_of (named (row_at i) i)) 18)
unfolding rows below
all_named = tt

-- what a record that was found is
pub record Row (set d : ℕ) (e : Edition) (p : Params) : Type 0 where
  pub set_is : p.kappa ≡ set
  pub shares-are : p.shares ≡ d
  pub edition-is : p.edition ≡ e
  pub count : ShareCount d
  pub power : d ≡ 2 ^ order_index d
  pub rule : Rule p

past : (p : Params) (b : Bool) (n x : Result Params Unknown) → (n ≡ Ok p → ⊥) → pick b n x ≡ Ok p → (b ≡ false) × (x ≡ Ok p)
past p true n x h e = absurd (h e)
past p false n x h e = (refl, e)

no-set : (p : Params) → (Err Unknown.Set) ≡ Ok p → ⊥
no-set p e = let z : ◌≡◌ {A = ℕ} 0 1 = cc in omega arith

no-shares : (p : Params) → (Err Unknown.Shares) ≡ Ok p → ⊥
no-shares p e = let z : ◌≡◌ {A = ℕ} 0 1 = cc in omega arith

pub found : (set d : ℕ) (e : Edition) (p : Params) → lookup_of set d e ≡ Ok p → Row set d e p
unfolding lookup_of
found set d e p h =
    let s = set_index set in
    let o = order_index d in
    let r = params_of (row_at (6 * set_index set + order_index d)) e in
    let a = past p (eqb (set_index set) 3) (Err Unknown.Set) (pick (eqb (order_index d) 6) (Err Unknown.Shares) (Ok r)) (no-set p) h in
    let b = past p (eqb (order_index d) 6) (Err Unknown.Shares) (Ok r) (no-shares p) a.1 in
    let ns : set_index set ≡ 3 → ⊥ = eqb-false (set_index set) 3 a.0 in
    let no : order_index d ≡ 6 → ⊥ = eqb-false (order_index d) 6 b.0 in
    let ls : set_index set < 3 = omega (arith, set-le set, ns) in
    let lo : order_index d < 6 = omega (arith, order_le d, no) in
    let i : 6 * set_index set + order_index d < 18 = omega arith in
    let q : r ≡ p = cc in
    let m = at (λ (i : ℕ). all_of (named (row_at i) i)) 18 all_named (6 * set_index set + order_index d) i in
    let dv : (6 * set_index set + order_index d) / 6 ≡ set_index set = omega arith in
    let md : (6 * set_index set + order_index d) % 6 ≡ order_index d = omega arith in
    let w = named (row_at (6 * set_index set + order_index d)) (6 * set_index set + order_index d) in
    subst (λ (x : Params). Row set d e x) q
    (record {
      set_is = eqb→eq _ _ (pass w m 0) ∙ ap set_no dv ∙ sym (set_known_lem set ns);
      shares-are = eqb→eq _ _ (pass w m 1) ∙ ap (λ (x : ℕ). 2 ^ x) md ∙ sym (order-known d no);
      edition-is = refl;
      count = order-count d lo;
      power = order-known d no;
      rule = ruled r (at (λ (i : ℕ). all_of (tests (params_of (row_at i) e))) 18 (all_pass e) (6 * set_index set + order_index d) i);
    })
