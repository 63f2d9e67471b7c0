-- Masks that do not fill (02, #105): what they leave open of an attempt and of a call, and at which attempt a unit runs dry.
use mathlib.Core.Path.{◌≡◌, refl, sym, ap, ◌∙◌, fun_ext}
use mathlib.Core.Bool.{Bool, true, false}
use mathlib.Core.List.{List, []}
use mathlib.Core.Logic.{◌⊎◌, inl, inr}
use mathlib.Core.Option.{Option, some, none}
use Prim.Native.Nat.{ℕ, zero, suc, ◌+◌, ◌*◌, ◌≤◌, ◌<◌}
use native.Mathlib.Omega.{arith}
use lib.IntN.{ℤ}
use lib.ListN.{length}
use Rattle.hash.specs.Lists.{pick}
use Rattle.hash.specs.Params.{order_index}
use Rattle.hash.specs.declared.params.Params.{Params}
use Rattle.std.specs.Prelude.{Result, Ok}
use Rattle.hash.specs.declared.params.Unknown.{Unknown}
use Rattle.hash.proofs.Rows.{found}
use Rattle.ring.specs.Words.{q}
use Rattle.ring.specs.Round.{round_w, residues}
use Rattle.ring.specs.Uniform.{kept}
use Rattle.ring.proofs.Checks.{absurd-bool, first-low}
use Rattle.sharing.specs.Blocks.{totals}
use Rattle.sharing.specs.Encoding.{skip}
use Rattle.sharing.specs.Masks.{masks, mask_start}
use Rattle.sharing.specs.declared.masks.MaskGen.{MaskGen}
use Rattle.sharing.proofs.Carry.{skip-ok, skip-one, start-ok, polys_in, skip-later, bytes_from, draws_before, seed-dry}
use Rattle.sharing.proofs.Totals.{skip-add}
use Rattle.signature.specs.Bounds.{check_bounds}
use Rattle.signature.specs.Challenge.{chal_hash, chal_poly}
use Rattle.signature.specs.Form.{Fields, write}
use Rattle.signature.specs.Masked.{Noise, decoded, masked_noise, masked_image}
use Rattle.signature.specs.AttemptSteps.{hash_of}
use Rattle.signature.specs.Outcome.{Outcome, answer, refused_or, first_no, found_in}
use Rattle.signature.specs.Sign.{Public, Attempted, made, over, stuck, dry, Coins, signed_fields, wrote, finished, responded, challenged, concluded, ended, refreshed_key, refreshed_noise, refreshed_response, attempted, noise_at, mask_at, sign_from}
use Rattle.signature.specs.SignCalls.{Key, sign_checks, attempts_of, sign_by, sign_of}
use Rattle.signature.proofs.Attempts.{commitment_fills, attempt-dry, attempt-stuck, attempt-late, sign-dry}
use Rattle.theorems.specs.Unit.{UnitCall, sign_unit, record_of, RunsDry, encodings_before, encodings_in, masks_fill_at}

-- ---- an attempt and a call that do not run dry: where commitment and response are there, they decide

pub picked-some : (b : Bool) (x y : List ℕ) → pick b (some x) none ≡ some y → x ≡ y
picked-some true x y e = cc
picked-some false x y e = let z : ◌≡◌ {A = ℕ} 0 1 = cc in absurd (omega arith)

module _ (p : Params) (P : Public) where
  responded-full : (w hash : List ℕ) (c : List ℤ) (o : Option (List ℕ)) (z : List ℕ) → ((x : List ℕ) → o ≡ some x → x ≡ z)
      → (responded p P w hash c o ≡ dry → ⊥) → responded p P w hash c o ≡ responded p P w hash c (some z)
  responded-full w hash c none z e full = absurd (full refl)
  responded-full w hash c (some x) z e full = ap (λ (y : List ℕ). responded p P w hash c (some y)) (e x refl)

  module _ (z : List ℕ → Option (List ℕ)) (y : List ℕ → List ℕ) (ez : (c x : List ℕ) → z c ≡ some x → x ≡ y c) where
    challenged-full : (w hash : List ℕ) (o : Option (List ℤ)) → (challenged p P w hash z o ≡ dry → ⊥)
        → challenged p P w hash z o ≡ challenged p P w hash (λ (c : List ℕ). some (y c)) o
    challenged-full w hash none full = refl
    challenged-full w hash (some c) full = responded-full w hash c (z (residues q c)) (y (residues q c)) (ez (residues q c)) full

    asked-full : (w : List ℕ) → (concluded p P (some w) z ≡ dry → ⊥) → concluded p P (some w) z ≡ concluded p P (some w) (λ (c : List ℕ). some (y c))
    unfolding concluded
    asked-full w full = challenged-full (round_w w) (chal_hash p (round_w w) P.mu) (chal_poly p (chal_hash p (round_w w) P.mu)) full

    pub concluded-full : (o : Option (List ℕ)) (w : List ℕ) → ((x : List ℕ) → o ≡ some x → x ≡ w) → (concluded p P o z ≡ dry → ⊥)
        → concluded p P o z ≡ concluded p P (some w) (λ (c : List ℕ). some (y c))
    unfolding concluded
    concluded-full none w e full = absurd (full refl)
    concluded-full (some x) w e full = asked-full x full ∙ ap (λ (v : List ℕ). concluded p P (some v) (λ (c : List ℕ). some (y c))) (e x refl)

pub ended-full : (a : ℕ) (t : Attempted) (A B : Outcome) → ((ended a t A).status ≡ 20 → ⊥) → ((A.status ≡ 20 → ⊥) → A ≡ B) → ended a t A ≡ ended a t B
ended-full a (made b) A B full e = refl
ended-full a over A B full e = e full
ended-full a stuck A B full e = refl
ended-full a dry A B full e = absurd (full refl)

pub refused_full : (m : ℕ) (A B : Outcome) → ((refused_or m A).status ≡ 20 → ⊥) → ((A.status ≡ 20 → ⊥) → A ≡ B) → refused_or m A ≡ refused_or m B
refused_full zero A B full e = e full
refused_full (suc m) A B full e = refl

-- ---- an attempt whose masks all fill does not run dry

wrote-full : (b : Bool) (o : Option (List ℕ)) → pick b (wrote o) over ≡ dry → ⊥
wrote-full true none e = let z : ◌≡◌ {A = ℕ} 0 1 = cc in omega arith
wrote-full true (some x) e = let z : ◌≡◌ {A = ℕ} 0 1 = cc in omega arith
wrote-full false o e = let z : ◌≡◌ {A = ℕ} 0 1 = cc in omega arith

module _ (p : Params) (P : Public) where
  finished-full : (f : Fields) → finished p f ≡ dry → ⊥
  unfolding finished
  finished-full f e = wrote-full (check_bounds p f) (write p f) e

  module _ (w hash : List ℕ) (y : List ℕ → List ℕ) where
    settled-full : (o : Option (List ℤ)) → challenged p P w hash (λ (c : List ℕ). some (y c)) o ≡ dry → ⊥
    settled-full none e = let z : ◌≡◌ {A = ℕ} 0 1 = cc in omega arith
    settled-full (some c) e = finished-full (signed_fields p P w hash (y (residues q c)) c) e

  plain-full : (w : List ℕ) (y : List ℕ → List ℕ) → concluded p P (some w) (λ (c : List ℕ). some (y c)) ≡ dry → ⊥
  unfolding concluded
  plain-full w y e = settled-full (round_w w) (chal_hash p (round_w w) P.mu) y (chal_poly p (chal_hash p (round_w w) P.mu)) e

  module _ (N : Noise) (g : MaskGen) (s : List ℕ) where
    -- the generator behind line 7, and behind line 15, whatever the challenge
    commitment-next : (masked_image p N g P.matrix).next ≡ skip masks p.shares (encodings_before p N) g
    unfolding masked_image masked_noise
    commitment-next =
        let d = p.shares in
        let r = N.reps in
        let n : p.l + p.l * r + p.k * r ≡ encodings_before p N = omega arith in
        ap (skip masks d (p.k * r)) (skip-add masks d p.l (p.l * r) g) ∙ skip-add masks d (p.l + p.l * r) (p.k * r) g ∙ ap (λ (m : ℕ). skip masks d m g) n

    response-next : (c : List ℕ) → (refreshed_response p N g P.matrix s c).next ≡ skip masks p.shares (encodings_in p N) g
    unfolding refreshed_response refreshed_noise refreshed_key
    response-next c =
        let d = p.shares in
        let m = encodings_before p N in
        let n : m + p.l + p.l + p.l ≡ encodings_in p N = omega arith in
        ap (λ (h : MaskGen). skip masks d p.l (skip masks d p.l (skip masks d p.l h))) commitment-next
        ∙ ap (λ (h : MaskGen). skip masks d p.l (skip masks d p.l h)) (skip-add masks d m p.l g)
        ∙ ap (skip masks d p.l) (skip-add masks d (m + p.l) p.l g)
        ∙ skip-add masks d (m + p.l + p.l) p.l g
        ∙ ap (λ (k : ℕ). skip masks d k g) n

    module _ (fill : (skip masks p.shares (encodings_in p N) g).ok ≡ true) where
      response-fills : (c : List ℕ) → (refreshed_response p N g P.matrix s c).next.ok ≡ true
      response-fills c = ap (λ (h : MaskGen). h.ok) (response-next c) ∙ fill

      commitment-fills : (masked_image p N g P.matrix).next.ok ≡ true
      unfolding refreshed_response refreshed_noise refreshed_key
      commitment-fills =
          let d = p.shares in
          let g₇ = (masked_image p N g P.matrix).next in
          skip-ok d p.l g₇ (skip-ok d p.l (skip masks d p.l g₇) (skip-ok d p.l (skip masks d p.l (skip masks d p.l g₇)) (response-fills [])))

      attempt-full : attempted p P N g s ≡ dry → ⊥
      unfolding attempted
      attempt-full e =
          let w = totals p.k p.shares (masked_image p N g P.matrix).shares in
          let y : List ℕ → List ℕ = λ (c : List ℕ). totals p.l p.shares (refreshed_response p N g P.matrix s c).shares in
          let z : List ℕ → Option (List ℕ) = λ (c : List ℕ). decoded p.l p.shares (refreshed_response p N g P.matrix s c) in
          plain-full w y
          (sym
          (ap (λ (b : Bool). concluded p P (pick b (some w) none) z) commitment-fills
          ∙ ap (concluded p P (some w)) (fun_ext (λ (c : List ℕ). ap (λ (b : Bool). pick b (some (y c)) none) (response-fills c))))
          ∙ e)

    attempt-dry-at : attempted p P N g s ≡ dry → (b : Bool) → (skip masks p.shares (encodings_in p N) g).ok ≡ b → b ≡ false
    attempt-dry-at e true f = absurd (attempt-full f e)
    attempt-dry-at e false f = refl

-- ---- at which attempt a unit runs dry

module _ (p : Params) (P : Public) (T : Coins) where
  -- an attempt from number a + 1 on, among those left: reported in the answer A, and its masks do not all fill
  pub record Ran (left a : ℕ) (A : Outcome) (b : ℕ) : Type 0 where
    pub from : a ≤ b
    pub allowed : b < a + left
    pub reported : A.reported ≡ b + 1
    pub unfilled : (skip masks p.shares (encodings_in p (noise_at p T b)) (mask_at T b)).ok ≡ false

  -- by the end of attempt number a + 1; A is what those behind it give
  ran-ended : (left a : ℕ) (s : List ℕ) (t : Attempted) (A : Outcome) → attempted p P (noise_at p T a) (mask_at T a) s ≡ t
      → (A.status ≡ 20 → (b : ℕ) × Ran left (suc a) A b) → (ended a t A).status ≡ 20 → (b : ℕ) × Ran (suc left) a (ended a t A) b
  ran-ended left a s (made b) A f g h = absurd (omega arith)
  ran-ended left a s over A f g h =
      let r = g h in
      (r.0, record { from = omega (arith, r.1.from); allowed = omega (arith, r.1.allowed); reported = r.1.reported; unfilled = r.1.unfilled })
  ran-ended left a s stuck A f g h = absurd (omega arith)
  ran-ended left a s dry A f g h = (
    a,
    record {
      from = omega arith;
      allowed = omega arith;
      reported = omega arith;
      unfilled = attempt-dry-at p P (noise_at p T a) (mask_at T a) s f (skip masks p.shares (encodings_in p (noise_at p T a)) (mask_at T a)).ok refl;
    },
  )

  ran_dry : (left a : ℕ) (s : List ℕ) → (sign_from p P T left a s).status ≡ 20 → (b : ℕ) × Ran left a (sign_from p P T left a s) b
  unfolding sign_from
  ran_dry zero a s e = absurd (omega arith)
  ran_dry (suc left) a s e =
      let t = (refreshed_key p (noise_at p T a) (mask_at T a) P.matrix s).shares in
      ran-ended left a s (attempted p P (noise_at p T a) (mask_at T a) s) (sign_from p P T left (suc a) t) refl (ran_dry left (suc a) t) e

refused-dry : (m : ℕ) (A : Outcome) → m ≤ 10 → (refused_or m A).status ≡ 20 → (A.status ≡ 20) × (refused_or m A ≡ A)
refused-dry zero A l e = (e, refl)
refused-dry (suc m) A l e = absurd (omega arith)

-- attempt a + 1 ran dry: it is allowed, it is the one that is reported, and not all of its masks fill
pub record DryAt (p : Params) (u : UnitCall) (a : ℕ) : Type 0 where
  pub allowed : a < u.attempts
  pub reported : (sign_unit u).reported ≡ a + 1
  pub unfilled : masks_fill_at p u a ≡ false

-- A unit runs dry by a mask seed alone: that of the attempt which it reports.
pub dry-at : (u : UnitCall) (p : Params) → record_of u ≡ Ok p → RunsDry u → (a : ℕ) × DryAt p u a
unfolding sign_unit sign_of masks_fill_at
dry-at u p is h =
    let K = Key.expanded u.key in
    let A : Outcome = attempts_of p K u.attempts u.message u.coins in
    let m : ℕ = first_no (sign_checks (Ok p) p K u.attempts u.message u.coins u.result u.work) in
    let l : m ≤ 10 = first-low 10 (sign_checks (Ok p) p K u.attempts u.message u.coins u.result u.work) refl in
    let e : sign_unit u ≡ refused_or m A =
    ap (λ (s : Result Params Unknown). sign_by s (found_in s) K u.attempts u.message u.coins u.result u.work) is in
    let r = refused-dry m A l (sym (ap (λ (X : Outcome). X.status) e) ∙ h) in
    let d = ran_dry p _ u.coins u.attempts 0 _ r.0 in (
      d.0,
      record {
        allowed = omega (arith, d.1.allowed);
        reported = ap (λ (X : Outcome). X.reported) (e ∙ r.1) ∙ d.1.reported;
        unfilled = d.1.unfilled;
      },
    )

-- One share draws no masks: such a unit never runs dry.
pub one-share-full : (u : UnitCall) (p : Params) → record_of u ≡ Ok p → u.shares ≡ 1 → RunsDry u → ⊥
unfolding masks_fill_at mask_at
one-share-full u p is one h =
    let d = dry-at u p is h in
    let n = encodings_in p (noise_at p u.coins d.0) in
    let e : p.shares ≡ 1 = (found u.set u.shares u.edition p is).shares-are ∙ one in
    absurd-bool
    (sym (ap (λ (g : MaskGen). g.ok) (ap (λ (k : ℕ). skip masks k n (mask_at u.coins d.0)) e ∙ skip-one n (mask_at u.coins d.0)) ∙ start-ok _)
    ∙ d.1.unfilled)

-- ---- from the stream of a mask seed to 20 at its step

-- mask polynomial n of a seed does not fill: of the 777 draws behind those that the polynomials before it use fewer than 512 are below q
abbrev pub Unfilled : List ℕ → ℕ → Type 0
Unfilled seed n = length (kept (bytes_from seed (draws_before seed n)) 777) < 512

-- how many mask polynomials an attempt draws before the challenge (lines 4, 5 and 7), and in all (12, 13 and 15 too)
abbrev pub masks_before : Params → Noise → ℕ
masks_before p N = encodings_before p N * polys_in (order_index p.shares)

abbrev pub masks_in_all : Params → Noise → ℕ
masks_in_all p N = encodings_in p N * polys_in (order_index p.shares)

module _ (p : Params) (P : Public) (N : Noise) (seed s : List ℕ) (n : ℕ) (few : Unfilled seed n) where
  abbrev g : MaskGen
  g = mask_start seed

  encodings-dry : (m : ℕ) → n < m * polys_in (order_index p.shares) → (skip masks p.shares m g).ok ≡ false
  encodings-dry m l = ap (λ (h : MaskGen). h.ok) (skip-later p.shares m g) ∙ seed-dry seed n (m * polys_in (order_index p.shares)) l few

  -- Drawn before the challenge: the attempt ends with 20, whatever the challenge.
  pub dry-before : n < masks_before p N → attempted p P N g s ≡ dry
  dry-before l =
      attempt-dry p P N g s
      (ap (λ (h : MaskGen). h.ok) (commitment-next p P N g s) ∙ encodings-dry (encodings_before p N) l)

  -- Drawn anywhere in it: with 20, or with 11 where the challenge does not fill.
  pub dry-behind : n < masks_in_all p N → (attempted p P N g s ≡ dry) ⊎ (attempted p P N g s ≡ stuck)
  dry-behind l = go (commitment_fills p P N g) refl (chal_poly p (hash_of p N g P.matrix P.mu)) refl
    where
      go : (b : Bool) → commitment_fills p P N g ≡ b → (o : Option (List ℤ)) → chal_poly p (hash_of p N g P.matrix P.mu) ≡ o
          → (attempted p P N g s ≡ dry) ⊎ (attempted p P N g s ≡ stuck)
      go false f o e = inl (attempt-dry p P N g s f)
      go true f none e = inr (attempt-stuck p P N g s f e)
      go true f (some c) e =
          inl
          (attempt-late p P N g s f c e
          (ap (λ (h : MaskGen). h.ok) (response-next p P N g s (residues q c)) ∙ encodings-dry (encodings_in p N) l))

-- A dry attempt ends the call with 20 and is reported, whatever attempts are left.
pub dry-ends : (p : Params) (P : Public) (T : Coins) (left a : ℕ) (s : List ℕ) → attempted p P (noise_at p T a) (mask_at T a) s ≡ dry
    → sign_from p P T (suc left) a s ≡ answer 20 (a + 1) []
dry-ends p P T left a s e = sign-dry p P T (suc left) left a s refl e
