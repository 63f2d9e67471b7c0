-- What a signing call takes (02, #103): lent just the lengths that `lengths` tells, it passes checks 7 and 8; lent any other length of one of them,
-- it does not.
use mathlib.Core.Path.{◌≡◌, refl, sym, ap, subst, ◌∙◌}
use mathlib.Core.Bool.{Bool, true, false}
use mathlib.Core.List.{List, [], ◌∷◌, ◌++◌}
use mathlib.Core.Logic.{◌⊎◌, inl, inr}
use Prim.Native.Nat.{ℕ, zero, suc, ◌+◌, ◌*◌, ◌≤◌, ◌<◌}
use native.Mathlib.Decide.{ℕ_discrete}
use native.Mathlib.Omega.{arith}
use borrow.Author.Tests.{eq-eqb, eqb-true}
use lib.Dec.{eqb}
use lib.ListN.{length}
use Rattle.hash.specs.Lists.{pick}
use Rattle.hash.specs.Params.{set_index, order_index, row_at, params_of, lookup_of}
use Rattle.hash.specs.declared.params.Edition.{Edition}
use Rattle.hash.specs.declared.params.Params.{Params}
use Rattle.std.specs.Prelude.{Result, Ok, Err}
use Rattle.hash.specs.declared.params.Unknown.{Unknown}
use Rattle.ring.proofs.Checks.{asked, both_true, both_yes, first-low, no-before, yes-before, yes_both}
use Rattle.sharing.specs.Noise.{noise_bytes}
use Rattle.signature.specs.Checks.{attempts_allowed, noise_seed_bytes, mask_seed_bytes, work_words, sign_buffers_sized, message_sized, key_checks}
use Rattle.signature.specs.Keys.{vk_seed, public_of, shares_of}
use Rattle.signature.specs.Matrix.{matrix, filled}
use Rattle.signature.specs.Outcome.{Outcome, first_no, both, refused_or, held_or, set_known, shares_known, found_in}
use Rattle.signature.specs.Sign.{Public, Attempted, made, over, stuck, dry, Coins, from_seeds, ended, refreshed_key, attempted, noise_at, mask_at, sign_from}
use Rattle.signature.specs.SignCalls.{Key, coins_good, sign_checks, attempts_of, sign_of, sign_call}
use Rattle.sizes.specs.Lengths.{lengths_checks, lengths_told, lengths_by, lengths_call}
use Rattle.sizes.specs.declared.lengths.SigningLengths.{SigningLengths}
use Rattle.sizes.proofs.Told.{told-status}

-- ---- what is told, by the record that the call finds: the edition makes no difference to it

-- what the look-up's answer gives in any edition, if it makes none to a record of the table
pub any-edition : {A : Type 0} (F : Result Params Unknown → A) (e : Edition)
    → ((r : List ℕ) → F (Ok (params_of r Edition.Printed)) ≡ F (Ok (params_of r e)))
    → (set d : ℕ) → F (lookup_of set d Edition.Printed) ≡ F (lookup_of set d e)
unfolding lookup_of
any-edition F e h set d = go (eqb (set_index set) 3) (eqb (order_index d) 6)
  where
    in_row : Bool → Bool → Edition → Result Params Unknown
    in_row a b e = pick a (Err Unknown.Set) (pick b (Err Unknown.Shares) (Ok (params_of (row_at (6 * set_index set + order_index d)) e)))

    go : (a b : Bool) → F (in_row a b Edition.Printed) ≡ F (in_row a b e)
    go true b = refl
    go false true = refl
    go false false = h (row_at (6 * set_index set + order_index d))

module _ (n : ℕ) where
  row_told : (m : ℕ) (r : List ℕ) (e : Edition) → lengths_told m (params_of r Edition.Printed) n ≡ lengths_told m (params_of r e) n
  unfolding noise_bytes
  row_told zero r e = refl
  row_told (suc m) r e = refl

  told_in : (set d : ℕ) (e : Edition) → lengths_call set d n ≡ lengths_by (lookup_of set d e) n
  unfolding lengths_call
  told_in set d e = any-edition (λ (s : Result Params Unknown). lengths_by s n) e (λ r. row_told (pick (attempts_allowed n) 0 6) r e) set d

  told-first : (set d : ℕ) (e : Edition) → (lengths_call set d n).status ≡ first_no (lengths_checks (lookup_of set d e) n)
  told-first set d e =
      let s = lookup_of set d e in
      ap (λ (x : SigningLengths). x.status) (told_in set d e) ∙ told-status (first_no (lengths_checks s n)) (found_in s) n

-- ---- checks 7 and 8 of a call that is lent noise seeds, mask seeds, a buffer for the signature and one for work

module _ (e : Edition) (set d n : ℕ) (noise masks out work : List ℕ) where
  abbrev L : SigningLengths
  L = lengths_call set d n

  abbrev record_found : Params
  record_found = found_in (lookup_of set d e)

  -- just these lengths, and the set's signature bytes
  pub record JustLent : Type 0 where
    pub noise-lent : length noise ≡ L.noise_seed_bytes
    pub masks-lent : length masks ≡ L.mask_seed_bytes
    pub out-lent : length out ≡ record_found.sig_bytes
    pub work-lent : length work ≡ L.work_words

  module _ (told : L.status ≡ 0) where
    told-passed : first_no (lengths_checks (lookup_of set d e) n) ≡ 0
    told-passed = sym (told-first n set d e) ∙ told

    told_is : L ≡ lengths_told 0 record_found n
    told_is = told_in n set d e ∙ ap (λ (m : ℕ). lengths_told m record_found n) told-passed

    pub lent-pass : JustLent → (coins_good record_found n (from_seeds noise masks) ≡ true) × (sign_buffers_sized record_found out work ≡ true)
    lent-pass l = (
      both_yes (eq-eqb (length noise) (noise_seed_bytes record_found n) (l.noise-lent ∙ ap (λ (x : SigningLengths). x.noise_seed_bytes) told_is))
          (eq-eqb (length masks) (mask_seed_bytes n) (l.masks-lent ∙ ap (λ (x : SigningLengths). x.mask_seed_bytes) told_is)),
      both_yes (eq-eqb (length out) record_found.sig_bytes l.out-lent)
          (eq-eqb (length work) (work_words record_found) (l.work-lent ∙ ap (λ (x : SigningLengths). x.work_words) told_is)),
    )

    pub pass-lent : coins_good record_found n (from_seeds noise masks) ≡ true → sign_buffers_sized record_found out work ≡ true → JustLent
    pass-lent c b =
        let x = both_true (eqb (length noise) (noise_seed_bytes record_found n)) (eqb (length masks) (mask_seed_bytes n)) c in
        let y = both_true (eqb (length out) record_found.sig_bytes) (eqb (length work) (work_words record_found)) b in
        record {
          noise-lent = eqb-true (length noise) (noise_seed_bytes record_found n) x.0 ∙ ap (λ (x : SigningLengths). x.noise_seed_bytes) (sym told_is);
          masks-lent = eqb-true (length masks) (mask_seed_bytes n) x.1 ∙ ap (λ (x : SigningLengths). x.mask_seed_bytes) (sym told_is);
          out-lent = eqb-true (length out) record_found.sig_bytes y.0;
          work-lent = eqb-true (length work) (work_words record_found) y.1 ∙ ap (λ (x : SigningLengths). x.work_words) (sym told_is);
        }

-- ---- the call's status

-- the attempts end with 0, 11, 12 or 20
abbrev EndsLate : ℕ → Type 0
EndsLate m = (m ≡ 0) ⊎ (10 < m)

ended-late : (a : ℕ) (t : Attempted) (A : Outcome) → EndsLate A.status → EndsLate (ended a t A).status
ended-late a (made b) A h = inl refl
ended-late a over A h = h
ended-late a stuck A h = inr (omega arith)
ended-late a dry A h = inr (omega arith)

from-late : (p : Params) (P : Public) (T : Coins) (left a : ℕ) (s : List ℕ) → EndsLate (sign_from p P T left a s).status
unfolding sign_from
from-late p P T zero a s = inr (omega arith)
from-late p P T (suc left) a s =
    let t = (refreshed_key p (noise_at p T a) (mask_at T a) P.matrix s).shares in
    ended-late a (attempted p P (noise_at p T a) (mask_at T a) s) (sign_from p P T left (suc a) t) (from-late p P T left (suc a) t)

refused-or : (k m : ℕ) (A : Outcome) → (refused_or k A).status ≡ m → (k ≡ m) ⊎ (A.status ≡ m)
refused-or zero m A e = inr e
refused-or (suc k) m A e = inl e

refused-with : (k : ℕ) (A : Outcome) → (k ≡ 0 → ⊥) → (refused_or k A).status ≡ k
refused-with zero A h = absurd (h refl)
refused-with (suc k) A h = refl

module _ (e : Edition) (set d n : ℕ) (key : Key) (msg noise masks out work : List ℕ) where
  abbrev T : Coins
  T = from_seeds noise masks

  abbrev status : ℕ
  status = (sign_call e set d key n msg T out work).status

  abbrev p : Params
  p = found_in (lookup_of set d e)

  abbrev checks : List (ℕ × Bool)
  checks = sign_checks (lookup_of set d e) p key n msg T out work

  -- up to 6, and from 9 on
  abbrev six : List (ℕ × Bool)
  six = (1, set_known (lookup_of set d e)) ∷ (2, shares_known (lookup_of set d e)) ∷ key_checks p key ++ ((6, attempts_allowed n) ∷ [])

  abbrev all-filled : Bool
  all-filled = both (filled (matrix p (vk_seed p (public_of p key)))) (filled (shares_of p key))

  abbrev later : List (ℕ × Bool)
  later = (9, message_sized msg) ∷ (10, all-filled) ∷ []

  abbrev from-seven : List (ℕ × Bool)
  from-seven = (7, coins_good p n T) ∷ (8, sign_buffers_sized p out work) ∷ later

  abbrev Just : Type 0
  Just = JustLent e set d n noise masks out work

  abbrev first_of : Bool → Bool → ℕ → ℕ
  first_of a b rest = pick a (pick b rest 2) 1

  module _ (told : (lengths_call set d n).status ≡ 0) where
    -- lent just these lengths, a call answers neither 7 nor 8
    module _ (l : Just) (m : ℕ) (low : 6 < m) (high : m < 9) where
      later-no : (x y : Bool) → pick x (pick y 0 10) 9 ≡ m → ⊥
      later-no true true i = omega (arith, i, low)
      later-no true false i = omega (arith, i, high)
      later-no false y i = omega (arith, i, high)

      checks-no : first_no checks ≡ m → ⊥
      checks-no i = go (ℕ_discrete (first_no six) 0)
        where
          passed : first_no from-seven ≡ first_no later
          passed = let y = lent-pass e set d n noise masks out work told l in rw (y.0, y.1) refl

          go : Dec (first_no six ≡ 0) → ⊥
          go (yes z) = later-no (message_sized msg) all-filled (sym (yes-before six from-seven refl z ∙ passed) ∙ i)
          go (no h) = omega (arith, first-low 6 six refl, no-before six from-seven (first_no six) refl h, i, low)

      attempts-no : EndsLate m → ⊥
      attempts-no (inl i) = omega (arith, i, low)
      attempts-no (inr i) = omega (arith, i, high)

      pub lent-answer : status ≡ m → ⊥
      unfolding sign_call sign_of
      lent-answer i = go (refused-or (first_no checks) m (attempts_of p key n msg T) i)
        where
          go : (first_no checks ≡ m) ⊎ ((attempts_of p key n msg T).status ≡ m) → ⊥
          go (inl j) = checks-no j
          go (inr j) = attempts-no (subst EndsLate j (from-late p _ T n 0 (held_or (shares_of p key) [])))

    -- lent another length of one of them, it is refused, with 8 at the latest
    abbrev early : List (ℕ × Bool)
    early = six ++ ((7, coins_good p n T) ∷ (8, sign_buffers_sized p out work) ∷ [])

    early-pass : first_no early ≡ 0 → Just
    early-pass z =
        let a = (yes_both six ((7, coins_good p n T) ∷ (8, sign_buffers_sized p out work) ∷ []) refl z).1 in
        let a7 = asked 6 (coins_good p n T) _ a in
        let a8 = asked 7 (sign_buffers_sized p out work) _ a7.1 in
        pass-lent e set d n noise masks out work told a7.0 a8.0

    pub others-refused : (Just → ⊥) → (1 ≤ status) × (status ≤ 8)
    unfolding sign_call sign_of
    others-refused h =
        let k : first_no early ≡ 0 → ⊥ = λ z. h (early-pass z) in
        let f : first_no early ≡ first_no checks = no-before early later (first_no early) refl k in
        let s = refused-with (first_no checks) (attempts_of p key n msg T) (λ z. k (f ∙ z)) in
        (omega (arith, s, f, k), omega (arith, s, f, first-low 8 early refl))

    -- with 7 or 8, if the key passes checks 3 to 5
    six-pass : first_no (key_checks p key) ≡ 0 → first_no six ≡ 0
    six-pass k =
        let s = lookup_of set d e in
        let a1 = asked 0 (set_known s) _ (told-passed e set d n noise masks out work told) in
        let a2 = asked 1 (shares_known s) _ a1.1 in
        let a6 = asked 5 (attempts_allowed n) 0 a2.1 in
        ap (first_of (set_known s) (shares_known s)) (yes-before (key_checks p key) ((6, attempts_allowed n) ∷ []) refl k)
        ∙ rw (a1.0, a2.0, a6.0) refl

    pub others-told : first_no (key_checks p key) ≡ 0 → (Just → ⊥) → (status ≡ 7) ⊎ (status ≡ 8)
    unfolding sign_call sign_of
    others-told k h = go (coins_good p n T) (sign_buffers_sized p out work) refl refl (yes-before six from-seven refl (six-pass k))
      where
        A : Outcome
        A = attempts_of p key n msg T

        go : (x y : Bool) → coins_good p n T ≡ x → sign_buffers_sized p out work ≡ y → first_no checks ≡ pick x (pick y (first_no later) 8) 7
            → ((refused_or (first_no checks) A).status ≡ 7) ⊎ ((refused_or (first_no checks) A).status ≡ 8)
        go true true c b f = absurd (h (pass-lent e set d n noise masks out work told c b))
        go true false c b f = inr (ap (λ (j : ℕ). (refused_or j A).status) f)
        go false y c b f = inl (ap (λ (j : ℕ). (refused_or j A).status) f)

  -- where none are told: an unknown set or share count is the call's refusal too, and so are attempts, behind the checks of the key
  checks-first : first_no checks ≡ (lengths_call set d n).status → ((lengths_call set d n).status ≡ 0 → ⊥) → status ≡ (lengths_call set d n).status
  unfolding sign_call sign_of
  checks-first f h = refused-with (first_no checks) (attempts_of p key n msg T) (λ z. h (sym f ∙ z)) ∙ f

  pub unknown-told : 1 ≤ (lengths_call set d n).status → (lengths_call set d n).status ≤ 2 → status ≡ (lengths_call set d n).status
  unknown-told low high =
      let s = lookup_of set d e in
      let c = attempts_allowed n in
      let t = told-first n set d e in
      checks-first
      (sym (t ∙ go (set_known s) (shares_known s) c (first_no (key_checks p key ++ ((6, c) ∷ from-seven))) (omega (arith, t, low)) (omega (arith, t, high))))
      (λ z. omega (arith, z, low))
    where
      go : (a b c : Bool) (rest : ℕ) → 1 ≤ first_of a b (pick c 0 6) → first_of a b (pick c 0 6) ≤ 2 → first_of a b (pick c 0 6) ≡ first_of a b rest
      go true true true rest l h = absurd (omega arith)
      go true true false rest l h = absurd (omega arith)
      go true false c rest l h = refl
      go false b c rest l h = refl

  pub attempts-told : (lengths_call set d n).status ≡ 6 → first_no (key_checks p key) ≡ 0 → status ≡ 6
  attempts-told h k =
      let s = lookup_of set d e in
      let c = attempts_allowed n in
      let f : first_no checks ≡ 6 =
      ap (first_of (set_known s) (shares_known s)) (yes-before (key_checks p key) ((6, c) ∷ from-seven) refl k)
      ∙ go (set_known s) (shares_known s) c (first_no from-seven) (sym (told-first n set d e) ∙ h) in
      checks-first (f ∙ sym h) (λ z. omega (arith, h, z)) ∙ h
    where
      go : (a b c : Bool) (rest : ℕ) → first_of a b (pick c 0 6) ≡ 6 → first_of a b (pick c rest 6) ≡ 6
      go true true true rest i = absurd (omega arith)
      go true true false rest i = refl
      go true false c rest i = absurd (omega arith)
      go false b c rest i = absurd (omega arith)
