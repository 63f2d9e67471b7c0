-- One attempt as the code tells its end, from what lines 4 to 16 left and lines 17 to 20 made of it; then the attempts in order.
use mathlib.Core.Path.{◌≡◌, refl, sym, ap, subst, ◌∙◌}
use mathlib.Core.Bool.{Bool, true, false}
use mathlib.Core.List.{List}
use mathlib.Core.Option.{Option, some}
use Prim.Native.Nat.{ℕ, suc, ◌+◌, ◌-◌, ◌*◌, ◌/◌, ◌≤◌, ◌<◌}
use native.Mathlib.Omega.{arith}
use lib.Dec.{lit<}
use lib.ListN.{length, take, replicate}
use borrow.Rule.Slice.PartMut.{put_mid}
use lib.IntN.{ℤ}
use Rattle.std.specs.Prelude.{Some, None}
use Rattle.hash.specs.Shake.{absorbed, stream}
use Rattle.hash.specs.declared.params.Params.{Params}
use Rattle.hash.proofs.Table.{length-table}
use Rattle.ring.specs.Words.{Below}
use Rattle.ring.specs.UniformSteps.{poly_of}
use Rattle.ring.proofs.Checks.{absurd-bool}
use Rattle.ring.proofs.Filled.{filled-some, not-filled}
use Rattle.ring.proofs.Mapped.{rounded-residues}
use Rattle.sharing.specs.Region.{span}
use Rattle.sharing.specs.declared.masks.MaskGen.{MaskGen}
use Rattle.signature.specs.AnswerSteps.{FinishedAs}
use Rattle.signature.specs.AttemptSteps.{key_in, Committed, Answered, commitment_of}
use Rattle.signature.specs.Challenge.{chal_hash}
use Rattle.signature.specs.Layout.{at_t, at_x}
use Rattle.signature.specs.Masked.{Noise, masked_image}
use Rattle.signature.specs.Matrix.{filled}
use Rattle.signature.specs.Digest.{mu_from}
use Rattle.signature.specs.Outcome.{Outcome, answer}
use Rattle.signature.specs.Sign.{public_by, Public, Attempted, made, over, stuck, dry, Coins, signed_fields, finished, attempted, sign_from}
use Rattle.signature.specs.SignSteps.{sign_made, Spent, EndedAs, EndedAt, answer_in}
use Rattle.signature.specs.declared.attempt.Reply.{Reply}
use Rattle.signature.specs.declared.sign.AttemptEnd.{AttemptEnd}
use Rattle.signature.proofs.Attempts.{commitment_fills, attempt-dry, left-stuck, left-idle, left-dry, left_key, left-on, sign-pass, sign-stuck, sign-dry, sign-next, sign-none}
use Rattle.signature.proofs.Fronts.{front-in, front-is}

-- ---- lines 17 to 20, by their answer

told-made : (X : Attempted) (r : Bool) (xs ys : List ℕ) → FinishedAs X r xs ys → r ≡ true → X ≡ made ys
told-made (made b) r xs ys f e = ap made (sym f.1)
told-made over r xs ys f e = absurd-bool (sym e ∙ f.0)
told-made stuck r xs ys f e = absurd f
told-made dry r xs ys f e = absurd f

told_over : (X : Attempted) (r : Bool) (xs ys : List ℕ) → FinishedAs X r xs ys → r ≡ false → (X ≡ over) × (ys ≡ xs)
told_over (made b) r xs ys f e = absurd-bool (sym f.0 ∙ e)
told_over over r xs ys f e = (refl, f.1)
told_over stuck r xs ys f e = absurd f
told_over dry r xs ys f e = absurd f

-- ---- one attempt that runs dry before the challenge: x is the generator behind line 7, ys the work buffer

pub ended-dry-before : {p : Params} {P : Public} {N : Noise} {g x : MaskGen} {s ys : List ℕ} → Committed p N g P.matrix s x ys → x.ok ≡ false
    → (xs : List ℕ) → EndedAs p P N g s AttemptEnd.Dry xs xs ys
ended-dry-before {p} {P} {N} {g} {x} {s} {ys} u e xs =
    let f : commitment_fills p P N g ≡ false = ap (λ (h : MaskGen). h.ok) (sym u.next) ∙ e in
    record { told = (attempt-dry p P N g s f, refl); held = (λ h. u.begun, λ h. absurd-bool (sym h ∙ f)) }

-- .. and one that does not
pub masks-filled : {p : Params} {N : Noise} {g x : MaskGen} {A s ys : List ℕ} → Committed p N g A s x ys → x.ok ≡ true → (masked_image p N g A).next.ok ≡ true
masks-filled u e = ap (λ (h : MaskGen). h.ok) (sym u.next) ∙ e

-- ---- one attempt behind it: o is the reply, ys the work buffer behind line 16

module _ {p : Params} {N : Noise} {g : MaskGen} {A mu s hash ys : List ℕ} {o : Reply} (u : Answered p N g A mu s o hash ys) where
  pub hash-long : length hash ≡ p.kappa / 4
  unfolding chal_hash
  hash-long = ap (λ (l : List ℕ). length l) u.hash-is ∙ length-table (stream (absorbed _)) (p.kappa / 4)

  -- the challenge hash in the front of an array of 64 bytes
  module _ (low : p.kappa / 4 ≤ 64) where
    pub hash-in : p.kappa / 4 ≤ length (put_mid 0 (p.kappa / 4 - 0) (replicate 64 0) hash)
    hash-in = front-in (p.kappa / 4) (replicate 64 0) hash low hash-long

    pub hash-read : take (p.kappa / 4 - 0) (put_mid 0 (p.kappa / 4 - 0) (replicate 64 0) hash) ≡ hash
    hash-read = front-is (p.kappa / 4) (replicate 64 0) hash low hash-long

    pub hash-read-long : length (take (p.kappa / 4 - 0) (put_mid 0 (p.kappa / 4 - 0) (replicate 64 0) hash)) ≡ p.kappa / 4
    hash-read-long = ap (λ (l : List ℕ). length l) hash-read ∙ hash-long

  pub commitment-low : Below 31 (span ys (at_t p.l p.shares) (p.k * 512))
  commitment-low =
      let w = commitment_of p N g A in
      subst (Below 31) (sym u.commitment) (rounded-residues 44 31 (length w) (lit< tt) w refl).low

module _ {p : Params} (P : Public) {N : Noise} {g : MaskGen} {s hash ys : List ℕ} {o : Reply} (u : Answered p N g P.matrix P.mu s o hash ys) where
  module _ (fills : commitment_fills p P N g ≡ true) where
    pub ended_stuck : o.challenge ≡ None → (xs : List ℕ) → EndedAs p P N g s AttemptEnd.Stuck xs xs ys
    ended_stuck e xs = record { told = (left-stuck p P N g s hash ys o u fills e, refl); held = left-idle p P N g s hash ys o u e }

    module _ {c : List ℤ} (ok : o.challenge ≡ Some c) where
      -- the shares that are left
      shares-spent : Spent p P N g s ys
      shares-spent = record { key = left_key p P N g s hash ys o u c ok; shares = u.shares; row = u.row }

      pub ended-dry-behind : o.full ≡ false → (xs : List ℕ) → EndedAs p P N g s AttemptEnd.Dry xs xs ys
      ended-dry-behind e xs =
          record { told = (left-dry p P N g s hash ys o u c ok fills e, refl); held = (λ h. absurd-bool (sym fills ∙ h), λ h. shares-spent) }

      -- H is the challenge hash as lines 17 to 20 read it, r their answer, xs and zs the signature's buffer before and after
      module _ (full : o.full ≡ true) (H : List ℕ) (same : H ≡ hash) (r : Bool) (xs zs : List ℕ)
          (f : FinishedAs (finished p (signed_fields p P (span ys (at_t p.l p.shares) (p.k * 512)) H (span ys (at_x p.k p.l p.shares) (p.l * 512)) c)) r xs zs)
        where
          finished-at : FinishedAs (attempted p P N g s) r xs zs
          finished-at =
              subst (λ (X : Attempted). FinishedAs X r xs zs) (sym (left-on p P N g s hash ys o u c ok fills full))
              (subst
              (λ (x : List ℕ). FinishedAs (finished p (signed_fields p P (span ys (at_t p.l p.shares) (p.k * 512)) x (span ys (at_x p.k p.l p.shares) (p.l * 512)) c)) r xs zs)
              same f)

          pub ended-made : r ≡ true → EndedAs p P N g s AttemptEnd.Made xs zs ys
          ended-made e = record { told = told-made (attempted p P N g s) r xs zs finished-at e; held = shares-spent }

          pub ended-over : r ≡ false → EndedAs p P N g s AttemptEnd.Over xs zs ys
          ended-over e = record { told = told_over (attempted p P N g s) r xs zs finished-at e; held = shares-spent }

-- ---- the attempts in order, with the shares s₀ at first; behind a attempts the shares are s

ended : {p : Params} {P : Public} {N : Noise} {g : MaskGen} {s xs ys work : List ℕ} {r x : AttemptEnd} → r ≡ x
    → EndedAs p P N g s r xs ys work → EndedAs p P N g s x xs ys work
ended {p} {P} {N} {g} {s} {xs} {ys} {work} t w = subst (λ (x : AttemptEnd). EndedAs p P N g s x xs ys work) t w

more : {n a : ℕ} → a < n → n - a ≡ suc (n - (a + 1))
more l = omega (arith, l)

module _ (p : Params) (P : Public) (T : Coins) (n a : ℕ) (s₀ s : List ℕ) (i : sign_from p P T n 0 s₀ ≡ sign_from p P T (n - a) a s) where
  -- check 12
  pub all-over : {xs out : List ℕ} → xs ≡ out → n - a ≡ 0 → answer 12 a xs ≡ answer_in (sign_from p P T n 0 s₀) out
  all-over {xs} {out} o z = ap (answer 12 a) o ∙ ap (λ (X : Outcome). answer_in X out) (sym (i ∙ sign-none p P T (n - a) a s z))

  -- attempt number a + 1 told r, and left ys and work
  module _ (l : a < n) {r : AttemptEnd} {xs ys work out : List ℕ} (o : xs ≡ out) (w : EndedAt p P T a s r xs ys work) where
    pub all_pass : r ≡ AttemptEnd.Made → answer 0 (a + 1) ys ≡ answer_in (sign_from p P T n 0 s₀) out
    all_pass t = ap (λ (X : Outcome). answer_in X out) (sym (i ∙ sign-pass p P T (n - a) (n - (a + 1)) a s (more l) ys (ended t w).told))

    -- check 11
    pub all-stuck : r ≡ AttemptEnd.Stuck → answer 11 (a + 1) ys ≡ answer_in (sign_from p P T n 0 s₀) out
    all-stuck t =
        let v = (ended t w).told in
        ap (answer 11 (a + 1)) (v.1 ∙ o)
        ∙ ap (λ (X : Outcome). answer_in X out) (sym (i ∙ sign-stuck p P T (n - a) (n - (a + 1)) a s (more l) v.0))

    -- check 20
    pub all-dry : r ≡ AttemptEnd.Dry → answer 20 (a + 1) ys ≡ answer_in (sign_from p P T n 0 s₀) out
    all-dry t =
        let v = (ended t w).told in
        ap (answer 20 (a + 1)) (v.1 ∙ o)
        ∙ ap (λ (X : Outcome). answer_in X out) (sym (i ∙ sign-dry p P T (n - a) (n - (a + 1)) a s (more l) v.0))

    pub all-next : r ≡ AttemptEnd.Over → (ys ≡ out) × (sign_from p P T n 0 s₀ ≡ sign_from p P T (n - (a + 1)) (a + 1) (key_in p work))
    all-next t =
        let v = ended t w in
        (v.told.1 ∙ o, i ∙ sign-next p P T (n - a) (n - (a + 1)) a s (more l) (key_in p work) v.held.key v.told.0)

-- what `reported` gives
pub told-as : {x y a b : ℕ} (ys : List ℕ) {X : Outcome} → x ≡ y → a ≡ b → answer y b ys ≡ X → answer x a ys ≡ X
told-as {x} {y} {a} {b} ys e f h = ap (λ (n : ℕ). answer n a ys) e ∙ ap (λ (n : ℕ). answer y n ys) f ∙ h

-- ---- check 10 of the matrix m, and the attempts with it

module _ (p : Params) (vk digest msg : List ℕ) (T : Coins) (n : ℕ) (s out : List ℕ) (m : Option (List ℕ)) where
  pub matrix-none : filled m ≡ false → answer 10 0 out ≡ answer_in (sign_made p vk digest msg T n m (some s)) out
  matrix-none e = ap (λ (o : Option (List ℕ)). answer_in (sign_made p vk digest msg T n o (some s)) out) (sym (not-filled m e))

  pub matrix-made : (B mu : List ℕ) (X : Outcome) → filled m ≡ true → ((A : List ℕ) → m ≡ some A → B ≡ A) → mu ≡ mu_from p digest msg
      → X ≡ answer_in (sign_from p (public_by p vk mu B) T n 0 s) out → X ≡ answer_in (sign_made p vk digest msg T n m (some s)) out
  matrix-made B mu X f is e h =
      let t = filled-some m f in
      h ∙ ap (λ (A : List ℕ). answer_in (sign_from p (public_by p vk mu A) T n 0 s) out) (is (poly_of m) t)
      ∙ ap (λ (y : List ℕ). answer_in (sign_from p (public_by p vk y (poly_of m)) T n 0 s) out) e
      ∙ ap (λ (o : Option (List ℕ)). answer_in (sign_made p vk digest msg T n o (some s)) out) (sym t)
