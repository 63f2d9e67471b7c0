-- Attempts of signing (000, Algorithm 2): lines 4 to 16 on the work buffer are the definition's, an attempt by its ends, and the attempts in
-- order. n is how many attempts are left, a how many are behind, s the key's shares.
use mathlib.Core.Path.{◌≡◌, sym, ap, ◌∙◌}
use mathlib.Core.Bool.{Bool, true, false}
use mathlib.Core.List.{List, [], ◌++◌}
use mathlib.Core.Option.{Option, some, none}
use Prim.Native.Nat.{ℕ, suc, ◌+◌, ◌*◌, ◌/◌, ◌^◌}
use native.Mathlib.Numerals.{add-one}
use native.Mathlib.Omega.{arith}
use lib.IntN.{ℤ}
use Rattle.hash.specs.Lists.{pick}
use Rattle.hash.specs.Params.{order_index}
use Rattle.hash.specs.Shake.{shake256}
use Rattle.hash.specs.declared.params.Params.{Params}
use Rattle.ring.specs.Words.{q}
use Rattle.ring.specs.Round.{round_w, residues}
use Rattle.sharing.specs.Blocks.{totals}
use Rattle.sharing.specs.Region.{span, Wrote}
use Rattle.sharing.specs.Encoding.{skip, refreshed}
use Rattle.sharing.specs.Masks.{masks}
use Rattle.sharing.specs.declared.masks.MaskGen.{MaskGen}
use Rattle.signature.specs.AttemptSteps.{key_in, Begun, LastRow, Committed, Responded, Answered, commitment_of, hash_of}
use Rattle.signature.specs.Challenge.{headed, ordered, challenge, chal_hash, chal_poly}
use Rattle.std.specs.Prelude.{Some, None}
use Rattle.std.specs.Option.{is_some}
use Rattle.ring.specs.UniformSteps.{option_of}
use Rattle.ring.proofs.Filled.{some_same, held-there, held-missing, held-some, held-none}
use Rattle.signature.specs.Form.{Fields}
use Rattle.signature.specs.Layout.{at_s, at_r, at_t, at_x}
use Rattle.signature.specs.Masked.{Noise, decoded, masked_noise, masked_image}
use Rattle.signature.specs.Outcome.{answer}
use Rattle.signature.specs.Sign.{Public, Attempted, made, over, stuck, dry, Coins, signed_fields, finished, responded, challenged, concluded, masked_response, refreshed_key, refreshed_noise, refreshed_response, attempted, noise_at, mask_at, sign_from}
use Rattle.signature.specs.declared.attempt.Reply.{Reply}
use Rattle.ring.proofs.Checks.{absurd-bool}
use Rattle.signature.proofs.Masking.{masked-words}

-- ---- lines 4 to 16 on the work buffer: s₁ behind the commitment, s₂ before the response, where s and r are as they were, s₃ behind it

module _ (p : Params) (N : Noise) (g x y : MaskGen) (A c s s₁ s₂ s₃ : List ℕ) (power : p.shares ≡ 2 ^ order_index p.shares)
    (u : Committed p N g A s x s₁) (hs : key_in p s₂ ≡ key_in p s₁)
    (hr : span s₂ (at_r p.l p.shares) (p.l * (p.shares * 512)) ≡ span s₁ (at_r p.l p.shares) (p.l * (p.shares * 512)))
    (v : Responded p.k p.l p.shares c x y s₂ s₃) where
  abbrev refreshed_at : MaskGen → List ℕ → List ℕ
  refreshed_at h X = refreshed masks p.shares h p.l X

  -- line 12, the key of the next attempt
  pub key_left : key_in p s₃ ≡ (refreshed_key p N g A s).shares
  unfolding refreshed_key
  key_left = v.key ∙ ap (refreshed_at x) (hs ∙ u.begun.key) ∙ ap (λ (h : MaskGen). refreshed_at h s) u.next

  -- line 15
  pub shares_left : span s₃ (at_r p.l p.shares) (p.l * (p.shares * 512)) ≡ (refreshed_response p N g A s c).shares
  unfolding refreshed_key refreshed_noise refreshed_response
  shares_left =
      let R = (masked_noise p N g).shares in
      let on : MaskGen → MaskGen = λ (h : MaskGen). skip masks p.shares p.l h in
      let Z : MaskGen → List ℕ → List ℕ = λ (h : MaskGen) (X : List ℕ).
      refreshed_at (on (on h)) (masked_response p.shares p.l c (refreshed_at h X) (refreshed_at (on h) R)) in
      v.shares R (masked-words p N g power) (hr ∙ u.begun.noise) ∙ ap (Z x) (hs ∙ u.begun.key) ∙ ap (λ (h : MaskGen). Z h s) u.next

  -- .. and the generator behind it
  pub next-left : y ≡ (refreshed_response p N g A s c).next
  unfolding refreshed_key refreshed_noise refreshed_response
  next-left =
      let on : MaskGen → MaskGen = λ (h : MaskGen). skip masks p.shares p.l h in
      v.next ∙ ap (λ (h : MaskGen). on (on (on h))) u.next

  -- line 16
  pub response-left : span s₃ (at_x p.k p.l p.shares) (p.l * 512) ≡ totals p.l p.shares (refreshed_response p N g A s c).shares
  response-left = v.response ∙ ap (totals p.l p.shares) shares_left

-- ---- lines 9 to 16 behind the commitment: s₁ before them, s₂ behind the challenge, s₃ behind the response

module _ (p : Params) (N : Noise) (h g : MaskGen) (A mu s s₁ s₂ hash : List ℕ) (o : Reply) (u : Committed p N h A s g s₁)
    (w : Wrote 0 (at_t p.l p.shares) (p.k * 512) (round_w (span s₁ (at_t p.l p.shares) (p.k * 512))) s₁ s₂)
    (eh : hash ≡ shake256 (headed 104 p.k ++ ordered p.edition (round_w (span s₁ (at_t p.l p.shares) (p.k * 512))) mu) (p.kappa / 4))
    (eo : o.challenge ≡ option_of (challenge p.edition p.omega (shake256 (headed 99 p.omega ++ hash) 2176))) where
  hash-there : hash ≡ hash_of p N h A mu
  unfolding chal_hash
  hash-there = eh ∙ ap (λ (W : List ℕ). shake256 (headed 104 p.k ++ ordered p.edition (round_w W) mu) (p.kappa / 4)) u.image

  challenge-there : o.challenge ≡ option_of (chal_poly p (hash_of p N h A mu))
  unfolding chal_poly
  challenge-there = eo ∙ ap (λ (x : List ℕ). option_of (challenge p.edition p.omega (shake256 (headed 99 p.omega ++ x) 2176))) hash-there

  commitment-there : span s₂ (at_t p.l p.shares) (p.k * 512) ≡ round_w (commitment_of p N h A)
  commitment-there = w.new ∙ ap round_w u.image

  row-there : LastRow p N h A s₂
  row-there i e = w.front (p.shares * 512) (p.shares * 512) (omega arith) (omega arith) ∙ u.row i e

  pub answer-none : o.challenge ≡ None → o.full ≡ g.ok → Answered p N h A mu s o hash s₂
  answer-none e full =
      let no : (c : List ℤ) → chal_poly p (hash_of p N h A mu) ≡ some c → true ≡ false =
      λ (c : List ℤ) (f : chal_poly p (hash_of p N h A mu) ≡ some c).
      ap is_some (held-there _ c f ∙ sym challenge-there ∙ e) in
      record {
        hash-is = hash-there;
        challenge-is = challenge-there;
        masks-none = λ f. full ∙ ap (λ (x : MaskGen). x.ok) u.next;
        masks-are = λ (c : List ℤ) f. absurd-bool (no c f);
        row = row-there;
        commitment = commitment-there;
        idle = λ f. record {
          noise = w.front (at_r p.l p.shares) (p.l * (p.shares * 512)) (omega arith) (omega arith) ∙ u.begun.noise;
          key = w.front (at_s p.shares) (p.l * (p.shares * 512)) (omega arith) (omega arith) ∙ u.begun.key;
        };
        key = λ (c : List ℤ) f. absurd-bool (no c f);
        shares = λ (c : List ℤ) f. absurd-bool (no c f);
        response = λ (c : List ℤ) f. absurd-bool (no c f);
      }

  pub answer-made : (power : p.shares ≡ 2 ^ order_index p.shares) (x : List ℤ) (r s₃ : List ℕ) (y : MaskGen) → o.challenge ≡ Some x
      → r ≡ residues q x → o.full ≡ y.ok → Responded p.k p.l p.shares r g y s₂ s₃
      → Answered p N h A mu s o hash s₃
  answer-made power x r s₃ y ok er full v =
      let L = p.l * (p.shares * 512) in
      let is : chal_poly p (hash_of p N h A mu) ≡ some x = held-some _ x (sym ok ∙ challenge-there) in
      let poly : (c : List ℤ) → chal_poly p (hash_of p N h A mu) ≡ some c → r ≡ residues q c =
      λ (c : List ℤ) (f : chal_poly p (hash_of p N h A mu) ≡ some c).
      er ∙ ap (residues q) (some_same _ _ (sym is ∙ f)) in
      let hs = w.front (at_s p.shares) L (omega arith) (omega arith) in
      let hr = w.front (at_r p.l p.shares) L (omega arith) (omega arith) in
      let no : chal_poly p (hash_of p N h A mu) ≡ none → true ≡ false =
      λ (f : chal_poly p (hash_of p N h A mu) ≡ none).
      ap is_some (sym ok ∙ challenge-there) ∙ sym (ap is_some (held-missing _ f)) in
      record {
        hash-is = hash-there;
        challenge-is = challenge-there;
        masks-none = λ f. absurd-bool (no f);
        masks-are = λ (c : List ℤ) f.
            full ∙ ap (λ (x : MaskGen). x.ok)
            (next-left p N h g y A r s s₁ s₂ s₃ power u hs hr v ∙ ap (λ (x : List ℕ). (refreshed_response p N h A s x).next) (poly c f));
        row = λ (i : ℕ) (e : p.k ≡ suc i). v.row ∙ row-there i e;
        commitment = v.commitment ∙ commitment-there;
        idle = λ f. absurd-bool (no f);
        key = λ (c : List ℤ) f. key_left p N h g y A r s s₁ s₂ s₃ power u hs hr v;
        shares = λ (c : List ℤ) f.
            shares_left p N h g y A r s s₁ s₂ s₃ power u hs hr v
            ∙ ap (λ (x : List ℕ). (refreshed_response p N h A s x).shares) (poly c f);
        response = λ (c : List ℤ) f.
            response-left p N h g y A r s s₁ s₂ s₃ power u hs hr v
            ∙ ap (λ (x : List ℕ). totals p.l p.shares (refreshed_response p N h A s x).shares) (poly c f);
      }

-- ---- the ends of one attempt

-- line 19, with the challenge polynomial c
abbrev pub fields_for : Params → Public → Noise → MaskGen → List ℕ → List ℤ → Fields
fields_for p P N g s c =
    signed_fields p P (round_w (commitment_of p N g P.matrix)) (hash_of p N g P.matrix P.mu) (totals p.l p.shares (refreshed_response p N g P.matrix s (residues q c)).shares) c

-- did the masks fill before the challenge; with the challenge polynomial c, behind it?
abbrev pub commitment_fills : Params → Public → Noise → MaskGen → Bool
commitment_fills p P N g = (masked_image p N g P.matrix).next.ok

module _ (p : Params) (P : Public) (N : Noise) (g : MaskGen) (s : List ℕ) where
  abbrev pub response_fills : List ℤ → Bool
  response_fills c = (refreshed_response p N g P.matrix s (residues q c)).next.ok

  abbrev zs : List ℕ → Option (List ℕ)
  zs c = decoded p.l p.shares (refreshed_response p N g P.matrix s c)

  abbrev at-challenge : Option (List ℤ) → Attempted
  at-challenge o = challenged p P (round_w (commitment_of p N g P.matrix)) (hash_of p N g P.matrix P.mu) zs o

  -- check 20 before the challenge
  pub attempt-dry : commitment_fills p P N g ≡ false → attempted p P N g s ≡ dry
  unfolding attempted concluded
  attempt-dry e = ap (λ (b : Bool). concluded p P (pick b (some (commitment_of p N g P.matrix)) none) zs) e

  module _ (filled : commitment_fills p P N g ≡ true) where
    attempt-asks : attempted p P N g s ≡ at-challenge (chal_poly p (hash_of p N g P.matrix P.mu))
    unfolding attempted concluded
    attempt-asks = ap (λ (b : Bool). concluded p P (pick b (some (commitment_of p N g P.matrix)) none) zs) filled

    -- check 11
    pub attempt-stuck : chal_poly p (hash_of p N g P.matrix P.mu) ≡ none → attempted p P N g s ≡ stuck
    attempt-stuck e = attempt-asks ∙ ap at-challenge e

    module _ (c : List ℤ) (e : chal_poly p (hash_of p N g P.matrix P.mu) ≡ some c) where
      abbrev at-response : Bool → Attempted
      at-response b =
          responded p P (round_w (commitment_of p N g P.matrix)) (hash_of p N g P.matrix P.mu) c
          (pick b (some (totals p.l p.shares (refreshed_response p N g P.matrix s (residues q c)).shares)) none)

      -- check 20 behind it
      pub attempt-late : response_fills c ≡ false → attempted p P N g s ≡ dry
      attempt-late f = attempt-asks ∙ ap at-challenge e ∙ ap at-response f

      pub attempt-on : response_fills c ≡ true → attempted p P N g s ≡ finished p (fields_for p P N g s c)
      attempt-on f = attempt-asks ∙ ap at-challenge e ∙ ap at-response f

-- by what lines 4 to 16 left: o is the challenge, ys the work buffer
module _ (p : Params) (P : Public) (N : Noise) (g : MaskGen) (s hash ys : List ℕ) (o : Reply)
    (u : Answered p N g P.matrix P.mu s o hash ys) where
  chal-there : o.challenge ≡ None → chal_poly p (hash_of p N g P.matrix P.mu) ≡ none
  chal-there e = held-none _ (sym e ∙ u.challenge-is)

  pub left-stuck : commitment_fills p P N g ≡ true → o.challenge ≡ None → attempted p P N g s ≡ stuck
  left-stuck f e = attempt-stuck p P N g s f (chal-there e)

  pub left-idle : o.challenge ≡ None → Begun p N g s ys
  left-idle e = u.idle (chal-there e)

  module _ (c : List ℤ) (e : o.challenge ≡ Some c) where
    chal-is : chal_poly p (hash_of p N g P.matrix P.mu) ≡ some c
    chal-is = held-some _ c (sym e ∙ u.challenge-is)

    pub left-dry : commitment_fills p P N g ≡ true → o.full ≡ false → attempted p P N g s ≡ dry
    left-dry f d = attempt-late p P N g s f c chal-is (sym (u.masks-are c chal-is) ∙ d)

    -- what is left to do is lines 17 to 20
    pub left-on : commitment_fills p P N g ≡ true → o.full ≡ true
        → attempted p P N g s
        ≡ finished p (signed_fields p P (span ys (at_t p.l p.shares) (p.k * 512)) hash (span ys (at_x p.k p.l p.shares) (p.l * 512)) c)
    left-on f d =
        let Z = totals p.l p.shares (refreshed_response p N g P.matrix s (residues q c)).shares in
        attempt-on p P N g s f c chal-is (sym (u.masks-are c chal-is) ∙ d)
        ∙ ap (λ (W : List ℕ). finished p (signed_fields p P W (hash_of p N g P.matrix P.mu) Z c)) (sym u.commitment)
        ∙ ap (λ (H : List ℕ). finished p (signed_fields p P (span ys (at_t p.l p.shares) (p.k * 512)) H Z c)) (sym u.hash-is)
        ∙ ap (λ (X : List ℕ). finished p (signed_fields p P (span ys (at_t p.l p.shares) (p.k * 512)) hash X c))
        (sym (u.response c chal-is))

    pub left_key : key_in p ys ≡ (refreshed_key p N g P.matrix s).shares
    left_key = u.key c chal-is

-- ---- the attempts in order

module _ (p : Params) (P : Public) (T : Coins) (n m a : ℕ) (s : List ℕ) (left : n ≡ suc m) where
  -- attempt number a + 1 made a signature; met a challenge that does not fill, or masks that do not; was over, and t is the key that it left
  pub sign-pass : (b : List ℕ) → attempted p P (noise_at p T a) (mask_at T a) s ≡ made b → sign_from p P T n a s ≡ answer 0 (a + 1) b
  unfolding sign_from
  sign-pass b e = rw (left, sign_from, e, add-one)

  pub sign-stuck : attempted p P (noise_at p T a) (mask_at T a) s ≡ stuck → sign_from p P T n a s ≡ answer 11 (a + 1) []
  unfolding sign_from
  sign-stuck e = rw (left, sign_from, e, add-one)

  pub sign-dry : attempted p P (noise_at p T a) (mask_at T a) s ≡ dry → sign_from p P T n a s ≡ answer 20 (a + 1) []
  unfolding sign_from
  sign-dry e = rw (left, sign_from, e, add-one)

  pub sign-next : (t : List ℕ) → t ≡ (refreshed_key p (noise_at p T a) (mask_at T a) P.matrix s).shares → attempted p P (noise_at p T a) (mask_at T a) s ≡ over
      → sign_from p P T n a s ≡ sign_from p P T m (a + 1) t
  unfolding sign_from
  sign-next t h e = rw (left, sign_from, e, add-one, h)

-- no attempt is left
pub sign-none : (p : Params) (P : Public) (T : Coins) (n a : ℕ) (s : List ℕ) → n ≡ 0 → sign_from p P T n a s ≡ answer 12 a []
unfolding sign_from
sign-none p P T n a s e = rw (e, sign_from)
