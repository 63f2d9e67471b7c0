-- Signatures that are too long (02, #103): the number that `signature_bits` tells decides the writer's answer, and, where the bounds pass, the end of
-- an attempt; of fields that were read it is no more than the signature's bits.
use mathlib.Core.Path.{◌≡◌, refl, sym, ap, ◌∙◌}
use mathlib.Core.Bool.{Bool, true, false}
use mathlib.Core.List.{List}
use mathlib.Core.Logic.{◌⊎◌, inl, inr}
use mathlib.Core.Option.{Option, some, none}
use Prim.Native.Nat.{ℕ, suc, ◌+◌, ◌*◌, ◌/◌, ◌^◌, ◌≤◌, ◌<◌}
use native.Mathlib.Omega.{arith}
use borrow.Author.Tests.{eq-eqb}
use lib.Dec.{lit<}
use lib.IntN.{ℤ, pos, nat_abs}
use lib.ListN.{length, get_or}
use Rattle.hash.specs.Lists.{pick, Bytes}
use Rattle.hash.specs.Params.{lookup_of}
use Rattle.hash.specs.declared.params.Edition.{Edition}
use Rattle.hash.specs.declared.params.Params.{Params}
use Rattle.std.specs.Prelude.{Result, Ok}
use Rattle.hash.specs.declared.params.Unknown.{Unknown}
use Rattle.hash.proofs.Output.{output-length, output-bytes}
use Rattle.hash.proofs.Rows.{order-count, found}
use Rattle.hash.proofs.Sets.{beside}
use Rattle.ring.specs.Round.{rounded, round_w, residues}
use Rattle.ring.specs.Words.{q, Below}
use Rattle.ring.proofs.Checks.{both_yes}
use Rattle.ring.proofs.Mapped.{length-map, rounded-lt}
use Rattle.ring.proofs.Pairs.{below-map_n}
use Rattle.sharing.specs.Blocks.{totals}
use Rattle.sharing.specs.declared.masks.MaskGen.{MaskGen}
use Rattle.sharing.proofs.Decode.{totals-words}
use Rattle.signature.specs.AttemptSteps.{commitment_of, hash_of}
use Rattle.signature.specs.Bounds.{check_bounds}
use Rattle.signature.specs.Challenge.{chal_hash, chal_poly}
use Rattle.signature.specs.Form.{Fields, hash_bytes, form_bits, signature_bits, bit_count, write, read}
use Rattle.signature.specs.Masked.{Noise, masked_image}
use Rattle.signature.specs.Outcome.{answer}
use Rattle.signature.specs.Recover.{recovered}
use Rattle.signature.specs.Sign.{Public, made, over, stuck, dry, signed_fields, wrote, finished, refreshed_key, refreshed_response, attempted, Coins, noise_at, mask_at, sign_from}
use Rattle.signature.proofs.Attempts.{fields_for, commitment_fills, response_fills, attempt-dry, attempt-stuck, attempt-late, attempt-on, sign-pass, sign-next}
use Rattle.signature.proofs.Canonical.{Sized, write-fits, write-none, none-long, write-some, read_fits, read-sized}
use Rattle.signature.proofs.Centred.{length-centred, centred-low}
use Rattle.signature.proofs.Filled.{bits-length}
use Rattle.signature.proofs.Finished.{hint-low}
use Rattle.sizes.specs.Count.{fields_sized, bits_told, bits_by, signature_bits_call}
use Rattle.sizes.specs.declared.count.CountedBits.{CountedBits}
use Rattle.theorems.proofs.Hint.{length-hint}
use Rattle.theorems.proofs.Lengths.{any-edition}
use Rattle.theorems.proofs.ShareCount.{k-same, l-same, hash-bytes-same}

-- ---- what is told, by the record that a call finds: neither share count nor edition bears on it

counted-in : (h z : List ℤ) (set : ℕ) (e : Edition) → signature_bits_call set h z ≡ bits_by (lookup_of set 1 e) h z
unfolding signature_bits_call
counted-in h z set e = any-edition (λ (s : Result Params Unknown). bits_by s h z) e (λ r. refl) set 1

module _ (set d : ℕ) (e : Edition) (p : Params) (row : lookup_of set d e ≡ Ok p) where
  -- the number that is told of fields of the set's sizes is the one that the writer looks at
  pub bits-told : (f : Fields) → Sized p f → signature_bits_call set f.hint f.response ≡ bits_told 0 (bit_count f)
  unfolding bit_count
  bits-told f l =
      let o = beside set d 1 e p row (order-count 1 (omega arith)) in
      let r = o.other in
      let h = f.hint in
      let z = f.response in
      let sized : fields_sized r h z ≡ true =
      both_yes (eq-eqb (length h) (r.k * 512) (l.hint-long ∙ ap (λ (n : ℕ). n * 512) (k-same p r o.same)))
      (eq-eqb (length z) (r.l * 512) (l.response-long ∙ ap (λ (n : ℕ). n * 512) (l-same p r o.same))) in
      counted-in h z set e ∙ ap (λ (s : Result Params Unknown). bits_by s h z) o.is ∙ ap (λ (b : Bool). bits_told (pick b 0 13) (signature_bits (hash_bytes r) h z)) sized
      ∙ ap (λ (n : ℕ). bits_told 0 (signature_bits n h z)) (sym (l.hash-long ∙ hash-bytes-same p r o.same))

  abbrev bits : Fields → ℕ
  bits f = (signature_bits_call set f.hint f.response).bits

  bits_are : (f : Fields) → Sized p f → bits f ≡ bit_count f
  bits_are f l = ap (λ (x : CountedBits). x.bits) (bits-told f l)

  -- .. and as many as it makes, before it fills
  pub bits-made : (f : Fields) → Sized p f → length (form_bits f) ≡ bits f
  bits-made f l = bits-length f.hash f.hint f.response ∙ sym (bits_are f l)

  -- ---- the writer: bytes exactly where the number is within the signature's bits

  module _ (f : Fields) (l : Sized p f) where
    pub writer-none : 8 * p.sig_bytes < bits f → write p f ≡ none
    writer-none h = write-none p f (omega (arith, h, bits_are f l))

    pub writer-long : write p f ≡ none → 8 * p.sig_bytes < bits f
    writer-long h = omega (arith, none-long p f h, bits_are f l)

    pub writer-some : bits f ≤ 8 * p.sig_bytes → (b : List ℕ) × (write p f ≡ some b)
    writer-some h = (_, write-fits p f (omega (arith, h, bits_are f l)))

    pub writer-fits : (b : List ℕ) → write p f ≡ some b → bits f ≤ 8 * p.sig_bytes
    writer-fits b h = omega (arith, (write-some p f b h).0, bits_are f l)

  -- ---- an attempt that comes to its fields, with the challenge polynomial c

  module _ (P : Public) (N : Noise) (g : MaskGen) (s : List ℕ) where
    pub record ComesTo (c : List ℤ) : Type 0 where
      pub commits : commitment_fills p P N g ≡ true
      pub challenge : chal_poly p (hash_of p N g P.matrix P.mu) ≡ some c
      pub responds : response_fills p P N g s c ≡ true

    -- every attempt that is over came to its fields
    pub over-comes : attempted p P N g s ≡ over → (c : List ℤ) × ComesTo c
    over-comes o = go (commitment_fills p P N g) refl
      where
        at-response : (c : List ℤ) → commitment_fills p P N g ≡ true → chal_poly p (hash_of p N g P.matrix P.mu) ≡ some c
            → (b : Bool) → response_fills p P N g s c ≡ b → (c : List ℤ) × ComesTo c
        at-response c w i true r = (c, record { commits = w; challenge = i; responds = r })
        at-response c w i false r = let z : dry ≡ over = sym (attempt-late p P N g s w c i r) ∙ o in let y : ◌≡◌ {A = ℕ} 0 1 = cc in absurd (omega arith)

        at-challenge : commitment_fills p P N g ≡ true → (x : Option (List ℤ)) → chal_poly p (hash_of p N g P.matrix P.mu) ≡ x → (c : List ℤ) × ComesTo c
        at-challenge w none i = let z : stuck ≡ over = sym (attempt-stuck p P N g s w i) ∙ o in let y : ◌≡◌ {A = ℕ} 0 1 = cc in absurd (omega arith)
        at-challenge w (some c) i = at-response c w i (response_fills p P N g s c) refl

        go : (b : Bool) → commitment_fills p P N g ≡ b → (c : List ℤ) × ComesTo c
        go true w = at-challenge w (chal_poly p (hash_of p N g P.matrix P.mu)) refl
        go false w = let z : dry ≡ over = sym (attempt-dry p P N g s w) ∙ o in let y : ◌≡◌ {A = ℕ} 0 1 = cc in absurd (omega arith)

    module _ (c : List ℤ) (t : ComesTo c) where
      abbrev f : Fields
      f = fields_for p P N g s c

      pub fields-sized : Sized p f
      unfolding signed_fields chal_hash
      fields-sized =
          let w = commitment_of p N g P.matrix in
          let z = totals p.l p.shares (refreshed_response p N g P.matrix s (residues q c)).shares in
          record {
            hash-long = output-length _ (p.kappa / 4);
            hash-bytes = output-bytes _ (p.kappa / 4);
            hint-long = length-hint (round_w w) (recovered p P.matrix z (residues q c) P.vector) ∙ length-map (rounded 44 31) w ∙ (totals-words p.k p.shares (masked_image p N g P.matrix).shares).long;
            response-long = length-centred q z ∙ (totals-words p.l p.shares (refreshed_response p N g P.matrix s (residues q c)).shares).long;
          }

      -- its numbers are such as the call is lent: hints of 8 bits, responses of 64
      pub fields-narrow : ((i : ℕ) → nat_abs (get_or f.hint i (pos 0)) < 2 ^ 7) × ((i : ℕ) → nat_abs (get_or f.response i (pos 0)) < 2 ^ 63)
      unfolding signed_fields
      fields-narrow =
          let w = commitment_of p N g P.matrix in
          let xs = (refreshed_response p N g P.matrix s (residues q c)).shares in
          let z = totals p.l p.shares xs in
          let y = recovered p P.matrix z (residues q c) P.vector in
          let b : Below 31 (round_w w) = below-map_n 31 (rounded 44 31) (rounded-lt 44 31 (lit< tt)) w in (
            λ i. omega (arith, hint-low (round_w w) y refl b i),
            λ i. omega (arith, centred-low q z (totals-words p.l p.shares xs).low i),
          )

      comes-on : attempted p P N g s ≡ finished p f
      comes-on = attempt-on p P N g s t.commits c t.challenge t.responds

      -- outside the bounds it is over whatever the number; within them the number decides
      pub outside-over : check_bounds p f ≡ false → attempted p P N g s ≡ over
      unfolding finished
      outside-over out = comes-on ∙ ap (λ (b : Bool). pick b (wrote (write p f)) over) out

      module _ (within : check_bounds p f ≡ true) where
        wrote_on : attempted p P N g s ≡ wrote (write p f)
        unfolding finished
        wrote_on = comes-on ∙ ap (λ (b : Bool). pick b (wrote (write p f)) over) within

        pub long-over : 8 * p.sig_bytes < bits f → attempted p P N g s ≡ over
        long-over h = wrote_on ∙ ap wrote (writer-none f fields-sized h)

        pub over-long : attempted p P N g s ≡ over → 8 * p.sig_bytes < bits f
        over-long o = writer-long f fields-sized (go (write p f) (sym wrote_on ∙ o))
          where
            go : (x : Option (List ℕ)) → wrote x ≡ over → x ≡ none
            go none i = refl
            go (some b) i = let y : ◌≡◌ {A = ℕ} 0 1 = cc in absurd (omega arith)

        pub fits-made : bits f ≤ 8 * p.sig_bytes → (b : List ℕ) × (write p f ≡ some b) × (attempted p P N g s ≡ made b)
        fits-made h = let x = writer-some f fields-sized h in (x.0, x.1, wrote_on ∙ ap wrote x.1)

    -- why an attempt is over: its fields are outside the bounds, or too long
    pub over-why : attempted p P N g s ≡ over
        → (c : List ℤ) × ComesTo c × ((check_bounds p (fields_for p P N g s c) ≡ false) ⊎ (8 * p.sig_bytes < bits (fields_for p P N g s c)))
    over-why o = let x = over-comes o in (x.0, x.1, go x.0 x.1 (check_bounds p (fields_for p P N g s x.0)) refl)
      where
        go : (c : List ℤ) → ComesTo c → (b : Bool) → check_bounds p (fields_for p P N g s c) ≡ b
            → (check_bounds p (fields_for p P N g s c) ≡ false) ⊎ (8 * p.sig_bytes < bits (fields_for p P N g s c))
        go c t false i = inl i
        go c t true i = inr (over-long c t i o)

  -- ---- attempt number a + 1 of a call, within the bounds: it makes the signature, or leads to the next, by the number

  module _ (P : Public) (T : Coins) (left a : ℕ) (s : List ℕ) (c : List ℤ) where
    abbrev N : Noise
    N = noise_at p T a

    abbrev g : MaskGen
    g = mask_at T a

    abbrev fields : Fields
    fields = fields_for p P N g s c

    module _ (t : ComesTo P N g s c) (within : check_bounds p fields ≡ true) where
      pub long-next : 8 * p.sig_bytes < bits fields
          → sign_from p P T (suc left) a s ≡ sign_from p P T left (a + 1) (refreshed_key p N g P.matrix s).shares
      long-next h = sign-next p P T (suc left) left a s refl (refreshed_key p N g P.matrix s).shares refl (long-over P N g s c t within h)

      pub fits_signed : bits fields ≤ 8 * p.sig_bytes
          → (b : List ℕ) × (write p fields ≡ some b) × (sign_from p P T (suc left) a s ≡ answer 0 (a + 1) b)
      fits_signed h =
          let x = fits-made P N g s c t within h in
          (x.0, x.1, sign-pass p P T (suc left) left a s refl x.0 x.2)

  -- ---- the reader

  pub read-within : (b : List ℕ) (f : Fields) → Bytes b → length b ≡ p.sig_bytes → read p b ≡ some f → bits f ≤ 8 * p.sig_bytes
  read-within b f byte long r =
      let size : hash_bytes p ≤ length b = omega (arith, (found set d e p row).rule.hash-fits, long) in
      omega (arith, read_fits p b f size r, bits_are f (read-sized p b f byte size r), long)
