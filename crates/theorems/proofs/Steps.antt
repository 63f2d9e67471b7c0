-- Each masked step of signing, and what it does to the sums of the shares; then a whole attempt, and all attempts: signing on shares is plain
-- signing on sums.
use mathlib.Core.Path.{◌≡◌, refl, sym, ap, ◌∙◌}
use mathlib.Core.List.{List}
use mathlib.Core.Option.{some}
use Prim.Native.Nat.{ℕ, zero, suc, ◌+◌, ◌*◌, ◌^◌, ◌<◌}
use native.Mathlib.Omega.{arith}
use Rattle.hash.specs.Params.{order_index}
use Rattle.hash.specs.declared.params.Params.{Params}
use Rattle.ring.specs.Words.{add_w, Words, Linear}
use Rattle.ring.specs.Transform.{intt, mul}
use Rattle.ring.proofs.Sums.{add-zero-left, words-add}
use Rattle.ring.proofs.Theorems.{intt-linear, mul-linear}
use Rattle.sharing.specs.Blocks.{block, build, total, totals, each}
use Rattle.sharing.specs.Encoding.{skip, zero_vector}
use Rattle.sharing.specs.Masks.{masks}
use Rattle.sharing.specs.declared.masks.MaskGen.{MaskGen}
use Rattle.sharing.proofs.Carry.{mask_low}
use Rattle.sharing.proofs.Decode.{words-sum, sum-ext, linear-sum, linear-then, total-linear, totals-build, block-totals}
use Rattle.sharing.proofs.Lists.{block_words, block-build, build-ext, words-build}
use Rattle.sharing.proofs.Totals.{each-words, each-total, zero_at-total, refreshed-words, refreshed-totals, noise-words, noise-totals, zero_vector-words, zero_vector-block}
use Rattle.signature.specs.Masked.{Noise, decoded, masked_row, masked_product, masked_noise, masked_image}
use Rattle.signature.specs.Outcome.{Outcome}
use Rattle.signature.specs.Recover.{product_row}
use Rattle.signature.specs.Sign.{Public, Attempted, dry, Coins, ended, masked_response, refreshed_key, refreshed_noise, refreshed_response, attempted, noise_at, mask_at, sign_from}
use Rattle.theorems.specs.Plain.{Totals, noise_total, totals_of, plain_commitment, plain_response, plain_attempt, plain_from}
use Rattle.theorems.proofs.Dry.{picked-some, concluded-full, ended-full}

-- noise of words below q
pub record GoodNoise (p : Params) (N : Noise) : Type 0 where
  pub first : (i t : ℕ) → i < p.l → t < N.reps → Words (p.shares * 512) (N.first i t)
  pub second : (i t : ℕ) → i < p.k → t < N.reps → Words (p.shares * 512) (N.second i t)

-- ---- the masked product has the sums' product

module _ (d l : ℕ) (A xs : List ℕ) (wx : Words (l * (d * 512)) xs) where
  row-total : (i : ℕ) → total d (masked_row d l A xs i) ≡ product_row l A (totals l d xs) i
  unfolding masked_row product_row
  row-total i =
      linear-sum (total-linear d) l (λ (m : ℕ). each d (mul (block 512 (i * l + m) A)) (block (d * 512) m xs))
      (λ (m : ℕ) (g : m < l). each-words d (mul-linear (block 512 (i * l + m) A)) (block (d * 512) m xs) (block_words l m xs wx g))
      ∙ sum-ext 512 l (λ (m : ℕ). total d (each d (mul (block 512 (i * l + m) A)) (block (d * 512) m xs)))
      (λ (m : ℕ). mul (block 512 (i * l + m) A) (block 512 m (totals l d xs)))
      (λ (m : ℕ) (g : m < l).
      each-total d (mul-linear (block 512 (i * l + m) A)) (block (d * 512) m xs) (block_words l m xs wx g)
      ∙ ap (mul (block 512 (i * l + m) A)) (sym (block-totals l d m xs g)))

  row_words : (i : ℕ) → Words (d * 512) (masked_row d l A xs i)
  unfolding masked_row
  row_words i = words-sum (d * 512) l (λ (m : ℕ). each d (mul (block 512 (i * l + m) A)) (block (d * 512) m xs))

  product-words : (k : ℕ) → Words (k * (d * 512)) (masked_product d k l A xs)
  unfolding masked_product
  product-words k = words-build k (masked_row d l A xs) (λ (i : ℕ) (h : i < k). row_words i)

  product-block : (k i : ℕ) → i < k → total d (block (d * 512) i (masked_product d k l A xs)) ≡ product_row l A (totals l d xs) i
  unfolding masked_product
  product-block k i h =
      ap (total d) (block-build (d * 512) k i (masked_row d l A xs) (λ (j : ℕ) (g : j < k). (row_words j).long) h) ∙ row-total i

-- ---- the masked response has the sums' response

through : (c : List ℕ) → Linear 512 512 (λ (x : List ℕ). mul c (intt x))
through c = linear-then intt-linear (mul-linear c)

-- of the sums s and r
abbrev summed_response : ℕ → List ℕ → List ℕ → List ℕ → List ℕ
summed_response l c s r = build l (λ (i : ℕ). add_w (mul c (intt (block 512 i s))) (block 512 i r))

module _ (d l : ℕ) (c s r : List ℕ) (ws : Words (l * (d * 512)) s) (wr : Words (l * (d * 512)) r) where
  abbrev one : ℕ → List ℕ
  one i = add_w (each d (λ (x : List ℕ). mul c (intt x)) (block (d * 512) i s)) (block (d * 512) i r)

  one-words : (i : ℕ) → i < l → Words (d * 512) (one i)
  one-words i h =
      words-add (each d (λ (x : List ℕ). mul c (intt x)) (block (d * 512) i s)) (block (d * 512) i r)
      (each-words d (through c) (block (d * 512) i s) (block_words l i s ws h))

  response-words : Words (l * (d * 512)) (masked_response d l c s r)
  unfolding masked_response
  response-words = words-build l one one-words

  response-totals : totals l d (masked_response d l c s r) ≡ summed_response l c (totals l d s) (totals l d r)
  unfolding masked_response
  response-totals =
      totals-build l d one (λ (i : ℕ) (h : i < l). (one-words i h).long)
      ∙ build-ext l (λ (i : ℕ). total d (one i)) (λ (i : ℕ). add_w (mul c (intt (block 512 i (totals l d s)))) (block 512 i (totals l d r)))
      (λ (i : ℕ) (h : i < l).
      let ps : Words (d * 512) (block (d * 512) i s) = block_words l i s ws h in
      let pr : Words (d * 512) (block (d * 512) i r) = block_words l i r wr h in
      let e1 : total d (one i) ≡ add_w (total d (each d (λ (x : List ℕ). mul c (intt x)) (block (d * 512) i s))) (total d (block (d * 512) i r)) =
      (total-linear d).adds (each d (λ (x : List ℕ). mul c (intt x)) (block (d * 512) i s)) (block (d * 512) i r) (each-words d (through c) (block (d * 512) i s) ps) pr in
      let e2 : total d (each d (λ (x : List ℕ). mul c (intt x)) (block (d * 512) i s)) ≡ mul c (intt (total d (block (d * 512) i s))) =
      each-total d (through c) (block (d * 512) i s) ps in
      let e3 : block 512 i (totals l d s) ≡ total d (block (d * 512) i s) = block-totals l d i s h in
      let e4 : block 512 i (totals l d r) ≡ total d (block (d * 512) i r) = block-totals l d i r h in
      cc (e1, e2, e3, e4))

-- ---- the lines of an attempt; N is its noise, g its generator

module _ (p : Params) (power : p.shares ≡ 2 ^ order_index p.shares) where
  abbrev d : ℕ
  d = p.shares

  abbrev l : ℕ
  l = p.l

  abbrev k : ℕ
  k = p.k

  module _ (N : Noise) (good : GoodNoise p N) (g : MaskGen) where
    abbrev start : List ℕ
    start = zero_vector masks d g l

    start-words : Words (l * (d * 512)) start
    start-words = zero_vector-words masks mask_low d power g l

    -- line 5
    r-words : Words (l * (d * 512)) (masked_noise p N g).shares
    unfolding masked_noise
    r-words = noise-words masks mask_low d power l start start-words (skip masks d l g) N.reps N.first

    r-totals : totals l d (masked_noise p N g).shares ≡ (totals_of p N).first
    unfolding masked_noise totals_of
    r-totals =
        noise-totals masks mask_low d power l start start-words (skip masks d l g) N.reps N.first good.first
        ∙ build-ext l (λ (i : ℕ). add_w (total d (block (d * 512) i start)) (noise_total d N.reps N.first i)) (noise_total d N.reps N.first)
        (λ (i : ℕ) (h : i < l).
        ap (λ (y : List ℕ). add_w y (noise_total d N.reps N.first i))
        (ap (total d) (zero_vector-block masks mask_low d power g l i h) ∙ zero_at-total masks mask_low d power i g)
        ∙ add-zero-left (noise_total d N.reps N.first i) (words-sum 512 N.reps (λ (t : ℕ). total d (N.first i t))))

    -- line 7
    second_at : (i : ℕ) → i < k → block 512 i (totals_of p N).second ≡ noise_total d N.reps N.second i
    unfolding totals_of
    second_at i h =
        block-build 512 k i (noise_total d N.reps N.second) (λ (j : ℕ) (m : j < k). (words-sum 512 N.reps (λ (t : ℕ). total d (N.second j t))).long) h

    w-totals : (A : List ℕ) → totals k d (masked_image p N g A).shares ≡ plain_commitment p A (totals_of p N)
    unfolding masked_image plain_commitment
    w-totals A =
        noise-totals masks mask_low d power k (masked_product d k l A (masked_noise p N g).shares) (product-words d l A (masked_noise p N g).shares r-words k)
        (masked_noise p N g).next N.reps N.second good.second
        ∙ build-ext k (λ (i : ℕ). add_w (total d (block (d * 512) i (masked_product d k l A (masked_noise p N g).shares))) (noise_total d N.reps N.second i))
        (λ (i : ℕ). add_w (product_row l A (totals_of p N).first i) (block 512 i (totals_of p N).second))
        (λ (i : ℕ) (h : i < k).
        let e1 : total d (block (d * 512) i (masked_product d k l A (masked_noise p N g).shares)) ≡ product_row l A (totals l d (masked_noise p N g).shares) i =
        product-block d l A (masked_noise p N g).shares r-words k i h in
        let e2 : block 512 i (totals_of p N).second ≡ noise_total d N.reps N.second i = second_at i h in
        cc (e1, e2, r-totals))

    module _ (A s : List ℕ) (ws : Words (l * (d * 512)) s) where
      -- line 12
      s-words : Words (l * (d * 512)) (refreshed_key p N g A s).shares
      unfolding refreshed_key
      s-words = refreshed-words masks mask_low d power l s ws (masked_image p N g A).next

      s-totals : totals l d (refreshed_key p N g A s).shares ≡ totals l d s
      unfolding refreshed_key
      s-totals = refreshed-totals masks mask_low d power l s ws (masked_image p N g A).next

      -- line 13
      r2-words : Words (l * (d * 512)) (refreshed_noise p N g A s).shares
      unfolding refreshed_noise
      r2-words = refreshed-words masks mask_low d power l (masked_noise p N g).shares r-words (refreshed_key p N g A s).next

      r2-totals : totals l d (refreshed_noise p N g A s).shares ≡ (totals_of p N).first
      unfolding refreshed_noise
      r2-totals = refreshed-totals masks mask_low d power l (masked_noise p N g).shares r-words (refreshed_key p N g A s).next ∙ r-totals

      -- lines 14 and 15
      z-totals : (c : List ℕ) → totals l d (refreshed_response p N g A s c).shares ≡ plain_response p (totals l d s) (totals_of p N) c
      unfolding refreshed_response plain_response
      z-totals c =
          refreshed-totals masks mask_low d power l (masked_response d l c (refreshed_key p N g A s).shares (refreshed_noise p N g A s).shares)
          (response-words d l c (refreshed_key p N g A s).shares (refreshed_noise p N g A s).shares s-words r2-words) (refreshed_noise p N g A s).next
          ∙ response-totals d l c (refreshed_key p N g A s).shares (refreshed_noise p N g A s).shares s-words r2-words
          ∙ ap (λ (y : List ℕ). summed_response l c y (totals l d (refreshed_noise p N g A s).shares)) s-totals
          ∙ ap (summed_response l c (totals l d s)) r2-totals

  -- an attempt on shares is the plain attempt on sums, unless it runs dry
  pub attempt-collapses : (P : Public) (N : Noise) → GoodNoise p N → (g : MaskGen) (s : List ℕ) → Words (l * (d * 512)) s
      → (attempted p P N g s ≡ dry → ⊥) → attempted p P N g s ≡ plain_attempt p P (totals l d s) (totals_of p N)
  unfolding attempted plain_attempt
  attempt-collapses P N good g s ws full =
      concluded-full p P (λ (c : List ℕ). decoded l d (refreshed_response p N g P.matrix s c)) (plain_response p (totals l d s) (totals_of p N))
      (λ (c x : List ℕ) (o : decoded l d (refreshed_response p N g P.matrix s c) ≡ some x).
      sym (picked-some (refreshed_response p N g P.matrix s c).next.ok (totals l d (refreshed_response p N g P.matrix s c).shares) x o)
      ∙ z-totals N good g P.matrix s ws c)
      (decoded k d (masked_image p N g P.matrix)) (plain_commitment p P.matrix (totals_of p N))
      (λ (x : List ℕ) (o : decoded k d (masked_image p N g P.matrix) ≡ some x).
      sym (picked-some (masked_image p N g P.matrix).next.ok (totals k d (masked_image p N g P.matrix).shares) x o) ∙ w-totals N good g P.matrix)
      full

  -- all attempts: the key's shares change from one to the next, their sums do not
  pub collapse : (P : Public) (T : Coins) (left a : ℕ) → ((b : ℕ) → b < a + left → GoodNoise p (noise_at p T b))
      → (s : List ℕ) → Words (l * (d * 512)) s → ((sign_from p P T left a s).status ≡ 20 → ⊥)
      → sign_from p P T left a s ≡ plain_from p P (λ (b : ℕ). totals_of p (noise_at p T b)) left a (totals l d s)
  unfolding sign_from plain_from
  collapse P T zero a good s ws full = refl
  collapse P T (suc left) a good s ws full =
      let here : GoodNoise p (noise_at p T a) = good a (omega arith) in
      let s' : List ℕ = (refreshed_key p (noise_at p T a) (mask_at T a) P.matrix s).shares in
      let e : ℕ → Totals = λ (b : ℕ). totals_of p (noise_at p T b) in
      let later : Outcome = sign_from p P T left (suc a) s' in
      let e1 : attempted p P (noise_at p T a) (mask_at T a) s ≡ plain_attempt p P (totals l d s) (e a) =
      attempt-collapses P (noise_at p T a) here (mask_at T a) s ws
      (λ (x : attempted p P (noise_at p T a) (mask_at T a) s ≡ dry). full (ap (λ (t : Attempted). (ended a t later).status) x)) in
      let e3 : totals l d s' ≡ totals l d s = s-totals (noise_at p T a) here (mask_at T a) P.matrix s ws in
      ap (λ (t : Attempted). ended a t later) e1
      ∙ ended-full a (plain_attempt p P (totals l d s) (e a)) later (plain_from p P e left (suc a) (totals l d s))
      (λ (x : (ended a (plain_attempt p P (totals l d s) (e a)) later).status ≡ 20). full (ap (λ (t : Attempted). (ended a t later).status) e1 ∙ x))
      (λ (y : later.status ≡ 20 → ⊥).
      collapse P T left (suc a) (λ (b : ℕ) (h : b < suc a + left). good b (omega arith)) s'
      (s-words (noise_at p T a) here (mask_at T a) P.matrix s ws) y
      ∙ ap (plain_from p P e left (suc a)) e3)
