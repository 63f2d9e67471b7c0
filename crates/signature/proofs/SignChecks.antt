-- The checks of signing (01: 3 to 9): in two parts, those of the coins, and what passing gives.
use mathlib.Core.Path.{◌≡◌, refl, sym, ap, ◌∙◌}
use mathlib.Core.Bool.{Bool, true, false}
use mathlib.Core.List.{List, [], ◌∷◌, ◌++◌}
use Prim.Native.Nat.{ℕ, ◌+◌, ◌*◌, ◌≤◌}
use borrow.Author.Tests.{leb-true, eq-eqb, ne_eqb}
use lib.Dec.{eqb, leb}
use lib.ListN.{length}
use Rattle.hash.specs.declared.params.Params.{Params}
use Rattle.std.specs.Prelude.{Ok}
use Rattle.ring.specs.Words.{q, all_below}
use Rattle.ring.proofs.Checks.{asked, no-before, yes-before, yes_both, both_true, left-no, right-no, both-last}
use Rattle.sharing.specs.Noise.{noise_bytes}
use Rattle.signature.specs.Checks.{first_no, both, attempts_allowed, sign_buffers_sized, message_sized, work_words, key_sized, key_good, shares_good, key_checks}
use Rattle.signature.specs.Keys.{vk_seed, public_of, shares_of}
use Rattle.signature.specs.Matrix.{matrix, filled}
use Rattle.signature.specs.Sign.{Coins, from_seeds, from_noise}
use Rattle.signature.specs.SignCalls.{Key, coins_good, call_checks, sign_checks}
use Rattle.signature.specs.SignSteps.{sign_no}
use Rattle.signature.proofs.Asked.{sizes}

-- ---- the two parts

module _ (p : Params) (key : Key) (n : ℕ) (msg : List ℕ) (T : Coins) (out work : List ℕ) (k : ℕ) (e : k ≡ first_no (key_checks p key)) where
  pub no_key : (k ≡ 0 → ⊥) → k ≡ sign_no p key n msg T out work
  unfolding sign_no
  no_key h = no-before (key_checks p key) (call_checks p n msg T out work) k e h

  pub no_call : k ≡ 0 → first_no (call_checks p n msg T out work) ≡ sign_no p key n msg T out work
  unfolding sign_no
  no_call z = sym (yes-before (key_checks p key) (call_checks p n msg T out work) refl (sym e ∙ z))

-- ---- check 7

module _ (p : Params) (n : ℕ) where
  abbrev words : ℕ
  words = n * ((p.l + p.k) * p.shares * 512)

  pub coins-masks : (x : Bool) (noise masks : List ℕ) → (length masks ≡ n * 32 → ⊥)
      → false ≡ coins_good p n (record { explicit = x; noise = noise; masks = masks })
  coins-masks true noise masks h = sym (right-no (eqb (length noise) words) (right-no (all_below q noise) (ne_eqb (length masks) (n * 32) h)))
  coins-masks false noise masks h = sym (right-no (eqb (length noise) (n * noise_bytes p)) (ne_eqb (length masks) (n * 32) h))

  pub coins-noise : (noise masks : List ℕ) → (length noise ≡ words → ⊥) → false ≡ coins_good p n (from_noise noise masks)
  coins-noise noise masks h = sym (left-no (both (all_below q noise) (eqb (length masks) (n * 32))) (ne_eqb (length noise) words h))

  pub coins-words : (noise masks : List ℕ) → length masks ≡ n * 32 → length noise ≡ words → all_below q noise ≡ coins_good p n (from_noise noise masks)
  coins-words noise masks m h =
      sym (ap (λ (b : Bool). both b (both (all_below q noise) (eqb (length masks) (n * 32)))) (eq-eqb (length noise) words h)
      ∙ ap (both (all_below q noise)) (eq-eqb (length masks) (n * 32) m) ∙ both-last (all_below q noise))

  pub coins-seeds : (noise masks : List ℕ) → length masks ≡ n * 32 → eqb (length noise) (n * noise_bytes p) ≡ coins_good p n (from_seeds noise masks)
  coins-seeds noise masks m = let a = eqb (length noise) (n * noise_bytes p) in sym (ap (both a) (eq-eqb (length masks) (n * 32) m) ∙ both-last a)

-- ---- what passing gives

-- where no check of signing is a no
pub record AllPassed (p : Params) (key : Key) (n : ℕ) (msg : List ℕ) (T : Coins) (out work : List ℕ) : Type 0 where
  pub sized : key_sized p key ≡ true
  pub good : key_good p key ≡ true
  pub shares : shares_good p key ≡ true
  pub attempts : attempts_allowed n ≡ true
  pub coins : coins_good p n T ≡ true
  pub buffers : sign_buffers_sized p out work ≡ true
  pub message : message_sized msg ≡ true

pub all-passed : (p : Params) (key : Key) (n : ℕ) (msg : List ℕ) (T : Coins) (out work : List ℕ) → sign_no p key n msg T out work ≡ 0
    → AllPassed p key n msg T out work
unfolding sign_no
all-passed p key n msg T out work e =
    let a3 = asked 2 (key_sized p key) _ e in
    let a4 = asked 3 (key_good p key) _ a3.1 in
    let a5 = asked 4 (shares_good p key) _ a4.1 in
    let a6 = asked 5 (attempts_allowed n) _ a5.1 in
    let a7 = asked 6 (coins_good p n T) _ a6.1 in
    let a8 = asked 7 (sign_buffers_sized p out work) _ a7.1 in
    let a9 = asked 8 (message_sized msg) _ a8.1 in
    record { sized = a3.0; good = a4.0; shares = a5.0; attempts = a6.0; coins = a7.0; buffers = a8.0; message = a9.0 }

-- .. and neither is check 10
pub all_yes : (p : Params) (key : Key) (n : ℕ) (msg : List ℕ) (T : Coins) (out work : List ℕ)
    → first_no (sign_checks (Ok p) p key n msg T out work) ≡ 0
    → AllPassed p key n msg T out work × (filled (matrix p (vk_seed p (public_of p key))) ≡ true) × (filled (shares_of p key) ≡ true)
unfolding sign_no
all_yes p key n msg T out work e =
    let m = filled (matrix p (vk_seed p (public_of p key))) in
    let s = filled (shares_of p key) in
    let b = yes_both (key_checks p key ++ call_checks p n msg T out work) ((10, both m s) ∷ []) refl e in
    let c = both_true m s (asked 9 (both m s) 0 b.1).0 in
    (all-passed p key n msg T out work b.0, c.0, c.1)

-- .. in numbers
pub record Signable (p : Params) (key : Key) (n : ℕ) (T : Coins) (out work : List ℕ) : Type 0 where
  pub sized : key_sized p key ≡ true
  pub good : key_good p key ≡ true
  pub low : shares_good p key ≡ true
  pub most : n ≤ 16
  pub coins : coins_good p n T ≡ true
  pub out-long : length out ≡ p.sig_bytes
  pub work-long : length work ≡ work_words p

pub signable : (p : Params) (key : Key) (n : ℕ) (msg : List ℕ) (T : Coins) (out work : List ℕ) → sign_no p key n msg T out work ≡ 0
    → Signable p key n T out work
signable p key n msg T out work e =
    let a = all-passed p key n msg T out work e in
    let b = both_true (leb 1 n) (leb n 16) a.attempts in
    let s = sizes (length out) p.sig_bytes (length work) (work_words p) a.buffers in
    record {
      sized = a.sized;
      good = a.good;
      low = a.shares;
      most = leb-true n 16 b.1;
      coins = a.coins;
      out-long = s.0;
      work-long = s.1;
    }
