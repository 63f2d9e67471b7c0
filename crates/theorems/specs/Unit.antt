-- A unit (01): one signing call with an expanded key, from seeds or with explicit noise. Its secret, its noise totals, and what demand 3 supposes.
use Rattle.std.specs.Prelude.{◌≡◌, Bool, true, List, ℕ, ◌+◌, ◌-◌, ◌*◌, ◌/◌, ◌%◌, ◌<◌, ltb, get_or, Result, Ok}
use Rattle.hash.specs.Lists.{pick}
use Rattle.hash.specs.Params.{ShareCount, lookup_of}
use Rattle.hash.specs.declared.params.Edition.{Edition}
use Rattle.hash.specs.declared.params.Params.{Params}
use Rattle.hash.specs.declared.params.Unknown.{Unknown}
use Rattle.ring.specs.Words.{q, Words}
use Rattle.sharing.specs.Blocks.{block, sum_n}
use Rattle.sharing.specs.Encoding.{skip}
use Rattle.sharing.specs.Masks.{masks}
use Rattle.sharing.specs.Noise.{sample_u, noise_header}
use Rattle.signature.specs.Checks.{sign_buffers_sized}
use Rattle.signature.specs.ExpandedKey.{ExpandedKey, vk_in, secret_at}
use Rattle.signature.specs.Keys.{DigestTrue}
use Rattle.signature.specs.Masked.{Noise}
use Rattle.signature.specs.Outcome.{Outcome, found_in}
use Rattle.signature.specs.Sign.{Coins, noise_at, mask_at}
use Rattle.signature.specs.SignCalls.{Key, coins_good, sign_of, sign_call}

pub record UnitCall : Type 0 where
  pub edition : Edition
  pub set : ℕ
  pub shares : ℕ
  pub key : ExpandedKey
  pub message : List ℕ
  -- the allowed attempts (01: tries)
  pub attempts : ℕ
  -- is the noise explicit (01: bench form), or from seeds; the noise and the mask seeds of all attempts (01: tapes)
  pub coins : Coins
  -- what the lent buffers held before
  pub result : List ℕ
  pub work : List ℕ

-- what the call answers; and with it what it leaves in its buffers
unfoldable pub sign_unit : UnitCall → Outcome
sign_unit u = sign_of u.edition u.set u.shares (Key.expanded u.key) u.attempts u.message u.coins u.result u.work

unfoldable pub call_unit : UnitCall → Outcome
call_unit u = sign_call u.edition u.set u.shares (Key.expanded u.key) u.attempts u.message u.coins u.result u.work

-- the record of the unit's set and share count, if the set is one of the three
abbrev pub record_of : UnitCall → Result Params Unknown
record_of u = lookup_of u.set u.shares u.edition

-- its public key; is the digest behind it the hash of it (02, #102)? Of an unknown set nothing is asked
abbrev pub vk_of : UnitCall → List ℕ
vk_of u = vk_in (found_in (record_of u)) u.key.bytes

abbrev pub TrueDigest : UnitCall → Type 0
TrueDigest u = (p : Params) → record_of u ≡ Ok p → DigestTrue p (Key.expanded u.key)

-- ---- masks that do not fill (02, #105)

-- a unit runs dry where an attempt that it makes meets a mask polynomial that does not fill: the call ends with 20
abbrev pub RunsDry : UnitCall → Type 0
RunsDry u = (sign_unit u).status ≡ 20

-- how many zero encodings an attempt with noise N draws: before the challenge l (line 4) and one behind each repetition of the noise of l + k
-- polynomials (lines 5 and 7); behind it three times l (lines 12, 13 and 15)
abbrev pub encodings_before : Params → Noise → ℕ
encodings_before p N = p.l + (p.l + p.k) * N.reps

abbrev pub encodings_in : Params → Noise → ℕ
encodings_in p N = encodings_before p N + 3 * p.l

-- did every mask polynomial of attempt a + 1 fill? It draws them from its mask seed alone
unfoldable pub masks_fill_at : Params → UnitCall → ℕ → Bool
masks_fill_at p u a = (skip masks p.shares (encodings_in p (noise_at p u.coins a)) (mask_at u.coins a)).ok

-- ---- the noise's sums, as 01 says them; the key's are `secret_at` (signature)

-- the noise at coefficient x of share j, repetition t, polynomial i of l + k, in attempt a + 1: a lent word, or a sample of u_w bits from a seed
-- of kappa bits. Words and seeds stand by attempt, polynomial, repetition, share; the index in a header begins anew behind the first l.
unfoldable pub lent_at : Params → UnitCall → ℕ → ℕ → ℕ → ℕ → ℕ
lent_at p u a i j x = get_or u.coins.noise (((a * (p.l + p.k) + i) * u.shares + j) * 512 + x) 0

unfoldable pub sampled_at : Params → UnitCall → ℕ → ℕ → ℕ → ℕ → ℕ → ℕ
sampled_at p u a i t j x =
    get_or
    (sample_u (noise_header t (pick (ltb i p.l) i (i - p.l)) j)
    (block (p.kappa / 8) (((a * (p.l + p.k) + i) * p.rep + t) * u.shares + j) u.coins.noise)
    p.uw)
    x
    0

-- the noise total there: the sum of the samples over repetitions and shares, or of the lent words over the shares, modulo q
unfoldable pub noise_total_at : Params → UnitCall → ℕ → ℕ → ℕ → ℕ
noise_total_at p u a i x =
    pick u.coins.explicit
    (sum_n u.shares (λ (j : ℕ). lent_at p u a i j x) % q)
    (sum_n p.rep (λ (t : ℕ). sum_n u.shares (λ (j : ℕ). sampled_at p u a i t j x)) % q)

-- ---- what demand 3 supposes

-- an expanded key of the call's own set and share count, every share word below q; noise, mask seeds and buffers that checks 7 and 8 pass
pub record Fits (p : Params) (u : UnitCall) : Type 0 where
  pub share-words : Words (p.l * (p.shares * 512)) u.key.words
  pub coins : coins_good p u.attempts u.coins ≡ true
  pub buffers : sign_buffers_sized p u.result u.work ≡ true

-- the share count is 1, 2, 4, 8, 16 or 32; of an unknown set nothing more is asked
pub record Sound (u : UnitCall) : Type 0 where
  pub count : ShareCount u.shares
  pub fits : (p : Params) → record_of u ≡ Ok p → Fits p u

-- alike in set, public key and digest (the bytes of the key), message and allowed attempts, and in the edition
pub record Alike (u v : UnitCall) : Type 0 where
  pub editions : u.edition ≡ v.edition
  pub sets : u.set ≡ v.set
  pub keys : u.key.bytes ≡ v.key.bytes
  pub messages : u.message ≡ v.message
  pub attempts : u.attempts ≡ v.attempts

-- alike in the words of paper 01, by the public key alone, where both digests are true
pub record AlikeTrue (u v : UnitCall) : Type 0 where
  pub editions : u.edition ≡ v.edition
  pub sets : u.set ≡ v.set
  pub keys : vk_of u ≡ vk_of v
  pub digests : TrueDigest u × TrueDigest v
  pub messages : u.message ≡ v.message
  pub attempts : u.attempts ≡ v.attempts

-- the shares add to the same secret: at all 512 coefficients of the l polynomials
pub record SameSecret (u v : UnitCall) : Type 0 where
  pub equal : (p : Params) → record_of u ≡ Ok p → (i x : ℕ) → i < p.l → x < 512 → secret_at u.shares u.key i x ≡ secret_at v.shares v.key i x

-- the noise adds to equal totals: in every allowed attempt, at all 512 coefficients of each of the l + k polynomials
pub record EqualTotals (u v : UnitCall) : Type 0 where
  pub equal : (p r : Params) → record_of u ≡ Ok p → record_of v ≡ Ok r
      → (a i x : ℕ) → a < u.attempts → i < p.l + p.k → x < 512 → noise_total_at p u a i x ≡ noise_total_at r v a i x
