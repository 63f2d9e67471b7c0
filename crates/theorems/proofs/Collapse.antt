-- Collapse: a sound unit that does not run dry answers as plain signing on the sums of its shares. Its noise is words below q, and the checks that look at its shares,
-- coins and buffers are passed.
use mathlib.Core.Path.{◌≡◌, refl, sym, ap, ◌∙◌, subst}
use mathlib.Core.Bool.{Bool, true, false}
use mathlib.Core.List.{List, []}
use Prim.Native.Nat.{ℕ, ◌+◌, ◌*◌, ◌^◌, ◌≤◌, ◌<◌}
use native.Mathlib.Omega.{arith}
use borrow.Author.Tests.{eqb-true, eq-eqb}
use lib.Dec.{eqb}
use lib.ListN.{length, drop}
use Rattle.hash.specs.Lists.{pick}
use Rattle.hash.specs.Params.{order_index}
use Rattle.hash.specs.declared.params.Params.{Params}
use Rattle.std.specs.Prelude.{Result, Ok, Err}
use Rattle.hash.specs.declared.params.Unknown.{Unknown}
use Rattle.hash.proofs.Rows.{Row, found}
use Rattle.ring.specs.Words.{q, all_below, Words}
use Rattle.ring.proofs.Checks.{both_true, both-last, below-yes}
use Rattle.ring.proofs.Sums.{all-below, residues-drop}
use Rattle.sharing.specs.Blocks.{block, totals}
use Rattle.sharing.proofs.Lists.{block_words}
use Rattle.sharing.proofs.Samples.{seed_noise-words, explicit_noise-words}
use Rattle.signature.specs.Checks.{both, expanded_bytes_sized, sign_seeds_sized, sign_noise_good, sign_buffers_sized}
use Rattle.signature.specs.ExpandedKey.{vk_in}
use Rattle.signature.specs.Keys.{vk_seed}
use Rattle.signature.specs.Masked.{Noise, seeded, explicit}
use Rattle.signature.specs.Matrix.{matrix, filled}
use Rattle.signature.specs.Outcome.{Outcome, answer, refused_or, first_no, found_in}
use Rattle.signature.specs.Sign.{noise_size, noise_from, noise_at}
use Rattle.signature.specs.SignCalls.{Key, coins_good, sign_checks, attempts_of, sign_by, sign_of}
use Rattle.theorems.specs.Plain.{Totals, totals_of, plain_from, plain_checks, plain_public, sign_plain}
use Rattle.theorems.specs.Unit.{UnitCall, sign_unit, record_of, RunsDry, Fits}
use Rattle.theorems.proofs.Dry.{refused_full}
use Rattle.theorems.proofs.Steps.{GoodNoise, collapse}

-- ---- noise that check 7 passed is words below q

module _ (p : Params) where
  seeded-good : p.uw ≤ 49 → (part : List ℕ) → GoodNoise p (seeded p p.uw part)
  unfolding seeded
  seeded-good low part =
      record {
        first = λ (i t : ℕ) h g. seed_noise-words p.shares p.rep p.uw _ _ i t low;
        second = λ (i t : ℕ) h g. seed_noise-words p.shares p.rep p.uw _ _ i t low;
      }

  explicit-good : (part : List ℕ) → Words ((p.l + p.k) * p.shares * 512) part → GoodNoise p (explicit p part)
  unfolding explicit
  explicit-good part w =
      let n : (p.l + p.k) * p.shares * 512 ≡ p.l * (p.shares * 512) + p.k * (p.shares * 512) = omega arith in
      let m : (p.l + p.k) * p.shares * 512 ≡ (p.l + p.k) * (p.shares * 512) = omega arith in
      let w1 : Words ((p.l + p.k) * (p.shares * 512)) part = subst (λ (x : ℕ). Words x part) m w in
      let w2 : Words (p.l * (p.shares * 512) + p.k * (p.shares * 512)) part = subst (λ (x : ℕ). Words x part) n w in
      let w3 : Words (p.k * (p.shares * 512)) (drop (p.l * (p.shares * 512)) part) = residues-drop (p.l * (p.shares * 512)) (p.k * (p.shares * 512)) part w2 in
      record {
        first = λ (i t : ℕ) (h : i < p.l) g. explicit_noise-words p.shares (p.l + p.k) part i t w1 (omega arith);
        second = λ (i t : ℕ) (h : i < p.k) g. explicit_noise-words p.shares p.k (drop (p.l * (p.shares * 512)) part) i t w3 h;
      }

  noise-good : p.uw ≤ 49 → (n : ℕ) (noise masks : List ℕ) (a : ℕ) → a < n → (b : Bool)
      → pick b (sign_noise_good p n noise masks) (sign_seeds_sized p n noise masks) ≡ true
      → GoodNoise p (noise_from p b (block (noise_size p b) a noise))
  noise-good low n noise masks a h true e =
      let s = (p.l + p.k) * p.shares * 512 in
      let t = both_true (eqb (length noise) (n * ((p.l + p.k) * p.shares * 512))) (both (all_below q noise) (eqb (length masks) (n * 32))) e in
      let u = both_true (all_below q noise) (eqb (length masks) (n * 32)) t.1 in
      let w : Words (n * ((p.l + p.k) * p.shares * 512)) noise =
      record { long = eqb-true (length noise) (n * ((p.l + p.k) * p.shares * 512)) t.0; low = all-below q noise u.0 } in
      explicit-good (block s a noise) (block_words n a noise w h)
  noise-good low n noise masks a h false e = seeded-good low (block (noise_size p false) a noise)

-- ---- the answer

-- the unit's secret; its noise in attempt a + 1, and the totals of it
abbrev pub unit_secret : Params → UnitCall → List ℕ
unit_secret p u = totals p.l p.shares u.key.words

abbrev pub noise_of : Params → UnitCall → ℕ → Noise
noise_of p u a = noise_at p u.coins a

abbrev pub noise_totals : Params → UnitCall → ℕ → Totals
noise_totals p u a = totals_of p (noise_of p u a)

module _ (u : UnitCall) (p : Params) (is : record_of u ≡ Ok p) (h : Fits p u) where
  row : Row u.set u.shares u.edition p
  row = found u.set u.shares u.edition p is

  pub shares-are : p.shares ≡ u.shares
  shares-are = row.shares-are

  pub uw-low : p.uw ≤ 49
  uw-low = omega (arith, row.rule.uw-low)

  pub good : (a : ℕ) → a < u.attempts → GoodNoise p (noise_of p u a)
  unfolding noise_at
  good a l =
      noise-good p uw-low u.attempts u.coins.noise u.coins.masks a l u.coins.explicit h.coins

  -- the checks that it passes fall away
  checks-plain : first_no (sign_checks (Ok p) p (Key.expanded u.key) u.attempts u.message u.coins u.result u.work)
      ≡ first_no (plain_checks p u.key.bytes u.attempts u.message)
  unfolding filled
  checks-plain =
      let e3 : eqb (length u.key.words) (p.l * (p.shares * 512)) ≡ true = eq-eqb _ _ h.share-words.long in
      let e5 : all_below q u.key.words ≡ true = below-yes q u.key.words h.share-words.low in
      let e7 : coins_good p u.attempts u.coins ≡ true = h.coins in
      let e8 : sign_buffers_sized p u.result u.work ≡ true = h.buffers in
      rw (e3, e5, e7, e8, both-last (expanded_bytes_sized p u.key.bytes), both-last (filled (matrix p (vk_seed p (vk_in p u.key.bytes))))) refl

  -- COLLAPSE, of a unit that does not run dry
  pub sign-plain : (RunsDry u → ⊥) → sign_unit u ≡ sign_plain p u.key.bytes u.attempts u.message (unit_secret p u) (noise_totals p u)
  unfolding sign_unit sign_of sign_plain
  sign-plain full =
      let A : Outcome = attempts_of p (Key.expanded u.key) u.attempts u.message u.coins in
      let m : ℕ = first_no (plain_checks p u.key.bytes u.attempts u.message) in
      let e : sign_unit u ≡ refused_or m A =
      ap (λ (s : Result Params Unknown). sign_by s (found_in s) (Key.expanded u.key) u.attempts u.message u.coins u.result u.work) is
      ∙ ap (λ (n : ℕ). refused_or n A) checks-plain in
      e ∙ refused_full m A (plain_from p (plain_public p u.key.bytes u.message) (noise_totals p u) u.attempts 0 (unit_secret p u))
      (λ (x : (refused_or m A).status ≡ 20). full (ap (λ (X : Outcome). X.status) e ∙ x))
      (collapse p (subst (λ (x : ℕ). x ≡ 2 ^ order_index x) (sym shares-are) row.power)
      (plain_public p u.key.bytes u.message) u.coins u.attempts 0
      (λ (b : ℕ) (l : b < 0 + u.attempts). good b (omega arith)) u.key.words h.share-words)

-- of an unknown set there is one answer
pub sign-unknown : (u : UnitCall) → record_of u ≡ Err Unknown.Set → sign_unit u ≡ answer 1 0 []
unfolding sign_unit sign_of
sign-unknown u is = ap (λ (s : Result Params Unknown). sign_by s (found_in s) (Key.expanded u.key) u.attempts u.message u.coins u.result u.work) is
