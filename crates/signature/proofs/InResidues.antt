-- Polynomials put into a buffer one behind the other, each left in residues.
use mathlib.Core.Path.{◌≡◌, refl, sym, ap, subst, ◌∙◌}
use mathlib.Core.List.{List, ◌++◌}
use Prim.Native.Nat.{ℕ, ◌+◌, ◌*◌, ◌-◌, ◌^◌, ◌≤◌}
use native.Mathlib.Omega.{arith}
use lib.ListN.{length, take, drop}
use lib.Seq.{take_all}
use Rattle.ring.specs.Words.{Below, Residues}
use Rattle.ring.specs.Rns.{words_of}
use Rattle.ring.proofs.Recombined.{length-words, below-words, words-part, words-put}
use Rattle.ring.proofs.Sums.{below-take, below-drop, below-append}
use Rattle.sharing.specs.Blocks.{build}
use Rattle.sharing.specs.Region.{span, put, Wrote}
use Rattle.sharing.proofs.Regions.{length-span, length-put, put_back, wrote-put, wrote_value, wrote-start, wrote-turn}

-- s is s₀ with m polynomials from `to` on: what they stand for is f 0, f 1, ..
pub record InResidues (to m : ℕ) (f : ℕ → List ℕ) (s₀ s : List ℕ) : Type 0 where
  pub long : length s ≡ length s₀
  pub low : Below (2 ^ 60) s
  pub wrote : Wrote 0 to (m * 512) (build m f) (words_of s₀) (words_of s)

pub residues-start : (to : ℕ) (f : ℕ → List ℕ) (s : List ℕ) → Below (2 ^ 60) s → InResidues to 0 f s s
residues-start to f s b = record { long = refl; low = b; wrote = wrote-start 512 f 0 to (words_of s) (below-words s) }

-- one more, x, lent as `&mut s[b..b + 512]`
pub residues-turn : (to m : ℕ) (f : ℕ → List ℕ) (b : ℕ) (s₀ s x : List ℕ) → b ≡ to + m * 512 → b + 512 ≤ length s → InResidues to m f s₀ s
    → Residues (2 ^ 60) 512 x → words_of x ≡ f m → InResidues to (m + 1) f s₀ (put s b (b + 512 - b) x)
residues-turn to m f b s₀ s x at h v r e =
    let n : b + 512 - b ≡ 512 = omega arith in
    let k : put s b (b + 512 - b) x ≡ put s b 512 x = put_back s b {ys = x} n refl in
    let w : Wrote 0 b 512 (words_of x) (words_of s) (words_of (put s b (b + 512 - b) x)) =
    wrote-put b 512 (words_of x) (words_of s) (words_of (put s b (b + 512 - b) x)) (omega (arith, length-words s, h)) (length-words x ∙ r.long) (below-words s) (below-words x)
    (ap words_of k ∙ words-put s x b 512) in
    record {
      long = ap length k ∙ length-put s b 512 x h r.long ∙ v.long;
      low =
          below-append (2 ^ 60) (take b s) (x ++ drop (b + 512 - b) (drop b s)) (below-take (2 ^ 60) b s v.low)
          (below-append (2 ^ 60) x (drop (b + 512 - b) (drop b s)) r.low (below-drop (2 ^ 60) (b + 512 - b) (drop b s) (below-drop (2 ^ 60) b s v.low)));
      wrote = wrote-turn 512 m f (omega arith) v.wrote (wrote_value e (subst (λ (n : ℕ). Wrote 0 n 512 (words_of x) (words_of s) (words_of (put s b (b + 512 - b) x))) at w));
    }

pub residues-end : {to m n : ℕ} (f : ℕ → List ℕ) {s₀ s : List ℕ} → m ≡ n → InResidues to m f s₀ s → InResidues to n f s₀ s
residues-end f e v = rw e at v

-- where that is the whole buffer
pub residues-all : (n : ℕ) (f : ℕ → List ℕ) (s₀ s : List ℕ) → length s₀ ≡ n * 512 → InResidues 0 n f s₀ s → words_of s ≡ build n f
residues-all n f s₀ s e v = sym (take_all (n * 512) (words_of s) (omega (arith, length-words s, v.long, e))) ∙ v.wrote.new

-- ---- a part lent as `&s[b..b + 512]`

module _ (s : List ℕ) (b : ℕ) (h : b + 512 ≤ length s) where
  part-size : b + 512 - b ≡ 512
  part-size = omega arith

  pub part-residues : Below (2 ^ 60) s → Residues (2 ^ 60) 512 (take (b + 512 - b) (drop b s))
  part-residues l =
      rw part-size (record { long = length-span s b 512 h; low = below-take (2 ^ 60) 512 (drop b s) (below-drop (2 ^ 60) b s l) })

  pub part-words : words_of (take (b + 512 - b) (drop b s)) ≡ span (words_of s) b 512
  part-words = ap (λ (n : ℕ). words_of (take n (drop b s))) part-size ∙ words-part s b 512
