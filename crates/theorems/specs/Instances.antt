-- The worked instances of paper 01 (its "Table of marked instances") and its limits, as rows about the definitions.
use Rattle.std.specs.Prelude.{◌≡◌, Bool, List, [], ◌∷◌, ◌++◌, ℕ, ◌-◌, ◌*◌, ◌≤◌, ◌<◌, pos, neg_ℤ, length, get_or, drop, replicate, Ok}
use Rattle.hash.specs.Params.{lookup_of}
use Rattle.hash.specs.declared.params.Edition.{Edition}
use Rattle.hash.specs.declared.params.Params.{Params}
use Rattle.ring.specs.Words.{q, Words}
use Rattle.ring.specs.Round.{rounded, centred}
use Rattle.ring.specs.Transform.{mul}
use Rattle.sharing.specs.Blocks.{block, total}
use Rattle.sharing.specs.Noise.{noise_bytes}
use Rattle.signature.specs.Checks.{first_no, public_key_good, full_share_good, share_words_good, attempts_allowed, message_sized}
use Rattle.signature.specs.Keys.{vk_vector, full_share}

-- P1 to P12
pub record Instances : Type 0 where
  -- rounding by 42 bits, of t
  pub p1 : rounded 42 125 2199023255551 ≡ 0
  pub p2 : rounded 42 125 2199023255552 ≡ 1
  pub p3 : rounded 42 125 547556790632447 ≡ 124
  pub p4 : rounded 42 125 547556790632448 ≡ 0
  -- rounding by 44 bits, of w
  pub p5 : (rounded 44 31 8796093022207 ≡ 0) × (rounded 44 31 8796093022208 ≡ 1)
  pub p6 : (rounded 44 31 536561674354687 ≡ 30) × (rounded 44 31 536561674354688 ≡ 0)
  -- centred values modulo q and modulo 31
  pub p7 : (centred q 274912291586048 ≡ pos 274912291586048) × (centred q 274912291586049 ≡ neg_ℤ (pos 274912291586048))
  pub p8 : (centred 31 15 ≡ pos 15) × (centred 31 16 ≡ neg_ℤ (pos 15))
  -- x^511 times x
  pub p9 : mul (replicate 511 0 ++ (1 ∷ [])) (0 ∷ 1 ∷ replicate 510 0) ≡ (q - 1) ∷ replicate 511 0
  -- the shares 5 and q - 2, at any place
  pub p10 : (xs : List ℕ) → Words (2 * 512) xs → (x : ℕ) → x < 512 → get_or (block 512 0 xs) x 0 ≡ 5 → get_or (block 512 1 xs) x 0 ≡ q - 2
      → get_or (total 2 xs) x 0 ≡ 3
  -- bytes of a signing key of 128-4 and of 256-32
  pub p11-128 : (e : Edition) → (p : Params) × ((lookup_of 128 4 e ≡ Ok p) × (p.sk_bytes ≡ 14848))
  pub p11-256 : (e : Edition) → (p : Params) × ((lookup_of 256 32 e ≡ Ok p) × (p.sk_bytes ≡ 27008))
  -- bytes of one attempt's noise seeds (01: noise tape) of 128-1, 128-2 and 128-32
  pub p12-1 : (e : Edition) → (p : Params) × ((lookup_of 128 1 e ≡ Ok p) × (noise_bytes p ≡ 1152))
  pub p12-2 : (e : Edition) → (p : Params) × ((lookup_of 128 2 e ≡ Ok p) × (noise_bytes p ≡ 1152))
  pub p12-32 : (e : Edition) → (p : Params) × ((lookup_of 128 32 e ≡ Ok p) × (noise_bytes p ≡ 18432))

-- the limits; `rest` are the checks that follow
pub record Limits : Type 0 where
  pub message-4096 : (m : List ℕ) (rest : List (ℕ × Bool)) → length m ≡ 4096 → first_no ((9, message_sized m) ∷ rest) ≡ first_no rest
  pub message-4097 : (m : List ℕ) (rest : List (ℕ × Bool)) → length m ≡ 4097 → first_no ((9, message_sized m) ∷ rest) ≡ 9
  pub attempts-0 : (rest : List (ℕ × Bool)) → first_no ((6, attempts_allowed 0) ∷ rest) ≡ 6
  pub attempts-17 : (rest : List (ℕ × Bool)) → first_no ((6, attempts_allowed 17) ∷ rest) ≡ 6
  -- coefficients up to 124; a coefficient 125 at any place
  pub coefficient-124 : (p : Params) (key : List ℕ) (rest : List (ℕ × Bool)) → ((i : ℕ) → get_or (vk_vector p key) i 0 ≤ 124)
      → first_no ((4, public_key_good p key) ∷ rest) ≡ first_no rest
  pub coefficient-125 : (p : Params) (key : List ℕ) (i : ℕ) (rest : List (ℕ × Bool)) → get_or (vk_vector p key) i 0 ≡ 125
      → first_no ((4, public_key_good p key) ∷ rest) ≡ 4
  -- words up to q - 1; a word q at any place; of an expanded key, and of a signing key's full share
  pub word_below : (words : List ℕ) (rest : List (ℕ × Bool)) → ((i : ℕ) → get_or words i 0 ≤ q - 1) → first_no ((5, share_words_good words) ∷ rest) ≡ first_no rest
  pub word-q : (words : List ℕ) (i : ℕ) (rest : List (ℕ × Bool)) → get_or words i 0 ≡ q → first_no ((5, share_words_good words) ∷ rest) ≡ 5
  pub full-below : (p : Params) (key : List ℕ) (rest : List (ℕ × Bool)) → ((i : ℕ) → get_or (full_share p (drop p.vk_bytes key)) i 0 ≤ q - 1)
      → first_no ((5, full_share_good p key) ∷ rest) ≡ first_no rest
  pub full-q : (p : Params) (key : List ℕ) (i : ℕ) (rest : List (ℕ × Bool)) → get_or (full_share p (drop p.vk_bytes key)) i 0 ≡ q
      → first_no ((5, full_share_good p key) ∷ rest) ≡ 5
