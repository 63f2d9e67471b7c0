-- That demand 3 is not about nothing: for any secret and any noise totals, and for each of the six share counts, a unit that has them. It is of the
-- bench form, by which, as 01 says, equal totals can be laid out for two share counts.
use Rattle.std.specs.Prelude.{◌≡◌, Bool, true, List, ℕ, ◌+◌, ◌*◌, ◌%◌, ◌<◌, eqb, Ok}
use Rattle.hash.specs.Lists.{zeros, table, pick}
use Rattle.hash.specs.Params.{lookup_of}
use Rattle.hash.specs.declared.params.Edition.{Edition}
use Rattle.hash.specs.declared.params.Params.{Params}
use Rattle.ring.specs.Words.{q}
use Rattle.sharing.specs.Blocks.{build}
use Rattle.signature.specs.Checks.{work_words}
use Rattle.signature.specs.ExpandedKey.{secret_at}
use Rattle.signature.specs.Outcome.{found_in}
use Rattle.theorems.specs.Unit.{UnitCall, record_of, noise_total_at}

-- what units of all share counts can have alike: what Alike names, the secret and the noise totals
pub record Wanted : Type 0 where
  pub edition : Edition
  pub set : ℕ
  -- of the key: public key and digest
  pub bytes : List ℕ
  pub message : List ℕ
  pub attempts : ℕ
  -- at coefficient x of polynomial i of l; in attempt a + 1 at coefficient x of polynomial i of l + k
  pub secret : ℕ → ℕ → ℕ
  pub totals : ℕ → ℕ → ℕ → ℕ

-- u has it, the numbers modulo q; of an unknown set no sum is asked
pub record Has (w : Wanted) (u : UnitCall) : Type 0 where
  pub edition : u.edition ≡ w.edition
  pub set : u.set ≡ w.set
  pub bytes : u.key.bytes ≡ w.bytes
  pub message : u.message ≡ w.message
  pub attempts : u.attempts ≡ w.attempts
  pub secret : (p : Params) → record_of u ≡ Ok p → (i x : ℕ) → i < p.l → x < 512 → secret_at u.shares u.key i x ≡ w.secret i x % q
  pub totals : (p : Params) → record_of u ≡ Ok p
      → (a i x : ℕ) → a < w.attempts → i < p.l + p.k → x < 512 → noise_total_at p u a i x ≡ w.totals a i x % q

-- a polynomial in d shares: share 0 is all of it, modulo q, and the others are zero
unfoldable pub all_or_zero : Bool → (ℕ → ℕ) → List ℕ
all_or_zero b f = pick b (table (λ (x : ℕ). f x % q) 512) (zeros 512)

unfoldable pub in_first : ℕ → (ℕ → ℕ) → List ℕ
in_first d f = build d (λ (j : ℕ). all_or_zero (eqb j 0) f)

-- a unit of d shares, with explicit noise, that has what is wanted; l, k and the sizes of its buffers are those of the record p
unfoldable pub laid_for : Params → ℕ → Wanted → UnitCall
laid_for p d w =
    record {
      edition = w.edition;
      set = w.set;
      shares = d;
      key = record { bytes = w.bytes; words = build p.l (λ (i : ℕ). in_first d (w.secret i)) };
      message = w.message;
      attempts = w.attempts;
      coins =
          record {
            explicit = true;
            noise = build w.attempts (λ (a : ℕ). build (p.l + p.k) (λ (i : ℕ). in_first d (w.totals a i)));
            masks = zeros (w.attempts * 32);
          };
      result = zeros p.sig_bytes;
      work = zeros (work_words p);
    }

-- the unit of d shares, by the record of the wanted set and d; of an unknown set nothing is asked
unfoldable pub laid : ℕ → Wanted → UnitCall
laid d w = laid_for (found_in (lookup_of w.set d w.edition)) d w

-- what a unit has
unfoldable pub had_by : UnitCall → Wanted
had_by u =
    record {
      edition = u.edition;
      set = u.set;
      bytes = u.key.bytes;
      message = u.message;
      attempts = u.attempts;
      secret = secret_at u.shares u.key;
      totals = noise_total_at (found_in (record_of u)) u;
    }
