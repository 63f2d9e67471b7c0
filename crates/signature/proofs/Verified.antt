-- The checks of verifying in their order, and what the table gives.
use mathlib.Core.Path.{◌≡◌, refl, sym, ◌∙◌}
use mathlib.Core.Bool.{Bool, true, false}
use mathlib.Core.List.{List}
use Prim.Native.Nat.{ℕ, ◌+◌, ◌*◌, ◌<◌}
use native.Mathlib.Omega.{arith}
use borrow.Author.Tests.{lt-leb}
use lib.Dec.{eqb}
use lib.ListN.{length}
use Rattle.hash.specs.Lists.{pick}
use Rattle.hash.specs.Params.{set_index, order_index, row_at, params_of, lookup_of, refusal_of}
use Rattle.hash.specs.Refusal.{number_of}
use Rattle.hash.specs.declared.params.Edition.{Edition}
use Rattle.hash.specs.declared.params.Params.{Params}
use Rattle.std.specs.Prelude.{Result, Ok, Err}
use Rattle.hash.specs.declared.params.Unknown.{Unknown}
use Rattle.hash.proofs.Rows.{order-count}
use Rattle.hash.proofs.Sets.{look_up}
use Rattle.signature.specs.Outcome.{first_no, found_in}
use Rattle.signature.specs.Verify.{verify_checks, verify_call}

-- the look_up of the set, check 1: with one share there is a record or no set
pub never-shares : (e : Edition) (set : ℕ) → lookup_of set 1 e ≡ Err Unknown.Shares → ⊥
never-shares e set h =
    go (eqb (set_index set) 3) (sym (look_up set 1 e (order-count 1 (omega arith))) ∙ h)
  where
    go : (b : Bool) → pick b (Err Unknown.Set) (Ok (params_of (row_at (6 * set_index set + order_index 1)) e)) ≡ Err Unknown.Shares → ⊥
    go true i = let z : ◌≡◌ {A = ℕ} 0 1 = cc in omega arith
    go false i = let z : ◌≡◌ {A = ℕ} 0 1 = cc in omega arith

module _ (e : Edition) (set : ℕ) (vk msg sig : List ℕ) where
  pub verify-unknown : (u : Unknown) → lookup_of set 1 e ≡ Err u → number_of (refusal_of u) ≡ verify_call e set vk msg sig
  unfolding verify_call
  verify-unknown Unknown.Set h = rw h refl
  verify-unknown Unknown.Shares h = absurd (never-shares e set h)

  pub verify-found : (p : Params) → lookup_of set 1 e ≡ Ok p → first_no (verify_checks (Ok p) p vk msg sig) ≡ verify_call e set vk msg sig
  unfolding verify_call
  verify-found p h = rw h refl

-- of a message that is too long (check 9) only that is known, and nothing of the signature
module _ (e : Edition) (set : ℕ) (vk m n s t : List ℕ) (a : 4096 < length m) (b : 4096 < length n) where
  pub long-message : verify_call e set vk m s ≡ verify_call e set vk n t
  unfolding verify_call
  long-message = go (lookup_of set 1 e)
    where
      go : (x : Result Params Unknown) → first_no (verify_checks x (found_in x) vk m s) ≡ first_no (verify_checks x (found_in x) vk n t)
      go x = rw (lt-leb _ _ a, lt-leb _ _ b) refl
