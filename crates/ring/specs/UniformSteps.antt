-- Steps (what the code leaves on its way; no call's contract reaches these): the answer of SampleQ as the code gives it, and the draws that it gathers.
use Rattle.std.specs.Prelude.{ℕ, ◌≡◌, List, ◌++◌, length, take, Some, None}
use Rattle.std.specs.Prelude as code
use Rattle.std.proofs.Math.Option.{Option, some, none}
use Rattle.hash.specs.Lists.{zeros}
use Rattle.ring.specs.Checks.{held_or}
use Rattle.ring.specs.Uniform.{kept}

-- what may not be there, as the code's Option
unfoldable pub option_of : {A : Type 0} → Option A → code.Option A
option_of none = None
option_of (some a) = Some a

-- a polynomial, or zero where there is none
unfoldable pub poly_of : Option (List ℕ) → List ℕ
poly_of o = held_or o (zeros 512)

-- those kept of the first n draws of s, behind the first k words of a, and no more than 512 in all: they are the first r words of a'
pub record Gathered (s : List ℕ) (n : ℕ) (a : List ℕ) (k : ℕ) (a' : List ℕ) (r : ℕ) : Type 0 where
  pub long : length a' ≡ 512
  pub count : r ≡ length (take 512 (take k a ++ kept s n))
  pub front : take r a' ≡ take 512 (take k a ++ kept s n)
