-- Lists that may not be there, as the samplers give them (01, check 10): is it there (filled), and what is held then (poly_of, option_of).
use mathlib.Core.Path.{◌≡◌, refl, sym, ap, subst, ◌∙◌}
use mathlib.Core.Bool.{true, false}
use mathlib.Core.List.{List, []}
use mathlib.Core.Option.{Option, some, none}
use Prim.Native.Nat.{ℕ}
use Rattle.std.specs.Prelude.{Some, None}
use Rattle.std.specs.Option.{is_some, unwrap_or, IfSome}
use Rattle.std.specs.Prelude as code
use Rattle.std.specs.Result.{result_ok}
use Rattle.hash.specs.Lists.{zeros}
use Rattle.hash.specs.Refusal.{unless}
use Rattle.hash.specs.declared.refusal.Refusal.{Refusal}
use native.Mathlib.Omega.{arith}
use Rattle.ring.specs.Words.{Words}
use Rattle.ring.specs.Checks.{filled, held_or}
use Rattle.ring.specs.UniformSteps.{option_of, poly_of}
use Rattle.ring.proofs.Checks.{absurd-bool}
use Rattle.ring.proofs.Sums.{words-zeros}

pub some_same : {A : Type 0} (a b : A) → some a ≡ some b → a ≡ b
some_same a b e = cc

pub none-some : (a : List ℕ) → none ≡ some a → ⊥
none-some a e = let x : ◌≡◌ {A = ℕ} 0 1 = cc in omega arith

-- is it there?
module _ {A : Type 0} (o : Option (List A)) where
  pub some-filled : (a : List A) → o ≡ some a → filled o ≡ true
  unfolding filled
  some-filled a e = ap filled e

  pub none_filled : o ≡ none → filled o ≡ false
  unfolding filled
  none_filled e = ap filled e

  pub not_there : {C : Type 0} (a : List A) → o ≡ some a → filled o ≡ false → C
  not_there a e n = absurd-bool (sym (some-filled a e) ∙ n)

pub not-filled : {A : Type 0} (o : Option (List A)) → filled o ≡ false → o ≡ none
unfolding filled
not-filled none e = refl
not-filled (some a) e = absurd-bool e

pub filled-held : {A : Type 0} (o : Option (List A)) → filled o ≡ true → o ≡ some (held_or o [])
unfolding filled
filled-held none e = absurd-bool (sym e)
filled-held (some a) e = refl

-- what is held
pub held-is : (o : Option (List ℕ)) (a : List ℕ) → o ≡ some a → poly_of o ≡ a
unfolding poly_of
held-is o a e = ap poly_of e

pub filled-some : (o : Option (List ℕ)) → filled o ≡ true → o ≡ some (poly_of o)
unfolding filled poly_of
filled-some none e = absurd-bool (sym e)
filled-some (some a) e = refl

-- it is of 512 words below q, where what is there is: zero where nothing is
pub held-words : (o : Option (List ℕ)) → ((f : List ℕ) → o ≡ some f → Words 512 f) → Words 512 (poly_of o)
unfolding poly_of
held-words none h = words-zeros 512
held-words (some f) h = h f refl

-- in the code's words
module _ {A : Type 0} where
  pub held-there : (o : Option A) (a : A) → o ≡ some a → Some a ≡ option_of o
  unfolding option_of
  held-there o a e = sym (ap option_of e)

  pub held-missing : (o : Option A) → o ≡ none → None ≡ option_of o
  unfolding option_of
  held-missing o e = sym (ap option_of e)

  pub held-some : (o : Option A) (a : A) → Some a ≡ option_of o → o ≡ some a
  unfolding option_of
  held-some none a e = cc
  held-some (some b) a e = cc

  pub held-none : (o : Option A) → None ≡ option_of o → o ≡ none
  unfolding option_of
  held-none none e = refl
  held-none (some b) e = cc

pub held-unwrapped : {A : Type 0} (o : Option A) (a d : A) → o ≡ some a → unwrap_or (option_of o) d ≡ a
unfolding option_of
held-unwrapped o a d e = ap (λ x. unwrap_or (option_of x) d) e

pub held-filled : {A : Type 0} (o : Option (List A)) → is_some (option_of o) ≡ filled o
unfolding option_of filled
held-filled none = refl
held-filled (some a) = refl

-- .. and zero where it is not there
pub held-or : (o : Option (List ℕ)) → unwrap_or (option_of o) (zeros 512) ≡ poly_of o
unfolding option_of poly_of
held-or none = refl
held-or (some a) = refl

pub held-or-words : (o : Option (List ℕ)) (r : code.Option (List ℕ)) → r ≡ option_of o → IfSome r (λ f. Words 512 f) → Words 512 (poly_of o)
unfolding option_of poly_of
held-or-words none r e h = words-zeros 512
held-or-words (some f) r e h = subst (λ (x : code.Option (List ℕ)). IfSome x (λ (y : List ℕ). Words 512 y)) e h

-- by the sampler's answer
pub asked-some : (o : Option (List ℕ)) (e : Refusal) → Some tt ≡ result_ok (unless e (filled o)) → Some (poly_of o) ≡ option_of o
unfolding filled poly_of option_of
asked-some none e h = cc
asked-some (some f) e h = refl

pub asked-none : (o : Option (List ℕ)) (e : Refusal) → None ≡ result_ok (unless e (filled o)) → None ≡ option_of o
unfolding filled option_of
asked-none none e h = refl
asked-none (some f) e h = cc
