-- An Option as a Result that is asked with `?`: where it is there, and where it is not.
use mathlib.Core.Path.{◌≡◌, refl, sym, subst}
use Prim.Native.Nat.{ℕ}
use native.Mathlib.Omega.{arith}
use Rattle.std.specs.Prelude.{IfSome, Option, Some, None, Result, Ok, Err}
use Rattle.std.specs.Option.{ok_or}

module _ {T E : Type 0} where
  pub ok-some : (o : Option T) (err : E) (r : Result T E) (x : T) → r ≡ ok_or o err → r ≡ Ok x → Some x ≡ o
  ok-some None err r x v w = let z : ◌≡◌ {A = ℕ} 0 1 = cc in absurd (omega arith)
  ok-some (Some y) err r x v w = cc

  pub err-none : (o : Option T) (err : E) (r : Result T E) (e : E) → r ≡ ok_or o err → r ≡ Err e → (None ≡ o) × (e ≡ err)
  err-none None err r e v w = (refl, cc)
  err-none (Some y) err r e v w = let z : ◌≡◌ {A = ℕ} 0 1 = cc in absurd (omega arith)

pub held-if : {T : Type 0} (P : T → Type 0) (o : Option T) (x : T) → Some x ≡ o → IfSome o P → P x
held-if P o x e h = subst (λ (r : Option _). IfSome r P) (sym e) h
