-- Steps (what the code leaves on its way; no call's contract reaches these): what the modules `code`, `form` and `fields` answer, in
-- terms of the definitions of Code, Form and Sign.
use Rattle.std.specs.Prelude.{◌≡◌, Bool, true, false, Option as Answer, Some, None, List, [], ◌∷◌, ℕ, zero, suc, ◌+◌, ℤ, drop}
use Rattle.std.proofs.Math.Option.{Option, some, none}
use Rattle.signature.specs.Form.{Fields}
use Rattle.signature.specs.Sign.{Attempted, made, over, stuck, dry}

-- one number, and the place behind it, which counts from the string's start
abbrev pub got_of : ℕ → Option (ℤ × ℕ) → Answer (ℤ × ℕ)
got_of at none = None
got_of at (some r) = Some (r.0, at + r.1)

-- several numbers, left in zs, and the place behind them
abbrev pub NextOf : ℕ → Option (List ℤ × ℕ) → Answer ℕ → List ℤ → Type 0
NextOf at none r zs = r ≡ None
NextOf at (some s) r zs = (r ≡ Some (at + s.1)) × (zs ≡ s.0)

-- ---- the whole signature

abbrev pub fields_of : List ℕ → List ℤ → List ℤ → Fields
fields_of c h z = record { hash = c; hint = h; response = z }

unfoldable pub all_zero : List ℕ → Bool
all_zero [] = true
all_zero (zero ∷ l) = all_zero l
all_zero (suc b ∷ l) = false

-- the reader's answer, whether both lists could be read from the bits t and every bit behind them is 0 (check 14), and the numbers that it
-- leaves in h and z
abbrev pub ReadOf : Option (List ℤ × List ℤ × ℕ) → List ℕ → Bool → List ℤ → List ℤ → Type 0
ReadOf none t r h z = r ≡ false
ReadOf (some x) t r h z = (r ≡ all_zero (drop x.2 t)) × (h ≡ x.0) × (z ≡ x.1)

-- ---- the end of an attempt

-- whether it was made, and the signature's buffer before and after
abbrev pub FinishedAs : Attempted → Bool → List ℕ → List ℕ → Type 0
FinishedAs (made b) r xs ys = (r ≡ true) × (ys ≡ b)
FinishedAs over r xs ys = (r ≡ false) × (ys ≡ xs)
FinishedAs stuck r xs ys = ⊥
FinishedAs dry r xs ys = ⊥
