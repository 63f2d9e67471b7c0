-- No refusal has the number 0, which is that of a yes.
use Rattle.std.proofs.Common.{◌≡◌, refl, sym, ap, arith}
use Rattle.std.specs.Result.{is_ok}
use Rattle.std.specs.Prelude.{Bool, true, false, ℕ, Result, Ok, Err}
use Rattle.hash.specs.Refusal.{number_of, status_of, unless}
use Rattle.hash.specs.declared.refusal.Refusal.{Refusal}

pub refused : (e : Refusal) → number_of e ≡ 0 → ⊥
refused Refusal.BadSet h = omega arith
refused Refusal.BadShareCount h = omega arith
refused Refusal.BadKeyLength h = omega arith
refused Refusal.BadPublicKey h = omega arith
refused Refusal.BadShareWords h = omega arith
refused Refusal.BadAttempts h = omega arith
refused Refusal.BadSeeds h = omega arith
refused Refusal.BadBuffer h = omega arith
refused Refusal.BadMessageLength h = omega arith
refused Refusal.UniformNotFilled h = omega arith
refused Refusal.ChallengeNotFilled h = omega arith
refused Refusal.NoAttemptPassed h = omega arith
refused Refusal.BadSignatureLength h = omega arith
refused Refusal.BadSignatureForm h = omega arith
refused Refusal.BadSignatureBounds h = omega arith
refused Refusal.BadSignatureHash h = omega arith
refused Refusal.BadSlipMark h = omega arith
refused Refusal.BadSlipVersion h = omega arith
refused Refusal.BadSlipLength h = omega arith
refused Refusal.MasksNotFilled h = omega arith

-- a status of 0 is a yes
pub ok-told : (r : Result Unit Refusal) → is_ok r ≡ true → status_of r ≡ 0
ok-told (Ok x) h = refl
ok-told (Err e) h = search h

pub not-ok : (r : Result Unit Refusal) → is_ok r ≡ false → status_of r ≡ 0 → ⊥
not-ok (Ok x) h e = let z : ◌≡◌ {A = ℕ} 0 1 = cc in omega arith
not-ok (Err e) h z = refused e z

-- what `unless` tells
pub unless-yes : (e : Refusal) (b : Bool) {x : Unit} → Ok x ≡ unless e b → b ≡ true
unless-yes e true h = refl
unless-yes e false h = let z : ◌≡◌ {A = ℕ} 0 1 = cc in absurd (omega arith)

pub unless-no : (e : Refusal) (b : Bool) {r : Refusal} → Err r ≡ unless e b → (b ≡ false) × (r ≡ e)
unless-no e true h = let z : ◌≡◌ {A = ℕ} 0 1 = cc in absurd (omega arith)
unless-no e false h = (refl, cc)

pub unless-is : (e : Refusal) {b : Bool} → b ≡ true → Ok tt ≡ unless e b
unless-is e h = ap (unless e) (sym h)
