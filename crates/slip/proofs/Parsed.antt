-- Reading a slip, step by step: which bytes stand where, what the checks say, and what is read then.
use mathlib.Core.Path.{◌≡◌, refl, sym, ap, ◌∙◌}
use mathlib.Core.Bool.{true, false}
use mathlib.Core.List.{List, [], ◌∷◌}
use Prim.Native.Nat.{ℕ, zero, suc, ◌+◌, ◌-◌, ◌≤◌, ◌<◌}
use native.Mathlib.Omega.{arith}
use borrow.Author.Tests.{lt-leb, le-leb}
use lib.Dec.{leb, eqb}
use lib.Pointwise.{pointwise}
use Rattle.std.proofs.lemmas.Bool.Decides.{nat_tests}
use lib.Seq.{take-length}
use lib.ListN.{length, get_or, take, drop, length-append, length-drop, take-append-drop}
use Rattle.hash.specs.Endian.{le}
use Rattle.hash.specs.declared.params.Edition.{Edition}
use Rattle.ring.proofs.Checks.{left-no, right-no, both_yes}
use Rattle.signature.specs.Checks.{first_no, same_bytes}
use Rattle.signature.specs.Verify.{verify_call}
use Rattle.signature.proofs.SameBytes.{same-not-long, same-pointwise}
use Rattle.slip.specs.Calls.{slip_fits, slip_checks, verdict_on, no_fields, read_by, read_slip_call}
use Rattle.slip.specs.Format.{number_at, text_length, signature_at, signature_in, set_by_size, set_in}
use Rattle.slip.specs.Split.{split_by, split_of}
use Rattle.std.specs.Prelude.{Option, None, Some, Result, Ok, Err, ok_or}
use Rattle.hash.specs.declared.refusal.Refusal.{Refusal}
use Rattle.slip.proofs.SetSizes.{none-by-size}
use Rattle.slip.proofs.SlipTrip.{slip-passed}

-- ---- bytes at a place

pub too_short : (s x : List ℕ) (at : ℕ) → 1 ≤ length x → length s < at + length x → false ≡ same_bytes (take (length x) (drop at s)) x
too_short s x at h l =
    let r = drop at s in
    let n = length x in
    let w : length (take n r) + length (drop n r) ≡ length r = sym (length-append (take n r) (drop n r)) ∙ ap length (take-append-drop n r) in
    sym (same-not-long (take n r) x (λ e. omega (arith, w, e, length-drop at s)))

same_sym : (a b : List ℕ) → same_bytes a b ≡ same_bytes b a
unfolding same_bytes
same_sym [] [] = refl
same_sym [] (y ∷ b) = refl
same_sym (x ∷ a) [] = refl
same_sym (x ∷ a) (y ∷ b) = let e : eqb x y ≡ eqb y x = grind (arith, nat_tests) in rw (e, same_sym a b) refl

-- the needle stands first
pub stands-as : (a x : List ℕ) → pointwise eqb x a ≡ same_bytes a x
stands-as a x = same-pointwise x a ∙ same_sym x a

pub byte-number : (b : List ℕ) (i : ℕ) → get_or b i 0 ≡ number_at b i 1
unfolding le
byte-number b i = let e : i + 0 ≡ i = omega arith in ap (λ (k : ℕ). get_or b k 0) (sym e) ∙ omega arith

-- ---- check 19

pub lacks-leading : (b : List ℕ) → length b < 10 → slip_fits b ≡ false
lacks-leading b h = left-no _ (lt-leb 10 (length b) h)

pub long-text : (b : List ℕ) → 512 < text_length b → slip_fits b ≡ false
long-text b h = right-no (leb 10 (length b)) (left-no _ (lt-leb (text_length b) 512 h))

pub no-set-fits : (b : List ℕ) → set_in b ≡ 0 → slip_fits b ≡ false
no-set-fits b h = right-no (leb 10 (length b)) (right-no (leb (text_length b) 512) (lt-leb 1 (set_in b) (omega (arith, h))))

-- a text that reaches past the end
pub text-past-end : (b : List ℕ) → length b < signature_at b → slip_fits b ≡ false
text-past-end b h =
    let e : length (signature_in b) ≡ 0 = omega (arith, length-drop (signature_at b) b) in
    no-set-fits b (ap set_by_size e ∙ none-by-size)

pub all-fits : (b : List ℕ) → 10 ≤ length b → text_length b ≤ 512 → (set_in b ≡ 0 → ⊥) → slip_fits b ≡ true
all-fits b h k s =
    both_yes (le-leb 10 (length b) h) (both_yes (le-leb (text_length b) 512 k) (le-leb 1 (set_in b) (omega (arith, s))))

-- ---- the split by the checks

-- a refusal where none was found
pub missing : (o : Option ℕ) {e f : Refusal} → Err e ≡ ok_or o f → e ≡ f
missing None h = cc
missing (Some x) h = cc

pub split-no : (b : List ℕ) (n : ℕ) → suc n ≡ first_no (slip_checks b) → Err (suc n) ≡ split_of b
unfolding split_of
split-no b n e = ap (λ (k : ℕ). split_by k b) e

pub split-yes : (b : List ℕ) (at set : ℕ) → 0 ≡ first_no (slip_checks b) → at ≡ signature_at b → set ≡ set_in b → Ok (at, set) ≡ split_of b
unfolding split_of
split-yes b at set e a s = ap (λ (k : ℕ). Ok (k, set)) a ∙ ap (λ (k : ℕ). Ok (signature_at b, k)) s ∙ ap (λ (k : ℕ). split_by k b) e

pub record SplitAt (b : List ℕ) (at set : ℕ) : Type 0 where
  pub all_pass : first_no (slip_checks b) ≡ 0
  pub place : signature_at b ≡ at
  pub set_is : set_in b ≡ set

abbrev place_of : Result (ℕ × ℕ) ℕ → ℕ
place_of (Ok s) = s.0
place_of (Err n) = 0

abbrev set_of_split : Result (ℕ × ℕ) ℕ → ℕ
set_of_split (Ok s) = s.1
set_of_split (Err n) = 0

abbrev refusal_of : Result (ℕ × ℕ) ℕ → ℕ
refusal_of (Ok s) = 0
refusal_of (Err n) = n

abbrev is_at : Result (ℕ × ℕ) ℕ → ℕ
is_at (Ok s) = 1
is_at (Err n) = 0

pub split-found : (b : List ℕ) (at set : ℕ) → split_of b ≡ Ok (at, set) → SplitAt b at set
unfolding split_of
split-found b at set = go (first_no (slip_checks b)) refl
  where
    go : (n : ℕ) → first_no (slip_checks b) ≡ n → split_by n b ≡ Ok (at, set) → SplitAt b at set
    go zero i e = record { all_pass = i; place = ap place_of e; set_is = ap set_of_split e }
    go (suc n) i e = let z : ◌≡◌ {A = ℕ} 0 1 = ap is_at e in absurd (omega (arith, z))

pub split-refused : (b : List ℕ) (n : ℕ) → split_of b ≡ Err n → (vk : List ℕ) → no_fields n ≡ read_slip_call vk b
unfolding split_of read_slip_call
split-refused b n = go (first_no (slip_checks b))
  where
    go : (k : ℕ) → split_by k b ≡ Err n → (vk : List ℕ) → no_fields n ≡ read_by k vk b
    go zero e vk = let z : ◌≡◌ {A = ℕ} 1 0 = ap is_at e in absurd (omega (arith, z))
    go (suc k) e vk = ap no_fields (sym (ap refusal_of e))

-- ---- what is read of a slip that is split

module _ (vk b : List ℕ) (at set : ℕ) (i : SplitAt b at set) where
  -- the verdict is on the parts before the place and behind it
  pub verdict-parts : verify_call Edition.Printed set vk (take (at - 0) (drop 0 b)) (take (length b - at) (drop at b)) ≡ verdict_on vk b
  verdict-parts =
      let behind : take (length b - at) (drop at b) ≡ drop at b = ap (λ (n : ℕ). take n (drop at b)) (sym (length-drop at b)) ∙ take-length (drop at b) in
      let front : at - 0 ≡ at = omega arith in
      ap (λ (n : ℕ). verify_call Edition.Printed set vk (take n b) (take (length b - at) (drop at b))) front
      ∙ ap (λ (x : List ℕ). verify_call Edition.Printed set vk (take at b) x) behind
      ∙ ap (λ (n : ℕ). verify_call Edition.Printed set vk (take n b) (drop n b)) (sym i.place)
      ∙ ap (λ (n : ℕ). verify_call Edition.Printed n vk (take (signature_at b) b) (signature_in b)) (sym i.set_is)

  pub place_inside : (10 ≤ at) × (at ≤ length b)
  place_inside = (omega (arith, i.place), omega (arith, i.place, (slip-passed b i.all_pass).inside))

  pub told_at : (v m t : ℕ) → v ≡ verdict_on vk b → m ≡ number_at b 5 2 → t ≡ number_at b 7 1
      → (k n : ℕ) → k ≡ text_length b → n ≡ length (signature_in b)
      → record {
        status = v;
        movement = m;
        track = t;
        set = set;
        text_at = 10;
        text_len = k;
        signature_at = at;
        signature_len = n;
      }
      ≡ read_slip_call vk b
  unfolding read_slip_call
  told_at v m t ev em et k n ek en = rw (i.all_pass, ← i.place, ← i.set_is, ev, em, et, ek, en) refl
