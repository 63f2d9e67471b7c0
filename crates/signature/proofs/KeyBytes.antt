-- The byte form of a signing key: four parts laid into a buffer, one behind the other.
use Prim.Native.Nat.{ℕ, ◌+◌, ◌*◌, ◌≤◌}
use mathlib.Core.Path.{◌≡◌, refl, sym, ap, ◌∙◌}
use mathlib.Core.List.{List, ◌++◌, append_assoc, append-nil}
use native.Mathlib.Omega.{arith}
use lib.ListN.{length, drop, length-append, length-drop, drop_of_length-le}
use Rattle.hash.specs.declared.params.Params.{Params}
use Rattle.sharing.specs.Region.{put}
use Rattle.sharing.proofs.Regions.{put-seam}
use Rattle.signature.specs.Bits.{repack}
use Rattle.signature.specs.Keys.{public_key_of}

-- a part laid behind what is there
pub laid-behind : (F R Y o : List ℕ) (at k : ℕ) → length F ≡ at → o ≡ F ++ R → put o at k Y ≡ (F ++ Y) ++ drop k R
laid-behind F R Y o at k e h = ap (λ (m : List ℕ). put m at k Y) h ∙ put-seam F R at k Y e ∙ sym (append_assoc F Y (drop k R))

module _ (A B C E o : List ℕ) (a b c e : ℕ) (la : length A ≡ a) (lb : length B ≡ b) (lc : length C ≡ c) (lo : length o ≡ a + b + (c + e)) where
  pub four : (o₁ o₂ o₃ o₄ : List ℕ) → o₁ ≡ put o 0 a A → o₂ ≡ put o₁ a b B → o₃ ≡ put o₂ (a + b) c C → o₄ ≡ put o₃ (a + b + c) e E
      → o₄ ≡ (A ++ B) ++ (C ++ E)
  four o₁ o₂ o₃ o₄ h₁ h₂ h₃ h₄ =
      let l₂ : length (A ++ B) ≡ a + b = length-append A B ∙ omega arith in
      let l₃ : length ((A ++ B) ++ C) ≡ a + b + c = length-append (A ++ B) C ∙ omega arith in
      let e₂ : o₂ ≡ (A ++ B) ++ drop b (drop a o) = h₂ ∙ laid-behind A (drop a o) B o₁ a b la h₁ in
      let e₃ : o₃ ≡ ((A ++ B) ++ C) ++ drop c (drop b (drop a o)) = h₃ ∙ laid-behind (A ++ B) (drop b (drop a o)) C o₂ (a + b) c l₂ e₂ in
      let d = drop c (drop b (drop a o)) in
      let ld : length d ≤ e = omega (arith, length-drop c (drop b (drop a o)), length-drop b (drop a o), length-drop a o) in
      h₄ ∙ laid-behind ((A ++ B) ++ C) d E o₃ (a + b + c) e l₃ e₃ ∙ ap (λ (m : List ℕ). (((A ++ B) ++ C) ++ E) ++ m) (drop_of_length-le d ld)
      ∙ append-nil (((A ++ B) ++ C) ++ E) ∙ append_assoc (A ++ B) C E

-- what is written is the key of Algorithm 1
pub key-bytes : (p : Params) (seed t z x : List ℕ)
    → public_key_of p seed t ++ (z ++ repack 49 8 (p.l * 3136) x) ≡ (seed ++ repack 7 8 (p.k * 448) t) ++ (z ++ repack 49 8 (p.l * 3136) x)
unfolding public_key_of
key-bytes p seed t z x = refl
