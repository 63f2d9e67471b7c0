-- The bytes of w' = y + h, row by row, and as the definition has them; parts of t and of the hint.
use mathlib.Core.Path.{◌≡◌, sym, ap, ◌∙◌}
use mathlib.Core.List.{List, ◌++◌, append_assoc}
use mathlib.Core.Option.{some}
use Prim.Native.Nat.{ℕ, ◌+◌, ◌*◌, ◌≤◌, ◌<◌}
use native.Mathlib.Omega.{arith}
use native.Mathlib.Numerals.{add-one}
use lib.IntN.{ℤ, pos, nat_abs}
use lib.ListN.{length, get_or, take, drop, length-append, length-drop}
use lib.Seq.{take_at, length-take-le, get_or-take, get_or-drop}
use Rattle.hash.specs.declared.params.Params.{Params}
use Rattle.ring.specs.Words.{Below, Residues, Words, zip_to}
use Rattle.ring.specs.Transform.{ntt, mul}
use Rattle.ring.specs.Round.{rounded, round_w, scaled_t, residues}
use Rattle.ring.proofs.Mapped.{length-map, scaled-words}
use Rattle.ring.proofs.Sums.{below-take, below-drop, length-zip, words-sub}
use Rattle.sharing.specs.Blocks.{block, build, sum_of}
use Rattle.sharing.proofs.Lists.{inside, build-ext, length-build, block-build, blocks-all}
use Rattle.sharing.proofs.Built.{length-block, block-map, block-zip, block-residues, build-next}
use Rattle.sharing.proofs.Decode.{words-sum}
use Rattle.sharing.specs.Region.{span, put}
use Rattle.sharing.proofs.Regions.{length-span}
use Rattle.signature.specs.MaskedSteps.{transformed}
use Rattle.signature.specs.Matrix.{matrix}
use Rattle.signature.specs.MatrixSteps.{row_made}
use Rattle.signature.specs.Recover.{add31, product_row, recovered_row, recovered, adjusted}
use Rattle.signature.specs.RecoverSteps.{recovered_by, block_z, adjusted_rows}
use Rattle.signature.proofs.Entries.{made-entry, matrix-entry-words}
use Rattle.signature.proofs.Recovered.{recovered-row}

-- row i of them
abbrev pub adjusted_at : ℕ → List ℕ → List ℕ → List ℕ → List ℕ → List ℤ → ℕ → List ℕ
adjusted_at l seed Z C t h i = adjusted (recovered_by l (row_made l seed i) Z C (block 512 i t)) (block_z i h)

pub span-residues : (p : ℕ) (xs : List ℕ) (a k : ℕ) → a + k ≤ length xs → Below p xs → Residues p k (span xs a k)
span-residues p xs a k h b = record { long = length-span xs a k h; low = below-take p k (drop a xs) (below-drop p a xs b) }

pub length-span_z : (xs : List ℤ) (a k : ℕ) → a + k ≤ length xs → length (take k (drop a xs)) ≡ k
length-span_z xs a k h = length-take-le k (drop a xs) (rw length-drop (omega arith))

-- the numbers of a part are as small as those of the whole
pub part_small : (m a n : ℕ) (h : List ℤ) → a + n ≤ length h → ((i : ℕ) → i < length h → nat_abs (get_or h i (pos 0)) < m)
    → (i : ℕ) → i < n → nat_abs (get_or (take n (drop a h)) i (pos 0)) < m
part_small m a n h l f i g =
    rw (get_or-take n (drop a h) i (pos 0) g, get_or-drop a h i (pos 0)) (f (a + i) (omega arith))

-- the front of a list behind which n elements are put
pub take_put : {A : Type 0} (xs ys : List A) (a n : ℕ) → a + n ≤ length xs → length ys ≡ n → take (a + n) (take a xs ++ (ys ++ drop n (drop a xs))) ≡ take a xs ++ ys
take_put {A} xs ys a n h e =
    let f : length (take a xs) ≡ a = length-take-le a xs (omega arith) in
    let g : length (take a xs ++ ys) ≡ a + n = length-append (take a xs) ys ∙ omega (arith, f, e) in
    ap (λ (l : List A). take (a + n) l) (sym (append_assoc (take a xs) ys (drop n (drop a xs)))) ∙ take_at (take a xs ++ ys) (drop n (drop a xs)) (a + n) g

-- a row more: y is the rounded row, X what is put behind the i rows of w
pub adjust-turn : (l : ℕ) (seed Z C t : List ℕ) (h : List ℤ) (i : ℕ) (w X y r : List ℕ) → i * 512 + 512 ≤ length w
    → take (i * 512) w ≡ build i (adjusted_at l seed Z C t h) → r ≡ recovered_by l (row_made l seed i) Z C (block 512 i t) → y ≡ round_w r
    → X ≡ zip_to add31 y (residues 31 (block_z i h)) → length X ≡ 512
    → take ((i + 1) * 512) (put w (i * 512) 512 X) ≡ build (i + 1) (adjusted_at l seed Z C t h)
unfolding adjusted
adjust-turn l seed Z C t h i w X y r n e f g k m =
    let o : (i + 1) * 512 ≡ i * 512 + 512 = omega arith in
    let x : X ≡ adjusted_at l seed Z C t h i =
    k ∙ ap (λ (v : List ℕ). zip_to add31 v (residues 31 (block_z i h))) (g ∙ ap round_w f) in
    ap (λ (v : ℕ). take v (put w (i * 512) 512 X)) o ∙ take_put w X (i * 512) 512 n m ∙ ap (λ (v : List ℕ). v ++ X) e
    ∙ ap (λ (v : List ℕ). build i (adjusted_at l seed Z C t h) ++ v) x ∙ sym (ap (λ (v : ℕ). build v (adjusted_at l seed Z C t h)) (add-one i) ∙ build-next i (adjusted_at l seed Z C t h))

-- ---- all rows are the definition's

-- place by place, and rounding, polynomial by polynomial
pub zip-block : (f : ℕ → ℕ → ℕ) (xs ys : List ℕ) (i : ℕ) → block 512 i (zip_to f xs ys) ≡ zip_to f (block 512 i xs) (block 512 i ys)
zip-block f xs ys i = block-zip 512 i f xs ys

pub round-block : (y : List ℕ) (i : ℕ) → block 512 i (round_w y) ≡ round_w (block 512 i y)
round-block y i = block-map 512 i (rounded 44 31) y

-- w' polynomial by polynomial
adjust-block : (y : List ℕ) (h : List ℤ) (i : ℕ) → block 512 i (adjusted y h) ≡ adjusted (block 512 i y) (block_z i h)
unfolding adjusted
adjust-block y h i =
    zip-block add31 (round_w y) (residues 31 h) i
    ∙ ap (λ (v : List ℕ). zip_to add31 v (block 512 i (residues 31 h))) (round-block y i)
    ∙ ap (zip_to add31 (round_w (block 512 i y))) (block-residues 512 i 31 h)

length-adjusted : (y : List ℕ) (h : List ℤ) → length (adjusted y h) ≡ length y
unfolding adjusted
length-adjusted y h = length-zip add31 (round_w y) (residues 31 h) ∙ length-map (rounded 44 31) y

module _ (p : Params) (A z c t : List ℕ) where
  row-long : (i : ℕ) → i < p.k → length (recovered_row p.l A z c t i) ≡ 512
  unfolding recovered_row product_row
  row-long i o =
      (words-sub (sum_of 512 p.l (λ (m : ℕ). mul (block 512 (i * p.l + m) A) (block 512 m z))) (mul c (scaled_t (block 512 i t)))
      (words-sum 512 p.l (λ (m : ℕ). mul (block 512 (i * p.l + m) A) (block 512 m z)))).long

  recovered-long : length (recovered p A z c t) ≡ p.k * 512
  unfolding recovered
  recovered-long = length-build 512 p.k (recovered_row p.l A z c t) row-long

  pub adjusted-long : (h : List ℤ) → length (adjusted (recovered p A z c t) h) ≡ p.k * 512
  adjusted-long h = length-adjusted (recovered p A z c t) h ∙ recovered-long

-- row i of y, of a row T of the matrix
pub row_block : (p : Params) (i : ℕ) (T A z c t : List ℕ) → i < p.k → ((m : ℕ) → m < p.l → block 512 m T ≡ ntt (block 512 (i * p.l + m) A))
    → ((m : ℕ) → m < p.l → Words 512 (block 512 (i * p.l + m) A)) → Words (p.l * 512) z → Words 512 c → length t ≡ p.k * 512
    → recovered_by p.l T (transformed p.l z) (ntt c) (block 512 i t) ≡ block 512 i (recovered p A z c t)
unfolding recovered
row_block p i T A z c t o e wa wz wc lt =
    let g : i * 512 + 512 ≤ p.k * 512 = inside i p.k 512 o in
    recovered-row p.l i T A z c t e wa wz wc (scaled-words (block 512 i t) (length-block 512 i t (omega (arith, g, lt))))
    ∙ sym (block-build 512 p.k i (recovered_row p.l A z c t) (row-long p A z c t) o)

pub adjusted-all : (p : Params) (seed A z c t : List ℕ) (h : List ℤ) → matrix p seed ≡ some A → Words (p.l * 512) z → Words 512 c → length t ≡ p.k * 512
    → adjusted_rows p.k p.l seed (transformed p.l z) (ntt c) t h ≡ adjusted (recovered p A z c t) h
unfolding adjusted_rows
adjusted-all p seed A z c t h e wz wc lt =
    let Y : List ℕ = recovered p A z c t in
    let f : (i : ℕ) → i < p.k → adjusted_at p.l seed (transformed p.l z) (ntt c) t h i ≡ block 512 i (adjusted Y h) =
    λ (i : ℕ) (o : i < p.k). ap (λ (v : List ℕ). adjusted v (block_z i h)) (row_block p i (row_made p.l seed i) A z c t o (λ (m : ℕ) (n : m < p.l). made-entry p.k p.l seed A e i m o n) (λ (m : ℕ) (n : m < p.l). matrix-entry-words p.k p.l seed A e i m o n) wz wc lt) ∙ sym (adjust-block Y h i) in
    build-ext p.k (adjusted_at p.l seed (transformed p.l z) (ntt c) t h) (λ (i : ℕ). block 512 i (adjusted Y h)) f
    ∙ blocks-all 512 p.k (adjusted Y h) (adjusted-long p A z c t h)

-- the same of equal parts
pub adjusted-parts : {v v' s s' x x' t t' : List ℕ} (k l : ℕ) (h : List ℤ) → v ≡ v' → s ≡ s' → x ≡ x' → t ≡ t' → adjusted_rows k l v s x t h ≡ adjusted_rows k l v' s' x' t' h
adjusted-parts k l h a b c d = cc (a, b, c, d)
