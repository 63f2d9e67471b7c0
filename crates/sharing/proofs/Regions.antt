-- Regions of a list: what `span` reads of a list into which `put` wrote, and the laws of `Wrote`, by which the steps on one buffer are
-- joined. A loop over blocks has `Wrote` as its invariant, with the region growing: wrote-start, wrote-turn, wrote-end.
use mathlib.Core.Path.{◌≡◌, refl, sym, ap, ◌∙◌}
use mathlib.Core.List.{List, [], ◌∷◌, ◌++◌, append_assoc}
use Prim.Native.Nat.{ℕ, zero, suc, ◌+◌, ◌-◌, ◌*◌, ◌≤◌, ◌<◌}
use native.Mathlib.Nat.{zero-mul}
use native.Mathlib.Numerals.{add-one}
use native.Mathlib.Omega.{arith}
use lib.ListN.{length, take, drop, length-append, length-drop, take-append-drop}
use lib.Seq.{length-take-le, take-append-le, drop-append-le, take-append-add, drop-append-add, take_at, drop_at, take-take, drop-drop, take-add}
use Rattle.ring.specs.Words.{q, Below, Words}
use Rattle.ring.proofs.Sums.{below-take, below-drop, below-append}
use Rattle.sharing.specs.Blocks.{block, build}
use Rattle.sharing.specs.Region.{span, put, Wrote}
use Rattle.sharing.proofs.Lists.{inside}

-- ---- a region read, and a region written

pub length-span : (xs : List ℕ) (a k : ℕ) → a + k ≤ length xs → length (span xs a k) ≡ k
length-span xs a k h = length-take-le k (drop a xs) (rw length-drop (omega arith))

pub length-put : (xs : List ℕ) (a k : ℕ) (ys : List ℕ) → a + k ≤ length xs → length ys ≡ k → length (put xs a k ys) ≡ length xs
length-put xs a k ys h e =
    let f = length-take-le a xs (omega arith) in
    simp (length-append, length-drop, f, e) (omega arith)

pub below_span : (xs : List ℕ) (a k : ℕ) → Below q xs → Below q (span xs a k)
below_span xs a k h = below-take q k (drop a xs) (below-drop q a xs h)

pub below_put : (xs : List ℕ) (a k : ℕ) (ys : List ℕ) → Below q xs → Below q ys → Below q (put xs a k ys)
below_put xs a k ys h g =
    below-append q (take a xs) (ys ++ drop k (drop a xs)) (below-take q a xs h)
    (below-append q ys (drop k (drop a xs)) g (below-drop q k (drop a xs) (below-drop q a xs h)))

pub span-words : (xs : List ℕ) (a k : ℕ) → a + k ≤ length xs → Below q xs → Words k (span xs a k)
span-words xs a k h b = record { long = length-span xs a k h; low = below_span xs a k b }

-- the region that was put
pub span-put : (xs : List ℕ) (a k : ℕ) (ys : List ℕ) → a + k ≤ length xs → length ys ≡ k → span (put xs a k ys) a k ≡ ys
span-put xs a k ys h e =
    ap (take k) (drop_at (take a xs) (ys ++ drop k (drop a xs)) a (length-take-le a xs (omega arith)))
    ∙ take_at ys (drop k (drop a xs)) k e

-- a region before the one that was put
pub span-before : (xs : List ℕ) (a k : ℕ) (ys : List ℕ) (b m : ℕ) → a ≤ length xs → b + m ≤ a → span (put xs a k ys) b m ≡ span xs b m
span-before xs a k ys b m h g =
    let l = length-take-le a xs h in
    let e : drop b (put xs a k ys) ≡ drop b (take a xs) ++ (ys ++ drop k (drop a xs)) =
    drop-append-le b (take a xs) (ys ++ drop k (drop a xs)) (omega arith) in
    let n : m ≤ length (drop b (take a xs)) = rw length-drop (omega arith) in
    let w : drop b xs ≡ drop b (take a xs) ++ drop a xs =
    ap (drop b) (sym (take-append-drop a xs)) ∙ drop-append-le b (take a xs) (drop a xs) (omega arith) in
    ap (take m) e ∙ take-append-le m (drop b (take a xs)) (ys ++ drop k (drop a xs)) n
    ∙ sym (ap (take m) w ∙ take-append-le m (drop b (take a xs)) (drop a xs) n)

-- and behind it
drop-put : (xs : List ℕ) (a k : ℕ) (ys : List ℕ) (b : ℕ) → a + k ≤ length xs → length ys ≡ k → drop (a + k + b) (put xs a k ys) ≡ drop (a + k + b) xs
drop-put xs a k ys b h e =
    let l : length (take a xs ++ ys) ≡ a + k =
    length-append (take a xs) ys ∙ (let f = length-take-le a xs (omega arith) in omega arith) in
    ap (drop (a + k + b)) (sym (append_assoc (take a xs) ys (drop k (drop a xs))))
    ∙ sym (drop-drop b (a + k) ((take a xs ++ ys) ++ drop k (drop a xs)))
    ∙ ap (drop b) (drop_at (take a xs ++ ys) (drop k (drop a xs)) (a + k) l ∙ drop-drop k a xs)
    ∙ drop-drop b (a + k) xs

pub span-after : (xs : List ℕ) (a k : ℕ) (ys : List ℕ) (b m : ℕ) → a + k ≤ length xs → length ys ≡ k → a + k ≤ b → span (put xs a k ys) b m ≡ span xs b m
span-after xs a k ys b m h e g =
    let n : b ≡ a + k + (b - (a + k)) = omega arith in
    rw n (ap (take m) (drop-put xs a k ys (b - (a + k)) h e))

-- what a part that was lent leaves: e - a is k, and the part's last list is known
pub put_back : (xs : List ℕ) (a : ℕ) {n k : ℕ} {ys zs : List ℕ} → n ≡ k → ys ≡ zs → put xs a n ys ≡ put xs a k zs
put_back xs a {n} {k} {ys} {zs} p e = ap (λ (m : ℕ). put xs a m ys) p ∙ ap (put xs a k) e

-- ---- two lists, one behind the other

pub put-seam : (us vs : List ℕ) (a k : ℕ) (ys : List ℕ) → length us ≡ a → put (us ++ vs) a k ys ≡ us ++ (ys ++ drop k vs)
put-seam us vs a k ys e = rw (take_at us vs a e, drop_at us vs a e)

pub put-left : (us vs : List ℕ) (a k : ℕ) (ys : List ℕ) → a + k ≤ length us → put (us ++ vs) a k ys ≡ put us a k ys ++ vs
put-left us vs a k ys h =
    let d : drop k (drop a (us ++ vs)) ≡ drop k (drop a us) ++ vs =
    ap (drop k) (drop-append-le a us vs (omega arith)) ∙ drop-append-le k (drop a us) vs (rw length-drop (omega arith)) in
    rw (take-append-le a us vs (omega arith), d) (simp append_assoc)

pub span_left : (us vs : List ℕ) (a k : ℕ) → a + k ≤ length us → span (us ++ vs) a k ≡ span us a k
span_left us vs a k h =
    ap (take k) (drop-append-le a us vs (omega arith)) ∙ take-append-le k (drop a us) vs (rw length-drop (omega arith))

pub put_right : (us vs : List ℕ) (a n k : ℕ) (ys : List ℕ) → length us ≡ a → put (us ++ vs) (a + n) k ys ≡ us ++ put vs n k ys
put_right us vs a n k ys e =
    let t : take (a + n) (us ++ vs) ≡ us ++ take n vs =
    ap (λ (j : ℕ). take (j + n) (us ++ vs)) (sym e) ∙ take-append-add us vs n in
    let d : drop (a + n) (us ++ vs) ≡ drop n vs = ap (λ (j : ℕ). drop (j + n) (us ++ vs)) (sym e) ∙ drop-append-add us vs n in
    rw (t, d) (append_assoc us (take n vs) (ys ++ drop k (drop n vs)))

pub span_right : (us vs : List ℕ) (a n k : ℕ) → length us ≡ a → span (us ++ vs) (a + n) k ≡ span vs n k
span_right us vs a n k e = ap (take k) (ap (λ (j : ℕ). drop (j + n) (us ++ vs)) (sym e) ∙ drop-append-add us vs n)

-- ---- a region of a region

span-take : (j b k : ℕ) (l : List ℕ) → b + j ≤ k → take j (drop b (take k l)) ≡ take j (drop b l)
span-take j zero k l h = take-take j k l (omega arith)
span-take j (suc b) zero l h = absurd (omega arith)
span-take j (suc b) (suc k) [] h = refl
span-take j (suc b) (suc k) (x ∷ l) h = span-take j b k l (omega arith)

pub span-span : (xs : List ℕ) (a k b j : ℕ) → b + j ≤ k → span (span xs a k) b j ≡ span xs (a + b) j
span-span xs a k b j h = span-take j b k (drop a xs) h ∙ ap (take j) (drop-drop b a xs)

pub block-span : (w n i : ℕ) (xs : List ℕ) (a : ℕ) → i < n → block w i (span xs a (n * w)) ≡ span xs (a + i * w) w
unfolding block
block-span w n i xs a h = span-span xs a (n * w) (i * w) w (inside i n w h)

-- ---- Wrote

pub wrote-put : (a m : ℕ) (X xs ys : List ℕ) → a + m ≤ length xs → length X ≡ m → Below q xs → Below q X → ys ≡ put xs a m X
    → Wrote 0 a m X xs ys
wrote-put a m X xs ys h l bx b_x e =
    record {
      new = ap (λ (t : List ℕ). span t a m) e ∙ span-put xs a m X h l;
      front = λ (b j : ℕ) (z : 0 ≤ b) (k : b + j ≤ a). ap (λ (t : List ℕ). span t b j) e ∙ span-before xs a m X b j (omega arith) k;
      behind = λ (b j : ℕ) (z : 0 ≤ b) (k : a + m ≤ b). ap (λ (t : List ℕ). span t b j) e ∙ span-after xs a m X b j h l k;
      long = ap length e ∙ length-put xs a m X h l;
      low = rw e (below_put xs a m X bx b_x);
    }

pub wrote_value : {n a m : ℕ} {X Y xs ys : List ℕ} → X ≡ Y → Wrote n a m X xs ys → Wrote n a m Y xs ys
wrote_value e w = record { new = w.new ∙ e; front = w.front; behind = w.behind; long = w.long; low = w.low }

-- more scratch
pub wrote-wide : {n k a m : ℕ} {X xs ys : List ℕ} → n ≤ k → Wrote n a m X xs ys → Wrote k a m X xs ys
wrote-wide {n} {k} {a} {m} h w =
    record {
      new = w.new;
      front = λ (b j : ℕ) (l : k ≤ b) (o : b + j ≤ a). w.front b j (omega arith) o;
      behind = λ (b j : ℕ) (l : k ≤ b) (o : a + m ≤ b). w.behind b j (omega arith) o;
      long = w.long;
      low = w.low;
    }

-- the region behind it
pub wrote-next : {n a m k : ℕ} {X Y xs ys zs : List ℕ} → n ≤ a → Wrote n a m X xs ys → Wrote n (a + m) k Y ys zs
    → Wrote n a (m + k) (X ++ Y) xs zs
wrote-next {n} {a} {m} {k} {X} {Y} {xs} {ys} {zs} h v w =
    let e : span zs a (m + k) ≡ span zs a m ++ take k (drop m (drop a zs)) = take-add m k (drop a zs) in
    let f : drop m (drop a zs) ≡ drop (a + m) zs = drop-drop m a zs in
    let g : span zs a m ≡ span ys a m = w.front a m h (omega arith) in
    let p : span ys a m ≡ X = v.new in
    let r : take k (drop (a + m) zs) ≡ Y = w.new in
    record {
      new = cc (e, f, g, p, r);
      front = λ (b j : ℕ) (l : n ≤ b) (o : b + j ≤ a). w.front b j l (omega arith) ∙ v.front b j l o;
      behind = λ (b j : ℕ) (l : n ≤ b) (o : a + (m + k) ≤ b). w.behind b j l (omega arith) ∙ v.behind b j l (omega arith);
      long = w.long ∙ v.long;
      low = w.low;
    }

-- the same region again
pub wrote-over : {n a m : ℕ} {X Y xs ys zs : List ℕ} → Wrote n a m X xs ys → Wrote n a m Y ys zs → Wrote n a m Y xs zs
wrote-over {n} {a} {m} v w =
    record {
      new = w.new;
      front = λ (b j : ℕ) (l : n ≤ b) (o : b + j ≤ a). w.front b j l o ∙ v.front b j l o;
      behind = λ (b j : ℕ) (l : n ≤ b) (o : a + m ≤ b). w.behind b j l o ∙ v.behind b j l o;
      long = w.long ∙ v.long;
      low = w.low;
    }

-- scratch was written first
pub wrote-scratch : {n k c i a m : ℕ} {X Y xs ys zs : List ℕ} → n ≤ k → c + i ≤ k → Wrote n c i X xs ys → Wrote k a m Y ys zs
    → Wrote k a m Y xs zs
wrote-scratch {n} {k} {c} {i} {a} {m} g h v w =
    record {
      new = w.new;
      front = λ (b j : ℕ) (l : k ≤ b) (o : b + j ≤ a). w.front b j l o ∙ v.behind b j (omega arith) (omega arith);
      behind = λ (b j : ℕ) (l : k ≤ b) (o : a + m ≤ b). w.behind b j l o ∙ v.behind b j (omega arith) (omega arith);
      long = w.long ∙ v.long;
      low = w.low;
    }

-- ---- a loop over blocks of w words

pub wrote-start : (w : ℕ) (f : ℕ → List ℕ) (n a : ℕ) (xs : List ℕ) → Below q xs → Wrote n a (0 * w) (build 0 f) xs xs
unfolding build
wrote-start w f n a xs h = rw (zero-mul w) none
  where
    none : Wrote n a 0 [] xs xs
    none = record { new = refl; front = λ b j l m. refl; behind = λ b j l m. refl; long = refl; low = h }

pub wrote-turn : (w i : ℕ) (f : ℕ → List ℕ) {n a : ℕ} {xs ys zs : List ℕ} → n ≤ a → Wrote n a (i * w) (build i f) xs ys
    → Wrote n (a + i * w) w (f i) ys zs → Wrote n a ((i + 1) * w) (build (i + 1) f) xs zs
unfolding build
wrote-turn w i f {n} {a} {xs} {ys} {zs} h u v =
    let e : (i + 1) * w ≡ i * w + w = omega arith in
    let g : build (i + 1) f ≡ build i f ++ f i = ap (λ (j : ℕ). build j f) (add-one i) in
    let r = wrote-next h u v in
    rw (e, g) r

pub wrote-end : (w : ℕ) (f : ℕ → List ℕ) {i k n a : ℕ} {xs ys : List ℕ} → i ≡ k → Wrote n a (i * w) (build i f) xs ys
    → Wrote n a (k * w) (build k f) xs ys
wrote-end w f e u = rw e at u
