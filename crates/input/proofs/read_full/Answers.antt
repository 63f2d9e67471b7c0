use Rattle.std.proofs.Common.{◌≡◌, ℕ, ◌+◌, ◌-◌, ◌≤◌, List, ◌++◌, length, take, drop, sym, ap, subst, ◌∙◌, rules, le_refl, drop_at, length-take-le}
use Rattle.std.proofs.KnownBytes.{Consumes-trans}
use Rattle.std.proofs.lemmas.Slice.{take-put_mid_below}
use Rattle.std.specs.Io.KnownBytes.{Consumes}
use borrow.Rule.Slice.PartMut.{put_mid, post_of}
use lib.Seq.{take-add, take-append-le}
use Rattle.input.proofs.read_full.Goals as goal

-- the first n elements of what was put in at a follow those that stood before it
take-put_mid_more : (a k n : ℕ) (xs ys : List ℕ) → a ≤ length xs → n ≤ length ys → take (a + n) (put_mid a k xs ys) ≡ take a xs ++ take n ys
take-put_mid_more a k n xs ys within fits =
    let after = post_of a k xs in
    let front = take-put_mid_below a k xs ys a (le_refl a) within in
    let more = ap (take n) (drop_at (take a xs) (ys ++ after) a (length-take-le a xs within)) ∙ take-append-le n ys after fits in
    take-add a n (put_mid a k xs ys) ∙ ap (λ (l : List ℕ). l ++ take n (drop a (put_mid a k xs ys))) front ∙ ap (λ (l : List ℕ). take a xs ++ l) more

pub loop-n-preserved : goal.loop-n-preserved
loop-n-preserved g c =
    let (within, read) = c.loop-n.invariant in
    let ensures = c.in_ok-more.ensures in
    let joined = take-put_mid_more c.loop-n.n (length c.loop-n.buf - c.loop-n.n) c.in_ok-more.more c.loop-n.buf c.read_some.new.buf within ensures.bound.0 in
    (search rules, subst (Consumes _ _) (sym joined) (Consumes-trans _ _ _ _ _ read ensures.bytes.0))
