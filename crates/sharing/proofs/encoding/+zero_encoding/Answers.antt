use mathlib.Core.Path.{◌≡◌, ap, sym, ◌∙◌, subst}
use mathlib.Core.List.{List}
use Prim.Native.Nat.{ℕ, ◌*◌, ◌/◌, ◌^◌}
use native.Mathlib.Omega.{arith}
use lib.ListN.{length}
use Rattle.hash.specs.Params.{order_index}
use Rattle.ring.specs.Words.{Words}
use Rattle.ring.proofs.Sums.{residues-append}
use Rattle.hash.specs.Lists.{zeros}
use Rattle.sharing.specs.Encoding.{zero_encoding}
use Rattle.sharing.specs.Masks.{masks}
use Rattle.sharing.proofs.Carry.{mask_low}
use Rattle.sharing.proofs.Halves.{half, len-left, len-right, joined, zero_one, zero_more}
use Rattle.sharing.proofs.Totals.{zero-words}
use Rattle.sharing.proofs.encoding.+zero_encoding.Goals as goal

pub returns-then-d-eq1 : goal.returns-then-d-eq1
returns-then-d-eq1 t c =
    let o = zero_one masks c.args.d c.args.g c.if-d-eq1.true in
    let n : length c.args.s.now ≡ 512 = omega (arith, c.requires.0, c.if-d-eq1.true) in
    (c.fill.ensures.after (λ y h. h) ∙ ap zeros n ∙ o.0, o.1)

pub zero_encoding-y-requires : goal.zero_encoding-y-requires
zero_encoding-y-requires t c =
    let d = c.args.d in
    let s = c.args.s.now in
    let l = c.zero_encoding-x in
    let h = half d c.requires.1 c.if-d-eq1.false in
    let n = l.auto.s ∙ len-left d h s c.requires.0 in
    (omega (arith, h.less, c.requires.0), (len-right d h s c.requires.0 l.new.s n, h.count))

-- a half that was made
module _ (n : ℕ) (e : n ≡ 2 ^ order_index n) where
  made : (g : _) (l : List ℕ) → l ≡ zero_encoding masks (order_index n) g → Words (n * 512) l
  made g l h = rw h (subst (λ (m : ℕ). Words (m * 512) (zero_encoding masks (order_index n) g)) (sym e)
      (zero-words masks mask_low (order_index n) g))

pub mask_pairs-requires : goal.mask_pairs-requires
mask_pairs-requires t c =
    let d = c.args.d in
    let s = c.args.s.now in
    let h = half d c.requires.1 c.if-d-eq1.false in
    let l = c.zero_encoding-x in
    let r = c.zero_encoding-y in
    let n = l.auto.s ∙ len-left d h s c.requires.0 in
    rw (joined d h s c.requires.0 l.new.s n r.new.s)
    (residues-append l.new.s r.new.s (made (d / 2) h.power c.args.g l.new.s l.ensures.0)
    (made (d / 2) h.power l.result r.new.s r.ensures.0))

pub returns : goal.returns
returns t c =
    let d = c.args.d in
    let s = c.args.s.now in
    let h = half d c.requires.1
    c.if-d-eq1.false in
    let l = c.zero_encoding-x in
    let r = c.zero_encoding-y in
    let m = c.mask_pairs in
    let n = l.auto.s ∙ len-left d h s c.requires.0 in
    let j = joined d h s c.requires.0 l.new.s n r.new.s in
    zero_more masks d c.args.g l.result r.result m.result l.new.s r.new.s m.new.s h n l.ensures r.ensures
    (rw j at m.ensures)
