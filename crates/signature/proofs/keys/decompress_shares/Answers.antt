use mathlib.Core.Path.{◌≡◌, sym, ap, subst, ◌∙◌}
use mathlib.Core.List.{List}
use Prim.Native.Nat.{ℕ, ◌*◌}
use native.Mathlib.Omega.{arith}
use lib.ListN.{length, replicate}
use Rattle.ring.specs.Words.{q, Below, Words}
use Rattle.signature.proofs.Fronts.{front-in, front-is}
use Rattle.signature.proofs.Expanded.{full-length}
use Rattle.signature.proofs.keys.decompress_shares.Goals as goal

pub slice_bounds-decompress_all-end : goal.slice_bounds-decompress_all-end
slice_bounds-decompress_all-end c =
    let p = c.args.part.row.p in
    let f = c.full_share in
    front-in (p.l * 512) (replicate 3584 0) f.new.out (omega (arith, c.args.part.row.tabled.columns-low))
    (ap (λ (l : List ℕ). length l) f.ensures ∙ full-length p c.args.part.bytes.now)

pub decompress_all-requires : goal.decompress_all-requires
decompress_all-requires c =
    let p = c.args.part.row.p in
    let f = c.full_share in
    let n : length f.new.out ≡ p.l * 512 = ap (λ (l : List ℕ). length l) f.ensures ∙ full-length p c.args.part.bytes.now in
    let e = front-is (p.l * 512) (replicate 3584 0) f.new.out (omega (arith, c.args.part.row.tabled.columns-low)) n in
    let w : Words (p.l * 512) f.new.out =
    record { long = n; low = subst (λ (l : List ℕ). Below q l) (sym f.ensures) c.requires.out_len.1 } in record { full_value = (e ∙ f.ensures, subst (λ (l : List ℕ). Words (p.l * 512) l) (sym e) w, c.requires.out_len.0) }
