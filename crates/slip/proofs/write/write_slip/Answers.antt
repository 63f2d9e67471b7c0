use Rattle.std.specs.Option.{is_some}
use Rattle.hash.proofs.Others.{not-other, is-other}
use Prim.Native.Nat.{ℕ, ◌+◌}
use mathlib.Core.Path.{◌≡◌, refl, sym, ap, ◌∙◌}
use native.Mathlib.Omega.{arith}
use borrow.Author.Tests.{eq-eqb, ne_eqb}
use lib.ListN.{length}
use Rattle.ring.proofs.Checks.{no-here, yes-here}
use mathlib.Core.Bool.{true}
use mathlib.Core.List.{List, ◌++◌}
use Rattle.slip.specs.Calls.{parts_fit}
use Rattle.slip.specs.Format.{slip_of, slip_bytes}
use Rattle.slip.proofs.SlipTrip.{slip-long, length-leading}
use Rattle.slip.proofs.SlipWritten.{three-laid, write-no, write-yes, text-over, size-unknown, parts-fit}
use Rattle.slip.proofs.write.write_slip.Goals as goal

pub returns-then-n-gt512 : goal.returns-then-n-gt512
returns-then-n-gt512 c =
    let a = c.args in
    let s = slip_of a.movement a.track a.text.now a.signature.now in
    write-no s a.slip_out.now 18 (no-here 19 _ (text-over (length a.text.now) (length a.signature.now) c.if-n-gt512.true))

pub returns-then-is_none : goal.returns-then-is_none
returns-then-is_none c =
    let a = c.args in
    let s = slip_of a.movement a.track a.text.now a.signature.now in
    write-no s a.slip_out.now 18
    (no-here 19 _ (size-unknown (length a.text.now) (length a.signature.now) (not-other 0 _ (ap is_some (sym c.set_by_size.ensures) ∙ c.if-is_none.ensures))))

pub returns-then-slip_out-at : goal.returns-then-slip_out-at
returns-then-slip_out-at c =
    -- text and signature both-fit
    let both-fit : parts_fit (length c.args.text.now) (length c.args.signature.now) ≡ true = let a = c.args in
    parts-fit (length a.text.now) (length a.signature.now) (omega (arith, c.if-n-gt512.false)) (is-other 0 _ (ap is_some (sym c.set_by_size.ensures) ∙ c.if-is_none.ensures)) in
    let a = c.args in
    let s = slip_of a.movement a.track a.text.now a.signature.now in
    write-no s a.slip_out.now 7
    (yes-here 19 both-fit (no-here 8 _ (ne_eqb (length a.slip_out.now) (length (slip_bytes s)) (λ e. c.if-slip_out-at.true (e ∙ slip-long s)))))

pub returns : goal.returns
returns c =
    -- text and signature both-fit
    let both-fit : parts_fit (length c.args.text.now) (length c.args.signature.now) ≡ true = let a = c.args in
    parts-fit (length a.text.now) (length a.signature.now) (omega (arith, c.if-n-gt512.false)) (is-other 0 _ (ap is_some (sym c.set_by_size.ensures) ∙ c.if-is_none.ensures)) in
    let z = c.bytes_at-3 in
    let y = c.bytes_at-2 in
    let x = c.bytes_at in
    let a = c.args in
    let s = slip_of a.movement a.track a.text.now a.signature.now in
    let n = length a.text.now in
    let A = c.leading_bytes-front.result in
    let la : length A ≡ 10 = ap length c.leading_bytes-front.ensures ∙ length-leading a.movement a.track n in
    let lo = c.if-slip_out-at.false in
    let done = three-laid A a.text.now a.signature.now a.slip_out.now 10 (10 + n) la (ap (λ (k : ℕ). k + n) la) lo
    x.new.out y.new.out z.new.out x.ensures y.ensures z.ensures in
    write-yes s a.slip_out.now z.new.out
    (yes-here 19 both-fit (yes-here 8 (eq-eqb (length a.slip_out.now) (length (slip_bytes s)) (lo ∙ sym (slip-long s))) refl))
    (done ∙ ap (λ (l : List ℕ). (l ++ a.text.now) ++ a.signature.now) c.leading_bytes-front.ensures)
