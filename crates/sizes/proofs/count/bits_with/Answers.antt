use mathlib.Core.Path.{sym, ◌∙◌}
use Prim.Native.Nat.{◌*◌}
use native.Mathlib.Omega.{arith}
use lib.Dec.{eqb}
use lib.ListN.{length}
use borrow.Author.Tests.{eq-eqb, ne_eqb}
use Rattle.std.proofs.lemmas.Result.{err_from_is_err_and}
use Rattle.ring.proofs.Checks.{left-no, right-no, both_yes}
use Rattle.sizes.proofs.Told.{bits_none, bits-all, bits-unknown, bits-found}
use Rattle.sizes.proofs.count.bits_with.Goals as goal

pub returns-in_err-row : goal.returns-in_err-row
returns-in_err-row c =
    let a = c.args in
    let r = err_from_is_err_and c.from_residual.result c.from_residual.ensures.1 in
    record {
      value = rw (r.1, r.2) (bits-unknown a.set a.hint.now a.response.now _ (sym c.in_err-row.ensures));
      bits_bound = rw r.1 (omega arith);
    }

pub returns-then-hint-p : goal.returns-then-hint-p
returns-then-hint-p c =
    let a = c.args in
    let p = c.in_ok-row.row.p in
    record {
      value = bits_none p a.hint.now a.response.now (left-no (eqb (length a.response.now) (p.l * 512)) (ne_eqb _ _ c.if-hint-p.true))
          ∙ bits-found a.set a.hint.now a.response.now p (sym c.in_ok-row.ensures);
      bits_bound = omega arith;
    }

pub returns-then-response-p : goal.returns-then-response-p
returns-then-response-p c =
    let a = c.args in
    let p = c.in_ok-row.row.p in
    record {
      value = bits_none p a.hint.now a.response.now (right-no (eqb (length a.hint.now) (p.k * 512)) (ne_eqb _ _ c.if-response-p.true))
          ∙ bits-found a.set a.hint.now a.response.now p (sym c.in_ok-row.ensures);
      bits_bound = omega arith;
    }

pub hint_bits-requires : goal.hint_bits-requires
hint_bits-requires c = omega (arith, c.if-hint-p.false, c.in_ok-row.row.tabled.rows-low)

pub response_bits-requires : goal.response_bits-requires
response_bits-requires c = omega (arith, c.if-response-p.false, c.in_ok-row.row.tabled.columns-low)

pub returns : goal.returns
returns c =
    let a = c.args in
    let p = c.in_ok-row.row.p in
    let h = c.hint_bits.ensures in
    let r = c.response_bits.ensures in
    record {
      value = bits-all p a.hint.now a.response.now _ (both_yes (eq-eqb _ _ c.if-hint-p.false) (eq-eqb _ _ c.if-response-p.false)) (omega (arith, h.value, r.value))
          ∙ bits-found a.set a.hint.now a.response.now p (sym c.in_ok-row.ensures);
      bits_bound = omega (arith, h.upper_bound, r.upper_bound, c.in_ok-row.row.tabled.kappa-low);
    }
