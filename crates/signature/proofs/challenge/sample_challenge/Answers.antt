use Rattle.std.proofs.lemmas.Result.{err_from_is_err_and}
use mathlib.Core.Path.{ap, ◌∙◌}
use mathlib.Core.List.{List}
use native.Mathlib.Omega.{arith}
use lib.IntN.{ℤ}
use Rattle.signature.proofs.Held.{ok-some, err-none}
use Rattle.signature.proofs.ChalResult.{no-set, omega-low, no_room, sampled-none, sampled-some, sampled-length}
use Rattle.signature.proofs.challenge.sample_challenge.Goals as goal

pub returns-in_err-p : goal.returns-in_err-p
returns-in_err-p c =
    let a = c.args in
    let r = err_from_is_err_and c.from_residual.result c.from_residual.ensures.1 in
    rw (r.1, r.2) (no-set _ _ _ _ c.lookup.ensures _ c.in_err-p.was)

pub returns-then-out-ne512 : goal.returns-then-out-ne512
returns-then-out-ne512 c = no_room _ _ _ _ c.lookup.ensures _ c.in_ok-p.was c.if-out-ne512.true

pub overflow_cast-p : goal.overflow_cast-p
overflow_cast-p c =
    let a = c.args in
    record { fits = omega (arith, omega-low _ a.bytes.now a.out.now _ c.lookup.ensures _ c.in_ok-p.was) }

pub returns-in_err-c : goal.returns-in_err-c
returns-in_err-c c =
    let r = err_from_is_err_and c.from_residual-in_err-c.result c.from_residual-in_err-c.ensures.1 in
    let n = err-none _ _ _ _ c.ok_or.ensures.value c.in_err-c.was in
    rw (r.1, r.2, n.1) (sampled-none _ _ _ _ c.lookup.ensures _ c.in_ok-p.was c.if-out-ne512.false (n.0 ∙ c.fill.ensures))

pub copy_from_slice-requires : goal.copy_from_slice-requires
copy_from_slice-requires c =
    sampled-length _ _ c.args.out.now _ c.lookup.ensures _ c.in_ok-p.was c.if-out-ne512.false _
    (ok-some _ _ _ _ c.ok_or.ensures.value c.in_ok-c.was ∙ c.fill.ensures)

pub returns : goal.returns
returns c =
    ap (λ (o : List ℤ). (0, o)) c.copy_from_slice.ensures.after
    ∙ sampled-some _ _ _ _ c.lookup.ensures _ c.in_ok-p.was c.if-out-ne512.false _
    (ok-some _ _ _ _ c.ok_or.ensures.value c.in_ok-c.was ∙ c.fill.ensures)
