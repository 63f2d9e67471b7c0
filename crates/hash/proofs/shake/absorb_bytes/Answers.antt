use mathlib.Core.Path.{◌≡◌, sym, ◌∙◌}
use Prim.Native.Nat.{ℕ, ◌+◌, ◌%◌, ◌<◌}
use native.Mathlib.Numerals.{add-one}
use native.Mathlib.Omega.{arith}
use native.Mathlib.Nat.{add-zero, add-suc, mod-mod}
use mathlib.Core.List.{List}
use borrow.Author.Rules.{rules}
use lib.ListN.{length, drop, get_or}
use lib.Seq.{drop-cons, drop-length}
use Rattle.hash.specs.Keccak.{State}
use Rattle.hash.specs.Shake.{absorb_from, absorb_byte}
use Rattle.hash.proofs.shake.absorb_bytes.Goals.{else-at-eq135, then-at-eq135}
use Rattle.hash.proofs.shake.absorb_bytes.Goals as goal

one_more_lem : (s : State) (n i : ℕ) (m : List ℕ) → i < length m
    → absorb_from s (n + i) (drop i m) ≡ absorb_from (absorb_byte s ((n + i) % 136) (get_or m i 0)) (n + (i + 1)) (drop (i + 1) m)
unfolding absorb_from absorb_byte
one_more_lem s n i m h = rw (add-one, add-suc, drop-cons m i 0, mod-mod)

pub loop-b-init : goal.loop-b-init
loop-b-init c = (search rules, rw add-zero)

pub loop-b-preserved : goal.loop-b-preserved
loop-b-preserved c = (
  elim c.if-at-eq135.branch [ then-at-eq135 w ↦ omega arith | else-at-eq135 w ↦ omega arith ],
  rw (c.absorb_byte-t.ensures, c.loop-b.invariant.0)
      (sym (one_more_lem c.loop-b.s c.args.n c.loop-b.b-index c.args.m.now (omega arith)) ∙ c.loop-b.invariant.1),
)

pub returns : goal.returns
unfolding absorb_from
returns c =
    let e : c.loop-b.b-index ≡ length c.args.m.now = omega arith in
    rw (e, drop-length) at c.loop-b.invariant.1
