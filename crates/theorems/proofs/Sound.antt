-- What demand 3 supposes of a unit is no more than what the checks ask: every unit that signs is sound.
use mathlib.Core.Path.{◌≡◌, sym, ap, ◌∙◌}
use Prim.Native.Nat.{◌*◌}
use borrow.Author.Tests.{eqb-true}
use lib.Dec.{eqb}
use lib.ListN.{length}
use Rattle.hash.specs.declared.params.Params.{Params}
use Rattle.std.specs.Prelude.{Result, Ok}
use Rattle.hash.specs.declared.params.Unknown.{Unknown}
use Rattle.hash.proofs.Sets.{found-set}
use Rattle.ring.specs.Words.{q}
use Rattle.ring.proofs.Checks.{both_true}
use Rattle.ring.proofs.Sums.{all-below}
use Rattle.signature.specs.Checks.{expanded_bytes_sized}
use Rattle.signature.specs.Outcome.{first_no, found_in}
use Rattle.signature.specs.SignCalls.{Key, sign_checks, attempts_of, sign_by, sign_of}
use Rattle.signature.proofs.SignChecks.{AllPassed, all_yes}
use Rattle.theorems.specs.Unit.{UnitCall, sign_unit, record_of, Fits, Sound}
use Rattle.theorems.proofs.AcceptCall.{not-refused, found-with}

module _ (u : UnitCall) (h : (sign_unit u).status ≡ 0) where
  all-passed-by : (p : Params) → record_of u ≡ Ok p → AllPassed p (Key.expanded u.key) u.attempts u.message u.coins u.result u.work
  unfolding sign_unit sign_of
  all-passed-by p is =
      let f = ap (λ (s : Result Params Unknown). (sign_by s (found_in s) (Key.expanded u.key) u.attempts u.message u.coins u.result u.work).status) is in
      let z = not-refused (first_no (sign_checks (Ok p) p (Key.expanded u.key) u.attempts u.message u.coins u.result u.work))
      (attempts_of p (Key.expanded u.key) u.attempts u.message u.coins) (sym f ∙ h) in
      (all_yes p (Key.expanded u.key) u.attempts u.message u.coins u.result u.work z.0).0

  fitting : (p : Params) → record_of u ≡ Ok p → Fits p u
  fitting p is =
      let a = all-passed-by p is in
      let s = both_true (expanded_bytes_sized p u.key.bytes) (eqb (length u.key.words) (p.l * (p.shares * 512))) a.sized in
      record {
        share-words = record { long = eqb-true (length u.key.words) (p.l * (p.shares * 512)) s.1; low = all-below q u.key.words a.shares };
        coins = a.coins;
        buffers = a.buffers;
      }

  pub signed-sound : Sound u
  unfolding sign_unit
  signed-sound =
      let f = found-with u.edition u.set u.shares (Key.expanded u.key) u.attempts u.message u.coins u.result u.work h in
      record { count = (found-set u.set u.shares u.edition f.0 f.1).count; fits = fitting }
