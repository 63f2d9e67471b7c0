use mathlib.Core.Path.{refl, sym, ap, ◌∙◌}
use mathlib.Core.List.{◌++◌}
use Prim.Native.Nat.{ℕ, ◌*◌}
use native.Mathlib.Omega.{arith}
use lib.ListN.{length}
use Rattle.hash.proofs.Rows.{count-power}
use Rattle.hash.specs.Shake.{shake256}
use Rattle.ring.specs.Round.{round_w}
use Rattle.sharing.specs.Region.{span}
use Rattle.signature.specs.Challenge.{headed, ordered}
use Rattle.signature.specs.Layout.{at_t}
use Rattle.signature.proofs.Attempts.{answer-none, answer-made}
use Rattle.signature.proofs.Sizes.{room}
use Rattle.signature.proofs.attempt.answer.Goals as goal

pub challenge_at-c-requires : goal.challenge_at-c-requires
challenge_at-c-requires c =
    let h = c.args.row.tabled in
    let r = (room c.args.row.p h (length c.args.work.now) c.requires.0).1 in
    (omega (arith, r, c.at_t-at.ensures), c.requires.1, h.rows-low, omega (arith, h.omega-low))

pub returns-in_default : goal.returns-in_default
returns-in_default c =
    let b = c.args in
    let p = b.row.p in
    let z = rw c.at_t-at.ensures at c.challenge_at-c.ensures in
    let W = span b.work.now (at_t p.l p.shares) (p.k * 512) in
    let e = z.1 ∙ ap (λ (n : ℕ). shake256 (headed 104 p.k ++ ordered p.edition (round_w W) b.mu.now) n) c.requires.2 in
    record {
      work_len_unchanged = (z.0.long, z.0.low);
      answered = λ N h A s u. answer-none p N h b.g A b.mu.now s b.work.now _ _ _ u z.0 e (sym c.in_default.is ∙ z.2) refl refl;
    }

pub respond-y-requires : goal.respond-y-requires
respond-y-requires c =
    let h = c.args.row.tabled in
    let r = (room c.args.row.p h (length c.args.work.now) c.requires.0).2 in
    let u = c.challenge_at-c.ensures.0 in
    let n = u.long in
    (omega (arith, r, n), u.low, c.from_signed.ensures.1)

pub returns : goal.returns
returns c =
    let b = c.args in
    let p = b.row.p in
    let z = rw c.at_t-at.ensures at c.challenge_at-c.ensures in
    let W = span b.work.now (at_t p.l p.shares) (p.k * 512) in
    let e = z.1 ∙ ap (λ (n : ℕ). shake256 (headed 104 p.k ++ ordered p.edition (round_w W) b.mu.now) n) c.requires.2 in
    let v = c.respond-y.ensures in
    record {
      work_len_unchanged = (v.long ∙ z.0.long, v.low);
      answered = λ N h A s u.
          answer-made p N h b.g A b.mu.now s b.work.now _ _ _ u z.0 e (sym c.in-Some.is ∙ z.2) (count-power p.shares c.args.row.tabled.count) _ _ _ _ refl c.from_signed.ensures.0 refl v;
    }
