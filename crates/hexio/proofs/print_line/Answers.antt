use Rattle.std.proofs.Common.{◌≡◌, ℕ, List, [], ◌++◌, sym, ap, subst, ◌∙◌, rules, append_assoc, append-nil}
use Rattle.std.proofs.KnownBytes.{Appends-nil, Appends-trans}
use Rattle.std.proofs.lemmas.List.{nil_from_length}
use Rattle.std.specs.Io.KnownBytes.{Appends}
use Rattle.std.specs.Slice.Iter.{chunks_rest}
use Rattle.hex.specs.Hex.{encode_lower, encode_with, lower_digits}
use Rattle.hexio.proofs.Digits.{encode_with-append}
use Rattle.hexio.proofs.print_line.Goals as goal

pub loop-part-init : goal.loop-part-init
loop-part-init g c = (search rules, tt, search rules, [], Appends-nil _, search rules)

pub loop-part-preserved : goal.loop-part-preserved
loop-part-preserved g c =
    let (more, finite, size, done, written, left) = c.loop-part.invariant in
    let steps = c.in-Some.ensures.steps in
    let digits = ap encode_lower steps.1.0 ∙ encode_with-append lower_digits c.in-Some.part.now (chunks_rest c.next.new.self) in (
      search rules,
      tt,
      steps.0 ∙ size,
      done ++ encode_lower c.in-Some.part.now,
      Appends-trans _ _ _ _ _ written c.in_ok-print_part.ensures,
      append_assoc done _ _ ∙ ap (λ (t : List ℕ). done ++ t) (sym digits) ∙ left,
    )

pub returns-clause-written : goal.returns-clause-written
unfolding encode_with
returns-clause-written g c =
    let (more, finite, size, done, written, left) = c.loop-part.invariant in
    let none = nil_from_length (chunks_rest c.loop-part.part-iterator) c.in-None.ensures.steps.1.0 in
    let all : done ≡ encode_lower c.args.s.now = sym (append-nil done) ∙ ap (λ (t : List ℕ). done ++ encode_lower t) (sym none) ∙ left in
    Appends-trans _ _ _ _ _ (subst (Appends _ _) all written) c.in_ok-write_all.ensures.bytes
