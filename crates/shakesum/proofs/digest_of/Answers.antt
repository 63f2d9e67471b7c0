use Rattle.std.proofs.Common.{rules, ◌≡◌, ℕ, ◌≤◌, ◌^◌, List, [], ◌++◌, length, take, inl, inr, ap, ◌∙◌, ◌⊎◌, arith, length-append}
use Rattle.std.proofs.lemmas.List.{take_all, length-take-le}
use Rattle.std.specs.Io.KnownBytes.{IsAtEnd}
use Rattle.hash.specs.Keccak.{State}
use Rattle.hash.specs.Shake.{absorb_from, shake256}
use Rattle.shakesum.proofs.Digest.{absorb-blocks, digest-blocks, read_more, read_whole}
use Rattle.shakesum.proofs.digest_of.Goals as goal
use Rattle.shakesum.proofs.digest_of.Goals.{else-loop-test, then-loop-test+then-n-lt4080}

pub loop-init : goal.loop-init
unfolding absorb_from
loop-init g c =
    let read = c.in_ok-n.ensures in (
      search rules,
      λ short. read.end (search rules),
      [],
      search rules,
      c.start-s.ensures,
      read.bytes,
    )

pub loop-preserved : goal.loop-preserved
loop-preserved g c =
    let (within, end, done, whole, absorbed, read) = c.loop.invariant in
    let more = c.in_ok-n-2.ensures in
    let size : length c.loop.buf ≡ 4080 = search rules in
    let full : take c.loop.n c.loop.buf ≡ c.loop.buf = take_all c.loop.n c.loop.buf (search rules) in (
      search rules,
      λ short. more.end (search rules),
      done ++ c.loop.buf,
      omega (arith, length-append done c.loop.buf, size, whole),
      c.absorb-next.ensures ∙ ap (λ (s : State). absorb_from s 0 c.loop.buf) absorbed ∙ absorb-blocks c.loop.counter done c.loop.buf whole,
      read_more _ _ _ done (take c.loop.n c.loop.buf) c.loop.buf _ full read more.bytes,
    )

pub returns : goal.returns
returns g c =
    let (within, end, done, whole, absorbed, read) = c.loop.invariant in
    let tail : List ℕ = take c.loop.n c.loop.buf in
    let size : length tail ≡ c.loop.n = length-take-le c.loop.n c.loop.buf (search rules) in
    let stop : IsAtEnd (g.R.Read.remaining c.loop.from) ⊎ (2 ^ 64 ≤ length (done ++ tail)) =
    elim c.loop-test.branch [
      | else-loop-test w ↦ inr (omega (arith, length-append done tail, whole, w.loop-test))
      | then-loop-test+then-n-lt4080 w ↦ inl (end w.if-n-lt4080.true)
    ] in
    let digest = digest-blocks c.loop.counter c.loop.n done tail _ _ _ _ whole size absorbed c.absorb-last.ensures c.finish.ensures c.digest.ensures in
    read_whole _ _ (done ++ tail) (λ (m : List ℕ). c.digest.result ≡ shake256 m 32) read stop digest
