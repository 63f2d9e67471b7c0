use Rattle.std.proofs.Common.{rules, ◌≡◌, ◌<◌, ◌≤◌, ℕ, List, length, take, arith}
use Rattle.std.proofs.lemmas.List.{length-take-le}
use Rattle.checker.proofs.Cut.{status-read}
use Rattle.checker.proofs.check_all.Goals as goal

pub returns : goal.returns
returns g c =
    let read = c.in_ok-n.ensures in
    let n = c.in_ok-n.n in
    let bytes : List ℕ = take n c.read_full.new.buf in
    let most : n ≤ 17877 = search rules in
    let size : length bytes ≡ n = length-take-le n c.read_full.new.buf read.bound in
    status-read _ _ bytes _ read.bytes (omega (arith, size, most)) (λ short. let less : n < 17877 = omega (arith, size, short) in read.end (search rules)) c.check.ensures
