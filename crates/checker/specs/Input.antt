-- The checking program (01, "Questions put to a call"): a public key of 2256 bytes, a signature of 11524 bytes and a message, one behind the
-- other, for set 128. Where the input is short its parts are, and their lengths decide.
use Rattle.std.specs.Prelude.{List, ℕ, take, drop}
use Rattle.hash.specs.declared.params.Edition.{Edition}
use Rattle.signature.specs.Verify.{verify_call}

unfoldable pub checked_of : List ℕ → ℕ
checked_of s = verify_call Edition.Printed 128 (take 2256 s) (drop 13780 s) (take 11524 (drop 2256 s))
