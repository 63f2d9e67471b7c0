-- The digest of a public key, and mu, which binds a message to it (000, Algorithm 2 line 2, Algorithm 3 line 3).
use Rattle.std.specs.Prelude.{List, ◌++◌, ℕ}
use Rattle.hash.specs.Shake.{shake256}
use Rattle.hash.specs.declared.params.Params.{Params}
use Rattle.signature.specs.Form.{hash_bytes}

-- H(vk); mu = H(digest || msg); each of n bytes
unfoldable pub key_hash : ℕ → List ℕ → List ℕ
key_hash n vk = shake256 vk n

unfoldable pub bound_to : ℕ → List ℕ → List ℕ → List ℕ
bound_to n digest msg = shake256 (digest ++ msg) n

-- both, of 2 kappa bits
abbrev pub digest_for : Params → List ℕ → List ℕ
digest_for p vk = key_hash (hash_bytes p) vk

abbrev pub mu_from : Params → List ℕ → List ℕ → List ℕ
mu_from p digest msg = bound_to (hash_bytes p) digest msg

-- mu of a public key: H(H(vk) || msg)
abbrev pub mu_of : Params → List ℕ → List ℕ → List ℕ
mu_of p vk msg = mu_from p (digest_for p vk) msg
