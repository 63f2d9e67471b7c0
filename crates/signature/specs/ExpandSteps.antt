-- Steps (what the code leaves on its way; no call's contract reaches these): expanding a key (01: opening; 000, Algorithm 15), share by share.
use Rattle.std.specs.Prelude.{List, ℕ, ◌+◌, ◌-◌, ◌*◌}
use Rattle.hash.specs.declared.params.Params.{Params}
use Rattle.ring.specs.UniformSteps.{poly_of}
use Rattle.sharing.specs.Blocks.{build}
use Rattle.signature.specs.Keys.{seed_bytes, share_at}

-- the bytes behind the public key: d - 1 seeds and one share
abbrev pub part_bytes : Params → ℕ
part_bytes p = (p.shares - 1) * seed_bytes p + p.l * 3136

-- share i of polynomial j, zero where it does not fill; all of them
abbrev pub expanded_at : Params → List ℕ → ℕ → ℕ → List ℕ
expanded_at p part j i = poly_of (share_at p part j i)

unfoldable pub expanded_shares : Params → List ℕ → List ℕ
expanded_shares p part = build p.l (λ (j : ℕ). build p.shares (expanded_at p part j))
