use mathlib.Core.Path.{ap, ◌∙◌}
use mathlib.Core.List.{List, ◌++◌}
use Prim.Native.Nat.{ℕ}
use lib.ListN.{length, replicate}
use Rattle.hash.specs.Shake.{shake256}
use Rattle.signature.specs.Digest.{key_hash, bound_to}
use Rattle.signature.proofs.Fronts.{digest-in, digest-is}
use Rattle.signature.proofs.verify.bind.Goals as goal

pub slice_bounds-hash_two-end : goal.slice_bounds-hash_two-end
slice_bounds-hash_two-end c = digest-in (length c.args.out.now) (replicate 64 0) c.shake256.new.out c.args.vk.now c.requires c.shake256.ensures

pub returns : goal.returns
unfolding bound_to key_hash
returns c = c.hash_two.ensures ∙ ap (λ (x : List ℕ). shake256 (x ++ c.args.msg.now) (length c.args.out.now)) (digest-is (length c.args.out.now) (replicate 64 0) c.shake256.new.out c.args.vk.now c.requires c.shake256.ensures)
