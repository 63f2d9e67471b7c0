use mathlib.Core.Path.{◌≡◌, ◌∙◌}
use Prim.Native.Nat.{ℕ}
use native.Mathlib.Nat.{div-one}
use Rattle.std.specs.Int.{w64, to_le_bytes}
use Rattle.std.proofs.lemmas.Slice.{overwrites}
use Rattle.hash.specs.Lists.{table}
use Rattle.hash.specs.Endian.{byte_of}
use borrow.Author.Rules.{rules}
use Rattle.hash.proofs.endian.put_word.Goals as goal

bytes_low-first : (x : ℕ) → to_le_bytes w64 x ≡ table (byte_of x) 8
unfolding table
bytes_low-first x = rw div-one

pub returns : goal.returns
returns c =
    let e : c.copy_from_slice.new.self ≡ table (byte_of c.args.x) 8 = c.copy_from_slice.ensures.after ∙ c.to_le_bytes.ensures ∙ bytes_low-first c.args.x in
    search (rules, overwrites)
