-- SHAKE256 by buffers of 30 blocks, of what a reader gives.
use Rattle.std.proofs.Common.{◌≡◌, ℕ, ◌+◌, ◌*◌, ◌^◌, ◌<◌, ◌≤◌, ◌%◌, List, ◌++◌, length, Option, None, Some, IfSome, ◌⊎◌, inl, inr, sym, ap, subst, ◌∙◌, arith, append-nil, length-append}
use Rattle.std.specs.Io.KnownBytes.{Consumes, IsAtEnd}
use Rattle.hash.specs.Keccak.{State}
use Rattle.std.proofs.KnownBytes.{Consumes-trans}
use Rattle.hash.specs.Lists.{table}
use Rattle.hash.specs.Shake.{absorb_from, absorbed, finish, shake256, stream, zero_state}
use Rattle.hash.proofs.Lanes.{absorb-mod}
use Rattle.hash.proofs.Output.{finish-mod}
use Rattle.hash.proofs.Sponge.{absorb-append, finish-absorbed}

-- after whole blocks more bytes are absorbed as the first ones are
pub absorb-blocks : (i : ℕ) (done more : List ℕ) → length done ≡ 4080 * i → absorb_from (absorb_from zero_state 0 done) 0 more ≡ absorb_from zero_state 0 (done ++ more)
absorb-blocks i done more e =
    let same : 0 % 136 ≡ (0 + length done) % 136 = omega arith in
    absorb-mod more (absorb_from zero_state 0 done) 0 (0 + length done) same ∙ sym (absorb-append zero_state 0 done more)

-- .. and the message ends with them
pub finish-blocks : (i : ℕ) (done more : List ℕ) → length done ≡ 4080 * i → finish (absorb_from (absorb_from zero_state 0 done) 0 more) (length more) ≡ absorbed (done ++ more)
finish-blocks i done more e =
    let same : length more % 136 ≡ length (done ++ more) % 136 = omega (arith, length-append done more) in
    ap (λ (s : State). finish s (length more)) (absorb-blocks i done more e)
    ∙ finish-mod (absorb_from zero_state 0 (done ++ more)) (length more) (length (done ++ more)) same
    ∙ finish-absorbed (done ++ more)

-- the digest, by the steps to it
pub digest-blocks : (i n : ℕ) (done more digest : List ℕ) (before after end : State) → length done ≡ 4080 * i → length more ≡ n
    → before ≡ absorb_from zero_state 0 done → after ≡ absorb_from before 0 more → end ≡ finish after n → digest ≡ table (stream end) 32
    → digest ≡ shake256 (done ++ more) 32
digest-blocks i n done more digest before after end whole size e f g h =
    let absorbs = f ∙ ap (λ (s : State). absorb_from s 0 more) e in
    let finishes = g ∙ ap (λ (s : State). finish s n) absorbs ∙ ap (finish (absorb_from (absorb_from zero_state 0 done) 0 more)) (sym size) ∙ finish-blocks i done more whole in
    h ∙ ap (λ (s : State). table (stream s) 32) finishes

-- a full buffer and what is read after it
pub read_more : (a b c : Option (List ℕ)) (done front xs ys : List ℕ) → front ≡ xs → Consumes a b (done ++ front) → Consumes b c ys → Consumes a c ((done ++ xs) ++ ys)
read_more a b c done front xs ys full read more = Consumes-trans a b c (done ++ xs) ys (subst (λ (l : List ℕ). Consumes a b (done ++ l)) full read) more

-- what holds of the bytes that were read holds of all that the reader had, if it is at its end or had fewer
pub read_whole : (a b : Option (List ℕ)) (bs : List ℕ) (P : List ℕ → Type 0) → Consumes a b bs → IsAtEnd b ⊎ (2 ^ 64 ≤ length bs) → P bs → IfSome a (λ m. length m < 2 ^ 64 → P m)
read_whole None b bs P read end holds = tt
read_whole (Some x) None bs P read end holds = absurd read
read_whole (Some x) (Some y) bs P read (inl end) holds = λ short. subst P (sym (read ∙ ap (λ (l : List ℕ). bs ++ l) end ∙ append-nil bs)) holds
read_whole (Some x) (Some y) bs P read (inr long) holds = λ short. absurd (omega (arith, ap length read, length-append bs y))
