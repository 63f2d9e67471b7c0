-- Slips that are signed (02, #101): whatever signing gives with 0 for the message of a slip, with a true digest, the slip that is written with it reads
-- with 0.
use mathlib.Core.Path.{◌≡◌, refl, ap, ◌∙◌}
use mathlib.Core.List.{List, []}
use Prim.Native.Nat.{ℕ, ◌^◌, ◌≤◌, ◌<◌}
use lib.ListN.{length}
use Rattle.hash.specs.Params.{lookup_of}
use Rattle.hash.specs.declared.params.Edition.{Edition}
use Rattle.hash.specs.declared.params.Params.{Params}
use Rattle.std.specs.Prelude.{Ok}
use Rattle.signature.specs.Keys.{public_of, DigestTrue}
use Rattle.signature.specs.Outcome.{Outcome, written}
use Rattle.signature.specs.Sign.{Coins}
use Rattle.signature.specs.SignCalls.{Key, sign_of, sign_call}
use Rattle.signature.specs.Verify.{verify_call}
use Rattle.slip.specs.Calls.{read_slip_call, write_slip_call}
use Rattle.slip.specs.Format.{Slip, slip_of, slip_message, slip_bytes}
use Rattle.slip.proofs.SlipCalls.{fits-written, accepted-fits, accepted-reads}
use Rattle.theorems.proofs.AcceptCall.{known-accepted}

module _ (set d : ℕ) (p : Params) (is : lookup_of set d Edition.Printed ≡ Ok p)
    (movement track : ℕ) (text : List ℕ) (hm : movement < 2 ^ 16) (ht : track < 2 ^ 8) (short : length text ≤ 512) where
  -- what is signed: no signature bears on it
  abbrev message : List ℕ
  message = slip_message (slip_of movement track text [])

  module _ (key : Key) (n : ℕ) (T : Coins) (out work : List ℕ) where
    abbrev signed : Outcome
    signed = sign_call Edition.Printed set d key n message T out work

    abbrev signed_slip : Slip
    signed_slip = slip_of movement track text signed.bytes

    signed-verified : DigestTrue p key → signed.status ≡ 0 → verify_call Edition.Printed set (public_of p key) message signed.bytes ≡ 0
    unfolding sign_call
    signed-verified t h =
        let A = sign_of Edition.Printed set d key n message T out work in
        ap (λ (k : ℕ). verify_call Edition.Printed set (public_of p key) message (written k A.bytes out)) h
        ∙ known-accepted Edition.Printed set d p is key n message T out work t h

    -- with a key of either form whose digest is true
    pub signed-slip : DigestTrue p key → signed.status ≡ 0 → (slip : List ℕ) → length slip ≡ length (slip_bytes signed_slip)
        → (write_slip_call signed_slip slip ≡ (0, slip_bytes signed_slip)) × ((read_slip_call (public_of p key) (slip_bytes signed_slip)).status ≡ 0)
    signed-slip t h slip e =
        let v = signed-verified t h in
        let vk = public_of p key in (
          fits-written signed_slip slip (accepted-fits set vk signed_slip v hm ht short) e,
          accepted-reads set vk signed_slip v hm ht short,
        )

  -- the digest of a signing key always is
  pub signed-slip-packed : (key : List ℕ) (n : ℕ) (T : Coins) (out work : List ℕ) → (signed (Key.packed key) n T out work).status ≡ 0
      → (slip : List ℕ) → length slip ≡ length (slip_bytes (signed_slip (Key.packed key) n T out work))
      → (write_slip_call (signed_slip (Key.packed key) n T out work) slip ≡ (0, slip_bytes (signed_slip (Key.packed key) n T out work)))
      × ((read_slip_call (public_of p (Key.packed key)) (slip_bytes (signed_slip (Key.packed key) n T out work))).status ≡ 0)
  signed-slip-packed key n T out work = signed-slip (Key.packed key) n T out work refl
