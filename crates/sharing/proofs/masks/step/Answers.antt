use mathlib.Core.Path.{◌≡◌, ap, ◌∙◌}
use Prim.Native.Nat.{ℕ, ◌+◌, ◌-◌, ◌*◌, ◌/◌, ◌%◌, ◌^◌, ◌<◌, ◌≤◌}
use native.Mathlib.Omega.{arith}
use lib.ListN.{get_or}
use Rattle.hash.specs.Keccak.{State, lane, keccak_f}
use Rattle.sharing.specs.declared.masks.Neighbours.{Neighbours}
use Rattle.sharing.specs.Masks.{state_of, place_in, held_at, mask_moved}
use Rattle.sharing.proofs.Held.{draw-within, draw-over, stays, goes_on}
use Rattle.sharing.proofs.masks.step.Goals as goal

pub returns-then-place-lt129 : goal.returns-then-place-lt129
returns-then-place-lt129 c =
    let g = c.args.g in
    let o = c.well_formed.0.1.1.0 in
    let t : g.at < 129 = c.if-place-lt129.true in
    let e : g.at ≡ place_in g = omega arith in
    let h : place_in g < 129 = omega arith in
    let n = c.lanes_from-n.ensures ∙ ap (λ (k : ℕ). record { low = get_or g.lanes (k / 8) 0; high = get_or g.lanes (k / 8 + 1) 0 }) e in
    let w = c.draw_bits-word.ensures
    ∙ ap (λ (z : Neighbours). (z.low + z.high * 2 ^ 64) / 2 ^ (8 * (g.at % 8)) % 2 ^ 49) n
    ∙ ap (λ (k : ℕ). (get_or g.lanes (place_in g / 8) 0 + get_or g.lanes (place_in g / 8 + 1) 0 * 2 ^ 64) / 2 ^ (8 * (k % 8)) % 2 ^ 49) e
    ∙ draw-within g _ o h in
    let z : record { lanes = g.lanes; at = g.at + 7; ok = g.ok } ≡ mask_moved 1 g = (λ i. record { lanes = g.lanes; at = e i + 7; ok = g.ok }) ∙ stays g _ o h in
    λ i. record { word = w i; next = z i }

pub returns : goal.returns
returns c =
    let g = c.args.g in
    let o = c.well_formed.0.1.1.0 in
    let e = c.min-at.ensures in
    let t : 129 ≤ g.at = c.if-place-lt129.false in
    let h : 129 ≤ place_in g = omega arith in
    let S = c.permute-s.ensures ∙ ap keccak_f c.planes.ensures in
    let w = c.draw_bits-word-2.ensures
    ∙ ap (λ (A : State). (get_or g.lanes 16 0 + lane A 0 0 * 2 ^ 64) / 2 ^ (8 * (c.min-at.result % 8)) % 2 ^ 49) S
    ∙ ap (λ (k : ℕ). (get_or g.lanes 16 0 + lane (keccak_f (state_of g)) 0 0 * 2 ^ 64) / 2 ^ (8 * (k % 8)) % 2 ^ 49) e
    ∙ draw-over g _ o h in
    let z = c.hold.ensures
    ∙ ap (λ (A : State). held_at A (c.min-at.result - 129) g.ok) S
    ∙ ap (λ (k : ℕ). held_at (keccak_f (state_of g)) (k - 129) g.ok) e
    ∙ goes_on g h in
    λ i. record { word = w i; next = z i }
