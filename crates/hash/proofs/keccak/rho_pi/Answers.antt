use mathlib.Core.Path.{refl, ◌∙◌}
use Rattle.hash.specs.Keccak.{lane}
use Rattle.hash.specs.Moves.{Moving}
use Rattle.hash.proofs.Shape.{by-lanes}
use Rattle.hash.proofs.Moves.{none-moved, all_moved}
use Rattle.hash.proofs.keccak.rho_pi.Goals as goal

pub returns : goal.returns
returns c =
    let a = c.args.a in
    let m0 : Moving a 0 1 0 a (lane a 1 0) = (none-moved a (by-lanes a c.well_formed.0.0 c.well_formed.0.1.1 c.well_formed.0.1.0.1), refl) in
    let m1 = c.move_lane-s.ensures.moving a 0 refl m0 in
    let m2 = c.move_lane-s-2.ensures.moving a 1 refl m1 in
    let m3 = c.move_lane-s-3.ensures.moving a 2 refl m2 in
    let m4 = c.move_lane-s-4.ensures.moving a 3 refl m3 in
    let m5 = c.move_lane-s-5.ensures.moving a 4 refl m4 in
    let m6 = c.move_lane-s-6.ensures.moving a 5 refl m5 in
    let m7 = c.move_lane-s-7.ensures.moving a 6 refl m6 in
    let m8 = c.move_lane-s-8.ensures.moving a 7 refl m7 in
    let m9 = c.move_lane-s-9.ensures.moving a 8 refl m8 in
    let m10 = c.move_lane-s-10.ensures.moving a 9 refl m9 in
    let m11 = c.move_lane-s-11.ensures.moving a 10 refl m10 in
    let m12 = c.move_lane-s-12.ensures.moving a 11 refl m11 in
    let m13 = c.move_lane-s-13.ensures.moving a 12 refl m12 in
    let m14 = c.move_lane-s-14.ensures.moving a 13 refl m13 in
    let m15 = c.move_lane-s-15.ensures.moving a 14 refl m14 in
    let m16 = c.move_lane-s-16.ensures.moving a 15 refl m15 in
    let m17 = c.move_lane-s-17.ensures.moving a 16 refl m16 in
    let m18 = c.move_lane-s-18.ensures.moving a 17 refl m17 in
    let m19 = c.move_lane-s-19.ensures.moving a 18 refl m18 in
    let m20 = c.move_lane-s-20.ensures.moving a 19 refl m19 in
    let m21 = c.move_lane-s-21.ensures.moving a 20 refl m20 in
    let m22 = c.move_lane-s-22.ensures.moving a 21 refl m21 in
    let m23 = c.move_lane-s-23.ensures.moving a 22 refl m22 in
    let m24 = c.move_lane-s-24.ensures.moving a 23 refl m23 in
    m24.0 ∙ all_moved a
