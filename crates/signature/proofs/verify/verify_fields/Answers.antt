use Rattle.std.specs.Result.{is_ok}
use Rattle.std.proofs.lemmas.Result.{err_from_is_err_and, IfErr-at_err}
use mathlib.Core.Path.{◌≡◌, refl, sym, ap, ◌∙◌}
use mathlib.Core.Bool.{Bool, true, false}
use mathlib.Core.List.{List}
use Prim.Native.Nat.{ℕ, ◌-◌, ◌*◌, ◌/◌, ◌≤◌}
use native.Mathlib.Omega.{arith}
use lib.IntN.{ℤ, pos}
use lib.ListN.{length, take, drop, replicate}
use lib.Seq.{length-take-le}
use borrow.Author.Tests.{not-true, not-false}
use borrow.Rule.Slice.PartMut.{mid_of, put_mid, mid_len}
use Rattle.hash.specs.Lists.{pick}
use Rattle.signature.specs.AnswerSteps.{fields_of}
use Rattle.signature.specs.Bits.{bit_string}
use Rattle.signature.specs.Bounds.{check_bounds}
use Rattle.signature.specs.Checks.{first_no}
use Rattle.ring.specs.Words.{q}
use Rattle.signature.specs.Verify.{hash_checks}
use Rattle.signature.specs.VerifySteps.{field_checks, form_checks}
use Rattle.signature.proofs.Norms.{bounds-small}
use Rattle.signature.proofs.Decision.{decided-passed}
use Rattle.signature.proofs.Fronts.{front-in, front-is}
use Rattle.signature.proofs.Proper.{Bytes-low, status-14, status-read, sizes-read, read-yes, read_no, bounded-part, hash-same}
use Rattle.signature.proofs.Reading.{ZeroFilled}
use Rattle.signature.proofs.verify.verify_fields.Goals as goal

pub returns-in_err-read : goal.returns-in_err-read
returns-in_err-read c =
    -- what the table says of the lengths
    let fits : c.args.row.p.kappa / 4 ≤ length c.args.sig.now = omega (arith, c.args.row.tabled.hash-fits, c.requires.2) in
    let hint-fits : c.args.row.p.k * 512 ≤ 4608 = omega (arith, c.args.row.tabled.rows-low) in
    let z-fits : c.args.row.p.l * 512 ≤ 3584 = omega (arith, c.args.row.tabled.columns-low) in
    let hint-room : length (mid_of 0 (c.args.row.p.k * 512 - 0) (replicate {A = ℤ} 4608 (pos 0))) ≡ c.args.row.p.k * 512 = let o : c.args.row.p.k * 512 - 0 ≡ c.args.row.p.k * 512 = omega arith in mid_len 0 (c.args.row.p.k * 512) (replicate 4608 (pos 0)) hint-fits ∙ o in
    let z-room : length (mid_of 0 (c.args.row.p.l * 512 - 0) (replicate {A = ℤ} 3584 (pos 0))) ≡ c.args.row.p.l * 512 = let o : c.args.row.p.l * 512 - 0 ≡ c.args.row.p.l * 512 = omega arith in mid_len 0 (c.args.row.p.l * 512) (replicate 3584 (pos 0)) z-fits ∙ o in
    let b = c.args in
    let p = b.row.p in
    let r = err_from_is_err_and c.from_residual.result c.from_residual.ensures.1 in
    rw (r.1, r.2, IfErr-at_err _ c.in_err-read.was c.read.ensures.refused)
    (sym (status-14 p b.vk.now b.msg.now b.sig.now (Bytes-low b.sig.now (λ (j : ℕ). (c.type_inv.sig j).fits)) c.requires.2 fits
    (read_no (drop (8 * (p.kappa / 4)) (bit_string 8 b.sig.now)) (p.k * 512) (p.l * 512) _ _ _ _ _ hint-room z-room c.read.ensures.value (ap is_ok c.in_err-read.was))))

pub slice_bounds-check_bounds-end : goal.slice_bounds-check_bounds-end
slice_bounds-check_bounds-end c =
    -- what the table says of the lengths
    let fits : c.args.row.p.kappa / 4 ≤ length c.args.sig.now = omega (arith, c.args.row.tabled.hash-fits, c.requires.2) in
    let hint-fits : c.args.row.p.k * 512 ≤ 4608 = omega (arith, c.args.row.tabled.rows-low) in
    let z-fits : c.args.row.p.l * 512 ≤ 3584 = omega (arith, c.args.row.tabled.columns-low) in
    let hint-room : length (mid_of 0 (c.args.row.p.k * 512 - 0) (replicate {A = ℤ} 4608 (pos 0))) ≡ c.args.row.p.k * 512 = let o : c.args.row.p.k * 512 - 0 ≡ c.args.row.p.k * 512 = omega arith in mid_len 0 (c.args.row.p.k * 512) (replicate 4608 (pos 0)) hint-fits ∙ o in
    let z-room : length (mid_of 0 (c.args.row.p.l * 512 - 0) (replicate {A = ℤ} 3584 (pos 0))) ≡ c.args.row.p.l * 512 = let o : c.args.row.p.l * 512 - 0 ≡ c.args.row.p.l * 512 = omega arith in mid_len 0 (c.args.row.p.l * 512) (replicate 3584 (pos 0)) z-fits ∙ o in
    -- what was read, and its lengths
    let got : ZeroFilled (c.args.row.p.k * 512) (c.args.row.p.l * 512) (drop (8 * (c.args.row.p.kappa / 4)) (bit_string 8 c.args.sig.now)) c.read.new.hint c.read.new.response
    × (length c.read.new.hint ≡ c.args.row.p.k * 512) × (length c.read.new.response ≡ c.args.row.p.l * 512) = let b = c.args in
    let p = b.row.p in
    let e = read-yes (drop (8 * (p.kappa / 4)) (bit_string 8 b.sig.now)) (p.k * 512) (p.l * 512) _ _ _ c.read.new.hint c.read.new.response hint-room z-room c.read.ensures.value (ap is_ok c.in_ok-read.was) in
    let s = sizes-read p b.vk.now b.msg.now b.sig.now (Bytes-low b.sig.now (λ (j : ℕ). (c.type_inv.sig j).fits)) c.requires.2 fits c.read.new.hint c.read.new.response e in
    (e, s.0, s.1) in
    let g = got in front-in (c.args.row.p.k * 512) (replicate 4608 (pos 0)) c.read.new.hint hint-fits g.1

pub slice_bounds-check_bounds-end-2 : goal.slice_bounds-check_bounds-end-2
slice_bounds-check_bounds-end-2 c =
    -- what the table says of the lengths
    let fits : c.args.row.p.kappa / 4 ≤ length c.args.sig.now = omega (arith, c.args.row.tabled.hash-fits, c.requires.2) in
    let hint-fits : c.args.row.p.k * 512 ≤ 4608 = omega (arith, c.args.row.tabled.rows-low) in
    let z-fits : c.args.row.p.l * 512 ≤ 3584 = omega (arith, c.args.row.tabled.columns-low) in
    let hint-room : length (mid_of 0 (c.args.row.p.k * 512 - 0) (replicate {A = ℤ} 4608 (pos 0))) ≡ c.args.row.p.k * 512 = let o : c.args.row.p.k * 512 - 0 ≡ c.args.row.p.k * 512 = omega arith in mid_len 0 (c.args.row.p.k * 512) (replicate 4608 (pos 0)) hint-fits ∙ o in
    let z-room : length (mid_of 0 (c.args.row.p.l * 512 - 0) (replicate {A = ℤ} 3584 (pos 0))) ≡ c.args.row.p.l * 512 = let o : c.args.row.p.l * 512 - 0 ≡ c.args.row.p.l * 512 = omega arith in mid_len 0 (c.args.row.p.l * 512) (replicate 3584 (pos 0)) z-fits ∙ o in
    -- what was read, and its lengths
    let got : ZeroFilled (c.args.row.p.k * 512) (c.args.row.p.l * 512) (drop (8 * (c.args.row.p.kappa / 4)) (bit_string 8 c.args.sig.now)) c.read.new.hint c.read.new.response
    × (length c.read.new.hint ≡ c.args.row.p.k * 512) × (length c.read.new.response ≡ c.args.row.p.l * 512) = let b = c.args in
    let p = b.row.p in
    let e = read-yes (drop (8 * (p.kappa / 4)) (bit_string 8 b.sig.now)) (p.k * 512) (p.l * 512) _ _ _ c.read.new.hint c.read.new.response hint-room z-room c.read.ensures.value (ap is_ok c.in_ok-read.was) in
    let s = sizes-read p b.vk.now b.msg.now b.sig.now (Bytes-low b.sig.now (λ (j : ℕ). (c.type_inv.sig j).fits)) c.requires.2 fits c.read.new.hint c.read.new.response e in
    (e, s.0, s.1) in
    let g = got in front-in (c.args.row.p.l * 512) (replicate 3584 (pos 0)) c.read.new.response z-fits g.2

pub returns-then-not-bounds : goal.returns-then-not-bounds
returns-then-not-bounds c =
    -- what the table says of the lengths
    let fits : c.args.row.p.kappa / 4 ≤ length c.args.sig.now = omega (arith, c.args.row.tabled.hash-fits, c.requires.2) in
    let hint-fits : c.args.row.p.k * 512 ≤ 4608 = omega (arith, c.args.row.tabled.rows-low) in
    let z-fits : c.args.row.p.l * 512 ≤ 3584 = omega (arith, c.args.row.tabled.columns-low) in
    let hint-room : length (mid_of 0 (c.args.row.p.k * 512 - 0) (replicate {A = ℤ} 4608 (pos 0))) ≡ c.args.row.p.k * 512 = let o : c.args.row.p.k * 512 - 0 ≡ c.args.row.p.k * 512 = omega arith in mid_len 0 (c.args.row.p.k * 512) (replicate 4608 (pos 0)) hint-fits ∙ o in
    let z-room : length (mid_of 0 (c.args.row.p.l * 512 - 0) (replicate {A = ℤ} 3584 (pos 0))) ≡ c.args.row.p.l * 512 = let o : c.args.row.p.l * 512 - 0 ≡ c.args.row.p.l * 512 = omega arith in mid_len 0 (c.args.row.p.l * 512) (replicate 3584 (pos 0)) z-fits ∙ o in
    -- what was read, and its lengths
    let got : ZeroFilled (c.args.row.p.k * 512) (c.args.row.p.l * 512) (drop (8 * (c.args.row.p.kappa / 4)) (bit_string 8 c.args.sig.now)) c.read.new.hint c.read.new.response
    × (length c.read.new.hint ≡ c.args.row.p.k * 512) × (length c.read.new.response ≡ c.args.row.p.l * 512) = let b = c.args in
    let p = b.row.p in
    let e = read-yes (drop (8 * (p.kappa / 4)) (bit_string 8 b.sig.now)) (p.k * 512) (p.l * 512) _ _ _ c.read.new.hint c.read.new.response hint-room z-room c.read.ensures.value (ap is_ok c.in_ok-read.was) in
    let s = sizes-read p b.vk.now b.msg.now b.sig.now (Bytes-low b.sig.now (λ (j : ℕ). (c.type_inv.sig j).fits)) c.requires.2 fits c.read.new.hint c.read.new.response e in
    (e, s.0, s.1) in
    let read-status : ◌≡◌ {A = ℕ} (first_no (form_checks c.args.row.p c.args.vk.now c.args.msg.now c.args.sig.now))
    (first_no (field_checks c.args.row.p c.args.vk.now c.args.msg.now (fields_of (take (c.args.row.p.kappa / 4) c.args.sig.now) c.read.new.hint c.read.new.response))) =
    let b = c.args in
    status-read b.row.p b.vk.now b.msg.now b.sig.now (Bytes-low b.sig.now (λ (j : ℕ). (c.type_inv.sig j).fits)) c.requires.2 fits c.read.new.hint c.read.new.response got.0 in
    -- the parts that are lent on are what was read
    let hint-is : take (c.args.row.p.k * 512 - 0) (put_mid 0 (c.args.row.p.k * 512 - 0) (replicate {A = ℤ} 4608 (pos 0)) c.read.new.hint) ≡ c.read.new.hint = front-is (c.args.row.p.k * 512) (replicate 4608 (pos 0)) c.read.new.hint hint-fits got.1 in
    let z-is : take (c.args.row.p.l * 512 - 0) (put_mid 0 (c.args.row.p.l * 512 - 0) (replicate {A = ℤ} 3584 (pos 0)) c.read.new.response) ≡ c.read.new.response = front-is (c.args.row.p.l * 512) (replicate 3584 (pos 0)) c.read.new.response z-fits got.2 in
    -- the answer is that of Algorithm 4 on the fields that were read
    let bounds-are :
    let r = c.read.new in
    c.check_bounds-bounds.result.passed ≡ check_bounds c.args.row.p (fields_of (take (c.args.row.p.kappa / 4) c.args.sig.now) r.hint r.response) = let p = c.args.row.p in
    decided-passed p.hint_limit p.binf p.b22 c.check_bounds-bounds.result c.check_bounds-bounds.ensures hint-is z-is in
    let b = c.args in
    let p = b.row.p in
    let e : check_bounds p (fields_of (take (p.kappa / 4) b.sig.now) c.read.new.hint c.read.new.response) ≡ false =
    sym bounds-are ∙ not-true _ c.if-not-bounds.true in
    sym (read-status ∙ ap (λ (t : Bool). pick t (first_no (hash_checks p b.vk.now b.msg.now (fields_of (take (p.kappa / 4) b.sig.now) c.read.new.hint c.read.new.response))) 15) e)

pub slice_bounds-verify_hash-end-2 : goal.slice_bounds-verify_hash-end-2
slice_bounds-verify_hash-end-2 c =
    -- what the table says of the lengths
    let fits : c.args.row.p.kappa / 4 ≤ length c.args.sig.now = omega (arith, c.args.row.tabled.hash-fits, c.requires.2) in
    let hint-fits : c.args.row.p.k * 512 ≤ 4608 = omega (arith, c.args.row.tabled.rows-low) in
    let z-fits : c.args.row.p.l * 512 ≤ 3584 = omega (arith, c.args.row.tabled.columns-low) in
    let hint-room : length (mid_of 0 (c.args.row.p.k * 512 - 0) (replicate {A = ℤ} 4608 (pos 0))) ≡ c.args.row.p.k * 512 = let o : c.args.row.p.k * 512 - 0 ≡ c.args.row.p.k * 512 = omega arith in mid_len 0 (c.args.row.p.k * 512) (replicate 4608 (pos 0)) hint-fits ∙ o in
    let z-room : length (mid_of 0 (c.args.row.p.l * 512 - 0) (replicate {A = ℤ} 3584 (pos 0))) ≡ c.args.row.p.l * 512 = let o : c.args.row.p.l * 512 - 0 ≡ c.args.row.p.l * 512 = omega arith in mid_len 0 (c.args.row.p.l * 512) (replicate 3584 (pos 0)) z-fits ∙ o in
    -- what was read, and its lengths
    let got : ZeroFilled (c.args.row.p.k * 512) (c.args.row.p.l * 512) (drop (8 * (c.args.row.p.kappa / 4)) (bit_string 8 c.args.sig.now)) c.read.new.hint c.read.new.response
    × (length c.read.new.hint ≡ c.args.row.p.k * 512) × (length c.read.new.response ≡ c.args.row.p.l * 512) = let b = c.args in
    let p = b.row.p in
    let e = read-yes (drop (8 * (p.kappa / 4)) (bit_string 8 b.sig.now)) (p.k * 512) (p.l * 512) _ _ _ c.read.new.hint c.read.new.response hint-room z-room c.read.ensures.value (ap is_ok c.in_ok-read.was) in
    let s = sizes-read p b.vk.now b.msg.now b.sig.now (Bytes-low b.sig.now (λ (j : ℕ). (c.type_inv.sig j).fits)) c.requires.2 fits c.read.new.hint c.read.new.response e in
    (e, s.0, s.1) in
    let g = got in front-in (c.args.row.p.k * 512) (replicate 4608 (pos 0)) c.read.new.hint hint-fits g.1

pub slice_bounds-verify_hash-end-3 : goal.slice_bounds-verify_hash-end-3
slice_bounds-verify_hash-end-3 c =
    -- what the table says of the lengths
    let fits : c.args.row.p.kappa / 4 ≤ length c.args.sig.now = omega (arith, c.args.row.tabled.hash-fits, c.requires.2) in
    let hint-fits : c.args.row.p.k * 512 ≤ 4608 = omega (arith, c.args.row.tabled.rows-low) in
    let z-fits : c.args.row.p.l * 512 ≤ 3584 = omega (arith, c.args.row.tabled.columns-low) in
    let hint-room : length (mid_of 0 (c.args.row.p.k * 512 - 0) (replicate {A = ℤ} 4608 (pos 0))) ≡ c.args.row.p.k * 512 = let o : c.args.row.p.k * 512 - 0 ≡ c.args.row.p.k * 512 = omega arith in mid_len 0 (c.args.row.p.k * 512) (replicate 4608 (pos 0)) hint-fits ∙ o in
    let z-room : length (mid_of 0 (c.args.row.p.l * 512 - 0) (replicate {A = ℤ} 3584 (pos 0))) ≡ c.args.row.p.l * 512 = let o : c.args.row.p.l * 512 - 0 ≡ c.args.row.p.l * 512 = omega arith in mid_len 0 (c.args.row.p.l * 512) (replicate 3584 (pos 0)) z-fits ∙ o in
    -- what was read, and its lengths
    let got : ZeroFilled (c.args.row.p.k * 512) (c.args.row.p.l * 512) (drop (8 * (c.args.row.p.kappa / 4)) (bit_string 8 c.args.sig.now)) c.read.new.hint c.read.new.response
    × (length c.read.new.hint ≡ c.args.row.p.k * 512) × (length c.read.new.response ≡ c.args.row.p.l * 512) = let b = c.args in
    let p = b.row.p in
    let e = read-yes (drop (8 * (p.kappa / 4)) (bit_string 8 b.sig.now)) (p.k * 512) (p.l * 512) _ _ _ c.read.new.hint c.read.new.response hint-room z-room c.read.ensures.value (ap is_ok c.in_ok-read.was) in
    let s = sizes-read p b.vk.now b.msg.now b.sig.now (Bytes-low b.sig.now (λ (j : ℕ). (c.type_inv.sig j).fits)) c.requires.2 fits c.read.new.hint c.read.new.response e in
    (e, s.0, s.1) in
    let g = got in front-in (c.args.row.p.l * 512) (replicate 3584 (pos 0)) c.read.new.response z-fits g.2

pub verify_hash-requires : goal.verify_hash-requires
verify_hash-requires c =
    -- what the table says of the lengths
    let fits : c.args.row.p.kappa / 4 ≤ length c.args.sig.now = omega (arith, c.args.row.tabled.hash-fits, c.requires.2) in
    let hint-fits : c.args.row.p.k * 512 ≤ 4608 = omega (arith, c.args.row.tabled.rows-low) in
    let z-fits : c.args.row.p.l * 512 ≤ 3584 = omega (arith, c.args.row.tabled.columns-low) in
    let hint-room : length (mid_of 0 (c.args.row.p.k * 512 - 0) (replicate {A = ℤ} 4608 (pos 0))) ≡ c.args.row.p.k * 512 = let o : c.args.row.p.k * 512 - 0 ≡ c.args.row.p.k * 512 = omega arith in mid_len 0 (c.args.row.p.k * 512) (replicate 4608 (pos 0)) hint-fits ∙ o in
    let z-room : length (mid_of 0 (c.args.row.p.l * 512 - 0) (replicate {A = ℤ} 3584 (pos 0))) ≡ c.args.row.p.l * 512 = let o : c.args.row.p.l * 512 - 0 ≡ c.args.row.p.l * 512 = omega arith in mid_len 0 (c.args.row.p.l * 512) (replicate 3584 (pos 0)) z-fits ∙ o in
    -- what was read, and its lengths
    let got : ZeroFilled (c.args.row.p.k * 512) (c.args.row.p.l * 512) (drop (8 * (c.args.row.p.kappa / 4)) (bit_string 8 c.args.sig.now)) c.read.new.hint c.read.new.response
    × (length c.read.new.hint ≡ c.args.row.p.k * 512) × (length c.read.new.response ≡ c.args.row.p.l * 512) = let b = c.args in
    let p = b.row.p in
    let e = read-yes (drop (8 * (p.kappa / 4)) (bit_string 8 b.sig.now)) (p.k * 512) (p.l * 512) _ _ _ c.read.new.hint c.read.new.response hint-room z-room c.read.ensures.value (ap is_ok c.in_ok-read.was) in
    let s = sizes-read p b.vk.now b.msg.now b.sig.now (Bytes-low b.sig.now (λ (j : ℕ). (c.type_inv.sig j).fits)) c.requires.2 fits c.read.new.hint c.read.new.response e in
    (e, s.0, s.1) in
    -- the parts that are lent on are what was read
    let hint-is : take (c.args.row.p.k * 512 - 0) (put_mid 0 (c.args.row.p.k * 512 - 0) (replicate {A = ℤ} 4608 (pos 0)) c.read.new.hint) ≡ c.read.new.hint = front-is (c.args.row.p.k * 512) (replicate 4608 (pos 0)) c.read.new.hint hint-fits got.1 in
    let z-is : take (c.args.row.p.l * 512 - 0) (put_mid 0 (c.args.row.p.l * 512 - 0) (replicate {A = ℤ} 3584 (pos 0)) c.read.new.response) ≡ c.read.new.response = front-is (c.args.row.p.l * 512) (replicate 3584 (pos 0)) c.read.new.response z-fits got.2 in
    let T = c.args.row.tabled in
    let g = got in
    let h = hint-is in
    let z = z-is in
    let o : c.args.row.p.kappa / 4 - 0 ≡ c.args.row.p.kappa / 4 = omega arith in
    let s = bounds-small c.args.row.p.hint_limit c.args.row.p.binf c.args.row.p.b22 _ _ (sym (decided-passed c.args.row.p.hint_limit c.args.row.p.binf c.args.row.p.b22 c.check_bounds-bounds.result c.check_bounds-bounds.ensures refl refl) ∙ not-false _ c.if-not-bounds.false) in record { vk_len = (c.requires.0, c.requires.1, length-take-le (c.args.row.p.kappa / 4 - 0) c.args.sig.now (omega (arith, o, fits)) ∙ o); hint_len = (ap (λ (l : List ℤ). length l) h ∙ g.1, ap (λ (l : List ℤ). length l) z ∙ g.2); by_index = bounded-part 31 c.args.row.p.hint_limit h (omega (arith, T.hint-low)) s.0; by_index_2 = bounded-part q c.args.row.p.binf z (omega (arith, T.binf-low)) s.1 }

pub returns : goal.returns
returns c =
    -- what the table says of the lengths
    let fits : c.args.row.p.kappa / 4 ≤ length c.args.sig.now = omega (arith, c.args.row.tabled.hash-fits, c.requires.2) in
    let hint-fits : c.args.row.p.k * 512 ≤ 4608 = omega (arith, c.args.row.tabled.rows-low) in
    let z-fits : c.args.row.p.l * 512 ≤ 3584 = omega (arith, c.args.row.tabled.columns-low) in
    let hint-room : length (mid_of 0 (c.args.row.p.k * 512 - 0) (replicate {A = ℤ} 4608 (pos 0))) ≡ c.args.row.p.k * 512 = let o : c.args.row.p.k * 512 - 0 ≡ c.args.row.p.k * 512 = omega arith in mid_len 0 (c.args.row.p.k * 512) (replicate 4608 (pos 0)) hint-fits ∙ o in
    let z-room : length (mid_of 0 (c.args.row.p.l * 512 - 0) (replicate {A = ℤ} 3584 (pos 0))) ≡ c.args.row.p.l * 512 = let o : c.args.row.p.l * 512 - 0 ≡ c.args.row.p.l * 512 = omega arith in mid_len 0 (c.args.row.p.l * 512) (replicate 3584 (pos 0)) z-fits ∙ o in
    -- what was read, and its lengths
    let got : ZeroFilled (c.args.row.p.k * 512) (c.args.row.p.l * 512) (drop (8 * (c.args.row.p.kappa / 4)) (bit_string 8 c.args.sig.now)) c.read.new.hint c.read.new.response
    × (length c.read.new.hint ≡ c.args.row.p.k * 512) × (length c.read.new.response ≡ c.args.row.p.l * 512) = let b = c.args in
    let p = b.row.p in
    let e = read-yes (drop (8 * (p.kappa / 4)) (bit_string 8 b.sig.now)) (p.k * 512) (p.l * 512) _ _ _ c.read.new.hint c.read.new.response hint-room z-room c.read.ensures.value (ap is_ok c.in_ok-read.was) in
    let s = sizes-read p b.vk.now b.msg.now b.sig.now (Bytes-low b.sig.now (λ (j : ℕ). (c.type_inv.sig j).fits)) c.requires.2 fits c.read.new.hint c.read.new.response e in
    (e, s.0, s.1) in
    let read-status : ◌≡◌ {A = ℕ} (first_no (form_checks c.args.row.p c.args.vk.now c.args.msg.now c.args.sig.now))
    (first_no (field_checks c.args.row.p c.args.vk.now c.args.msg.now (fields_of (take (c.args.row.p.kappa / 4) c.args.sig.now) c.read.new.hint c.read.new.response))) =
    let b = c.args in
    status-read b.row.p b.vk.now b.msg.now b.sig.now (Bytes-low b.sig.now (λ (j : ℕ). (c.type_inv.sig j).fits)) c.requires.2 fits c.read.new.hint c.read.new.response got.0 in
    -- the parts that are lent on are what was read
    let hint-is : take (c.args.row.p.k * 512 - 0) (put_mid 0 (c.args.row.p.k * 512 - 0) (replicate {A = ℤ} 4608 (pos 0)) c.read.new.hint) ≡ c.read.new.hint = front-is (c.args.row.p.k * 512) (replicate 4608 (pos 0)) c.read.new.hint hint-fits got.1 in
    let z-is : take (c.args.row.p.l * 512 - 0) (put_mid 0 (c.args.row.p.l * 512 - 0) (replicate {A = ℤ} 3584 (pos 0)) c.read.new.response) ≡ c.read.new.response = front-is (c.args.row.p.l * 512) (replicate 3584 (pos 0)) c.read.new.response z-fits got.2 in
    -- the answer is that of Algorithm 4 on the fields that were read
    let bounds-are :
    let r = c.read.new in
    c.check_bounds-bounds.result.passed ≡ check_bounds c.args.row.p (fields_of (take (c.args.row.p.kappa / 4) c.args.sig.now) r.hint r.response) = let p = c.args.row.p in
    decided-passed p.hint_limit p.binf p.b22 c.check_bounds-bounds.result c.check_bounds-bounds.ensures hint-is z-is in
    let b = c.args in
    let p = b.row.p in
    let o : p.kappa / 4 - 0 ≡ p.kappa / 4 = omega arith in
    let H = c.read.new.hint in
    let Z = c.read.new.response in
    let f = fields_of (take (p.kappa / 4) b.sig.now) H Z in
    let e : check_bounds p f ≡ true =
    sym bounds-are ∙ not-false _ c.if-not-bounds.false in
    c.verify_hash.ensures ∙ hash-same p b.vk.now b.msg.now (ap (λ (n : ℕ). take n b.sig.now) o) hint-is z-is
    ∙ sym (read-status ∙ ap (λ (t : Bool). pick t (first_no (hash_checks p b.vk.now b.msg.now f)) 15) e)
