use Rattle.sizes.proofs.count.signature_bits.Goals as goal

pub returns-in-Ok : goal.returns-in-Ok
returns-in-Ok c =
    let e = c.bits_with.ensures in
    record { value = rw c.in-Ok.is at e.value; bits_bound = rw c.in-Ok.is at e.bits_bound }

pub returns-in-Err : goal.returns-in-Err
returns-in-Err c =
    let e = c.bits_with.ensures in
    record { value = rw c.number.ensures (rw c.in-Err.is at e.value); bits_bound = rw c.in-Err.is at e.bits_bound }
