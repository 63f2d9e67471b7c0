use Rattle.std.proofs.Common.{sym, subst}
use Rattle.hash.specs.Params.{ShareCount}
use Rattle.hash.specs.declared.params.Edition.{Edition}
use Rattle.hash.proofs.Rows.{found}
use Rattle.sharing_vectors.proofs.refreshed_with.Goals as goal

pub refreshed-requires : goal.refreshed-requires
refreshed-requires g c =
    let row = found 128 c.args.d Edition.Printed c.in-Ok.p (sym c.in-Ok.ensures) in
    subst ShareCount (sym row.shares-are) row.count
