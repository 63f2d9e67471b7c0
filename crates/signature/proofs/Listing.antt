-- Every record of the parameter table has what `Tabled` says.
use mathlib.Core.Path.{◌≡◌, sym, subst}
use Prim.Native.Nat.{ℕ}
use native.Mathlib.Omega.{arith}
use Rattle.hash.specs.Params.{ShareCount, lookup_of}
use Rattle.hash.specs.declared.params.Edition.{Edition}
use Rattle.hash.specs.declared.params.Params.{Params}
use Rattle.std.specs.Prelude.{Ok}
use Rattle.hash.proofs.Rows.{found, count_low}
use Rattle.signature.specs.Table.{Tabled}

pub tabled : (set d : ℕ) (e : Edition) (p : Params) → lookup_of set d e ≡ Ok p → Tabled p
tabled set d e p h =
    let r = found set d e p h in
    let t = r.rule in
    let c = count_low d r.count in
    let b = t.hint in
    record {
      vk = t.vk;
      sk = t.sk;
      hash-fits = t.hash-fits;
      sig-low = t.sig-low;
      count = subst ShareCount (sym r.shares-are) r.count;
      shares-pos = omega (arith, r.shares-are, c.0);
      shares-low = omega (arith, r.shares-are, c.1);
      rows-low = t.rows-low;
      columns-low = t.columns-low;
      columns-rows = t.columns-rows;
      omega-low = t.weight-low;
      kappa-low = t.kappa-low;
      seed-low = omega (arith, t.kappa-low);
      hash-low = omega (arith, t.kappa-low);
      rep-low = t.rep-low;
      ut-pos = t.ut-pos;
      ut-low = t.ut-low;
      uw-pos = t.uw-pos;
      uw-low = t.uw-low;
      hint-low = t.hint-low;
      binf-low = omega (arith, b, t.hint-low);
    }
