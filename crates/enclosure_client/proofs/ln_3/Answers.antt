-- `enclosure_client::ln_3` meets its contract. Assumes nothing.
use native.Mathlib.Omega.{arith}
use Rattle.span.specs.Enclosing.{divisor, whole_encloses}
use Rattle.enclosure.specs.Enclosing.{logarithm_encloses}
use Rattle.enclosure_client.proofs.ln_3.Goals as goal

pub ln-requires : goal.ln-requires
ln-requires c =
    let t = c.whole.ensures in
    record { normal = t.normal; far = divisor t.normal t.width (omega arith); most = omega (arith, t.most 2 (omega arith)) }

pub returns : goal.returns
returns c =
    let t = c.whole.ensures in
    let r = c.ln.ensures in
    let w = r.width 2 t.width (omega arith) in
    record {
      encloses = λ n h. logarithm_encloses r h (whole_encloses t n);
      narrow = record { narrow = omega (arith, w.narrow) };
    }
