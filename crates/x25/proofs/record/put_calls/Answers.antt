use Prim.Native.Nat.{◌+◌, ◌-◌}
use mathlib.Core.Path.{◌≡◌}
use native.Mathlib.Omega.{arith}
use Rattle.cells.proofs.Rows.{then_row}
use Rattle.x25.specs.Packet.{fac_member, opt_sndcf}
use Rattle.x25.proofs.record.put_calls.Goals as goal

pub returns : goal.returns
returns c =
    let a = c.args in
    let x = a.x.now in
    let e : x.facat + x.faclen - x.facat ≡ x.faclen = omega arith in
    then_row 1 (fac_member a.b.now x) (opt_sndcf x.sndcf x.version) (rw e at c.put_facilities-listed.ensures) c.put_negotiated.ensures
