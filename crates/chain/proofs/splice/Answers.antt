use Prim.Native.Nat.{◌+◌, ◌-◌, ◌≤◌}
use native.Mathlib.Omega.{arith}
use lib.ListN.{length}
use Rattle.chain.proofs.Home.{homed-chain}
use Rattle.chain.proofs.Spliced.{now-spliced}
use Rattle.chain.proofs.splice.Goals as goal

pub write_at-requires : goal.write_at-requires
write_at-requires g c =
    let a = c.args in
    let pre = c.requires.counts in
    let more = c.requires.room in
    let fits : a.m + a.n - a.k ≤ length c.resize.new.list = omega (arith, pre, c.resize.auto.list) in
    (omega (arith, pre), fits, homed-chain c.resize.new.home c.resize.new.list a.b (a.m + a.n - a.k) c.resize.ensures.homed fits, more.0, omega (arith, pre, more))

pub returns : goal.returns
returns g c =
    let a = c.args in
    let pre = c.requires.counts in
    let more = c.requires.room in
    let fits : a.m + a.n - a.k ≤ length c.resize.new.list = omega (arith, pre, c.resize.auto.list) in record {
      homed = c.resize.ensures.homed;
      spliced = now-spliced a.home.now a.list.now c.resize.new.home c.resize.new.list a.blocks.now a.b a.m a.a a.k a.n pre.6 (omega (arith, pre)) more.0 pre.0 c.resize.ensures.homed fits c.resize.ensures.resized c.write_at.new.blocks a.d (g.S.Source.octets a.src) more.1 more.2 c.write_at.ensures;
    }
