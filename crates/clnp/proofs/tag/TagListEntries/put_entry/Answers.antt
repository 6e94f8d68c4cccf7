use mathlib.Core.Path.{subst}
use native.Mathlib.Omega.{arith}
use Rattle.clnp.proofs.Tags.{Whole, tag-whole}
use Rattle.clnp.proofs.tag.TagListEntries.put_entry.Goals as goal

pub bounds-self-i : goal.bounds-self-i
bounds-self-i c =
    let s = c.args.self.now.part.octets.now in
    let w = subst (Whole s c.args.i) c.requires.0 (tag-whole s c.args.i) in
    omega (arith, w.0, w.1)
