-- The numbers of a packet fit the cells of its record.
use Rattle.std.specs.Prelude.{Option, Some, None}
use Prim.Native.Nat.{ℕ, ◌≤◌, ◌<◌}
use mathlib.Core.List.{List, []}
use native.Mathlib.Omega.{arith}
use lib.Dec.{ltb}
use lib.ListN.{length, get_or}
use Rattle.octets.proofs.Picks.{pick_elim}
use Rattle.names.specs.Numbers.{last_text}
use Rattle.codes.specs.Codes.{Row, diagnostics}
use Rattle.codes.proofs.Lows.{text-low}
use Rattle.x25.specs.Packet.{octet_at, plain, unreadable, lcn_of, data_of, received, cause_in, text_of, request_of, diagnostic_of, call_with, packet_of}
use Rattle.x25.specs.declared.packet.Packet.{Packet}
use Rattle.x25.proofs.Cases.{From, octet-from, every}

-- ---- text numbers are listed
text_of_low : (rows : List Row) (o : Option ℕ) → text_of rows o ≤ last_text
text_of_low rows None = omega arith
text_of_low rows (Some c) = text-low rows [] c

-- ---- numbers fit
abbrev pub Low : Option ℕ → Type 0
Low None = Unit
Low (Some v) = v < 4294967296

cause-low : (o : Option ℕ) → Low o → Low (cause_in o)
cause-low None h = tt
cause-low (Some raw) h = pick_elim (λ (v : ℕ). v < 4294967296) (ltb raw 128) (λ e. h) (λ e. omega arith)

pub record Numbers (x : Packet) : Type 0 where
  pub lcn-low : x.lcn < 4294967296
  pub named : x.kind ≤ last_text
  pub ps-low : Low x.ps
  pub pr-low : Low x.pr
  pub more-low : x.more < 2
  pub cause-fits : Low x.cause
  pub causetext-low : x.causetext ≤ last_text
  pub diagnostic-low : Low x.diagnostic
  pub diagtext-low : x.diagtext ≤ last_text
  pub sndcf-low : Low x.sndcf
  pub version_low : x.version < 4294967296

module _ (s : List ℕ) (small : (i : ℕ) → get_or s i 0 < 256) where
  from_low : (o : Option ℕ) → From s o → Low o
  from_low None h = tt
  from_low (Some v) h = omega (arith, h.is, small h.place)

  octet-low : (i : ℕ) → Low (octet_at s i)
  octet-low i = from_low (octet_at s i) (octet-from s i)

  channel_low : lcn_of s < 4294967296
  channel_low = omega (arith, small 1)

  plain_fits : (k : ℕ) → k ≤ last_text → Numbers (plain k (lcn_of s) (length s))
  plain_fits k h = record { lcn-low = channel_low; named = h; ps-low = tt; pr-low = tt; more-low = omega arith; cause-fits = tt; causetext-low = omega arith; diagnostic-low = tt; diagtext-low = omega arith; sndcf-low = tt; version_low = omega arith }

  none-fits : Numbers (unreadable (length s))
  none-fits = record { lcn-low = omega arith; named = omega arith; ps-low = tt; pr-low = tt; more-low = omega arith; cause-fits = tt; causetext-low = omega arith; diagnostic-low = tt; diagtext-low = omega arith; sndcf-low = tt; version_low = omega arith }

  data_fits : Numbers (data_of s (get_or s 2 0))
  data_fits = record { lcn-low = channel_low; named = omega arith; ps-low = omega arith; pr-low = omega (arith, small 2); more-low = omega arith; cause-fits = tt; causetext-low = omega arith; diagnostic-low = tt; diagtext-low = omega arith; sndcf-low = tt; version_low = omega arith }

  received-fits : (k : ℕ) → k ≤ last_text → Numbers (received k s (get_or s 2 0))
  received-fits k h = record { lcn-low = channel_low; named = h; ps-low = tt; pr-low = omega (arith, small 2); more-low = omega arith; cause-fits = tt; causetext-low = omega arith; diagnostic-low = tt; diagtext-low = omega arith; sndcf-low = tt; version_low = omega arith }

  request-fits : (k : ℕ) (rows : List Row) → k ≤ last_text → Numbers (request_of k rows s)
  request-fits k rows h = record { lcn-low = channel_low; named = h; ps-low = tt; pr-low = tt; more-low = omega arith; cause-fits = cause-low (octet_at s 3) (octet-low 3); causetext-low = text_of_low rows (cause_in (octet_at s 3)); diagnostic-low = octet-low 4; diagtext-low = text_of_low diagnostics (octet_at s 4); sndcf-low = tt; version_low = omega arith }

  told-fits : Numbers (diagnostic_of s)
  told-fits = record { lcn-low = channel_low; named = omega arith; ps-low = tt; pr-low = tt; more-low = omega arith; cause-fits = tt; causetext-low = omega arith; diagnostic-low = octet-low 3; diagtext-low = text_of_low diagnostics (octet_at s 3); sndcf-low = tt; version_low = omega arith }

  call_fits : (k : ℕ) → k ≤ last_text → (o : Option ℕ) → From s o → (v pos : ℕ) → v ≤ 1 → Numbers (call_with k s o v pos)
  call_fits k h o f v pos u = record { lcn-low = channel_low; named = h; ps-low = tt; pr-low = tt; more-low = omega arith; cause-fits = tt; causetext-low = omega arith; diagnostic-low = tt; diagtext-low = omega arith; sndcf-low = from_low o f; version_low = omega arith }

  pub numbers : Numbers (packet_of s)
  numbers = every Numbers s none-fits (λ l. data_fits) (λ k n. plain_fits k n.1) (λ k n. received-fits k n.1) (λ k rows n. request-fits k rows n.1) told-fits (λ k n h o f v pos u. call_fits k n.1 o f v pos u)
