use Rattle.std.proofs.Common.{rules, get_or, length, arith}
use Rattle.octets.proofs.Emits.{onward, finish}
use Rattle.octets.proofs.Tests.{all-at}
use Rattle.replay_line.specs.Word.{is_hex}
use Rattle.replay_line.proofs.Words.{hex_some, hex_more, placed, pair_first, pair_none}
use Rattle.replay_line.proofs.word.put_pairs.Goals as goal

pub loop-rest-init : goal.loop-rest-init
loop-rest-init c = record { small = search rules; hex = c.requires; on = λ p n e. e }

pub unwrap-high-requires : goal.unwrap-high-requires
unwrap-high-requires c =
    let w = c.loop-rest.rest.now in
    hex_some (get_or w 0 0) _ (all-at (λ i. is_hex (get_or w i 0)) 0 (length w) c.loop-rest.invariant.hex (omega arith)) c.digit_of.ensures

pub unwrap-low-requires : goal.unwrap-low-requires
unwrap-low-requires c =
    let w = c.loop-rest.rest.now in
    hex_some (get_or w 1 0) _ (all-at (λ i. is_hex (get_or w i 0)) 1 (length w) c.loop-rest.invariant.hex (omega arith)) c.digit_of-in-len2-up.ensures

pub loop-rest-preserved : goal.loop-rest-preserved
loop-rest-preserved c =
    let w = c.loop-rest.rest.now in
    record {
      small = placed c.put_octet-next.ensures;
      hex = hex_more w c.loop-rest.invariant.hex;
      on = onward c.loop-rest.invariant.on c.put_octet-next.ensures
          (pair_first w _ _ _ _ c.in-len2-up.len_at_least c.digit_of.ensures c.unwrap-high.ensures c.digit_of-in-len2-up.ensures c.unwrap-low.ensures);
    }

pub returns : goal.returns
returns c = finish c.loop-rest.invariant.on (pair_none c.loop-rest.rest.now c.in_default.len_below) (search rules) c.loop-rest.invariant.small
