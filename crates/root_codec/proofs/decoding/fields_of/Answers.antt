-- Each field is the part of the bytes that was read.
use Rattle.std.proofs.Common.{rules}
use Rattle.root_codec.proofs.decoding.fields_of.Goals as goal

pub returns : goal.returns
returns c = record {
  known = c.requires.version;
  version = c.requires.spelled;
  order = c.u16_of.ensures.spelled;
  level = c.level_of.ensures;
  blocks = c.u64_of.ensures.spelled;
  commit = c.u64_of-2.ensures.spelled;
  addr = c.u64_of-3.ensures.spelled;
  key = c.key_of.ensures.own;
  mapped = c.u64_of-4.ensures.spelled;
  head = c.u64_of-5.ensures.spelled;
  digest = c.key_of.ensures.digest;
  order_below = search rules;
  blocks_below = search rules;
  commit_below = search rules;
  addr_below = search rules;
  mapped_below = search rules;
  head_below = search rules;
  key_bytes = c.key_of.ensures.key;
}
