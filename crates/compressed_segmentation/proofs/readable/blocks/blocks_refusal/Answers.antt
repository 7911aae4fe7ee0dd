use mathlib.Core.Path.{refl}
use Rattle.compressed_segmentation.proofs.Shapes.{channels_some}
use Rattle.bitmap.proofs.visited.Noted.{sees_same, seen_bit}
use Rattle.compressed_segmentation.proofs.readable.Offsets.{offset-whole, headers_none-at, count-whole}
use Rattle.compressed_segmentation.proofs.block.Mild.{passed_start, passed_count, passed_known, passed_end, passed_hit, passed_on}
use Rattle.compressed_segmentation.proofs.block.Visited.{visiting_start, visiting_on}
use borrow.Author.Rules.{rules}
use Rattle.compressed_segmentation.proofs.readable.blocks.blocks_refusal.Goals as goal

pub loop-c-init : goal.loop-c-init
loop-c-init c = (refl, passed_start _ _ _ (search (count-whole, channels_some)) (search rules), search visiting_start)

pub word_at-o-requires : goal.word_at-o-requires
word_at-o-requires c = search offset-whole

pub other_channel-k-requires-clause-o_bound : goal.other_channel-k-requires-clause-o_bound
other_channel-k-requires-clause-o_bound c = (search rules, search (headers_none-at, passed_count))

pub other_channel-k-requires-clause-known_readable : goal.other_channel-k-requires-clause-known_readable
other_channel-k-requires-clause-known_readable c = λ e. let k = seen_bit c.is_seen-known.ensures e in search passed_known

pub returns-then-k-gt0-clause-value : goal.returns-then-k-gt0-clause-value
returns-then-k-gt0-clause-value c = search passed_hit

pub loop-c-preserved : goal.loop-c-preserved
loop-c-preserved c = (search sees_same, search passed_on, search visiting_on)

pub returns-clause-value : goal.returns-clause-value
returns-clause-value c = search passed_end
