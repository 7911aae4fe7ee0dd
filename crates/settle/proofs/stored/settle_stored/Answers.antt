use Rattle.std.proofs.Common.{rules}
use Rattle.settle.proofs.stored.StoredRows.{part-written}
use Rattle.settle.proofs.stored.settle_stored.Goals as goal

-- the four writes, one after the other: the chunks, then the rows of ids, of starts, of sizes
pub returns : goal.returns
returns c =
    let at-sizes = c in
    let at-starts = at-sizes in
    let at-ids = at-starts in
    let at-chunks = at-ids in
    let chunks = at-chunks.copy_chunks-ids.ensures in record {
      value = search rules;
      out_after = part-written _ _ _ _ _ _ _ _ (search rules) (search rules) (search rules) (search rules) chunks.value chunks.out_after at-ids.copy_bytes.ensures
          at-starts.put_starts.ensures at-sizes.copy_bytes-2.ensures;
    }
