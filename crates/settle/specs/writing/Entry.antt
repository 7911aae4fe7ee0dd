-- The entry of a minishard in the settled shard index, as bytes.
use Rattle.std.specs.Prelude.{ℕ, List, [], ◌∷◌}
use Rattle.endian.specs.Little.{row}
use Rattle.shard.specs.Items.{Item}
use Rattle.settled_form.specs.Form.{entry_begin, entry_finish}

-- the entry in the settled shard index of a minishard at p
unfoldable pub settled_entry : ℕ → List Item → List ℕ
settled_entry p items = row (entry_begin p items ∷ entry_finish p items ∷ [])
