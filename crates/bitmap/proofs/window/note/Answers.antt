use Rattle.bitmap.proofs.window.Windows.{notes_low, note_many}
use Rattle.bitmap.proofs.window.note.Goals as goal

pub returns-then-last-first : goal.returns-then-last-first
returns-then-last-first c = search notes_low

pub returns : goal.returns
returns c = search note_many
