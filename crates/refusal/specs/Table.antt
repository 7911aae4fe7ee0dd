-- The numbers of the refusal table (RULES R1).
use Rattle.std.specs.Prelude.{ℕ, pred, ◌≤◌, List, [], ◌∷◌, slice_index_or}
use Rattle.refusal.specs.declared.Refusal.{Refusal}
use Rattle.refusal.specs.declared.Refusal.TheVariants as The

-- the last number of the table: 1 to 30 are the papers', 31 to 33 this library's own
abbrev pub last : ℕ
last = 33

-- RULES R1
abbrev pub InTable : ℕ → Type 0
InTable k = (1 ≤ k) × (k ≤ last)

-- each refusal's number
abbrev pub number_of : Refusal → ℕ
number_of The.ShardingNotAllowed = 1
number_of The.NoSuchCell = 2
number_of The.TooManyKeyBits = 3
number_of The.KeyOfNoCell = 4
number_of The.NoSuchShard = 5
number_of The.ShardLength = 6
number_of The.IndexEntry = 7
number_of The.IndexLength = 8
number_of The.IdTwice = 9
number_of The.IdElsewhere = 10
number_of The.ChunkPastEnd = 11
number_of The.NotListed = 12
number_of The.NoRoom = 13
number_of The.CardMalformed = 14
number_of The.ManifestLength = 15
number_of The.ManifestReal = 16
number_of The.NodeOrder = 17
number_of The.NoSuchNode = 18
number_of The.InfoNotJson = 19
number_of The.InfoSettings = 20
number_of The.FragmentsBeforeData = 21
number_of The.UnlistedBytes = 22
number_of The.IndexFileLength = 23
number_of The.NoSuchRange = 24
number_of The.IntakeOrder = 25
number_of The.IntakeOwed = 26
number_of The.TotalTooLarge = 27
number_of The.LabelsCutOff = 28
number_of The.LabelWidth = 29
number_of The.IntakeBuffers = 30
number_of The.SliceLength = 31
number_of The.CopiesDiffer = 32
number_of The.NoSuchMinishard = 33

-- the refusals in the order of their numbers, from 1 on
abbrev pub table : List Refusal
table =
    The.ShardingNotAllowed
    ∷ The.NoSuchCell
    ∷ The.TooManyKeyBits
    ∷ The.KeyOfNoCell
    ∷ The.NoSuchShard
    ∷ The.ShardLength
    ∷ The.IndexEntry
    ∷ The.IndexLength
    ∷ The.IdTwice
    ∷ The.IdElsewhere
    ∷ The.ChunkPastEnd
    ∷ The.NotListed
    ∷ The.NoRoom
    ∷ The.CardMalformed
    ∷ The.ManifestLength
    ∷ The.ManifestReal
    ∷ The.NodeOrder
    ∷ The.NoSuchNode
    ∷ The.InfoNotJson
    ∷ The.InfoSettings
    ∷ The.FragmentsBeforeData
    ∷ The.UnlistedBytes
    ∷ The.IndexFileLength
    ∷ The.NoSuchRange
    ∷ The.IntakeOrder
    ∷ The.IntakeOwed
    ∷ The.TotalTooLarge
    ∷ The.LabelsCutOff
    ∷ The.LabelWidth
    ∷ The.IntakeBuffers
    ∷ The.SliceLength
    ∷ The.CopiesDiffer
    ∷ The.NoSuchMinishard
    ∷ []

-- the refusal with a number of the table
abbrev pub refusal_of : ℕ → Refusal
refusal_of k = slice_index_or table (pred k) The.NoSuchMinishard
