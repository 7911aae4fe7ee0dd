-- A refusal is told by its number, and each number of the table is a refusal's.
use Rattle.std.proofs.Common.{ℕ, zero, suc, ◌≡◌, refl, ap, sym, ◌∙◌, arith}
use Rattle.refusal.specs.declared.Refusal.{Refusal}
use Rattle.refusal.specs.declared.Refusal.TheVariants as The
use Rattle.refusal.specs.Table.{InTable, number_of, refusal_of}

pub number-in : (r : Refusal) → InTable (number_of r)
number-in The.ShardingNotAllowed = (omega arith, omega arith)
number-in The.NoSuchCell = (omega arith, omega arith)
number-in The.TooManyKeyBits = (omega arith, omega arith)
number-in The.KeyOfNoCell = (omega arith, omega arith)
number-in The.NoSuchShard = (omega arith, omega arith)
number-in The.ShardLength = (omega arith, omega arith)
number-in The.IndexEntry = (omega arith, omega arith)
number-in The.IndexLength = (omega arith, omega arith)
number-in The.IdTwice = (omega arith, omega arith)
number-in The.IdElsewhere = (omega arith, omega arith)
number-in The.ChunkPastEnd = (omega arith, omega arith)
number-in The.NotListed = (omega arith, omega arith)
number-in The.NoRoom = (omega arith, omega arith)
number-in The.CardMalformed = (omega arith, omega arith)
number-in The.ManifestLength = (omega arith, omega arith)
number-in The.ManifestReal = (omega arith, omega arith)
number-in The.NodeOrder = (omega arith, omega arith)
number-in The.NoSuchNode = (omega arith, omega arith)
number-in The.InfoNotJson = (omega arith, omega arith)
number-in The.InfoSettings = (omega arith, omega arith)
number-in The.FragmentsBeforeData = (omega arith, omega arith)
number-in The.UnlistedBytes = (omega arith, omega arith)
number-in The.IndexFileLength = (omega arith, omega arith)
number-in The.NoSuchRange = (omega arith, omega arith)
number-in The.IntakeOrder = (omega arith, omega arith)
number-in The.IntakeOwed = (omega arith, omega arith)
number-in The.TotalTooLarge = (omega arith, omega arith)
number-in The.LabelsCutOff = (omega arith, omega arith)
number-in The.LabelWidth = (omega arith, omega arith)
number-in The.IntakeBuffers = (omega arith, omega arith)
number-in The.SliceLength = (omega arith, omega arith)
number-in The.CopiesDiffer = (omega arith, omega arith)
number-in The.NoSuchMinishard = (omega arith, omega arith)

pub refusal-number : (r : Refusal) → refusal_of (number_of r) ≡ r
refusal-number The.ShardingNotAllowed = refl
refusal-number The.NoSuchCell = refl
refusal-number The.TooManyKeyBits = refl
refusal-number The.KeyOfNoCell = refl
refusal-number The.NoSuchShard = refl
refusal-number The.ShardLength = refl
refusal-number The.IndexEntry = refl
refusal-number The.IndexLength = refl
refusal-number The.IdTwice = refl
refusal-number The.IdElsewhere = refl
refusal-number The.ChunkPastEnd = refl
refusal-number The.NotListed = refl
refusal-number The.NoRoom = refl
refusal-number The.CardMalformed = refl
refusal-number The.ManifestLength = refl
refusal-number The.ManifestReal = refl
refusal-number The.NodeOrder = refl
refusal-number The.NoSuchNode = refl
refusal-number The.InfoNotJson = refl
refusal-number The.InfoSettings = refl
refusal-number The.FragmentsBeforeData = refl
refusal-number The.UnlistedBytes = refl
refusal-number The.IndexFileLength = refl
refusal-number The.NoSuchRange = refl
refusal-number The.IntakeOrder = refl
refusal-number The.IntakeOwed = refl
refusal-number The.TotalTooLarge = refl
refusal-number The.LabelsCutOff = refl
refusal-number The.LabelWidth = refl
refusal-number The.IntakeBuffers = refl
refusal-number The.SliceLength = refl
refusal-number The.CopiesDiffer = refl
refusal-number The.NoSuchMinishard = refl

pub same-refusal : (r s : Refusal) → number_of r ≡ number_of s → r ≡ s
same-refusal r s e = sym (refusal-number r) ∙ (ap refusal_of e ∙ refusal-number s)

pub number-refusal : (k : ℕ) → InTable k → number_of (refusal_of k) ≡ k
number-refusal zero t = absurd (omega (arith, t.0))
number-refusal (suc zero) t = refl
number-refusal (suc (suc zero)) t = refl
number-refusal (suc (suc (suc zero))) t = refl
number-refusal (suc (suc (suc (suc zero)))) t = refl
number-refusal (suc (suc (suc (suc (suc zero))))) t = refl
number-refusal (suc (suc (suc (suc (suc (suc zero)))))) t = refl
number-refusal (suc (suc (suc (suc (suc (suc (suc zero))))))) t = refl
number-refusal (suc (suc (suc (suc (suc (suc (suc (suc zero)))))))) t = refl
number-refusal (suc (suc (suc (suc (suc (suc (suc (suc (suc zero))))))))) t = refl
number-refusal (suc (suc (suc (suc (suc (suc (suc (suc (suc (suc zero)))))))))) t = refl
number-refusal (suc (suc (suc (suc (suc (suc (suc (suc (suc (suc (suc zero))))))))))) t = refl
number-refusal (suc (suc (suc (suc (suc (suc (suc (suc (suc (suc (suc (suc zero)))))))))))) t = refl
number-refusal (suc (suc (suc (suc (suc (suc (suc (suc (suc (suc (suc (suc (suc zero))))))))))))) t = refl
number-refusal (suc (suc (suc (suc (suc (suc (suc (suc (suc (suc (suc (suc (suc (suc zero)))))))))))))) t = refl
number-refusal (suc (suc (suc (suc (suc (suc (suc (suc (suc (suc (suc (suc (suc (suc (suc zero))))))))))))))) t = refl
number-refusal (suc (suc (suc (suc (suc (suc (suc (suc (suc (suc (suc (suc (suc (suc (suc (suc zero)))))))))))))))) t = refl
number-refusal (suc (suc (suc (suc (suc (suc (suc (suc (suc (suc (suc (suc (suc (suc (suc (suc (suc zero))))))))))))))))) t = refl
number-refusal (suc (suc (suc (suc (suc (suc (suc (suc (suc (suc (suc (suc (suc (suc (suc (suc (suc (suc zero)))))))))))))))))) t = refl
number-refusal (suc (suc (suc (suc (suc (suc (suc (suc (suc (suc (suc (suc (suc (suc (suc (suc (suc (suc (suc zero))))))))))))))))))) t = refl
number-refusal (suc (suc (suc (suc (suc (suc (suc (suc (suc (suc (suc (suc (suc (suc (suc (suc (suc (suc (suc (suc zero)))))))))))))))))))) t = refl
number-refusal (suc (suc (suc (suc (suc (suc (suc (suc (suc (suc (suc (suc (suc (suc (suc (suc (suc (suc (suc (suc (suc zero))))))))))))))))))))) t = refl
number-refusal (suc (suc (suc (suc (suc (suc (suc (suc (suc (suc (suc (suc (suc (suc (suc (suc (suc (suc (suc (suc (suc (suc zero)))))))))))))))))))))) t = refl
number-refusal (suc (suc (suc (suc (suc (suc (suc (suc (suc (suc (suc (suc (suc (suc (suc (suc (suc (suc (suc (suc (suc (suc (suc zero))))))))))))))))))))))) t = refl
number-refusal (suc (suc (suc (suc (suc (suc (suc (suc (suc (suc (suc (suc (suc (suc (suc (suc (suc (suc (suc (suc (suc (suc (suc (suc zero)))))))))))))))))))))))) t = refl
number-refusal (suc (suc (suc (suc (suc (suc (suc (suc (suc (suc (suc (suc (suc (suc (suc (suc (suc (suc (suc (suc (suc (suc (suc (suc (suc zero))))))))))))))))))))))))) t = refl
number-refusal (suc (suc (suc (suc (suc (suc (suc (suc (suc (suc (suc (suc (suc (suc (suc (suc (suc (suc (suc (suc (suc (suc (suc (suc (suc (suc zero)))))))))))))))))))))))))) t = refl
number-refusal (suc (suc (suc (suc (suc (suc (suc (suc (suc (suc (suc (suc (suc (suc (suc (suc (suc (suc (suc (suc (suc (suc (suc (suc (suc (suc (suc zero))))))))))))))))))))))))))) t = refl
number-refusal (suc (suc (suc (suc (suc (suc (suc (suc (suc (suc (suc (suc (suc (suc (suc (suc (suc (suc (suc (suc (suc (suc (suc (suc (suc (suc (suc (suc zero)))))))))))))))))))))))))))) t = refl
number-refusal (suc (suc (suc (suc (suc (suc (suc (suc (suc (suc (suc (suc (suc (suc (suc (suc (suc (suc (suc (suc (suc (suc (suc (suc (suc (suc (suc (suc (suc zero))))))))))))))))))))))))))))) t = refl
number-refusal (suc (suc (suc (suc (suc (suc (suc (suc (suc (suc (suc (suc (suc (suc (suc (suc (suc (suc (suc (suc (suc (suc (suc (suc (suc (suc (suc (suc (suc (suc zero)))))))))))))))))))))))))))))) t = refl
number-refusal (suc (suc (suc (suc (suc (suc (suc (suc (suc (suc (suc (suc (suc (suc (suc (suc (suc (suc (suc (suc (suc (suc (suc (suc (suc (suc (suc (suc (suc (suc (suc zero))))))))))))))))))))))))))))))) t = refl
number-refusal (suc (suc (suc (suc (suc (suc (suc (suc (suc (suc (suc (suc (suc (suc (suc (suc (suc (suc (suc (suc (suc (suc (suc (suc (suc (suc (suc (suc (suc (suc (suc (suc zero)))))))))))))))))))))))))))))))) t = refl
number-refusal (suc (suc (suc (suc (suc (suc (suc (suc (suc (suc (suc (suc (suc (suc (suc (suc (suc (suc (suc (suc (suc (suc (suc (suc (suc (suc (suc (suc (suc (suc (suc (suc (suc zero))))))))))))))))))))))))))))))))) t = refl
number-refusal (suc (suc (suc (suc (suc (suc (suc (suc (suc (suc (suc (suc (suc (suc (suc (suc (suc (suc (suc (suc (suc (suc (suc (suc (suc (suc (suc (suc (suc (suc (suc (suc (suc (suc k)))))))))))))))))))))))))))))))))) t = absurd (omega (arith, t.1))

pub same-number : (j k : ℕ) → InTable j → InTable k → refusal_of j ≡ refusal_of k → j ≡ k
same-number j k t u e = sym (number-refusal j t) ∙ (ap number_of e ∙ number-refusal k u)
