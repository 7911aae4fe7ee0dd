-- When two documents agree on the members that the rules name: those of scale k and of its sharding (RULES I5). Nothing else of them is compared.
use Rattle.std.specs.Prelude.{ℕ, ◌≡◌}
use Rattle.info.specs.sharding_members.Words.{scales_name, size_name, chunks_name, offset_name, sharding_name, type_name, preshift_name, hash_name, minishard_bits_name, shard_bits_name, index_name, data_name}
use Rattle.info.specs.document.Document.{DocumentOf, Times, member_of, elements_of, nth}
use Rattle.info.specs.document.Document.Times.{never, once, twice}

-- both are missing, both are there twice, or both are there once and agree
pub data BothBy {D : Type 0} (Same : D → D → Type 0) : Times D → Times D → Type 0 where
  missing : BothBy Same never never
  there : {a b : D} → Same a b → BothBy Same (once a) (once b)
  doubled : BothBy Same twice twice

-- two shardings agree on the members of 002
pub record SameSharding {D : Type 0} (u v : DocumentOf D) : Type 0 where
  pub type : member_of type_name u ≡ member_of type_name v
  pub preshift : member_of preshift_name u ≡ member_of preshift_name v
  pub hash : member_of hash_name u ≡ member_of hash_name v
  pub minishard : member_of minishard_bits_name u ≡ member_of minishard_bits_name v
  pub shard : member_of shard_bits_name u ≡ member_of shard_bits_name v
  pub index : member_of index_name u ≡ member_of index_name v
  pub bytes : member_of data_name u ≡ member_of data_name v

-- two scales agree on "size, chunk_sizes [..], voxel_offset [..] and sharding"
pub record SameScale {D : Type 0} (u v : DocumentOf (DocumentOf D)) : Type 0 where
  pub size : member_of size_name u ≡ member_of size_name v
  pub chunks : member_of chunks_name u ≡ member_of chunks_name v
  pub offset : member_of offset_name u ≡ member_of offset_name v
  pub sharding : BothBy SameSharding (member_of sharding_name u) (member_of sharding_name v)

-- two documents agree on scale k of their scales
abbrev pub SameUsed : {D : Type 0} → ℕ → DocumentOf (DocumentOf (DocumentOf (DocumentOf D))) → DocumentOf (DocumentOf (DocumentOf (DocumentOf D))) → Type 0
SameUsed k u v = BothBy (λ a b. BothBy SameScale (nth k (elements_of a)) (nth k (elements_of b))) (member_of scales_name u) (member_of scales_name v)
