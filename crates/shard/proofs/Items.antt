-- Items, whatever their leads are.
use Rattle.std.proofs.Common.{◌≡◌, ℕ, ◌+◌, ◌-◌, ◌≤◌, List, ◌++◌, length, take, drop, arith, length-drop, length-take, drop-drop, take-add}
use Rattle.sharding.specs.declared.Sharding.{Sharding}
use Rattle.shard.specs.Items.{lead_length_of, item_of}

-- the item of an id whose chunk stands in d, `size` bytes from `start` on
module _ (spec : Sharding) (d : List ℕ) (id start size : ℕ) where
  abbrev k : ℕ
  k = lead_length_of spec (take size (drop start d))

  module _ (inside : start + size ≤ length d) where
    pub item-size : length (item_of spec d id start size).body ≡ size
    unfolding item_of
    item-size = simp (length-take, length-drop) (omega arith)

    -- with a lead within d
    module _ (before : lead_length_of spec (take size (drop start d)) ≤ start) where
      pub item-lead : length (item_of spec d id start size).lead ≡ lead_length_of spec (take size (drop start d))
      unfolding item_of
      item-lead = simp (length-take, length-drop) (omega (arith, before))

      -- lead and chunk are one run of bytes
      pub item-bytes : (item_of spec d id start size).lead ++ (item_of spec d id start size).body ≡ take (lead_length_of spec (take size (drop start d)) + size) (drop (start - lead_length_of spec (take size (drop start d))) d)
      unfolding item_of
      item-bytes =
          let e : start - k + k ≡ start = omega arith in
          rw (take-add k size (drop (start - k) d), drop-drop k (start - k) d, e)
