-- One node's fragment in a mesh shard (RULES M11, M12).
pub mod Fragment
pub mod Fragments
