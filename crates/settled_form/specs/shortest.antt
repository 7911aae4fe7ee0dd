-- Shards whose ranges share no byte, and what is said of the shortest of them (RULES U9).
pub mod Shares
pub mod Worked
