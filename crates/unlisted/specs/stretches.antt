-- What a sound shard gives to whoever goes over its ranges (RULES U4).
pub mod Reading
pub mod Stretches
