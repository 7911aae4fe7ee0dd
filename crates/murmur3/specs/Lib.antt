-- MurmurHash3_x86_128 of 8 bytes, seed 0.
pub mod Murmur
