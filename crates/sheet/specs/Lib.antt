-- What the program `sheet` makes of what it reads.
pub mod one_turn
