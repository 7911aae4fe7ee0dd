pub mod Table
pub mod Tests
pub mod Picks
pub mod Refusing
pub mod Positions
pub mod Results
pub mod Passed
