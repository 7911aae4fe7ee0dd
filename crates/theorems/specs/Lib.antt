-- The demands and the orders' promises, a statement each; the worked cases.
pub mod cases
pub mod mesh_cases
pub mod Manifests
pub mod Published
pub mod FixedOrder
pub mod Minishards
pub mod Demands
pub mod Hash
pub mod Kept
pub mod Orders
pub mod Pairs
pub mod Intake
pub mod Shortest
pub mod Holdings
pub mod Labels
