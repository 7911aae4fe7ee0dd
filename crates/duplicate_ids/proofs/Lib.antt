pub mod RowIds
mod Soon
