pub mod MeshTable
