pub mod MeshCases
