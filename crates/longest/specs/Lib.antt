pub mod Witness
pub mod SizingEdges
