pub mod AreaWalk
pub mod Extents
