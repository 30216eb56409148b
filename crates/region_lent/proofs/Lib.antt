pub mod Places
pub mod RingsWritten
