pub mod Puts
pub mod Printed
