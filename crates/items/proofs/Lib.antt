pub mod Parameters
pub mod Bodies
pub mod Locals
pub mod Functions
pub mod Items
