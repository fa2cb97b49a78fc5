pub mod Empty
pub mod First
pub mod InOrder
pub mod PartsOver
pub mod Unmade
pub mod inside
