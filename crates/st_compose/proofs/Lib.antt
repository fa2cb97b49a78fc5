pub mod Refusals
mod Rules
