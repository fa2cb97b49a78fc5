pub mod Back
mod Read
