mod AllOf
mod Makings
mod Fillings
mod Homes
mod Passing
