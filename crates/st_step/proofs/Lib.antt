mod Changed
mod Fronts
mod Growing
mod Listed
mod Places
