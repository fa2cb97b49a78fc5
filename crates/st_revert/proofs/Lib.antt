mod MappedLists
mod MadeListed
mod Reversals
mod Bases
