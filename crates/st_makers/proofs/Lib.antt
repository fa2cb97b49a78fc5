mod Puts
mod Openings
mod Entering
