mod Append
mod Steps
