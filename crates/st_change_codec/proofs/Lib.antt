mod Plain
mod Sound
