mod Ahead
mod Held
mod Reading
mod Spells
