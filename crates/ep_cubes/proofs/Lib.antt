mod Told
mod Marking
