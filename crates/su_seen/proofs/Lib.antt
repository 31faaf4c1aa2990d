mod Examples
mod FileLines
mod KeptMap
mod Spaces
mod Told
