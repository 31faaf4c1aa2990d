mod Counting
mod Pinning
