mod Examples
mod NameLemmas
mod Padding
mod Pieces
mod SoFar
mod Staying
mod TeamNames
