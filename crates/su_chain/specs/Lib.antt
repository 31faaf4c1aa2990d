pub mod ChainEnd
