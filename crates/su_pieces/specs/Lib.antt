pub mod Piece
pub mod Put
pub mod CarriedOut
