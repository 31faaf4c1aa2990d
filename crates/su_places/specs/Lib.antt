pub mod Places
pub mod Current
pub mod Laws
