pub mod Laws
pub mod Tables
mod Polynomials
