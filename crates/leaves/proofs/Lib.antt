-- The laws that the proofs here cite.
pub mod Laws
