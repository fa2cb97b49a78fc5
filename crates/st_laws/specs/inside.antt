-- The words of proofs: no public contract reaches them.
pub mod Together
