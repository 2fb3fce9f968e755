pub mod IndexZeros
