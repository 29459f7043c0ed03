pub mod Brute
