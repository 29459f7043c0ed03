pub mod Primes
pub mod Gcd
pub mod Conversions
pub mod Meetings
pub mod Calls
