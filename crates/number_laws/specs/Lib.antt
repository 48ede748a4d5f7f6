-- Laws of numbers and lists: greatest common divisors, the first and the largest number that pass a test, counting, primes, pigeonhole.
pub mod Truth
pub mod Gcd
pub mod First
pub mod Largest
pub mod Every
pub mod Ranges
pub mod Count
pub mod Pigeon
pub mod Lists
pub mod Primes
pub mod Covers
pub mod Bounds
