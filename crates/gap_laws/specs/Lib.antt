-- From sums and the largest number that passes a test to cubes, resolutions and Δ, in the order in which the laws build on each other.
-- Words: rows and free rows as in net_laws; a cube is a box with equally many digits of each coordinate.
pub mod Sums
pub mod Largest
pub mod Fewer
pub mod Equal
pub mod Cubes
pub mod Resolution
