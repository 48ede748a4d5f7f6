-- Laws of writing over a lent slice: numbers over what stands there, and a text put at a place where it fits.
pub mod Over
pub mod Place
