mod AsBox
mod Told
mod Values
