mod HoldsMore
mod Holdings
mod OpenNumber
mod Asked
mod Oldest
