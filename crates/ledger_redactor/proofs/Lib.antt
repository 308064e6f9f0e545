mod Parts
mod Satellites
mod Sizes
mod Standing
mod Walking
mod Copies
