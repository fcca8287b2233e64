mod Cancelling
mod Feeding
mod Opened
mod Passing
mod Standing
