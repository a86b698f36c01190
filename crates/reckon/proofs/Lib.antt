mod Passing
mod Running
