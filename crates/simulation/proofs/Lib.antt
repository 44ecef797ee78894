mod Beginning
mod Choosing
mod Course
mod Running
mod Replaying
mod Rounding
