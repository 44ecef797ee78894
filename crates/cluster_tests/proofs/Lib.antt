mod Walking
mod InRounds
mod Driving
