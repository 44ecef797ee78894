pub mod Lemmas
pub mod Lists
pub mod Runs
pub mod Clocks
pub mod Settling
pub mod Starting
pub mod Linking
pub mod Keeping
pub mod Silent
pub mod Acting
pub mod OneMore
pub mod Possible
pub mod TheStep
mod Resettling
pub mod Decisions
pub mod Listings
pub mod Merging
pub mod Booting
mod Going
pub mod Picks
pub mod ByWord
mod Gathered
mod Weaving
mod NodeTurns
mod Outside
mod Together
mod Shells
mod SideRuns
mod SideStands
mod SideWires
mod SidePasses
mod SideDriven
mod SideAdds
mod SideLoses
mod TheRound
mod Counting
mod GoingOn
