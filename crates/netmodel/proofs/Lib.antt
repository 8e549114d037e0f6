-- what a move does to each box, and what holds in every run
pub mod Moving
pub mod Keeping
pub mod Placing
pub mod Wiring
pub mod Lawful
pub mod Runs
-- what is sent fits into frames
pub mod FewRoads
pub mod InRange
pub mod SendsFit
pub mod Fitted
pub mod Laws
-- a box that has shown all is quiet
pub mod Quieted
-- every run is a run of the model
pub mod Tags
pub mod Others
pub mod Becoming
pub mod Sent
pub mod Uttered
pub mod Places
pub mod Coming
pub mod Doings
pub mod Unchanged
pub mod Led
pub mod Arriving
pub mod Steps
pub mod Simulated
-- how a net that is left alone comes to rest
pub mod Blanks
pub mod Moments
pub mod Going
pub mod Packets
pub mod Arrivals
pub mod Showns
pub mod Trips
pub mod Owed
pub mod Agreed
pub mod Windowed
-- and that there is such a net
pub mod Unmoved
pub mod Example
