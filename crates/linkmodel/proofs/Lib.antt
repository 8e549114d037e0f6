pub mod Bools
-- wires, hellos, and what open means
pub mod Wires
pub mod Sounds
pub mod OpenJust
pub mod Moments
pub mod Meant
-- what changed links do to a box
pub mod Relinks
pub mod RelinkSteps
-- both ends agree
pub mod Runs
pub mod Neither
pub mod Both
pub mod Agreed
-- telling over roads that lose
pub mod Newer
pub mod Fitting
pub mod Hearers
pub mod Outgoing
pub mod Showing
pub mod Staying
pub mod Quieting
pub mod Starving
-- which events each thing that a box does is
pub mod Joins
pub mod Sendings
pub mod Takings
