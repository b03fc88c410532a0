mod Zipped
mod Bare
mod Fetched
mod Buffers
mod Images
mod Entering
mod SoloPins
mod SoloCalls
mod SoloSteps
mod Laid
mod Readying
mod Torn
mod Finishing
mod Fitting
mod Going
mod Finished
mod Resting
mod Calls
mod Beginning
mod Settled
mod Checked
pub mod Mixed
mod OpenLaws
mod Opened
pub mod OpenedStores
