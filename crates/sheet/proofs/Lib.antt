mod Additions
mod Appending
mod Beginning
mod Choosings
mod Closing
mod FairCopying
mod Logging
mod Marking
mod Passing
mod Present
mod Puttings
mod Queues
mod Selections
mod Settlings
mod Standing
mod Treating
pub mod Whole
