mod AddFaults
mod CausesByName
mod Looks
