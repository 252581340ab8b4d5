mod PeerSources
mod PortFaults
mod Reached
