mod BridgeLemmas
mod StartLemmas
