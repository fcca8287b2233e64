mod Counts
mod GatherLemmas
mod Growing
mod PumpEnds
mod PumpLemmas
mod Segments
