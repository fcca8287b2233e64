mod DrainLemmas
mod FeedLemmas
mod LineLemmas
mod ReadLemmas
mod StepLemmas
