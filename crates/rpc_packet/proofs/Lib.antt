pub mod ReadingLaws
pub mod SpellingLaws
pub mod Steps
pub mod Tables
