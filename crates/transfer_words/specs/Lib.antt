pub mod Word
pub mod Spoken
pub mod Saying
pub mod CoreAnswers
