pub mod Hearing
pub mod Message
pub mod PacketType
pub mod Reading
pub mod Spelling
pub mod Steps
pub mod Table
