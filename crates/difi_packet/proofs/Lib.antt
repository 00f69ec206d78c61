pub mod PacketLaws
pub mod OneSpelling
