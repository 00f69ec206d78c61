pub mod StateLaws
pub mod PartitionLaws
pub mod AllContextsLaws
