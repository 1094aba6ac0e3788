pub mod LineRead
pub mod StateParts
