pub mod IndexLaws
pub mod OpenedLaws
pub mod WorkLaws
pub mod SearchLaws
pub mod LooksLaws
pub mod ReadsLaws
pub mod CountLaws
pub mod MappedLaws
