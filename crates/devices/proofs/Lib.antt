pub mod LimitWordLaws
pub mod SlotLaws
pub mod TableLaws
pub mod WithLaws
pub mod PassLaws
pub mod WithoutLaws
pub mod LineLaws
