pub mod FlagLaws
pub mod HeldLaws
pub mod WroteLaws
pub mod ResetLaws
pub mod ValueLaws
pub mod DeviceLaws
pub mod StoredLaws
