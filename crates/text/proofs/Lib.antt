pub mod LineLaws
pub mod WordLaws
pub mod NumberLaws
pub mod LimitLaws
pub mod CutLaws
pub mod DecimalLaws
pub mod SameLaws
pub mod WriteLaws
