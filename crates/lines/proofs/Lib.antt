pub mod NameLaws
pub mod PairLaws
pub mod RangeLaws
pub mod ValueLaws
pub mod ControlLaws
pub mod BadWordLaws
