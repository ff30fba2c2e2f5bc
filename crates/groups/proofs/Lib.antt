pub mod MakeLaws
pub mod RemoveLaws
pub mod HandOverLaws
