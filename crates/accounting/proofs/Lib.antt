pub mod PagesLaws
pub mod ChargeLaws
pub mod ReleaseLaws
