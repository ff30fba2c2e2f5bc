pub mod PathLaws
pub mod NameLineLaws
pub mod ListingLaws
pub mod ValueTextLaws
pub mod DeviceTextLaws
pub mod DeliveryLaws
